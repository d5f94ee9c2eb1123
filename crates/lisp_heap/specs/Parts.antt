-- What a World keeps beside its program and its history.
use Rattle.std.specs.Prelude.{ℕ, ◌*◌, List, [], length, replicate}
use Rattle.heap_terms.specs.declared.pages.Entry.{Entry}
use Rattle.heap_terms.specs.declared.pages.Entry.TheVariants as entries
use Rattle.heap_terms.specs.declared.programs.Program.{Program}
use Rattle.heap_terms.specs.Layout.{page_words}
use Rattle.finalizers.specs.Lists.{Lists}
use Rattle.generation_policy.specs.Numbers.{fresh_stats}
use Rattle.generation_policy.specs.declared.stats.GenStats.{GenStats}
use Rattle.lisp_heap.specs.CellsView.{CellsView, zero_cells}
use Rattle.lisp_heap.specs.State.{fresh_state}
use Rattle.lisp_heap.specs.declared.states.ThreadState.{ThreadState}

-- how many double words a page has, each of which has a label
abbrev pub page_labels : ℕ
page_labels = 256

-- The words of the space, the entry of each page, the label of each double word, the words in the cells, of each
-- thread its place in its script, what it owes and its open regions, the pins of each thread, how many objects were
-- committed, the policy's numbers, for `auto` how many words were counted and how many commits asked for a collection, and
-- the finalizers with their queue.
pub record Parts : Type 0 where
  pub words : List ℕ
  pub pages : List Entry
  pub labels : List ℕ
  pub cells : CellsView
  pub states : List ThreadState
  pub pins : List (List ℕ)
  pub commits : ℕ
  pub stats : GenStats
  pub counted : ℕ
  pub triggered : ℕ
  pub finalizers : Lists

-- before the first event: every word, label, cell and number is 0, every page is free, no thread has done anything, and
-- nothing is pinned or finalized
abbrev pub fresh_parts : Program → Parts
fresh_parts p = record {
  words = replicate (page_words * p.pages) 0;
  pages = replicate p.pages entries.Free;
  labels = replicate (page_labels * p.pages) 0;
  cells = zero_cells (length p.threads);
  states = replicate (length p.threads) fresh_state;
  pins = replicate (length p.threads) [];
  commits = 0;
  stats = fresh_stats;
  counted = 0;
  triggered = 0;
  finalizers = record { registered = []; queue = [] };
}
