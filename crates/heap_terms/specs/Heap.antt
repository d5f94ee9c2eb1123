-- The named heap: what a script's threads see, with names for objects in place of addresses.
use Rattle.std.specs.Prelude.{ℕ, List, [], map, replicate, Option, Some, None, Bool, true, false, pos, slice_index_or, slice_set}
use Rattle.heap_terms.specs.declared.cells.Value.{Value}
use Rattle.heap_terms.specs.declared.cells.Value.TheVariants as values
use Rattle.heap_terms.specs.declared.pages.Entry.{Entry}
use Rattle.heap_terms.specs.declared.pages.Entry.TheVariants as entries
use Rattle.heap_terms.specs.declared.programs.Program.{Program}
use Rattle.heap_terms.specs.declared.kinds.PageType.{PageType}
use Rattle.heap_terms.specs.declared.kinds.PageType.TheVariants as types
use Rattle.heap_terms.specs.declared.limits.TheConstants.{CELLS, RAW_CELLS}
use Rattle.heap_terms.specs.Objects.{Object}

-- A thread: how many of its commands it has done, its cells s, b and r, its pinned words with the latest
-- last, the generation up to which it owes a collection, its inhibit count, whether it has ended, its open
-- page of each type, and the first page of its open run of two or more pages.
pub record Thread : Type 0 where
  pub done : ℕ
  pub stack : List Value
  pub exact : List Value
  pub raws : List ℕ
  pub pins : List ℕ
  pub owed : Option ℕ
  pub inhibits : ℕ
  pub ended : Bool
  pub cons_page : Option ℕ
  pub boxed_page : Option ℕ
  pub unboxed_page : Option ℕ
  pub open_run : Option ℕ

-- The objects stand under their names, the numbers of their commits; None is one that is gone. Beside
-- them: the pages, the threads, the cells g, the finalizers (object, id) and the queue of ids, for each
-- generation the policy's numbers `cum` and `num`, the words counted for `auto`, and how many commits triggered.
pub record NamedHeap : Type 0 where
  pub objects : List (Option Object)
  pub pages : List Entry
  pub threads : List Thread
  pub shared : List Value
  pub finalizers : List (ℕ × ℕ)
  pub queue : List ℕ
  pub cum : List ℕ
  pub num : List ℕ
  pub counted : ℕ
  pub triggered : ℕ

-- the fixnum 0, with which Lisp cells begin
abbrev pub zero_value : Value
zero_value = values.Fix (pos 0)

-- a thread before its first event
abbrev pub fresh_thread : Thread
fresh_thread = record {
  done = 0;
  stack = replicate CELLS zero_value;
  exact = replicate CELLS zero_value;
  raws = replicate RAW_CELLS 0;
  pins = [];
  owed = None;
  inhibits = 0;
  ended = false;
  cons_page = None;
  boxed_page = None;
  unboxed_page = None;
  open_run = None;
}

-- a thread after its end: its cells are cleared and its regions closed
abbrev pub ended_thread : Thread → Thread
ended_thread th = record fresh_thread { done = th.done; ended = true }

-- the named heap before the first event of a program
unfoldable pub start : Program → NamedHeap
start p = record {
  objects = [];
  pages = replicate p.pages entries.Free;
  threads = map (λ _. fresh_thread) p.threads;
  shared = replicate CELLS zero_value;
  finalizers = [];
  queue = [];
  cum = replicate 7 0;
  num = replicate 7 0;
  counted = 0;
  triggered = 0;
}

-- the thread of a number; a number that no thread has stands for a thread that has ended
abbrev pub thread_at : NamedHeap → ℕ → Thread
thread_at a t = slice_index_or a.threads t (ended_thread fresh_thread)

-- the heap with one thread changed
abbrev pub with_thread : NamedHeap → ℕ → Thread → NamedHeap
with_thread a t th = record a { threads = slice_set a.threads t th }

-- the object of a name, if it is there
abbrev pub object_at : List (Option Object) → ℕ → Option Object
object_at objects name = slice_index_or objects name None

-- the entry of a page; past the last page there is none in use
abbrev pub entry_at : List Entry → ℕ → Entry
entry_at pages page = slice_index_or pages page entries.Free

-- how many words of a page are used
abbrev pub fill_of : Entry → ℕ
fill_of entries.Free = 0
fill_of (entries.Used ty g fill first pages) = fill

-- the thread's open page of a type
abbrev pub open_page : Thread → PageType → Option ℕ
open_page th types.Cons = th.cons_page
open_page th types.Boxed = th.boxed_page
open_page th types.Unboxed = th.unboxed_page

-- the thread with that open page
abbrev pub with_open_page : Thread → PageType → ℕ → Thread
with_open_page th types.Cons page = record th { cons_page = Some page }
with_open_page th types.Boxed page = record th { boxed_page = Some page }
with_open_page th types.Unboxed page = record th { unboxed_page = Some page }
