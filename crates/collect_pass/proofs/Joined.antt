-- What tracing and the sweep leave stands for the heap after the pass.
use Rattle.std.proofs.Common.{◌≡◌, ℕ, ◌≤◌, ◌↔◌, List, map, get_or, Bool, refl, sym, ◌∙◌, ap, subst, nat_eq}
use Rattle.std.specs.List.{list_any}
use Rattle.heap_terms.specs.declared.cells.Value.{Value}
use Rattle.heap_terms.specs.declared.cells.Value.TheVariants as values
use Rattle.heap_terms.specs.declared.events.PassRecord.{PassRecord}
use Rattle.heap_terms.specs.declared.pages.Entry.{Entry}
use Rattle.heap_terms.specs.Heap.{NamedHeap, zero_value}
use Rattle.heap_terms.specs.Live.{is_live, AreLive}
use Rattle.heap_terms.specs.Passes.{after_pass, remains}
use Rattle.heap_terms.specs.Spelling.{word_of}
use Rattle.pass_laws.proofs.AfterPass.{pass_sound, list_living_after}
use Rattle.pass_laws.specs.Reached.{HasName}
use Rattle.copy_space.specs.Settled.{is_settled, word_now}
use Rattle.copy_space.specs.State.{CopyState}
use Rattle.page_sweep.specs.Swept.{IsSwept}
use Rattle.trace_laws.specs.Ends.{IsEnd}
use Rattle.trace_laws.specs.Rooted.{Rooted, RootsStand, StandFor, IsExactRoot}
use Rattle.trace_laws.specs.Traced.{IsTraced}
use Rattle.collect_pass.proofs.PagesAfter.{pages-after}
use Rattle.collect_pass.proofs.RootsAfter.{map-same, ambiguous-after}
use Rattle.collect_pass.proofs.WordsAfter.{words-after}

live-same : (f g : ℕ → Bool) → ((name : ℕ) → f name ≡ g name) → (v : Value) → is_live f v ≡ is_live g v
live-same f g same (values.Fix n) = refl
live-same f g same values.Nil = refl
live-same f g same values.Unbound = refl
live-same f g same (values.Ref x) = same x

module _ (h : Rooted) (s : CopyState) (exact ambiguous before : List ℕ) (traced : IsTraced h s exact) (roots : RootsStand h before ambiguous) (target : ℕ) (r : PassRecord)
    (end : IsEnd h.heap s target r) (low : target ≤ 6) (words : List ℕ) (pages : List Entry) (freed : List ℕ) (swept : IsSwept h.heap s target words pages freed) where
  abbrev a : NamedHeap
  a = h.heap

  values-live : AreLive (remains a r) h.values
  values-live i = live-same (remains a r) (is_settled a s) end.remains_are (get_or h.values i zero_value) ∙ traced.exact_live i

  exact-after : exact ≡ map (word_of (after_pass a r).objects) h.values
  exact-after = traced.exact_now ∙ map-same (word_now a s) (word_of (after_pass a r).objects) h.values zero_value
      (λ i l. sym (end.words (get_or h.values i zero_value) (traced.exact_live i)))

  names-after : (name : ℕ) → IsExactRoot (after_pass a r) name ↔ HasName h.values name
  unfolding after_pass
  names-after name = roots.exact_names name

  pub roots-after : RootsStand (record { heap = after_pass a r; values = h.values }) exact ambiguous
  roots-after = record {
    exact_are = exact-after;
    living = list_living_after a s.pass.generation target r traced.places.sound end.is_pass h.values roots.living values-live;
    exact_names = names-after;
    hits = λ word high. roots.hits word high
        ∙ ap (list_any (nat_eq word)) (sym (ambiguous-after a s.pass.generation target r traced.places.sound end.is_pass));
  }

  pub stand-after : StandFor (record { heap = after_pass a r; values = h.values }) words pages exact ambiguous
  stand-after = record {
    sound = pass_sound a s.pass.generation target r traced.places.sound end.is_pass (subst (λ (t : ℕ). t ≤ 6) (sym end.is_pass.target) low);
    words_stand = words-after h s exact traced target r end words pages freed swept;
    pages_are = pages-after a s traced.places target r end words pages freed swept;
    roots = roots-after;
  }
