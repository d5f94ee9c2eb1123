-- At the end of tracing what is settled is closed, and every closed set has it.
use Rattle.std.proofs.Common.{◌≡◌, ◌≢◌, ℕ, suc, ◌+◌, ◌-◌, ◌<◌, ◌↔◌, List, [], ◌∷◌, ◌++◌, map, length, replicate, get_or, Option, Some, None, Bool, true, false, inl, inr, refl, sym, ◌∙◌, ap, arith, length-append}
use Rattle.std.proofs.lemmas.Bool.{cases_lt, cases_eq, or_right, and_from, false≢true, eq-eqb, ne_eqb}
use Rattle.std.proofs.lemmas.List.{get_or-map, length-map, get_or_past, get_or_append_left}
use Rattle.std.proofs.lemmas.Option.{slice_get-get_or}
use Rattle.std.specs.List.{list_any}
use Rattle.std.specs.Prelude.{◌==◌, not, slice_get}
use Rattle.heap_terms.specs.declared.cells.Value.{Value}
use Rattle.heap_terms.specs.declared.cells.Value.TheVariants as values
use Rattle.heap_terms.specs.declared.kinds.Kind.{Kind}
use Rattle.heap_terms.specs.declared.kinds.Kind.TheVariants as kinds
use Rattle.heap_terms.specs.Generations.{is_of, has_generation}
use Rattle.heap_terms.specs.Heap.{object_at, thread_at, zero_value}
use Rattle.heap_terms.specs.Layout.{size_with_header}
use Rattle.heap_terms.specs.Live.{is_live, AreLive, Keeps, IsClosed, AreLiveNames}
use Rattle.heap_terms.specs.Objects.{Object, Contents, ConsOf, VectorOf, InstanceOf, ClosureOf, WordsOf, WeakTo, TableOf}
use Rattle.heap_terms.specs.Roots.{is_hit, is_pinned, ambiguous_words, hits}
use Rattle.heap_terms.specs.Slots.{Slot, Raw, Val, under_header, slot_at}
use Rattle.pass_laws.specs.Reached.{HasName}
use Rattle.copy_space.specs.declared.marks.Mark.TheVariants as marks
use Rattle.copy_space.specs.Marks.{mark_at, is_set}
use Rattle.copy_space.specs.Midway.{IsPlacedSoFar}
use Rattle.copy_space.specs.Settled.{is_settled}
use Rattle.copy_space.specs.State.{CopyState}
use Rattle.copy_space.proofs.Referents.{mark_is, settles-not}
use Rattle.trace_laws.specs.Rooted.{Rooted, IsExactRoot}
use Rattle.trace_laws.specs.Traced.{IsTraced}

module _ (h : Rooted) (s : CopyState) (exact : List ℕ) (names_are : (name : ℕ) → IsExactRoot h.heap name ↔ HasName h.values name) (t : IsTraced h s exact) where
  abbrev p : IsPlacedSoFar h.heap s
  p = t.places

  -- cells of exact roots have settled values
  cells : (vs : List Value) → ((name : ℕ) → HasName vs name → IsExactRoot h.heap name) → AreLive (is_settled h.heap s) vs
  cells vs roots i = go (get_or vs i zero_value) refl
    where
      go : (v : Value) → get_or vs i zero_value ≡ v → is_live (is_settled h.heap s) v ≡ true
      go (values.Fix n) e = refl
      go values.Nil e = refl
      go values.Unbound e = refl
      go (values.Ref x) e =
          let has = (names_are x).0 (roots x (i, e)) in
          ap (is_live (is_settled h.heap s)) (sym has.1) ∙ t.exact_live has.0

  others_settled : (name : ℕ) (o : Object) → object_at h.heap.objects name ≡ Some o → o.generation ≢ s.pass.generation → is_settled h.heap s name ≡ true
  others_settled name o e apart = (let other = ne_eqb o.generation s.pass.generation apart in settles-not h.heap s p name o e ∙ rw other refl)

  pinned_settled : (name : ℕ) (o : Object) → object_at h.heap.objects name ≡ Some o → is_pinned h.heap s.pass.generation name ≡ true → is_settled h.heap s name ≡ true
  pinned_settled name o e pinned =
      let pin = t.pins.all name o e pinned in
      let mark : mark_at s.marks o.place ≡ marks.Pinned = mark_is h.heap s p name o e ∙ rw pin refl in
      settles-not h.heap s p name o e ∙ or_right (not (o.generation == s.pass.generation)) _ (ap is_set mark)

  hit_settled : (name : ℕ) → is_hit h.heap name ≡ true → is_settled h.heap s name ≡ true
  hit_settled name hit = go (object_at h.heap.objects name) refl
    where
      no_hits : (ws : List ℕ) → list_any (λ (_ : ℕ). false) ws ≡ true → ⊥
      no_hits [] f = false≢true f
      no_hits (w ∷ ws) f = no_hits ws f

      go : (q : Option Object) → object_at h.heap.objects name ≡ q → is_settled h.heap s name ≡ true
      go None e = absurd (no_hits (ambiguous_words h.heap) (ap (λ (q : Option Object). list_any (hits q) (ambiguous_words h.heap)) (sym e) ∙ hit))
      go (Some o) e = elim (cases_eq o.generation s.pass.generation) [
        | inr apart ↦ others_settled name o e apart
        | inl same ↦ pinned_settled name o e
            (and_from (is_of h.heap s.pass.generation name) (is_hit h.heap name) (ap (has_generation s.pass.generation) e ∙ eq-eqb o.generation s.pass.generation same) hit)
      ]

  pub settled-closed : IsClosed h.heap s.pass.generation (is_settled h.heap s)
  settled-closed = record {
    others = others_settled;
    exact = λ u. cells (thread_at h.heap u).exact (λ name has. inl (u, has));
    shared = cells h.heap.shared (λ name has. inr has);
    hit = hit_settled;
    members = t.keeps;
  }

  pub settled-live : AreLiveNames h.heap s.pass.generation (is_settled h.heap s)
  settled-live = record { closed = settled-closed; least = t.least }
