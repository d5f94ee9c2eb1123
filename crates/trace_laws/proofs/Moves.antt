-- The moves of a record at the end of tracing: each of an object that may move, once, away from its place.
use Rattle.std.proofs.Common.{◌≡◌, ◌≢◌, ℕ, zero, suc, ◌<◌, List, [], ◌∷◌, map, length, get_or, Option, Some, true, false, inl, inr, refl, sym, ◌∙◌, ap, arith}
use Rattle.std.proofs.lemmas.Bool.{cases_Bool, false≢true, eq-eqb, ne_eqb}
use Rattle.std.proofs.lemmas.List.{get_or-map, length-map}
use Rattle.std.proofs.lemmas.List.Folds.{list_any_at}
use Rattle.std.specs.Prelude.{All, AllPairs, ◌==◌}
use Rattle.heap_terms.specs.declared.events.Placing.{Placing}
use Rattle.heap_terms.specs.Generations.{is_of}
use Rattle.heap_terms.specs.Heap.{NamedHeap, object_at}
use Rattle.heap_terms.specs.Objects.{Object}
use Rattle.heap_terms.specs.Passes.{moved_to}
use Rattle.heap_terms.specs.Roots.{is_pinned}
use Rattle.pass_laws.specs.Spread.{settled}
use Rattle.pass_laws.proofs.PassExists.{placement-names}
use Rattle.pass_laws.proofs.PinLists.{pinned_there}
use Rattle.pass_laws.proofs.Sizes.{words_least}
use Rattle.pass_laws.proofs.Spreading.{is_in}
use Rattle.copy_space.specs.Midway.{IsPlacedSoFar}
use Rattle.copy_space.specs.Moved.{new_of}
use Rattle.copy_space.specs.State.{CopyState}
use Rattle.copy_space.proofs.Places.{said, moved_away}
use Rattle.copy_space.proofs.Referents.{ms, its, met_of, there-of, pinned_unmoved}
use Rattle.trace_laws.specs.Noted.{IsMoveOf}
use Rattle.trace_laws.specs.Traced.{ArePinnedStarts}

abbrev move_name : Placing → ℕ
move_name m = m.name

-- where names are distinct, a list of moves puts a name where its own entry says
first-hit : (xs : List Placing) (k : ℕ) (d : Placing) → k < length xs → ((i j : ℕ) → i < j → j < length xs → (get_or xs i d).name ≢ (get_or xs j d).name) →
    moved_to xs (get_or xs k d).name ≡ (get_or xs k d).new
first-hit [] k d l apart = absurd (omega (arith, l))
first-hit (m ∷ rest) zero d l apart = (let same : (m.name == m.name) ≡ true = eq-eqb m.name m.name refl in rw same refl)
first-hit (m ∷ rest) (suc k) d l apart =
    let other : (m.name == (get_or rest k d).name) ≡ false = ne_eqb m.name (get_or rest k d).name (apart 0 (suc k) (omega arith) l) in
    rw other (first-hit rest k d (omega arith) (λ i j m n. apart (suc i) (suc j) (omega arith) (omega arith)))

module _ (a : NamedHeap) (s : CopyState) (p : IsPlacedSoFar a s) where
  pub moves-named : map move_name (ms a s p) ≡ p.order
  moves-named = placement-names a p.order (λ i l. there-of a s.pass.generation (get_or p.order i 0) (p.met i 0 l))

  pub moves-once : AllPairs (λ (m n : Placing). m.name ≢ n.name) (ms a s p)
  moves-once i j d l m =
      let long : length p.order ≡ length (ms a s p) = ap length (sym moves-named) ∙ length-map (ms a s p) move_name in
      let at_i : get_or p.order i 0 ≡ (get_or (ms a s p) i d).name = ap (λ (xs : List ℕ). get_or xs i 0) (sym moves-named) ∙ get_or-map move_name (ms a s p) i d 0 (omega arith) in
      let at_j : get_or p.order j 0 ≡ (get_or (ms a s p) j d).name = ap (λ (xs : List ℕ). get_or xs j 0) (sym moves-named) ∙ get_or-map move_name (ms a s p) j d 0 m in
      λ same. p.once i j 0 l (omega arith) (at_i ∙ same ∙ sym at_j)

  in-moves : (k : ℕ) (d : Placing) → k < length (ms a s p) → is_in (ms a s p) (get_or (ms a s p) k d).name ≡ true
  in-moves k d l = list_any_at (λ (n : Placing). n.name == (get_or (ms a s p) k d).name) (ms a s p) k d l (eq-eqb (get_or (ms a s p) k d).name (get_or (ms a s p) k d).name refl)

  pub moves-movable : ArePinnedStarts a s.pass.generation s.pins →
      All (λ (m : Placing). (is_of a s.pass.generation m.name ≡ true) × (is_pinned a s.pass.generation m.name ≡ false)) (ms a s p)
  moves-movable pins k d l = (met_of a s p (get_or (ms a s p) k d).name (in-moves k d l), free (get_or (ms a s p) k d).name (in-moves k d l))
    where
      free : (x : ℕ) → is_in (ms a s p) x ≡ true → is_pinned a s.pass.generation x ≡ false
      free x e = elim (cases_Bool (is_pinned a s.pass.generation x)) [
        | inr none ↦ none
        | inl pinned ↦ (let there = pinned_there a s.pass.generation x pinned in
            let unmoved = pinned_unmoved a s p there.0.place (pins.all x there.0 there.1 pinned) in
            absurd (false≢true (sym unmoved ∙ (said a s (ms a s p) p.sound (its a s p) x there.0 there.1).1 ∙ e)))
      ]

  pub moves-of : All (IsMoveOf a) (ms a s p)
  moves-of k d l =
      let it = (its a s p).placing.olds k d l in
      record { o = it.0; there = it.1; old = it.2; away = away it.0 it.1 it.2 }
    where
      away : (o : Object) → object_at a.objects (get_or (ms a s p) k d).name ≡ Some o → (get_or (ms a s p) k d).old ≡ o.place →
          (get_or (ms a s p) k d).new ≢ Some (get_or (ms a s p) k d).old
      away o there old same =
          let to : moved_to (ms a s p) (get_or (ms a s p) k d).name ≡ Some (get_or (ms a s p) k d).old =
          first-hit (ms a s p) k d l (λ i j b c. moves-once i j d b c) ∙ same in
          let here : new_of s.moves o.place ≡ (get_or (ms a s p) k d).old =
          (said a s (ms a s p) p.sound (its a s p) (get_or (ms a s p) k d).name o there).0 ∙ ap (λ (t : Option ℕ). (settled t o).place) to in
          let least = words_least o in
          elim (moved_away a s (ms a s p) p.sound (its a s p) (get_or (ms a s p) k d).name (get_or (ms a s p) k d).name (get_or (ms a s p) k d).old o o there there to) [
            | inl below ↦ omega arith
            | inr above ↦ omega arith
          ]
