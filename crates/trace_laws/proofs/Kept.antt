-- How many names remain of the generation: as many as there are pins and moves.
use Rattle.std.proofs.Common.{◌≡◌, ℕ, ◌+◌, ◌<◌, List, [], ◌∷◌, map, length, get_or, Option, Some, None, Bool, true, false, nat_eq, refl, sym, ◌∙◌, subst, ap, arith}
use Rattle.std.proofs.lemmas.Bool.{and_parts, false≢true, eqb-true}
use Rattle.std.proofs.lemmas.List.{length-map}
use Rattle.std.proofs.lemmas.List.Elements.{All-map}
use Rattle.std.specs.List.{list_any}
use Rattle.std.specs.Prelude.{◌==◌, ◌||◌, ◌&&◌, not, count_by}
use Rattle.heap_terms.specs.declared.events.PassRecord.{PassRecord}
use Rattle.heap_terms.specs.declared.events.PinAt.{PinAt}
use Rattle.heap_terms.specs.declared.events.Placing.{Placing}
use Rattle.heap_terms.specs.Generations.{is_of, has_generation, names}
use Rattle.heap_terms.specs.Heap.{NamedHeap, object_at}
use Rattle.heap_terms.specs.Objects.{Object}
use Rattle.heap_terms.specs.Passes.{ArePins, is_listed_move, is_listed_pin, remains, remains_at, kept_of, dead_of}
use Rattle.heap_terms.specs.Roots.{is_pinned, is_hit}
use Rattle.pass_laws.proofs.LiveNames.{object_below}
use Rattle.pass_laws.proofs.Lookups.{found_at}
use Rattle.pass_laws.proofs.PassExists.{placement-names}
use Rattle.pass_laws.proofs.PinLists.{pinned_there}
use Rattle.pass_laws.proofs.Spreading.{is_in}
use Rattle.copy_space.specs.Midway.{IsPlacedSoFar}
use Rattle.copy_space.specs.Moved.{noted}
use Rattle.copy_space.specs.State.{CopyState}
use Rattle.copy_space.proofs.Places.{said}
use Rattle.copy_space.proofs.Referents.{ms, its, met_of, there-of, pinned_unmoved}
use Rattle.pass_laws.proofs.Counting.{count-same, count-parts, count-listed}
use Rattle.trace_laws.proofs.PinNames.{pin_index, NamedPins, pin-listed, names-distinct}
use Rattle.trace_laws.proofs.Remaining.{HasMovesAndPins}

any-map : {X : Type 0} (p : ℕ → Bool) (f : X → ℕ) (xs : List X) → list_any (λ x. p (f x)) xs ≡ list_any p (map f xs)
any-map p f [] = refl
any-map p f (x ∷ xs) = ap (λ (b : Bool). p (f x) || b) (any-map p f xs)

-- what remains of the generation is moved or pinned, and not both
parts : (young rem moved pinned : Bool) → (young ≡ true → rem ≡ (moved || pinned)) → (moved ≡ true → young ≡ true) → (pinned ≡ true → young ≡ true) → (pinned ≡ true → moved ≡ false) →
    (((young && rem) && not pinned) ≡ moved) × (((young && rem) && pinned) ≡ pinned)
parts true rem true true is m q apart = absurd (false≢true (sym (apart refl)))
parts true rem true false is m q apart = rw (is refl) (refl, refl)
parts true rem false true is m q apart = rw (is refl) (refl, refl)
parts true rem false false is m q apart = rw (is refl) (refl, refl)
parts false rem true pinned is m q apart = absurd (false≢true (m refl))
parts false rem false true is m q apart = absurd (false≢true (q refl))
parts false rem false false is m q apart = (refl, refl)

abbrev pin_name : PinAt → ℕ
pin_name q = q.name

abbrev move_name : Placing → ℕ
move_name m = m.name

module _ (a : NamedHeap) (s : CopyState) (p : IsPlacedSoFar a s) (n : NamedPins a s.pass.generation s.pins) (are : ArePins a s.pass.generation n.pins) (r : PassRecord)
    (h : HasMovesAndPins a s (ms a s p) n.pins r) where
  abbrev is_pin : ℕ → Bool
  is_pin x = list_any (λ (q : PinAt). q.name == x) n.pins

  pin-there : (x : ℕ) → is_pin x ≡ true → is_pinned a s.pass.generation x ≡ true
  pin-there x e =
      let found = found_at (λ (q : PinAt). q.name == x) n.pins e in
      let d : PinAt = record { name = 0; index = 0 } in
      subst (λ (y : ℕ). is_pinned a s.pass.generation y ≡ true) (eqb-true (get_or n.pins found.0 d).name x (found.2 d)) (n.each found.0 d found.1).3

  pin-unmoved : (x : ℕ) → is_pin x ≡ true → is_in (ms a s p) x ≡ false
  pin-unmoved x e =
      let there = pinned_there a s.pass.generation x (pin-there x e) in
      let pinned : list_any (nat_eq there.0.place) s.pins ≡ true =
      ap (list_any (nat_eq there.0.place)) n.indices ∙ sym (pin-listed a s.pass.generation p.sound n.pins n.each x there.0 there.1) ∙ e in
      sym (said a s (ms a s p) p.sound (its a s p) x there.0 there.1).1 ∙ pinned_unmoved a s p there.0.place pinned

  remains-listed : (x : ℕ) → is_of a s.pass.generation x ≡ true → remains a r x ≡ (is_in (ms a s p) x || is_pin x)
  remains-listed x = go (object_at a.objects x) refl
    where
      go : (q : Option Object) → object_at a.objects x ≡ q → is_of a s.pass.generation x ≡ true → remains a r x ≡ (is_in (ms a s p) x || is_pin x)
      go None e young = absurd (false≢true (ap (has_generation s.pass.generation) (sym e) ∙ young))
      go (Some o) e young =
          let of_it : (o.generation == s.pass.generation) ≡ true = ap (has_generation s.pass.generation) (sym e) ∙ young in
          ap (remains_at r x) e ∙ ap (λ (g : ℕ). not (o.generation == g) || (is_listed_move r x || is_listed_pin r x)) h.generation
          ∙ ap (λ (b : Bool). not b || (is_listed_move r x || is_listed_pin r x)) of_it
          ∙ ap (λ (xs : List Placing). is_in xs x || is_listed_pin r x) h.moves_are ∙ ap (λ (qs : List PinAt). is_in (ms a s p) x || list_any (λ (q : PinAt). q.name == x) qs) h.pins_are

  both : (x : ℕ) → (((is_of a s.pass.generation x && remains a r x) && not (is_pin x)) ≡ is_in (ms a s p) x) × (((is_of a s.pass.generation x && remains a r x) && is_pin x) ≡ is_pin x)
  both x = parts (is_of a s.pass.generation x) (remains a r x) (is_in (ms a s p) x) (is_pin x)
      (remains-listed x) (met_of a s p x) (λ e. (and_parts (is_of a s.pass.generation x) (is_hit a x) (pin-there x e)).0) (pin-unmoved x)

  moves-named : map move_name (ms a s p) ≡ p.order
  moves-named = placement-names a p.order (λ i l. there-of a s.pass.generation (get_or p.order i 0) (p.met i 0 l))

  below-of : (x : ℕ) → is_of a s.pass.generation x ≡ true → x < length a.objects
  below-of x young = go (object_at a.objects x) refl
    where
      go : (q : Option Object) → object_at a.objects x ≡ q → x < length a.objects
      go None e = absurd (false≢true (ap (has_generation s.pass.generation) (sym e) ∙ young))
      go (Some o) e = object_below a.objects x o e

  count-moves : count_by (is_in (ms a s p)) (names a) ≡ length s.moves
  count-moves =
      count-same (is_in (ms a s p)) (λ x. list_any (λ y. y == x) p.order) (names a)
      (λ x. any-map (λ y. y == x) move_name (ms a s p) ∙ ap (list_any (λ y. y == x)) moves-named)
      ∙ count-listed p.order (length a.objects) p.once (λ i d l. below-of (get_or p.order i d) (p.met i d l))
      ∙ ap length (sym moves-named) ∙ length-map (ms a s p) move_name ∙ sym (length-map (ms a s p) noted) ∙ ap length (sym (its a s p).moves_are)

  count-pins : count_by is_pin (names a) ≡ length s.pins
  count-pins =
      count-same is_pin (λ x. list_any (λ y. y == x) (map pin_name n.pins)) (names a) (λ x. any-map (λ y. y == x) pin_name n.pins)
      ∙ count-listed (map pin_name n.pins) (length a.objects) (names-distinct a s.pass.generation n.pins are)
      (All-map (λ x. x < length a.objects) pin_name n.pins (λ i d l. (let q = n.each i d l in object_below a.objects (get_or n.pins i d).name q.0 q.1)))
      ∙ length-map n.pins pin_name ∙ sym (length-map n.pins pin_index) ∙ ap length (sym n.indices)

  pub kept-is : kept_of a r ≡ length s.pins + length s.moves
  kept-is =
      let young : count_by (λ x. is_of a r.generation x && remains a r x) (names a) ≡ count_by (λ x. is_of a s.pass.generation x && remains a r x) (names a) =
      ap (λ (g : ℕ). count_by (λ x. is_of a g x && remains a r x) (names a)) h.generation in
      let split = count-parts (λ x. is_of a s.pass.generation x && remains a r x) is_pin (names a) in
      let moved = count-same (λ x. (is_of a s.pass.generation x && remains a r x) && not (is_pin x)) (is_in (ms a s p)) (names a) (λ x. (both x).0) in
      let pinned = count-same (λ x. (is_of a s.pass.generation x && remains a r x) && is_pin x) is_pin (names a) (λ x. (both x).1) in
      let moves = count-moves in
      let pins = count-pins in
      omega (arith, young, split, moved, pinned, moves, pins)

  pub dead-is : dead_of a r + kept_of a r ≡ count_by (is_of a s.pass.generation) (names a)
  dead-is = count-parts (is_of a r.generation) (remains a r) (names a) ∙ ap (λ (g : ℕ). count_by (is_of a g) (names a)) h.generation
