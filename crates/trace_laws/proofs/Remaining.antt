-- What remains after a pass, by the moves and pins of a record, is what is settled.
use Rattle.std.proofs.Common.{◌≡◌, ℕ, List, Option, Some, None, Bool, nat_eq, inl, inr, refl, sym, ◌∙◌, ap}
use Rattle.std.proofs.lemmas.Bool.{cases_Bool}
use Rattle.std.specs.List.{list_any}
use Rattle.std.specs.Prelude.{◌==◌, ◌||◌, not}
use Rattle.heap_terms.specs.declared.events.PassRecord.{PassRecord}
use Rattle.heap_terms.specs.declared.events.PinAt.{PinAt}
use Rattle.heap_terms.specs.declared.events.Placing.{Placing}
use Rattle.heap_terms.specs.Heap.{NamedHeap, object_at}
use Rattle.heap_terms.specs.Objects.{Object}
use Rattle.heap_terms.specs.Passes.{is_listed_move, is_listed_pin, remains, remains_at}
use Rattle.pass_laws.proofs.Spreading.{is_in}
use Rattle.copy_space.specs.declared.notes.Move.{Move}
use Rattle.copy_space.specs.Marks.{mark_at, is_set}
use Rattle.copy_space.specs.Midway.{IsPlacedSoFar}
use Rattle.copy_space.specs.Moved.{new_of, has_move, mark_for}
use Rattle.copy_space.specs.Settled.{is_settled}
use Rattle.copy_space.specs.State.{CopyState}
use Rattle.copy_space.proofs.Places.{said}
use Rattle.copy_space.proofs.Referents.{ms, its, mark_is, settles-not}
use Rattle.trace_laws.proofs.PinNames.{NamedPins, pin-listed}

-- a mark is set exactly where there is a move or a pin
set-mark : (pins : List ℕ) (moves : List Move) (index : ℕ) → is_set (mark_for pins moves index) ≡ (has_move moves index || list_any (nat_eq index) pins)
set-mark pins moves index = elim (cases_Bool (list_any (nat_eq index) pins)) [
  | inl pin ↦ rw pin (elim (cases_Bool (has_move moves index)) [ inl has ↦ rw has refl | inr none ↦ rw none refl ])
  | inr free ↦ rw free (elim (cases_Bool (has_move moves index)) [
    | inl has ↦ rw has (elim (cases_Bool (new_of moves index == index)) [ inl stay ↦ rw stay refl | inr gone ↦ rw gone refl ])
    | inr none ↦ rw none refl
  ])
]

-- a record of a pass that has these moves and pins
pub record HasMovesAndPins (a : NamedHeap) (s : CopyState) (moves : List Placing) (pins : List PinAt) (r : PassRecord) : Type 0 where
  pub generation : r.generation ≡ s.pass.generation
  pub moves_are : r.moves ≡ moves
  pub pins_are : r.pins ≡ pins

module _ (a : NamedHeap) (s : CopyState) (p : IsPlacedSoFar a s) (n : NamedPins a s.pass.generation s.pins) (r : PassRecord)
    (h : HasMovesAndPins a s (ms a s p) n.pins r) where
  -- an object that is there has its mark set exactly where the record lists it
  listed-set : (x : ℕ) (o : Object) → object_at a.objects x ≡ Some o → (is_listed_move r x || is_listed_pin r x) ≡ is_set (mark_at s.marks o.place)
  listed-set x o e =
      let moved : is_listed_move r x ≡ has_move s.moves o.place = ap (λ (xs : List Placing). is_in xs x) h.moves_are ∙ sym (said a s (ms a s p) p.sound (its a s p) x o e).1 in
      let pinned : is_listed_pin r x ≡ list_any (nat_eq o.place) s.pins =
      ap (λ (qs : List PinAt). list_any (λ (q : PinAt). q.name == x) qs) h.pins_are ∙ pin-listed a s.pass.generation p.sound n.pins n.each x o e ∙ ap (list_any (nat_eq o.place)) (sym n.indices) in
      ap (λ (b : Bool). b || is_listed_pin r x) moved ∙ ap (λ (b : Bool). has_move s.moves o.place || b) pinned ∙ sym (ap is_set (mark_is a s p x o e) ∙ set-mark s.pins s.moves o.place)

  pub remains-settled : (name : ℕ) → remains a r name ≡ is_settled a s name
  remains-settled name = go (object_at a.objects name) refl
    where
      go : (q : Option Object) → object_at a.objects name ≡ q → remains a r name ≡ is_settled a s name
      go None e = rw e refl
      go (Some o) e = ap (remains_at r name) e ∙ ap (λ (g : ℕ). not (o.generation == g) || (is_listed_move r name || is_listed_pin r name)) h.generation
          ∙ ap (λ (b : Bool). not (o.generation == s.pass.generation) || b) (listed-set name o e) ∙ sym (settles-not a s p name o e)
