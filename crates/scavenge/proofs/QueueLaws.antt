-- The queue: the pins and then the moves. Each is an object that is settled and lies where the queue says; what is scanned of
-- it stays scanned; and when all of it is scanned, so is each settled object of the generation.
use Rattle.std.proofs.Common.{◌≡◌, ℕ, zero, suc, ◌+◌, ◌*◌, ◌<◌, ◌≤◌, List, [], ◌∷◌, ◌++◌, length, get_or, Some, true, nat_eq, inl, inr, refl, sym, ◌∙◌, ap, subst, arith}
use Rattle.std.proofs.lemmas.Bool.{cases_lt, cases_Bool, eq-eqb, eqb-true, false≢true, or_right}
use Rattle.std.proofs.lemmas.List.{length-append}
use Rattle.std.proofs.lemmas.List.Folds.{list_any_at}
use Rattle.std.proofs.lemmas.Option.{slice_get_within, slice_get-get_or, get_or_from_slice_get}
use Rattle.std.proofs.lemmas.List.Sums.{count_by-le-length}
use Rattle.std.specs.List.{list_any}
use Rattle.std.specs.Prelude.{slice_get, slice_index, not, ◌||◌, ◌==◌}
use Rattle.heap_terms.specs.Heap.{NamedHeap, object_at}
use Rattle.heap_terms.specs.Objects.{Object}
use Rattle.pass_laws.proofs.Lookups.{found_at}
use Rattle.copy_space.specs.declared.notes.Move.{Move}
use Rattle.copy_space.specs.Frames.{Follows}
use Rattle.copy_space.specs.Marks.{mark_at, is_set}
use Rattle.copy_space.specs.Midway.{Midway}
use Rattle.copy_space.specs.Moved.{new_of, has_move, mark_for}
use Rattle.copy_space.specs.Settled.{is_settled}
use Rattle.copy_space.specs.State.{CopyState}
use Rattle.copy_space.proofs.Listed.{IsMoveNow, move-is}
use Rattle.copy_space.proofs.Names.{same_name, new_of-none}
use Rattle.copy_space.proofs.Referents.{mark_is, pinned_unmoved, settles-not}
use Rattle.scavenge.specs.declared.queue.Scanned.{Scanned}
use Rattle.scavenge.specs.Fields.{CanScanObject, IsObjectScanned}
use Rattle.scavenge.specs.Noting.{HasAll}
use Rattle.scavenge.specs.Scanning.{AreScanned, IsAllScanned, AllOfGenerationScanned}
use Rattle.scavenge.proofs.NotedStarts.{done-later}

-- an object of the queue: it is settled, and this is where it is
pub record IsQueued (a : NamedHeap) (s : CopyState) (name : ℕ) (o : Object) (index : ℕ) : Type 0 where
  pub settled : is_settled a s name ≡ true
  pub here : new_of s.moves o.place ≡ index

pinned_set : (pins : List ℕ) (moves : List Move) (index : ℕ) → list_any (nat_eq index) pins ≡ true → is_set (mark_for pins moves index) ≡ true
pinned_set pins moves index pin = rw pin refl

pub pinned : (a : NamedHeap) (s : CopyState) → Midway a s → (k name : ℕ) (o : Object) → k < length s.pins → object_at a.objects name ≡ Some o →
    o.place ≡ slice_index s.pins k → IsQueued a s name o (slice_index s.pins k)
pinned a s h k name o l there here =
    let pin : list_any (nat_eq o.place) s.pins ≡ true = list_any_at (nat_eq o.place) s.pins k 0 l (eq-eqb o.place (get_or s.pins k 0) here) in
    let set : is_set (mark_at s.marks o.place) ≡ true = ap is_set (mark_is a s h.places name o there) ∙ pinned_set s.pins s.moves o.place pin in
    record {
      settled = settles-not a s h.places name o there ∙ or_right (not (o.generation == s.pass.generation)) _ set;
      here = new_of-none s.moves o.place (pinned_unmoved a s h.places o.place pin) ∙ here;
    }

pub moved : (a : NamedHeap) (s : CopyState) → Midway a s → (k name : ℕ) (o : Object) (m : Move) → slice_get s.moves k ≡ Some m → object_at a.objects name ≡ Some o →
    o.place ≡ m.old → IsQueued a s name o m.new
moved a s h k name o m at there old =
    let l = slice_get_within s.moves k m at in
    let is : get_or s.moves k m ≡ m = get_or_from_slice_get s.moves k m m at in
    let move : IsMoveNow a s m = subst (λ (n : Move). IsMoveNow a s n) is (move-is a s h.places k m l) in
    let same : move.name ≡ name = same_name a h.places.sound move.name name move.o o move.there there (move.old ∙ sym old) in
    record {
      settled = subst (λ (x : ℕ). is_settled a s x ≡ true) same move.is_settled;
      here = ap (λ (p : ℕ). new_of s.moves p) (old ∙ sym move.old) ∙ move.new;
    }

-- so it can be scanned
pub pin-can : (a : NamedHeap) (s : CopyState) (k : ℕ) → Midway a s → k < length s.pins → CanScanObject a s (slice_index s.pins k)
pin-can a s k h l =
    let start = h.places.pins k 0 l in
    let queued = pinned a s h k start.0 start.1.o l start.1.there start.1.here in
    record { midway = h; at = record { name = start.0; o = start.1.o; there = start.1.there; settled = queued.settled; here = queued.here } }

pub move-can : (a : NamedHeap) (s : CopyState) (k : ℕ) (d : Move) → Midway a s → k < length s.moves → CanScanObject a s (get_or s.moves k d).new
move-can a s k d h l =
    let move = move-is a s h.places k d l in
    record { midway = h; at = record { name = move.name; o = move.o; there = move.there; settled = move.is_settled; here = move.new } }

-- the moves so far are still there
get-front : (xs more : List Move) (k : ℕ) (m : Move) → k < length xs → slice_get (xs ++ more) k ≡ Some m → slice_get xs k ≡ Some m
get-front [] more k m l e = absurd (omega (arith, l))
get-front (x ∷ xs) more zero m l e = e
get-front (x ∷ xs) more (suc k) m l e = get-front xs more k m (omega (arith, l)) e

module _ (a : NamedHeap) (s t : CopyState) (noted more : List ℕ) (done : Scanned) (h : Midway a s) (f : Follows a s t) (all : HasAll noted more) (d : AreScanned a s noted done) where
  pins_same : t.pins ≡ s.pins
  pins_same = f.grows.pins

  more_moves : length s.moves ≤ length t.moves
  more_moves = (let long = ap length f.grows.moves in let both = length-append s.moves f.grows.more in omega arith)

  at_front : (k : ℕ) (m : Move) → k < length s.moves → slice_get t.moves k ≡ Some m → slice_get s.moves k ≡ Some m
  at_front k m l at = get-front s.moves f.grows.more k m l (ap (λ (ms : List Move). slice_get ms k) (sym f.grows.moves) ∙ at)

  -- what was scanned stays scanned, also by the steps of other layers
  pub scanned-on : AreScanned a t more done
  scanned-on = record {
    pins_most = (let most = d.pins_most in let same = ap length pins_same in omega arith);
    moves_most = (let most = d.moves_most in let longer = more_moves in omega arith);
    pins = λ k name o l there here.
        (let most = d.pins_most in
        let here_before : o.place ≡ slice_index s.pins k = here ∙ ap (λ (ps : List ℕ). slice_index ps k) pins_same in
        let queued = pinned a s h k name o (omega arith) there here_before in
        done-later a s t noted more f all name o there queued.settled (d.pins k name o l there here_before));
    moves = λ k name o m l at there of_it old.
        (let most = d.moves_most in
        let before = at_front k m (omega arith) at in
        let queued = moved a s h k name o m before there old in
        let of_it_before : o.generation ≡ s.pass.generation = of_it ∙ ap (λ p. p.generation) f.grows.pass in
        done-later a s t noted more f all name o there queued.settled (d.moves k name o m l before there of_it_before old));
  }

  -- one pin more
  pub pin-scanned : (next : Scanned) → next.pins ≡ done.pins + 1 → next.moves ≡ done.moves → done.pins < length s.pins →
      IsObjectScanned a s t more (slice_index s.pins done.pins) → AreScanned a t more next
  pin-scanned next pins_are moves_are inside one =
      let on = scanned-on in
      record {
        pins_most = (let same = ap length pins_same in omega arith);
        moves_most = (let most = on.moves_most in omega arith);
        pins = λ k name o l there here. (elim (cases_lt k done.pins) [
          | inl below ↦ on.pins k name o below there here
          | inr above ↦ (let is : k ≡ done.pins = omega arith in
              let here_before : o.place ≡ slice_index s.pins done.pins = here ∙ ap (λ (ps : List ℕ). slice_index ps k) pins_same ∙ ap (λ (i : ℕ). slice_index s.pins i) is in
              let queued = pinned a s h done.pins name o inside there here_before in
              one name o there queued.settled queued.here)
        ]);
        moves = λ k name o m l at there of_it old. on.moves k name o m (omega arith) at there of_it old;
      }

  -- one move more
  pub move-scanned : (next : Scanned) (d : Move) → next.pins ≡ done.pins → next.moves ≡ done.moves + 1 → done.moves < length s.moves →
      IsObjectScanned a s t more (get_or s.moves done.moves d).new → AreScanned a t more next
  move-scanned next d pins_are moves_are inside one =
      let on = scanned-on in
      record {
        pins_most = (let most = on.pins_most in omega arith);
        moves_most = (let longer = more_moves in omega arith);
        pins = λ k name o l there here. on.pins k name o (omega arith) there here;
        moves = λ k name o m l at there of_it old. (elim (cases_lt k done.moves) [
          | inl below ↦ on.moves k name o m below at there of_it old
          | inr above ↦ (let is : k ≡ done.moves = omega arith in
              let before = at_front k m (omega arith) at in
              let queued = moved a s h k name o m before there old in
              let move_is : (get_or s.moves done.moves d).new ≡ m.new =
              ap (λ (i : ℕ). (get_or s.moves i d).new) (sym is) ∙ ap (λ (n : Move). n.new) (get_or_from_slice_get s.moves k m d before) in
              one name o there queued.settled (queued.here ∙ sym move_is))
        ]);
      }

-- all moves have marks, so there are at most so many
pub moves-most : (a : NamedHeap) (s : CopyState) → Midway a s → length s.moves ≤ 256 * length a.pages
moves-most a s h =
    let counted = h.places.counted in
    let marks_long = h.places.marks_long in
    let long = h.places.long in
    let most = count_by-le-length is_set s.marks in
    omega arith

-- when all of the queue is scanned, so is all that is settled of the generation
pub all-scanned : (a : NamedHeap) (s : CopyState) (listed : List ℕ) (done : Scanned) → Midway a s → AreScanned a s listed done → IsAllScanned s done → AllOfGenerationScanned a s listed
all-scanned a s listed done h d whole = λ name o there of_it settled.
    (let same : (o.generation == s.pass.generation) ≡ true = eq-eqb o.generation s.pass.generation of_it in
    let told : (not (o.generation == s.pass.generation) || is_set (mark_at s.marks o.place)) ≡ true = sym (settles-not a s h.places name o there) ∙ settled in
    let marked : is_set (mark_at s.marks o.place) ≡ true = rw same at told in
    let set : is_set (mark_for s.pins s.moves o.place) ≡ true = ap is_set (sym (mark_is a s h.places name o there)) ∙ marked in
    elim (cases_Bool (list_any (nat_eq o.place) s.pins)) [
      | inl pin ↦ (let found = found_at (nat_eq o.place) s.pins pin in
          let inside = found.1 in
          let all = whole.pins in
          d.pins found.0 name o (omega arith) there (eqb-true o.place (get_or s.pins found.0 0) (found.2 0)))
      | inr free ↦ elim (cases_Bool (has_move s.moves o.place)) [
        | inl has ↦ (let found = found_at (λ (m : Move). m.old == o.place) s.moves has in
            let none : Move = record { old = 0; new = 0 } in
            let inside = found.1 in
            let all = whole.moves in
            d.moves found.0 name o (get_or s.moves found.0 none) (omega arith) (slice_get-get_or s.moves found.0 none inside) there of_it
            (sym (eqb-true (get_or s.moves found.0 none).old o.place (found.2 none))))
        | inr none ↦ absurd (false≢true (rw (free, none) at set))
      ]
    ])
