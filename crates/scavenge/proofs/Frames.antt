-- Frames of scanning: from one state over another to a third, what is new stays new, and fields stay where they are.
use Rattle.std.proofs.Common.{◌≡◌, ℕ, ◌+◌, ◌-◌, ◌<◌, ◌≤◌, length, inl, inr, refl, sym, ◌∙◌, ap, subst, arith}
use Rattle.std.proofs.lemmas.Bool.{cases_lt}
use Rattle.heap_terms.specs.Heap.{NamedHeap}
use Rattle.copy_space.specs.declared.copier.Copier.{Copier}
use Rattle.copy_space.specs.declared.notes.PassNotes.{PassNotes}
use Rattle.copy_space.specs.Frames.{Grows}
use Rattle.copy_space.specs.Midway.{Midway}
use Rattle.copy_space.specs.Moved.{new_of}
use Rattle.copy_space.specs.Notes.{SameButMoves}
use Rattle.copy_space.specs.State.{CopyState}
use Rattle.copy_space.proofs.FrameLaws.{Follows-same, Follows-on, settled-stays}
use Rattle.scavenge.specs.Fields.{IsFieldAt, CanScanFields, AreNew, IsObjectAt, IsSameCopier}
use Rattle.scavenge.specs.Scanning.{Scans}

pub scans-same : (a : NamedHeap) (s : CopyState) → Midway a s → Scans a s s
scans-same a s h = record { midway = h; follows = Follows-same a s; reached = λ set fields has name settled. has name settled }

pub scans-on : (a : NamedHeap) (s t u : CopyState) → Scans a s t → Scans a t u → Scans a s u
scans-on a s t u h k = record {
  midway = k.midway;
  follows = Follows-on a s t u h.follows k.follows;
  reached = λ set fields has name settled. k.reached set fields (h.reached set fields has) name settled;
}

-- words are as many as before
pub long-stays : (a : NamedHeap) (s t : CopyState) → Midway a s → Midway a t → length t.words ≡ length s.words
long-stays a s t h k = k.places.long ∙ sym h.places.long

pub field-stays : (a : NamedHeap) (s t : CopyState) (index : ℕ) → Grows a s t → IsFieldAt a s index → IsFieldAt a t index
field-stays a s t index h f = record {
  name = f.name;
  o = f.o;
  there = f.there;
  settled = settled-stays a s t h f.name f.settled;
  i = f.i;
  v = f.v;
  field = f.field;
  here = ap (λ (p : ℕ). p + f.i) (h.places f.name f.o f.there f.settled) ∙ f.here;
}

pub object-stays : (a : NamedHeap) (s t : CopyState) (index : ℕ) → Grows a s t → IsObjectAt a s index → IsObjectAt a t index
object-stays a s t index h q = record {
  name = q.name;
  o = q.o;
  there = q.there;
  settled = settled-stays a s t h q.name q.settled;
  here = h.places q.name q.o q.there q.settled ∙ q.here;
}

pub new-none : (a : NamedHeap) (s t : CopyState) (from : ℕ) → AreNew a s t from 0
new-none a s t from = λ name o e settled i v f low high. absurd (omega (arith, low, high))

-- so many fields, and then so many behind them
pub new-on : (a : NamedHeap) (s t u : CopyState) (from n m : ℕ) → Scans a s t → Scans a t u → AreNew a s t from n → AreNew a t u (from + n) m → AreNew a s u from (n + m)
new-on a s t u from n m h k first second = λ name o e settled i v f low high.
    (let on = settled-stays a s t h.follows.grows name settled in
    let place = h.follows.grows.places name o e settled in
    elim (cases_lt (new_of s.moves o.place + i) (from + n)) [
      | inl below ↦ k.follows.fields name o e on i v f (first name o e settled i v f low below)
      | inr above ↦ second name o e on i v f (omega arith) (omega arith)
    ])

-- the same copier
pub notes-on : (x y z : PassNotes) → SameButMoves x y → SameButMoves y z → SameButMoves x z
notes-on x y z h k = record {
  rest = record {
    generation = k.rest.generation ∙ h.rest.generation;
    target = k.rest.target ∙ h.rest.target;
    pins = k.rest.pins ∙ h.rest.pins;
    freed = k.rest.freed ∙ h.rest.freed;
    dead = k.rest.dead ∙ h.rest.dead;
    kept = k.rest.kept ∙ h.rest.kept;
  };
  culls = k.culls ∙ h.culls;
  breaks = k.breaks ∙ h.breaks;
  queued = k.queued ∙ h.queued;
}

pub same-on : (x y z : Copier) → IsSameCopier x y → IsSameCopier y z → IsSameCopier x z
same-on x y z h k = record {
  notes = notes-on x.notes.now y.notes.now z.notes.now h.notes k.notes;
  same_space = k.same_space ∙ h.same_space;
  same_pages = k.same_pages ∙ h.same_pages;
  same_marks = k.same_marks ∙ h.same_marks;
  same_notes = k.same_notes ∙ h.same_notes;
}

pub notes-same : (x : PassNotes) → SameButMoves x x
notes-same x = record {
  rest = record { generation = refl; target = refl; pins = refl; freed = refl; dead = refl; kept = refl };
  culls = refl;
  breaks = refl;
  queued = refl;
}

pub same-self : (x : Copier) → IsSameCopier x x
same-self x = record {
  notes = notes-same x.notes.now;
  same_space = refl;
  same_pages = refl;
  same_marks = refl;
  same_notes = refl;
}

-- one field of many
pub fields-one : (a : NamedHeap) (s t : CopyState) (from count index : ℕ) → CanScanFields a s from count → Scans a s t → from ≤ index → index < from + count →
    CanScanFields a t index 1
fields-one a s t from count index can h low high =
    let long = long-stays a s t can.midway h.midway in
    let inside = can.inside in
    record {
      midway = h.midway;
      inside = omega arith;
      fields = λ k l. (
          let same : from + (index - from) ≡ index + k = omega arith in
          field-stays a s t (index + k) h.follows.grows (subst (λ (i : ℕ). IsFieldAt a s i) same (can.fields (index - from) (omega arith))));
    }

pub new-next : (a : NamedHeap) (s t u : CopyState) (from index : ℕ) → from ≤ index → Scans a s t → Scans a t u → AreNew a s t from (index - from) → AreNew a t u index 1 →
    AreNew a s u from (index + 1 - from)
new-next a s t u from index low h k first second =
    let here : index ≡ from + (index - from) = omega arith in
    let next : index - from + 1 ≡ index + 1 - from = omega arith in
    subst (λ (n : ℕ). AreNew a s u from n) next (new-on a s t u from (index - from) 1 h k first (subst (λ (i : ℕ). AreNew a t u i 1) here second))
