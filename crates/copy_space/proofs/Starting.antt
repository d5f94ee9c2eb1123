-- The start of a pass: where words stand for a sound heap and the pins are marked, the state is midway with no move made.
use Rattle.std.proofs.Common.{◌≡◌, ◌≢◌, ℕ, ◌+◌, ◌*◌, ◌/◌, ◌%◌, ◌<◌, ◌≤◌, List, [], length, get_or, replicate, Some, true, false, nat_eq, inl, inr, refl, sym, ◌∙◌, ap, subst, arith}
use Rattle.std.proofs.lemmas.Bool.{cases_lt, cases_Bool, false≢true}
use Rattle.std.proofs.lemmas.List.{get_or-replicate, get_or_past}
use Rattle.std.proofs.lemmas.List.Elements.{All-nil, All-weaker}
use Rattle.std.specs.List.{list_any}
use Rattle.std.specs.Prelude.{All, AllPairs, if◌then◌else◌, slice_index}
use Rattle.heap_terms.specs.declared.limits.TheConstants.{MOST_PAGES}
use Rattle.heap_terms.specs.declared.pages.Entry.{Entry}
use Rattle.heap_terms.specs.declared.pages.Entry.TheVariants.{Free}
use Rattle.heap_terms.specs.Generations.{is_of}
use Rattle.heap_terms.specs.Heap.{NamedHeap, object_at, entry_at, fill_of}
use Rattle.heap_terms.specs.Objects.{Object}
use Rattle.heap_terms.specs.Placement.{placement}
use Rattle.heap_terms.specs.Slots.{Slot, Raw, Val, Side, Kept}
use Rattle.heap_terms.specs.Stands.{StandsFor, SlotsStand, KeptStand}
use Rattle.pass_laws.proofs.Sizes.{words_least}
use Rattle.copy_space.specs.declared.marks.Mark.{Mark}
use Rattle.copy_space.specs.declared.marks.Mark.TheVariants as marks
use Rattle.copy_space.specs.declared.notes.Move.{Move}
use Rattle.copy_space.specs.declared.notes.Pass.{Pass}
use Rattle.copy_space.specs.Clearing.{IsDoubleWord}
use Rattle.copy_space.specs.Copying.{CanBegin}
use Rattle.copy_space.specs.Marks.{mark_at}
use Rattle.copy_space.specs.Midway.{IsPlacement, IsPlacedSoFar, IsSpelledSoFar, Midway, StandsMidway, HasStart}
use Rattle.copy_space.specs.Moved.{mark_for}
use Rattle.copy_space.specs.State.{CopyState, placing_on, none_in_use}
use Rattle.copy_space.proofs.Referents.{is_moved}

start_even : (a : NamedHeap) (g : ℕ) (words : List ℕ) (pages : List Entry) (ks : List Mark) (pins : List ℕ) (room : ℕ) → CanBegin a words pages ks pins g room →
    (index : ℕ) → HasStart a g index → index % 2 ≡ 0
start_even a g words pages ks pins room h index (name, start) = ap (λ (i : ℕ). i % 2) (sym start.here) ∙ (h.sound.objects name start.o start.there).placed.even

start_inside : (a : NamedHeap) (g : ℕ) (words : List ℕ) (pages : List Entry) (ks : List Mark) (pins : List ℕ) (room : ℕ) → CanBegin a words pages ks pins g room →
    (index : ℕ) → HasStart a g index → index / 2 < length ks
start_inside a g words pages ks pins room h index (name, start) =
    let inside = (h.sound.objects name start.o start.there).placed.inside in
    let least = words_least start.o in
    let here = start.here in
    let long = h.stand.long in
    let marks_long = h.marks_long in
    omega arith

pub pins-inside : (a : NamedHeap) (g : ℕ) (words : List ℕ) (pages : List Entry) (ks : List Mark) (pins : List ℕ) (room : ℕ) → CanBegin a words pages ks pins g room →
    All (IsDoubleWord (length ks)) pins
pins-inside a g words pages ks pins room h =
    All-weaker (HasStart a g) (IsDoubleWord (length ks))
    (λ index start. record { even = start_even a g words pages ks pins room h index start; inside = start_inside a g words pages ks pins room h index start }) pins h.pinned

fresh_before : (ks : List Mark) → ks ≡ replicate (length ks) marks.Fresh → (i : ℕ) → mark_at ks i ≡ marks.Fresh
fresh_before ks same i = elim (cases_lt (i / 2) (length ks)) [
  | inl l ↦ ap (λ (xs : List Mark). get_or xs (i / 2) marks.Fresh) same ∙ get_or-replicate (length ks) (i / 2) marks.Fresh marks.Fresh l
  | inr l ↦ get_or_past ks (i / 2) marks.Fresh l
]

stands : (a : NamedHeap) (s : CopyState) (slot : Slot) (word : ℕ) → StandsFor a.objects slot word → StandsMidway a s slot word
stands a s (Raw w) word e = e
stands a s (Val v) word e = inl e
stands a s (Side v) word e = e
stands a s Kept word e = tt

not_moved : (pins : List ℕ) (i : ℕ) → is_moved (mark_for pins [] i) ≡ false
not_moved pins i = elim (cases_Bool (list_any (nat_eq i) pins)) [ inl pin ↦ rw pin refl | inr none ↦ rw none refl ]

-- the state at the start
abbrev pub start_state : List ℕ → List Entry → List Mark → List ℕ → Pass → ℕ → CopyState
start_state words pages ks pins pass room = record { words = words; pages = pages; marks = ks; pins = pins; pass = pass; moves = []; room = room; in_use = none_in_use }

-- the placement of no names
placed-none : (a : NamedHeap) (words : List ℕ) (pages : List Entry) (ks : List Mark) (pins : List ℕ) (pass : Pass) (room : ℕ) → pages ≡ a.pages →
    IsPlacement a (start_state words pages ks pins pass room) []
unfolding placement
placed-none a words pages ks pins pass room same = record { on_pages = ap (λ (ps : List Entry). placing_on ps none_in_use) same; moves = refl }

pub starts : (a : NamedHeap) (words : List ℕ) (pages : List Entry) (ks new : List Mark) (pins : List ℕ) (pass : Pass) (room : ℕ) →
    CanBegin a words pages ks pins pass.generation room → length pages ≤ MOST_PAGES →
    ((i : ℕ) → mark_at new (2 * i) ≡ (if list_any (nat_eq (2 * i)) pins then marks.Pinned else mark_at ks (2 * i))) → length new ≡ length ks →
    Midway a (start_state words pages new pins pass room)
starts a words pages ks new pins pass room h most marked long = record { places = placed; spelled = spelled_is }
  where
    marks_are : (i : ℕ) → mark_at new (2 * i) ≡ mark_for pins [] (2 * i)
    marks_are i = marked i ∙ ap (λ (m : Mark). if list_any (nat_eq (2 * i)) pins then marks.Pinned else m) (fresh_before ks h.unmarked (2 * i))

    mark_unmoved : (name : ℕ) (o : Object) → object_at a.objects name ≡ Some o → mark_at new o.place ≡ marks.Moved → ⊥
    mark_unmoved name o e m =
        let even = (h.sound.objects name o e).placed.even in
        let twice : 2 * (o.place / 2) ≡ o.place = omega arith in
        let is : mark_at new o.place ≡ mark_for pins [] o.place = subst (λ (i : ℕ). mark_at new i ≡ mark_for pins [] i) twice (marks_are (o.place / 2)) in
        false≢true (sym (not_moved pins o.place) ∙ ap is_moved (sym is ∙ m))

    free_fill : (e : Entry) (i : ℕ) → e ≡ Free → i < fill_of e → ⊥
    free_fill e i same l = (let none : i < 0 = subst (λ (x : Entry). i < fill_of x) same l in omega (arith, none))

    no_pairs : AllPairs (λ (x y : ℕ). x ≢ y) []
    no_pairs = λ i j d l m. absurd (omega (arith, m))

    placed : IsPlacedSoFar a (start_state words pages new pins pass room)
    placed =
        let marks_long = h.marks_long in
        let enough = h.enough in
        let same = ap length h.pages_are in
        record {
          sound = h.sound;
          generation = h.generation;
          most = omega arith;
          long = h.stand.long;
          marks_long = omega arith;
          room = omega arith;
          order = [];
          once = no_pairs;
          met = All-nil (λ name. is_of a pass.generation name ≡ true);
          placed = placed-none a words pages new pins pass room h.pages_are;
          pins = h.pinned;
          unpinned = All-nil (λ (m : Move). list_any (nat_eq m.old) pins ≡ false);
          marks = marks_are;
          counted = omega arith;
          forwards = λ name o e m. absurd (mark_unmoved name o e m);
          owned = λ page i free l. absurd (free_fill (entry_at pages page) i (ap (λ (ps : List Entry). entry_at ps page) h.pages_are ∙ free) l);
          fillers = h.stand.fillers;
        }

    spelled_is : IsSpelledSoFar a (start_state words pages new pins pass room)
    spelled_is = record {
      slots = λ name o e i slot f.
          (let all : SlotsStand a.objects words o.place o.contents = rw e at (h.stand.spelled name) in
          let one : StandsFor a.objects slot (slice_index words (o.place + i)) = rw f at (all i) in
          stands a (start_state words pages new pins pass room) slot (slice_index words (o.place + i)) one);
      kept = λ name o e. (let all : KeptStand words o.place o.contents = rw e at (h.stand.kept name) in all);
    }
