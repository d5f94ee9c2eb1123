-- What remains at the end of tracing: where it lies, and which marks and pages tell of it.
use Rattle.std.proofs.Common.{◌≡◌, ℕ, ◌+◌, ◌*◌, ◌/◌, ◌%◌, ◌<◌, ◌≤◌, List, length, get_or, Option, Some, None, Bool, true, false, inl, inr, refl, sym, ◌∙◌, ap, subst, nat_eq, arith}
use Rattle.std.proofs.lemmas.Bool.{cases_Bool, eq-eqb, eqb-true, false≢true}
use Rattle.std.proofs.lemmas.List.{get_or_past}
use Rattle.std.specs.List.{list_any}
use Rattle.std.specs.Prelude.{not, ◌||◌, ◌==◌, if◌then◌else◌}
use Rattle.heap_terms.specs.declared.pages.Entry.{Entry}
use Rattle.heap_terms.specs.declared.pages.Entry.TheVariants.{Free, Used}
use Rattle.heap_terms.specs.Heap.{NamedHeap, object_at, entry_at}
use Rattle.heap_terms.specs.Objects.{Object, words_of_object}
use Rattle.heap_terms.specs.OnPages.{IsOwned, IsPlaced}
use Rattle.heap_terms.specs.Passes.{moved_to}
use Rattle.heap_terms.specs.Placement.{scratch}
use Rattle.pass_laws.specs.Spread.{settled, moved_object}
use Rattle.pass_laws.proofs.Lookups.{made_at, found_at}
use Rattle.pass_laws.proofs.Sizes.{words_least}
use Rattle.copy_space.specs.declared.marks.Mark.{Mark}
use Rattle.copy_space.specs.declared.marks.Mark.TheVariants as marks
use Rattle.copy_space.specs.declared.notes.Move.{Move}
use Rattle.copy_space.specs.Marks.{mark_at, is_set}
use Rattle.copy_space.specs.Midway.{IsPlacedSoFar}
use Rattle.copy_space.specs.Moved.{new_of, has_move, now_at, mark_for}
use Rattle.copy_space.specs.Pages.{is_page_of}
use Rattle.copy_space.specs.Settled.{is_settled}
use Rattle.copy_space.specs.State.{CopyState}
use Rattle.copy_space.proofs.Listed.{move-is}
use Rattle.copy_space.proofs.Places.{placed_now, placed_page, page_kept, said, now_unmoved}
use Rattle.copy_space.proofs.Referents.{ms, its, mark_is, settles-not, of-generation, is_moved, here_unless_moved}
use Rattle.page_sweep.specs.Swept.{remaining_now}
use Rattle.page_sweep.specs.Wiping.{lies_there}

pub remaining-at : (a : NamedHeap) (s : CopyState) (x : ℕ) → object_at (remaining_now a s) x ≡ (if is_settled a s x then now_at s.moves (object_at a.objects x) else None)
remaining-at a s x = made_at (λ name. if is_settled a s name then now_at s.moves (object_at a.objects name) else None) (length a.objects) x None past
  where
    past : length a.objects ≤ x → (if is_settled a s x then now_at s.moves (object_at a.objects x) else None) ≡ None
    past far = (let none : object_at a.objects x ≡ None = get_or_past a.objects x None far in rw none refl)

pub remaining-there : (a : NamedHeap) (s : CopyState) (x : ℕ) (o : Object) → object_at a.objects x ≡ Some o → is_settled a s x ≡ true →
    object_at (remaining_now a s) x ≡ Some (record o { place = new_of s.moves o.place })
remaining-there a s x o e lives =
    remaining-at a s x ∙ ap (λ (b : Bool). if b then now_at s.moves (object_at a.objects x) else None) lives ∙ ap (now_at s.moves) e

-- a word of a settled object belongs to something that remains
pub owned-now : (a : NamedHeap) (s : CopyState) (x : ℕ) (o : Object) (i : ℕ) → object_at a.objects x ≡ Some o → is_settled a s x ≡ true →
    new_of s.moves o.place ≤ i → i < new_of s.moves o.place + words_of_object o → IsOwned (remaining_now a s) i
owned-now a s x o i e lives from below = (x, record o { place = new_of s.moves o.place }, remaining-there a s x o e lives, record { from = from; below = below })

pub or_true : (b : Bool) → (b || true) ≡ true
or_true true = refl
or_true false = refl

lies-set : (m : Mark) → lies_there m ≡ true → is_set m ≡ true
lies-set marks.Fresh e = absurd (false≢true e)
lies-set marks.Pinned e = refl
lies-set marks.Stayed e = refl
lies-set marks.Moved e = absurd (false≢true e)

set-lies : (m : Mark) → is_set m ≡ true → is_moved m ≡ false → lies_there m ≡ true
set-lies marks.Fresh e f = absurd (false≢true e)
set-lies marks.Pinned e f = refl
set-lies marks.Stayed e f = refl
set-lies marks.Moved e f = absurd (false≢true (sym f))

lies-unmoved : (m : Mark) → lies_there m ≡ true → is_moved m ≡ false
lies-unmoved marks.Fresh e = refl
lies-unmoved marks.Pinned e = refl
lies-unmoved marks.Stayed e = refl
lies-unmoved marks.Moved e = absurd (false≢true e)

-- an object whose mark says moved is elsewhere
mark-moved : (pins : List ℕ) (moves : List Move) (index : ℕ) → new_of moves index ≡ index → is_moved (mark_for pins moves index) ≡ false
mark-moved pins moves index same = elim (cases_Bool (list_any (nat_eq index) pins)) [
  | inl pin ↦ rw pin refl
  | inr free ↦ elim (cases_Bool (has_move moves index)) [
    | inl has ↦ (let stay : (new_of moves index == index) ≡ true = eq-eqb (new_of moves index) index same in rw (free, has, stay) refl)
    | inr none ↦ rw (free, none) refl
  ]
]

-- a mark that says pinned or stayed is that of a pin or a move
lies-at : (pins : List ℕ) (moves : List Move) (index : ℕ) → lies_there (mark_for pins moves index) ≡ true →
    (list_any (nat_eq index) pins || has_move moves index) ≡ true
lies-at pins moves index e = elim (cases_Bool (list_any (nat_eq index) pins)) [
  | inl pin ↦ rw pin refl
  | inr free ↦ elim (cases_Bool (has_move moves index)) [
    | inl has ↦ rw (free, has) refl
    | inr none ↦ absurd (false≢true (rw (free, none) at e))
  ]
]

two_generations : (e : Entry) (g h : ℕ) → is_page_of e g ≡ true → is_page_of e h ≡ true → g ≡ h
two_generations Free g h e f = absurd (false≢true e)
two_generations (Used ty k fill first pages) g h e f = sym (eqb-true k g e) ∙ eqb-true k h f

-- a settled object on a page of the pass's generation lies where it was
pub record LiesThere (a : NamedHeap) (s : CopyState) (x : ℕ) (o : Object) : Type 0 where
  pub of_it : o.generation ≡ s.pass.generation
  pub here : new_of s.moves o.place ≡ o.place
  pub mark : lies_there (mark_at s.marks o.place) ≡ true
  pub placed : IsPlaced s.pages o

-- the object of which a mark tells that it is settled and lies where it was
pub record LyingAt (a : NamedHeap) (s : CopyState) (index : ℕ) : Type 0 where
  pub name : ℕ
  pub o : Object
  pub there : object_at a.objects name ≡ Some o
  pub of_it : o.generation ≡ s.pass.generation
  pub place : o.place ≡ index
  pub here : new_of s.moves o.place ≡ index
  pub is_settled : is_settled a s name ≡ true
  pub placed : IsPlaced s.pages o

module _ (a : NamedHeap) (s : CopyState) (h : IsPlacedSoFar a s) where
  -- the page of a word of an object that moved was taken
  pub taken-page : (x : ℕ) (o : Object) (index i : ℕ) → object_at a.objects x ≡ Some o → moved_to (ms a s h) x ≡ Some index →
      new_of s.moves o.place ≤ i → i < new_of s.moves o.place + words_of_object o → is_page_of (entry_at s.pages (i / 512)) scratch ≡ true
  taken-page x o index i e to from below =
      let here : new_of s.moves o.place ≡ index = (said a s (ms a s h) h.sound (its a s h) x o e).0 ∙ ap (λ (t : Option ℕ). (settled t o).place) to in
      let placed : IsPlaced s.pages (moved_object o index) = subst (λ (t : Option ℕ). IsPlaced s.pages (settled t o)) to (placed_now a s (ms a s h) h.sound (its a s h) x o e) in
      placed_page s.pages (moved_object o index) (its a s h).most placed i (omega arith) (omega arith)

  -- and that of one that did not is of its generation
  pub own-page : (x : ℕ) (o : Object) (i : ℕ) → object_at a.objects x ≡ Some o → moved_to (ms a s h) x ≡ None → o.place ≤ i → i < o.place + words_of_object o →
      is_page_of (entry_at s.pages (i / 512)) o.generation ≡ true
  own-page x o i e none from below =
      let placed : IsPlaced s.pages o = subst (λ (t : Option ℕ). IsPlaced s.pages (settled t o)) none (placed_now a s (ms a s h) h.sound (its a s h) x o e) in
      placed_page s.pages o (its a s h).most placed i from below

  pub lies-there : (x : ℕ) (o : Object) (i : ℕ) → object_at a.objects x ≡ Some o → is_settled a s x ≡ true →
      new_of s.moves o.place ≤ i → i < new_of s.moves o.place + words_of_object o → is_page_of (entry_at s.pages (i / 512)) s.pass.generation ≡ true → LiesThere a s x o
  lies-there x o i e lives from below page = go (moved_to (ms a s h) x) refl
    where
      go : (to : Option ℕ) → moved_to (ms a s h) x ≡ to → LiesThere a s x o
      go (Some index) to =
          let seven = two_generations (entry_at s.pages (i / 512)) scratch s.pass.generation (taken-page x o index i e to from below) page in
          let bound = h.generation in
          absurd (omega (arith, seven, bound))
      go None to =
          let here = now_unmoved a s (ms a s h) h.sound (its a s h) x o e to in
          let own = own-page x o i e to (omega arith) (omega arith) in
          let of_it = two_generations (entry_at s.pages (i / 512)) o.generation s.pass.generation own page in
          let same : (o.generation == s.pass.generation) ≡ true = eq-eqb o.generation s.pass.generation of_it in
          let test : (not (o.generation == s.pass.generation) || is_set (mark_at s.marks o.place)) ≡ true = sym (settles-not a s h x o e) ∙ lives in
          let set : is_set (mark_at s.marks o.place) ≡ true = rw same at test in
          let unmoved : is_moved (mark_at s.marks o.place) ≡ false = ap is_moved (mark_is a s h x o e) ∙ mark-moved s.pins s.moves o.place here in
          record {
            of_it = of_it;
            here = here;
            mark = set-lies (mark_at s.marks o.place) set unmoved;
            placed = subst (λ (t : Option ℕ). IsPlaced s.pages (settled t o)) to (placed_now a s (ms a s h) h.sound (its a s h) x o e);
          }

  -- an object of the generation that is where it was lies as it must
  pub placed_here : (x : ℕ) (o : Object) → object_at a.objects x ≡ Some o → o.generation ≡ s.pass.generation → new_of s.moves o.place ≡ o.place → IsPlaced s.pages o
  placed_here x o e of_it here = go (moved_to (ms a s h) x) refl
    where
      go : (to : Option ℕ) → moved_to (ms a s h) x ≡ to → IsPlaced s.pages o
      go None to = subst (λ (t : Option ℕ). IsPlaced s.pages (settled t o)) to (placed_now a s (ms a s h) h.sound (its a s h) x o e)
      go (Some index) to =
          let least = words_least o in
          let taken = taken-page x o index o.place e to (omega arith) (omega arith) in
          let kept = page_kept a s (ms a s h) h.sound (its a s h) x o o.place e (omega arith) (omega arith) in
          let own : is_page_of (entry_at s.pages (o.place / 512)) o.generation ≡ true = ap (λ (t : Entry). is_page_of t o.generation) kept.0 ∙ kept.1 in
          let seven = two_generations (entry_at s.pages (o.place / 512)) scratch o.generation taken own in
          let bound = h.generation in
          absurd (omega (arith, seven, bound, of_it))

  -- an object at whose place a pin stands
  pub pinned-lies : (x : ℕ) (o : Object) (index : ℕ) → object_at a.objects x ≡ Some o → o.generation ≡ s.pass.generation → o.place ≡ index → list_any (nat_eq index) s.pins ≡ true → LyingAt a s index
  pinned-lies x o index e of_it at pin =
      let here : list_any (nat_eq o.place) s.pins ≡ true = ap (λ (i : ℕ). list_any (nat_eq i) s.pins) at ∙ pin in
      let mark : mark_at s.marks o.place ≡ marks.Pinned = mark_is a s h x o e ∙ (rw here refl) in
      let unmoved = here_unless_moved a s h x o e (ap is_moved mark) in
      record {
        name = x;
        o = o;
        there = e;
        of_it = of_it;
        place = at;
        here = unmoved ∙ at;
        is_settled = settles-not a s h x o e ∙ ap (λ (m : Mark). not (o.generation == s.pass.generation) || is_set m) mark ∙ or_true (not (o.generation == s.pass.generation));
        placed = placed_here x o e of_it unmoved;
      }

  pub lying-at : (index : ℕ) → index % 2 ≡ 0 → lies_there (mark_at s.marks index) ≡ true → LyingAt a s index
  lying-at index even lies =
      let twice : 2 * (index / 2) ≡ index = omega arith in
      let told : mark_at s.marks index ≡ mark_for s.pins s.moves index = subst (λ (i : ℕ). mark_at s.marks i ≡ mark_for s.pins s.moves i) twice (h.marks (index / 2)) in
      elim (cases_Bool (list_any (nat_eq index) s.pins)) [
        | inl pin ↦ (let found = found_at (nat_eq index) s.pins pin in
            let at : index ≡ get_or s.pins found.0 0 = eqb-true index (get_or s.pins found.0 0) (found.2 0) in
            let start = h.pins found.0 0 found.1 in
            make start.0 start.1.o start.1.there (of-generation a s.pass.generation start.0 start.1.o start.1.there start.1.of_it) (start.1.here ∙ sym at))
        | inr free ↦ elim (cases_Bool (has_move s.moves index)) [
          | inl has ↦ (let found = found_at (λ (m : Move). m.old == index) s.moves has in
              let first : Move = record { old = 0; new = 0 } in
              let at : (get_or s.moves found.0 first).old ≡ index = eqb-true (get_or s.moves found.0 first).old index (found.2 first) in
              let move = move-is a s h found.0 first found.1 in
              make move.name move.o move.there move.of_it (move.old ∙ at))
          | inr none ↦ absurd (false≢true (rw (free, none) at (lies-at s.pins s.moves index (ap lies_there (sym told) ∙ lies))))
        ]
      ]
    where
      make : (x : ℕ) (o : Object) → object_at a.objects x ≡ Some o → o.generation ≡ s.pass.generation → o.place ≡ index → LyingAt a s index
      make x o e of_it at =
          let mark : lies_there (mark_at s.marks o.place) ≡ true = ap (λ (i : ℕ). lies_there (mark_at s.marks i)) at ∙ lies in
          let set : is_set (mark_at s.marks o.place) ≡ true = lies-set (mark_at s.marks o.place) mark in
          record {
            name = x;
            o = o;
            there = e;
            of_it = of_it;
            place = at;
            here = here_unless_moved a s h x o e (lies-unmoved (mark_at s.marks o.place) mark) ∙ at;
            is_settled = settles-not a s h x o e ∙ (rw set (or_true (not (o.generation == s.pass.generation))));
            placed = placed_here x o e of_it (here_unless_moved a s h x o e (lies-unmoved (mark_at s.marks o.place) mark));
          }
