-- Writing into an object that is settled, at its place now: no forwarding word and no filler is hit, so the first part of a
-- state midway holds again; and where a field gets its new word, the second part too, and nothing that was scanned is lost.
use Rattle.std.proofs.Common.{◌≡◌, ◌≢◌, ℕ, ◌+◌, ◌*◌, ◌/◌, ◌<◌, ◌≤◌, List, [], set, Option, Some, None, true, inl, inr, nat_eq, refl, sym, ◌∙◌, ap, subst, arith}
use Rattle.std.proofs.lemmas.Bool.{cases_eq, cases_Bool, eq-eqb, eqb-true, false≢true}
use Rattle.std.proofs.lemmas.List.{length-set, get_or-set_same, get_or-set_other, append-nil}
use Rattle.std.proofs.lemmas.Option.{same_Some}
use Rattle.std.specs.List.{list_any}
use Rattle.std.specs.Prelude.{◌==◌, slice_index}
use Rattle.heap_terms.specs.declared.cells.Value.{Value}
use Rattle.heap_terms.specs.declared.pages.Entry.{Entry}
use Rattle.heap_terms.specs.declared.pages.Entry.TheVariants.{Free, Used}
use Rattle.heap_terms.specs.Heap.{NamedHeap, object_at, entry_at, fill_of}
use Rattle.heap_terms.specs.Objects.{Object, words_of_object}
use Rattle.heap_terms.specs.OnPages.{IsEntry, IsOwned, IsPlaced}
use Rattle.heap_terms.specs.Passes.{moved_to}
use Rattle.heap_terms.specs.Placement.{scratch}
use Rattle.heap_terms.specs.Slots.{Slot, Raw, Val, Side, Kept, slot_at}
use Rattle.pass_laws.specs.Spread.{settled, moved_object}
use Rattle.pass_laws.proofs.Sizes.{words_least}
use Rattle.copy_space.specs.declared.marks.Mark.TheVariants as marks
use Rattle.copy_space.specs.declared.notes.Move.{Move}
use Rattle.copy_space.specs.Frames.{Grows, Follows}
use Rattle.copy_space.specs.Marks.{mark_at}
use Rattle.copy_space.specs.Midway.{IsPlacedSoFar, Midway, StandsMidway}
use Rattle.copy_space.specs.Moved.{new_of, has_move, mark_for}
use Rattle.copy_space.specs.Pages.{is_page_of}
use Rattle.copy_space.specs.Settled.{IsNewWord}
use Rattle.copy_space.specs.State.{CopyState}
use Rattle.copy_space.proofs.FrameLaws.{either-stays, new-word-stays}
use Rattle.copy_space.proofs.Places.{said, placed_now, placed_page, now_apart, now_inside, now_unmoved, moved_away}
use Rattle.copy_space.proofs.Referents.{ms, its, mark_is}
use Rattle.copy_space.proofs.Shapes.{slot-below}

-- the state after one word was written
abbrev pub written : CopyState → ℕ → ℕ → CopyState
written s index word = record s { words = set s.words index word }

says-moved : (pins : List ℕ) (moves : List Move) (index : ℕ) → mark_for pins moves index ≡ marks.Moved → new_of moves index ≢ index
says-moved pins moves index e same = elim (cases_Bool (list_any (nat_eq index) pins)) [
  | inl pin ↦ (let never : marks.Pinned ≡ marks.Moved = rw pin at e in cc)
  | inr free ↦ elim (cases_Bool (has_move moves index)) [
    | inl has ↦ (let stay : (new_of moves index == index) ≡ true = eq-eqb (new_of moves index) index same in
        let never : marks.Stayed ≡ marks.Moved = rw (free, has, stay) at e in cc)
    | inr none ↦ (let never : marks.Fresh ≡ marks.Moved = rw (free, none) at e in cc)
  ]
]

module _ (a : NamedHeap) (s : CopyState) (p : IsPlacedSoFar a s) (x : ℕ) (o : Object) (there : object_at a.objects x ≡ Some o) (i : ℕ) (below : i < words_of_object o) where
  -- it is none of the two words that a moved object leaves
  no_forward : (name : ℕ) (q : Object) → object_at a.objects name ≡ Some q → mark_at s.marks q.place ≡ marks.Moved → (j : ℕ) → j < 2 → q.place + j ≢ new_of s.moves o.place + i
  no_forward name q f moved j l same = go (moved_to (ms a s p) x) refl
    where
      least : 2 ≤ words_of_object q
      least = words_least q

      go : (to : Option ℕ) → moved_to (ms a s p) x ≡ to → ⊥
      go (Some index) e = elim (moved_away a s (ms a s p) p.sound (its a s p) x name index o q there f e) [
        | inl m ↦ (let two = least in omega arith)
        | inr m ↦ (let two = least in omega arith)
      ]
      go None e = (let here = now_unmoved a s (ms a s p) p.sound (its a s p) x o there e in
          elim (cases_eq name x) [
            | inl is ↦ (let o_is : q ≡ o = same_Some q o (sym f ∙ (subst (λ (z : ℕ). object_at a.objects z ≡ Some o) (sym is) there)) in
                let moved' : mark_at s.marks o.place ≡ marks.Moved = ap (λ (r : Object). mark_at s.marks r.place) (sym o_is) ∙ moved in
                says-moved s.pins s.moves o.place (sym (mark_is a s p x o there) ∙ moved') here)
            | inr apart ↦ (let two = least in elim (p.sound.apart name x q o apart f there) [ inl m ↦ omega arith | inr m ↦ omega arith ])
          ])

  -- and no filler
  no_filler : (page k : ℕ) → k < fill_of (entry_at a.pages page) → ¬ IsOwned a.objects (512 * page + k) → 512 * page + k ≢ new_of s.moves o.place + i
  no_filler page k l none same = go (moved_to (ms a s p) x) refl
    where
      no_scratch : (e : Entry) → IsEntry e → is_page_of e scratch ≡ true → ⊥
      no_scratch Free entry is = false≢true is
      no_scratch (Used ty g fill first count) entry is = (let same = eqb-true g scratch is in let bound = entry.0 in omega arith)

      go : (to : Option ℕ) → moved_to (ms a s p) x ≡ to → ⊥
      go None e =
          let here = now_unmoved a s (ms a s p) p.sound (its a s p) x o there e in
          none (x, o, there, record { from = omega arith; below = omega arith })
      go (Some index) e =
          let at_index : new_of s.moves o.place ≡ index = (said a s (ms a s p) p.sound (its a s p) x o there).0 ∙ ap (λ (t : Option ℕ). (settled t o).place) e in
          let placed : IsPlaced s.pages (moved_object o index) = subst (λ (t : Option ℕ). IsPlaced s.pages (settled t o)) e (placed_now a s (ms a s p) p.sound (its a s p) x o there) in
          let most = (its a s p).most_before page in
          let at : (512 * page + k) / 512 ≡ page = omega arith in
          let taken : is_page_of (entry_at s.pages page) scratch ≡ true =
          subst (λ (j : ℕ). is_page_of (entry_at s.pages j) scratch ≡ true) at (placed_page s.pages (moved_object o index) (its a s p).most placed (512 * page + k) (omega arith) (omega arith)) in
          elim ((its a s p).placing.fresh page) [
            | inl kept ↦ no_scratch (entry_at a.pages page) (p.sound.entries page) (ap (λ (t : Entry). is_page_of t scratch) (sym kept) ∙ taken)
            | inr was ↦ (let zero_fill : k < 0 = subst (λ (t : Entry). k < fill_of t) was.0 l in omega arith)
          ]

  -- so the first part holds again, whatever is written
  pub places-written : (word : ℕ) → IsPlacedSoFar a (written s (new_of s.moves o.place + i) word)
  places-written word =
      let index = new_of s.moves o.place + i in
      let long = length-set s.words (new_of s.moves o.place + i) word in
      record {
        sound = p.sound;
        generation = p.generation;
        most = p.most;
        long = long ∙ p.long;
        marks_long = p.marks_long ∙ sym long;
        room = p.room;
        order = p.order;
        once = p.once;
        met = p.met;
        placed = record { on_pages = p.placed.on_pages; moves = p.placed.moves };
        pins = p.pins;
        unpinned = p.unpinned;
        marks = p.marks;
        counted = p.counted;
        forwards = λ name q f moved.
            (let old = p.forwards name q f moved in
            let none : q.place + 0 ≡ q.place = omega arith in
            let first : q.place ≢ index = λ same. no_forward name q f moved 0 (omega arith) (none ∙ same) in
            let second = no_forward name q f moved 1 (omega arith) in
            (get_or-set_other s.words index q.place word 0 first ∙ old.0, get_or-set_other s.words index (q.place + 1) word 0 second ∙ old.1));
        owned = p.owned;
        fillers = λ page k l none. get_or-set_other s.words index (512 * page + k) word 0 (no_filler page k l none) ∙ p.fillers page k l none;
      }

  -- a word at another place of an object is as it was
  word_other : (word : ℕ) (name : ℕ) (q : Object) → object_at a.objects name ≡ Some q → (j : ℕ) → j < words_of_object q → (name ≡ x → j ≢ i) →
      slice_index (set s.words (new_of s.moves o.place + i) word) (new_of s.moves q.place + j) ≡ slice_index s.words (new_of s.moves q.place + j)
  word_other word name q f j l apart = get_or-set_other s.words (new_of s.moves o.place + i) (new_of s.moves q.place + j) word 0 (λ same. elim (cases_eq name x) [
    | inl is ↦ (let o_is : q ≡ o = same_Some q o (sym f ∙ (subst (λ (z : ℕ). object_at a.objects z ≡ Some o) (sym is) there)) in
        let places = ap (λ (r : Object). new_of s.moves r.place) o_is in
        apart is (omega arith))
    | inr not ↦ elim (now_apart a s (ms a s p) p.sound (its a s p) name x q o not f there) [ inl m ↦ omega arith | inr m ↦ omega arith ]
  ])

  word_here : (word : ℕ) → slice_index (set s.words (new_of s.moves o.place + i) word) (new_of s.moves o.place + i) ≡ word
  word_here word =
      let inside = now_inside a s (ms a s p) p.sound (its a s p) x o there in
      let long = p.long in
      get_or-set_same s.words (new_of s.moves o.place + i) word 0 (omega arith)

-- a field that gets its new word
module _ (a : NamedHeap) (s : CopyState) (h : Midway a s) (x : ℕ) (o : Object) (there : object_at a.objects x ≡ Some o) (i : ℕ) (v : Value) (is_field : slot_at o.contents i ≡ Some (Val v))
    (word : ℕ) (new : IsNewWord a s v word) where
  field_below : i < words_of_object o
  field_below = slot-below o.contents (h.places.sound.objects x o there).shape i (Val v) is_field

  -- a slot of an object is this field or another
  at_slot : (P : CopyState → Slot → ℕ → Type 0) → P (written s (new_of s.moves o.place + i) word) (Val v) word →
      (name : ℕ) (q : Object) → object_at a.objects name ≡ Some q → (j : ℕ) (slot : Slot) → slot_at q.contents j ≡ Some slot →
      P (written s (new_of s.moves o.place + i) word) slot (slice_index s.words (new_of s.moves q.place + j)) →
      P (written s (new_of s.moves o.place + i) word) slot (slice_index (set s.words (new_of s.moves o.place + i) word) (new_of s.moves q.place + j))
  at_slot P here name q f j slot e old =
      let below = slot-below q.contents (h.places.sound.objects name q f).shape j slot e in
      elim (cases_eq name x) [
        | inr not ↦ subst (λ (w : ℕ). P (written s (new_of s.moves o.place + i) word) slot w)
            (sym (word_other a s h.places x o there i field_below word name q f j below (λ is. absurd (not is)))) old
        | inl is ↦ elim (cases_eq j i) [
          | inr apart ↦ subst (λ (w : ℕ). P (written s (new_of s.moves o.place + i) word) slot w)
              (sym (word_other a s h.places x o there i field_below word name q f j below (λ _. apart))) old
          | inl same ↦ (let o_is : q ≡ o = same_Some q o (sym f ∙ (subst (λ (z : ℕ). object_at a.objects z ≡ Some o) (sym is) there)) in
              let slot_is : slot ≡ Val v = same_Some slot (Val v) (sym e ∙ ap (λ (r : Object). slot_at r.contents j) o_is ∙ ap (λ (k : ℕ). slot_at o.contents k) same ∙ is_field) in
              rw (slot_is, o_is, same, word_here a s h.places x o there i field_below word) here)
        ]
      ]

  pub grows-written : Grows a s (written s (new_of s.moves o.place + i) word)
  grows-written = record { more = []; moves = sym (append-nil s.moves); pins = refl; pass = refl; room = refl; marks = λ index was. refl; places = λ name q f was. refl }

  stands-on : (slot : Slot) (w : ℕ) → StandsMidway a s slot w → StandsMidway a (written s (new_of s.moves o.place + i) word) slot w
  stands-on (Raw r) w e = e
  stands-on (Val u) w e = either-stays a s (written s (new_of s.moves o.place + i) word) grows-written u w e
  stands-on (Side u) w e = e
  stands-on Kept w e = tt

  pub midway-written : Midway a (written s (new_of s.moves o.place + i) word)
  midway-written = record {
    places = places-written a s h.places x o there i field_below word;
    spelled = record {
      slots = λ name q f j slot e. at_slot (λ t k w. StandsMidway a t k w) (inr (record { settled = new.settled; is = new.is })) name q f j slot e
          (stands-on slot (slice_index s.words (new_of s.moves q.place + j)) (h.spelled.slots name q f j slot e));
      kept = λ name q f j e. kept_at name q f j e;
    };
  }
    where
      kept_at : (name : ℕ) (q : Object) → object_at a.objects name ≡ Some q → (j : ℕ) → slot_at q.contents j ≡ Some Kept →
          slice_index (set s.words (new_of s.moves o.place + i) word) (new_of s.moves q.place + j) ≡ 0
      kept_at name q f j e =
          let below = slot-below q.contents (h.places.sound.objects name q f).shape j Kept e in
          word_other a s h.places x o there i field_below word name q f j below (λ is same.
          (let o_is : q ≡ o = same_Some q o (sym f ∙ (subst (λ (z : ℕ). object_at a.objects z ≡ Some o) (sym is) there)) in
          let never : Some Kept ≡ Some (Val v) = sym e ∙ ap (λ (r : Object). slot_at r.contents j) o_is ∙ ap (λ (k : ℕ). slot_at o.contents k) same ∙ is_field in
          cc)) ∙ h.spelled.kept name q f j e

  pub follows-written : Follows a s (written s (new_of s.moves o.place + i) word)
  follows-written = record {
    grows = grows-written;
    fields = λ name q f was j u e n.
        new-word-stays a s (written s (new_of s.moves o.place + i) word) grows-written u (slice_index (set s.words (new_of s.moves o.place + i) word) (new_of s.moves q.place + j))
        (at_slot (λ t k w. field_is k w) (λ u' same. (let is : v ≡ u' = val_is v u' same in subst (λ (y : Value). IsNewWord a s y word) is new)) name q f j (Val u) e
        (λ u' same. (let is : u ≡ u' = val_is u u' same in subst (λ (y : Value). IsNewWord a s y (slice_index s.words (new_of s.moves q.place + j))) is n)) u refl);
  }
    where
      field_is : Slot → ℕ → Type 0
      field_is k w = (u : Value) → k ≡ Val u → IsNewWord a s u w

      val_is : (u u' : Value) → Val u ≡ Val u' → u ≡ u'
      val_is u u' same = cc
