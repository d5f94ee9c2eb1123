-- One object is settled: from a state midway, its next state is midway again.
use Rattle.std.proofs.Common.{◌≡◌, ◌≢◌, ℕ, ◌+◌, ◌*◌, ◌/◌, ◌%◌, ◌<◌, ◌≤◌, List, [], ◌∷◌, ◌++◌, map, length, get_or, set, Option, Some, None, Bool, true, false, cond, ◌⊎◌, inl, inr, refl, sym, ◌∙◌, ap, subst, nat_eq, arith}
use Rattle.std.proofs.lemmas.Bool.{cases_lt, cases_eq, eq-eqb, eqb-true, ne_eqb, false≢true}
use Rattle.std.proofs.lemmas.List.{length-set, length-append, get_or-set_same, get_or-set_other, get_or-map, get_or_default}
use Rattle.std.proofs.lemmas.List.Elements.{All-push}
use Rattle.std.proofs.lemmas.List.Sums.{sum_by-set}
use Rattle.std.proofs.lemmas.List.Quantifiers.{all_pairs_push}
use Rattle.std.proofs.lemmas.List.Folds.{list_any_at}
use Rattle.std.proofs.lemmas.Option.{same_Some}
use Rattle.std.specs.List.{list_any}
use Rattle.std.specs.Prelude.{AllPairs, count_by, ◌==◌, if◌then◌else◌, unwrap_or, slice_index}
use Rattle.heap_terms.specs.declared.cells.Value.TheVariants.{Ref}
use Rattle.heap_terms.specs.declared.events.Placing.{Placing}
use Rattle.heap_terms.specs.declared.pages.Entry.{Entry}
use Rattle.heap_terms.specs.declared.pages.Entry.TheVariants.{Free, Used}
use Rattle.heap_terms.specs.Generations.{is_of}
use Rattle.heap_terms.specs.Heap.{NamedHeap, object_at, entry_at, fill_of}
use Rattle.heap_terms.specs.Layout.{page_type_of, reference_word}
use Rattle.heap_terms.specs.Objects.{Object, kind_of, words_of_object}
use Rattle.heap_terms.specs.OnPages.{IsOwned}
use Rattle.heap_terms.specs.Passes.{moved_to}
use Rattle.heap_terms.specs.Placement.{placement}
use Rattle.heap_terms.specs.Slots.{Slot, Raw, Val, Side, Kept, slot_at}
use Rattle.heap_terms.specs.Stands.{KeptStand}
use Rattle.heap_terms.specs.Spelling.{word_of_object}
use Rattle.pass_laws.proofs.PassExists.{placement-names}
use Rattle.pass_laws.proofs.Sizes.{words_least}
use Rattle.heap_terms.specs.OnPages.{IsEntry, IsPlaced}
use Rattle.heap_terms.specs.Placement.{Placement, scratch}
use Rattle.pass_laws.specs.Spread.{settled, moved_object}
use Rattle.pass_laws.proofs.Spreading.{is_in, moved_to-here}
use Rattle.copy_space.specs.declared.marks.Mark.{Mark}
use Rattle.copy_space.specs.declared.marks.Mark.TheVariants as marks
use Rattle.copy_space.specs.declared.notes.Move.{Move}
use Rattle.copy_space.specs.declared.placing.PagesInUse.{PagesInUse}
use Rattle.copy_space.specs.Frames.{Grows, Goes}
use Rattle.copy_space.specs.Marks.{mark_at, is_set}
use Rattle.copy_space.specs.Midway.{IsPlacement, IsPlacedSoFar, Midway, StandsMidway, SlotsMidway, forwarding_word}
use Rattle.copy_space.specs.Moved.{new_of, objects_now, mark_for}
use Rattle.copy_space.specs.Settled.{is_settled, word_now}
use Rattle.copy_space.specs.State.{CopyState}
use Rattle.copy_space.specs.Step.{IsStep}
use Rattle.copy_space.proofs.Copies.{IsForwarded}
use Rattle.copy_space.proofs.FrameLaws.{either-stays}
use Rattle.copy_space.proofs.Names.{now-there, was-before, same_name, new_of-at, new_of-other, has_move-at, has_move-other}
use Rattle.copy_space.proofs.NextPlace.{next-placement, next-whole, fills-to, taken-pages}
use Rattle.copy_space.proofs.Places.{Placed, placed-from, said, placed_before, page_kept, moved_away, now_apart, now_inside, placed_now, placed_page}
use Rattle.copy_space.specs.Pages.{is_page_of}
use Rattle.copy_space.proofs.Shapes.{slot-below}
use Rattle.copy_space.proofs.Referents.{is_moved, SaysFresh, says-fresh, ms, its, mark_is, there-of, here_unless_moved}

-- the state after an object was settled: it is where `new` says, with this mark
abbrev pub stepped : CopyState → List ℕ → List Entry → PagesInUse → ℕ → ℕ → Mark → CopyState
stepped s words pages in_use old new mark = record {
  words = words;
  pages = pages;
  marks = set s.marks (old / 2) mark;
  pins = s.pins;
  pass = s.pass;
  moves = s.moves ++ record { old = old; new = new } ∷ [];
  room = s.room;
  in_use = in_use;
}

-- one mark more is set
pub count-set : (ks : List Mark) (i : ℕ) (m : Mark) → i < length ks → is_set (get_or ks i marks.Fresh) ≡ false → is_set m ≡ true → count_by is_set (set ks i m) ≡ count_by is_set ks + 1
count-set ks i m l was now =
    let f : Mark → ℕ = λ k. cond {A = ℕ} (is_set k) 1 0 in
    let before : f (get_or ks i marks.Fresh) ≡ 0 = ap (λ (b : Bool). cond {A = ℕ} b 1 0) was in
    let after : f m ≡ 1 = ap (λ (b : Bool). cond {A = ℕ} b 1 0) now in
    let sums : count_by is_set (set ks i m) + f (get_or ks i marks.Fresh) ≡ count_by is_set ks + f m = sum_by-set f ks i m marks.Fresh l in
    omega (arith, sums, before, after)

-- an object that is to be settled
pub record IsNext (a : NamedHeap) (s : CopyState) (x : ℕ) (o : Object) : Type 0 where
  pub there : object_at a.objects x ≡ Some o
  pub of_it : is_of a s.pass.generation x ≡ true
  pub fresh : mark_at s.marks o.place ≡ marks.Fresh

module _ (a : NamedHeap) (s : CopyState) (h : Midway a s) (x : ℕ) (o : Object) (next : IsNext a s x o) (words : List ℕ) (pages : List Entry) (in_use : PagesInUse) (to : Option ℕ)
    (step : IsStep s.pages s.in_use (page_type_of (kind_of o.contents)) (words_of_object o) to pages in_use) (mark : Mark) where
  n : ℕ
  n = unwrap_or to o.place

  abbrev t : CopyState
  t = stepped s words pages in_use o.place (unwrap_or to o.place) mark

  abbrev p : IsPlacedSoFar a s
  p = h.places

  even : o.place % 2 ≡ 0
  even = (placed_before a s (ms a s p) p.sound (its a s p) x o next.there).even

  fresh : SaysFresh s.pins s.moves o.place
  fresh = says-fresh s.pins s.moves o.place (sym (mark_is a s p x o next.there) ∙ next.fresh)

  inside : o.place + words_of_object o ≤ 512 * length a.pages
  inside = (placed_before a s (ms a s p) p.sound (its a s p) x o next.there).inside

  mark_inside : o.place / 2 < length s.marks
  mark_inside =
      let l = p.long in
      let m = p.marks_long in
      let least = words_least o in
      let i = inside in
      omega arith

  pub new_here : new_of t.moves o.place ≡ unwrap_or to o.place
  new_here = new_of-at s.moves o.place (unwrap_or to o.place) fresh.unmoved

  new_other : (i : ℕ) → i ≢ o.place → new_of t.moves i ≡ new_of s.moves i
  new_other i apart = new_of-other s.moves o.place (unwrap_or to o.place) i apart

  -- others have other places, and other marks
  other_place : (y : ℕ) (q : Object) → object_at a.objects y ≡ Some q → y ≢ x → q.place ≢ o.place
  other_place y q f apart same = apart (same_name a p.sound y x q o f next.there same)

  mark_other : (i : ℕ) → i / 2 ≢ o.place / 2 → mark_at t.marks i ≡ mark_at s.marks i
  mark_other i apart = get_or-set_other s.marks (o.place / 2) (i / 2) mark marks.Fresh apart

  pub mark_here : mark_at t.marks o.place ≡ mark
  mark_here = get_or-set_same s.marks (o.place / 2) mark marks.Fresh mark_inside

  pub mark_of_other : (y : ℕ) (q : Object) → object_at a.objects y ≡ Some q → y ≢ x → mark_at t.marks q.place ≡ mark_at s.marks q.place
  mark_of_other y q f apart =
      let even_y = (placed_before a s (ms a s p) p.sound (its a s p) y q f).even in
      let even_x = even in
      let places = other_place y q f apart in
      mark_other q.place (λ same. places (omega arith))

  -- it was not settled
  not_settled : is_settled a s x ≡ false
  not_settled =
      let same : (o.generation == s.pass.generation) ≡ true = rw next.there at next.of_it in
      rw (next.there, same, next.fresh) refl

  pub grows : is_set mark ≡ true → Grows a s t
  grows on = record {
    more = record { old = o.place; new = unwrap_or to o.place } ∷ [];
    moves = refl;
    pins = refl;
    pass = refl;
    room = refl;
    marks = λ index was. mark_other index (λ same. false≢true (sym (ap (λ (i : ℕ). is_set (get_or s.marks i marks.Fresh)) same ∙ ap is_set next.fresh) ∙ was));
    places = λ name q f settled. new_other q.place (other_place name q f (λ same. false≢true (sym not_settled ∙ subst (λ (y : ℕ). is_settled a s y ≡ true) same settled)));
  }

  pub order : List ℕ
  order = p.order ++ x ∷ []

  placement_is : IsPlacement a t (p.order ++ x ∷ [])
  placement_is = next-placement a s t p.order x o to p.placed next.there step refl

  once : AllPairs (λ (y z : ℕ). y ≢ z) (p.order ++ x ∷ [])
  once = all_pairs_push (λ (y z : ℕ). y ≢ z) p.order x p.once (λ k d l same.
      (let names = placement-names a p.order (λ i m. there-of a s.pass.generation (get_or p.order i 0) (p.met i 0 m)) in
      let first : Placing = record { name = 0; old = 0; new = None } in
      let long : length (map (λ (m : Placing). m.name) (ms a s p)) ≡ length p.order = ap length names in
      let long' = length-names (ms a s p) in
      let inside' : k < length (ms a s p) = omega arith in
      let name_at : (get_or (ms a s p) k first).name ≡ x =
      sym (get_or-map (λ (m : Placing). m.name) (ms a s p) k first 0 inside') ∙ ap (λ (xs : List ℕ). get_or xs k 0) names ∙ get_or_default p.order k 0 d l ∙ same in
      let in_it : is_in (ms a s p) x ≡ true = list_any_at (λ (m : Placing). m.name == x) (ms a s p) k first inside' (eq-eqb (get_or (ms a s p) k first).name x name_at) in
      false≢true (sym fresh.unmoved ∙ (said a s (ms a s p) p.sound (its a s p) x o next.there).1 ∙ in_it)))
    where
      length-names : (xs : List Placing) → length (map (λ (m : Placing). m.name) xs) ≡ length xs
      length-names [] = refl
      length-names (y ∷ ys) = omega (arith, length-names ys)

  placed_t : Placed a t (placement a (p.order ++ x ∷ [])).moves
  placed_t = placed-from a t (p.order ++ x ∷ []) p.sound once placement_is

  marks_t : mark ≡ (if unwrap_or to o.place == o.place then marks.Stayed else marks.Moved) → (i : ℕ) → mark_at t.marks (2 * i) ≡ mark_for t.pins t.moves (2 * i)
  marks_t is i = elim (cases_eq (2 * i) o.place) [
    | inl same ↦ rw same (mark_here ∙ is ∙ sym (rw (fresh.unpinned, has_move-at s.moves o.place (unwrap_or to o.place) fresh.unmoved, new_here) refl))
    | inr apart ↦ (let even_x = even in
        let halves : (2 * i) / 2 ≢ o.place / 2 = λ same. apart (omega arith) in
        mark_other (2 * i) halves ∙ p.marks i
        ∙ sym (rw (has_move-other s.moves o.place (unwrap_or to o.place) (2 * i) apart, new_other (2 * i) apart) refl))
  ]

  -- the first part but for words and used words
  pub placed-next : is_set mark ≡ true → mark ≡ (if unwrap_or to o.place == o.place then marks.Stayed else marks.Moved) → length words ≡ length s.words →
      ((name : ℕ) (q : Object) → object_at a.objects name ≡ Some q → mark_at t.marks q.place ≡ marks.Moved →
      (slice_index words q.place ≡ forwarding_word) × (slice_index words (q.place + 1) ≡ word_now a t (Ref name))) →
      ((page i : ℕ) → entry_at a.pages page ≡ Free → i < fill_of (entry_at pages page) → IsOwned (objects_now a t.moves) (512 * page + i)) →
      ((page i : ℕ) → i < fill_of (entry_at a.pages page) → ¬ IsOwned a.objects (512 * page + i) → slice_index words (512 * page + i) ≡ slice_index s.words (512 * page + i)) →
      IsPlacedSoFar a t
  placed-next on is long forwards owned fillers =
      let marks_same = length-set s.marks (o.place / 2) mark in
      let was_long = p.marks_long in
      let room = p.room in
      let counted = p.counted in
      let more = length-append s.moves (record { old = o.place; new = unwrap_or to o.place } ∷ []) in
      let count = count-set s.marks (o.place / 2) mark mark_inside (ap is_set next.fresh) on in
      record {
        sound = p.sound;
        generation = p.generation;
        most = p.most;
        long = long ∙ p.long;
        marks_long = omega arith;
        room = omega arith;
        order = p.order ++ x ∷ [];
        once = once;
        met = All-push (λ name. is_of a s.pass.generation name ≡ true) p.order x p.met next.of_it;
        placed = placement_is;
        pins = p.pins;
        unpinned = All-push (λ (m : Move). list_any (nat_eq m.old) s.pins ≡ false) s.moves (record { old = o.place; new = unwrap_or to o.place }) p.unpinned fresh.unpinned;
        marks = marks_t is;
        counted = omega arith;
        forwards = forwards;
        owned = owned;
        fillers = λ page i l none. fillers page i l none ∙ p.fillers page i l none;
      }

  -- the word that refers to the object from now on
  pub its_word : word_now a t (Ref x) ≡ reference_word (unwrap_or to o.place) (kind_of o.contents)
  its_word = ap word_of_object (now-there a t.moves x o next.there) ∙ ap (λ (i : ℕ). reference_word i (kind_of o.contents)) new_here

  word_of_other : (y : ℕ) (q : Object) → object_at a.objects y ≡ Some q → y ≢ x → word_now a t (Ref y) ≡ word_now a s (Ref y)
  word_of_other y q f apart =
      ap word_of_object (now-there a t.moves y q f) ∙ ap (λ (i : ℕ). reference_word i (kind_of q.contents)) (new_other q.place (other_place y q f apart))
      ∙ sym (ap word_of_object (now-there a s.moves y q f))

  -- what is owned on a page that was free stays owned
  owned_stays : (page i : ℕ) → entry_at a.pages page ≡ Free → i < 512 → IsOwned (objects_now a s.moves) (512 * page + i) → IsOwned (objects_now a t.moves) (512 * page + i)
  owned_stays page i free less (y, q, f, belongs) =
      let was = was-before a s.moves y q f in
      elim (cases_eq y x) [
        | inr apart ↦ (
          y,
          q,
          now-there a t.moves y was.o was.there ∙ ap (λ (r : Object). Some r) (ap (λ (i : ℕ). record was.o { place = i }) (new_other was.o.place (other_place y was.o was.there apart)) ∙ sym was.is),
          belongs,
        )
        | inl same ↦ (let o_is : was.o ≡ o = same_Some was.o o (sym was.there ∙ (subst (λ (z : ℕ). object_at a.objects z ≡ Some o) (sym same) next.there)) in
            let unmoved : new_of s.moves o.place ≡ o.place = here_unless_moved a s p x o next.there (ap is_moved next.fresh) in
            let place_is : q.place ≡ o.place = ap (λ (r : Object). r.place) was.is ∙ ap (λ (r : Object). new_of s.moves r.place) o_is ∙ unmoved in
            let size_is : words_of_object q ≡ words_of_object o = ap words_of_object was.is ∙ ap words_of_object o_is in
            let from = belongs.from in
            let below = belongs.below in
            let kept = page_kept a s (ms a s p) p.sound (its a s p) x o (512 * page + i) next.there (omega arith) (omega arith) in
            let at : (512 * page + i) / 512 ≡ page = omega arith in
            let used : is_page_of (entry_at a.pages page) o.generation ≡ true = subst (λ (j : ℕ). is_page_of (entry_at a.pages j) o.generation ≡ true) at kept.1 in
            absurd (false≢true (ap (λ (e : Entry). is_page_of e o.generation) (sym free) ∙ used)))
      ]

  -- the words of slots
  stands_stays : is_set mark ≡ true → (slot : Slot) (word : ℕ) → StandsMidway a s slot word → StandsMidway a t slot word
  stands_stays on (Raw w) word e = e
  stands_stays on (Val v) word e = either-stays a s t (grows on) v word e
  stands_stays on (Side v) word e = e
  stands_stays on Kept word e = tt

  slot_inside : (y : ℕ) (q : Object) → object_at a.objects y ≡ Some q → (i : ℕ) (slot : Slot) → slot_at q.contents i ≡ Some slot → i < words_of_object q
  slot_inside y q f i slot e = slot-below q.contents (p.sound.objects y q f).shape i slot e

-- an object that found a place
module _ (a : NamedHeap) (s : CopyState) (h : Midway a s) (x : ℕ) (o : Object) (next : IsNext a s x o) (pages : List Entry) (in_use : PagesInUse) (index : ℕ)
    (step : IsStep s.pages s.in_use (page_type_of (kind_of o.contents)) (words_of_object o) (Some index) pages in_use) where
  after : List ℕ → CopyState
  after words = stepped s words pages in_use o.place index marks.Moved

  ms_after : List Placing
  ms_after = (placement a (h.places.order ++ x ∷ [])).moves

  its_after : (words : List ℕ) → Placed a (stepped s words pages in_use o.place index marks.Moved) (placement a (h.places.order ++ x ∷ [])).moves
  its_after words = placed_t a s h x o next words pages in_use (Some index) step marks.Moved

  moved_is : moved_to (placement a (h.places.order ++ x ∷ [])).moves x ≡ Some index
  moved_is =
      let none : is_in (ms a s h.places) x ≡ false =
      sym (said a s (ms a s h.places) h.places.sound (its a s h.places) x o next.there).1 ∙ (fresh a s h x o next s.words pages in_use (Some index) step marks.Moved).unmoved in
      ap (λ (r : Placement). moved_to r.moves x) (next-whole a s (stepped s s.words pages in_use o.place index marks.Moved) h.places.order x o (Some index) h.places.placed next.there step)
      ∙ moved_to-here (ms a s h.places) (record { name = x; old = o.place; new = Some index }) none

  here_after : (words : List ℕ) → new_of (stepped s words pages in_use o.place index marks.Moved).moves o.place ≡ index
  here_after words = new_here a s h x o next words pages in_use (Some index) step marks.Moved

  pub lands_inside : index + words_of_object o ≤ 512 * length a.pages
  lands_inside =
      let at = here_after s.words in
      let inside = now_inside a (stepped s s.words pages in_use o.place index marks.Moved) (placement a (h.places.order ++ x ∷ [])).moves h.places.sound (its_after s.words) x o next.there in
      omega arith

  -- it shares no word with any object as it was before the pass
  pub lands_apart : (y : ℕ) (q : Object) → object_at a.objects y ≡ Some q → (index + words_of_object o ≤ q.place) ⊎ (q.place + words_of_object q ≤ index)
  lands_apart y q f =
      let at = here_after s.words in
      elim (moved_away a (stepped s s.words pages in_use o.place index marks.Moved) (placement a (h.places.order ++ x ∷ [])).moves h.places.sound (its_after s.words) x y index o q next.there f moved_is) [
        | inl l ↦ inl (omega arith)
        | inr l ↦ inr (omega arith)
      ]

  pub lands_away : index ≢ o.place
  lands_away same = (let least = words_least o in elim (lands_apart x o next.there) [ inl l ↦ omega arith | inr l ↦ omega arith ])

  -- its words are not those that a page had below its fill
  lands_above : (page i : ℕ) → i < fill_of (entry_at a.pages page) → index ≤ 512 * page + i → 512 * page + i < index + words_of_object o → ⊥
  lands_above page i l from below =
      let it = its_after s.words in
      let most = it.most_before page in
      let placed : IsPlaced pages (moved_object o index) =
      subst (λ (to : Option ℕ). IsPlaced pages (settled to o)) moved_is
      (placed_now a (stepped s s.words pages in_use o.place index marks.Moved) (placement a (h.places.order ++ x ∷ [])).moves h.places.sound it x o next.there) in
      let at : (512 * page + i) / 512 ≡ page = omega arith in
      let taken : is_page_of (entry_at pages page) scratch ≡ true =
      subst (λ (j : ℕ). is_page_of (entry_at pages j) scratch ≡ true) at (placed_page pages (moved_object o index) it.most placed (512 * page + i) from below) in
      elim (it.placing.fresh page) [
        | inl same ↦ no_scratch (entry_at a.pages page) (h.places.sound.entries page) (ap (λ (e : Entry). is_page_of e scratch) (sym same) ∙ taken)
        | inr was ↦ (let none : i < 0 = subst (λ (e : Entry). i < fill_of e) was.0 l in omega arith)
      ]
    where
      no_scratch : (e : Entry) → IsEntry e → is_page_of e scratch ≡ true → ⊥
      no_scratch Free entry is = false≢true is
      no_scratch (Used ty g fill first count) entry is = (let same = eqb-true g scratch is in let bound = entry.0 in omega arith)

  module _ (words : List ℕ) (word : ℕ) (word_is : word ≡ reference_word index (kind_of o.contents)) (fw : IsForwarded s.words words o.place index (words_of_object o) word) where
    abbrev after_it : CopyState
    after_it = stepped s words pages in_use o.place index marks.Moved

    it_grows : Grows a s after_it
    it_grows = grows a s h x o next words pages in_use (Some index) step marks.Moved refl

    was_here : new_of s.moves o.place ≡ o.place
    was_here = here_unless_moved a s h.places x o next.there (ap is_moved next.fresh)

    place_other : (y : ℕ) (q : Object) → object_at a.objects y ≡ Some q → y ≢ x → new_of after_it.moves q.place ≡ new_of s.moves q.place
    place_other y q f apart = new_other a s h x o next words pages in_use (Some index) step marks.Moved q.place (other_place a s h x o next words pages in_use (Some index) step marks.Moved y q f apart)

    -- the words of every other object at its place now are as they were
    words_other : (y : ℕ) (q : Object) → object_at a.objects y ≡ Some q → y ≢ x → (i : ℕ) → i < words_of_object q → slice_index words (new_of s.moves q.place + i) ≡ slice_index s.words (new_of s.moves q.place + i)
    words_other y q f apart i l =
        let here = was_here in
        let new = here_after words in
        let same = place_other y q f apart in
        let old_apart : (new_of s.moves q.place + i < o.place) ⊎ (o.place + words_of_object o ≤ new_of s.moves q.place + i) =
        elim (now_apart a s (ms a s h.places) h.places.sound (its a s h.places) y x q o apart f next.there) [ inl m ↦ inl (omega arith) | inr m ↦ inr (omega arith) ] in
        let new_apart : (new_of s.moves q.place + i < index) ⊎ (index + words_of_object o ≤ new_of s.moves q.place + i) =
        elim (now_apart a after_it (placement a (h.places.order ++ x ∷ [])).moves h.places.sound (its_after words) y x q o apart f next.there) [ inl m ↦ inl (omega arith) | inr m ↦ inr (omega arith) ] in
        fw.others (new_of s.moves q.place + i) old_apart new_apart

    -- and so are those of its place before the pass
    words_before : (y : ℕ) (q : Object) → object_at a.objects y ≡ Some q → y ≢ x → (i : ℕ) → i < words_of_object q → slice_index words (q.place + i) ≡ slice_index s.words (q.place + i)
    words_before y q f apart i l =
        let old_apart : (q.place + i < o.place) ⊎ (o.place + words_of_object o ≤ q.place + i) =
        elim (h.places.sound.apart y x q o apart f next.there) [ inl m ↦ inl (omega arith) | inr m ↦ inr (omega arith) ] in
        let new_apart : (q.place + i < index) ⊎ (index + words_of_object o ≤ q.place + i) =
        elim (lands_apart y q f) [ inl m ↦ inr (omega arith) | inr m ↦ inl (omega arith) ] in
        fw.others (q.place + i) old_apart new_apart

    forwards_next : (name : ℕ) (q : Object) → object_at a.objects name ≡ Some q → mark_at after_it.marks q.place ≡ marks.Moved →
        (slice_index words q.place ≡ forwarding_word) × (slice_index words (q.place + 1) ≡ word_now a after_it (Ref name))
    forwards_next name q f moved = elim (cases_eq name x) [
      | inl same ↦ (let o_is : q ≡ o = same_Some q o (sym f ∙ (subst (λ (z : ℕ). object_at a.objects z ≡ Some o) (sym same) next.there)) in
          rw (same, o_is) (fw.first, fw.second ∙ word_is ∙ sym (its_word a s h x o next words pages in_use (Some index) step marks.Moved)))
      | inr apart ↦ (let was : mark_at s.marks q.place ≡ marks.Moved = sym (mark_of_other a s h x o next words pages in_use (Some index) step marks.Moved name q f apart) ∙ moved in
          let forward = h.places.forwards name q f was in
          let least = words_least q in
          let none : q.place + 0 ≡ q.place = omega arith in (
            subst (λ (j : ℕ). slice_index words j ≡ slice_index s.words j) none (words_before name q f apart 0 (omega arith)) ∙ forward.0,
            words_before name q f apart 1 (omega arith) ∙ forward.1 ∙ sym (word_of_other a s h x o next words pages in_use (Some index) step marks.Moved name q f apart),
          ))
    ]

    owned_next : (page i : ℕ) → entry_at a.pages page ≡ Free → i < fill_of (entry_at pages page) → IsOwned (objects_now a after_it.moves) (512 * page + i)
    owned_next page i free l =
        let taken = taken-pages s.pages s.in_use (ms a s h.places) (its a s h.places).placing.in_use in
        let fills = fills-to s.pages pages s.in_use in_use (page_type_of (kind_of o.contents)) (words_of_object o) index (words_least o) taken step in
        elim (fills.words page i l) [
          | inl was ↦ (let most = (its a s h.places).most page in
              owned_stays a s h x o next words pages in_use (Some index) step marks.Moved page i free (omega arith) (h.places.owned page i free was))
          | inr within ↦ (let at = here_after words in
              (x, record o { place = new_of after_it.moves o.place }, now-there a after_it.moves x o next.there, record { from = rw at (within.0); below = rw at (within.1) }))
        ]

    fillers_next : (page i : ℕ) → i < fill_of (entry_at a.pages page) → ¬ IsOwned a.objects (512 * page + i) → slice_index words (512 * page + i) ≡ slice_index s.words (512 * page + i)
    fillers_next page i l none =
        let old_apart : (512 * page + i < o.place) ⊎ (o.place + words_of_object o ≤ 512 * page + i) = elim (cases_lt (512 * page + i) o.place) [
          | inl m ↦ inl m
          | inr m ↦ elim (cases_lt (512 * page + i) (o.place + words_of_object o)) [
            | inl k ↦ absurd (none (x, o, next.there, record { from = m; below = k }))
            | inr k ↦ inr k
          ]
        ] in
        let new_apart : (512 * page + i < index) ⊎ (index + words_of_object o ≤ 512 * page + i) = elim (cases_lt (512 * page + i) index) [
          | inl m ↦ inl m
          | inr m ↦ elim (cases_lt (512 * page + i) (index + words_of_object o)) [
            | inl k ↦ absurd (lands_above page i l m k)
            | inr k ↦ inr k
          ]
        ] in
        fw.others (512 * page + i) old_apart new_apart

    places_next : IsPlacedSoFar a after_it
    places_next =
        placed-next a s h x o next words pages in_use (Some index) step marks.Moved refl
        (let away : (index == o.place) ≡ false = ne_eqb index o.place lands_away in sym (rw away refl)) fw.long forwards_next owned_next fillers_next

    -- the words of every object at its place now are those at its place before this step
    words_kept : (name : ℕ) (q : Object) → object_at a.objects name ≡ Some q → (i : ℕ) → i < words_of_object q →
        slice_index words (new_of after_it.moves q.place + i) ≡ slice_index s.words (new_of s.moves q.place + i)
    words_kept name q f i below = elim (cases_eq name x) [
      | inl same ↦ (let o_is : q ≡ o = same_Some q o (sym f ∙ (subst (λ (z : ℕ). object_at a.objects z ≡ Some o) (sym same) next.there)) in
          let below' : i < words_of_object o = subst (λ (r : Object). i < words_of_object r) o_is below in
          rw o_is (ap (λ (j : ℕ). slice_index words (j + i)) (here_after words) ∙ fw.copy i below' ∙ ap (λ (j : ℕ). slice_index s.words (j + i)) (sym was_here)))
      | inr apart ↦ ap (λ (j : ℕ). slice_index words (j + i)) (place_other name q f apart) ∙ words_other name q f apart i below
    ]

    slots_next : (name : ℕ) (q : Object) → object_at a.objects name ≡ Some q → SlotsMidway a after_it (new_of after_it.moves q.place) q.contents
    slots_next name q f i slot e =
        let below = slot_inside a s h x o next words pages in_use (Some index) step marks.Moved name q f i slot e in
        let old = stands_stays a s h x o next words pages in_use (Some index) step marks.Moved refl slot (slice_index s.words (new_of s.moves q.place + i)) (h.spelled.slots name q f i slot e) in
        subst (λ (w : ℕ). StandsMidway a after_it slot w) (sym (words_kept name q f i below)) old

    kept_next : (name : ℕ) (q : Object) → object_at a.objects name ≡ Some q → KeptStand words (new_of after_it.moves q.place) q.contents
    kept_next name q f i e =
        words_kept name q f i (slot_inside a s h x o next words pages in_use (Some index) step marks.Moved name q f i Kept e) ∙ h.spelled.kept name q f i e

    pub midway_moved : Midway a after_it
    midway_moved = record { places = places_next; spelled = record { slots = slots_next; kept = kept_next } }

    pub goes_moved : Goes a s after_it
    goes_moved = record {
      grows = it_grows;
      words = λ name q f settled i l. words_other name q f (λ same. false≢true (sym (not_settled a s h x o next words pages in_use (Some index) step marks.Moved) ∙ subst (λ (y : ℕ). is_settled a s y ≡ true) same settled)) i l;
    }

-- an object that found none
module _ (a : NamedHeap) (s : CopyState) (h : Midway a s) (x : ℕ) (o : Object) (next : IsNext a s x o)
    (step : IsStep s.pages s.in_use (page_type_of (kind_of o.contents)) (words_of_object o) None s.pages s.in_use) where
  abbrev stayed : CopyState
  stayed = stepped s s.words s.pages s.in_use o.place o.place marks.Stayed

  stay_here : new_of s.moves o.place ≡ o.place
  stay_here = here_unless_moved a s h.places x o next.there (ap is_moved next.fresh)

  stay_place : (y : ℕ) (q : Object) → object_at a.objects y ≡ Some q → new_of stayed.moves q.place ≡ new_of s.moves q.place
  stay_place y q f = elim (cases_eq y x) [
    | inl same ↦ (let o_is : q ≡ o = same_Some q o (sym f ∙ (subst (λ (z : ℕ). object_at a.objects z ≡ Some o) (sym same) next.there)) in
        rw o_is (new_here a s h x o next s.words s.pages s.in_use None step marks.Stayed ∙ sym stay_here))
    | inr apart ↦ new_other a s h x o next s.words s.pages s.in_use None step marks.Stayed q.place (other_place a s h x o next s.words s.pages s.in_use None step marks.Stayed y q f apart)
  ]

  stay_forwards : (name : ℕ) (q : Object) → object_at a.objects name ≡ Some q → mark_at stayed.marks q.place ≡ marks.Moved →
      (slice_index s.words q.place ≡ forwarding_word) × (slice_index s.words (q.place + 1) ≡ word_now a stayed (Ref name))
  stay_forwards name q f moved = elim (cases_eq name x) [
    | inl same ↦ (let o_is : q ≡ o = same_Some q o (sym f ∙ (subst (λ (z : ℕ). object_at a.objects z ≡ Some o) (sym same) next.there)) in
        let here : mark_at stayed.marks q.place ≡ marks.Stayed = rw o_is (mark_here a s h x o next s.words s.pages s.in_use None step marks.Stayed) in
        absurd (false≢true (ap is_moved (sym here ∙ moved))))
    | inr apart ↦ (let was : mark_at s.marks q.place ≡ marks.Moved = sym (mark_of_other a s h x o next s.words s.pages s.in_use None step marks.Stayed name q f apart) ∙ moved in
        let forward = h.places.forwards name q f was in
        (forward.0, forward.1 ∙ sym (word_of_other a s h x o next s.words s.pages s.in_use None step marks.Stayed name q f apart)))
  ]

  pub midway_stayed : Midway a stayed
  midway_stayed = record {
    places = placed-next a s h x o next s.words s.pages s.in_use None step marks.Stayed refl
        (let same : (o.place == o.place) ≡ true = eq-eqb o.place o.place refl in sym (rw same refl)) refl stay_forwards
        (λ page i free l. (let most = (its a s h.places).most page in
        owned_stays a s h x o next s.words s.pages s.in_use None step marks.Stayed page i free (omega arith) (h.places.owned page i free l)))
        (λ page i l none. refl);
    spelled = record {
      slots = λ name q f i slot e.
          (let stays = stands_stays a s h x o next s.words s.pages s.in_use None step marks.Stayed refl slot (slice_index s.words (new_of s.moves q.place + i)) (h.spelled.slots name q f i slot e) in
          subst (λ (j : ℕ). StandsMidway a stayed slot (slice_index s.words (j + i))) (sym (stay_place name q f)) stays);
      kept = λ name q f i e. ap (λ (j : ℕ). slice_index s.words (j + i)) (stay_place name q f) ∙ h.spelled.kept name q f i e;
    };
  }

  pub goes_stayed : Goes a s stayed
  goes_stayed = record { grows = grows a s h x o next s.words s.pages s.in_use None step marks.Stayed refl; words = λ name q f settled i l. refl }
