-- Wiping a page, one double word or one object after another.
use Rattle.std.proofs.Common.{◌≡◌, ◌≢◌, ℕ, ◌+◌, ◌-◌, ◌*◌, ◌/◌, ◌%◌, ◌<◌, ◌≤◌, List, length, set, Some, true, false, ◌⊎◌, inl, inr, refl, sym, ◌∙◌, ap, subst, arith}
use Rattle.std.proofs.lemmas.Bool.{cases_lt, cases_eq, cases_Bool, eq-eqb, false≢true}
use Rattle.std.proofs.lemmas.List.{length-set, get_or-set_same, get_or-set_other}
use Rattle.std.proofs.lemmas.Option.{same_Some}
use Rattle.std.specs.Prelude.{slice_index, ◌==◌}
use Rattle.heap_terms.specs.declared.kinds.PageType.{PageType}
use Rattle.heap_terms.specs.declared.pages.Entry.{Entry}
use Rattle.heap_terms.specs.declared.pages.Entry.TheVariants.{Free, Used}
use Rattle.heap_terms.specs.Heap.{NamedHeap, object_at, entry_at, fill_of}
use Rattle.heap_terms.specs.Layout.{filler_word, page_type_of}
use Rattle.heap_terms.specs.Objects.{Object, kind_of, payload_of, words_of_object}
use Rattle.heap_terms.specs.OnPages.{IsOwned, IsOnPage, IsPageOfRun, IsPlaced, IsEntry}
use Rattle.heap_terms.specs.Placement.{scratch}
use Rattle.heap_terms.specs.Regions.{is_small}
use Rattle.pass_laws.proofs.Landing.{used_inside}
use Rattle.pass_laws.proofs.Sizes.{words_least, words_even, large_least, large_needs}
use Rattle.copy_space.specs.Marks.{mark_at}
use Rattle.copy_space.specs.Moved.{new_of}
use Rattle.copy_space.specs.Pages.{is_page_of}
use Rattle.copy_space.specs.Settled.{is_settled}
use Rattle.copy_space.specs.State.{CopyState}
use Rattle.copy_space.proofs.Places.{now_even, now_apart}
use Rattle.copy_space.proofs.Referents.{ms, its}
use Rattle.copy_space.proofs.Shapes.{payload-most}
use Rattle.page_sweep.specs.Swept.{remaining_now}
use Rattle.page_sweep.specs.Wiping.{Tracing, lies_there, IsSizedAt, KeepsSettled, CanWipe, IsWiped}
use Rattle.page_sweep.proofs.Remaining.{owned-now, LiesThere, LyingAt, lies-there, lying-at}

-- the page of a word of an object, where it is no part of a longer run: the object lies on it
pub record IsSingle (o : Object) (ty : PageType) (fill page : ℕ) : Type 0 where
  pub typed : ty ≡ page_type_of (kind_of o.contents)
  pub at : o.place / 512 ≡ page
  pub fits : o.place % 512 + words_of_object o ≤ fill

pub single : (pages : List Entry) (o : Object) (ty : PageType) (g fill first i : ℕ) → fill ≤ 512 → entry_at pages (i / 512) ≡ Used ty g fill first 1 →
    ((page : ℕ) → fill_of (entry_at pages page) ≤ 512) → IsPlaced pages o → o.place ≤ i → i < o.place + words_of_object o → IsSingle o ty fill (i / 512)
single pages o ty g fill first i bound e most h from below = elim (cases_Bool (is_small (words_of_object o))) [
  | inl small ↦ small_way (h.small small)
  | inr large ↦ (let start = h.large_start large in
      let needs = large_needs (words_of_object o) large in
      let least = large_least (words_of_object o) large in
      let d = i - o.place in
      let j = d / 512 in
      let in_run : j < (words_of_object o + 511) / 512 = omega arith in
      let same : i / 512 ≡ o.place / 512 + j = omega arith in
      let on : IsPageOfRun o j (Used ty g fill first 1) = subst (λ (t : Entry). IsPageOfRun o j t) e (rw same (h.large large j (rw needs in_run))) in
      let one = on.3 in
      absurd (omega (arith, one, needs, least)))
]
  where
    end_of_page : (e : Entry) → IsOnPage o e → o.place % 512 + words_of_object o ≤ fill_of e
    end_of_page Free on = absurd on
    end_of_page (Used ty g fill first pages) on = on.4

    small_way : IsOnPage o (entry_at pages (o.place / 512)) → IsSingle o ty fill (i / 512)
    small_way on =
        let fits = end_of_page (entry_at pages (o.place / 512)) on in
        let limit = most (o.place / 512) in
        let same : o.place / 512 ≡ i / 512 = omega arith in
        let its : IsOnPage o (Used ty g fill first 1) = subst (λ (t : Entry). IsOnPage o t) (ap (entry_at pages) same ∙ e) on in
        record { typed = its.0; at = same; fits = its.4 }

-- how far a page is wiped
pub record IsWipedUpTo (at : Tracing) (old new : List ℕ) (page index : ℕ) : Type 0 where
  pub keeps : KeepsSettled at new
  pub even : index % 2 ≡ 0
  pub from : 512 * page ≤ index
  pub others : (i : ℕ) → i / 512 ≢ page → slice_index new i ≡ slice_index old i
  pub fillers : (i : ℕ) → 512 * page ≤ i → i < index → ¬ IsOwned (remaining_now at.heap at.state) i → slice_index new i ≡ filler_word
  pub edge : (x : ℕ) (o : Object) → object_at at.heap.objects x ≡ Some o → is_settled at.heap at.state x ≡ true →
      (new_of at.state.moves o.place + words_of_object o ≤ index) ⊎ (index ≤ new_of at.state.moves o.place)

module _ (at : Tracing) (old : List ℕ) (page fill : ℕ) (ty : PageType) (can : CanWipe at old page ty fill) where
  abbrev a : NamedHeap
  a = at.heap

  abbrev s : CopyState
  s = at.state

  -- what the code needs of numbers
  pub record Room : Type 0 where
    pub even : fill % 2 ≡ 0
    pub most : fill ≤ 512
    pub inside : 512 * page + fill ≤ length old
    pub marks : 2 * length s.marks ≡ length old
    pub small : length old ≤ 524288

  pub room : Room
  room =
      let p = can.places in
      let inside = used_inside s.pages page ty s.pass.generation fill can.first 1 can.entry in
      let lengths = (its a s p).placing.lengths in
      let bound = p.generation in
      let same : entry_at s.pages page ≡ entry_at a.pages page = elim ((its a s p).placing.fresh page) [
        | inl same ↦ same
        | inr taken ↦ (let both : Used ty s.pass.generation fill can.first 1 ≡ Used taken.1.ty scratch taken.1.fill taken.1.first taken.1.count = sym can.entry ∙ taken.1.entry in
            let seven : s.pass.generation ≡ 7 = ap generation_of both in
            absurd (omega arith))
      ] in
      let its_fill : IsEntry (Used ty s.pass.generation fill can.first 1) = subst (λ (t : Entry). IsEntry t) (sym same ∙ can.entry) (p.sound.entries page) in
      let even = its_fill.1.even in
      let most = its_fill.1.most in
      let long = p.long in
      let long' = can.keeps.long in
      let marks_long = p.marks_long in
      let pages_most = p.most in
      record { even = even; most = most; inside = omega arith; marks = omega arith; small = omega arith }
    where
      generation_of : Entry → ℕ
      generation_of Free = 0
      generation_of (Used ty g fill first pages) = g

  its_page : (i : ℕ) → i / 512 ≡ page → is_page_of (entry_at s.pages (i / 512)) s.pass.generation ≡ true
  its_page i on =
      let gen : (s.pass.generation == s.pass.generation) ≡ true = eq-eqb s.pass.generation s.pass.generation refl in
      ap (λ (p : ℕ). is_page_of (entry_at s.pages p) s.pass.generation) on ∙ ap (λ (t : Entry). is_page_of t s.pass.generation) can.entry ∙ gen

  its_entry : (i : ℕ) → i / 512 ≡ page → entry_at s.pages (i / 512) ≡ Used ty s.pass.generation fill can.first 1
  its_entry i on = ap (entry_at s.pages) on ∙ can.entry

  -- an object of which a word is on the page lies on it, where it was
  pub lies-on : (x : ℕ) (o : Object) (i : ℕ) → object_at a.objects x ≡ Some o → is_settled a s x ≡ true → i / 512 ≡ page → new_of s.moves o.place ≤ i →
      i < new_of s.moves o.place + words_of_object o → LiesThere a s x o × IsSingle o ty fill page
  lies-on x o i e lives on from below =
      let p = can.places in
      let there = lies-there a s p x o i e lives from below (its_page i on) in
      let here = there.here in
      let on_it = single s.pages o ty s.pass.generation fill can.first i room.most (its_entry i on) (its a s p).most there.placed (omega arith) (omega arith) in
      (there, subst (λ (p : ℕ). IsSingle o ty fill p) on on_it)

  pub begun : IsWipedUpTo at old old page (512 * page)
  begun = record {
    keeps = can.keeps;
    even = omega arith;
    from = omega arith;
    others = λ i apart. refl;
    fillers = λ i from below. absurd (omega arith);
    edge = edge;
  }
    where
      edge : (x : ℕ) (o : Object) → object_at a.objects x ≡ Some o → is_settled a s x ≡ true →
          (new_of s.moves o.place + words_of_object o ≤ 512 * page) ⊎ (512 * page ≤ new_of s.moves o.place)
      edge x o e lives = elim (cases_lt (new_of s.moves o.place) (512 * page)) [
        | inr behind ↦ inr behind
        | inl before ↦ elim (cases_lt (512 * page) (new_of s.moves o.place + words_of_object o)) [
          | inr ends ↦ inl ends
          | inl over ↦ (let first : (512 * page) / 512 ≡ page = omega arith in
              let on = lies-on x o (512 * page) e lives first (omega arith) over in
              let here = on.0.here in
              let at = on.1.at in
              absurd (omega arith))
        ]
      ]

  -- an object that lies at the index is passed over
  pub record IsPassed (new : List ℕ) (index size : ℕ) : Type 0 where
    pub sized : IsSizedAt new index ty size
    pub next : IsWipedUpTo at old new page (index + size)
    pub fits : index + size ≤ 512 * page + fill
    pub least : 2 ≤ size

  pub passed : (new : List ℕ) (index : ℕ) → IsWipedUpTo at old new page index → index < 512 * page + fill → lies_there (mark_at s.marks index) ≡ true → (size : ℕ) × IsPassed new index size
  passed new index u below lies = (words_of_object o, record { sized = sized; next = next; fits = fits; least = words_least o })
    where
      lying : LyingAt a s index
      lying = lying-at a s can.places index u.even lies

      o : Object
      o = lying.o

      on_page : index / 512 ≡ page
      on_page = (let from = u.from in let most = room.most in omega arith)

      lies_here : IsSingle o ty fill page
      lies_here =
          let here = lying.here in
          let least = words_least o in
          (lies-on lying.name o index lying.there lying.is_settled on_page (omega arith) (omega arith)).1

      fits : index + words_of_object o ≤ 512 * page + fill
      fits = (let at = lies_here.at in let ends = lies_here.fits in let place = lying.place in omega arith)

      sized : IsSizedAt new index ty (words_of_object o)
      sized = record {
        kind = kind_of o.contents;
        n = payload_of o.contents;
        typed = lies_here.typed;
        most = payload-most o.contents (can.places.sound.objects lying.name o lying.there).shape;
        headed = λ headed.
            (let least = words_least o in
            let kept = u.keeps.kept lying.name o lying.there lying.is_settled 0 (omega arith) in
            let here = lying.here in
            let first : new_of s.moves o.place + 0 ≡ index = omega arith in
            let none : new_of s.moves o.place + 0 ≡ new_of s.moves o.place = omega arith in
            ap (λ (i : ℕ). slice_index new i) (sym first) ∙ kept ∙ ap (λ (i : ℕ). slice_index s.words i) none ∙ can.headed lying.name o lying.there lying.is_settled headed);
        size_is = refl;
      }

      next : IsWipedUpTo at old new page (index + words_of_object o)
      next = record {
        keeps = u.keeps;
        even = (let even = u.even in let words = words_even o in omega arith);
        from = (let from = u.from in omega arith);
        others = u.others;
        fillers = λ i from less free. (elim (cases_lt i index) [
          | inl before ↦ u.fillers i from before free
          | inr behind ↦ (let here = lying.here in absurd (free (owned-now a s lying.name o i lying.there lying.is_settled (omega arith) (omega arith))))
        ]);
        edge = λ x q e lives. (elim (u.edge x q e lives) [
          | inl before ↦ inl (omega arith)
          | inr behind ↦ elim (cases_eq x lying.name) [
            | inl same ↦ (let both : Some q ≡ Some o = sym e ∙ ap (object_at a.objects) same ∙ lying.there in
                let is : q ≡ o = same_Some q o both in
                let here = lying.here in
                let place : new_of s.moves q.place ≡ new_of s.moves o.place = ap (λ (r : Object). new_of s.moves r.place) is in
                let size : words_of_object q ≡ words_of_object o = ap words_of_object is in
                inl (omega arith))
            | inr apart ↦ (let here = lying.here in
                let least = words_least q in
                elim (now_apart a s (ms a s can.places) can.places.sound (its a s can.places) x lying.name q o apart e lying.there) [
                  | inl l ↦ absurd (let least' = words_least q in omega arith)
                  | inr l ↦ inr (omega arith)
                ])
          ]
        ]);
      }

  -- a double word at which nothing remains becomes fillers
  module _ (new : List ℕ) (index : ℕ) (u : IsWipedUpTo at old new page index) (below : index < 512 * page + fill) (gone : lies_there (mark_at s.marks index) ≡ false) where
    abbrev pub two_more : List ℕ
    two_more = set (set new index filler_word) (index + 1) filler_word

    in_page : index + 2 ≤ 512 * page + fill
    in_page = (let r = room in let even = r.even in let e = u.even in let most = r.most in omega arith)

    pub in_space : index + 2 ≤ length new
    in_space = (let r = room in let inside = r.inside in let p = in_page in let long = u.keeps.long in let long' = can.keeps.long in omega arith)

    on_page : index / 512 ≡ page
    on_page = (let from = u.from in let most = room.most in let p = in_page in omega arith)

    -- nothing begins there
    none_begins : (x : ℕ) (o : Object) → object_at a.objects x ≡ Some o → is_settled a s x ≡ true → new_of s.moves o.place ≡ index → ⊥
    none_begins x o e lives here =
        let least = words_least o in
        let on = lies-on x o index e lives on_page (omega arith) (omega arith) in
        let stays = on.0.here in
        let at : o.place ≡ index = omega arith in
        false≢true (sym gone ∙ ap (λ (i : ℕ). lies_there (mark_at s.marks i)) (sym at) ∙ on.0.mark)

    -- so each settled object ends before or begins behind
    clear_of : (x : ℕ) (o : Object) → object_at a.objects x ≡ Some o → is_settled a s x ≡ true →
        (new_of s.moves o.place + words_of_object o ≤ index) ⊎ (index + 2 ≤ new_of s.moves o.place)
    clear_of x o e lives = elim (u.edge x o e lives) [
      | inl before ↦ inl before
      | inr behind ↦ (let p = can.places in
          let even = now_even a s (ms a s p) p.sound (its a s p) x o e in
          let e' = u.even in
          elim (cases_eq (new_of s.moves o.place) index) [
            | inl same ↦ absurd (none_begins x o e lives same)
            | inr apart ↦ inr (omega arith)
          ])
    ]

    other_word : (i : ℕ) → i ≢ index → i ≢ index + 1 → slice_index two_more i ≡ slice_index new i
    other_word i first second = get_or-set_other (set new index filler_word) (index + 1) i filler_word 0 second ∙ get_or-set_other new index i filler_word 0 first

    first_word : slice_index two_more index ≡ filler_word
    first_word =
        let l = in_space in
        get_or-set_other (set new index filler_word) (index + 1) index filler_word 0 (λ same. omega (arith, same)) ∙ get_or-set_same new index filler_word 0 (omega arith)

    second_word : slice_index two_more (index + 1) ≡ filler_word
    second_word =
        let l = in_space in
        let long = length-set new index filler_word in
        get_or-set_same (set new index filler_word) (index + 1) filler_word 0 (omega arith)

    pub wiped : IsWipedUpTo at old two_more page (index + 2)
    wiped = record {
      keeps = record {
        long = length-set (set new index filler_word) (index + 1) filler_word ∙ length-set new index filler_word ∙ u.keeps.long;
        kept = λ x o e lives i less.
            (elim (clear_of x o e lives) [
              | inl before ↦ other_word (new_of s.moves o.place + i) (λ same. omega (arith, same)) (λ same. omega (arith, same)) ∙ u.keeps.kept x o e lives i less
              | inr behind ↦ other_word (new_of s.moves o.place + i) (λ same. omega (arith, same)) (λ same. omega (arith, same)) ∙ u.keeps.kept x o e lives i less
            ]);
      };
      even = (let even = u.even in omega arith);
      from = (let from = u.from in omega arith);
      others = λ i apart.
          (let on = on_page in let e = u.even in
          other_word i (λ same. apart (ap (λ (j : ℕ). j / 512) same ∙ on)) (λ same. apart (let half : i / 512 ≡ index / 512 = omega (arith, same, e) in half ∙ on)) ∙ u.others i apart);
      fillers = λ i from less free. (elim (cases_eq i index) [
        | inl same ↦ ap (slice_index two_more) same ∙ first_word
        | inr first ↦ elim (cases_eq i (index + 1)) [
          | inl same ↦ ap (slice_index two_more) same ∙ second_word
          | inr second ↦ other_word i first second ∙ u.fillers i from (omega arith) free
        ]
      ]);
      edge = λ x o e lives. (elim (clear_of x o e lives) [ inl before ↦ inl (omega arith) | inr behind ↦ inr behind ]);
    }

  -- at the end the page is clean
  pub ended : (new : List ℕ) (index : ℕ) → IsWipedUpTo at old new page index → 512 * page + fill ≤ index → IsWiped at old new page fill
  ended new index u behind = record {
    keeps = u.keeps;
    others = u.others;
    clean = λ i less free. u.fillers (512 * page + i) (omega arith) (omega arith) free;
  }
