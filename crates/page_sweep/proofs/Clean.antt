-- Which pages are clean at the end of tracing without being wiped: those that the pass took, those of other generations, and
-- those of a run of several pages that is held.
use Rattle.std.proofs.Common.{◌≡◌, ◌≢◌, ℕ, ◌+◌, ◌-◌, ◌*◌, ◌/◌, ◌<◌, ◌≤◌, List, get_or, Option, Some, None, true, false, inl, inr, refl, sym, ◌∙◌, ap, subst, nat_eq, arith}
use Rattle.std.proofs.lemmas.Bool.{cases_lt, cases_Bool, eq-eqb, eqb-true, ne_eqb, or_cases, and_parts}
use Rattle.std.proofs.lemmas.List.Folds.{list_any_at}
use Rattle.std.specs.List.{list_any}
use Rattle.std.specs.Prelude.{not, ◌&&◌, ◌==◌, slice_index}
use Rattle.heap_terms.specs.declared.kinds.PageType.{PageType}
use Rattle.heap_terms.specs.declared.pages.Entry.{Entry}
use Rattle.heap_terms.specs.declared.pages.Entry.TheVariants.{Free, Used}
use Rattle.heap_terms.specs.Heap.{NamedHeap, object_at, entry_at, fill_of}
use Rattle.heap_terms.specs.Layout.{filler_word}
use Rattle.heap_terms.specs.Objects.{Object, words_of_object}
use Rattle.heap_terms.specs.OnPages.{IsOwned, IsOnPage, IsPageOfRun, IsEntry, IsInRun, SaysOfRun}
use Rattle.heap_terms.specs.Passes.{moved_to}
use Rattle.heap_terms.specs.Regions.{is_small, pages_needed}
use Rattle.pass_laws.proofs.Lookups.{found_at}
use Rattle.pass_laws.proofs.Sizes.{large_least, large_needs}
use Rattle.pass_laws.proofs.Spreading.{is_in, moved_to-none}
use Rattle.copy_space.specs.declared.notes.Move.{Move}
use Rattle.copy_space.specs.Marks.{mark_at, is_set}
use Rattle.copy_space.specs.Midway.{IsPlacedSoFar}
use Rattle.copy_space.specs.Moved.{new_of, has_move, objects_now, mark_for}
use Rattle.copy_space.specs.Pages.{is_page_of}
use Rattle.copy_space.specs.Settled.{is_settled}
use Rattle.copy_space.specs.State.{CopyState}
use Rattle.copy_space.proofs.Listed.{move-is}
use Rattle.copy_space.proofs.Names.{was-before}
use Rattle.copy_space.proofs.Places.{page_kept, said, now_unmoved}
use Rattle.copy_space.proofs.Referents.{ms, its, mark_is, settles-not, of-generation, other_unmoved}
use Rattle.page_sweep.specs.Held.{is_held}
use Rattle.page_sweep.specs.Flags.{is_pinned_on, is_stay_on}
use Rattle.page_sweep.specs.Swept.{remaining_now}
use Rattle.page_sweep.proofs.Remaining.{owned-now, own-page, LyingAt, pinned-lies, placed_here, or_true}

set-when-moved : (pins : List ℕ) (moves : List Move) (index : ℕ) → has_move moves index ≡ true → is_set (mark_for pins moves index) ≡ true
set-when-moved pins moves index has = elim (cases_Bool (list_any (nat_eq index) pins)) [
  | inl pin ↦ rw pin refl
  | inr free ↦ elim (cases_Bool (new_of moves index == index)) [ inl stay ↦ rw (free, has, stay) refl | inr gone ↦ rw (free, has, gone) refl ]
]

abbrev generation_of : Entry → ℕ
generation_of Free = 0
generation_of (Used ty g fill first pages) = g

module _ (a : NamedHeap) (s : CopyState) (h : IsPlacedSoFar a s) (page : ℕ) (ty : PageType) (g fill first k : ℕ) (e : entry_at s.pages page ≡ Used ty g fill first k) where
  old_bound : (t : Entry) → IsEntry t → generation_of t ≤ 6
  old_bound Free is = omega arith
  old_bound (Used ty g fill first k) is = is.0

  -- a page with the scratch generation was free
  pub was-free : g ≡ 7 → entry_at a.pages page ≡ Free
  was-free seven = elim ((its a s h).placing.fresh page) [
    | inl same ↦ (let bound = old_bound (entry_at a.pages page) (h.sound.entries page) in
        let is : g ≡ generation_of (entry_at a.pages page) = ap generation_of (sym e ∙ same) in
        absurd (omega arith))
    | inr taken ↦ taken.0
  ]

  -- and any other is as it was
  pub was-same : g ≢ 7 → entry_at s.pages page ≡ entry_at a.pages page
  was-same other = elim ((its a s h).placing.fresh page) [
    | inl same ↦ same
    | inr taken ↦ absurd (other (ap generation_of (sym e ∙ taken.1.entry)))
  ]

  -- each used word of a page that was taken belongs to an object that is settled
  pub taken-owned : g ≡ 7 → (i : ℕ) → i < fill → IsOwned (remaining_now a s) (512 * page + i)
  taken-owned seven i less = found (h.owned page i (was-free seven) (rw (ap fill_of e) less))
    where
      first_page : (512 * page + i) / 512 ≡ page
      first_page = (let most = (its a s h).most page in let is : fill_of (entry_at s.pages page) ≡ fill = ap fill_of e in omega arith)

      moved : (x : ℕ) (o : Object) (index : ℕ) → object_at a.objects x ≡ Some o → moved_to (ms a s h) x ≡ Some index → is_settled a s x ≡ true
      moved x o index there to = elim (cases_Bool (is_in (ms a s h) x)) [
        | inl has ↦ (let set : is_set (mark_at s.marks o.place) ≡ true =
            ap is_set (mark_is a s h x o there) ∙ set-when-moved s.pins s.moves o.place ((said a s (ms a s h) h.sound (its a s h) x o there).1 ∙ has) in
            settles-not a s h x o there ∙ (rw set (or_true (not (o.generation == s.pass.generation)))))
        | inr none ↦ (let never : Some index ≡ None = sym to ∙ moved_to-none (ms a s h) x none in cc)
      ]

      at_place : (x : ℕ) (o : Object) → object_at a.objects x ≡ Some o → new_of s.moves o.place ≤ 512 * page + i → 512 * page + i < new_of s.moves o.place + words_of_object o →
          (to : Option ℕ) → moved_to (ms a s h) x ≡ to → is_settled a s x ≡ true
      at_place x o there from below (Some index) to = moved x o index there to
      at_place x o there from below None to =
          let here = now_unmoved a s (ms a s h) h.sound (its a s h) x o there to in
          let own = own-page a s h x o (512 * page + i) there to (omega arith) (omega arith) in
          let here_page : is_page_of (Used ty g fill first k) o.generation ≡ true = ap (λ (t : Entry). is_page_of t o.generation) (sym e ∙ ap (entry_at s.pages) (sym first_page)) ∙ own in
          let same = eqb-true g o.generation here_page in
          let bound = (h.sound.objects x o there).generation in
          absurd (omega (arith, same, bound, seven))

      found : IsOwned (objects_now a s.moves) (512 * page + i) → IsOwned (remaining_now a s) (512 * page + i)
      found (x, q, there, belongs) =
          let was = was-before a s.moves x q there in
          let from : new_of s.moves was.o.place ≤ 512 * page + i = subst (λ (r : Object). r.place ≤ 512 * page + i) was.is belongs.from in
          let below : 512 * page + i < new_of s.moves was.o.place + words_of_object was.o = subst (λ (r : Object). 512 * page + i < r.place + words_of_object r) was.is belongs.below in
          owned-now a s x was.o (512 * page + i) was.there (at_place x was.o was.there from below (moved_to (ms a s h) x) refl) from below

  -- each used word of a page of another generation that belongs to nothing that remains is a filler
  pub other-clean : g ≢ 7 → g ≢ s.pass.generation → (i : ℕ) → i < fill → ¬ IsOwned (remaining_now a s) (512 * page + i) → slice_index s.words (512 * page + i) ≡ filler_word
  other-clean not_taken other i less free = h.fillers page i (subst (λ (t : Entry). i < fill_of t) (sym e ∙ was-same not_taken) less) unowned
    where
      first_page : (512 * page + i) / 512 ≡ page
      first_page = (let most = (its a s h).most page in let is : fill_of (entry_at s.pages page) ≡ fill = ap fill_of e in omega arith)

      unowned : ¬ IsOwned a.objects (512 * page + i)
      unowned (x, o, there, belongs) =
          let kept = page_kept a s (ms a s h) h.sound (its a s h) x o (512 * page + i) there belongs.from belongs.below in
          let own : is_page_of (entry_at s.pages ((512 * page + i) / 512)) o.generation ≡ true = ap (λ (t : Entry). is_page_of t o.generation) kept.0 ∙ kept.1 in
          let here_page : is_page_of (Used ty g fill first k) o.generation ≡ true = ap (λ (t : Entry). is_page_of t o.generation) (sym e ∙ ap (entry_at s.pages) (sym first_page)) ∙ own in
          let same = eqb-true g o.generation here_page in
          let apart : o.generation ≢ s.pass.generation = λ is. other (same ∙ is) in
          let unequal : (o.generation == s.pass.generation) ≡ false = ne_eqb o.generation s.pass.generation apart in
          let lives : is_settled a s x ≡ true = settles-not a s h x o there ∙ (rw unequal refl) in
          let here = other_unmoved a s h x o there apart in
          let from = belongs.from in
          let below = belongs.below in
          free (owned-now a s x o (512 * page + i) there lives (omega arith) (omega arith))

  -- the object that holds a run
  holder : is_held s.pins s.moves first ≡ true → (index : ℕ) × (index / 512 ≡ first) × LyingAt a s index
  holder held = elim (or_cases (is_pinned_on s.pins first) (is_stay_on s.moves first) held) [
    | inl pin ↦ (let found = found_at (λ index. index / 512 == first) s.pins pin in
        let index = get_or s.pins found.0 0 in
        let on = eqb-true (get_or s.pins found.0 0 / 512) first (found.2 0) in
        let start = h.pins found.0 0 found.1 in (
          get_or s.pins found.0 0,
          on,
          pinned-lies a s h start.0 start.1.o (get_or s.pins found.0 0) start.1.there (of-generation a s.pass.generation start.0 start.1.o start.1.there start.1.of_it) start.1.here
              (list_any_at (nat_eq (get_or s.pins found.0 0)) s.pins found.0 0 found.1 (eq-eqb (get_or s.pins found.0 0) (get_or s.pins found.0 0) refl)),
        ))
    | inr stay ↦ (let d : Move = record { old = 0; new = 0 } in
        let found = found_at (λ (m : Move). (m.old == m.new) && (m.old / 512 == first)) s.moves stay in
        let m = get_or s.moves found.0 d in
        let both = and_parts ((get_or s.moves found.0 d).old == (get_or s.moves found.0 d).new) ((get_or s.moves found.0 d).old / 512 == first) (found.2 d) in
        let same = eqb-true (get_or s.moves found.0 d).old (get_or s.moves found.0 d).new both.0 in
        let on = eqb-true ((get_or s.moves found.0 d).old / 512) first both.1 in
        let move = move-is a s h found.0 d found.1 in (
          (get_or s.moves found.0 d).old,
          on,
          record {
            name = move.name;
            o = move.o;
            there = move.there;
            of_it = move.of_it;
            place = move.old;
            here = move.new ∙ sym same;
            is_settled = move.is_settled;
            placed = placed_here a s h move.name move.o move.there move.of_it (move.new ∙ sym same ∙ sym move.old);
          },
        ))
  ]

  -- on a run of several pages that is held each used word belongs to the one object there
  pub run-owned : is_held s.pins s.moves first ≡ true → k ≢ 1 → (i : ℕ) → i < fill → IsOwned (remaining_now a s) (512 * page + i)
  run-owned held several i less = owned-now a s lying.name lying.o (512 * page + i) lying.there lying.is_settled from below
    where
      run : IsInRun s.pages page (Used ty g fill first k)
      run = subst (λ (t : Entry). IsInRun s.pages page t) e ((its a s h).placing.runs page)

      hold : (index : ℕ) × (index / 512 ≡ first) × LyingAt a s index
      hold = holder held

      lying : LyingAt a s hold.0
      lying = hold.2

      says_run : (t : Entry) → SaysOfRun ty g first k t → (fill' : ℕ) × (t ≡ Used ty g fill' first k)
      says_run Free says = absurd says
      says_run (Used ty' g' fill' first' k') says = (fill', cc)

      first_says : (fill' : ℕ) × (entry_at s.pages first ≡ Used ty g fill' first k)
      first_says =
          let low = run.0 in
          let high = run.1 in
          let says = run.3 0 (omega arith) in
          let zero_more : first + 0 ≡ first = omega arith in
          says_run (entry_at s.pages first) (subst (λ (p : ℕ). SaysOfRun ty g first k (entry_at s.pages p)) zero_more says)

      on_first : lying.o.place / 512 ≡ first
      on_first = ap (λ (j : ℕ). j / 512) lying.place ∙ hold.1

      is_large : is_small (words_of_object lying.o) ≡ false
      is_large = elim (cases_Bool (is_small (words_of_object lying.o))) [
        | inr large ↦ large
        | inl small ↦ (let on : IsOnPage lying.o (Used ty g first_says.0 first k) = subst (λ (t : Entry). IsOnPage lying.o t) (ap (entry_at s.pages) on_first ∙ first_says.1) (lying.placed.small small) in
            absurd (several on.3))
      ]

      needs : pages_needed (words_of_object lying.o) ≡ (words_of_object lying.o + 511) / 512
      needs = large_needs (words_of_object lying.o) is_large

      count : k ≡ pages_needed (words_of_object lying.o)
      count =
          let least = large_least (words_of_object lying.o) is_large in
          let n = needs in
          let here : IsPageOfRun lying.o 0 (entry_at s.pages (lying.o.place / 512 + 0)) = lying.placed.large is_large 0 (omega arith) in
          let zero_more : lying.o.place / 512 + 0 ≡ first = omega (arith, on_first) in
          let at : IsPageOfRun lying.o 0 (Used ty g first_says.0 first k) = subst (λ (t : Entry). IsPageOfRun lying.o 0 t) (ap (entry_at s.pages) zero_more ∙ first_says.1) here in
          at.3

      its : IsPageOfRun lying.o (page - first) (Used ty g fill first k)
      its =
          let low = run.0 in
          let high = run.1 in
          let n = count in
          let at : lying.o.place / 512 + (page - first) ≡ page = omega (arith, on_first) in
          subst (λ (t : Entry). IsPageOfRun lying.o (page - first) t) (ap (entry_at s.pages) at ∙ e) (lying.placed.large is_large (page - first) (omega arith))

      start : lying.o.place ≡ 512 * first
      start = (let even = lying.placed.large_start is_large in let on = on_first in omega arith)

      from : new_of s.moves lying.o.place ≤ 512 * page + i
      from = (let low = run.0 in let at = start in let here = lying.here in let place = lying.place in omega arith)

      below : 512 * page + i < new_of s.moves lying.o.place + words_of_object lying.o
      below =
          let low = run.0 in
          let high = run.1 in
          let at = start in
          let here = lying.here in
          let place = lying.place in
          let n = needs in
          let c = count in
          let p = its in
          elim (cases_lt (page - first + 1) k) [
            | inl more ↦ (let full = p.4 more in omega arith)
            | inr last ↦ (let rest = p.5 (omega arith) in omega arith)
          ]
