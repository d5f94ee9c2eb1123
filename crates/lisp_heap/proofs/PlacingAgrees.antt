-- The parcel of a thread whose object was committed agrees once it has accepted it.
use Rattle.std.proofs.Common.{◌≡◌, ◌≢◌, ℕ, ◌+◌, ◌*◌, ◌<◌, List, length, subst, ap, ◌∙◌, sym, refl, arith, Option, Some, None, Bool, true, false, option_map, get_or-set_same, get_or-set_other, set, inl, inr}
use Rattle.std.proofs.lemmas.Bool.{cases_Bool}
use Rattle.std.specs.Prelude.{if◌then◌else◌}
use Rattle.heap_terms.specs.declared.answers.Answer.TheVariants as answers
use Rattle.heap_terms.specs.declared.cells.Cell.{Cell}
use Rattle.heap_terms.specs.declared.commands.Command.{Command}
use Rattle.heap_terms.specs.declared.events.Event.TheVariants.{Did}
use Rattle.heap_terms.specs.declared.kinds.Kind.{Kind}
use Rattle.heap_terms.specs.declared.kinds.PageType.{PageType}
use Rattle.heap_terms.specs.declared.kinds.PageType.TheVariants as types
use Rattle.heap_terms.specs.declared.pages.Entry.{Entry}
use Rattle.heap_terms.specs.declared.pages.Entry.TheVariants.{Free, Used}
use Rattle.heap_terms.specs.declared.pages.Next.{Next}
use Rattle.heap_terms.specs.Heap.{NamedHeap, Thread, thread_at, entry_at, fill_of, open_page}
use Rattle.heap_terms.specs.Histories.{after, next}
use Rattle.heap_terms.specs.Layout.{page_words, page_type_of, size_of}
use Rattle.heap_terms.specs.Objects.{words_of_object}
use Rattle.heap_terms.specs.Regions.{counting, is_small, pages_after, run_used, with_large}
use Rattle.heap_terms.specs.WellFormed.{IsWellFormed, IsOpenRunPage}
use Rattle.heap_laws.proofs.Allocating.{HasPage, has_page, large_run, goes_into, new_object, initial_kind, initial_payload, open_page_same, pages_large, pages_small}
use Rattle.heap_laws.proofs.SoundHeaps.{open_page_used, open_run_used}
use Rattle.lisp_heap.specs.Agreement.{Agrees, accepted_for, run_out, run_type_of, small_out}
use Rattle.lisp_heap.specs.ParcelView.{ParcelView, LeaseView, place_of, region_accepted, small_region, with_accepted, with_small}
use Rattle.lisp_heap.specs.State.{state_of, state_page}
use Rattle.lisp_heap.specs.WorldSound.{IsSound}
use Rattle.lisp_heap.specs.declared.parcels.RegionPlace.{RegionPlace}
use Rattle.lisp_heap.specs.declared.states.ThreadState.{ThreadState}
use Rattle.lisp_heap.specs.declared.world.World.TheInside.{Inside}
use Rattle.lisp_heap.proofs.Agreeing.{Agrees-thread}
use Rattle.lisp_heap.proofs.CountedWords.{counting-agrees}
use Rattle.lisp_heap.proofs.Nexts.{lies_on, open_page_below, small_on, state_page_is}
use Rattle.lisp_heap.proofs.ParcelParts.{agrees_from, run_small, run_stays, small_other, small_owner, small_run, small_same, small_stays, types_cases}
use Rattle.lisp_heap.proofs.PlacingLemmas.{Commits, celled, has_space, own_state, pages_are, placed_after}
use Rattle.lisp_heap.proofs.Soundness.{heap, well_formed}

-- a thread that uses its run up keeps its open pages
used_pages : (th : Thread) (size : ℕ) (ty : PageType) → state_page (state_of (run_used th size)) ty ≡ state_page (state_of th) ty
used_pages th size ty = by_size (is_small size) ty
  where
    by_size : (b : Bool) (ty : PageType) → state_page (state_of (if b then th else record th { open_run = None })) ty ≡ state_page (state_of th) ty
    by_size true ty = refl
    by_size false types.Cons = refl
    by_size false types.Boxed = refl
    by_size false types.Unboxed = refl

module _ (s : Inside) (h : IsSound s) (t : ℕ) (c : Command) (d : Cell) (index : ℕ) (kind : Kind) (n : ℕ) (f : Commits s t c d index kind n) where
  abbrev a : NamedHeap
  a = heap s

  abbrev size : ℕ
  size = size_of kind n

  abbrev ty : PageType
  ty = page_type_of kind

  abbrev b : NamedHeap
  b = celled s h t c d index kind n f

  wf : IsWellFormed s.program a
  wf = well_formed s h

  state : state_of (thread_at b t) ≡ state_of (run_used (thread_at a t) size)
  state = own_state s h t c d index kind n f

  -- the own open pages are the same
  own_page : (q : ParcelView) → q.owner ≡ t → (x : PageType) → open_page (thread_at b q.owner) x ≡ open_page (thread_at a q.owner) x
  own_page q owner x = subst (λ (u : ℕ). open_page (thread_at b u) x ≡ open_page (thread_at a u) x) (sym owner)
      (sym (state_page_is (thread_at b t) x) ∙ ap (λ (k : ThreadState). state_page k x) state ∙ used_pages (thread_at a t) size x ∙ state_page_is (thread_at a t) x)

  own_run : (q : ParcelView) → q.owner ≡ t → (thread_at b q.owner).open_run ≡ (run_used (thread_at a t) size).open_run
  own_run q owner = subst (λ (u : ℕ). (thread_at b u).open_run ≡ (run_used (thread_at a t) size).open_run) (sym owner) (ap (λ (k : ThreadState). k.open_run) state)

  pages_now : b.pages ≡ pages_after a t kind size
  pages_now = pages_are s h t c d index kind n f

  -- a small object: its region moves on
  module _ (small : is_small size ≡ true) where
    on_page : HasPage a t ty size
    on_page = has_page s.program a t kind size wf small (has_space s h t c d index kind n f)

    abbrev entry : Entry
    entry = Used ty 0 (on_page.fill + size) on_page.page 1

    small_pages : b.pages ≡ set a.pages on_page.page entry
    small_pages = pages_now ∙ pages_small a t kind size small on_page

    elsewhere : (page : ℕ) → page ≢ on_page.page → entry_at b.pages page ≡ entry_at a.pages page
    elsewhere page other = ap (λ (ps : List Entry). entry_at ps page) small_pages ∙ get_or-set_other a.pages on_page.page page entry Free other

    -- an open run does not begin on an open page
    run_elsewhere : (u page : ℕ) → (thread_at a u).open_run ≡ Some page → page ≢ on_page.page
    run_elsewhere u page e same =
        let k = open_run_used s.program a u page wf e in
        let here : page + 0 ≡ on_page.page = omega (arith, same) in
        let is : entry_at a.pages (page + 0) ≡ Used ty 0 on_page.fill on_page.page 1 = ap (λ (x : ℕ). entry_at a.pages x) here ∙ on_page.entry in
        let used : IsOpenRunPage k.ty page k.k (Used ty 0 on_page.fill on_page.page 1) =
        subst (λ (x : Entry). IsOpenRunPage k.ty page k.k x) is (k.each 0 (omega (arith, k.long))) in
        omega (arith, used.4, k.long)

    small_agrees : (q : ParcelView) → q.owner ≡ t → Agrees a q → Agrees b (with_small q ty (option_map (region_accepted size) (small_region q ty)))
    small_agrees q owner agrees =
        let r = option_map (region_accepted size) (small_region q ty) in
        let new = with_small q ty r in
        let mine : open_page (thread_at a q.owner) ty ≡ Some on_page.page = ap (λ (u : ℕ). open_page (thread_at a u) ty) owner ∙ on_page.open_is in
        let now_owner : new.owner ≡ t = small_owner q ty r ∙ owner in
        let same_owner : new.owner ≡ q.owner = small_owner q ty r in
        let region = small_on a q ty on_page.page agrees mine in
        let first : (region.0).first ≡ on_page.page = ap (λ (z : RegionPlace). z.first) region.2 in
        let one : (region.0).pages ≡ 1 = ap (λ (z : RegionPlace). z.pages) region.2 in
        let next_is : (region.0).next ≡ page_words * on_page.page + on_page.fill =
        ap (λ (z : RegionPlace). z.next) region.2 ∙ ap (λ (e : Entry). page_words * on_page.page + fill_of e) on_page.entry in
        let below : on_page.page < length a.pages = open_page_below s.program a t ty wf on_page.page on_page.open_is in
        let entry_now : entry_at b.pages on_page.page ≡ entry =
        ap (λ (ps : List Entry). entry_at ps on_page.page) small_pages ∙ get_or-set_same a.pages on_page.page entry Free below in
        let moved : (region.0).next + size ≡ page_words * on_page.page + fill_of (entry_at b.pages on_page.page) = omega (arith, next_is, ap fill_of entry_now) in
        let place : place_of (region_accepted size (region.0)) ≡ small_out b.pages on_page.page =
        lies_on (region_accepted size (region.0)) b.pages on_page.page first one moved in
        let kept_run : (run_used (thread_at a t) size).open_run ≡ (thread_at a q.owner).open_run =
        run_kept ∙ ap (λ (u : ℕ). (thread_at a u).open_run) (sym owner) in
        let run = run_stays a b q new agrees (small_run q ty r) (own_run new now_owner ∙ kept_run) (λ page e. elsewhere page (run_elsewhere q.owner page e)) in
        agrees_from b new (record {
          small = λ other. elim (types_cases other ty) [
            | inl same ↦ subst (λ (x : PageType). option_map place_of (small_region new x) ≡ option_map (small_out b.pages) (open_page (thread_at b new.owner) x)) (sym same)
                (ap (option_map place_of) (small_same q ty r)
                ∙ ap (λ (o : Option LeaseView). option_map place_of (option_map (region_accepted size) o)) region.1
                ∙ ap Some place
                ∙ ap (option_map (small_out b.pages)) (sym mine)
                ∙ ap (λ (u : ℕ). option_map (small_out b.pages) (open_page (thread_at a u) ty)) (sym same_owner)
                ∙ ap (option_map (small_out b.pages)) (sym (own_page new now_owner ty)))
            | inr differ ↦ small_stays a b q new other agrees (small_other q ty other r differ)
                (own_page new now_owner other ∙ ap (λ (u : ℕ). open_page (thread_at a u) other) same_owner)
                (λ page e. elsewhere page (λ same. differ (wf.own_pages q.owner q.owner other ty on_page.page (e ∙ ap Some same) mine).1))
          ];
          run = run.run;
          run_type = run.run_type;
        })
      where
        run_kept : (run_used (thread_at a t) size).open_run ≡ (thread_at a t).open_run
        run_kept = rw small refl

  -- a large object: its run is used up
  module _ (large : is_small size ≡ false) where
    no_run : (q : ParcelView) → q.owner ≡ t → (thread_at b q.owner).open_run ≡ None
    no_run q owner = own_run q owner ∙ gone
      where
        gone : (run_used (thread_at a t) size).open_run ≡ None
        gone = rw large refl

    page_stays : (q : ParcelView) (x : PageType) (page : ℕ) → open_page (thread_at a q.owner) x ≡ Some page → entry_at b.pages page ≡ entry_at a.pages page
    page_stays q x page e =
        let run = large_run s.program a t kind size wf large (has_space s h t c d index kind n f) in
        let o = new_object a t c (page_words * run.first) in
        let size_is : size ≡ words_of_object o = rw (initial_kind a t c kind n f.told.seed f.told.wish, initial_payload a t c kind n f.told.seed f.told.wish) refl in
        ap (λ (ps : List Entry). entry_at ps page) (pages_now ∙ pages_large a t kind size run.first large run.open_is)
        ∙ ap (λ (k : ℕ). entry_at (with_large a.pages run.first k) page) size_is
        ∙ open_page_same a.pages o run.first (goes_into a t c kind n f.told.seed f.told.wish large run) x page (open_page_used s.program a q.owner x page wf e)

    large_agrees : (q : ParcelView) → q.owner ≡ t → Agrees a q → Agrees b (record q { run = None })
    large_agrees q owner agrees =
        let new : ParcelView = record q { run = None } in
        agrees_from b new (record {
          small = λ other. small_stays a b q new other agrees (run_small q None other) (own_page q owner other) (page_stays q other);
          run = ap (option_map (run_out b.pages)) (sym (no_run q owner));
          run_type = ap (run_type_of b.pages) (sym (no_run q owner));
        })

  accepted_agrees : (q : ParcelView) → q.owner ≡ t → Agrees a q → Agrees b (with_accepted q kind n)
  accepted_agrees q owner agrees = elim (cases_Bool (is_small size)) [
    | inl small ↦ subst (λ (x : Bool). Agrees b (if x then with_small q ty (option_map (region_accepted size) (small_region q ty)) else record q { run = None }))
        (sym small) (small_agrees small q owner agrees)
    | inr large ↦ subst (λ (x : Bool). Agrees b (if x then with_small q ty (option_map (region_accepted size) (small_region q ty)) else record q { run = None }))
        (sym large) (large_agrees large q owner agrees)
  ]

  pub placed_agrees : (q : ParcelView) → q.owner ≡ t → Agrees a q →
      Agrees (after s.program a (Did t c (answers.Placed (length a.objects) index))) (accepted_for (next s.program a t) q)
  placed_agrees q owner agrees =
      let new = with_accepted q kind n in
      subst (λ (x : Next). Agrees (after s.program a (Did t c (answers.Placed (length a.objects) index))) (accepted_for x q)) (sym f.told.builds)
      (subst (λ (x : NamedHeap). Agrees x new) (sym (placed_after s h t c d index kind n f))
      (Agrees-thread (counting s.program b t size) t (record (thread_at (counting s.program b t size) t) { done = (thread_at (counting s.program b t size) t).done + 1 }) new
      refl refl refl refl (counting-agrees s.program b t size new (accepted_agrees q owner agrees))))
