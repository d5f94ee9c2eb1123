-- What the calls need of words, pages and labels that stand for a heap.
use Rattle.std.proofs.Common.{◌≡◌, ◌≢◌, ℕ, ◌+◌, ◌-◌, ◌*◌, ◌/◌, ◌%◌, ◌<◌, ◌≤◌, List, [], length, map, Option, Some, None, true, false, inl, inr, refl, sym, ◌∙◌, ap, subst, arith}
use Rattle.std.specs.Prelude.{◌==◌, IfSome, All, slice_index}
use Rattle.std.specs.List.{Contains}
use Rattle.std.proofs.lemmas.Bool.{cases_Bool, cases_lt, eq-eqb, leb-false}
use Rattle.std.proofs.lemmas.List.Elements.{All-contains}
use Rattle.heap_terms.specs.declared.answers.Item.{Item}
use Rattle.heap_terms.specs.declared.pages.Entry.{Entry}
use Rattle.heap_terms.specs.declared.pages.Entry.TheVariants.{Free, Used}
use Rattle.heap_terms.specs.Heap.{NamedHeap, object_at, entry_at}
use Rattle.heap_terms.specs.LaidOut.{ObjectStart, HasObject, AreHeapsObjects, AreObjectsOn, StartsAt, IsLaidOut, laid_words, object_starts, start_of}
use Rattle.heap_terms.specs.Objects.{Object, words_of_object}
use Rattle.heap_terms.specs.OnPages.{IsEntry, IsInRun, IsOnPage, IsPageOfRun}
use Rattle.heap_terms.specs.PageViews.{begun_at}
use Rattle.heap_terms.specs.Regions.{is_small, pages_needed}
use Rattle.heap_terms.specs.Sound.{IsSound}
use Rattle.heap_terms.specs.Stands.{WordsStand}
use Rattle.object_walk.specs.declared.found.Found.{Found}
use Rattle.object_walk.specs.Walks.{found_at, IsFoundAt}
use Rattle.object_walk.proofs.HeapWalks.{page_laid, page_walked, walk_meets_objects}
use Rattle.object_walk.proofs.Places.{words_least, laid_most, begins_below}
use Rattle.page_views.specs.Labelled.{CanView, IsByItself}
use Rattle.page_views.specs.Seen.{IsSeen}
use Rattle.page_views.proofs.Gaps.{begun, begun_none}
use Rattle.page_views.proofs.Walking.{IsStretch}

module _ (a : NamedHeap) (words : List ℕ) (pages : List Entry) (labels : List ℕ) (h : CanView a words pages labels) where
  -- each page can be walked
  pub laid : (page : ℕ) → IsLaidOut words pages page
  laid page = subst (λ (ps : List Entry). IsLaidOut words ps page) (sym h.pages_are) (page_laid a words page h.sound h.stand)

  -- the objects that are said to begin on a page are the heap's
  said : (start : ObjectStart) → StartsAt words pages start → HasObject a start
  said start starts =
      let page = start.index / 512 in
      let on : AreObjectsOn words a.pages page starts.starts = subst (λ (ps : List Entry). AreObjectsOn words ps page starts.starts) h.pages_are starts.objects in
      let objects = walk_meets_objects a words page starts.starts h.sound h.stand on in
      (All-contains (λ (s : ObjectStart). HasObject a s × (512 * page ≤ s.index) × (s.index < 512 * (page + 1))) starts.starts start objects.each starts.among).0

  -- and all of them are said
  pub says : (name : ℕ) (o : Object) → object_at a.objects name ≡ Some o → StartsAt words pages (start_of o)
  says name o there =
      let page = o.place / 512 in
      let walk = page_walked a words page h.sound h.stand in
      let below = begins_below a.pages o (h.sound.objects name o there).placed in
      let on : AreObjectsOn words a.pages page (object_starts (512 * page) walk.pieces) = record {
        pieces = walk.pieces;
        on_page = record { most = laid_most page (entry_at a.pages page) (h.sound.entries page); laid = walk.laid };
        starts_are = refl;
      } in
      record {
        starts = object_starts (512 * page) walk.pieces;
        objects = subst (λ (ps : List Entry). AreObjectsOn words ps page (object_starts (512 * page) walk.pieces)) (sym h.pages_are) on;
        among = walk.objects.all name o there (omega arith) (omega arith);
      }

  -- the label of an object is its name
  pub label : (name : ℕ) (o : Object) → object_at a.objects name ≡ Some o → slice_index labels (o.place / 2) ≡ name
  label name o there = subst (λ (q : Option Object). IfSome q (λ z. slice_index labels (z.place / 2) ≡ name)) there (h.named name)

  -- the name of what is found at an index
  pub found_name : (index : ℕ) (f : Found) → IsFoundAt words pages index f → begun_at a index ≡ Some (slice_index labels (f.index / 2))
  found_name index f found =
      let start = found.start in
      let object = said start found.starts in
      let name = object.0 in
      let o = object.1 in
      let there = object.2 in
      let place : o.place ≡ index = sym (ap (λ (s : ObjectStart). s.index) object.3) ∙ found.here in
      let index_is : f.index ≡ o.place = ap (λ (g : Found). g.index) found.is ∙ found.here ∙ sym place in
      ap (begun_at a) (sym place) ∙ begun a h.sound name o there
      ∙ ap Some (sym (ap (λ (i : ℕ). slice_index labels (i / 2)) index_is ∙ label name o there))

  pub none_name : (index : ℕ) → ((start : ObjectStart) → start.index ≡ index → StartsAt words pages start → ⊥) → begun_at a index ≡ None
  none_name index none = begun_none a index (λ name o there here. none (start_of o) here (says name o there))

-- a page that is a run by itself, of which so many words are used
module _ (a : NamedHeap) (words : List ℕ) (page fill : ℕ) where
  first_is : (e : Entry) → IsByItself e fill → IsInRun a.pages page e → laid_words page e ≡ fill
  first_is Free by_itself run = absurd by_itself
  first_is (Used ty g used first count) by_itself run =
      let e : (first ≡ page) = (let count_is = by_itself.0 in omega (arith, run.0, run.1)) in
      let test : (first == page) ≡ true = eq-eqb first page e in
      rw test by_itself.1

  on_page : (o : Object) (e : Entry) → IsByItself e fill → IsOnPage o e → o.place % 512 + words_of_object o ≤ fill
  on_page o Free by_itself on = absurd on
  on_page o (Used ty g used first count) by_itself on = omega (arith, on.4, by_itself.1)

  no_run : (o : Object) (i : ℕ) (e : Entry) → IsByItself e fill → IsPageOfRun o i e → 2 ≤ pages_needed (words_of_object o) → ⊥
  no_run o i Free by_itself on needs = absurd on
  no_run o i (Used ty g used first count) by_itself on needs = omega (arith, on.3, by_itself.0)

  small_end : (o : Object) (e : Entry) → IsEntry e → IsOnPage o e → o.place % 512 + words_of_object o ≤ 512
  small_end o Free entry on = absurd on
  small_end o (Used ty g used first count) entry on = omega (arith, on.4, entry.1.most)

  needs : (o : Object) → is_small (words_of_object o) ≡ false → 2 ≤ pages_needed (words_of_object o)
  needs o large = (let size = large_size (words_of_object o) large in let count = large_needs (words_of_object o) large in omega arith)
    where
      large_size : (size : ℕ) → is_small size ≡ false → 513 ≤ size
      large_size size e = omega (arith, leb-false size 512 e)

      large_needs : (size : ℕ) → is_small size ≡ false → pages_needed size ≡ (size + 511) / 512
      large_needs size e = rw e refl

  module _ (h : IsSound a) (by_itself : IsByItself (entry_at a.pages page) fill) where
    pub most : fill ≤ 512
    most = fill_most (entry_at a.pages page) by_itself (h.entries page)
      where
        fill_most : (e : Entry) → IsByItself e fill → IsEntry e → fill ≤ 512
        fill_most Free by_it entry = absurd by_it
        fill_most (Used ty g used first count) by_it entry = omega (arith, by_it.1, entry.1.most)

    pub stretch : IsStretch a (512 * page) (512 * page + fill)
    stretch = record { sound = h; within = within }
      where
        within : (name : ℕ) (o : Object) → object_at a.objects name ≡ Some o → 512 * page ≤ o.place → o.place < 512 * page + fill → o.place + words_of_object o ≤ 512 * page + fill
        within name o there low high =
            let at : o.place / 512 ≡ page = omega (arith, most) in
            let placed = (h.objects name o there).placed in
            let by_it : IsByItself (entry_at a.pages (o.place / 512)) fill = subst (λ (p : ℕ). IsByItself (entry_at a.pages p) fill) (sym at) by_itself in
            elim (cases_Bool (is_small (words_of_object o))) [
              | inl small ↦ omega (arith, on_page o (entry_at a.pages (o.place / 512)) by_it (placed.small small))
              | inr large ↦ (
                  let same : o.place / 512 + 0 ≡ o.place / 512 = omega arith in
                  let count = needs o large in
                  let here : IsPageOfRun o 0 (entry_at a.pages (o.place / 512)) = rw same at (placed.large large 0 (omega arith)) in
                  absurd (no_run o 0 (entry_at a.pages (o.place / 512)) by_it here count))
            ]

    -- no object reaches over its start
    edge : (name : ℕ) (o : Object) → object_at a.objects name ≡ Some o → o.place < 512 * page → o.place + words_of_object o ≤ 512 * page
    edge name o there before =
        let placed = (h.objects name o there).placed in
        elim (cases_Bool (is_small (words_of_object o))) [
          | inl small ↦ omega (arith, small_end o (entry_at a.pages (o.place / 512)) (h.entries (o.place / 512)) (placed.small small))
          | inr large ↦ elim (cases_lt (512 * page) (o.place + words_of_object o)) [
            | inr done ↦ done
            | inl past ↦ (
                let count = needs o large in
                let size : pages_needed (words_of_object o) ≡ (words_of_object o + 511) / 512 = (let e = large in rw e refl) in
                let start = placed.large_start large in
                let i = page - o.place / 512 in
                let at : o.place / 512 + i ≡ page = omega arith in
                let here : IsPageOfRun o i (entry_at a.pages page) = rw at at (placed.large large i (omega arith)) in
                absurd (no_run o i (entry_at a.pages page) by_itself here count))
          ]
        ]

    -- the walk of the page before its first step
    pub seen_start : (stand : WordsStand a words) → (left : List Found) → ((starts : List ObjectStart) → AreObjectsOn words a.pages page starts → left ≡ map found_at starts) →
        IsSeen a (512 * page) (512 * page + fill) (512 * page) left []
    seen_start stand left all =
        let walk = page_walked a words page h stand in
        let laid_is = first_is (entry_at a.pages page) by_itself (h.runs page) in
        record {
          starts = object_starts (512 * page) walk.pieces;
          left_are = all (object_starts (512 * page) walk.pieces) (record {
            pieces = walk.pieces;
            on_page = record { most = laid_most page (entry_at a.pages page) (h.entries page); laid = walk.laid };
            starts_are = refl;
          });
          objects = subst (λ (n : ℕ). AreHeapsObjects a (512 * page) (512 * page + n) (object_starts (512 * page) walk.pieces)) laid_is walk.objects;
          low = omega arith;
          high = omega arith;
          edge = edge;
          first = inl refl;
          items_are = (let none : 512 * page - 512 * page ≡ 0 = omega arith in rw none refl);
        }
