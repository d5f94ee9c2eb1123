-- The pages after a pass: what remains lies on them as it must.
use Rattle.std.proofs.Common.{◌≡◌, ℕ, suc, ◌+◌, ◌/◌, ◌<◌, List, [], ◌∷◌, length, get_or, Option, Some, None, Bool, true, false, inl, inr, refl, sym, ◌∙◌, subst, ap, arith}
use Rattle.std.proofs.lemmas.Bool.{cases_lt, cases_Bool, or_cases, or_left, or_right, and_parts, false≢true, eq-eqb, eqb-true, not-true, not_from_true}
use Rattle.std.proofs.lemmas.List.Folds.{list_any_at}
use Rattle.std.proofs.lemmas.List.{get_or-map, length-map, get_or_past}
use Rattle.std.proofs.lemmas.Option.{same_Some}
use Rattle.std.specs.List.{list_any}
use Rattle.std.specs.Prelude.{All, is_none, ◌&&◌, ◌||◌, not, ◌==◌, if◌then◌else◌}
use Rattle.heap_terms.specs.declared.events.PassRecord.{PassRecord}
use Rattle.heap_terms.specs.declared.events.PinAt.{PinAt}
use Rattle.heap_terms.specs.declared.events.Placing.{Placing}
use Rattle.heap_terms.specs.declared.kinds.PageType.{PageType}
use Rattle.heap_terms.specs.declared.pages.Entry.{Entry}
use Rattle.heap_terms.specs.declared.pages.Entry.TheVariants.{Free, Used}
use Rattle.heap_terms.specs.Heap.{NamedHeap, object_at, entry_at}
use Rattle.heap_terms.specs.Layout.{page_words}
use Rattle.heap_terms.specs.Objects.{Object, Contents, ConsOf, VectorOf, InstanceOf, ClosureOf, WordsOf, WeakTo, TableOf, kind_of, payload_of, words_of_object}
use Rattle.heap_terms.specs.OnPages.{IsEntry, IsPlaced, IsOnPage, IsPageOfRun}
use Rattle.heap_terms.specs.Passes.{IsPass, is_listed_move, is_listed_pin, remains, order_of, moved_to, object_after, entry_after, after_pass, is_held, is_freed, freed_of}
use Rattle.heap_terms.specs.Placement.{scratch, placement}
use Rattle.heap_terms.specs.Regions.{is_small, pages_needed}
use Rattle.heap_terms.specs.Sound.{IsSound}
use Rattle.heap_terms.specs.Survival.{surviving}
use Rattle.pass_laws.specs.Spread.{settled}
use Rattle.pass_laws.proofs.Lookups.{found_at, in_filter, filter_in, made_at, made_length}
use Rattle.pass_laws.proofs.Sizes.{needs_least}
use Rattle.pass_laws.proofs.Spreading.{IsPlacing, IsMoveOf, is_in, placement-keeps, moved_to-none}

-- what remains of an object has its kind and its size
pub surviving-kind : (live : ℕ → Bool) (k : Contents) → kind_of (surviving live k) ≡ kind_of k
surviving-kind live (ConsOf a b) = refl
surviving-kind live (VectorOf vs) = refl
surviving-kind live (InstanceOf vs) = refl
surviving-kind live (ClosureOf vs) = refl
surviving-kind live (WordsOf ws) = refl
surviving-kind live (WeakTo v) = refl
surviving-kind live (TableOf w b pairs) = refl

pub surviving-payload : (live : ℕ → Bool) (k : Contents) → payload_of (surviving live k) ≡ payload_of k
surviving-payload live (ConsOf a b) = refl
surviving-payload live (VectorOf vs) = refl
surviving-payload live (InstanceOf vs) = refl
surviving-payload live (ClosureOf vs) = refl
surviving-payload live (WordsOf ws) = refl
surviving-payload live (WeakTo v) = refl
surviving-payload live (TableOf w b pairs) = refl

-- an object has the place, the kind and the size of another
pub record IsSameSpace (q o : Object) : Type 0 where
  pub place : o.place ≡ q.place
  pub kind : kind_of o.contents ≡ kind_of q.contents
  pub words : words_of_object o ≡ words_of_object q

-- a page that was of one generation is of another, and else as it was
abbrev pub IsRegenerated : ℕ → ℕ → Entry → Entry → Type 0
IsRegenerated g h e new = (ty : PageType) (fill first k : ℕ) → e ≡ Used ty g fill first k → new ≡ Used ty h fill first k

IsOnPage-regenerated : (q o : Object) (e new : Entry) → IsSameSpace q o → IsRegenerated q.generation o.generation e new → IsOnPage q e → IsOnPage o new
IsOnPage-regenerated q o Free new same re h = absurd h
IsOnPage-regenerated q o (Used ty g fill first k) new same re h =
    let at : Used ty g fill first k ≡ Used ty q.generation fill first k = ap (λ (x : ℕ). Used ty x fill first k) h.1 in
    rw (re ty fill first k at, same.place, same.words, same.kind) (h.0, refl, h.2, h.3, h.4)

IsPageOfRun-regenerated : (q o : Object) (i : ℕ) (e new : Entry) → IsSameSpace q o → IsRegenerated q.generation o.generation e new → IsPageOfRun q i e → IsPageOfRun o i new
IsPageOfRun-regenerated q o i Free new same re h = absurd h
IsPageOfRun-regenerated q o i (Used ty g fill first k) new same re h =
    let at : Used ty g fill first k ≡ Used ty q.generation fill first k = ap (λ (x : ℕ). Used ty x fill first k) h.1 in
    rw (re ty fill first k at, same.place, same.words, same.kind) (h.0, refl, h.2, h.3, h.4, h.5)

-- an object lies as it must where its pages have its new generation
pub IsPlaced-regenerated : (pages new : List Entry) (q o : Object) → length new ≡ length pages → IsSameSpace q o →
    ((i : ℕ) → i < pages_needed (words_of_object q) → IsRegenerated q.generation o.generation (entry_at pages (q.place / page_words + i)) (entry_at new (q.place / page_words + i))) →
    IsPlaced pages q → IsPlaced new o
IsPlaced-regenerated pages new q o lengths same re h =
    let zero_at : q.place / page_words + 0 ≡ q.place / page_words = omega arith in
    let least = needs_least (words_of_object q) in
    let re_zero : IsRegenerated q.generation o.generation (entry_at pages (q.place / page_words)) (entry_at new (q.place / page_words)) =
    subst (λ (p : ℕ). IsRegenerated q.generation o.generation (entry_at pages p) (entry_at new p)) zero_at (re 0 (omega arith)) in
    let small_is : is_small (words_of_object o) ≡ is_small (words_of_object q) = ap is_small same.words in
    record {
      even = rw same.place h.even;
      inside = rw (same.place, same.words, lengths) h.inside;
      small = λ small. subst (λ (p : ℕ). IsOnPage o (entry_at new (p / page_words))) (sym same.place) (IsOnPage-regenerated q o (entry_at pages (q.place / page_words)) (entry_at new (q.place / page_words)) same re_zero (h.small (sym small_is ∙ small)));
      large_start = λ large. rw same.place (h.large_start (sym small_is ∙ large));
      large = λ large i l. subst (λ (p : ℕ). IsPageOfRun o i (entry_at new (p / page_words + i))) (sym same.place) (
          let l' : i < pages_needed (words_of_object q) = subst (λ (n : ℕ). i < pages_needed n) same.words l in
          IsPageOfRun-regenerated q o i (entry_at pages (q.place / page_words + i)) (entry_at new (q.place / page_words + i)) same (re i l')
          (h.large (sym small_is ∙ large) i l'));
    }

-- a name that is listed and has no new place has an entry that says so
pub stay_found : (moves : List Placing) (x : ℕ) → is_in moves x ≡ true → moved_to moves x ≡ None → (i : ℕ) × (i < length moves) × ((d : Placing) → ((get_or moves i d).name ≡ x) × ((get_or moves i d).new ≡ None))
stay_found [] x e none = absurd (false≢true e)
stay_found (m ∷ rest) x e none = elim (cases_Bool (m.name == x)) [
  | inl here ↦ (0, omega arith, λ d. (eqb-true m.name x here, rw here at none))
  | inr gone ↦ (let r = stay_found rest x (rw gone at e) (rw gone at none) in (suc r.0, (let l = r.1 in omega arith), r.2))
]

-- a name that has a new place is listed
pub moved_listed : (moves : List Placing) (x index : ℕ) → moved_to moves x ≡ Some index → is_in moves x ≡ true
moved_listed moves x index e = elim (cases_Bool (is_in moves x)) [
  | inl here ↦ here
  | inr gone ↦ (let none : None ≡ Some index = sym (moved_to-none moves x gone) ∙ e in cc)
]

-- the generation of a page after the pass
abbrev pub new_generation : PassRecord → ℕ → ℕ
new_generation r g = if g == r.generation || g == scratch then r.target else g

-- an object after the pass
pub object_at-after : (a : NamedHeap) (r : PassRecord) (x : ℕ) → object_at (after_pass a r).objects x ≡ object_after a r x (object_at a.objects x)
unfolding after_pass
object_at-after a r x = made_at (λ name. object_after a r name (object_at a.objects name)) (length a.objects) x None
    (λ l. ap (object_after a r x) (get_or_past a.objects x None l))

module _ (a : NamedHeap) (g h : ℕ) (r : PassRecord) (sound : IsSound a) (pass : IsPass a g h r) where
  -- the placement of the record's order
  pub spread : IsPlacing a (placement a (order_of r))
  spread = placement-keeps a (order_of r) sound (λ i j l m.
      (let long : length (order_of r) ≡ length r.moves = length-map r.moves (λ (k : Placing). k.name) in
      let d : Placing = record { name = 0; old = 0; new = None } in
      rw (get_or-map (λ (k : Placing). k.name) r.moves i d 0 (omega arith), get_or-map (λ (k : Placing). k.name) r.moves j d 0 (omega arith))
      (pass.once i j d l (omega arith))))

  -- entries of pages after the pass
  pub entry_is : (page : ℕ) → entry_at (after_pass a r).pages page ≡ entry_after r page (entry_at (placement a (order_of r)).pages page)
  unfolding after_pass
  entry_is page = made_at (λ page. entry_after r page (entry_at (placement a (order_of r)).pages page)) (length (placement a (order_of r)).pages) page Free
      (λ l. ap (entry_after r page) (get_or_past (placement a (order_of r)).pages page Free l))

  pub pages_long : length (after_pass a r).pages ≡ length a.pages
  unfolding after_pass
  pages_long = made_length (λ page. entry_after r page (entry_at (placement a (order_of r)).pages page)) (length (placement a (order_of r)).pages) ∙ spread.lengths

  pub objects_long : length (after_pass a r).objects ≡ length a.objects
  unfolding after_pass
  objects_long = made_length (λ name. object_after a r name (object_at a.objects name)) (length a.objects)

  -- which pages are freed
  pub freed_page : (page : ℕ) → list_any (λ freed. freed == page) r.freed ≡ true → is_freed r (entry_at a.pages page) ≡ true
  freed_page page e =
      let e' : list_any (λ freed. freed == page) (freed_of a r) ≡ true = subst (λ (xs : List ℕ). list_any (λ freed. freed == page) xs ≡ true) pass.freed e in
      (in_filter (λ page. is_freed r (entry_at a.pages page)) 0 (length a.pages) page e').0

  pub page_freed : (page : ℕ) → is_freed r (entry_at a.pages page) ≡ true → list_any (λ freed. freed == page) r.freed ≡ true
  page_freed page e = subst (λ (xs : List ℕ). list_any (λ freed. freed == page) xs ≡ true) (sym pass.freed)
      (filter_in (λ page. is_freed r (entry_at a.pages page)) 0 (length a.pages) page e (omega arith)
      (elim (cases_lt page (length a.pages)) [
        | inl l ↦ omega arith
        | inr l ↦ (let none : false ≡ true = rw (get_or_past a.pages page Free l) at e in absurd (false≢true none))
      ]))

  -- a page that is used and not freed
  pub used_after : (page : ℕ) (ty : PageType) (old fill first k : ℕ) → entry_at (placement a (order_of r)).pages page ≡ Used ty old fill first k →
      list_any (λ freed. freed == page) r.freed ≡ false → entry_at (after_pass a r).pages page ≡ Used ty (new_generation r old) fill first k
  used_after page ty old fill first k e kept = entry_is page ∙ rw (e, kept) refl

  -- an object that remains holds its pages
  pub not_freed : (x : ℕ) (o : Object) → object_at a.objects x ≡ Some o → remains a r x ≡ true → (page : ℕ) (ty : PageType) (fill k : ℕ) (to : Option ℕ) →
      moved_to r.moves x ≡ to →
      entry_at (placement a (order_of r)).pages page ≡ Used ty (settled to o).generation fill ((settled to o).place / page_words) k →
      list_any (λ freed. freed == page) r.freed ≡ false
  not_freed x o e rem page ty fill k (Some index) to_is entry = elim (cases_Bool (list_any (λ freed. freed == page) r.freed)) [
    | inr kept ↦ kept
    | inl freed ↦ elim (spread.fresh page) [
      | inl same ↦ (let was : entry_at a.pages page ≡ Used ty scratch fill (index / page_words) k = sym same ∙ entry in
          let bound = (subst (λ (y : Entry). IsEntry y) was (sound.entries page)).0 in absurd (omega (arith, bound)))
      | inr taken ↦ (let never : false ≡ true = rw taken.0 at (freed_page page freed) in absurd (false≢true never))
    ]
  ]
  not_freed x o e rem page ty fill k None to_is entry = elim (cases_Bool (list_any (λ freed. freed == page) r.freed)) [
    | inr kept ↦ kept
    | inl freed ↦ elim (spread.fresh page) [
      | inr taken ↦ (let both : Used ty o.generation fill (o.place / page_words) k ≡ Used taken.1.ty scratch taken.1.fill taken.1.first taken.1.count = sym entry ∙ taken.1.entry in
          let high : o.generation ≡ scratch = cc in
          let bound = (sound.objects x o e).generation in absurd (omega (arith, high, bound)))
      | inl same ↦ (let was : entry_at a.pages page ≡ Used ty o.generation fill (o.place / page_words) k = sym same ∙ entry in
          let f : (o.generation == r.generation && not (is_held r (o.place / page_words))) ≡ true = rw was at (freed_page page freed) in
          let parts = and_parts (o.generation == r.generation) (not (is_held r (o.place / page_words))) f in
          absurd (false≢true (sym (not-true (is_held r (o.place / page_words)) parts.1) ∙ held parts.0)))
    ]
  ]
    where
      held : (o.generation == r.generation) ≡ true → is_held r (o.place / page_words) ≡ true
      held young = elim (or_cases (not (o.generation == r.generation)) _ (rw e at rem)) [
        | inl other ↦ absurd (false≢true (sym (not_from_true (o.generation == r.generation) young) ∙ other))
        | inr listed ↦ elim (or_cases (is_listed_move r x) (is_listed_pin r x) listed) [
          | inl moved ↦ (let stay = stay_found r.moves x moved to_is in
              let d : Placing = record { name = 0; old = 0; new = None } in
              let m = get_or r.moves stay.0 d in
              let old = (subst (λ (ms : List Placing). All (IsMoveOf a) ms) (sym pass.placed) spread.olds) stay.0 d stay.1 in
              let same : old.0 ≡ o = same_Some old.0 o (sym old.1 ∙ rw (stay.2 d).0 e) in
              let place : m.old ≡ o.place = old.2 ∙ ap (λ (y : Object). y.place) same in
              let here : (is_none m.new && m.old / page_words == o.place / page_words) ≡ true = rw ((stay.2 d).1, place) (eq-eqb (o.place / page_words) (o.place / page_words) refl) in
              or_right (list_any (λ (q : PinAt). q.index / page_words == o.place / page_words) r.pins) _
              (list_any_at (λ (m : Placing). is_none m.new && m.old / page_words == o.place / page_words) r.moves stay.0 d stay.1 here))
          | inr pinned ↦ (let found = found_at (λ (q : PinAt). q.name == x) r.pins pinned in
              let d : PinAt = record { name = 0; index = 0 } in
              let q = get_or r.pins found.0 d in
              let name_is : q.name ≡ x = eqb-true q.name x (found.2 d) in
              let at = pass.pins.pinned found.0 d found.1 in
              let same : at.0 ≡ o = same_Some at.0 o (sym at.1 ∙ rw name_is e) in
              let place : q.index ≡ o.place = at.2 ∙ ap (λ (y : Object). y.place) same in
              or_left _ _ (list_any_at (λ (q : PinAt). q.index / page_words == o.place / page_words) r.pins found.0 d found.1
              (rw place (eq-eqb (o.place / page_words) (o.place / page_words) refl))))
        ]
      ]
