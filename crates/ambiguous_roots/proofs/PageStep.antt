-- The pins page by page: what the walk of one page more adds to them.
use Rattle.std.proofs.Common.{◌≡◌, ℕ, ◌+◌, ◌*◌, ◌/◌, ◌%◌, ◌<◌, ◌≤◌, List, [], ◌++◌, map, length, get_or, Option, Some, None, Bool, true, false, nat_eq, inl, inr, refl, sym, ◌∙◌, subst, ap, arith}
use Rattle.std.proofs.lemmas.Bool.{cases_lt, cases_Bool, le-ltb, or_left, or_right}
use Rattle.std.proofs.lemmas.List.{length-append, length-map}
use Rattle.std.proofs.lemmas.List.Elements.{All-nil, All-append, All-weaker, All-map}
use Rattle.std.proofs.lemmas.List.Folds.{list_any-append}
use Rattle.std.specs.List.{list_any}
use Rattle.std.specs.Prelude.{◌==◌}
use Rattle.heap_terms.specs.declared.limits.TheConstants.{MOST_PAGES}
use Rattle.heap_terms.specs.declared.pages.Entry.{Entry}
use Rattle.heap_terms.specs.Generations.{names}
use Rattle.heap_terms.specs.Heap.{NamedHeap, object_at, entry_at}
use Rattle.heap_terms.specs.LaidOut.{IsLaidOut, ObjectStart, object_starts, start_of, HasObject, AreObjectsOn, AreHeapsObjects}
use Rattle.heap_terms.specs.Objects.{Object}
use Rattle.heap_terms.specs.Sound.{IsSound}
use Rattle.heap_terms.specs.Stands.{WordsStand}
use Rattle.pin_set.specs.Starts.{Starts}
use Rattle.object_walk.specs.declared.found.Found.{Found}
use Rattle.object_walk.specs.Walks.{found_at}
use Rattle.object_walk.proofs.HeapWalks.{page_laid, walk_meets_objects}
use Rattle.ambiguous_roots.specs.Hinted.{hint_of, IsPointedAt}
use Rattle.ambiguous_roots.specs.HitStarts.{IsHitStart}
use Rattle.ambiguous_roots.specs.Pinning.{is_referred, referred, CanPinAll, is_walked, AreHitBefore, begins_before, how_many_before}
use Rattle.ambiguous_roots.proofs.Counting.{count-none}
use Rattle.ambiguous_roots.proofs.Fitting.{length-below}
use Rattle.ambiguous_roots.proofs.OnPages.{walked_of, unwalked_none, of_name, name_of}
use Rattle.ambiguous_roots.proofs.Pointing.{pointed_by}
use Rattle.ambiguous_roots.proofs.Referring.{referred-All, referred-has, AllPairs-map, AllPairs-append, referred-up, none-below, few-hits, hits-below}

-- at first nothing is before the end
pub hit-none : (a : NamedHeap) (g : ℕ) (words : List ℕ) (starts : List ℕ) → starts ≡ [] → AreHitBefore a g words 0 starts
hit-none a g words starts none = subst (λ (xs : List ℕ). AreHitBefore a g words 0 xs) (sym none) (record {
  each = All-nil (IsHitStart a g words);
  before = All-nil (λ i. i < 0);
  all = λ name o e of_it hit low. absurd (omega (arith, low));
  ascending = λ i j d l m. absurd (omega (arith, m));
})

module _ (a : NamedHeap) (sound : IsSound a) (g page : ℕ) (words : List ℕ) (listed : List ℕ) (before : AreHitBefore a g words (512 * page) listed) where
  -- a page on which no object of the generation begins
  pub hit-passed : is_walked (entry_at a.pages page) page g ≡ false → AreHitBefore a g words (512 * (page + 1)) listed
  hit-passed passed = record {
    each = before.each;
    before = All-weaker (λ i. i < 512 * page) (λ i. i < 512 * (page + 1)) (λ i l. omega arith) listed before.before;
    all = λ name o e of_it hit low. elim (cases_lt o.place (512 * page)) [
      | inl sooner ↦ before.all name o e of_it hit sooner
      | inr here ↦ (let at : o.place / 512 ≡ page = omega arith in absurd (unwalked_none a page g name o sound e at passed (name_of a g name o e of_it)))
    ];
    ascending = before.ascending;
  }

  module _ (starts : List ObjectStart) (met : AreHeapsObjects a (512 * page) (512 * (page + 1)) starts) (walked : is_walked (entry_at a.pages page) page g ≡ true) where
    start_hit : (s : ObjectStart) → HasObject a s × (512 * page ≤ s.index) × (s.index < 512 * (page + 1)) → is_referred words s.index s.kind ≡ true → IsHitStart a g words s.index
    start_hit s h hit =
        let has = h.0 in
        let here : s.index ≡ has.1.place = ap (λ (x : ObjectStart). x.index) has.3 in
        let low = h.1 in
        let high = h.2 in
        let at : has.1.place / 512 ≡ page = omega arith in
        record {
          name = has.0;
          o = has.1;
          there = has.2;
          here = sym here;
          of_it = of_name a g has.0 has.1 has.2 (walked_of a page g has.0 has.1 sound has.2 at walked);
          hit = ap (λ (x : ObjectStart). is_referred words x.index x.kind) (sym has.3) ∙ hit;
        }

    pub hit-walked : AreHitBefore a g words (512 * (page + 1)) (listed ++ referred words (map found_at starts))
    hit-walked = record {
      each = All-append (IsHitStart a g words) listed (referred words (map found_at starts)) before.each
          (referred-All (IsHitStart a g words) words starts (λ k d l. start_hit (get_or starts k d) (met.each k d l)));
      before = All-append (λ i. i < 512 * (page + 1)) listed (referred words (map found_at starts))
          (All-weaker (λ i. i < 512 * page) (λ i. i < 512 * (page + 1)) (λ i l. omega arith) listed before.before)
          (referred-All (λ i. i < 512 * (page + 1)) words starts (λ k d l hit. (met.each k d l).2));
      all = λ name o e of_it hit low. list_any-append (nat_eq o.place) listed (referred words (map found_at starts)) ∙ (elim (cases_lt o.place (512 * page)) [
        | inl sooner ↦ or_left (list_any (nat_eq o.place) listed) (list_any (nat_eq o.place) (referred words (map found_at starts))) (before.all name o e of_it hit sooner)
        | inr here ↦ or_right (list_any (nat_eq o.place) listed) (list_any (nat_eq o.place) (referred words (map found_at starts)))
            (referred-has words starts (start_of o) (met.all name o e here low) hit)
      ]);
      ascending = AllPairs-append listed (referred words (map found_at starts)) (512 * page) before.ascending (referred-up words starts met.ascending) before.before
          (referred-All (λ i. 512 * page ≤ i) words starts (λ k d l hit. (met.each k d l).1));
    }

    -- at most half of a page's words begin an object
    pub few-starts : length starts ≤ 512
    few-starts =
        let long = length-map starts (λ (s : ObjectStart). s.index) in
        let most = length-below (map (λ (s : ObjectStart). s.index) starts) (512 * page) 512
        (AllPairs-map (λ (x y : ℕ). x < y) (λ (s : ObjectStart). s.index) starts met.ascending)
        (All-map (λ i. 512 * page ≤ i) (λ (s : ObjectStart). s.index) starts (λ k d l. (met.each k d l).1))
        (All-map (λ i. i < 512 * page + 512) (λ (s : ObjectStart). s.index) starts (λ k d l. (let high = (met.each k d l).2 in omega arith))) in
        omega arith

    -- so the page's objects can be pinned
    pub can-pin : (hints : List Bool) (pins : Starts) → pins.listed ≡ listed → length words ≤ pins.most → 2 * length hints ≡ 512 * length a.pages → length a.pages ≤ MOST_PAGES →
        page < length a.pages → ((k : ℕ) → IsPointedAt words (2 * k) → k < length hints → hint_of hints k ≡ true) → CanPinAll words hints pins (map found_at starts)
    can-pin hints pins are room long most inside hinted =
        let all = hit-walked in
        let few = few-hits a g words (512 * (page + 1)) (listed ++ referred words (map found_at starts)) sound all in
        let low = hits-below a g words (512 * (page + 1)) (listed ++ referred words (map found_at starts)) all in
        let both = length-append listed (referred words (map found_at starts)) in
        let same = ap length are in
        record {
          inside = All-map (λ (f : Found). f.index / 2 < length hints) found_at starts (λ k d l. double-inside (get_or starts k d) (met.each k d l));
          hinted = All-map (λ (f : Found). is_referred words f.index f.kind ≡ true → hint_of hints (f.index / 2) ≡ true) found_at starts (λ k d l hit. its_hint (get_or starts k d) (met.each k d l) hit);
          unpinned = All-map (λ (f : Found). list_any (nat_eq f.index) pins.listed ≡ false) found_at starts
              (λ k d l. ap (list_any (nat_eq (get_or starts k d).index)) are ∙ none-below listed (512 * page) (get_or starts k d).index before.before (met.each k d l).1);
          ascending = AllPairs-map (λ (f k : Found). f.index < k.index) found_at starts met.ascending;
          room = omega arith;
          small = omega arith;
          few = (let number = few-starts in let equal = length-map starts found_at in omega arith);
        }
      where
        double-inside : (s : ObjectStart) → HasObject a s × (512 * page ≤ s.index) × (s.index < 512 * (page + 1)) → s.index / 2 < length hints
        double-inside s h = (let high = h.2 in omega arith)

        its_hint : (s : ObjectStart) → HasObject a s × (512 * page ≤ s.index) × (s.index < 512 * (page + 1)) → is_referred words s.index s.kind ≡ true → hint_of hints (s.index / 2) ≡ true
        its_hint s h hit =
            let has = h.0 in
            let here : s.index ≡ has.1.place = ap (λ (x : ObjectStart). x.index) has.3 in
            let placed_even = (sound.objects has.0 has.1 has.2).placed.even in
            let even : s.index % 2 ≡ 0 = ap (λ (i : ℕ). i % 2) here ∙ placed_even in
            let high = h.2 in
            let twice : s.index ≡ 2 * (s.index / 2) = omega arith in
            hinted (s.index / 2) (subst (λ (i : ℕ). IsPointedAt words i) twice (pointed_by words s.index s.kind hit even (omega arith))) (double-inside s h)

-- each page of the heap is laid out, and a walk over it meets the heap's objects
pub laid-of : (a : NamedHeap) (words : List ℕ) (pages : List Entry) (page : ℕ) → IsSound a → WordsStand a words → pages ≡ a.pages → IsLaidOut words pages page
laid-of a words pages page sound stand same = subst (λ (ps : List Entry). IsLaidOut words ps page) (sym same) (page_laid a words page sound stand)

-- the objects that begin on a page, in some list
pub record OnPage (a : NamedHeap) (words : List ℕ) (pages : List Entry) (page : ℕ) : Type 0 where
  pub starts : List ObjectStart
  pub on : AreObjectsOn words pages page starts

pub on-page : (a : NamedHeap) (words : List ℕ) (pages : List Entry) (page : ℕ) → IsSound a → WordsStand a words → pages ≡ a.pages → OnPage a words pages page
on-page a words pages page sound stand same =
    let laid = laid-of a words pages page sound stand same in
    record { starts = object_starts (512 * page) laid.pieces; on = record { pieces = laid.pieces; on_page = laid.on_page; starts_are = refl } }

pub met-of : (a : NamedHeap) (words : List ℕ) (pages : List Entry) (page : ℕ) (starts : List ObjectStart) → IsSound a → WordsStand a words → pages ≡ a.pages →
    AreObjectsOn words pages page starts → AreHeapsObjects a (512 * page) (512 * (page + 1)) starts
met-of a words pages page starts sound stand same on =
    walk_meets_objects a words page starts sound stand (subst (λ (ps : List Entry). AreObjectsOn words ps page starts) same on)

-- the answer of the test on a page's entry
pub walked-is : (a : NamedHeap) (pages : List Entry) (page g : ℕ) (e : Entry) (b c : Bool) → pages ≡ a.pages → e ≡ entry_at pages page → b ≡ is_walked e page g → b ≡ c →
    is_walked (entry_at a.pages page) page g ≡ c
walked-is a pages page g e b c same at is answer =
    ap (λ (ps : List Entry). is_walked (entry_at ps page) page g) (sym same) ∙ ap (λ (x : Entry). is_walked x page g) (sym at) ∙ sym is ∙ answer

-- none begins below 0
pub none-before : (a : NamedHeap) (g : ℕ) → how_many_before a g 0 ≡ 0
none-before a g = count-none (λ x. begins_before g 0 (object_at a.objects x)) (names a) (λ x. none (object_at a.objects x))
  where
    none : (q : Option Object) → begins_before g 0 q ≡ false
    none None = refl
    none (Some o) = elim (cases_Bool (o.generation == g)) [ inl young ↦ rw young (le-ltb o.place 0 (omega arith)) | inr other ↦ rw other refl ]
