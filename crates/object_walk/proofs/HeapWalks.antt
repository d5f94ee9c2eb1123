-- Where words stand for a sound heap, the words of a page are laid out in its objects and in fillers between them.
use Rattle.std.proofs.Common.{◌≡◌, ◌≢◌, ℕ, zero, suc, ◌+◌, ◌-◌, ◌*◌, ◌/◌, ◌%◌, ◌<◌, ◌≤◌, ◌⊎◌, inl, inr, List, [], ◌∷◌, Option, Some, None, refl, sym, ◌∙◌, ap, subst, arith}
use Rattle.std.proofs.lemmas.Bool.{cases_lt}
use Rattle.std.proofs.lemmas.Bool.Decides.{eqb_tells}
use Rattle.std.proofs.lemmas.List.Elements.{All-nil, All-cons, All-weaker}
use Rattle.std.proofs.lemmas.List.Kept.{AllPairs-cons}
use Rattle.std.specs.Prelude.{slice_index, IfSome, Contains}
use Rattle.heap_terms.specs.Heap.{NamedHeap, object_at, entry_at}
use Rattle.heap_terms.specs.LaidOut.{Piece, Fillers, Whole, BeginsWith, AreLaidOut, laid_words, IsLaidOut, ObjectStart, object_starts, AreObjectsOn, start_of, HasObject, AreHeapsObjects}
use Rattle.heap_terms.specs.Layout.{filler_word}
use Rattle.heap_terms.specs.Objects.{Object, kind_of, payload_of, words_of_object}
use Rattle.heap_terms.specs.OnPages.{IsOwned}
use Rattle.heap_terms.specs.Sound.{IsSound}
use Rattle.heap_terms.specs.Stands.{WordsStand, SlotsStand}
use Rattle.object_walk.proofs.FirstWords.{first_word_stands}
use Rattle.object_walk.proofs.Pieces.{pieces_once}
use Rattle.object_walk.proofs.Places.{words_least, words_even, laid_fill, laid_most, laid_even, begins_below, ends_before}
use Rattle.object_walk.proofs.Searched.{contains_first, contains_later}

-- an object begins at an index, or none does
pub record BeginsHere (objects : List (Option Object)) (index : ℕ) : Type 0 where
  pub name : ℕ
  pub o : Object
  pub there : object_at objects name ≡ Some o
  pub here : o.place ≡ index

abbrev pub BeginsNone : List (Option Object) → ℕ → Type 0
BeginsNone objects index = (name : ℕ) (o : Object) → object_at objects name ≡ Some o → o.place ≢ index

none_more : (first : Option Object) (objects : List (Option Object)) (index : ℕ) → ((o : Object) → first ≡ Some o → o.place ≢ index) → BeginsNone objects index →
    BeginsNone (first ∷ objects) index
none_more first objects index head rest zero o there = head o there
none_more first objects index head rest (suc name) o there = rest name o there

pub begins_or_not : (objects : List (Option Object)) (index : ℕ) → BeginsHere objects index ⊎ BeginsNone objects index
begins_or_not [] index = inr (λ name o there. absurd (let never : ⊥ = cc in never))
begins_or_not (None ∷ objects) index = elim (begins_or_not objects index) [
  | inl k ↦ inl (record { name = suc k.name; o = k.o; there = k.there; here = k.here })
  | inr none ↦ inr (none_more None objects index (λ o e. absurd (let never : ⊥ = cc in never)) none)
]
begins_or_not (Some q ∷ objects) index = elim (begins_or_not objects index) [
  | inl k ↦ inl (record { name = suc k.name; o = k.o; there = k.there; here = k.here })
  | inr none ↦ elim (eqb_tells q.place index) [
    | inl same ↦ inl (record { name = 0; o = q; there = refl; here = same.1 })
    | inr other ↦ inr (none_more (Some q) objects index (λ o e at. other.1 ((let same : q ≡ o = cc in ap (λ (x : Object). x.place) same) ∙ at)) none)
  ]
]

-- two objects of one name are one
one_name : (a : NamedHeap) (x y : ℕ) (o q : Object) → object_at a.objects x ≡ Some o → object_at a.objects y ≡ Some q → x ≡ y → o ≡ q
one_name a x y o q ho hq same =
    let both : Some o ≡ Some q = sym ho ∙ ap (object_at a.objects) same ∙ hq in
    cc

-- a piece of the heap ends at an index: it is even, and each object that begins below it ends at or below it
pub record IsEdge (a : NamedHeap) (index : ℕ) : Type 0 where
  pub even : index % 2 ≡ 0
  pub before : (name : ℕ) (o : Object) → object_at a.objects name ≡ Some o → o.place < index → o.place + words_of_object o ≤ index

-- behind an object that begins at an edge there is an edge
same_or_behind : (a : NamedHeap) → IsSound a → (x y : ℕ) (o q : Object) → object_at a.objects x ≡ Some o → object_at a.objects y ≡ Some q →
    q.place < o.place + words_of_object o → (q ≡ o) ⊎ (q.place + words_of_object q ≤ o.place)
same_or_behind a sound x y o q ho hq below = elim (eqb_tells y x) [
  | inl same ↦ inl (one_name a y x q o hq ho same.1)
  | inr other ↦ elim (sound.apart y x q o other.1 hq ho) [
    | inl behind ↦ inr behind
    | inr later ↦ absurd (omega arith)
  ]
]

edge_behind : (a : NamedHeap) (index : ℕ) → IsSound a → IsEdge a index → (k : BeginsHere a.objects index) → IsEdge a (index + words_of_object k.o)
edge_behind a index sound edge k = record {
  even = omega (arith, edge.even, words_even k.o);
  before = λ name q there below. elim (same_or_behind a sound k.name name k.o q k.there there (omega (arith, k.here, below))) [
    | inl same ↦ omega (arith, ap (λ (x : Object). x.place + words_of_object x) same, k.here)
    | inr behind ↦ omega (arith, behind, k.here)
  ];
}

-- where none begins at an edge, the word there and the next belong to no object, and behind them is an edge
even_place : (a : NamedHeap) → IsSound a → (name : ℕ) (o : Object) → object_at a.objects name ≡ Some o → o.place % 2 ≡ 0
even_place a sound name o there = (sound.objects name o there).placed.even

edge_over : (a : NamedHeap) (index : ℕ) → IsSound a → IsEdge a index → BeginsNone a.objects index → IsEdge a (index + 2)
edge_over a index sound edge none = record {
  even = omega (arith, edge.even);
  before = λ name o there below. (
      let even = even_place a sound name o there in
      let not_here : o.place ≢ index = none name o there in
      let lower : o.place < index = omega (arith, edge.even) in
      omega (arith, edge.before name o there lower));
}

not_owned : (a : NamedHeap) (index i : ℕ) → IsSound a → IsEdge a index → BeginsNone a.objects index → index ≤ i → i < index + 2 → ¬ IsOwned a.objects i
not_owned a index i sound edge none low high (name, o, there, belongs) =
    let even = even_place a sound name o there in
    let not_here : o.place ≢ index = none name o there in
    let from = belongs.from in
    let below = belongs.below in
    elim (cases_lt o.place index) [
      | inl lower ↦ omega (arith, edge.before name o there lower)
      | inr behind ↦ omega (arith, edge.even)
    ]

-- a walk over the words from an index on
pub record IsWalked (a : NamedHeap) (words : List ℕ) (from end : ℕ) : Type 0 where
  pub pieces : List Piece
  pub laid : AreLaidOut words from end pieces
  pub objects : AreHeapsObjects a from end (object_starts from pieces)

-- the words below an end that belong to no object are fillers
abbrev pub HasFillers : NamedHeap → List ℕ → ℕ → ℕ → Type 0
HasFillers a words from end = (i : ℕ) → from ≤ i → i < end → ¬ IsOwned a.objects i → slice_index words i ≡ filler_word

walked_end : (a : NamedHeap) (words : List ℕ) (from end : ℕ) → end ≤ from → IsWalked a words from end
walked_end a words from end past = record {
  pieces = [];
  laid = past;
  objects = record {
    each = All-nil (λ (s : ObjectStart). HasObject a s × (from ≤ s.index) × (s.index < end));
    all = λ name o there low high. absurd (omega arith);
    ascending = λ i j d lt inside. absurd (omega arith);
  };
}

walked_fillers : (a : NamedHeap) (words : List ℕ) (from end : ℕ) → IsSound a → IsEdge a from → BeginsNone a.objects from → HasFillers a words from end →
    from < end → end % 2 ≡ 0 → IsWalked a words (from + 2) end → IsWalked a words from end
walked_fillers a words from end sound edge none fillers below even rest = record {
  pieces = Fillers ∷ rest.pieces;
  laid = (
    below,
    (
      fillers from (omega arith) below (not_owned a from from sound edge none (omega arith) (omega arith)),
      fillers (from + 1) (omega arith) (omega (arith, edge.even)) (not_owned a from (from + 1) sound edge none (omega arith) (omega arith)),
    ),
    rest.laid,
  );
  objects = record {
    each = All-weaker (λ (s : ObjectStart). HasObject a s × (from + 2 ≤ s.index) × (s.index < end)) (λ (s : ObjectStart). HasObject a s × (from ≤ s.index) × (s.index < end))
        (λ s h. (h.0, omega (arith, h.1), h.2)) (object_starts (from + 2) rest.pieces) rest.objects.each;
    all = λ name o there low high. (
        let even_o = even_place a sound name o there in
        let not_here : o.place ≢ from = none name o there in
        rest.objects.all name o there (omega (arith, edge.even)) high);
    ascending = rest.objects.ascending;
  };
}

walked_object : (a : NamedHeap) (words : List ℕ) (from end : ℕ) → IsSound a → WordsStand a words → IsEdge a from → (k : BeginsHere a.objects from) →
    from < end → IsWalked a words (from + words_of_object k.o) end → IsWalked a words from end
walked_object a words from end sound stands edge k below rest =
    let object = sound.objects k.name k.o k.there in
    let start : ObjectStart = record { index = from; kind = kind_of k.o.contents; n = payload_of k.o.contents } in
    let same : start ≡ start_of k.o = ap (λ (i : ℕ). let s : ObjectStart = record { index = i; kind = kind_of k.o.contents; n = payload_of k.o.contents } in s) (sym k.here) in
    let slots : SlotsStand a.objects words k.o.place k.o.contents = there_stands (object_at a.objects k.name) k.there (stands.spelled k.name) in
    let begins : BeginsWith (kind_of k.o.contents) (payload_of k.o.contents) (slice_index words from) =
    subst (λ (i : ℕ). BeginsWith (kind_of k.o.contents) (payload_of k.o.contents) (slice_index words i)) k.here
    (first_word_stands a.objects words k.o.place k.o.contents slots object.shape object.contents) in
    let least = words_least k.o in
    record {
      pieces = Whole (kind_of k.o.contents) (payload_of k.o.contents) ∷ rest.pieces;
      laid = (below, begins, rest.laid);
      objects = record {
        each = All-cons (λ (s : ObjectStart). HasObject a s × (from ≤ s.index) × (s.index < end)) start (object_starts (from + words_of_object k.o) rest.pieces)
            ((k.name, k.o, k.there, same), omega arith, below)
            (All-weaker (λ (s : ObjectStart). HasObject a s × (from + words_of_object k.o ≤ s.index) × (s.index < end)) (λ (s : ObjectStart). HasObject a s × (from ≤ s.index) × (s.index < end))
            (λ s h. (h.0, omega (arith, h.1), h.2)) (object_starts (from + words_of_object k.o) rest.pieces) rest.objects.each);
        all = λ name o there low high. elim (cases_lt o.place (from + words_of_object k.o)) [
          | inr behind ↦ contains_later (start_of o) start (object_starts (from + words_of_object k.o) rest.pieces) (rest.objects.all name o there behind high)
          | inl within ↦ elim (same_or_behind a sound k.name name k.o o k.there there (omega (arith, k.here, within))) [
            | inl one ↦ subst (λ (s : ObjectStart). Contains (start ∷ object_starts (from + words_of_object k.o) rest.pieces) s) (same ∙ ap start_of (sym one))
                (contains_first start (object_starts (from + words_of_object k.o) rest.pieces))
            | inr before ↦ absurd (omega (arith, k.here, words_least o))
          ]
        ];
        ascending = AllPairs-cons (λ (s t : ObjectStart). s.index < t.index) start (object_starts (from + words_of_object k.o) rest.pieces)
            (All-weaker (λ (s : ObjectStart). HasObject a s × (from + words_of_object k.o ≤ s.index) × (s.index < end)) (λ (s : ObjectStart). from < s.index)
            (λ s h. omega (arith, h.1, least)) (object_starts (from + words_of_object k.o) rest.pieces) rest.objects.each)
            rest.objects.ascending;
      };
    }
  where
    there_stands : (r : Option Object) → r ≡ Some k.o → IfSome r (λ o. SlotsStand a.objects words o.place o.contents) → SlotsStand a.objects words k.o.place k.o.contents
    there_stands r e h = rw e at h

pub walked : (a : NamedHeap) (words : List ℕ) (most from end : ℕ) → IsSound a → WordsStand a words → IsEdge a from → HasFillers a words from end → end % 2 ≡ 0 →
    end ≤ from + most → IsWalked a words from end
walked a words zero from end sound stands edge fillers even fuel = walked_end a words from end (omega (arith, fuel))
walked a words (suc most) from end sound stands edge fillers even fuel = elim (cases_lt from end) [
  | inr past ↦ walked_end a words from end past
  | inl below ↦ elim (begins_or_not a.objects from) [
    | inl k ↦ walked_object a words from end sound stands edge k below
        (walked a words most (from + words_of_object k.o) end sound stands (edge_behind a from sound edge k) (λ i low. fillers i (omega (arith, low))) even
        (omega (arith, words_least k.o, fuel)))
    | inr none ↦ walked_fillers a words from end sound edge none fillers below even
        (walked a words most (from + 2) end sound stands (edge_over a from sound edge none) (λ i low. fillers i (omega (arith, low))) even (omega (arith, fuel)))
  ]
]

-- the walk over a page
page_fillers : (a : NamedHeap) (words : List ℕ) (page : ℕ) → WordsStand a words →
    HasFillers a words (512 * page) (512 * page + laid_words page (entry_at a.pages page))
page_fillers a words page stands i low high none =
    let at : 512 * page + (i - 512 * page) ≡ i = omega arith in
    let word = stands.fillers page (i - 512 * page) (omega (arith, laid_fill page (entry_at a.pages page))) in
    let said : ¬ IsOwned a.objects i → slice_index words i ≡ filler_word = rw at at word in
    said none

pub page_walked : (a : NamedHeap) (words : List ℕ) (page : ℕ) → IsSound a → WordsStand a words →
    IsWalked a words (512 * page) (512 * page + laid_words page (entry_at a.pages page))
page_walked a words page sound stands = elim (cases_lt 0 (laid_words page (entry_at a.pages page))) [
  | inr none ↦ walked_end a words (512 * page) (512 * page + laid_words page (entry_at a.pages page)) (omega arith)
  | inl some ↦ walked a words (laid_words page (entry_at a.pages page)) (512 * page) (512 * page + laid_words page (entry_at a.pages page)) sound stands
      (record { even = omega arith; before = λ name o there. ends_before a.pages page o sound.entries (sound.objects name o there).placed some })
      (page_fillers a words page stands) (omega (arith, laid_even page (entry_at a.pages page) (sound.entries page))) (omega arith)
]

pub page_laid : (a : NamedHeap) (words : List ℕ) (page : ℕ) → IsSound a → WordsStand a words → IsLaidOut words a.pages page
page_laid a words page sound stands =
    let walk = page_walked a words page sound stands in
    record { pieces = walk.pieces; on_page = record { most = laid_most page (entry_at a.pages page) (sound.entries page); laid = walk.laid } }

-- the objects up to the page's end are those below the words that hold pieces
objects_of_page : (a : NamedHeap) (page : ℕ) (starts : List ObjectStart) → IsSound a →
    AreHeapsObjects a (512 * page) (512 * page + laid_words page (entry_at a.pages page)) starts → AreHeapsObjects a (512 * page) (512 * (page + 1)) starts
objects_of_page a page starts sound h =
    let most = laid_most page (entry_at a.pages page) (sound.entries page) in
    record {
      each = All-weaker (λ (s : ObjectStart). HasObject a s × (512 * page ≤ s.index) × (s.index < 512 * page + laid_words page (entry_at a.pages page)))
          (λ (s : ObjectStart). HasObject a s × (512 * page ≤ s.index) × (s.index < 512 * (page + 1))) (λ s k. (k.0, k.1, omega (arith, k.2, most))) starts h.each;
      all = λ name o there low high. (
          let on : o.place / 512 ≡ page = omega arith in
          let below : o.place % 512 < laid_words page (entry_at a.pages page) = rw on at (begins_below a.pages o (sound.objects name o there).placed) in
          h.all name o there low (omega arith));
      ascending = h.ascending;
    }

pub walk_meets_objects : (a : NamedHeap) (words : List ℕ) (page : ℕ) (starts : List ObjectStart) → IsSound a → WordsStand a words →
    AreObjectsOn words a.pages page starts → AreHeapsObjects a (512 * page) (512 * (page + 1)) starts
walk_meets_objects a words page starts sound stands h =
    let walk = page_walked a words page sound stands in
    let end = 512 * page + laid_words page (entry_at a.pages page) in
    let once : walk.pieces ≡ h.pieces = pieces_once words (512 * page) end walk.pieces h.pieces walk.laid h.on_page.laid in
    let is : object_starts (512 * page) walk.pieces ≡ starts = ap (object_starts (512 * page)) once ∙ sym h.starts_are in
    objects_of_page a page starts sound (rw is at walk.objects)
