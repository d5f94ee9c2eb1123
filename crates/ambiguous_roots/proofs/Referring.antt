-- Starts of objects to which words refer: which are listed, in which order, and how many they can be.
use Rattle.std.proofs.Common.{◌≡◌, ℕ, zero, suc, ◌-◌, ◌*◌, ◌/◌, ◌%◌, ◌<◌, ◌≤◌, List, [], ◌∷◌, ◌++◌, map, length, get_or, Some, true, false, nat_eq, inl, inr, refl, sym, ◌∙◌, ap, arith}
use Rattle.std.proofs.lemmas.Bool.{cases_lt, cases_Bool, or_left, or_right, eq-eqb, ne_eqb, eqb-true}
use Rattle.std.proofs.lemmas.List.{length-append, length-map, get_or-map, get_or_append_left, get_or-append_right}
use Rattle.std.proofs.lemmas.List.Elements.{All-nil, All-cons, All-head, All-tail, All-weaker}
use Rattle.std.proofs.lemmas.List.Kept.{AllPairs-filter}
use Rattle.std.specs.List.{list_any}
use Rattle.std.specs.Prelude.{All, AllPairs, Contains, filter}
use Rattle.heap_terms.specs.declared.kinds.Kind.{Kind}
use Rattle.heap_terms.specs.declared.kinds.Kind.TheVariants as kinds
use Rattle.heap_terms.specs.Heap.{NamedHeap}
use Rattle.heap_terms.specs.LaidOut.{ObjectStart}
use Rattle.heap_terms.specs.Layout.{base_address, lowtag_of, reference_word}
use Rattle.heap_terms.specs.Objects.{kind_of}
use Rattle.heap_terms.specs.Roots.{hits}
use Rattle.heap_terms.specs.Sound.{IsSound}
use Rattle.object_walk.specs.declared.found.Found.{Found}
use Rattle.object_walk.specs.Walks.{found_at}
use Rattle.object_walk.proofs.Searched.{contains_cases, contains_none}
use Rattle.ambiguous_roots.specs.HitStarts.{IsHitStart}
use Rattle.ambiguous_roots.specs.Pinning.{is_referred, referred, AreHitBefore}
use Rattle.ambiguous_roots.proofs.Fitting.{length-among, length-below}
use Rattle.ambiguous_roots.proofs.Pointing.{found_in}

-- ---- lists

-- what holds of each start that is hit holds of each index
pub referred-All : (P : ℕ → Type 0) (words : List ℕ) (starts : List ObjectStart) → All (λ (s : ObjectStart). is_referred words s.index s.kind ≡ true → P s.index) starts →
    All P (referred words (map found_at starts))
referred-All P words [] all = All-nil P
referred-All P words (s ∷ starts) all =
    let rest = referred-All P words starts (All-tail (λ (s : ObjectStart). is_referred words s.index s.kind ≡ true → P s.index) s starts all) in
    elim (cases_Bool (is_referred words s.index s.kind)) [
      | inl hit ↦ rw hit (All-cons P s.index (referred words (map found_at starts)) (All-head (λ (s : ObjectStart). is_referred words s.index s.kind ≡ true → P s.index) s starts all hit) rest)
      | inr not ↦ rw not rest
    ]

-- and a start that is hit has its index there
pub referred-has : (words : List ℕ) (starts : List ObjectStart) (s : ObjectStart) → Contains starts s → is_referred words s.index s.kind ≡ true →
    list_any (nat_eq s.index) (referred words (map found_at starts)) ≡ true
referred-has words [] s c hit = absurd (contains_none s c)
referred-has words (t ∷ starts) s c hit = elim (contains_cases s t starts c) [
  | inl same ↦ (let here : is_referred words t.index t.kind ≡ true = ap (λ (x : ObjectStart). is_referred words x.index x.kind) same ∙ hit in
      rw here (or_left (nat_eq s.index t.index) (list_any (nat_eq s.index) (referred words (map found_at starts))) (eq-eqb s.index t.index (ap (λ (x : ObjectStart). x.index) (sym same)))))
  | inr later ↦ (let rest = referred-has words starts s later hit in
      elim (cases_Bool (is_referred words t.index t.kind)) [
        | inl here ↦ rw here (or_right (nat_eq s.index t.index) (list_any (nat_eq s.index) (referred words (map found_at starts))) rest)
        | inr not ↦ rw not rest
      ])
]

pub AllPairs-map : {X Y : Type 0} (R : Y → Y → Type 0) (f : X → Y) (xs : List X) → AllPairs (λ (x y : X). R (f x) (f y)) xs → AllPairs R (map f xs)
AllPairs-map R f [] up i j d l m = absurd (omega (arith, m))
AllPairs-map R f (x ∷ xs) up i j d l m =
    let long = length-map xs f in
    let at_i = get_or-map f (x ∷ xs) i x d (omega arith) in
    let at_j = get_or-map f (x ∷ xs) j x d (omega arith) in
    rw (at_i, at_j) (up i j x l (omega arith))

pub AllPairs-append : (xs ys : List ℕ) (end : ℕ) → AllPairs (λ (x y : ℕ). x < y) xs → AllPairs (λ (x y : ℕ). x < y) ys → All (λ x. x < end) xs → All (λ y. end ≤ y) ys →
    AllPairs (λ (x y : ℕ). x < y) (xs ++ ys)
AllPairs-append xs ys end up more high low i j d l m =
    let long = length-append xs ys in
    elim (cases_lt j (length xs)) [
      | inl before ↦ rw (get_or_append_left xs ys d i (omega arith), get_or_append_left xs ys d j before) (up i j d l before)
      | inr behind ↦ (let at_j = get_or-append_right xs ys (length xs) j d refl behind in
          elim (cases_lt i (length xs)) [
            | inl before ↦ (let at_i = get_or_append_left xs ys d i before in
                let below = high i d before in
                let above = low (j - length xs) d (omega arith) in
                omega (arith, at_i, at_j, below, above))
            | inr later ↦ (let at_i = get_or-append_right xs ys (length xs) i d refl later in
                let step = more (i - length xs) (j - length xs) d (omega arith) (omega arith) in
                omega (arith, at_i, at_j, step))
          ])
    ]

pub referred-up : (words : List ℕ) (starts : List ObjectStart) → AllPairs (λ (s t : ObjectStart). s.index < t.index) starts → AllPairs (λ (x y : ℕ). x < y) (referred words (map found_at starts))
referred-up words starts up =
    AllPairs-map (λ (x y : ℕ). x < y) (λ (f : Found). f.index) (filter (λ (f : Found). is_referred words f.index f.kind) (map found_at starts))
    (AllPairs-filter (λ (f k : Found). f.index < k.index) (λ (f : Found). is_referred words f.index f.kind) (map found_at starts)
    (AllPairs-map (λ (f k : Found). f.index < k.index) found_at starts up))

pub none-below : (xs : List ℕ) (end index : ℕ) → All (λ x. x < end) xs → end ≤ index → list_any (nat_eq index) xs ≡ false
none-below [] end index before behind = refl
none-below (x ∷ xs) end index before behind =
    let first = All-head (λ x. x < end) x xs before in
    let other : nat_eq index x ≡ false = ne_eqb index x (λ same. omega arith) in
    rw other (none-below xs end index (All-tail (λ x. x < end) x xs before) behind)

-- ---- how many starts can be hit

-- the index to which a word points
index_of : ℕ → ℕ
index_of word = (word - base_address) / 16 * 2

index_of-reference : (word index : ℕ) (k : Kind) → word ≡ reference_word index k → index % 2 ≡ 0 → index_of word ≡ index
unfolding index_of
index_of-reference word index k is even = (let tag = lowtag_small k in omega arith)
  where
    lowtag_small : (k : Kind) → lowtag_of k < 16
    lowtag_small kinds.Cons = omega arith
    lowtag_small kinds.Vector = omega arith
    lowtag_small kinds.Instance = omega arith
    lowtag_small kinds.Closure = omega arith
    lowtag_small kinds.Words = omega arith
    lowtag_small kinds.Weak = omega arith
    lowtag_small kinds.Table = omega arith

points-among : (words : List ℕ) (index k : ℕ) → k < length words → index_of (get_or words k 0) ≡ index → list_any (nat_eq index) (map index_of words) ≡ true
points-among [] index k l is = absurd (omega (arith, l))
points-among (w ∷ words) index zero l is = or_left (nat_eq index (index_of w)) (list_any (nat_eq index) (map index_of words)) (eq-eqb index (index_of w) (sym is))
points-among (w ∷ words) index (suc k) l is = or_right (nat_eq index (index_of w)) (list_any (nat_eq index) (map index_of words)) (points-among words index k (omega arith) is)

hit-among : (a : NamedHeap) (g : ℕ) (words : List ℕ) (index : ℕ) → IsSound a → IsHitStart a g words index → list_any (nat_eq index) (map index_of words) ≡ true
hit-among a g words index sound h =
    let found = found_in (hits (Some h.o)) words h.hit in
    let is : get_or words found.0 0 ≡ reference_word h.o.place (kind_of h.o.contents) = eqb-true (get_or words found.0 0) (reference_word h.o.place (kind_of h.o.contents)) found.2 in
    let even = (sound.objects h.name h.o h.there).placed.even in
    points-among words index found.0 found.1 (index_of-reference (get_or words found.0 0) h.o.place (kind_of h.o.contents) is even ∙ h.here)

-- no more starts than words, and no more than there are words below the end
pub few-hits : (a : NamedHeap) (g : ℕ) (words : List ℕ) (end : ℕ) (starts : List ℕ) → IsSound a → AreHitBefore a g words end starts → length starts ≤ length words
few-hits a g words end starts sound h =
    let most = length-among starts (map index_of words) (λ i j d l m same. let up = h.ascending i j d l m in omega arith)
    (All-weaker (IsHitStart a g words) (λ x. list_any (nat_eq x) (map index_of words) ≡ true) (λ index start. hit-among a g words index sound start) starts h.each) in
    let long = length-map words index_of in
    omega arith

pub hits-below : (a : NamedHeap) (g : ℕ) (words : List ℕ) (end : ℕ) (starts : List ℕ) → AreHitBefore a g words end starts → length starts ≤ end
hits-below a g words end starts h =
    length-below starts 0 end h.ascending (λ i d l. omega arith) (λ i d l. (let below = h.before i d l in omega arith))
