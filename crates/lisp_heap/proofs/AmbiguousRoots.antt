-- The words that pin what they hit, as a collection gathers them.
use Rattle.std.proofs.Common.{◌≡◌, ℕ, ◌*◌, ◌≤◌, List, [], ◌∷◌, ◌++◌, length, map, refl, sym, ◌∙◌, subst, ap, arith, Option, Bool, true, false, inl, inr}
use Rattle.std.proofs.lemmas.Bool.{cases_Bool, le-leb, ne_eqb}
use Rattle.std.proofs.lemmas.List.{length-append}
use Rattle.std.proofs.lemmas.List.Elements.{All-head, All-tail}
use Rattle.std.proofs.lemmas.List.Filters.{length-filter_both}
use Rattle.std.proofs.lemmas.List.Folds.{list_any-append}
use Rattle.std.specs.List.{list_any}
use Rattle.std.specs.Prelude.{All, ◌||◌, not, filter, flat_map, nat_eq}
use Rattle.heap_terms.specs.declared.cells.Value.{Value}
use Rattle.heap_terms.specs.Heap.{NamedHeap, Thread}
use Rattle.heap_terms.specs.Layout.{base_address}
use Rattle.heap_terms.specs.Objects.{Object}
use Rattle.heap_terms.specs.Roots.{ambiguous_words, thread_words}
use Rattle.heap_terms.specs.Spelling.{word_of}
use Rattle.lisp_heap.specs.CellsView.{CellsView}
use Rattle.lisp_heap.specs.Rooting.{ambiguous_roots, may_refer, pinned_words}
use Rattle.lisp_heap.specs.Standing.{pins_of}

-- ---- words that are too small hit nothing

large_same : (word : ℕ) (xs : List ℕ) → base_address ≤ word → list_any (nat_eq word) (filter may_refer xs) ≡ list_any (nat_eq word) xs
large_same word [] large = refl
large_same word (x ∷ xs) large = elim (cases_Bool (may_refer x)) [
  | inl here ↦ rw here (ap (λ (b : Bool). nat_eq word x || b) (large_same word xs large))
  | inr small ↦ rw small (rw (apart x small) (large_same word xs large))
]
  where
    apart : (x : ℕ) → may_refer x ≡ false → nat_eq word x ≡ false
    apart x small = ne_eqb word x (λ same. (let never : true ≡ false = sym (le-leb base_address x (omega (arith, same, large))) ∙ small in cc))

-- ---- in whatever order they are gathered

swap_or : (a b c d e f : Bool) → ((a || (b || c)) || (d || (e || f))) ≡ ((a || d) || ((b || e) || (c || f)))
swap_or true b c d e f = refl
swap_or false true c true e f = refl
swap_or false true c false e f = refl
swap_or false false c true e f = or_true c
  where
    or_true : (c : Bool) → (c || true) ≡ true
    or_true true = refl
    or_true false = refl
swap_or false false true false true f = refl
swap_or false false true false false f = refl
swap_or false false false false e f = refl

abbrev pub stack_of : Thread → List Value
stack_of th = th.stack

abbrev pub raws_in : Thread → List ℕ
raws_in th = th.raws

three : {X : Type 0} (p : X → Bool) (xs ys zs : List X) → list_any p (xs ++ ys ++ zs) ≡ (list_any p xs || (list_any p ys || list_any p zs))
three p xs ys zs =
    list_any-append p (xs ++ ys) zs ∙ ap (λ (b : Bool). b || list_any p zs) (list_any-append p xs ys) ∙ or_assoc (list_any p xs) (list_any p ys) (list_any p zs)
  where
    or_assoc : (a b c : Bool) → ((a || b) || c) ≡ (a || (b || c))
    or_assoc true b c = refl
    or_assoc false b c = refl

flat_any : (p : ℕ → Bool) (objects : List (Option Object)) (ths : List Thread) → list_any p (flat_map (thread_words objects) ths)
    ≡ (list_any p (map (word_of objects) (flat_map stack_of ths)) || (list_any p (flat_map raws_in ths) || list_any p (flat_map pinned_words (map pins_of ths))))
flat_any p objects [] = refl
flat_any p objects (th ∷ ths) =
    list_any-append p (thread_words objects th) (flat_map (thread_words objects) ths)
    ∙ ap (λ (b : Bool). list_any p (thread_words objects th) || b) (flat_any p objects ths)
    ∙ ap (λ (b : Bool). b || (list_any p (map (word_of objects) (flat_map stack_of ths)) || (list_any p (flat_map raws_in ths) || list_any p (flat_map pinned_words (map pins_of ths)))))
    (three p (map (word_of objects) th.stack) th.raws th.pins)
    ∙ swap_or (list_any p (map (word_of objects) th.stack)) (list_any p th.raws) (list_any p th.pins)
    (list_any p (map (word_of objects) (flat_map stack_of ths))) (list_any p (flat_map raws_in ths)) (list_any p (flat_map pinned_words (map pins_of ths)))
    ∙ ap (λ (b : Bool). b || ((list_any p th.raws || list_any p (flat_map raws_in ths)) || (list_any p th.pins || list_any p (flat_map pinned_words (map pins_of ths)))))
    (sym (list_any-append p (map (word_of objects) th.stack) (map (word_of objects) (flat_map stack_of ths))) ∙ ap (list_any p) (sym (map_append (word_of objects) th.stack (flat_map stack_of ths))))
    ∙ ap (λ (b : Bool). list_any p (map (word_of objects) (flat_map stack_of (th ∷ ths))) || (b || (list_any p th.pins || list_any p (flat_map pinned_words (map pins_of ths)))))
    (sym (list_any-append p th.raws (flat_map raws_in ths)))
    ∙ ap (λ (b : Bool). list_any p (map (word_of objects) (flat_map stack_of (th ∷ ths))) || (list_any p (flat_map raws_in (th ∷ ths)) || b))
    (sym (list_any-append p th.pins (flat_map pinned_words (map pins_of ths))))
  where
    map_append : (f : Value → ℕ) (xs ys : List Value) → map f (xs ++ ys) ≡ map f xs ++ map f ys
    map_append f [] ys = refl
    map_append f (x ∷ xs) ys = ap (λ (zs : List ℕ). f x ∷ zs) (map_append f xs ys)

-- what is gathered has just those ambiguous words of the heap that are as large as references
pub gathered_hits : (a : NamedHeap) (v : CellsView) (pins : List (List ℕ)) → v.stack ≡ map (word_of a.objects) (flat_map stack_of a.threads) →
    v.raws ≡ flat_map raws_in a.threads → pins ≡ map pins_of a.threads → (word : ℕ) → base_address ≤ word →
    list_any (nat_eq word) (ambiguous_roots v pins) ≡ list_any (nat_eq word) (ambiguous_words a)
gathered_hits a v pins stack raws pinned word large =
    let p = nat_eq word in
    three p (filter may_refer v.stack) (filter may_refer v.raws) (filter may_refer (flat_map pinned_words pins))
    ∙ ap (λ (b : Bool). b || (list_any p (filter may_refer v.raws) || list_any p (filter may_refer (flat_map pinned_words pins)))) (large_same word v.stack large ∙ ap (list_any p) stack)
    ∙ ap (λ (b : Bool). list_any p (map (word_of a.objects) (flat_map stack_of a.threads)) || (b || list_any p (filter may_refer (flat_map pinned_words pins)))) (large_same word v.raws large ∙ ap (list_any p) raws)
    ∙ ap (λ (b : Bool). list_any p (map (word_of a.objects) (flat_map stack_of a.threads)) || (list_any p (flat_map raws_in a.threads) || b))
    (large_same word (flat_map pinned_words pins) large ∙ ap (λ (ws : List (List ℕ)). list_any p (flat_map pinned_words ws)) pinned)
    ∙ sym (flat_any p a.objects a.threads)

-- ---- how many there are

filter_few : (p : ℕ → Bool) (xs : List ℕ) → length (filter p xs) ≤ length xs
filter_few p xs = (let both = length-filter_both p (λ x. not (p x)) (λ x. refl) xs in omega (arith, both))

pins_long : (ths : List Thread) → All (λ (th : Thread). length th.pins ≤ 32) ths → length (flat_map pinned_words (map pins_of ths)) ≤ 32 * length ths
pins_long [] h = omega arith
pins_long (th ∷ ths) h =
    let rest = pins_long ths (All-tail (λ (th : Thread). length th.pins ≤ 32) th ths h) in
    let first = All-head (λ (th : Thread). length th.pins ≤ 32) th ths h in
    omega (arith, length-append th.pins (flat_map pinned_words (map pins_of ths)), rest, first)

pub gathered_few : (a : NamedHeap) (v : CellsView) (pins : List (List ℕ)) → length v.stack ≡ 16 * length a.threads → length v.raws ≡ 8 * length a.threads →
    pins ≡ map pins_of a.threads → All (λ (th : Thread). length th.pins ≤ 32) a.threads → length (ambiguous_roots v pins) ≤ 56 * length a.threads
gathered_few a v pins stack raws pinned few =
    let one = filter_few may_refer v.stack in
    let two = filter_few may_refer v.raws in
    let third = filter_few may_refer (flat_map pinned_words pins) in
    let words : length (flat_map pinned_words pins) ≤ 32 * length a.threads = subst (λ (ws : List (List ℕ)). length (flat_map pinned_words ws) ≤ 32 * length a.threads) (sym pinned) (pins_long a.threads few) in
    omega (
      arith,
      length-append (filter may_refer v.stack ++ filter may_refer v.raws) (filter may_refer (flat_map pinned_words pins)),
      length-append (filter may_refer v.stack) (filter may_refer v.raws),
      one,
      two,
      third,
      words,
      stack,
      raws,
    )
