-- How what several calls do to a stream adds up.
use Rattle.std.proofs.Common.{◌≡◌, ℕ, ◌-◌, ◌≤◌, List, ◌++◌, length, take, drop, Some, refl, ap, sym, ◌∙◌, arith, append_assoc, length-append, length-drop}
use Rattle.std.proofs.Math.Seq.{take-length}
use Rattle.std.proofs.lemmas.List.{take-append-drop, take_at, length-take-le}
use Rattle.std.specs.declared.option.Option.{Option}
use Rattle.heap_io.specs.Streams.{Rose, Gave, GaveMore, GaveAtMost, Grew}

-- A count that rose in one of several calls rose in all of them together, since it never falls.
pub Rose-within : (old before after new : ℕ) → old ≤ before → before ≤ after → after ≤ new
    → Rose before after → Rose old new
Rose-within old before after new low mid high rose = grind arith

-- what was taken before counts towards the limit
pub Gave-GaveMore : (a b c : Option (List ℕ)) (xs : List ℕ) (n limit : ℕ) → n ≡ length xs
    → Gave a b xs → GaveMore b c (limit - n) → GaveMore a c limit
Gave-GaveMore a b c xs n limit same first second all told =
    let f = first all told in
    let s = second f.0 f.2 in
    let all_is = f.1 ∙ ap (λ l. xs ++ l) s.2 ∙ sym (append_assoc xs s.0 s.1) in
    (xs ++ s.0, s.1, all_is, s.3, omega (arith, length-append xs s.0, s.4))

pub Gave-GaveAtMost : (a b c : Option (List ℕ)) (xs : List ℕ) (n limit : ℕ) → n ≡ length xs → n ≤ limit
    → Gave a b xs → GaveAtMost b c (limit - n) → GaveAtMost a c limit
Gave-GaveAtMost a b c xs n limit same within first second all told =
    let f = first all told in
    let s = second f.0 f.2 in
    let all_is = f.1 ∙ ap (λ l. xs ++ l) s.2 ∙ sym (append_assoc xs s.0 s.1) in
    (xs ++ s.0, s.1, all_is, s.3, omega (arith, length-append xs s.0, s.4))

-- the bytes of two calls, one after the other
pub Grew-Grew : (a b c : Option (List ℕ)) (xs ys : List ℕ) → Grew a b xs → Grew b c ys → Grew a c (xs ++ ys)
Grew-Grew a b c xs ys first second all told = second (all ++ xs) (first all told) ∙ ap Some (append_assoc all xs ys)

-- a range up to a list's end is all that stands behind its start
pub take-drop_rest : (i : ℕ) (xs : List ℕ) → take (length xs - i) (drop i xs) ≡ drop i xs
take-drop_rest i xs = rw (← length-drop i xs) (take-length (drop i xs))

-- the first k bytes of told contents stand at the front of a buffer, and the rest is left
pub Gave-front : (left rest buffer behind : List ℕ) (k : ℕ) → k ≤ length left
    → buffer ≡ take k left ++ behind → rest ≡ drop k left → Gave (Some left) (Some rest) (take k buffer)
Gave-front left rest buffer behind k fits same same_rest xs told =
    let all : left ≡ xs = cc in
    let front : take k buffer ≡ take k left =
    ap (take k) same ∙ take_at (take k left) behind k (length-take-le k left fits) in
    let parts : take k left ++ drop k left ≡ take k buffer ++ rest =
    ap (λ l. l ++ drop k left) (sym front) ∙ ap (λ l. take k buffer ++ l) (sym same_rest) in
    (rest, sym all ∙ sym (take-append-drop k left) ∙ parts, refl)
