-- What is kept of a list, and the list that it stands for.
use Rattle.std.proofs.Common.{◌≡◌, ℕ, ◌+◌, ◌-◌, ◌<◌, ◌≤◌, List, ◌++◌, length, take, drop, set, replicate, refl, sym, ap, ◌∙◌, arith}
use Rattle.std.proofs.lemmas.List.{append_assoc, replicate-append-replicate, set-append_left, take-append-le, drop-append-le, length-append, length-set, length-take-le, length-drop}
use Rattle.std.proofs.lemmas.Slice.{put_mid-paste}
use Rattle.std.proofs.lemmas.List.Edits.{paste_all}
use Rattle.std.proofs.Math.Nat.{add-sub_cancel_left}
use borrow.Rule.Slice.PartMut.{put_mid}
use Rattle.word_space.specs.Space.{copied, filled, written}

-- the list is the same where more of it is kept
pub filled_more : {A : Type 0} (kept more : List A) (len : ℕ) (blank : A) →
    more ≡ kept ++ replicate (length more - length kept) blank → length kept ≤ length more → length more ≤ len →
    filled more len blank ≡ filled kept len blank
filled_more {A = A} kept more len blank fills grows within =
    ap (λ (k : List A). k ++ replicate (len - length more) blank) fills
    ∙ append_assoc kept (replicate (length more - length kept) blank) (replicate (len - length more) blank)
    ∙ ap (λ (k : List A). kept ++ k) (replicate-append-replicate (length more - length kept) (len - length more) blank)
    ∙ ap (λ (n : ℕ). kept ++ replicate n blank) (omega (arith, grows, within))

-- a write to what is kept
pub set_filled : {A : Type 0} (kept : List A) (len : ℕ) (blank : A) (i : ℕ) (x : A) → i < length kept →
    filled (set kept i x) len blank ≡ set (filled kept len blank) i x
set_filled kept len blank i x within =
    ap (λ (n : ℕ). set kept i x ++ replicate (len - n) blank) (length-set kept i x)
    ∙ sym (set-append_left kept (replicate (len - length kept) blank) i x within)

-- a copy keeps the length
pub length_copied : {A : Type 0} (items : List A) (from to n : ℕ) → from + n ≤ length items → to + n ≤ length items →
    length (copied items from to n) ≡ length items
length_copied items from to n from_within to_within =
    omega (
      arith,
      length-append (take to items ++ take n (drop from items)) (drop (to + n) items),
      length-append (take to items) (take n (drop from items)),
      length-take-le to items (omega arith),
      length-take-le n (drop from items) (omega (arith, length-drop from items)),
      length-drop (to + n) items,
    )

-- a copy within what is kept
pub copied_filled : {A : Type 0} (kept : List A) (len : ℕ) (blank : A) (from to n : ℕ) → from + n ≤ length kept → to + n ≤ length kept →
    filled (copied kept from to n) len blank ≡ copied (filled kept len blank) from to n
copied_filled {A = A} kept len blank from to n from_within to_within =
    let rest : List A = replicate (len - length kept) blank in
    ap (λ (m : ℕ). copied kept from to n ++ replicate (len - m) blank) (length_copied kept from to n from_within to_within)
    ∙ append_assoc (take to kept ++ take n (drop from kept)) (drop (to + n) kept) rest
    ∙ ap (λ (k : List A). take to kept ++ take n (drop from kept) ++ k) (sym (drop-append-le (to + n) kept rest to_within))
    ∙ ap (λ (k : List A). k ++ take n (drop from kept) ++ drop (to + n) (kept ++ rest)) (sym (take-append-le to kept rest (omega (arith, to_within))))
    ∙ ap (λ (k : List A). take to (kept ++ rest) ++ k ++ drop (to + n) (kept ++ rest))
    (sym (take-append-le n (drop from kept) rest (omega (arith, length-drop from kept, from_within)))
    ∙ ap (λ (k : List A). take n k) (sym (drop-append-le from kept rest (omega (arith, from_within)))))

-- a write of many keeps the length
pub length_written : {A : Type 0} (items : List A) (at : ℕ) (values : List A) → at + length values ≤ length items →
    length (written items at values) ≡ length items
length_written items at values within =
    omega (
      arith,
      length-append (take at items ++ values) (drop (at + length values) items),
      length-append (take at items) values,
      length-take-le at items (omega arith),
      length-drop (at + length values) items,
    )

-- a write of many to what is kept
pub written_filled : {A : Type 0} (kept : List A) (len : ℕ) (blank : A) (at : ℕ) (values : List A) → at + length values ≤ length kept →
    filled (written kept at values) len blank ≡ written (filled kept len blank) at values
written_filled {A = A} kept len blank at values within =
    let rest : List A = replicate (len - length kept) blank in
    ap (λ (m : ℕ). written kept at values ++ replicate (len - m) blank) (length_written kept at values within)
    ∙ append_assoc (take at kept ++ values) (drop (at + length values) kept) rest
    ∙ ap (λ (k : List A). take at kept ++ values ++ k) (sym (drop-append-le (at + length values) kept rest within))
    ∙ ap (λ (k : List A). k ++ values ++ drop (at + length values) (kept ++ rest)) (sym (take-append-le at kept rest (omega (arith, within))))

-- what a copy into a part of a list leaves
pub put_written : {A : Type 0} (items : List A) (at : ℕ) (part values : List A) → part ≡ values →
    put_mid at (at + length values - at) items part ≡ written items at values
put_written {A = A} items at part values same =
    let n : at + length values - at ≡ length values = add-sub_cancel_left at (length values) in
    put_mid-paste at (at + length values - at) items part values (length values) same (sym n) refl
    ∙ paste_all items at values (length values) refl
    ∙ sym (append_assoc (take at items) values (drop (at + length values) items))
