-- Words that point to double words, one word after another.
use Rattle.std.proofs.Common.{◌≡◌, ◌⊎◌, ℕ, suc, ◌+◌, ◌*◌, ◌%◌, ◌<◌, List, [], ◌∷◌, length, get_or, Option, Some, None, Bool, true, inl, inr, refl, sym, ◌∙◌, ap, subst, arith}
use Rattle.std.proofs.lemmas.Bool.{cases_eq, cases_Bool, false≢true, eqb-true}
use Rattle.std.specs.List.{list_any}
use Rattle.std.specs.Prelude.{◌==◌}
use Rattle.heap_terms.specs.declared.kinds.Kind.{Kind}
use Rattle.heap_terms.specs.declared.kinds.Kind.TheVariants as kinds
use Rattle.heap_terms.specs.declared.limits.TheConstants.{MOST_WORDS}
use Rattle.heap_terms.specs.Layout.{base_address, lowtag_of, reference_word}
use Rattle.lisp_words.specs.declared.pointers.Lowtag.{Lowtag}
use Rattle.lisp_words.specs.declared.pointers.Lowtag.TheVariants as lowtags
use Rattle.lisp_words.specs.Tagged.{IsTagged, tag_bits}
use Rattle.ambiguous_roots.specs.Hinted.{hint_of, IsPointedBefore, IsPointedAt}
use Rattle.ambiguous_roots.specs.Pinning.{is_referred}

-- a result is not both none and some
pub not_both : {X : Type 0} (r : Option X) (x : X) → r ≡ None → r ≡ Some x → ⊥
not_both r x none some = (let never : None ≡ Some x = sym none ∙ some in cc)

-- the word that a test finds
pub found_in : (p : ℕ → Bool) (xs : List ℕ) → list_any p xs ≡ true → (i : ℕ) × (i < length xs) × (p (get_or xs i 0) ≡ true)
found_in p [] e = absurd (false≢true e)
found_in p (x ∷ xs) e = elim (cases_Bool (p x)) [
  | inl here ↦ (0, omega arith, here)
  | inr gone ↦ (let rest = found_in p xs (rw gone at e) in (suc rest.0, (let l = rest.1 in omega arith), rest.2))
]

pointed-sooner : (words : List ℕ) (n index : ℕ) → IsPointedBefore words n index → IsPointedBefore words (n + 1) index
pointed-sooner words n index p = record { k = p.k; below = (let l = p.below in omega arith); tag = p.tag; tagged = p.tagged }

pointed-last : (words : List ℕ) (n index : ℕ) → IsPointedBefore words (n + 1) index → IsPointedBefore words n index ⊎ ((tag : Lowtag) × IsTagged (get_or words n 0) index tag)
pointed-last words n index p = elim (cases_eq p.k n) [
  | inl same ↦ inr (p.tag, subst (λ (k : ℕ). IsTagged (get_or words k 0) index p.tag) same p.tagged)
  | inr apart ↦ inl (record { k = p.k; below = (let l = p.below in omega arith); tag = p.tag; tagged = p.tagged })
]

-- one word more is done
pub set-more : (words : List ℕ) (n : ℕ) (hint : Bool) (old new : List Bool) →
    ((k : ℕ) (tag : Lowtag) → IsTagged (get_or words n 0) (2 * k) tag → k < length old → hint_of new k ≡ hint) →
    ((k : ℕ) → (hint_of new k ≡ hint_of old k) ⊎ ((tag : Lowtag) × IsTagged (get_or words n 0) (2 * k) tag)) →
    ((k : ℕ) → IsPointedBefore words n (2 * k) → k < length old → hint_of old k ≡ hint) → (k : ℕ) → IsPointedBefore words (n + 1) (2 * k) → k < length old → hint_of new k ≡ hint
set-more words n hint old new set others before k p l = elim (pointed-last words n (2 * k) p) [
  | inr last ↦ set k last.0 last.1 l
  | inl sooner ↦ elim (others k) [
    | inl same ↦ same ∙ before k sooner l
    | inr here ↦ set k here.0 here.1 l
  ]
]

pub others-more : (words : List ℕ) (n : ℕ) (first old new : List Bool) →
    ((k : ℕ) → (hint_of new k ≡ hint_of old k) ⊎ ((tag : Lowtag) × IsTagged (get_or words n 0) (2 * k) tag)) →
    ((k : ℕ) → (hint_of old k ≡ hint_of first k) ⊎ IsPointedBefore words n (2 * k)) → (k : ℕ) → (hint_of new k ≡ hint_of first k) ⊎ IsPointedBefore words (n + 1) (2 * k)
others-more words n first old new others before k = elim (others k) [
  | inr here ↦ inr (record { k = n; below = omega arith; tag = here.0; tagged = here.1 })
  | inl same ↦ elim (before k) [
    | inl was ↦ inl (same ∙ was)
    | inr sooner ↦ inr (pointed-sooner words n (2 * k) sooner)
  ]
]

tag_for : (kind : Kind) → (tag : Lowtag) × (tag_bits tag ≡ lowtag_of kind)
tag_for kinds.Cons = (lowtags.List, refl)
tag_for kinds.Vector = (lowtags.Other, refl)
tag_for kinds.Instance = (lowtags.Instance, refl)
tag_for kinds.Closure = (lowtags.Function, refl)
tag_for kinds.Words = (lowtags.Other, refl)
tag_for kinds.Weak = (lowtags.Other, refl)
tag_for kinds.Table = (lowtags.Other, refl)

-- the word of a reference is an address with a lowtag
pub tagged_reference : (word index : ℕ) (kind : Kind) → word ≡ reference_word index kind → index % 2 ≡ 0 → index < MOST_WORDS → (tag : Lowtag) × IsTagged word index tag
tagged_reference word index kind is even below =
    let tag = tag_for kind in
    (tag.0, record { even = even; below = below; word_is = is ∙ ap (λ (n : ℕ). base_address + 8 * index + n) (sym tag.1) })

-- where a word refers to an object at an index, it points there
pub pointed_by : (words : List ℕ) (index : ℕ) (kind : Kind) → is_referred words index kind ≡ true → index % 2 ≡ 0 → index < MOST_WORDS → IsPointedAt words index
pointed_by words index kind e even below =
    let found = found_in (λ word. word == reference_word index kind) words e in
    let its = tagged_reference (get_or words found.0 0) index kind (eqb-true (get_or words found.0 0) (reference_word index kind) found.2) even below in
    record { k = found.0; below = found.1; tag = its.0; tagged = its.1 }
