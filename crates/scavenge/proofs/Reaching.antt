-- Between which words those lie that refer to a generation.
use Rattle.std.proofs.Common.{◌≡◌, ◌≢◌, ℕ, ◌+◌, ◌-◌, ◌*◌, ◌/◌, ◌%◌, ◌^◌, ◌<◌, ◌≤◌, ◌⊎◌, inl, inr, List, length, take, drop, ◌∙◌, ap, subst, arith}
use Rattle.std.specs.Prelude.{bit_or, slice_index}
use Rattle.std.proofs.lemmas.Bool.{cases_lt, cases_eq}
use Rattle.std.proofs.lemmas.Nat.{le_or_l, le_or_r}
use Rattle.std.proofs.lemmas.List.{get_or-take, get_or-drop, length-take-le, length-drop}
use Rattle.heap_terms.specs.declared.limits.TheConstants.{MOST_WORDS}
use Rattle.heap_terms.specs.declared.pages.Entry.{Entry}
use Rattle.heap_terms.specs.Layout.{base_address}
use Rattle.lisp_words.specs.declared.pointers.Lowtag.{Lowtag}
use Rattle.lisp_words.specs.declared.pointers.Lowtag.TheVariants as lowtags
use Rattle.lisp_words.specs.Tagged.{IsTagged, tag_bits}
use Rattle.scavenge.specs.declared.clear.Reach.{Reach}
use Rattle.scavenge.specs.Clear.{LieWithin, IsReach, AreBeyond, IsElsewhere, AreElsewhere}

-- the lowtags
least_bits : (tag : Lowtag) → 3 ≤ tag_bits tag
least_bits lowtags.Instance = omega arith
least_bits lowtags.List = omega arith
least_bits lowtags.Function = omega arith
least_bits lowtags.Other = omega arith

most_bits : (tag : Lowtag) → tag_bits tag ≤ 15
most_bits lowtags.Instance = omega arith
most_bits lowtags.List = omega arith
most_bits lowtags.Function = omega arith
most_bits lowtags.Other = omega arith

-- the index to which a word would refer
abbrev its_index : ℕ → ℕ
its_index word = (word - base_address) / 16 * 2

index-is : (word index : ℕ) (tag : Lowtag) → IsTagged word index tag → index ≡ its_index word
index-is word index tag h =
    let most = most_bits tag in
    let even = h.even in
    let is : word ≡ base_address + 8 * index + tag_bits tag = h.word_is in
    omega (arith, most, even, is)

-- a word is an address
record IsAddress (word : ℕ) : Type 0 where
  index : ℕ
  tag : Lowtag
  tagged : IsTagged word index tag

by_tag : (word : ℕ) (tag : Lowtag) → its_index word < MOST_WORDS → IsAddress word ⊎ (word ≢ base_address + 8 * its_index word + tag_bits tag)
by_tag word tag below = elim (cases_eq word (base_address + 8 * its_index word + tag_bits tag)) [
  | inl is ↦ inl (record { index = its_index word; tag = tag; tagged = record { even = omega arith; below = below; word_is = is } })
  | inr other ↦ inr other
]

by_tags : (word : ℕ) → its_index word < MOST_WORDS → IsAddress word ⊎ ((tag : Lowtag) → word ≢ base_address + 8 * its_index word + tag_bits tag)
by_tags word below = elim (by_tag word lowtags.Instance below) [
  | inl is ↦ inl is
  | inr one ↦ elim (by_tag word lowtags.List below) [
    | inl is ↦ inl is
    | inr two ↦ elim (by_tag word lowtags.Function below) [
      | inl is ↦ inl is
      | inr three ↦ elim (by_tag word lowtags.Other below) [
        | inl is ↦ inl is
        | inr four ↦ inr (none one two three four)
      ]
    ]
  ]
]
  where
    none : (word ≢ base_address + 8 * its_index word + 3) → (word ≢ base_address + 8 * its_index word + 7) → (word ≢ base_address + 8 * its_index word + 11)
        → (word ≢ base_address + 8 * its_index word + 15) → (tag : Lowtag) → word ≢ base_address + 8 * its_index word + tag_bits tag
    none one two three four lowtags.Instance = one
    none one two three four lowtags.List = two
    none one two three four lowtags.Function = three
    none one two three four lowtags.Other = four

address_or_not : (word : ℕ) → IsAddress word ⊎ ((index : ℕ) (tag : Lowtag) → IsTagged word index tag → ⊥)
address_or_not word = elim (cases_lt (its_index word) MOST_WORDS) [
  | inr above ↦ inr (λ index tag h. (let same = index-is word index tag h in let below = h.below in absurd (omega (arith, same, below, above))))
  | inl below ↦ elim (by_tags word below) [
    | inl is ↦ inl is
    | inr none ↦ inr (λ index tag h. none tag (let same = index-is word index tag h in let is : word ≡ base_address + 8 * index + tag_bits tag = h.word_is in omega (arith, same, is)))
  ]
]

-- a word out of reach
pub elsewhere : (pages : List Entry) (g : ℕ) (reach : Reach) → IsReach pages g reach → (word : ℕ) → (word < reach.from) ⊎ (reach.end ≤ word) → IsElsewhere pages g word
elsewhere pages g reach all word out = elim (address_or_not word) [
  | inr none ↦ inl none
  | inl it ↦ inr (record { index = it.index; tag = it.tag; tagged = it.tagged; other = all.others word it.index it.tag it.tagged out })
]

-- the addresses on the pages between two
pub reach-of : (pages : List Entry) (g first end from past : ℕ) → LieWithin pages g first end → end ≤ 1024 → from ≡ base_address + 8 * (512 * first) + 3
    → past ≡ base_address + 8 * (512 * end) + 3 → IsReach pages g (record { from = from; end = past })
reach-of pages g first end from past within few from_is past_is = record {
  low = omega (arith, few, past_is);
  others = λ word index tag h out.
      (let least = least_bits tag in
      let most = most_bits tag in
      let even = h.even in
      let is : word ≡ base_address + 8 * index + tag_bits tag = h.word_is in
      within (index / 512) (elim out [
        | inl low ↦ inl (omega (arith, least, is, low, from_is))
        | inr high ↦ inr (omega (arith, most, even, is, high, past_is))
      ]));
}

-- how far a word lies above from, halved, less more than half of how far end does
abbrev beside : ℕ → ℕ → ℕ → ℕ
beside from end w = ((w + (2 ^ 64 - from)) % 2 ^ 64 / 2 + (2 ^ 64 - ((end + (2 ^ 64 - from)) % 2 ^ 64 / 2 + 1))) % 2 ^ 64

within : (w from end : ℕ) → from ≤ w → w < end → end < 2 ^ 63 → 2 ^ 63 ≤ beside from end w
within w from end above below low = omega (arith, above, below, low)

-- one word more is compared
outside : (w from end : ℕ) → end < 2 ^ 63 → beside from end w < 2 ^ 63 → (w < from) ⊎ (end ≤ w)
outside w from end low none = elim (cases_lt w from) [
  | inl under ↦ inl under
  | inr above ↦ elim (cases_lt w end) [
    | inr high ↦ inr high
    | inl below ↦ absurd (omega (arith, none, within w from end above below low))
  ]
]

pub beyond-more : (words : List ℕ) (reach : Reach) (found n : ℕ) → reach.end < 2 ^ 63
    → (found < 2 ^ 63 → (k : ℕ) → k < n → (slice_index words k < reach.from) ⊎ (reach.end ≤ slice_index words k))
    → bit_or found (beside reach.from reach.end (slice_index words n)) < 2 ^ 63
    → (k : ℕ) → k < n + 1 → (slice_index words k < reach.from) ⊎ (reach.end ≤ slice_index words k)
beyond-more words reach found n low before none k below = elim (cases_lt k n) [
  | inl sooner ↦ before (omega (arith, none, le_or_l found (beside reach.from reach.end (slice_index words n)))) k sooner
  | inr here ↦ (let at : n ≡ k = omega arith in
      subst (λ (i : ℕ). (slice_index words i < reach.from) ⊎ (reach.end ≤ slice_index words i)) at
      (outside (slice_index words n) reach.from reach.end low (omega (arith, none, le_or_r found (beside reach.from reach.end (slice_index words n))))))
]

-- words none of which lies in reach
pub all-elsewhere : (words : List ℕ) (pages : List Entry) (g : ℕ) (reach : Reach) → IsReach pages g reach → AreBeyond words reach → AreElsewhere words pages g 0 (length words)
all-elsewhere words pages g reach all beyond k below = elsewhere pages g reach all (slice_index words (0 + k)) (beyond (0 + k) (omega (arith, below)))

-- words that are a part of others
pub in-part : (space part : List ℕ) (pages : List Entry) (g from count : ℕ) → part ≡ take count (drop from space) → from + count ≤ length space
    → AreElsewhere part pages g 0 (length part) → AreElsewhere space pages g from count
in-part space part pages g from count is inside all k below =
    let rest = length-drop from space in
    let long : length part ≡ count = ap length is ∙ length-take-le count (drop from space) (omega (arith, rest, inside)) in
    let plus : 0 + k ≡ k = omega arith in
    let value : slice_index part (0 + k) ≡ slice_index space (from + k) =
    ap (λ ws. slice_index ws (0 + k)) is ∙ ap (λ (i : ℕ). slice_index (take count (drop from space)) i) plus ∙ get_or-take count (drop from space) k 0 below
    ∙ get_or-drop from space k 0 in
    subst (λ (w : ℕ). IsElsewhere pages g w) value (all k (omega (arith, long, below)))
