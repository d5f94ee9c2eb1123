-- What a region builds is the words of the slots.
use Rattle.std.proofs.Common.{◌≡◌, ℕ, zero, suc, ◌+◌, ◌-◌, ◌*◌, ◌<◌, List, [], ◌∷◌, ◌++◌, length, map, replicate, Option, Some, refl, sym, ◌∙◌, ap, arith, get_or}
use Rattle.std.proofs.lemmas.List.{length-map, map-append, get_or-map}
use Rattle.std.proofs.lemmas.Option.{slice_get_within, slice_get-get_or, get_or_from_slice_get}
use Rattle.std.specs.Prelude.{pos, flat_map, slice_get, slice_index, IfSome}
use Rattle.heap_terms.specs.declared.cells.Value.{Value}
use Rattle.heap_terms.specs.declared.cells.Value.TheVariants.{Unbound}
use Rattle.heap_terms.specs.declared.kinds.Kind.{Kind}
use Rattle.heap_terms.specs.declared.kinds.Kind.TheVariants as kinds
use Rattle.heap_terms.specs.Layout.{fixnum_word, size_with_header, weakness_number}
use Rattle.heap_terms.specs.Objects.{Object, Contents, ConsOf, VectorOf, InstanceOf, ClosureOf, WordsOf, WeakTo, TableOf}
use Rattle.heap_terms.specs.Slots.{Slot, Raw, Val, Side, Kept, under_header, pair_slots, slots}
use Rattle.heap_terms.specs.Stands.{StandsFor}
use Rattle.heap_terms.specs.Spelling.{word_of, with_header, pair_words, spelling}
use Rattle.heap_laws.specs.WordLaws.{word_of_slot, AreAt}
use Rattle.heap_laws.proofs.Lists.Places.{IfSome-at, IfSome-from}

pub map-replicate : {A B : Type 0} (f : A → B) (n : ℕ) (x : A) → map f (replicate n x) ≡ replicate n (f x)
map-replicate f zero x = refl
map-replicate f (suc n) x = ap (λ l. f x ∷ l) (map-replicate f n x)

-- a header over a payload
under : (objects : List (Option Object)) (kind : Kind) (payload : List Slot) →
    map (word_of_slot objects) (under_header kind payload) ≡ with_header kind (map (word_of_slot objects) payload)
under objects kind payload =
    rw (
      map-append (word_of_slot objects) payload (replicate (size_with_header (length payload) - (length payload + 1)) (Raw 0)),
      map-replicate (word_of_slot objects) (size_with_header (length payload) - (length payload + 1)) (Raw 0),
      length-map payload (word_of_slot objects),
    ) refl

values : (objects : List (Option Object)) (vs : List Value) → map (word_of_slot objects) (map Val vs) ≡ map (word_of objects) vs
values objects [] = refl
values objects (v ∷ vs) = ap (λ ws. word_of objects v ∷ ws) (values objects vs)

raws : (objects : List (Option Object)) (ws : List ℕ) → map (word_of_slot objects) (map Raw ws) ≡ ws
raws objects [] = refl
raws objects (w ∷ ws) = ap (λ more. w ∷ more) (raws objects ws)

sides : (objects : List (Option Object)) (pairs : List (Value × Value)) →
    map (word_of_slot objects) (flat_map (λ pair. Side pair.0 ∷ Side pair.1 ∷ []) pairs)
    ≡ flat_map (λ pair. word_of objects pair.0 ∷ word_of objects pair.1 ∷ []) pairs
sides objects [] = refl
sides objects (pair ∷ pairs) = ap (λ ws. word_of objects pair.0 ∷ word_of objects pair.1 ∷ ws) (sides objects pairs)

paired : (objects : List (Option Object)) (b : ℕ) (pairs : List (Value × Value)) →
    map (word_of_slot objects) (pair_slots b pairs) ≡ pair_words objects b pairs
paired objects b pairs =
    rw (
      map-append (word_of_slot objects) (flat_map (λ pair. Side pair.0 ∷ Side pair.1 ∷ []) pairs) (replicate (2 * (b - length pairs)) (Side Unbound)),
      map-replicate (word_of_slot objects) (2 * (b - length pairs)) (Side Unbound),
      sides objects pairs,
    ) refl

pub slots-spelled : (objects : List (Option Object)) (contents : Contents) → map (word_of_slot objects) (slots contents) ≡ spelling objects contents
slots-spelled objects (ConsOf a b) = refl
slots-spelled objects (VectorOf vs) = under objects kinds.Vector (map Val vs) ∙ ap (with_header kinds.Vector) (values objects vs)
slots-spelled objects (InstanceOf vs) = under objects kinds.Instance (map Val vs) ∙ ap (with_header kinds.Instance) (values objects vs)
slots-spelled objects (ClosureOf vs) = under objects kinds.Closure (map Val vs) ∙ ap (with_header kinds.Closure) (values objects vs)
slots-spelled objects (WordsOf ws) = under objects kinds.Words (map Raw ws) ∙ ap (with_header kinds.Words) (raws objects ws)
slots-spelled objects (WeakTo v) = refl
slots-spelled objects (TableOf w b pairs) =
    let first : ℕ = fixnum_word (pos (weakness_number w)) in
    let count : ℕ = fixnum_word (pos (length pairs)) in
    under objects kinds.Table (Raw first ∷ Kept ∷ Raw count ∷ (pair_slots b pairs ++ replicate (2 * b) Kept))
    ∙ ap (λ ws. with_header kinds.Table (first ∷ 0 ∷ count ∷ ws))
    (map-append (word_of_slot objects) (pair_slots b pairs) (replicate (2 * b) Kept)
    ∙ rw (paired objects b pairs, map-replicate (word_of_slot objects) (2 * b) Kept) refl)

-- words are those of slots where each is
module _ (objects : List (Option Object)) (words : List ℕ) (from : ℕ) (ss : List Slot) where
  -- slot i is told by the word at its place
  at : AreAt words from (map (word_of_slot objects) ss) → (i : ℕ) (s : Slot) → slice_get ss i ≡ Some s →
      slice_index words (from + i) ≡ word_of_slot objects s
  at h i s e =
      let inside : i < length ss = slice_get_within ss i s e in
      h i (omega (arith, length-map ss (word_of_slot objects)))
      ∙ get_or-map (word_of_slot objects) ss i s 0 inside ∙ ap (word_of_slot objects) (get_or_from_slice_get ss i s s e)

  stands : (s : Slot) (word : ℕ) → word ≡ word_of_slot objects s → StandsFor objects s word
  stands (Raw w) word e = e
  stands (Val v) word e = e
  stands (Side v) word e = e
  stands Kept word e = tt

  pub slots_from_words : AreAt words from (map (word_of_slot objects) ss) →
      ((i : ℕ) → IfSome (slice_get ss i) (λ s. StandsFor objects s (slice_index words (from + i))))
      × ((i : ℕ) → slice_get ss i ≡ Some Kept → slice_index words (from + i) ≡ 0)
  slots_from_words h = (
    (λ i. IfSome-from (λ s. StandsFor objects s (slice_index words (from + i))) (slice_get ss i) (λ s e. stands s (slice_index words (from + i)) (at h i s e))),
    (λ i e. at h i Kept e),
  )

  told : (s : Slot) (word : ℕ) → StandsFor objects s word → (s ≡ Kept → word ≡ 0) → word ≡ word_of_slot objects s
  told (Raw w) word e k = e
  told (Val v) word e k = e
  told (Side v) word e k = e
  told Kept word e k = k refl

  pub words_from_slots : ((i : ℕ) → IfSome (slice_get ss i) (λ s. StandsFor objects s (slice_index words (from + i)))) →
      ((i : ℕ) → slice_get ss i ≡ Some Kept → slice_index words (from + i) ≡ 0) → AreAt words from (map (word_of_slot objects) ss)
  words_from_slots spelled kept i l =
      let inside : i < length ss = omega (arith, length-map ss (word_of_slot objects)) in
      let s : Slot = get_or ss i Kept in
      let there : slice_get ss i ≡ Some s = slice_get-get_or ss i Kept inside in
      told s (slice_index words (from + i)) (IfSome-at (λ s. StandsFor objects s (slice_index words (from + i))) (slice_get ss i) s there (spelled i))
      (λ e. kept i (there ∙ ap {B = Option Slot} (λ k. Some k) e))
      ∙ sym (get_or-map (word_of_slot objects) ss i Kept 0 inside)
