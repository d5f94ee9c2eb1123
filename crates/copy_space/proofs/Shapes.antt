-- The slots of an object that is sound: there are as many as it has words, and the first of all but a cons is its header.
use Rattle.std.proofs.Common.{◌≡◌, ◌≢◌, ℕ, ◌+◌, ◌-◌, ◌*◌, ◌<◌, ◌≤◌, List, [], ◌∷◌, ◌++◌, length, map, replicate, Some, refl, ◌∙◌, ap, arith, length-append}
use Rattle.std.proofs.lemmas.List.{length-map, length-replicate}
use Rattle.std.proofs.lemmas.Option.{slice_get_within}
use Rattle.std.specs.Prelude.{flat_map, pos}
use Rattle.heap_terms.specs.declared.cells.Value.{Value}
use Rattle.heap_terms.specs.declared.cells.Value.TheVariants.{Unbound}
use Rattle.heap_terms.specs.declared.kinds.Kind.{Kind}
use Rattle.heap_terms.specs.declared.kinds.Kind.TheVariants as kinds
use Rattle.heap_terms.specs.declared.kinds.Weakness.{Weakness}
use Rattle.heap_terms.specs.declared.limits.TheConstants.{MOST_ELEMENTS}
use Rattle.heap_terms.specs.Layout.{size_of, size_with_header, header_of, fixnum_word, weakness_number}
use Rattle.heap_terms.specs.Living.{IsShaped}
use Rattle.heap_terms.specs.Objects.{Contents, ConsOf, VectorOf, InstanceOf, ClosureOf, WordsOf, WeakTo, TableOf, kind_of, payload_of}
use Rattle.heap_terms.specs.Slots.{Slot, Raw, Val, Side, Kept, under_header, pair_slots, slots, slot_at}

under-length : (kind : Kind) (payload : List Slot) → length (under_header kind payload) ≡ size_with_header (length payload)
under-length kind payload = simp (length-append, length-replicate) (omega arith)

sides-length : (pairs : List (Value × Value)) → length (flat_map (λ pair. Side pair.0 ∷ Side pair.1 ∷ []) pairs) ≡ 2 * length pairs
sides-length [] = refl
sides-length (pair ∷ pairs) = omega (arith, sides-length pairs)

-- the payload of a table
table_payload : Weakness → ℕ → List (Value × Value) → List Slot
table_payload w b pairs = Raw (fixnum_word (pos (weakness_number w))) ∷ Kept ∷ Raw (fixnum_word (pos (length pairs))) ∷ (pair_slots b pairs ++ replicate (2 * b) Kept)

table-length : (w : Weakness) (b : ℕ) (pairs : List (Value × Value)) → length pairs ≤ b → length (table_payload w b pairs) ≡ 3 + 4 * b
unfolding table_payload
table-length w b pairs few =
    let sides = sides-length pairs in
    let unused = length-replicate (2 * (b - length pairs)) (Side Unbound) in
    let both = length-append (flat_map (λ pair. Side pair.0 ∷ Side pair.1 ∷ []) pairs) (replicate (2 * (b - length pairs)) (Side Unbound)) in
    let kept = length-replicate (2 * b) Kept in
    let all = length-append (pair_slots b pairs) (replicate (2 * b) Kept) in
    omega arith

pub slots-length : (contents : Contents) → IsShaped contents → length (slots contents) ≡ size_of (kind_of contents) (payload_of contents)
unfolding table_payload
slots-length (ConsOf a b) h = refl
slots-length (VectorOf vs) h = under-length kinds.Vector (map Val vs) ∙ ap size_with_header (length-map vs Val)
slots-length (InstanceOf vs) h = under-length kinds.Instance (map Val vs) ∙ ap size_with_header (length-map vs Val)
slots-length (ClosureOf vs) h = under-length kinds.Closure (map Val vs) ∙ ap size_with_header (length-map vs Val)
slots-length (WordsOf ws) h = under-length kinds.Words (map Raw ws) ∙ ap size_with_header (length-map ws Raw)
slots-length (WeakTo v) h = refl
slots-length (TableOf w b pairs) h = under-length kinds.Table (table_payload w b pairs) ∙ ap size_with_header (table-length w b pairs h.2)

leads : (kind : Kind) (payload : List Slot) (n : ℕ) → length payload ≡ n → Some (Raw (header_of kind (length payload))) ≡ Some (Raw (header_of kind n))
leads kind payload n e = rw e refl

pub header_leads : (contents : Contents) → IsShaped contents → kind_of contents ≢ kinds.Cons →
    slot_at contents 0 ≡ Some (Raw (header_of (kind_of contents) (payload_of contents)))
unfolding table_payload
header_leads (ConsOf a b) h n = absurd (n refl)
header_leads (VectorOf vs) h n = leads kinds.Vector (map Val vs) (length vs) (length-map vs Val)
header_leads (InstanceOf vs) h n = leads kinds.Instance (map Val vs) (length vs) (length-map vs Val)
header_leads (ClosureOf vs) h n = leads kinds.Closure (map Val vs) (length vs) (length-map vs Val)
header_leads (WordsOf ws) h n = leads kinds.Words (map Raw ws) (length ws) (length-map ws Raw)
header_leads (WeakTo v) h n = refl
header_leads (TableOf w b pairs) h n = leads kinds.Table (table_payload w b pairs) (3 + 4 * b) (table-length w b pairs h.2)

pub payload-most : (contents : Contents) → IsShaped contents → payload_of contents ≤ MOST_ELEMENTS
payload-most (ConsOf a b) h = omega arith
payload-most (VectorOf vs) h = h
payload-most (InstanceOf vs) h = h
payload-most (ClosureOf vs) h = h
payload-most (WordsOf ws) h = h.0
payload-most (WeakTo v) h = omega arith
payload-most (TableOf w b pairs) h = (let most = h.1 in omega arith)

pub slot-below : (contents : Contents) → IsShaped contents → (i : ℕ) (slot : Slot) → slot_at contents i ≡ Some slot → i < size_of (kind_of contents) (payload_of contents)
slot-below contents h i slot e =
    let below = slice_get_within (slots contents) i slot e in
    let long = slots-length contents h in
    omega arith
