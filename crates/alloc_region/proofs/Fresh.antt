-- The words of an object without references: how they are built, and how many there are.
use Rattle.std.proofs.Common.{◌≡◌, ◌⊎◌, ⊎_elim, ℕ, zero, suc, List, [], ◌∷◌, length, map, replicate, refl, sym, ◌∙◌, ap, arith, length-append}
use Rattle.std.proofs.lemmas.List.{length-replicate}
use Rattle.heap_terms.specs.declared.kinds.Kind.{Kind}
use Rattle.heap_terms.specs.declared.kinds.Kind.TheVariants as kinds
use Rattle.heap_terms.specs.Fresh.{fresh_contents, IsBuildable}
use Rattle.heap_terms.specs.Heap.{zero_value}
use Rattle.heap_terms.specs.Layout.{size_with_header}
use Rattle.heap_terms.specs.Spelling.{word_of, with_header, spelling}

map-replicate : {A B : Type 0} (f : A → B) (n : ℕ) (x : A) → map f (replicate n x) ≡ replicate n (f x)
map-replicate f zero x = refl
map-replicate f (suc n) x = ap (λ l. f x ∷ l) (map-replicate f n x)

-- n fixnums 0
zeros : (n seed : ℕ) → seed ≡ 0 → map (word_of []) (replicate n zero_value) ≡ replicate n seed
zeros n seed e = map-replicate (word_of []) n zero_value ∙ ap (λ w. replicate n w) (sym e)

-- the kinds whose payload is n times one word
abbrev pub IsPlain : Kind → Type 0
IsPlain kind = (kind ≡ kinds.Vector) ⊎ ((kind ≡ kinds.Instance) ⊎ ((kind ≡ kinds.Closure) ⊎ ((kind ≡ kinds.Words) ⊎ (kind ≡ kinds.Weak))))

cons-plain : IsPlain kinds.Cons → ⊥
cons-plain = ⊎_elim (λ e. cc) (⊎_elim (λ e. cc) (⊎_elim (λ e. cc) (⊎_elim (λ e. cc) (λ e. cc))))

table-plain : IsPlain kinds.Table → ⊥
table-plain = ⊎_elim (λ e. cc) (⊎_elim (λ e. cc) (⊎_elim (λ e. cc) (⊎_elim (λ e. cc) (λ e. cc))))

pub spelling-plain : (kind : Kind) (n seed : ℕ) → IsBuildable kind n seed → IsPlain kind
    → with_header kind (replicate n seed) ≡ spelling [] (fresh_contents kind n seed)
spelling-plain kinds.Cons n seed b h = absurd (cons-plain h)
spelling-plain kinds.Vector n seed b h = ap (λ ws. with_header kinds.Vector ws) (sym (zeros n seed b.1))
spelling-plain kinds.Instance n seed b h = ap (λ ws. with_header kinds.Instance ws) (sym (zeros n seed b.1))
spelling-plain kinds.Closure n seed b h = ap (λ ws. with_header kinds.Closure ws) (sym (zeros n seed b.1))
spelling-plain kinds.Words n seed b h = refl
spelling-plain kinds.Weak n seed b h = ap (λ m. with_header kinds.Weak (replicate m seed)) b.0 ∙ ap (λ w. with_header kinds.Weak (w ∷ [])) b.1
spelling-plain kinds.Table n seed b h = absurd (table-plain h)

-- a header, a payload and its padding
pub length-with_header : (kind : Kind) (payload : List ℕ) → length (with_header kind payload) ≡ size_with_header (length payload)
length-with_header kind payload =
    simp (length-append, length-replicate) (omega arith)
