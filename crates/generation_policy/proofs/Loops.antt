-- A loop that makes the passes of a collection: what one pass more, over generation h, does to those made so far.
use Rattle.std.proofs.Common.{◌≡◌, ℕ, ◌+◌, List, [], ◌∷◌, ◌++◌, length, true, false, ap, arith, subst}
use Rattle.heap_terms.specs.declared.events.PassRecord.{PassRecord}
use Rattle.heap_terms.specs.Collections.{ArePasses, IsPassOf, after_pass_of, after_passes, goes_on_after}
use Rattle.heap_terms.specs.Heap.{NamedHeap}
use Rattle.generation_policy.specs.SoFar.{ArePassesSoFar}

-- the heap after one pass more
pub after_one_more : (a : NamedHeap) (last g h : ℕ) (rs : List PassRecord) (r : PassRecord) → h ≡ g + length rs →
    after_passes a last g (rs ++ r ∷ []) ≡ after_pass_of (after_passes a last g rs) last h r
after_one_more a last g h [] r e = let same : g ≡ h = omega arith in ap (λ k. after_pass_of a last k r) same
after_one_more a last g h (q ∷ rs) r e = after_one_more (after_pass_of a last g q) last (g + 1) h rs r (omega (arith, e))

-- a pass after which the collection goes on
pub one_more : (a : NamedHeap) (last g h : ℕ) (rs : List PassRecord) (r : PassRecord) → h ≡ g + length rs →
    ArePassesSoFar a last g rs → IsPassOf (after_passes a last g rs) last h r →
    goes_on_after (after_passes a last g rs) last h r ≡ true → ArePassesSoFar a last g (rs ++ r ∷ [])
one_more a last g h [] r e so_far pass more =
    let same : h ≡ g = omega arith in
    let P : ℕ → Type 0 = λ k. IsPassOf a last k r in
    let Q : ℕ → Type 0 = λ k. goes_on_after a last k r ≡ true in
    (subst P same pass, subst Q same more, tt)
one_more a last g h (q ∷ rs) r e so_far pass more =
    (so_far.0, so_far.1, one_more (after_pass_of a last g q) last (g + 1) h rs r (omega (arith, e)) so_far.2 pass more)

-- a pass after which it ends
pub last_one : (a : NamedHeap) (last g h : ℕ) (rs : List PassRecord) (r : PassRecord) → h ≡ g + length rs →
    ArePassesSoFar a last g rs → IsPassOf (after_passes a last g rs) last h r →
    goes_on_after (after_passes a last g rs) last h r ≡ false → ArePasses a last g (rs ++ r ∷ [])
last_one a last g h [] r e so_far pass ends =
    let same : h ≡ g = omega arith in
    let P : ℕ → Type 0 = λ k. IsPassOf a last k r in
    let Q : ℕ → Type 0 = λ k. goes_on_after a last k r ≡ false in
    (subst P same pass, subst Q same ends)
last_one a last g h (q ∷ []) r e so_far pass ends =
    (so_far.0, so_far.1, last_one (after_pass_of a last g q) last (g + 1) h [] r (omega (arith, e)) tt pass ends)
last_one a last g h (q ∷ s ∷ rs) r e so_far pass ends =
    (so_far.0, so_far.1, last_one (after_pass_of a last g q) last (g + 1) h (s ∷ rs) r (omega (arith, e)) so_far.2 pass ends)
