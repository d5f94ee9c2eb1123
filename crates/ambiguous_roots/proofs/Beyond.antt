-- From where on all pages are free, no object begins.
use Rattle.std.proofs.Common.{◌≡◌, ℕ, zero, suc, ◌+◌, ◌*◌, ◌≤◌, List, true, false, refl, ◌∙◌, subst, ap, arith}
use Rattle.std.proofs.lemmas.Bool.{false≢true}
use Rattle.heap_terms.specs.declared.pages.Entry.{Entry}
use Rattle.heap_terms.specs.declared.pages.Entry.TheVariants.{Free, Used}
use Rattle.heap_terms.specs.Heap.{NamedHeap, entry_at}
use Rattle.heap_terms.specs.Regions.{is_free}
use Rattle.heap_terms.specs.Sound.{IsSound}
use Rattle.ambiguous_roots.specs.Pinning.{is_walked, AreHitBefore, how_many_before}
use Rattle.ambiguous_roots.proofs.HowMany.{how_many-passed}
use Rattle.ambiguous_roots.proofs.PageStep.{hit-passed}

unwalked : (e : Entry) (page g : ℕ) → is_free e ≡ true → is_walked e page g ≡ false
unwalked Free page g free = refl
unwalked (Used ty k fill first n) page g free = absurd (false≢true free)

module _ (a : NamedHeap) (sound : IsSound a) (g end : ℕ) (free : (p : ℕ) → end ≤ p → is_free (entry_at a.pages p) ≡ true) where
  passed : (k : ℕ) → is_walked (entry_at a.pages (end + k)) (end + k) g ≡ false
  passed k = unwalked (entry_at a.pages (end + k)) (end + k) g (free (end + k) (omega arith))

  pub hit-beyond : (words listed : List ℕ) → AreHitBefore a g words (512 * end) listed → (k : ℕ) → AreHitBefore a g words (512 * (end + k)) listed
  hit-beyond words listed before zero = (let same : end ≡ end + 0 = omega arith in subst (λ (n : ℕ). AreHitBefore a g words (512 * n) listed) same before)
  hit-beyond words listed before (suc k) =
      let same : end + k + 1 ≡ end + suc k = omega arith in
      subst (λ (n : ℕ). AreHitBefore a g words (512 * n) listed) same (hit-passed a sound g (end + k) words listed (hit-beyond words listed before k) (passed k))

  pub count-beyond : (k : ℕ) → how_many_before a g (512 * (end + k)) ≡ how_many_before a g (512 * end)
  count-beyond zero = (let same : end + 0 ≡ end = omega arith in ap (λ (n : ℕ). how_many_before a g (512 * n)) same)
  count-beyond (suc k) =
      let same : end + suc k ≡ end + k + 1 = omega arith in
      ap (λ (n : ℕ). how_many_before a g (512 * n)) same ∙ how_many-passed a sound g (end + k) (passed k) ∙ count-beyond k
