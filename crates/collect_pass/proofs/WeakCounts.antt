-- How many weak pointers and tables there are: no more than names, and after a pass no more than before it.
use Rattle.std.proofs.Common.{◌≡◌, ℕ, ◌≤◌, length, Option, Some, None, Bool, true, inl, inr, refl, sym, ◌∙◌, ap, subst, arith}
use Rattle.std.proofs.lemmas.Bool.{cases_Bool, false≢true}
use Rattle.std.proofs.lemmas.List.FromFn.{length-range_with_len}
use Rattle.std.proofs.lemmas.List.Sums.{count_by-le-length}
use Rattle.std.specs.List.{range_with_len}
use Rattle.std.specs.Prelude.{count_by}
use Rattle.heap_terms.specs.declared.events.PassRecord.{PassRecord}
use Rattle.heap_terms.specs.Generations.{names}
use Rattle.heap_terms.specs.Heap.{NamedHeap, object_at}
use Rattle.heap_terms.specs.Objects.{Object, Contents, ConsOf, VectorOf, InstanceOf, ClosureOf, WordsOf, WeakTo, TableOf}
use Rattle.heap_terms.specs.Passes.{IsPass, after_pass, object_after, remains}
use Rattle.heap_terms.specs.Sound.{IsSound}
use Rattle.heap_terms.specs.Survival.{surviving}
use Rattle.pass_laws.proofs.AfterPages.{object_at-after, objects_long}
use Rattle.pass_laws.proofs.Counting.{count-most}
use Rattle.copy_space.specs.WeakNames.{is_weak, is_weak_object, weak_count}

pub weak-few : (a : NamedHeap) → weak_count a ≤ length a.objects
weak-few a =
    let most = count_by-le-length (λ name. is_weak_object (object_at a.objects name)) (names a) in
    let long = length-range_with_len 0 (length a.objects) in
    omega arith

weak-survives : (live : ℕ → Bool) (k : Contents) → is_weak (surviving live k) ≡ is_weak k
weak-survives live (ConsOf a b) = refl
weak-survives live (VectorOf vs) = refl
weak-survives live (InstanceOf vs) = refl
weak-survives live (ClosureOf vs) = refl
weak-survives live (WordsOf ws) = refl
weak-survives live (WeakTo v) = refl
weak-survives live (TableOf w b pairs) = refl

weak-was : (a : NamedHeap) (r : PassRecord) (x : ℕ) (q : Option Object) → is_weak_object (object_after a r x q) ≡ true → is_weak_object q ≡ true
weak-was a r x None e = absurd (false≢true e)
weak-was a r x (Some o) e = elim (cases_Bool (remains a r x)) [
  | inl stays ↦ sym (weak-survives (remains a r) o.contents) ∙ (rw stays at e)
  | inr gone ↦ absurd (false≢true (rw gone at e))
]

pub weak-after : (a : NamedHeap) (g h : ℕ) (r : PassRecord) → IsSound a → IsPass a g h r → weak_count (after_pass a r) ≤ weak_count a
weak-after a g h r sound pass =
    subst (λ (n : ℕ). count_by (λ x. is_weak_object (object_at (after_pass a r).objects x)) (range_with_len 0 n) ≤ weak_count a) (sym (objects_long a g h r sound pass))
    (count-most (λ x. is_weak_object (object_at (after_pass a r).objects x)) (λ x. is_weak_object (object_at a.objects x)) (names a)
    (λ x e. weak-was a r x (object_at a.objects x) (sym (ap is_weak_object (object_at-after a r x)) ∙ e)))
