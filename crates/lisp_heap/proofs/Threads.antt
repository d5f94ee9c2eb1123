-- What is known of the threads of a heap after one of them was changed.
use Rattle.std.proofs.Common.{◌≡◌, ◌≢◌, ℕ, ◌<◌, length, sym, ◌∙◌, subst, ap, get_or-set_same, get_or-set_other, inl, inr}
use Rattle.std.proofs.lemmas.Bool.{cases_eq}
use Rattle.heap_terms.specs.Heap.{NamedHeap, Thread, thread_at, with_thread}

pub thread_at-same : (a : NamedHeap) (t : ℕ) (th : Thread) → t < length a.threads → thread_at (with_thread a t th) t ≡ th
thread_at-same a t th h = get_or-set_same a.threads t th _ h

pub thread_at-other : (a : NamedHeap) (t u : ℕ) (th : Thread) → u ≢ t → thread_at (with_thread a t th) u ≡ thread_at a u
thread_at-other a t u th h = get_or-set_other a.threads t u th _ h

-- a part of threads that the change of one leaves as it was
pub thread_part : {F : Type 0} (f : Thread → F) (a : NamedHeap) (t u : ℕ) (th : Thread) → f th ≡ f (thread_at a t) →
    u < length a.threads → f (thread_at (with_thread a t th) u) ≡ f (thread_at a u)
thread_part {F} f a t u th same h = elim (cases_eq u t) [
  | inl e ↦ (
      let at_t : t < length a.threads = subst (λ (k : ℕ). k < length a.threads) e h in
      let there : f (thread_at (with_thread a t th) t) ≡ f (thread_at a t) = ap f (thread_at-same a t th at_t) ∙ same in
      subst (λ (k : ℕ). f (thread_at (with_thread a t th) k) ≡ f (thread_at a k)) (sym e) there)
  | inr n ↦ ap f (thread_at-other a t u th n)
]
