-- What a collection changes of the threads: their regions are closed, and the collecting one owes nothing any more.
use Rattle.std.proofs.Common.{◌≡◌, ◌≢◌, ℕ, ◌+◌, ◌<◌, List, [], ◌∷◌, length, map, None, inl, inr, refl, sym, ◌∙◌, ap, arith}
use Rattle.std.proofs.lemmas.Bool.{cases_lt}
use Rattle.std.proofs.lemmas.List.{length-set, length-map, get_or-map, get_or_past}
use Rattle.std.proofs.lemmas.List.FromFn.{length-range_with_len}
use Rattle.heap_terms.specs.declared.events.PassRecord.{PassRecord}
use Rattle.heap_terms.specs.Collections.{closed_thread, closed, after_pass_of, after_passes, collected}
use Rattle.heap_terms.specs.Generations.{names}
use Rattle.heap_terms.specs.Heap.{NamedHeap, Thread, thread_at, ended_thread, fresh_thread}
use Rattle.heap_terms.specs.Passes.{after_pass}
use Rattle.heap_laws.proofs.WellFormed.Threads.{changed_thread, other_thread}

-- a pass leaves the threads, and as many names as before
pub record IsPassed (a b : NamedHeap) : Type 0 where
  pub threads : b.threads ≡ a.threads
  pub triggered : b.triggered ≡ a.triggered
  pub objects : length b.objects ≡ length a.objects

passed : (a : NamedHeap) (last g : ℕ) (r : PassRecord) → IsPassed a (after_pass_of a last g r)
unfolding after_pass
passed a last g r = record {
  threads = refl;
  triggered = refl;
  objects = length-map (names a) _ ∙ length-range_with_len 0 (length a.objects);
}

pub all_passed : (a : NamedHeap) (last g : ℕ) (passes : List PassRecord) → IsPassed a (after_passes a last g passes)
all_passed a last g [] = record { threads = refl; triggered = refl; objects = refl }
all_passed a last g (r ∷ rest) =
    let first = passed a last g r in
    let others = all_passed (after_pass_of a last g r) last (g + 1) rest in
    record {
      threads = others.threads ∙ first.threads;
      triggered = others.triggered ∙ first.triggered;
      objects = others.objects ∙ first.objects;
    }

-- all threads after their regions were closed
pub closed_at : (a : NamedHeap) (t : ℕ) → thread_at (closed a) t ≡ closed_thread (thread_at a t)
closed_at a t = elim (cases_lt t (length a.threads)) [
  | inl l ↦ get_or-map closed_thread a.threads t (ended_thread fresh_thread) (ended_thread fresh_thread) l
  | inr l ↦ get_or_past (map closed_thread a.threads) t (ended_thread fresh_thread) (let same = length-map a.threads closed_thread in omega arith)
      ∙ ap closed_thread (sym (get_or_past a.threads t (ended_thread fresh_thread) l))
]

pub record IsCollected (a b : NamedHeap) (t : ℕ) : Type 0 where
  pub others : (u : ℕ) → u ≢ t → thread_at b u ≡ closed_thread (thread_at a u)
  pub own : t < length a.threads → thread_at b t ≡ record (closed_thread (thread_at a t)) { owed = None }
  pub triggered : b.triggered ≡ a.triggered
  pub objects : length b.objects ≡ length a.objects
  pub threads : length b.threads ≡ length a.threads

pub collected_threads : (a : NamedHeap) (t last : ℕ) (passes : List PassRecord) → IsCollected a (collected a t last passes) t
unfolding collected
collected_threads a t last passes =
    let b = after_passes (closed a) last 0 passes in
    let same = all_passed (closed a) last 0 passes in
    let at : (u : ℕ) → thread_at b u ≡ closed_thread (thread_at a u) = λ u.
    ap (λ (ths : List Thread). thread_at (record a { threads = ths }) u) same.threads ∙ closed_at a u in
    let long : length b.threads ≡ length a.threads = ap (λ (ths : List Thread). length ths) same.threads ∙ length-map a.threads closed_thread in
    let new : Thread = record (thread_at b t) { owed = None } in
    record {
      others = λ u other. other_thread b t u new other ∙ at u;
      own = λ l. changed_thread b t new (omega arith) ∙ ap (λ (th : Thread). record th { owed = None }) (at t);
      triggered = same.triggered;
      objects = same.objects;
      threads = length-set b.threads t new ∙ long;
    }
