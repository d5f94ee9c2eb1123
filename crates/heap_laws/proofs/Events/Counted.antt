-- What the counts of `auto` change of the threads.
use Rattle.std.proofs.Common.{◌≡◌, ◌≢◌, ℕ, ◌+◌, ◌-◌, ◌≤◌, length, Option, Some, None, Bool, true, false, inl, inr, refl, sym, ◌∙◌, arith}
use Rattle.std.proofs.lemmas.Bool.{cases_Bool, ltb-true, false≢true}
use Rattle.std.proofs.lemmas.List.{length-set}
use Rattle.std.specs.Prelude.{if◌then◌else◌, ◌==◌, nat_lt, nat_le, unwrap_or}
use Rattle.heap_terms.specs.declared.programs.Program.{Program}
use Rattle.heap_terms.specs.Heap.{NamedHeap, Thread, thread_at, with_thread}
use Rattle.heap_terms.specs.Regions.{triggers, counting}
use Rattle.heap_laws.specs.Remaining.{owes, triggers_left}
use Rattle.heap_laws.proofs.Events.Tasks.{IsSameTask, same_task}
use Rattle.heap_laws.proofs.WellFormed.Threads.{thread_cases, other_thread}

pub owes_most : (o : Option ℕ) → owes o ≤ 1
owes_most None = omega arith
owes_most (Some last) = omega arith

-- what is left of the triggers, by their number
abbrev pub triggers_after : Program → ℕ → ℕ
triggers_after p triggered = if p.auto == 0 then 0 else 64 - triggered

-- where a commit triggers there is one less left
one_less : (p : Program) (a : NamedHeap) (size : ℕ) → triggers p a size ≡ true → triggers_after p (a.triggered + 1) + 1 ≡ triggers_left p a
one_less p a size e = go (p.auto == 0) (nat_le p.auto (a.counted + size)) e
  where
    go : (off reached : Bool) → (if off then false else (if reached then nat_lt a.triggered 64 else false)) ≡ true →
        (if off then 0 else 64 - (a.triggered + 1)) + 1 ≡ (if off then 0 else 64 - a.triggered)
    go true reached e = absurd (false≢true e)
    go false true e = let l = ltb-true a.triggered 64 e in omega arith
    go false false e = absurd (false≢true e)

-- the counts of a commit of thread t
pub record IsCount (p : Program) (a b : NamedHeap) (t : ℕ) : Type 0 where
  pub others : (u : ℕ) → u ≢ t → IsSameTask (thread_at a u) (thread_at b u)
  pub done : (thread_at b t).done ≡ (thread_at a t).done
  pub ended : (thread_at b t).ended ≡ (thread_at a t).ended
  pub owed : owes (thread_at b t).owed + triggers_left p b ≤ owes (thread_at a t).owed + triggers_left p a
  pub calm : p.auto ≡ 0 → (thread_at b t).owed ≡ (thread_at a t).owed
  pub inhibits : (thread_at b t).inhibits ≡ (thread_at a t).inhibits
  pub objects : b.objects ≡ a.objects
  pub pages : b.pages ≡ a.pages
  pub threads : length b.threads ≡ length a.threads

off_never : (p : Program) (a : NamedHeap) (size : ℕ) → p.auto ≡ 0 → triggers p a size ≡ true → ⊥
off_never p a size off e = false≢true (sym (none off) ∙ e)
  where
    none : p.auto ≡ 0 → triggers p a size ≡ false
    none off = rw off refl

pub counts : (p : Program) (a : NamedHeap) (t size : ℕ) → IsCount p a (counting p a t size) t
counts p a t size = elim (cases_Bool (triggers p a size)) [
  | inl reached ↦ rw reached (asked reached)
  | inr below ↦ rw below (record {
    others = λ u other. same_task (thread_at a u);
    done = refl;
    ended = refl;
    owed = omega arith;
    calm = λ off. refl;
    inhibits = refl;
    objects = refl;
    pages = refl;
    threads = refl;
  })
]
  where
    asked : triggers p a size ≡ true → IsCount p a (record (with_thread a t (record (thread_at a t) { owed = Some (unwrap_or (thread_at a t).owed 0) })) { counted = 0; triggered = a.triggered + 1 }) t
    asked reached =
        let new : Thread = record (thread_at a t) { owed = Some (unwrap_or (thread_at a t).owed 0) } in
        let less = one_less p a size reached in
        record {
          others = λ u other. rw (other_thread a t u new other) (same_task (thread_at a u));
          done = elim (thread_cases a t t new) [ inl e ↦ rw e refl | inr e ↦ rw e.2 refl ];
          ended = elim (thread_cases a t t new) [ inl e ↦ rw e refl | inr e ↦ rw e.2 refl ];
          owed = (let most = owes_most (thread_at (with_thread a t new) t).owed in omega arith);
          calm = λ off. absurd (off_never p a size off reached);
          inhibits = elim (thread_cases a t t new) [ inl e ↦ rw e refl | inr e ↦ rw e.2 refl ];
          objects = refl;
          pages = refl;
          threads = length-set a.threads t new;
        }
