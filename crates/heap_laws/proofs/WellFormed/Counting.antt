-- `auto` counts the words of commits, and that keeps a heap well-formed.
use Rattle.std.proofs.Common.{◌≡◌, ℕ, ◌+◌, ◌≤◌, Option, Some, None, Bool, true, false, inl, inr, refl, arith}
use Rattle.std.proofs.lemmas.Bool.{cases_Bool, eq-eqb, ltb-true, false≢true}
use Rattle.std.specs.Prelude.{IfSome, if◌then◌else◌, ◌==◌, nat_lt, nat_le, unwrap_or}
use Rattle.heap_terms.specs.declared.programs.Program.{Program}
use Rattle.heap_terms.specs.Heap.{NamedHeap, Thread, thread_at}
use Rattle.heap_terms.specs.Regions.{triggers, counting}
use Rattle.heap_terms.specs.WellFormed.{IsWellFormed}
use Rattle.heap_laws.proofs.WellFormed.Threads.{HasCells, cells_of, cells-kept, same_regions, same_sound}

-- with `auto` at 0 nothing is counted
pub counting-off : (p : Program) (b : NamedHeap) (t size : ℕ) → p.auto ≡ 0 → counting p b t size ≡ b
counting-off p b t size e = rw (eq-eqb p.auto 0 e) refl

-- the counts change
recounted-kept : (p : Program) (a : NamedHeap) (counted triggered : ℕ) → IsWellFormed p a → triggered ≤ 64 → IsWellFormed p (record a { counted = counted; triggered = triggered })
recounted-kept p a counted triggered w few = record {
  sound = same_sound a a.threads a.shared counted triggered w.sound;
  pages_length = w.pages_length;
  threads_length = w.threads_length;
  shared_length = w.shared_length;
  cum_length = w.cum_length;
  num_length = w.num_length;
  threads = w.threads;
  shared = w.shared;
  objects_collected = w.objects_collected;
  pages_collected = w.pages_collected;
  triggered = few;
  own_pages = w.own_pages;
  own_runs = w.own_runs;
}

-- a thread owes at least a collection of generation 0
asked_cells : (objects : _) (th : Thread) → HasCells objects th → HasCells objects (record th { owed = Some (unwrap_or th.owed 0) })
asked_cells objects th h = record {
  stack_length = h.stack_length;
  exact_length = h.exact_length;
  raws_length = h.raws_length;
  stack = h.stack;
  exact = h.exact;
  raws = h.raws;
  pins = h.pins;
  pins_most = h.pins_most;
  owed = most th.owed h.owed;
  inhibits = h.inhibits;
}
  where
    most : (o : Option ℕ) → IfSome o (λ last. last ≤ 5) → unwrap_or o 0 ≤ 5
    most None h = omega arith
    most (Some last) h = h

-- fewer than 64 commits have triggered where one more does
few_triggered : (p : Program) (a : NamedHeap) (size : ℕ) → triggers p a size ≡ true → a.triggered + 1 ≤ 64
few_triggered p a size e = go (p.auto == 0) (nat_le p.auto (a.counted + size)) e
  where
    go : (off reached : Bool) → (if off then false else (if reached then nat_lt a.triggered 64 else false)) ≡ true → a.triggered + 1 ≤ 64
    go true reached e = absurd (false≢true e)
    go false true e = let l = ltb-true a.triggered 64 e in omega arith
    go false false e = absurd (false≢true e)

pub counting-kept : (p : Program) (a : NamedHeap) (t size : ℕ) → IsWellFormed p a → IsWellFormed p (counting p a t size)
counting-kept p a t size w = elim (cases_Bool (triggers p a size)) [
  | inl reached ↦ (
      let th = thread_at a t in
      let new : Thread = record th { owed = Some (unwrap_or th.owed 0) } in
      let asked = cells-kept p a t new w (λ l. asked_cells a.objects th (cells_of (w.threads t l))) (same_regions th new refl refl refl refl) in
      rw reached (recounted-kept p _ 0 (a.triggered + 1) asked (few_triggered p a size reached)))
  | inr below ↦ rw below (recounted-kept p a (if p.auto == 0 then a.counted else a.counted + size) a.triggered w w.triggered)
]
