-- A new cons holds its operands.
use Rattle.std.proofs.Common.{◌≡◌, ℕ, ◌+◌, ◌<◌, List, [], ◌∷◌, ◌++◌, length, Option, Some, None, inl, inr, refl, sym, ◌∙◌, ap, arith, get_or, set}
use Rattle.std.proofs.lemmas.List.{get_or-set_same, get_or_push, length-set}
use Rattle.std.specs.Prelude.{if◌then◌else◌, ◌==◌, unwrap_or}
use Rattle.heap_terms.specs.declared.answers.Answer.TheVariants as answers
use Rattle.heap_terms.specs.declared.cells.Cell.{Cell}
use Rattle.heap_terms.specs.declared.cells.Cell.TheVariants.{Stack, Exact, Shared}
use Rattle.heap_terms.specs.declared.cells.Value.{Value}
use Rattle.heap_terms.specs.declared.cells.Value.TheVariants as values
use Rattle.heap_terms.specs.declared.commands.Command.{Command}
use Rattle.heap_terms.specs.declared.commands.Command.TheVariants.{NewCons}
use Rattle.heap_terms.specs.declared.events.Event.{Event}
use Rattle.heap_terms.specs.declared.events.Event.TheVariants.{Did}
use Rattle.heap_terms.specs.declared.kinds.Kind.{Kind}
use Rattle.heap_terms.specs.declared.kinds.Kind.TheVariants as kinds
use Rattle.heap_terms.specs.declared.programs.Program.{Program}
use Rattle.heap_terms.specs.Cells.{cell_value, with_cell}
use Rattle.heap_terms.specs.Heap.{NamedHeap, Thread, object_at, thread_at, with_thread, zero_value}
use Rattle.heap_terms.specs.Histories.{IsNext, after, Lawful, replay}
use Rattle.heap_terms.specs.Layout.{size_of}
use Rattle.heap_terms.specs.Objects.{Object, ConsOf}
use Rattle.heap_terms.specs.Regions.{committed, counting, triggers, run_used, pages_after, place_for}
use Rattle.heap_terms.specs.Valid.{IsValid, IsCell}
use Rattle.heap_terms.specs.WellFormed.{IsWellFormed}
use Rattle.heap_laws.proofs.Events.OwnThread.{built_heap}
use Rattle.heap_laws.proofs.Outcomes.Parts.{by_test}
use Rattle.heap_laws.proofs.OneCommand.Outcome.{IsCommit, commit_outcome}
use Rattle.heap_laws.proofs.OneCommand.Put.{advance-cells}
use Rattle.heap_laws.proofs.Programs.ScriptCommands.{script_command, script_thread}
use Rattle.heap_laws.proofs.WellFormed.Committed.{new_object}
use Rattle.heap_laws.proofs.WellFormed.Replayed.{replay-well_formed}
use Rattle.heap_laws.proofs.WellFormed.Threads.{changed_thread, thread_cases}

-- the cell of a thread that has all its cells holds what was put into it
pub cell_written : (b : NamedHeap) (t : ℕ) (d : Cell) (v : Value) → IsCell d → t < length b.threads → length (thread_at b t).stack ≡ 16 →
    length (thread_at b t).exact ≡ 16 → length b.shared ≡ 16 → cell_value (with_cell b t d v) t d ≡ v
cell_written b t (Stack i) v h l stack exact shared =
    let th = thread_at b t in
    ap (λ (x : Thread). get_or x.stack i zero_value) (changed_thread b t (record th { stack = set th.stack i v }) l)
    ∙ get_or-set_same th.stack i v zero_value (omega arith)
cell_written b t (Exact i) v h l stack exact shared =
    let th = thread_at b t in
    ap (λ (x : Thread). get_or x.exact i zero_value) (changed_thread b t (record th { exact = set th.exact i v }) l)
    ∙ get_or-set_same th.exact i v zero_value (omega arith)
cell_written b t (Shared i) v h l stack exact shared = get_or-set_same b.shared i v zero_value (omega arith)

-- what a thread owes and the counts of `auto` are in no cell
owing-cells : (b : NamedHeap) (t u : ℕ) (c : Cell) (owed : Option ℕ) (counted triggered : ℕ) →
    cell_value (record (with_thread b t (record (thread_at b t) { owed = owed })) { counted = counted; triggered = triggered }) u c ≡ cell_value b u c
owing-cells b t u (Stack i) owed counted triggered = elim (thread_cases b t u (record (thread_at b t) { owed = owed })) [
  | inl e ↦ ap (λ (th : Thread). get_or th.stack i zero_value) e
  | inr e ↦ ap (λ (th : Thread). get_or th.stack i zero_value) e.2 ∙ ap (λ (n : ℕ). get_or (thread_at b n).stack i zero_value) (sym e.0)
]
owing-cells b t u (Exact i) owed counted triggered = elim (thread_cases b t u (record (thread_at b t) { owed = owed })) [
  | inl e ↦ ap (λ (th : Thread). get_or th.exact i zero_value) e
  | inr e ↦ ap (λ (th : Thread). get_or th.exact i zero_value) e.2 ∙ ap (λ (n : ℕ). get_or (thread_at b n).exact i zero_value) (sym e.0)
]
owing-cells b t u (Shared i) owed counted triggered = refl

counted-cells : (b : NamedHeap) (u : ℕ) (c : Cell) (counted : ℕ) → cell_value (record b { counted = counted }) u c ≡ cell_value b u c
counted-cells b u (Stack i) counted = refl
counted-cells b u (Exact i) counted = refl
counted-cells b u (Shared i) counted = refl

counting-cells : (p : Program) (b : NamedHeap) (t size u : ℕ) (c : Cell) → cell_value (counting p b t size) u c ≡ cell_value b u c
counting-cells p b t size u c = by_test (λ (x : NamedHeap). cell_value x u c ≡ cell_value b u c) (triggers p b size)
    (record (with_thread b t (record (thread_at b t) { owed = Some (unwrap_or (thread_at b t).owed 0) })) { counted = 0; triggered = b.triggered + 1 })
    (record b { counted = (if p.auto == 0 then b.counted else b.counted + size) })
    (λ e. owing-cells b t u c (Some (unwrap_or (thread_at b t).owed 0)) 0 (b.triggered + 1))
    (λ e. counted-cells b u c (if p.auto == 0 then b.counted else b.counted + size))

-- the destination of a new cons refers to it
cons_cell : (p : Program) (a : NamedHeap) (t : ℕ) (d x y : Cell) → IsWellFormed p a → t < length p.threads → IsCell d →
    cell_value (committed p a t (NewCons d x y) kinds.Cons 2) t d ≡ values.Ref (length a.objects)
unfolding committed
cons_cell p a t d x y w l is_cell =
    let size = size_of kinds.Cons 2 in
    let c = NewCons d x y in
    let placed : NamedHeap = record (with_thread a t (run_used (thread_at a t) size))
    { objects = a.objects ++ Some (new_object a t c (place_for a t kinds.Cons size)) ∷ []; pages = pages_after a t kinds.Cons size } in
    let v = values.Ref (length a.objects) in
    let inside : t < length a.threads = (let same = w.threads_length in omega arith) in
    let here : thread_at placed t ≡ run_used (thread_at a t) size = changed_thread a t (run_used (thread_at a t) size) inside in
    let thread = w.threads t l in
    counting-cells p (with_cell placed t d v) t size t d
    ∙ cell_written placed t d v is_cell (let same = length-set a.threads t (run_used (thread_at a t) size) in omega arith)
    (ap (λ (th : Thread). length th.stack) here ∙ thread.stack_length) (ap (λ (th : Thread). length th.exact) here ∙ thread.exact_length) w.shared_length

-- the object of a name after a commit
cons_object : (p : Program) (a : NamedHeap) (t : ℕ) (c : Command) (kind : Kind) (n : ℕ) →
    object_at (committed p a t c kind n).objects (length a.objects) ≡ Some (new_object a t c (place_for a t kind (size_of kind n)))
cons_object p a t c kind n =
    let o = new_object a t c (place_for a t kind (size_of kind n)) in
    ap (λ (os : List (Option Object)). object_at os (length a.objects)) (built_heap p a t c kind n).objects
    ∙ get_or_push a.objects (Some o) None (length a.objects) refl

pub cons_holds : (p : Program) (h : List Event) (t : ℕ) (d x y : Cell) (name index : ℕ) → IsValid p → Lawful p h →
    IsNext p (replay p h) (Did t (NewCons d x y) (answers.Placed name index)) →
    (object_at (after p (replay p h) (Did t (NewCons d x y) (answers.Placed name index))).objects name
    ≡ Some (record { generation = 0; place = index; contents = ConsOf (cell_value (replay p h) t x) (cell_value (replay p h) t y) }))
    × (cell_value (after p (replay p h) (Did t (NewCons d x y) (answers.Placed name index))) t d ≡ values.Ref name)
cons_holds p h t d x y name index valid lawful e = held (replay p h) (replay-well_formed p h valid lawful) (commit_outcome p (replay p h) t (NewCons d x y) name index e)
  where
    held : (a : NamedHeap) → IsWellFormed p a → {b : NamedHeap} → IsCommit p a b t (NewCons d x y) name index →
        (object_at b.objects name ≡ Some (record { generation = 0; place = index; contents = ConsOf (cell_value a t x) (cell_value a t y) })) × (cell_value b t d ≡ values.Ref name)
    held a w {b} m =
        let c = NewCons d x y in
        let command = m.builds.command in
        let object : object_at b.objects name ≡ Some (new_object a t c index) =
        ap (λ (z : NamedHeap). object_at z.objects name) m.heap ∙ ap (λ (k : ℕ). object_at (committed p a t c m.kind m.n).objects k) m.name_is
        ∙ cons_object p a t c m.kind m.n ∙ ap (λ (k : ℕ). Some (new_object a t c k)) (sym m.index_is) in
        let kind_is : m.kind ≡ kinds.Cons = (let wish = m.wish in cc) in
        let n_is : m.n ≡ 2 = (let wish = m.wish in cc) in
        let cell : cell_value b t d ≡ values.Ref (length a.objects) =
        ap (λ (z : NamedHeap). cell_value z t d) m.heap ∙ advance-cells (committed p a t c m.kind m.n) t t d
        ∙ ap (λ (n : ℕ). cell_value (committed p a t c m.kind n) t d) n_is ∙ ap (λ (k : Kind). cell_value (committed p a t c k 2) t d) kind_is
        ∙ cons_cell p a t d x y w (script_thread p t (thread_at a t).done c command) (script_command p t (thread_at a t).done c valid command).in_range.0 in
        (object, cell ∙ ap (λ (n : ℕ). values.Ref n) (sym m.name_is))
