-- The runs of one program in which the collections took their names in the same orders are one.
use Rattle.std.proofs.Common.{◌≡◌, ℕ, zero, suc, ◌+◌, ◌-◌, List, [], ◌∷◌, ◌++◌, length, map, true, false, ◌⊎◌, inl, inr, refl, sym, ◌∙◌, ap, subst, arith, append_assoc, append-nil, set}
use Rattle.std.proofs.lemmas.Bool.{cases_order, cases_Bool, false≢true}
use Rattle.std.proofs.lemmas.List.{append_cancel_left, map-append}
use Rattle.std.proofs.lemmas.List.Elements.{filter-append, recursion_from_All}
use Rattle.std.specs.List.{filter, range_with_len, AllByRecursion}
use Rattle.heap_terms.specs.declared.events.Event.{Event}
use Rattle.heap_terms.specs.declared.events.Event.TheVariants.{Did, Opened, Collected, Ended}
use Rattle.heap_terms.specs.declared.pages.Next.TheVariants as nexts
use Rattle.heap_terms.specs.declared.phases.Phase.{Phase}
use Rattle.heap_terms.specs.declared.phases.Phase.TheVariants as phases
use Rattle.heap_terms.specs.declared.programs.Program.{Program}
use Rattle.heap_terms.specs.declared.steps.ReplayLine.{ReplayLine}
use Rattle.heap_terms.specs.Heap.{NamedHeap}
use Rattle.heap_terms.specs.Histories.{IsNext, next, replay, thread_of}
use Rattle.heap_terms.specs.MachineTurns.{Configuration, machine_start, phase_of, is_due, stays_inside, Does, IsTurn, IsStill}
use Rattle.heap_terms.specs.declared.phases.Task.{Task}
use Rattle.heap_terms.specs.declared.phases.Task.TheVariants.{Walk, Happen, Rest}
use Rattle.heap_terms.specs.Phases.{task_at, happened}
use Rattle.heap_terms.specs.Runs.{AreTurns, rounds_of, IsRun}
use Rattle.heap_terms.specs.Text.{journal_text}
use Rattle.heap_terms.specs.WordText.{run_text}
use Rattle.heap_laws.specs.Order.{orders_of}
use Rattle.heap_laws.proofs.EventSteps.{one_next}
use Rattle.machine_laws.specs.JournalLaws.{is_collection, orders_in, HasNoCollection, IsSameRun}

-- a collection comes where its thread collects next, and nothing else does
collects_next_is : (p : Program) (a : NamedHeap) (e : Event) → IsNext p a e → is_collection e ≡ true → (last : ℕ) × (next p a (thread_of e) ≡ nexts.Collect last)
unfolding IsNext
collects_next_is p a (Did t c answer) e is = absurd (false≢true is)
collects_next_is p a (Opened t ty first k) e is = absurd (false≢true is)
collects_next_is p a (Collected t last passes) e is = (last, e.0)
collects_next_is p a (Ended t) e is = absurd (false≢true is)

others_never_collect : (p : Program) (a : NamedHeap) (e : Event) (last : ℕ) → IsNext p a e → is_collection e ≡ false → next p a (thread_of e) ≡ nexts.Collect last → ⊥
unfolding IsNext
others_never_collect p a (Did t c answer) last e is collects = rw collects at e.1
others_never_collect p a (Opened t ty first k) last e is collects = (let never : nexts.Collect last ≡ nexts.Open = sym collects ∙ e.0 in cc)
others_never_collect p a (Collected t other passes) last e is collects = absurd (false≢true (sym is))
others_never_collect p a (Ended t) last e is collects = (let never : nexts.Collect last ≡ nexts.End = sym collects ∙ e in cc)

-- an event that is no collection has no orders
no_orders : (e : Event) → is_collection e ≡ false → orders_of e ≡ []
no_orders (Did t c answer) is = refl
no_orders (Opened t ty first k) is = refl
no_orders (Collected t last passes) is = absurd (false≢true (sym is))
no_orders (Ended t) is = refl

-- The orders of one history begin with those of another.
abbrev Begins : List Event → List Event → Type 0
Begins h g = (more : List (List (List ℕ))) × (orders_in g ≡ orders_in h ++ more)

-- the orders of two lists, one after the other
orders-append : (h g : List Event) → orders_in (h ++ g) ≡ orders_in h ++ orders_in g
orders-append h g = ap (λ (es : List Event). map orders_of es) (filter-append is_collection h g) ∙ map-append orders_of (filter is_collection h) (filter is_collection g)

-- two events that may come next and of which the orders of one history each tell
event_same : (p : Program) (old : List Event) (e f : Event) (h g : List Event) → IsNext p (replay p old) e → IsNext p (replay p old) f → thread_of e ≡ thread_of f →
    Begins ((old ++ e ∷ []) ++ h) ((old ++ f ∷ []) ++ g) → e ≡ f
event_same p old e f h g one two thread begins = elim (cases_Bool (is_collection e)) [
  | inl collects ↦ elim (cases_Bool (is_collection f)) [
    | inl also ↦ one_next p (replay p old) e f one two thread (heads also collects)
    | inr not_so ↦ (
        let next_is = collects_next_is p (replay p old) e one collects in
        absurd (others_never_collect p (replay p old) f next_is.0 two not_so (ap (next p (replay p old)) (sym thread) ∙ next_is.1)))
  ]
  | inr quiet ↦ elim (cases_Bool (is_collection f)) [
    | inl collects ↦ (
        let next_is = collects_next_is p (replay p old) f two collects in
        absurd (others_never_collect p (replay p old) e next_is.0 one quiet (ap (next p (replay p old)) thread ∙ next_is.1)))
    | inr also ↦ one_next p (replay p old) e f one two thread (no_orders e quiet ∙ sym (no_orders f also))
  ]
]
  where
    parts : (x : Event) (xs : List Event) → orders_in ((old ++ x ∷ []) ++ xs) ≡ orders_in old ++ orders_in (x ∷ xs)
    parts x xs = ap orders_in (append_assoc old (x ∷ []) xs) ∙ orders-append old (x ∷ xs)

    cons_orders : (x : Event) (xs : List Event) → is_collection x ≡ true → orders_in (x ∷ xs) ≡ orders_of x ∷ orders_in xs
    cons_orders x xs is = rw is refl

    heads : is_collection f ≡ true → is_collection e ≡ true → orders_of e ≡ orders_of f
    heads f_is e_is =
        let all : orders_in old ++ orders_in (f ∷ g) ≡ orders_in old ++ (orders_in (e ∷ h) ++ begins.0) =
        sym (parts f g) ∙ begins.1 ∙ ap (λ (xs : List (List (List ℕ))). xs ++ begins.0) (parts e h) ∙ append_assoc (orders_in old) (orders_in (e ∷ h)) begins.0 in
        let rest : orders_in (f ∷ g) ≡ orders_in (e ∷ h) ++ begins.0 = append_cancel_left (orders_in old) (orders_in (f ∷ g)) (orders_in (e ∷ h) ++ begins.0) all in
        let both : orders_of f ∷ orders_in g ≡ orders_of e ∷ (orders_in h ++ begins.0) =
        sym (cons_orders f g f_is) ∙ rest ∙ ap (λ (xs : List (List (List ℕ))). xs ++ begins.0) (cons_orders e h e_is) in
        cc

-- a history after a turn goes on from the one before
turn_extends : (p : Program) (t : ℕ) (old new : Configuration) (lines : List ReplayLine) → IsTurn p t old lines new → (rest : List Event) × (new.history ≡ old.history ++ rest)
turn_extends p t old new lines turn = by_task (task_at (phase_of old t) (is_due p old.history t)) turn
  where
    by_task : (task : Task) → Does p t task old lines new → (rest : List Event) × (new.history ≡ old.history ++ rest)
    by_task (Walk step) d = ([], d.history ∙ sym (append-nil old.history))
    by_task Happen d = (d.event ∷ [], d.history)
    by_task Rest d = ([], ap (λ (c : Configuration). c.history) d.same ∙ sym (append-nil old.history))

turns_extend : (p : Program) (ts : List ℕ) (old new : Configuration) (lines : List ReplayLine) → AreTurns p ts old lines new → (rest : List Event) × (new.history ≡ old.history ++ rest)
turns_extend p [] old new lines turns = ([], ap (λ (c : Configuration). c.history) turns.1 ∙ sym (append-nil old.history))
turns_extend p (t ∷ ts) old new lines turns =
    let first = turn_extends p t old turns.0 turns.2.own turns.2.turn in
    let rest = turns_extend p ts turns.0 new turns.1 turns.3 in
    (first.0 ++ rest.0, rest.1 ∙ ap (λ (h : List Event). h ++ rest.0) first.1 ∙ append_assoc old.history first.0 rest.0)

-- a configuration is its four parts
made : List Event → ℕ → List ℕ → List Phase → Configuration
made h turn words phases = record { history = h; turn = turn; words = words; phases = phases }

parts_same : (c d : Configuration) → c.history ≡ d.history → c.turn ≡ d.turn → c.words ≡ d.words → c.phases ≡ d.phases → c ≡ d
unfolding made
parts_same c d history turn words phases =
    ap (λ (x : List Event). made x c.turn c.words c.phases) history
    ∙ ap (λ (x : ℕ). made d.history x c.words c.phases) turn
    ∙ ap (λ (x : List ℕ). made d.history d.turn x c.phases) words
    ∙ ap (λ (x : List Phase). made d.history d.turn d.words x) phases

-- a turn has one outcome, where the histories that go on from there have the same orders
turn_same : (p : Program) (t : ℕ) (old new other : Configuration) (lines more : List ReplayLine) (h g : List Event) → IsTurn p t old lines new → IsTurn p t old more other →
    Begins (new.history ++ h) (other.history ++ g) → (new ≡ other) × (lines ≡ more)
turn_same p t old new other lines more h g one two begins = by_task (task_at (phase_of old t) (is_due p old.history t)) one two
  where
    by_task : (task : Task) → Does p t task old lines new → Does p t task old more other → (new ≡ other) × (lines ≡ more)
    by_task (Walk step) d e =
        let words : (new.turn ∷ new.words) ≡ (other.turn ∷ other.words) = d.words ∙ sym e.words in
        let turn_is : new.turn ≡ other.turn = cc in
        let words_are : new.words ≡ other.words = cc in
        (parts_same new other (d.history ∙ sym e.history) turn_is words_are (d.phases ∙ sym e.phases), d.shown ∙ sym e.shown)
    by_task Happen d e =
        let same : d.event ≡ e.event = event_same p old.history d.event e.event h g d.lawful e.lawful (d.thread ∙ sym e.thread)
        (subst (λ (x : List Event). Begins (x ++ h) ((old.history ++ e.event ∷ []) ++ g)) d.history (subst (λ (x : List Event). Begins (new.history ++ h) (x ++ g)) e.history begins)) in
        let history : new.history ≡ other.history = d.history ∙ ap (λ (x : Event). old.history ++ x ∷ []) same ∙ sym e.history in
        let n = length p.threads in
        let phases_are : new.phases ≡ other.phases = d.phases
        ∙ ap (λ (x : List Event). set old.phases t (happened n t (phase_of old t) (stays_inside (replay p x) d.event))) history
        ∙ ap (λ (x : Event). set old.phases t (happened n t (phase_of old t) (stays_inside (replay p other.history) x))) same ∙ sym e.phases in
        (parts_same new other history (d.turn ∙ sym e.turn) (d.words ∙ sym e.words) phases_are, d.shown ∙ sym e.shown)
    by_task Rest d e = (d.same ∙ sym e.same, d.none ∙ sym e.none)

turns_same : (p : Program) (ts : List ℕ) (old new other : Configuration) (lines more : List ReplayLine) → AreTurns p ts old lines new → AreTurns p ts old more other →
    Begins new.history other.history → (new ≡ other) × (lines ≡ more)
turns_same p [] old new other lines more one two begins = (one.1 ∙ sym two.1, one.0 ∙ sym two.0)
turns_same p (t ∷ ts) old new other lines more one two begins =
    let rest = turns_extend p ts one.0 new one.1 one.3 in
    let after = turns_extend p ts two.0 other two.1 two.3 in
    let first = turn_same p t old one.0 two.0 one.2.own two.2.own rest.0 after.0 one.2.turn two.2.turn
    (subst (λ (x : List Event). Begins x (two.0.history ++ after.0)) rest.1 (subst (λ (x : List Event). Begins new.history x) after.1 begins)) in
    let others = turns_same p ts two.0 new other one.1 two.1 (subst (λ (c : Configuration). AreTurns p ts c one.1 new) first.0 one.3) two.3 begins in
    (others.0, one.2.joined ∙ ap (λ (x : List ReplayLine). x ++ one.1) first.1 ∙ ap (λ (x : List ReplayLine). two.2.own ++ x) others.1 ∙ sym two.2.joined)

-- turns of two lists, cut where the first list ends
pub record TurnsCut (p : Program) (ts us : List ℕ) (old new : Configuration) (lines : List ReplayLine) : Type 0 where
  pub between : Configuration
  pub front : List ReplayLine
  pub rest : List ReplayLine
  pub first : AreTurns p ts old front between
  pub second : AreTurns p us between rest new
  pub joined : lines ≡ front ++ rest

pub turns_cut : (p : Program) (ts us : List ℕ) (old new : Configuration) (lines : List ReplayLine) → AreTurns p (ts ++ us) old lines new → TurnsCut p ts us old new lines
turns_cut p [] us old new lines turns = record { between = old; front = []; rest = lines; first = (refl, refl); second = turns; joined = refl }
turns_cut p (t ∷ ts) us old new lines turns =
    let cut = turns_cut p ts us turns.0 new turns.1 turns.3 in
    let first = turns.2 in
    record {
      between = cut.between;
      front = first.own ++ cut.front;
      rest = cut.rest;
      first = (turns.0, cut.front, record { own = first.own; turn = first.turn; joined = refl }, cut.first);
      second = cut.second;
      joined = first.joined ∙ ap (λ (x : List ReplayLine). first.own ++ x) cut.joined ∙ sym (append_assoc first.own cut.front cut.rest);
    }

-- where every thread is at its end turns change nothing
turns_over : (p : Program) (ts : List ℕ) (old new : Configuration) (lines : List ReplayLine) → ((t : ℕ) → phase_of old t ≡ phases.Ended) → AreTurns p ts old lines new →
    (new ≡ old) × (lines ≡ [])
turns_over p [] old new lines ended turns = (turns.1, turns.0)
turns_over p (t ∷ ts) old new lines ended turns =
    let first = turns.2 in
    let still : IsStill old first.own turns.0 = subst (λ (ph : Phase). Does p t (task_at ph (is_due p old.history t)) old first.own turns.0) (ended t) first.turn in
    let rest = turns_over p ts old new turns.1 ended (subst (λ (c : Configuration). AreTurns p ts c turns.1 new) still.same turns.3) in
    (rest.0, first.joined ∙ ap (λ (x : List ReplayLine). x ++ turns.1) still.none ∙ rest.1)

-- more rounds begin with fewer
rounds_more : (n k m : ℕ) → (rest : List ℕ) × (rounds_of n (k + m) ≡ rounds_of n k ++ rest)
rounds_more n k zero = ([], ap (rounds_of n) (let same : k + 0 ≡ k = omega arith in same) ∙ sym (append-nil (rounds_of n k)))
rounds_more n k (suc m) =
    let rest = rounds_more n k m in
    let count : k + suc m ≡ suc (k + m) = omega arith in
    (rest.0 ++ range_with_len 0 n, ap (rounds_of n) count ∙ ap (λ (ts : List ℕ). ts ++ range_with_len 0 n) rest.1 ∙ append_assoc (rounds_of n k) rest.0 (range_with_len 0 n))

-- a run and another of as many rounds or more do the same
run_same : (p : Program) (k m : ℕ) (last other : Configuration) (lines more : List ReplayLine) → ((t : ℕ) → phase_of last t ≡ phases.Ended) →
    AreTurns p (p.schedule ++ rounds_of (length p.threads) k) (machine_start p) lines last →
    AreTurns p (p.schedule ++ rounds_of (length p.threads) (k + m)) (machine_start p) more other → orders_in last.history ≡ orders_in other.history →
    (last ≡ other) × (lines ≡ more)
run_same p k m last other lines more ended one two orders =
    let front = p.schedule ++ rounds_of (length p.threads) k in
    let rest = rounds_more (length p.threads) k m in
    let cut_at : p.schedule ++ rounds_of (length p.threads) (k + m) ≡ front ++ rest.0 =
    ap (λ (ts : List ℕ). p.schedule ++ ts) rest.1 ∙ sym (append_assoc p.schedule (rounds_of (length p.threads) k) rest.0) in
    let cut = turns_cut p front rest.0 (machine_start p) other more (subst (λ (ts : List ℕ). AreTurns p ts (machine_start p) more other) cut_at two) in
    let end = turns_extend p rest.0 cut.between other cut.rest cut.second in
    let begins : Begins cut.between.history last.history = (orders_in end.0, orders ∙ ap orders_in end.1 ∙ orders-append cut.between.history end.0) in
    let same = turns_same p front (machine_start p) cut.between last cut.front lines cut.first one begins in
    let over = turns_over p rest.0 last other cut.rest ended (subst (λ (c : Configuration). AreTurns p rest.0 c cut.rest other) same.0 cut.second) in
    (sym over.0, sym (append-nil lines) ∙ ap (λ (x : List ReplayLine). lines ++ x) (sym over.1) ∙ ap (λ (x : List ReplayLine). x ++ cut.rest) (sym same.1) ∙ sym cut.joined)

pub one_run : (p : Program) (lines more : List ReplayLine) (h g : List Event) → IsRun p lines h → IsRun p more g → orders_in h ≡ orders_in g → (h ≡ g) × (lines ≡ more)
one_run p lines more h g one two orders =
    let same_orders : orders_in one.last.history ≡ orders_in two.last.history = ap orders_in one.history ∙ orders ∙ ap orders_in (sym two.history) in
    let same = by_order (order one.rounds two.rounds) same_orders in
    (sym one.history ∙ ap (λ (c : Configuration). c.history) same.0 ∙ two.history, same.1)
  where
    order : (k j : ℕ) → ((m : ℕ) × (j ≡ k + m)) ⊎ ((m : ℕ) × (k ≡ j + m))
    order k j = elim (cases_order k j) [
      | inl same ↦ inl (0, omega arith)
      | inr apart ↦ elim apart [
        | inl below ↦ inl (j - k, omega arith)
        | inr above ↦ inr (k - j, omega arith)
      ]
    ]

    by_order : ((m : ℕ) × (two.rounds ≡ one.rounds + m)) ⊎ ((m : ℕ) × (one.rounds ≡ two.rounds + m)) → orders_in one.last.history ≡ orders_in two.last.history →
        (one.last ≡ two.last) × (lines ≡ more)
    by_order (inl some) orders = run_same p one.rounds some.0 one.last two.last lines more one.ended one.turns
        (subst (λ (k : ℕ). AreTurns p (p.schedule ++ rounds_of (length p.threads) k) (machine_start p) more two.last) some.1 two.turns) orders
    by_order (inr some) orders =
        let same = run_same p two.rounds some.0 two.last one.last more lines two.ended two.turns
        (subst (λ (k : ℕ). AreTurns p (p.schedule ++ rounds_of (length p.threads) k) (machine_start p) lines one.last) some.1 one.turns) (sym orders) in
        (sym same.0, sym same.1)

pub one_journal : (p : Program) (lines more : List ReplayLine) (h g : List Event) → IsRun p lines h → IsRun p more g → orders_in h ≡ orders_in g → IsSameRun lines more h g
one_journal p lines more h g one two orders =
    let same = one_run p lines more h g one two orders in
    record {
      history = same.0;
      lines_are = same.1;
      journal = ap journal_text same.0;
      text = ap (λ (x : List Event). run_text x lines) same.0 ∙ ap (λ (x : List ReplayLine). run_text g x) same.1;
    }

-- where no collection is there are no orders
quiet_orders : (h : List Event) → HasNoCollection h → orders_in h ≡ []
quiet_orders h none = none_of h (recursion_from_All _ h none)
  where
    none_of : (h : List Event) → AllByRecursion (λ e. is_collection e ≡ false) h → orders_in h ≡ []
    none_of [] all = refl
    none_of (e ∷ es) all = rw all.0 (none_of es all.1)

pub quiet_journal : (p : Program) (lines more : List ReplayLine) (h g : List Event) → IsRun p lines h → IsRun p more g → HasNoCollection h → HasNoCollection g → IsSameRun lines more h g
quiet_journal p lines more h g one two none never = one_journal p lines more h g one two (quiet_orders h none ∙ sym (quiet_orders g never))
