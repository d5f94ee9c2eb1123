-- The lines of events are taken one after the other, and give the events.
use Rattle.std.proofs.Common.{◌≡◌, ℕ, ◌≤◌, true, eqb, leb, cond, List, [], ◌∷◌, ◌++◌, length, map, Option, Some, None, refl, ap, sym, ◌∙◌, arith, append_assoc, append-nil}
use Rattle.std.specs.List.{flat_map}
use Rattle.std.proofs.lemmas.Bool.{eq-eqb, le-leb}
use Rattle.heap_terms.specs.declared.events.Event.{Event}
use Rattle.heap_terms.specs.declared.events.Event.TheVariants as events
use Rattle.heap_terms.specs.declared.events.PassRecord.{PassRecord}
use Rattle.journal_text.specs.declared.parsing.pieces.Piece.{Piece}
use Rattle.journal_text.specs.declared.parsing.pieces.Piece.TheVariants as pieces
use Rattle.journal_text.specs.declared.parsing.stages.Stage.{Stage}
use Rattle.journal_text.specs.declared.parsing.stages.Stage.TheVariants as stages
use Rattle.journal_text.specs.Builder.{State, add, between, closed, collecting, done, fresh, is_open, rank, run, start, swept, with_breaks, with_culls, with_freed, with_moves, with_pass, with_pins, with_queued}
use Rattle.journal_text.specs.LineReading.{◌>>=◌}

-- the lines of a pass, of an event and of a journal
abbrev pub pass_pieces : PassRecord → List Piece
pass_pieces r = pieces.Pass r.generation r.target ∷ (map pieces.Move r.moves ++ (map pieces.Pin r.pins ++ (map pieces.Cull r.culls ++ (map pieces.Break r.breaks ++ (map pieces.Queue r.queued ++ (map pieces.Free r.freed ++ (pieces.Swept r.dead r.kept ∷ [])))))))

abbrev pub event_pieces : Event → List Piece
event_pieces (events.Did t c a) = pieces.Event (events.Did t c a) ∷ []
event_pieces (events.Opened t ty first k) = pieces.Event (events.Opened t ty first k) ∷ []
event_pieces (events.Collected t last passes) = pieces.Collect t last ∷ flat_map pass_pieces passes
event_pieces (events.Ended t) = pieces.Event (events.Ended t) ∷ []

abbrev pub journal_pieces : List Event → List Piece
journal_pieces h = flat_map event_pieces h ++ (pieces.Done (length h) ∷ [])

-- ---- the lists of a pass

-- one kind of entry: its line, and how the pass takes it
record Kinded {X : Type 0} (make : X → Piece) (get : PassRecord → List X) (upd : List X → PassRecord → PassRecord) (k : Stage) : Type 0 where
  adds : (s : State) (x : X) → add s (make x) ≡ cond (is_open s.stage k) (Some (with_pass k (upd (get s.pass ++ (x ∷ [])) s.pass) s)) None
  got : (xs : List X) (r : PassRecord) → get (upd xs r) ≡ xs
  twice : (xs ys : List X) (r : PassRecord) → upd xs (upd ys r) ≡ upd xs r
  same : (r : PassRecord) → upd (get r) r ≡ r
  self : 1 ≤ rank k

-- the lines were taken, the pass is this, and how far it has come
record Ran (s : State) (ps rest : List Piece) (r : PassRecord) (k : Stage) : Type 0 where
  stage : Stage
  low : 1 ≤ rank stage
  high : rank stage ≤ rank k
  goes : run s ps ≡ run (with_pass stage r s) rest

entries_run : {X : Type 0} {make : X → Piece} {get : PassRecord → List X} {upd : List X → PassRecord → PassRecord} {k : Stage} → Kinded make get upd k →
    (s : State) (xs : List X) (rest : List Piece) → 1 ≤ rank s.stage → rank s.stage ≤ rank k → Ran s (map make xs ++ rest) rest (upd (get s.pass ++ xs) s.pass) k
entries_run {make} {get} {upd} {k} kinded s [] rest low high =
    record {
      stage = s.stage;
      low = low;
      high = high;
      goes = ap (λ r. run (with_pass s.stage r s) rest) (sym (ap (λ xs. upd xs s.pass) (append-nil (get s.pass)) ∙ kinded.same s.pass));
    }
entries_run {make} {get} {upd} {k} kinded s (x ∷ xs) rest low high =
    let r1 = upd (get s.pass ++ (x ∷ [])) s.pass in
    let t : State = with_pass k r1 s in
    let first : leb 1 (rank s.stage) ≡ true = le-leb 1 (rank s.stage) low in
    let second : leb (rank s.stage) (rank k) ≡ true = le-leb (rank s.stage) (rank k) high in
    let yes_open : is_open s.stage k ≡ true = rw (first, second) refl in
    let step : add s (make x) ≡ Some t = kinded.adds s x ∙ ap (λ b. cond b (Some t) None) yes_open in
    let more = entries_run kinded t xs rest kinded.self (omega arith) in
    let lists : get r1 ++ xs ≡ get s.pass ++ (x ∷ xs) = ap (λ ys. ys ++ xs) (kinded.got (get s.pass ++ (x ∷ [])) s.pass) ∙ append_assoc (get s.pass) (x ∷ []) xs in
    record {
      stage = more.stage;
      low = more.low;
      high = more.high;
      goes = ap (λ (o : Option State). o >>= λ u. run u (map make xs ++ rest)) step ∙ more.goes
          ∙ ap (λ r. run (with_pass more.stage r s) rest) (ap (λ ys. upd ys r1) lists ∙ kinded.twice (get s.pass ++ (x ∷ xs)) (get s.pass ++ (x ∷ [])) s.pass);
    }

moves_kinded : Kinded pieces.Move (λ r. r.moves) with_moves stages.Moves
moves_kinded = record { adds = λ s x. refl; got = λ xs r. refl; twice = λ xs ys r. refl; same = λ r. refl; self = omega arith }

pins_kinded : Kinded pieces.Pin (λ r. r.pins) with_pins stages.Pins
pins_kinded = record { adds = λ s x. refl; got = λ xs r. refl; twice = λ xs ys r. refl; same = λ r. refl; self = omega arith }

culls_kinded : Kinded pieces.Cull (λ r. r.culls) with_culls stages.Culls
culls_kinded = record { adds = λ s x. refl; got = λ xs r. refl; twice = λ xs ys r. refl; same = λ r. refl; self = omega arith }

breaks_kinded : Kinded pieces.Break (λ r. r.breaks) with_breaks stages.Breaks
breaks_kinded = record { adds = λ s x. refl; got = λ xs r. refl; twice = λ xs ys r. refl; same = λ r. refl; self = omega arith }

queued_kinded : Kinded pieces.Queue (λ r. r.queued) with_queued stages.Queued
queued_kinded = record { adds = λ s x. refl; got = λ xs r. refl; twice = λ xs ys r. refl; same = λ r. refl; self = omega arith }

freed_kinded : Kinded pieces.Free (λ r. r.freed) with_freed stages.Freed
freed_kinded = record { adds = λ s x. refl; got = λ xs r. refl; twice = λ xs ys r. refl; same = λ r. refl; self = omega arith }

-- ---- passes

abbrev collection : List Event → ℕ → ℕ → List PassRecord → PassRecord → State
collection es t last ps q = record { events = es; stage = stages.Collecting; thread = t; last = last; passes = ps; pass = q }

swept_step : (s : State) (dead kept : ℕ) (rest : List Piece) → 1 ≤ rank s.stage → rank s.stage ≤ 6 → run s (pieces.Swept dead kept ∷ rest) ≡ run (swept dead kept s) rest
swept_step s dead kept rest low high =
    let first : leb 1 (rank s.stage) ≡ true = le-leb 1 (rank s.stage) low in
    let second : leb (rank s.stage) 6 ≡ true = le-leb (rank s.stage) 6 high in
    rw (first, second) refl

pass_run : (es : List Event) (t last : ℕ) (ps : List PassRecord) (q r : PassRecord) (rest : List Piece) →
    (q2 : PassRecord) × (run (collection es t last ps q) (pass_pieces r ++ rest) ≡ run (collection es t last (ps ++ (r ∷ [])) q2) rest)
pass_run es t last ps q r rest =
    let s0 : State = with_pass stages.Moves (fresh r.generation r.target) (collection es t last ps q) in
    let end : List Piece = pieces.Swept r.dead r.kept ∷ rest in
    let p6 : List Piece = map pieces.Free r.freed ++ end in
    let p5 : List Piece = map pieces.Queue r.queued ++ p6 in
    let p4 : List Piece = map pieces.Break r.breaks ++ p5 in
    let p3 : List Piece = map pieces.Cull r.culls ++ p4 in
    let p2 : List Piece = map pieces.Pin r.pins ++ p3 in
    let a = entries_run moves_kinded s0 r.moves p2 (omega arith) (omega arith) in
    let s1 : State = with_pass a.stage (with_moves r.moves s0.pass) s0 in
    let b = entries_run pins_kinded s1 r.pins p3 a.low (omega (arith, a.high)) in
    let s2 : State = with_pass b.stage (with_pins r.pins s1.pass) s1 in
    let c = entries_run culls_kinded s2 r.culls p4 b.low (omega (arith, b.high)) in
    let s3 : State = with_pass c.stage (with_culls r.culls s2.pass) s2 in
    let d = entries_run breaks_kinded s3 r.breaks p5 c.low (omega (arith, c.high)) in
    let s4 : State = with_pass d.stage (with_breaks r.breaks s3.pass) s3 in
    let e = entries_run queued_kinded s4 r.queued p6 d.low (omega (arith, d.high)) in
    let s5 : State = with_pass e.stage (with_queued r.queued s4.pass) s4 in
    let f = entries_run freed_kinded s5 r.freed end e.low (omega (arith, e.high)) in
    let s6 : State = with_pass f.stage (with_freed r.freed s5.pass) s5 in
    let last_step : run s6 end ≡ run (collection es t last (ps ++ (r ∷ [])) (fresh 0 0)) rest = swept_step s6 r.dead r.kept rest f.low f.high in
    let front : pass_pieces r ++ rest ≡ pieces.Pass r.generation r.target ∷ (map pieces.Move r.moves ++ p2) = simp append_assoc in
    (fresh 0 0, ap (run (collection es t last ps q)) front ∙ a.goes ∙ b.goes ∙ c.goes ∙ d.goes ∙ e.goes ∙ f.goes ∙ last_step)

passes_run : (es : List Event) (t last : ℕ) (ps : List PassRecord) (q : PassRecord) (rs : List PassRecord) (rest : List Piece) →
    (q2 : PassRecord) × (run (collection es t last ps q) (flat_map pass_pieces rs ++ rest) ≡ run (collection es t last (ps ++ rs) q2) rest)
passes_run es t last ps q [] rest = (q, ap (λ xs. run (collection es t last xs q) rest) (sym (append-nil ps)))
passes_run es t last ps q (r ∷ rs) rest =
    let one = pass_run es t last ps q r (flat_map pass_pieces rs ++ rest) in
    let more = passes_run es t last (ps ++ (r ∷ [])) one.0 rs rest in
    (more.0, ap (run (collection es t last ps q)) (append_assoc (pass_pieces r) (flat_map pass_pieces rs) rest) ∙ one.1 ∙ more.1 ∙ ap (λ xs. run (collection es t last xs more.0) rest) (append_assoc ps (r ∷ []) rs))

-- ---- events

-- the events are closed at these
record Reached (s : State) (ps rest : List Piece) (es : List Event) : Type 0 where
  state : State
  closes : closed state ≡ Some es
  goes : run s ps ≡ run state rest

event_run : (s : State) (es : List Event) (e : Event) (rest : List Piece) → closed s ≡ Some es → Reached s (event_pieces e ++ rest) rest (es ++ (e ∷ []))
event_run s es (events.Did t c a) rest is = record { state = between (es ++ (events.Did t c a ∷ [])) s; closes = refl; goes = rw is refl }
event_run s es (events.Opened t ty f k) rest is = record { state = between (es ++ (events.Opened t ty f k ∷ [])) s; closes = refl; goes = rw is refl }
event_run s es (events.Ended t) rest is = record { state = between (es ++ (events.Ended t ∷ [])) s; closes = refl; goes = rw is refl }
event_run s es (events.Collected t last passes) rest is =
    let more = passes_run es t last [] s.pass passes rest in
    let step : run s (pieces.Collect t last ∷ (flat_map pass_pieces passes ++ rest)) ≡ run (collecting es t last s) (flat_map pass_pieces passes ++ rest) = rw is refl in
    record { state = collection es t last passes more.0; closes = refl; goes = step ∙ more.1 }

events_run : (s : State) (es h : List Event) (rest : List Piece) → closed s ≡ Some es → Reached s (flat_map event_pieces h ++ rest) rest (es ++ h)
events_run s es [] rest is = record { state = s; closes = is ∙ ap Some (sym (append-nil es)); goes = refl }
events_run s es (e ∷ h) rest is =
    let one = event_run s es e (flat_map event_pieces h ++ rest) is in
    let more = events_run one.state (es ++ (e ∷ [])) h rest one.closes in
    record {
      state = more.state;
      closes = more.closes ∙ ap Some (append_assoc es (e ∷ []) h);
      goes = ap (run s) (append_assoc (event_pieces e) (flat_map event_pieces h) rest) ∙ one.goes ∙ more.goes;
    }

pub journal_run : (h : List Event) → (s : State) × (run start (journal_pieces h) ≡ Some (done h s))
journal_run h =
    let r = events_run start [] h (pieces.Done (length h) ∷ []) refl in
    let count : eqb (length h) (length h) ≡ true = eq-eqb (length h) (length h) refl in
    let is : closed r.state ≡ Some h = r.closes in
    let last_step : run r.state (pieces.Done (length h) ∷ []) ≡ Some (done h r.state) = rw (is, count) refl in
    (r.state, r.goes ∙ last_step)
