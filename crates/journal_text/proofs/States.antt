-- The lines that a state has taken.
use Rattle.std.proofs.Common.{◌≡◌, ℕ, ◌≤◌, eqb, leb, cond, List, [], ◌∷◌, ◌++◌, length, map, Some, None, refl, ap, sym, ◌∙◌, subst, arith, append_assoc, append-nil}
use Rattle.std.specs.List.{flat_map}
use Rattle.std.proofs.lemmas.Bool.{eqb-true, leb-true, and_parts}
use Rattle.std.proofs.lemmas.Grind.{flat_map-append}
use Rattle.std.proofs.lemmas.Option.{same_Some, cond_some}
use Rattle.heap_terms.specs.declared.events.Event.{Event}
use Rattle.heap_terms.specs.declared.events.Event.TheVariants as events
use Rattle.heap_terms.specs.declared.events.Cull.{Cull}
use Rattle.heap_terms.specs.declared.events.PassRecord.{PassRecord}
use Rattle.heap_terms.specs.declared.events.PinAt.{PinAt}
use Rattle.heap_terms.specs.declared.events.Placing.{Placing}
use Rattle.journal_text.specs.declared.parsing.pieces.Piece.{Piece}
use Rattle.journal_text.specs.declared.parsing.pieces.Piece.TheVariants as pieces
use Rattle.journal_text.specs.declared.parsing.stages.Stage.{Stage}
use Rattle.journal_text.specs.declared.parsing.stages.Stage.TheVariants as stages
use Rattle.journal_text.specs.Builder.{State, add, between, closed, closed_by, collecting, done, fresh, is_open, opened_pass, rank, swept, with_breaks, with_culls, with_freed, with_moves, with_pass, with_pins, with_queued, with_swept}
use Rattle.journal_text.proofs.Binding.{bind_some}
use Rattle.journal_text.proofs.Machine.{event_pieces, journal_pieces, pass_pieces}
use Rattle.journal_text.proofs.Pieces.{IsPiece}

-- the lines of a pass that is open
abbrev pub open_pieces : PassRecord → List Piece
open_pieces r = pieces.Pass r.generation r.target ∷ (map pieces.Move r.moves ++ (map pieces.Pin r.pins ++ (map pieces.Cull r.culls ++ (map pieces.Break r.breaks ++ (map pieces.Queue r.queued ++ map pieces.Free r.freed)))))

-- the lines of the events, and those of a collection
abbrev pub front : State → List Piece
front s = flat_map event_pieces s.events

abbrev pub within : State → List Piece
within s = front s ++ (pieces.Collect s.thread s.last ∷ flat_map pass_pieces s.passes)

abbrev pub taken_at : Stage → State → List Piece
taken_at stages.Between s = front s
taken_at stages.Collecting s = within s
taken_at stages.Moves s = within s ++ open_pieces s.pass
taken_at stages.Pins s = within s ++ open_pieces s.pass
taken_at stages.Culls s = within s ++ open_pieces s.pass
taken_at stages.Breaks s = within s ++ open_pieces s.pass
taken_at stages.Queued s = within s ++ open_pieces s.pass
taken_at stages.Freed s = within s ++ open_pieces s.pass
taken_at stages.Done s = journal_pieces s.events

abbrev pub taken : State → List Piece
taken s = taken_at s.stage s

-- the entries of a pass that are still to come are none yet
pub record Tidy (s : State) : Type 0 where
  pub pins : 1 ≤ rank s.stage → rank s.stage ≤ 1 → s.pass.pins ≡ []
  pub culls : 1 ≤ rank s.stage → rank s.stage ≤ 2 → s.pass.culls ≡ []
  pub breaks : 1 ≤ rank s.stage → rank s.stage ≤ 3 → s.pass.breaks ≡ []
  pub queued : 1 ≤ rank s.stage → rank s.stage ≤ 4 → s.pass.queued ≡ []
  pub freed : 1 ≤ rank s.stage → rank s.stage ≤ 5 → s.pass.freed ≡ []

-- one more line was taken
pub record Took (s : State) (p : Piece) (t : State) : Type 0 where
  pub tidy : Tidy t
  pub lines : taken t ≡ taken s ++ (p ∷ [])

closed_taken : (s : State) (es : List Event) → closed s ≡ Some es → taken s ≡ flat_map event_pieces es
closed_taken s es e = at s.stage e
  where
    at : (st : Stage) → closed_by st s ≡ Some es → taken_at st s ≡ flat_map event_pieces es
    at stages.Between e = ap (flat_map event_pieces) (same_Some s.events es e)
    at stages.Collecting e =
        ap (λ (xs : List Piece). front s ++ xs) (sym (append-nil (pieces.Collect s.thread s.last ∷ flat_map pass_pieces s.passes)))
        ∙ sym (flat_map-append event_pieces s.events (events.Collected s.thread s.last s.passes ∷ []))
        ∙ ap (flat_map event_pieces) (same_Some (s.events ++ (events.Collected s.thread s.last s.passes ∷ [])) es e)
    at stages.Moves e = absurd cc
    at stages.Pins e = absurd cc
    at stages.Culls e = absurd cc
    at stages.Breaks e = absurd cc
    at stages.Queued e = absurd cc
    at stages.Freed e = absurd cc
    at stages.Done e = absurd cc

open_taken : (s : State) → 1 ≤ rank s.stage → taken s ≡ within s ++ open_pieces s.pass
open_taken s low = at s.stage low
  where
    at : (st : Stage) → 1 ≤ rank st → taken_at st s ≡ within s ++ open_pieces s.pass
    at stages.Between low = absurd (omega arith)
    at stages.Collecting low = absurd (omega arith)
    at stages.Moves low = refl
    at stages.Pins low = refl
    at stages.Culls low = refl
    at stages.Breaks low = refl
    at stages.Queued low = refl
    at stages.Freed low = refl
    at stages.Done low = absurd (omega arith)

-- ---- an entry more

ends : (head : Piece) (a b c d f g x : List Piece) → (head ∷ (a ++ (b ++ (c ++ (d ++ (f ++ g)))))) ++ x ≡ head ∷ (a ++ (b ++ (c ++ (d ++ (f ++ (g ++ x))))))
ends head a b c d f g x = ap (λ (xs : List Piece). head ∷ xs) (simp append_assoc)

one_more : {X : Type 0} (make : X → Piece) (xs : List X) (x : X) → map make (xs ++ (x ∷ [])) ≡ map make xs ++ (make x ∷ [])
one_more make [] x = refl
one_more make (y ∷ xs) x = ap (λ (ys : List Piece). make y ∷ ys) (one_more make xs x)

none_after : (xs : List Piece) (x : Piece) → (xs ++ (x ∷ [])) ++ [] ≡ (xs ++ []) ++ (x ∷ [])
none_after xs x = simp append-nil

entry_lines : (s : State) (p : Piece) (r : PassRecord) → 1 ≤ rank s.stage → open_pieces r ≡ open_pieces s.pass ++ (p ∷ []) → within s ++ open_pieces r ≡ taken s ++ (p ∷ [])
entry_lines s p r low e = ap (λ (xs : List Piece). within s ++ xs) e ∙ sym (append_assoc (within s) (open_pieces s.pass) (p ∷ [])) ∙ ap (λ (xs : List Piece). xs ++ (p ∷ [])) (sym (open_taken s low))

ranks : (s : State) (k : Stage) (t u : State) → cond (is_open s.stage k) (Some u) None ≡ Some t → (1 ≤ rank s.stage) × (rank s.stage ≤ rank k) × (u ≡ t)
ranks s k t u e =
    let c = cond_some (is_open s.stage k) u t e in
    let both = and_parts (leb 1 (rank s.stage)) (leb (rank s.stage) (rank k)) c.0 in
    (leb-true 1 (rank s.stage) both.0, leb-true (rank s.stage) (rank k) both.1, c.1)

assoc0 : (head : Piece) (y x : List Piece) → head ∷ (y ++ x) ≡ (head ∷ y) ++ x
assoc0 head y x = refl

assoc1 : (head : Piece) (a y x : List Piece) → head ∷ (a ++ (y ++ x)) ≡ (head ∷ (a ++ y)) ++ x
assoc1 head a y x = ap (λ (xs : List Piece). head ∷ xs) (simp append_assoc)

assoc2 : (head : Piece) (a b y x : List Piece) → head ∷ (a ++ (b ++ (y ++ x))) ≡ (head ∷ (a ++ (b ++ y))) ++ x
assoc2 head a b y x = ap (λ (xs : List Piece). head ∷ xs) (simp append_assoc)

assoc3 : (head : Piece) (a b c y x : List Piece) → head ∷ (a ++ (b ++ (c ++ (y ++ x)))) ≡ (head ∷ (a ++ (b ++ (c ++ y)))) ++ x
assoc3 head a b c y x = ap (λ (xs : List Piece). head ∷ xs) (simp append_assoc)

assoc4 : (head : Piece) (a b c d y x : List Piece) → head ∷ (a ++ (b ++ (c ++ (d ++ (y ++ x))))) ≡ (head ∷ (a ++ (b ++ (c ++ (d ++ y))))) ++ x
assoc4 head a b c d y x = ap (λ (xs : List Piece). head ∷ xs) (simp append_assoc)

assoc5 : (head : Piece) (a b c d f y x : List Piece) → head ∷ (a ++ (b ++ (c ++ (d ++ (f ++ (y ++ x)))))) ≡ (head ∷ (a ++ (b ++ (c ++ (d ++ (f ++ y)))))) ++ x
assoc5 head a b c d f y x = ap (λ (xs : List Piece). head ∷ xs) (simp append_assoc)

took_move : (s t : State) (m : Placing) → Tidy s → add s (pieces.Move m) ≡ Some t → Took s (pieces.Move m) t
took_move s t m tidy e =
    let u : State = with_pass stages.Moves (with_moves (s.pass.moves ++ (m ∷ [])) s.pass) s in
    let k = ranks s stages.Moves t u e in
    let pins : s.pass.pins ≡ [] = tidy.pins k.0 (omega (arith, k.1)) in
    let culls : s.pass.culls ≡ [] = tidy.culls k.0 (omega (arith, k.1)) in
    let breaks : s.pass.breaks ≡ [] = tidy.breaks k.0 (omega (arith, k.1)) in
    let queued : s.pass.queued ≡ [] = tidy.queued k.0 (omega (arith, k.1)) in
    let freed : s.pass.freed ≡ [] = tidy.freed k.0 (omega (arith, k.1)) in
    let grown : open_pieces (with_moves (s.pass.moves ++ (m ∷ [])) s.pass) ≡ open_pieces s.pass ++ (pieces.Move m ∷ []) =
    rw (pins, culls, breaks, queued, freed) (ap (λ (xs : List Piece). pieces.Pass s.pass.generation s.pass.target ∷ xs) (ap (λ (xs : List Piece). xs ++ []) (one_more pieces.Move s.pass.moves m) ∙ none_after (map pieces.Move s.pass.moves) (pieces.Move m)) ∙ assoc0 (pieces.Pass s.pass.generation s.pass.target) (map pieces.Move s.pass.moves ++ []) (pieces.Move m ∷ [])) in
    subst (λ (x : State). Took s (pieces.Move m) x) k.2 (record { tidy = record { pins = λ low high. pins; culls = λ low high. culls; breaks = λ low high. breaks; queued = λ low high. queued; freed = λ low high. freed }; lines = entry_lines s (pieces.Move m) u.pass k.0 grown })

took_pin : (s t : State) (q : PinAt) → Tidy s → add s (pieces.Pin q) ≡ Some t → Took s (pieces.Pin q) t
took_pin s t q tidy e =
    let u : State = with_pass stages.Pins (with_pins (s.pass.pins ++ (q ∷ [])) s.pass) s in
    let k = ranks s stages.Pins t u e in
    let culls : s.pass.culls ≡ [] = tidy.culls k.0 (omega (arith, k.1)) in
    let breaks : s.pass.breaks ≡ [] = tidy.breaks k.0 (omega (arith, k.1)) in
    let queued : s.pass.queued ≡ [] = tidy.queued k.0 (omega (arith, k.1)) in
    let freed : s.pass.freed ≡ [] = tidy.freed k.0 (omega (arith, k.1)) in
    let grown : open_pieces (with_pins (s.pass.pins ++ (q ∷ [])) s.pass) ≡ open_pieces s.pass ++ (pieces.Pin q ∷ []) =
    rw (culls, breaks, queued, freed) (ap (λ (xs : List Piece). pieces.Pass s.pass.generation s.pass.target ∷ (map pieces.Move s.pass.moves ++ xs)) (ap (λ (xs : List Piece). xs ++ []) (one_more pieces.Pin s.pass.pins q) ∙ none_after (map pieces.Pin s.pass.pins) (pieces.Pin q)) ∙ assoc1 (pieces.Pass s.pass.generation s.pass.target) (map pieces.Move s.pass.moves) (map pieces.Pin s.pass.pins ++ []) (pieces.Pin q ∷ [])) in
    subst (λ (x : State). Took s (pieces.Pin q) x) k.2 (record { tidy = record { pins = λ low high. absurd (omega (arith, high)); culls = λ low high. culls; breaks = λ low high. breaks; queued = λ low high. queued; freed = λ low high. freed }; lines = entry_lines s (pieces.Pin q) u.pass k.0 grown })

took_cull : (s t : State) (c : Cull) → Tidy s → add s (pieces.Cull c) ≡ Some t → Took s (pieces.Cull c) t
took_cull s t c tidy e =
    let u : State = with_pass stages.Culls (with_culls (s.pass.culls ++ (c ∷ [])) s.pass) s in
    let k = ranks s stages.Culls t u e in
    let breaks : s.pass.breaks ≡ [] = tidy.breaks k.0 (omega (arith, k.1)) in
    let queued : s.pass.queued ≡ [] = tidy.queued k.0 (omega (arith, k.1)) in
    let freed : s.pass.freed ≡ [] = tidy.freed k.0 (omega (arith, k.1)) in
    let grown : open_pieces (with_culls (s.pass.culls ++ (c ∷ [])) s.pass) ≡ open_pieces s.pass ++ (pieces.Cull c ∷ []) =
    rw (breaks, queued, freed) (ap (λ (xs : List Piece). pieces.Pass s.pass.generation s.pass.target ∷ (map pieces.Move s.pass.moves ++ (map pieces.Pin s.pass.pins ++ xs))) (ap (λ (xs : List Piece). xs ++ []) (one_more pieces.Cull s.pass.culls c) ∙ none_after (map pieces.Cull s.pass.culls) (pieces.Cull c)) ∙ assoc2 (pieces.Pass s.pass.generation s.pass.target) (map pieces.Move s.pass.moves) (map pieces.Pin s.pass.pins) (map pieces.Cull s.pass.culls ++ []) (pieces.Cull c ∷ [])) in
    subst (λ (x : State). Took s (pieces.Cull c) x) k.2 (record { tidy = record { pins = λ low high. absurd (omega (arith, high)); culls = λ low high. absurd (omega (arith, high)); breaks = λ low high. breaks; queued = λ low high. queued; freed = λ low high. freed }; lines = entry_lines s (pieces.Cull c) u.pass k.0 grown })

took_break : (s t : State) (name : ℕ) → Tidy s → add s (pieces.Break name) ≡ Some t → Took s (pieces.Break name) t
took_break s t name tidy e =
    let u : State = with_pass stages.Breaks (with_breaks (s.pass.breaks ++ (name ∷ [])) s.pass) s in
    let k = ranks s stages.Breaks t u e in
    let queued : s.pass.queued ≡ [] = tidy.queued k.0 (omega (arith, k.1)) in
    let freed : s.pass.freed ≡ [] = tidy.freed k.0 (omega (arith, k.1)) in
    let grown : open_pieces (with_breaks (s.pass.breaks ++ (name ∷ [])) s.pass) ≡ open_pieces s.pass ++ (pieces.Break name ∷ []) =
    rw (queued, freed) (ap (λ (xs : List Piece). pieces.Pass s.pass.generation s.pass.target ∷ (map pieces.Move s.pass.moves ++ (map pieces.Pin s.pass.pins ++ (map pieces.Cull s.pass.culls ++ xs)))) (ap (λ (xs : List Piece). xs ++ []) (one_more pieces.Break s.pass.breaks name) ∙ none_after (map pieces.Break s.pass.breaks) (pieces.Break name)) ∙ assoc3 (pieces.Pass s.pass.generation s.pass.target) (map pieces.Move s.pass.moves) (map pieces.Pin s.pass.pins) (map pieces.Cull s.pass.culls) (map pieces.Break s.pass.breaks ++ []) (pieces.Break name ∷ [])) in
    subst (λ (x : State). Took s (pieces.Break name) x) k.2 (record { tidy = record { pins = λ low high. absurd (omega (arith, high)); culls = λ low high. absurd (omega (arith, high)); breaks = λ low high. absurd (omega (arith, high)); queued = λ low high. queued; freed = λ low high. freed }; lines = entry_lines s (pieces.Break name) u.pass k.0 grown })

took_queue : (s t : State) (id : ℕ) → Tidy s → add s (pieces.Queue id) ≡ Some t → Took s (pieces.Queue id) t
took_queue s t id tidy e =
    let u : State = with_pass stages.Queued (with_queued (s.pass.queued ++ (id ∷ [])) s.pass) s in
    let k = ranks s stages.Queued t u e in
    let freed : s.pass.freed ≡ [] = tidy.freed k.0 (omega (arith, k.1)) in
    let grown : open_pieces (with_queued (s.pass.queued ++ (id ∷ [])) s.pass) ≡ open_pieces s.pass ++ (pieces.Queue id ∷ []) =
    rw freed (ap (λ (xs : List Piece). pieces.Pass s.pass.generation s.pass.target ∷ (map pieces.Move s.pass.moves ++ (map pieces.Pin s.pass.pins ++ (map pieces.Cull s.pass.culls ++ (map pieces.Break s.pass.breaks ++ xs))))) (ap (λ (xs : List Piece). xs ++ []) (one_more pieces.Queue s.pass.queued id) ∙ none_after (map pieces.Queue s.pass.queued) (pieces.Queue id)) ∙ assoc4 (pieces.Pass s.pass.generation s.pass.target) (map pieces.Move s.pass.moves) (map pieces.Pin s.pass.pins) (map pieces.Cull s.pass.culls) (map pieces.Break s.pass.breaks) (map pieces.Queue s.pass.queued ++ []) (pieces.Queue id ∷ [])) in
    subst (λ (x : State). Took s (pieces.Queue id) x) k.2 (record { tidy = record { pins = λ low high. absurd (omega (arith, high)); culls = λ low high. absurd (omega (arith, high)); breaks = λ low high. absurd (omega (arith, high)); queued = λ low high. absurd (omega (arith, high)); freed = λ low high. freed }; lines = entry_lines s (pieces.Queue id) u.pass k.0 grown })

took_free : (s t : State) (page : ℕ) → Tidy s → add s (pieces.Free page) ≡ Some t → Took s (pieces.Free page) t
took_free s t page tidy e =
    let u : State = with_pass stages.Freed (with_freed (s.pass.freed ++ (page ∷ [])) s.pass) s in
    let k = ranks s stages.Freed t u e in
    let grown : open_pieces (with_freed (s.pass.freed ++ (page ∷ [])) s.pass) ≡ open_pieces s.pass ++ (pieces.Free page ∷ []) =
    ap (λ (xs : List Piece). pieces.Pass s.pass.generation s.pass.target ∷ (map pieces.Move s.pass.moves ++ (map pieces.Pin s.pass.pins ++ (map pieces.Cull s.pass.culls ++ (map pieces.Break s.pass.breaks ++ (map pieces.Queue s.pass.queued ++ xs)))))) (one_more pieces.Free s.pass.freed page) ∙ assoc5 (pieces.Pass s.pass.generation s.pass.target) (map pieces.Move s.pass.moves) (map pieces.Pin s.pass.pins) (map pieces.Cull s.pass.culls) (map pieces.Break s.pass.breaks) (map pieces.Queue s.pass.queued) (map pieces.Free s.pass.freed) (pieces.Free page ∷ []) in
    subst (λ (x : State). Took s (pieces.Free page) x) k.2 (record { tidy = record { pins = λ low high. absurd (omega (arith, high)); culls = λ low high. absurd (omega (arith, high)); breaks = λ low high. absurd (omega (arith, high)); queued = λ low high. absurd (omega (arith, high)); freed = λ low high. absurd (omega (arith, high)) }; lines = entry_lines s (pieces.Free page) u.pass k.0 grown })

-- ---- the other lines

closed_state : (s : State) (es : List Event) (p : Piece) (stage : Stage) (u : State) → rank u.stage ≡ 0 → closed s ≡ Some es → taken u ≡ flat_map event_pieces es ++ (p ∷ []) → Took s p u
closed_state s es p stage u zero_rank is lines =
    record {
      tidy = record {
        pins = λ low high. absurd (omega arith);
        culls = λ low high. absurd (omega arith);
        breaks = λ low high. absurd (omega arith);
        queued = λ low high. absurd (omega arith);
        freed = λ low high. absurd (omega arith);
      };
      lines = lines ∙ ap (λ (xs : List Piece). xs ++ (p ∷ [])) (sym (closed_taken s es is));
    }

alone : (e : Event) → IsPiece (pieces.Event e) → event_pieces e ≡ pieces.Event e ∷ []
alone (events.Did t c a) ok = refl
alone (events.Opened t ty f k) ok = refl
alone (events.Collected t last passes) ok = absurd ok
alone (events.Ended t) ok = refl

took_event : (s t : State) (e : Event) → IsPiece (pieces.Event e) → add s (pieces.Event e) ≡ Some t → Took s (pieces.Event e) t
took_event s t e ok told =
    let b = bind_some (closed s) (λ es. Some (between (es ++ (e ∷ [])) s)) t told in
    let lines : flat_map event_pieces (b.0 ++ (e ∷ [])) ≡ flat_map event_pieces b.0 ++ (pieces.Event e ∷ []) =
    flat_map-append event_pieces b.0 (e ∷ []) ∙ ap (λ (xs : List Piece). flat_map event_pieces b.0 ++ xs) (append-nil (event_pieces e) ∙ alone e ok) in
    subst (λ (x : State). Took s (pieces.Event e) x) (same_Some (between (b.0 ++ (e ∷ [])) s) t b.2)
    (closed_state s b.0 (pieces.Event e) stages.Between (between (b.0 ++ (e ∷ [])) s) refl b.1 lines)

took_collect : (s t : State) (thread last : ℕ) → add s (pieces.Collect thread last) ≡ Some t → Took s (pieces.Collect thread last) t
took_collect s t thread last told =
    let b = bind_some (closed s) (λ es. Some (collecting es thread last s)) t told in
    subst (λ (x : State). Took s (pieces.Collect thread last) x) (same_Some (collecting b.0 thread last s) t b.2)
    (closed_state s b.0 (pieces.Collect thread last) stages.Collecting (collecting b.0 thread last s) refl b.1 refl)

took_done : (s t : State) (n : ℕ) → add s (pieces.Done n) ≡ Some t → Took s (pieces.Done n) t
took_done s t n told =
    let b = bind_some (closed s) (λ es. cond (eqb (length es) n) (Some (done es s)) None) t told in
    let c = cond_some (eqb (length b.0) n) (done b.0 s) t b.2 in
    let count : length b.0 ≡ n = eqb-true (length b.0) n c.0 in
    subst (λ (x : State). Took s (pieces.Done n) x) c.1
    (closed_state s b.0 (pieces.Done n) stages.Done (done b.0 s) refl b.1 (ap (λ k. flat_map event_pieces b.0 ++ (pieces.Done k ∷ [])) count))

took_pass : (s t : State) (g target : ℕ) → add s (pieces.Pass g target) ≡ Some t → Took s (pieces.Pass g target) t
took_pass s t g target told = at s.stage refl told
  where
    at : (st : Stage) → s.stage ≡ st → opened_pass st g target s ≡ Some t → Took s (pieces.Pass g target) t
    at stages.Collecting is told =
        subst (λ (x : State). Took s (pieces.Pass g target) x) (same_Some (with_pass stages.Moves (fresh g target) s) t told)
        (record {
          tidy = record { pins = λ low high. refl; culls = λ low high. refl; breaks = λ low high. refl; queued = λ low high. refl; freed = λ low high. refl };
          lines = ap (λ st. taken_at st s ++ (pieces.Pass g target ∷ [])) (sym is);
        })
    at stages.Between is told = absurd cc
    at stages.Moves is told = absurd cc
    at stages.Pins is told = absurd cc
    at stages.Culls is told = absurd cc
    at stages.Breaks is told = absurd cc
    at stages.Queued is told = absurd cc
    at stages.Freed is told = absurd cc
    at stages.Done is told = absurd cc

pub swept_pieces : (r : PassRecord) (dead kept : ℕ) → pass_pieces (with_swept dead kept r) ≡ open_pieces r ++ (pieces.Swept dead kept ∷ [])
swept_pieces r dead kept = sym (ends (pieces.Pass r.generation r.target) (map pieces.Move r.moves) (map pieces.Pin r.pins) (map pieces.Cull r.culls) (map pieces.Break r.breaks) (map pieces.Queue r.queued) (map pieces.Free r.freed) (pieces.Swept dead kept ∷ []))

took_swept : (s t : State) (dead kept : ℕ) → add s (pieces.Swept dead kept) ≡ Some t → Took s (pieces.Swept dead kept) t
took_swept s t dead kept told =
    let u : State = swept dead kept s in
    let k = ranks s stages.Freed t u told in
    let c = pieces.Collect s.thread s.last in
    let inner : flat_map pass_pieces (s.passes ++ (with_swept dead kept s.pass ∷ [])) ≡ flat_map pass_pieces s.passes ++ (open_pieces s.pass ++ (pieces.Swept dead kept ∷ [])) =
    flat_map-append pass_pieces s.passes (with_swept dead kept s.pass ∷ []) ∙ ap (λ (xs : List Piece). flat_map pass_pieces s.passes ++ xs) (append-nil (pass_pieces (with_swept dead kept s.pass)) ∙ swept_pieces s.pass dead kept) in
    let lines : taken u ≡ taken s ++ (pieces.Swept dead kept ∷ []) =
    ap (λ (xs : List Piece). front s ++ (c ∷ xs)) inner
    ∙ regroup (front s) (c ∷ flat_map pass_pieces s.passes) (open_pieces s.pass) (pieces.Swept dead kept ∷ [])
    ∙ ap (λ (xs : List Piece). xs ++ (pieces.Swept dead kept ∷ [])) (sym (open_taken s k.0)) in
    subst (λ (x : State). Took s (pieces.Swept dead kept) x) k.2
    (record {
      tidy = record {
        pins = λ low high. refl;
        culls = λ low high. refl;
        breaks = λ low high. refl;
        queued = λ low high. refl;
        freed = λ low high. refl;
      };
      lines = lines;
    })
  where
    regroup : (a b c d : List Piece) → a ++ (b ++ (c ++ d)) ≡ ((a ++ b) ++ c) ++ d
    regroup a b c d = simp append_assoc

pub took : (s t : State) (p : Piece) → IsPiece p → Tidy s → add s p ≡ Some t → Took s p t
took s t (pieces.Event e) ok tidy told = took_event s t e ok told
took s t (pieces.Collect thread last) ok tidy told = took_collect s t thread last told
took s t (pieces.Pass g target) ok tidy told = took_pass s t g target told
took s t (pieces.Move m) ok tidy told = took_move s t m tidy told
took s t (pieces.Pin q) ok tidy told = took_pin s t q tidy told
took s t (pieces.Cull c) ok tidy told = took_cull s t c tidy told
took s t (pieces.Break name) ok tidy told = took_break s t name tidy told
took s t (pieces.Queue id) ok tidy told = took_queue s t id tidy told
took s t (pieces.Free page) ok tidy told = took_free s t page tidy told
took s t (pieces.Swept dead kept) ok tidy told = took_swept s t dead kept told
took s t (pieces.Done n) ok tidy told = took_done s t n told
