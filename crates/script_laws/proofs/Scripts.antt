-- A whole script, line by line.
use Rattle.std.proofs.Common.{◌≡◌, ℕ, ◌+◌, ◌≤◌, ◌<◌, ◌^◌, Bool, true, false, cond, eqb, ltb, leb, inl, inr, List, [], ◌∷◌, ◌++◌, length, Some, None, Ok, refl, sym, ap, ◌∙◌, subst, arith, append_assoc, append-nil, length-append}
use Rattle.std.specs.Prelude.{codes, decimal, flat_map, sum_by, count_by}
use Rattle.std.specs.List.{All}
use Rattle.std.specs.Str.Lines.{lines}
use Rattle.std.proofs.lemmas.Bool.{le-ltb, le-leb, or_right, and_from}
use Rattle.std.proofs.lemmas.List.Elements.{All-nil, All-cons, All-head, All-tail}
use Rattle.std.proofs.lemmas.List.Folds.{flat_map-map}
use Rattle.std.proofs.lemmas.List.Sums.{sum_by-append}
use Rattle.heap_terms.specs.declared.commands.Command.{Command}
use Rattle.heap_terms.specs.declared.faults.LimitKind.TheVariants as limits
use Rattle.heap_terms.specs.declared.programs.Program.{Program}
use Rattle.heap_terms.specs.Fields.{fields_in, number_of, between, is_auto}
use Rattle.heap_terms.specs.Grammar.{Does, rows, statement_of}
use Rattle.heap_terms.specs.ScriptPrinting.{pieces_in, program_text, run_text, schedule_text, thread_text}
use Rattle.heap_terms.specs.ScriptReading.{Place, AfterVersion, AfterHeap, AfterAuto, InThread, InSchedule, AfterEnd, SoFar, nothing_read, onto_last, limit_of_command, unless_passed, judged, judged_word, read_lines, read_script}
use Rattle.heap_terms.specs.Text.{command_text, field, line}
use Rattle.heap_terms.specs.Valid.{IsAuto, IsCommand, IsValid, is_gc, name_of}
use Rattle.script_laws.proofs.Lines.{IsWord, written, spaced, fields_spaced, lines_spaced}
use Rattle.script_laws.proofs.FieldTexts.{decimal_word, number_decimal}
use Rattle.script_laws.proofs.Commands.{fields_of, text_spaced, name_word, field_words, command_judged}
use Rattle.script_laws.proofs.Runs.{schedule_fields, schedule_words, schedule_said}

-- after the lines so far these bytes make a program, whatever the number of their first line
abbrev Leads : SoFar → List ℕ → Program → Type 0
Leads s bytes p = (number : ℕ) → read_lines s number (lines bytes) ≡ Ok p

read_one : (s next : SoFar) (number : ℕ) (text : List ℕ) (more : List (List ℕ)) → judged s (fields_in text) ≡ Ok next → read_lines s number (text ∷ more) ≡ read_lines next (number + 1) more
unfolding read_lines
read_one s next number text more good = rw (good, read_lines) refl

-- one more line
step : (s next : SoFar) (word : List ℕ) (fields : List (List ℕ)) (rest : List ℕ) (p : Program) → IsWord word → All IsWord fields →
    judged s (word ∷ fields) ≡ Ok next → Leads next rest p → Leads s (line (spaced word fields) ++ rest) p
step s next word fields rest p h all good leads number =
    ap (read_lines s number) (lines_spaced word fields rest h all)
    ∙ read_one s next number (spaced word fields) (lines rest) (ap (judged s) (fields_spaced word fields h all) ∙ good)
    ∙ leads (number + 1)

-- a script in a thread
abbrev in_thread : ℕ → ℕ → List (List Command) → SoFar
in_thread pages auto threads = record { place = InThread; program = record { pages = pages; auto = auto; threads = threads; schedule = [] } }

-- ---- commands

gcs_split : (done cs : List Command) (c : Command) → count_by is_gc (done ++ c ∷ cs) ≡ count_by is_gc done + cond (is_gc c) 1 0 + count_by is_gc cs
gcs_split done cs c =
    omega (arith, sum_by-append (λ (x : Command). cond (is_gc x) 1 0) done (c ∷ cs), sum_by-append (λ (x : Command). cond (is_gc x) 1 0) (c ∷ []) cs)

-- the threads so far and one more stay within the limits of commands
record IsRoom (before : List (List Command)) (cs : List Command) : Type 0 where
  commands : sum_by length before + length cs ≤ 20000
  gcs : sum_by (count_by is_gc) before + count_by is_gc cs ≤ 64

last_one : (before : List (List Command)) (done : List Command) (c : Command) → onto_last (before ++ done ∷ []) c ≡ before ++ (done ++ c ∷ []) ∷ []
last_one [] done c = refl
last_one (b ∷ []) done c = refl
last_one (b ∷ d ∷ before) done c = ap (λ (ts : List (List Command)). b ∷ ts) (last_one (d ∷ before) done c)

no_limit : (before : List (List Command)) (done cs : List Command) (c : Command) → IsRoom before (done ++ c ∷ cs) → limit_of_command (before ++ done ∷ []) (is_gc c) ≡ None
no_limit before done cs c room =
    let commands : sum_by length (before ++ done ∷ []) + 1 ≤ 20000 =
    omega (arith, sum_by-append (length {A = Command}) before (done ∷ []), length-append done (c ∷ cs), room.commands) in
    rw (le-ltb 20000 (sum_by length (before ++ done ∷ []) + 1) commands)
    (at (is_gc c) (omega (arith, sum_by-append (count_by is_gc) before (done ∷ []), gcs_split done cs c, room.gcs)))
  where
    at : (gc : Bool) → sum_by (count_by is_gc) (before ++ done ∷ []) + cond gc 1 0 ≤ 64 → cond gc (cond (ltb 64 (sum_by (count_by is_gc) (before ++ done ∷ []) + 1)) (Some limits.Gcs) None) None ≡ None
    at true h = rw (le-ltb 64 (sum_by (count_by is_gc) (before ++ done ∷ []) + 1) h) refl
    at false h = refl

command_read : (pages auto : ℕ) (before : List (List Command)) (done cs : List Command) (c : Command) → IsCommand c → IsRoom before (done ++ c ∷ cs) →
    judged (in_thread pages auto (before ++ done ∷ [])) (name_of c ∷ fields_of c) ≡ Ok (in_thread pages auto (before ++ (done ++ c ∷ []) ∷ []))
command_read pages auto before done cs c h room =
    command_judged c (in_thread pages auto (before ++ done ∷ [])) h refl
    ∙ ap (unless_passed (in_thread pages auto (before ++ done ∷ [])) (Does c)) (no_limit before done cs c room)
    ∙ ap (λ (ts : List (List Command)). Ok (in_thread pages auto ts)) (last_one before done c)

abbrev commands_text : List Command → List ℕ
commands_text cs = flat_map (λ c. line (command_text c)) cs

commands_lead : (pages auto : ℕ) (before : List (List Command)) (done cs : List Command) (rest : List ℕ) (p : Program) → All IsCommand cs → IsRoom before (done ++ cs) →
    Leads (in_thread pages auto (before ++ (done ++ cs) ∷ [])) rest p → Leads (in_thread pages auto (before ++ done ∷ [])) (commands_text cs ++ rest) p
commands_lead pages auto before done [] rest p all room leads =
    subst (λ (ds : List Command). Leads (in_thread pages auto (before ++ ds ∷ [])) rest p) (append-nil done) leads
commands_lead pages auto before done (c ∷ cs) rest p all room leads =
    let more : (done ++ c ∷ []) ++ cs ≡ done ++ c ∷ cs = append_assoc done (c ∷ []) cs in
    let behind = commands_lead pages auto before (done ++ c ∷ []) cs rest p (All-tail IsCommand c cs all)
    (subst (IsRoom before) (sym more) room)
    (subst (λ (ds : List Command). Leads (in_thread pages auto (before ++ ds ∷ [])) rest p) (sym more) leads) in
    let h : IsCommand c = All-head IsCommand c cs all in
    subst (λ (bytes : List ℕ). Leads (in_thread pages auto (before ++ done ∷ [])) bytes p)
    (ap (λ (text : List ℕ). line text ++ (commands_text cs ++ rest)) (sym (text_spaced c)) ∙ sym (append_assoc (line (command_text c)) (commands_text cs) rest))
    (step (in_thread pages auto (before ++ done ∷ [])) (in_thread pages auto (before ++ (done ++ c ∷ []) ∷ [])) (name_of c) (fields_of c) (commands_text cs ++ rest) p
    (name_word c) (field_words c h.in_range) (command_read pages auto before done cs c h room) behind)

-- ---- threads

-- a script before a `thread` line
abbrev before_thread : Place → ℕ → ℕ → List (List Command) → SoFar
before_thread place pages auto threads = record { place = place; program = record { pages = pages; auto = auto; threads = threads; schedule = [] } }

-- the places where a thread may begin
data Opens : Place → Type 0 where
  AtAuto : Opens AfterAuto
  AtThread : Opens InThread

thread_read : (place : Place) (pages auto : ℕ) (before : List (List Command)) → Opens place → length before + 1 ≤ 8 →
    judged (before_thread place pages auto before) (codes "thread" ∷ []) ≡ Ok (in_thread pages auto (before ++ [] ∷ []))
unfolding judged judged_word statement_of rows
thread_read _ pages auto before AtAuto few = rw (le-ltb 8 (length before + 1) few) refl
thread_read _ pages auto before AtThread few = rw (le-ltb 8 (length before + 1) few) refl

thread_leads : (place : Place) (pages auto : ℕ) (before : List (List Command)) (cs : List Command) (rest : List ℕ) (p : Program) → Opens place → length before + 1 ≤ 8 →
    All IsCommand cs → IsRoom before cs → Leads (in_thread pages auto (before ++ cs ∷ [])) rest p →
    Leads (before_thread place pages auto before) (thread_text cs ++ rest) p
unfolding spaced
thread_leads place pages auto before cs rest p opens few all room leads =
    subst (λ (bytes : List ℕ). Leads (before_thread place pages auto before) bytes p) (sym (append_assoc (line (codes "thread")) (commands_text cs) rest))
    (step (before_thread place pages auto before) (in_thread pages auto (before ++ [] ∷ [])) (codes "thread") [] (commands_text cs ++ rest) p (written _ (omega arith) refl) (All-nil IsWord)
    (thread_read place pages auto before opens few) (commands_lead pages auto before [] cs rest p all room leads))

-- all threads stay within the limits
record AreRoom (before ts : List (List Command)) : Type 0 where
  threads : length before + length ts ≤ 8
  commands : sum_by length before + sum_by length ts ≤ 20000
  gcs : sum_by (count_by is_gc) before + sum_by (count_by is_gc) ts ≤ 64

one_room : (before ts : List (List Command)) (cs : List Command) → AreRoom before (cs ∷ ts) → IsRoom before cs
one_room before ts cs room =
    let commands = sum_by-append (length {A = Command}) (cs ∷ []) ts in
    let gcs = sum_by-append (count_by is_gc) (cs ∷ []) ts in
    record { commands = omega (arith, room.commands); gcs = omega (arith, room.gcs) }

more_room : (before ts : List (List Command)) (cs : List Command) → AreRoom before (cs ∷ ts) → AreRoom (before ++ cs ∷ []) ts
more_room before ts cs room =
    let commands = sum_by-append (length {A = Command}) (cs ∷ []) ts in
    let gcs = sum_by-append (count_by is_gc) (cs ∷ []) ts in
    record {
      threads = omega (arith, length-append before (cs ∷ []), room.threads);
      commands = omega (arith, sum_by-append (length {A = Command}) before (cs ∷ []), room.commands);
      gcs = omega (arith, sum_by-append (count_by is_gc) before (cs ∷ []), room.gcs);
    }

threads_lead : (pages auto : ℕ) (before ts : List (List Command)) (rest : List ℕ) (p : Program) → All (All IsCommand) ts → AreRoom before ts →
    Leads (in_thread pages auto (before ++ ts)) rest p → Leads (in_thread pages auto before) (flat_map thread_text ts ++ rest) p
threads_lead pages auto before [] rest p all room leads = subst (λ (ts : List (List Command)). Leads (in_thread pages auto ts) rest p) (append-nil before) leads
threads_lead pages auto before (cs ∷ ts) rest p all room leads =
    subst (λ (bytes : List ℕ). Leads (in_thread pages auto before) bytes p) (sym (append_assoc (thread_text cs) (flat_map thread_text ts) rest))
    (thread_leads InThread pages auto before cs (flat_map thread_text ts ++ rest) p AtThread (omega (arith, room.threads))
    (All-head (All IsCommand) cs ts all) (one_room before ts cs room)
    (threads_lead pages auto (before ++ cs ∷ []) ts rest p (All-tail (All IsCommand) cs ts all) (more_room before ts cs room)
    (subst (λ (xs : List (List Command)). Leads (in_thread pages auto xs) rest p) (sym (append_assoc before (cs ∷ []) ts)) leads)))

-- ---- the schedule and the end

-- a script before its `end`
abbrev at_end : Place → Program → SoFar
at_end place p = record { place = place; program = p }

-- the places where a script may end
data Ends : Place → Type 0 where
  EndsThread : Ends InThread
  EndsSchedule : Ends InSchedule

end_read : (place : Place) (p : Program) → Ends place → judged (at_end place p) (codes "end" ∷ []) ≡ Ok (at_end AfterEnd p)
unfolding judged judged_word statement_of rows
end_read _ p EndsThread = refl
end_read _ p EndsSchedule = refl

end_leads : (place : Place) (p : Program) → Ends place → Leads (at_end place p) (line (codes "end")) p
unfolding spaced read_lines
end_leads place p ends =
    subst (λ (bytes : List ℕ). Leads (at_end place p) bytes p) (append-nil (line (codes "end")))
    (step (at_end place p) (at_end AfterEnd p) (codes "end") [] [] p (written _ (omega arith) refl) (All-nil IsWord) (end_read place p ends) (λ number. refl))

schedule_read : (pages auto : ℕ) (threads : List (List Command)) (t : ℕ) (ts : List ℕ) → length threads ≤ 8 → All (λ u. u < length threads) (t ∷ ts) → length (t ∷ ts) ≤ 1000000 →
    judged (in_thread pages auto threads) (codes "schedule" ∷ schedule_fields (t ∷ ts)) ≡ Ok (at_end InSchedule (record { pages = pages; auto = auto; threads = threads; schedule = t ∷ ts }))
unfolding judged judged_word statement_of
schedule_read pages auto threads t ts few all short =
    rw (schedule_said (length threads) t ts few all, le-ltb 1000000 (0 + length (t ∷ ts)) (omega arith)) refl

schedule_leads : (pages auto : ℕ) (threads : List (List Command)) (ts : List ℕ) → length threads ≤ 8 → All (λ u. u < length threads) ts → length ts ≤ 1000000 →
    Leads (in_thread pages auto threads) (schedule_text ts ++ line (codes "end")) (record { pages = pages; auto = auto; threads = threads; schedule = ts })
unfolding spaced schedule_fields
schedule_leads pages auto threads [] few all short = end_leads InThread (record { pages = pages; auto = auto; threads = threads; schedule = [] }) EndsThread
schedule_leads pages auto threads (t ∷ ts) few all short =
    let p : Program = record { pages = pages; auto = auto; threads = threads; schedule = t ∷ ts } in
    subst (λ (fields : List ℕ). Leads (in_thread pages auto threads) (line (codes "schedule" ++ fields) ++ line (codes "end")) p) (flat_map-map field run_text (pieces_in (t ∷ ts)))
    (step (in_thread pages auto threads) (at_end InSchedule p) (codes "schedule") (schedule_fields (t ∷ ts)) (line (codes "end")) p (written _ (omega arith) refl)
    (schedule_words (length threads) (t ∷ ts) few all) (schedule_read pages auto threads t ts few all short) (end_leads InSchedule p EndsSchedule))

-- ---- the whole

version_read : judged nothing_read (codes "lispheap" ∷ codes "1" ∷ []) ≡ Ok (record nothing_read { place = AfterVersion })
unfolding judged judged_word statement_of rows number_of
version_read = refl

-- a script before its `auto` line
abbrev after_heap : ℕ → SoFar
after_heap pages = before_thread AfterHeap pages 0 []

heap_read : (pages : ℕ) → 1 ≤ pages → pages ≤ 1024 →
    judged (record nothing_read { place = AfterVersion }) (codes "heap" ∷ decimal pages ∷ []) ≡ Ok (after_heap pages)
unfolding judged judged_word statement_of rows
heap_read pages least most = rw (number_decimal pages (omega arith), le-leb 1 pages least, le-ltb 1024 pages most) refl

is_auto_from : (words : ℕ) → IsAuto words → is_auto words ≡ true
is_auto_from words (inl none) = rw none refl
is_auto_from words (inr some) = or_right (eqb words 0) (between 512 524288 words) (and_from (leb 512 words) (leb words 524288) (le-leb 512 words some.0) (le-leb words 524288 some.1))

auto_most : (words : ℕ) → IsAuto words → words ≤ 524288
auto_most words (inl none) = omega arith
auto_most words (inr some) = some.1

auto_read : (pages auto : ℕ) → IsAuto auto → judged (after_heap pages) (codes "auto" ∷ decimal auto ∷ []) ≡ Ok (before_thread AfterAuto pages auto [])
unfolding judged judged_word statement_of rows
auto_read pages auto h = rw (number_decimal auto (omega (arith, auto_most auto h)), is_auto_from auto h) refl

some_threads : (pages auto : ℕ) (ts : List (List Command)) (rest : List ℕ) (p : Program) → 1 ≤ length ts → All (All IsCommand) ts → AreRoom [] ts →
    Leads (in_thread pages auto ts) rest p → Leads (before_thread AfterAuto pages auto []) (flat_map thread_text ts ++ rest) p
some_threads pages auto [] rest p some all room leads = absurd (omega arith)
some_threads pages auto (cs ∷ ts) rest p some all room leads =
    subst (λ (bytes : List ℕ). Leads (before_thread AfterAuto pages auto []) bytes p) (sym (append_assoc (thread_text cs) (flat_map thread_text ts) rest))
    (thread_leads AfterAuto pages auto [] cs (flat_map thread_text ts ++ rest) p AtAuto (omega (arith, room.threads))
    (All-head (All IsCommand) cs ts all) (one_room [] ts cs room)
    (threads_lead pages auto (cs ∷ []) ts rest p (All-tail (All IsCommand) cs ts all) (more_room [] ts cs room) leads))

-- the text after the `auto` line
abbrev threads_of : Program → List ℕ
threads_of p = flat_map thread_text p.threads ++ (schedule_text p.schedule ++ line (codes "end"))

threads_led : (p : Program) → IsValid p → Leads (before_thread AfterAuto p.pages p.auto []) (threads_of p) p
threads_led p v =
    some_threads p.pages p.auto p.threads (schedule_text p.schedule ++ line (codes "end")) p v.threads_least v.commands
    (record { threads = omega (arith, v.threads_most); commands = omega (arith, v.commands_most); gcs = omega (arith, v.gcs_most) })
    (schedule_leads p.pages p.auto p.threads p.schedule v.threads_most v.schedule v.schedule_most)

one_field : (word f : List ℕ) → spaced word (f ∷ []) ≡ word ++ field f
unfolding spaced
one_field word f = ap (λ (text : List ℕ). word ++ text) (append-nil (field f))

-- a line of a word and a number
number_leads : (s next : SoFar) (word : List ℕ) (n : ℕ) (rest : List ℕ) (p : Program) → IsWord word → n < 2 ^ 64 → judged s (word ∷ decimal n ∷ []) ≡ Ok next → Leads next rest p →
    Leads s (line (word ++ field (decimal n)) ++ rest) p
number_leads s next word n rest p h few read leads =
    subst (λ (text : List ℕ). Leads s (line text ++ rest) p) (one_field word (decimal n))
    (step s next word (decimal n ∷ []) rest p h (All-cons IsWord (decimal n) [] (decimal_word n few) (All-nil IsWord)) read leads)

-- the text after the `heap` line
abbrev body_of : Program → List ℕ
body_of p = line (codes "auto" ++ field (decimal p.auto)) ++ threads_of p

body_leads : (p : Program) → IsValid p → Leads (after_heap p.pages) (body_of p) p
body_leads p v =
    number_leads (after_heap p.pages) (before_thread AfterAuto p.pages p.auto []) (codes "auto") p.auto (threads_of p) p (written _ (omega arith) refl)
    (omega (arith, auto_most p.auto v.auto)) (auto_read p.pages p.auto v.auto) (threads_led p v)

heap_leads : (p : Program) → IsValid p → Leads (record nothing_read { place = AfterVersion }) (line (codes "heap" ++ field (decimal p.pages)) ++ body_of p) p
heap_leads p v =
    number_leads (record nothing_read { place = AfterVersion }) (after_heap p.pages) (codes "heap") p.pages (body_of p) p (written _ (omega arith) refl)
    (omega (arith, v.pages_most)) (heap_read p.pages v.pages_least v.pages_most) (body_leads p v)

regroup : (a b c d e f : List ℕ) → a ++ b ++ c ++ d ++ e ++ f ≡ a ++ (b ++ (c ++ (d ++ (e ++ f))))
regroup a b c d e f = simp append_assoc

pub printed_is_read : (p : Program) → IsValid p → read_script (program_text p) ≡ Ok p
unfolding read_script spaced
printed_is_read p v =
    ap read_script (regroup (line (codes "lispheap 1")) (line (codes "heap" ++ field (decimal p.pages))) (line (codes "auto" ++ field (decimal p.auto))) (flat_map thread_text p.threads)
    (schedule_text p.schedule) (line (codes "end")))
    ∙ step nothing_read (record nothing_read { place = AfterVersion }) (codes "lispheap") (codes "1" ∷ []) (line (codes "heap" ++ field (decimal p.pages)) ++ body_of p) p (written _ (omega arith) refl)
    (All-cons IsWord (codes "1") [] (written _ (omega arith) refl) (All-nil IsWord)) version_read (heap_leads p v) 1
