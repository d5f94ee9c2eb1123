-- How calls end, by the form of their words.
use Rattle.std.proofs.Common.{◌≡◌, ℕ, ◌<◌, ◌≤◌, ◌⊎◌, ◌++◌, length, length-append, List, [], ◌∷◌, Option, Some, None, Bool, true, false, refl, ap, sym, ◌∙◌, subst, inl, inr, arith, codes, Result, Ok, Err, OnOk}
use Rattle.std.specs.Prelude.{IfErr, ◌↔◌, is_some}
use Rattle.std.proofs.lemmas.Bool.{false≢true, le-ltb, lt-ltb}
use Rattle.std.proofs.lemmas.Result.{IfErr-weaker}
use Rattle.command_words.specs.Forms.{wanted, wanted_after}
use Rattle.heap_terms.specs.declared.programs.Program.{Program}
use Rattle.heap_terms.specs.ScriptReading.{read_script, Fault as ScriptFault, LineFault, LimitFault}
use Rattle.lispheap.specs.declared.faults.Fault.{Fault}
use Rattle.lispheap.specs.declared.faults.Fault.TheVariants as faults
use Rattle.lispheap.specs.Answers.{Change, Answers, Ends, EndsEither, Failed, IsExact, IsForm, IsReplay, IsUntouched, Replays, asks_for_steps, input_limit, status_for, status_read}
use Rattle.lispheap.specs.Journals.{IsJournal}
use Rattle.lispheap.specs.Generating.{EndsGenerating, Generates, IsGenerate}
use Rattle.lispheap.specs.OnThreads.{IsRun}
use Rattle.lispheap.specs.Texts.{status_of}
use Rattle.lispheap.proofs.Saying.{ok_from}

-- no words are both
pub apart : (words : List (List ℕ)) → IsReplay words → IsGenerate words → ⊥
unfolding wanted wanted_after
apart words (inl one) generate = false≢true (subst IsGenerate one generate)
apart words (inr two) generate = false≢true (subst IsGenerate two generate)

pub run_apart : (words : List (List ℕ)) → IsRun words → IsGenerate words → ⊥
unfolding wanted wanted_after
run_apart words one generate = false≢true (subst IsGenerate one generate)

-- what a replay and the generator leave is how the call ends
pub replay_failed : (f : Fault) (words : List (List ℕ)) (source out : Change) → IsReplay words → Replays (IsJournal (asks_for_steps words)) (Some f) source out → Ends (Some f) words source out
replay_failed faults.Usage words source out form r = absurd r
replay_failed (faults.Line n why) words source out form r = (form, r)
replay_failed faults.Read words source out form r = (form, r)
replay_failed faults.Write words source out form r = inl (form, r)
replay_failed faults.TooLong words source out form r = (form, r)
replay_failed (faults.Limit kind) words source out form r = (form, r)
replay_failed faults.Memory words source out form r = inl (form, r)

pub generator_failed : (f : Fault) (words : List (List ℕ)) (source out : Change) → IsUntouched source → Generates words (Some f) out → Ends (Some f) words source out
generator_failed faults.Usage words source out unread g = absurd g
generator_failed (faults.Line n why) words source out unread g = absurd g
generator_failed faults.Read words source out unread g = absurd g
generator_failed faults.Write words source out unread g = inr (unread, g)
generator_failed faults.TooLong words source out unread g = absurd g
generator_failed (faults.Limit kind) words source out unread g = absurd g
generator_failed faults.Memory words source out unread g = inr (unread, g)

-- the form that an end tells of
form_done : (words : List (List ℕ)) (source out : Change) → EndsEither None words source out → IsForm words
form_done words source out (inl r) = inl r.0
form_done words source out (inr g) = inr (ap is_some g.1.generated.words_ask)

form_stopped : (words : List (List ℕ)) (source out : Change) → EndsEither (Some faults.Write) words source out → IsForm words
form_stopped words source out (inl r) = inl r.0
form_stopped words source out (inr g) = inr (ap is_some g.1.generated.words_ask)

form_wanting : (words : List (List ℕ)) (source out : Change) → EndsEither (Some faults.Memory) words source out → IsForm words
form_wanting words source out (inl r) = inl r.0
form_wanting words source out (inr g) = inr g.1.0

usage_told : (f : Option Fault) (words : List (List ℕ)) (source out : Change) (status : ℕ) → status ≡ status_of f → Ends f words source out → (status ≡ 2) ↔ (¬ IsForm words)
usage_told None words source out status is ends = (λ e. absurd (omega arith), λ not. absurd (not (form_done words source out ends)))
usage_told (Some faults.Usage) words source out status is ends = (λ e. ends.0, λ not. is)
usage_told (Some (faults.Line n why)) words source out status is ends = (λ e. absurd (omega arith), λ not. absurd (not (inl ends.0)))
usage_told (Some faults.Read) words source out status is ends = (λ e. absurd (omega arith), λ not. absurd (not (inl ends.0)))
usage_told (Some faults.Write) words source out status is ends = (λ e. absurd (omega arith), λ not. absurd (not (form_stopped words source out ends)))
usage_told (Some faults.TooLong) words source out status is ends = (λ e. absurd (omega arith), λ not. absurd (not (inl ends.0)))
usage_told (Some (faults.Limit kind)) words source out status is ends = (λ e. absurd (omega arith), λ not. absurd (not (inl ends.0)))
usage_told (Some faults.Memory) words source out status is ends = (λ e. absurd (omega arith), λ not. absurd (not (form_wanting words source out ends)))

pub usage_of : (words : List (List ℕ)) (source out err : Change) (status : ℕ) → Answers words source out err status → (status ≡ 2) ↔ (¬ IsForm words)
usage_of words source out err status a = usage_told a.fault words source out status a.ended a.ends

generator_told : (f : Option Fault) (words : List (List ℕ)) (source out : Change) (status : ℕ) → status ≡ status_of f → Ends f words source out → IsGenerate words
    → EndsGenerating source out status
generator_told None words source out status is (inl r) generate = absurd (apart words r.0 generate)
generator_told None words source out status is (inr g) generate = record { unread = g.0; status_is = inl is; exact = λ sound. inl is }
generator_told (Some faults.Usage) words source out status is ends generate = absurd (ends.0 (inr generate))
generator_told (Some (faults.Line n why)) words source out status is ends generate = absurd (apart words ends.0 generate)
generator_told (Some faults.Read) words source out status is ends generate = absurd (apart words ends.0 generate)
generator_told (Some faults.Write) words source out status is (inl r) generate = absurd (apart words r.0 generate)
generator_told (Some faults.Write) words source out status is (inr g) generate =
    record { unread = g.0; status_is = inr (inl is); exact = λ sound. absurd (sound g.1.written.rose) }
generator_told (Some faults.TooLong) words source out status is ends generate = absurd (apart words ends.0 generate)
generator_told (Some (faults.Limit kind)) words source out status is ends generate = absurd (apart words ends.0 generate)
generator_told (Some faults.Memory) words source out status is (inl r) generate = absurd (apart words r.0 generate)
generator_told (Some faults.Memory) words source out status is (inr g) generate = record { unread = g.0; status_is = inr (inr is); exact = λ sound. inr is }

pub generator_of : (words : List (List ℕ)) (source out err : Change) (status : ℕ) → Answers words source out err status → IsGenerate words → EndsGenerating source out status
generator_of words source out err status a = generator_told a.fault words source out status a.ended a.ends

-- the status that bytes ask for, where they were taken whole
read_status : (input bytes : List ℕ) → input ≡ bytes → length input ≤ input_limit → status_for bytes ≡ status_read (read_script input)
read_status input bytes same within = ap status_for (sym same) ∙ rw (le-ltb input_limit (length input) within) refl

read_so : (input bytes : List ℕ) (r : Result Program ScriptFault) (status : ℕ) → input ≡ bytes → length input ≤ input_limit → read_script input ≡ r → status ≡ status_read r
    → status ≡ status_for bytes
read_so input bytes r status same within read is = is ∙ ap status_read (sym read) ∙ sym (read_status input bytes same within)

too_long : (bytes front rest : List ℕ) → bytes ≡ front ++ rest → input_limit < length front → status_for bytes ≡ 6
too_long bytes front rest whole more =
    let len = ap length whole ∙ length-append front rest in
    let above : input_limit < length bytes = omega (arith, len, more) in
    rw (lt-ltb input_limit (length bytes) above) refl

exact_told : (f : Option Fault) (words : List (List ℕ)) (source out : Change) (status : ℕ) → status ≡ status_of f → Ends f words source out → IsExact words source out status
exact_told None words source out status is (inl r) bytes form told source_sound out_sound =
    inl (read_so r.1.input bytes (Ok r.1.journal.program) status (r.1.taken.whole bytes told).0 r.1.taken.within r.1.journal.read is)
exact_told None words source out status is (inr g) bytes form told source_sound out_sound = absurd (apart words form (ap is_some g.1.generated.words_ask))
exact_told (Some faults.Usage) words source out status is ends bytes form told source_sound out_sound = absurd (ends.0 (inl form))
exact_told (Some (faults.Line n why)) words source out status is ends bytes form told source_sound out_sound =
    let refused = ends.1.0 in
    inl (read_so refused.input bytes (Err (LineFault n why)) status (refused.taken.whole bytes told).0 refused.taken.within refused.read is)
exact_told (Some faults.Read) words source out status is ends bytes form told source_sound out_sound = absurd (source_sound ends.1.0)
exact_told (Some faults.Write) words source out status is (inl r) bytes form told source_sound out_sound = absurd (out_sound r.1.written.rose)
exact_told (Some faults.Write) words source out status is (inr g) bytes form told source_sound out_sound = absurd (out_sound g.1.written.rose)
exact_told (Some faults.TooLong) words source out status is ends bytes form told source_sound out_sound =
    let taken = ends.1.0 bytes told in
    inl (is ∙ sym (too_long bytes taken.0 taken.1 taken.2 taken.4))
exact_told (Some (faults.Limit kind)) words source out status is ends bytes form told source_sound out_sound =
    let refused = ends.1.0.1 in
    inl (read_so refused.input bytes (Err (LimitFault ends.1.0.0 kind)) status (refused.taken.whole bytes told).0 refused.taken.within refused.read is)
exact_told (Some faults.Memory) words source out status is ends bytes form told source_sound out_sound = inr is

pub exact_of : (words : List (List ℕ)) (source out err : Change) (status : ℕ) → Answers words source out err status → IsExact words source out status
exact_of words source out err status a = exact_told a.fault words source out status a.ended a.ends

-- ---- by what a replay and the generator answer

pub replay_answers : (r : Result (Unit {0}) Fault) (steps : Bool) (words : List (List ℕ)) (source out : Change) → IsReplay words → steps ≡ asks_for_steps words
    → OnOk r (Replays (IsJournal steps) None source out) → OnOk r (Ends None words source out)
replay_answers r steps words source out form same done = ok_from r (λ h. inl (form, subst (λ b. Replays (IsJournal b) None source out) same h)) done

pub replay_refuses : (r : Result (Unit {0}) Fault) (steps : Bool) (words : List (List ℕ)) (source out : Change) → IsReplay words → steps ≡ asks_for_steps words
    → IfErr r (λ f. Replays (IsJournal steps) (Some f) source out) → IfErr r (λ f. Ends (Some f) words source out)
replay_refuses r steps words source out form same failed =
    IfErr-weaker r _ _ (λ f h. replay_failed f words source out form (subst (λ b. Replays (IsJournal b) (Some f) source out) same h)) failed

pub generator_answers : (r : Result (Unit {0}) Fault) (words : List (List ℕ)) (source out : Change) → IsUntouched source
    → OnOk r (Generates words None out) → OnOk r (Ends None words source out)
generator_answers r words source out unread done = ok_from r (λ h. inr (unread, h)) done

pub generator_refuses : (r : Result (Unit {0}) Fault) (words : List (List ℕ)) (source out : Change) → IsUntouched source
    → IfErr r (λ f. Generates words (Some f) out) → IfErr r (λ f. Ends (Some f) words source out)
generator_refuses r words source out unread failed = IfErr-weaker r _ _ (λ f h. generator_failed f words source out unread h) failed

pub no_form : (words : List (List ℕ)) (a b : Bool) → (IsReplay words → a ≡ true) → a ≡ false → b ≡ is_some (wanted words) → b ≡ false → ¬ IsForm words
no_form words a b replay not told none (inl form) = false≢true (sym not ∙ replay form)
no_form words a b replay not told none (inr form) = false≢true (sym none ∙ told ∙ form)
