-- What the reader answers to a line: as it is judged, unless memory ran out.
use Rattle.std.specs.Prelude.{◌≡◌, ℕ, ◌<◌, ◌≤◌, List, [], ◌∷◌, ◌++◌, length, Result, Ok, Err}
use Rattle.heap_terms.specs.declared.faults.Why.{Why}
use Rattle.heap_terms.specs.declared.faults.Why.TheVariants.{Fields}
use Rattle.heap_terms.specs.declared.faults.LimitKind.TheVariants as limits
use Rattle.heap_terms.specs.declared.limits.TheConstants.{MOST_TURNS}
use Rattle.heap_terms.specs.Fields.{◌>>=◌}
use Rattle.heap_terms.specs.Grammar.{turns_of_all}
use Rattle.heap_terms.specs.ScriptReading.{SoFar, Refused, Bad, Over}
use Rattle.script_text.specs.declared.faults.LineFault.{LineFault}
use Rattle.script_text.specs.declared.faults.LineFault.TheVariants as faults

-- a fault is the one by which the line is refused; want of memory says nothing of it
abbrev pub IsRefused : LineFault → Result SoFar Refused → Type 0
IsRefused (faults.Bad why) judgement = judgement ≡ Err (Bad why)
IsRefused (faults.Over kind) judgement = judgement ≡ Err (Over kind)
IsRefused faults.Memory judgement = Unit {0}

abbrev pub IsJudged : Result (Unit {0}) LineFault → SoFar → Result SoFar Refused → Type 0
IsJudged (Ok done) new judgement = judgement ≡ Ok new
IsJudged (Err fault) new judgement = IsRefused fault judgement

-- a line with one field alone, or with none
abbrev pub only_field : List (List ℕ) → Result (List ℕ) Why
only_field (field ∷ []) = Ok field
only_field _ = Err Fields

-- the turns of a schedule's fields, behind those before
abbrev pub turns_behind : List ℕ → ℕ → List (List ℕ) → Result (List ℕ) Why
turns_behind before threads fields = turns_of_all threads fields >>= λ ts. Ok (before ++ ts)

abbrev pub NotAdded : LineFault → ℕ → Result (List ℕ) Why → Type 0
NotAdded (faults.Bad why) limit turns = turns ≡ Err why
NotAdded (faults.Over kind) limit turns = (kind ≡ limits.Schedule) × (ts : List ℕ) × (turns ≡ Ok ts) × (limit < length ts)
NotAdded faults.Memory limit turns = Unit {0}

-- what adding turns answers: they are added, one field is bad, or they are too many
abbrev pub AddsTurns : Result (Unit {0}) LineFault → List ℕ → Result (List ℕ) Why → Type 0
AddsTurns (Ok done) new turns = (turns ≡ Ok new) × (length new ≤ MOST_TURNS)
AddsTurns (Err fault) new turns = NotAdded fault MOST_TURNS turns
