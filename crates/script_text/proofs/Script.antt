-- A script, line by line.
use Rattle.std.proofs.Common.{◌≡◌, ℕ, ◌+◌, List, [], ◌∷◌, length, Result, Ok, Err, refl, sym, ◌∙◌, arith}
use Rattle.std.specs.Str.Lines.{lines}
use Rattle.heap_terms.specs.declared.programs.Program.{Program}
use Rattle.heap_terms.specs.Fields.{fields_in}
use Rattle.heap_terms.specs.ScriptReading.{SoFar, Refused, Bad, Over, Fault, fault_at, judged, read_lines, finished}
use Rattle.script_text.specs.declared.faults.LineFault.{LineFault}
use Rattle.script_text.specs.declared.faults.LineFault.TheVariants as faults
use Rattle.script_text.specs.ReaderAnswers.{IsRefused}
use Rattle.script_text.specs.Gives.{Fails}
use Rattle.script_text.specs.Numbers.{fault_of_line}
use Rattle.script_text.specs.Left.{first_or_empty, all_but_first, fields_left, lines_after}

next_of : (s next : SoFar) (number : ℕ) (ls : List (List ℕ)) → (ls ≡ [] → ⊥) → judged s (fields_in (first_or_empty ls)) ≡ Ok next → read_lines s number ls ≡ read_lines next (number + 1) (all_but_first ls)
unfolding read_lines
next_of s next number [] some good = absurd (some refl)
next_of s next number (l ∷ ls) some good = rw (good, read_lines) refl

refused_of : (s : SoFar) (number : ℕ) (refused : Refused) (ls : List (List ℕ)) → (ls ≡ [] → ⊥) → judged s (fields_in (first_or_empty ls)) ≡ Err refused → read_lines s number ls ≡ Err (fault_at number refused)
unfolding read_lines
refused_of s number refused [] some bad = absurd (some refl)
refused_of s number refused (l ∷ ls) some bad = rw (bad, read_lines) refl

-- a line that is good, and one that is not
pub read_next : (s next : SoFar) (number : ℕ) (bytes : List ℕ) → (lines bytes ≡ [] → ⊥) → judged s (fields_left bytes) ≡ Ok next → read_lines s number (lines bytes) ≡ read_lines next (number + 1) (lines_after bytes)
unfolding fields_left lines_after
read_next s next number bytes some good = next_of s next number (lines bytes) some good

pub read_refused : (s : SoFar) (number : ℕ) (bytes : List ℕ) (refused : Refused) → (lines bytes ≡ [] → ⊥) → judged s (fields_left bytes) ≡ Err refused → read_lines s number (lines bytes) ≡ Err (fault_at number refused)
unfolding fields_left
read_refused s number bytes refused some bad = refused_of s number refused (lines bytes) some bad

pub read_all : (s : SoFar) (number : ℕ) (bytes : List ℕ) → lines bytes ≡ [] → read_lines s number (lines bytes) ≡ finished s number
unfolding read_lines
read_all s number bytes none = rw none refl

-- the line's fault is the script's, at its number
pub refusal : (fault : LineFault) (s new : SoFar) (number : ℕ) (bytes : List ℕ) (all : Result Program Fault) → (lines bytes ≡ [] → ⊥) → IsRefused fault (judged s (fields_left bytes)) → read_lines s number (lines bytes) ≡ all
    → Fails (fault_of_line fault number) all
refusal (faults.Bad why) s new number bytes all some bad so_far = sym so_far ∙ read_refused s number bytes (Bad why) some bad
refusal (faults.Over kind) s new number bytes all some bad so_far = sym so_far ∙ read_refused s number bytes (Over kind) some bad
refusal faults.Memory s new number bytes all some bad so_far = tt

-- a line is one of the lines
fewer_of : (ls : List (List ℕ)) → (ls ≡ [] → ⊥) → length ls ≡ length (all_but_first ls) + 1
fewer_of [] some = absurd (some refl)
fewer_of (l ∷ ls) some = omega arith

pub lines_fewer : (bytes : List ℕ) → (lines bytes ≡ [] → ⊥) → length (lines bytes) ≡ length (lines_after bytes) + 1
unfolding lines_after
lines_fewer bytes some = fewer_of (lines bytes) some
