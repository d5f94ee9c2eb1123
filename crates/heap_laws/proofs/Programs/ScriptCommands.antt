-- What is known of the commands of a valid program.
use Rattle.std.proofs.Common.{◌≡◌, ℕ, ◌<◌, [], length, Some, inl, inr, subst}
use Rattle.std.proofs.lemmas.Bool.{cases_lt}
use Rattle.std.proofs.lemmas.List.{get_or_past}
use Rattle.std.proofs.lemmas.Option.{slice_get_within, get_or_from_slice_get, none-some}
use Rattle.std.specs.Prelude.{slice_get}
use Rattle.heap_terms.specs.declared.commands.Command.{Command}
use Rattle.heap_terms.specs.declared.programs.Program.{Program}
use Rattle.heap_terms.specs.Histories.{script_of}
use Rattle.heap_terms.specs.Valid.{IsValid, IsCommand}

-- a place in a script that has a command belongs to a thread
pub script_thread : (p : Program) (t i : ℕ) (c : Command) → slice_get (script_of p t) i ≡ Some c → t < length p.threads
script_thread p t i c e = elim (cases_lt t (length p.threads)) [
  | inl h ↦ h
  | inr h ↦ absurd (none-some c (rw (get_or_past p.threads t [] h) at e))
]

-- and lies below the script's end
pub script_place : (p : Program) (t i : ℕ) (c : Command) → slice_get (script_of p t) i ≡ Some c → i < length (script_of p t)
script_place p t i c e = slice_get_within (script_of p t) i c e

-- the commands of a valid program's scripts
pub script_command : (p : Program) (t i : ℕ) (c : Command) → IsValid p → slice_get (script_of p t) i ≡ Some c → IsCommand c
script_command p t i c valid e =
    subst (λ x. IsCommand x) (get_or_from_slice_get (script_of p t) i c c e)
    (valid.commands t [] (script_thread p t i c e) i c (script_place p t i c e))
