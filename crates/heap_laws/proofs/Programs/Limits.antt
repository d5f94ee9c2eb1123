-- Programs within the limits, and the commands of their scripts.
use Rattle.std.proofs.Common.{◌≡◌, ℕ, [], Some, subst}
use Rattle.std.proofs.lemmas.List.Elements.{All-weaker}
use Rattle.std.proofs.lemmas.Option.{get_or_from_slice_get}
use Rattle.std.specs.List.{All}
use Rattle.std.specs.Prelude.{slice_get}
use Rattle.heap_terms.specs.declared.commands.Command.{Command}
use Rattle.heap_terms.specs.declared.programs.Program.{Program}
use Rattle.heap_terms.specs.Histories.{script_of}
use Rattle.heap_terms.specs.Valid.{IsValid, IsCommand, IsInRange}
use Rattle.heap_laws.specs.Limited.{IsLimited}
use Rattle.heap_laws.proofs.Programs.ScriptCommands.{script_thread, script_place}

-- a valid program is within the limits
pub limited : (p : Program) → IsValid p → IsLimited p
limited p valid = record {
  pages_most = valid.pages_most;
  threads_most = valid.threads_most;
  commands = All-weaker (All IsCommand) (All IsInRange)
      (λ script h. All-weaker IsCommand IsInRange (λ c command. command.in_range) script h) p.threads valid.commands;
}

-- the fields of a command of its scripts are in their ranges
pub script_in_range : (p : Program) (t i : ℕ) (c : Command) → IsLimited p → slice_get (script_of p t) i ≡ Some c → IsInRange c
script_in_range p t i c limits e =
    subst (λ (x : Command). IsInRange x) (get_or_from_slice_get (script_of p t) i c c e)
    (limits.commands t [] (script_thread p t i c e) i c (script_place p t i c e))
