use Rattle.std.proofs.Common.{◌≡◌, ◌++◌, take}
use Rattle.std.specs.List.{flat_map}
use Rattle.heap_terms.specs.Text.{pass_text}
use Rattle.journal_text.proofs.printing.passes.push_passes.Given as goal

abbrev pub invariant-loop-pass : goal.invariant-loop-pass
invariant-loop-pass l = l.out.text ≡ l.initial.out.text ++ flat_map pass_text (take l.pass-index l.passes)
