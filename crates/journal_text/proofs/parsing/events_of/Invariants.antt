use Rattle.std.proofs.Common.{length}
use Rattle.journal_text.proofs.Prefixes.{Reading}
use Rattle.journal_text.proofs.parsing.events_of.Given as goal

abbrev pub invariant-loop-behind : goal.invariant-loop-behind
invariant-loop-behind l = Reading l.bytes l.rest l.number l.reader

abbrev pub decreases-loop-behind : goal.decreases-loop-behind
decreases-loop-behind l = length l.rest
