use Rattle.thread_scripts.proofs.Ends.{fewer}
use Rattle.thread_scripts.proofs.finishing.end_all.Goals as goal

pub loop-t-smaller : goal.loop-t-smaller
loop-t-smaller c = fewer c.loop-t.world c.turn.new.world c.in-Some.t c.history-history.ensures.valid c.history-history.ensures.lawful c.in_ok-turn.ensures.ok
