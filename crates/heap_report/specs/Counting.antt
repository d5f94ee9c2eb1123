-- The numbers of a summary with one event more, or one pass more.
use Rattle.std.specs.Prelude.{ℕ, ◌+◌, List, length, sum_by, fold, if◌then◌else◌}
use Rattle.heap_terms.specs.declared.answers.Answer.{Answer}
use Rattle.heap_terms.specs.declared.events.Event.{Event}
use Rattle.heap_terms.specs.declared.events.Event.TheVariants.{Did, Opened, Collected, Ended}
use Rattle.heap_terms.specs.declared.events.PassRecord.{PassRecord}
use Rattle.heap_terms.specs.declared.programs.Program.{Program}
use Rattle.heap_terms.specs.declared.totals.Totals.{Totals}
use Rattle.heap_terms.specs.Summary.{capped, is_placed, moves_in, stays_in}

-- the numbers of a program, with so many events, before the first of them is counted
abbrev pub before_events : Program → ℕ → Totals
before_events p events = record {
  threads = capped (length p.threads);
  pages = capped p.pages;
  commands = capped (sum_by length p.threads);
  events = capped events;
  objects = 0;
  collections = 0;
  passes = 0;
  moved = 0;
  pinned = 0;
  stayed = 0;
  dead = 0;
  culled = 0;
  broken = 0;
  queued = 0;
  freed = 0;
}

abbrev pub with_commit : Totals → Answer → Totals
with_commit t answer = if is_placed answer then record t { objects = capped (t.objects + 1) } else t

unfoldable pub with_pass : Totals → PassRecord → Totals
with_pass t r = record t {
  passes = capped (t.passes + 1);
  moved = capped (t.moved + moves_in r);
  pinned = capped (t.pinned + length r.pins);
  stayed = capped (t.stayed + stays_in r);
  dead = capped (t.dead + r.dead);
  culled = capped (t.culled + length r.culls);
  broken = capped (t.broken + length r.breaks);
  queued = capped (t.queued + length r.queued);
  freed = capped (t.freed + length r.freed);
}

unfoldable pub with_passes : Totals → List PassRecord → Totals
with_passes t rs = fold with_pass t rs

unfoldable pub with_event : Totals → Event → Totals
with_event t (Did th c answer) = with_commit t answer
with_event t (Opened th ty first k) = t
with_event t (Collected th last passes) = with_passes (record t { collections = capped (t.collections + 1) }) passes
with_event t (Ended th) = t
