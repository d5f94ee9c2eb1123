use Rattle.std.proofs.Common.{◌≡◌, ℕ, ◌+◌, ◌-◌, ◌∙◌, ap, arith}
use Rattle.std.specs.Prelude.{count_by, is_none}
use Rattle.heap_terms.specs.Summary.{capped, moves_in, stays_in}
use Rattle.heap_report.specs.Counting.{with_pass}
use Rattle.heap_report.proofs.Sums.{moves_apart}
use Rattle.heap_report.proofs.counting.add_pass.Goals as goal

pub returns : goal.returns
unfolding with_pass
returns c =
    let t = c.args.totals.now in
    let more : ℕ → ℕ → ℕ = λ n k. capped (n + k) in
    let stayed : c.stays_in-stayed.result ≡ stays_in c.args.pass.now = c.stays_in-stayed.ensures ∙ ap (count_by (λ m. is_none m.new)) c.as_slice.ensures in
    let moved : c.len.result - c.stays_in-stayed.result ≡ moves_in c.args.pass.now = omega (arith, stayed, c.len.ensures, moves_apart c.args.pass.now.moves) in
    λ i. record {
      threads = t.threads;
      pages = t.pages;
      commands = t.commands;
      events = t.events;
      objects = t.objects;
      collections = t.collections;
      passes = c.saturating_add-totals.ensures i;
      moved = (c.saturating_add-totals-2.ensures ∙ ap (more t.moved) moved) i;
      pinned = (c.saturating_add-totals-3.ensures ∙ ap (more t.pinned) c.len-2.ensures) i;
      stayed = (c.saturating_add-totals-4.ensures ∙ ap (more t.stayed) stayed) i;
      dead = (c.saturating_add-totals-5.ensures ∙ ap (more t.dead) c.from.ensures) i;
      culled = (c.saturating_add-totals-6.ensures ∙ ap (more t.culled) c.len-3.ensures) i;
      broken = (c.saturating_add-totals-7.ensures ∙ ap (more t.broken) c.len-4.ensures) i;
      queued = (c.saturating_add-totals-8.ensures ∙ ap (more t.queued) c.len-5.ensures) i;
      freed = (c.saturating_add-totals-9.ensures ∙ ap (more t.freed) c.len-6.ensures) i;
    }
