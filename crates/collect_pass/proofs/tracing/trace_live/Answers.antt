-- Culling, breaking, and the end of tracing.
use Rattle.std.proofs.Common.{◌≡◌, ℕ, List, length, rules, sym, ◌∙◌, ap, subst, arith, vec_capacity}
use Rattle.copy_space.specs.declared.notes.Pass.{Pass}
use Rattle.copy_space.specs.declared.notes.PassNotes.{PassNotes}
use Rattle.copy_space.specs.Notes.{SameButMoves}
use Rattle.copy_space.specs.State.{CopyState, state}
use Rattle.scavenge.proofs.Frames.{notes-on, notes-same}
use Rattle.finalizers.specs.Sweeping.{IsSwept}
use Rattle.finalizers.proofs.Standing.{stand-words}
use Rattle.trace_laws.specs.Traced.{ArePinnedStarts, IsTraced}
use Rattle.collect_pass.proofs.EndStates.{swept-end, told-end, traced-end}
use Rattle.collect_pass.proofs.Finished.{IsListed, can-break, can-cull, end-same, trace-notes, traced, traced-pass, traced-pins}
use Rattle.collect_pass.proofs.SettlingLoop.{scans-settle, settles-on}
use Rattle.collect_pass.proofs.TracedNow.{IsEndOf, all-settled}
use Rattle.collect_pass.proofs.tracing.trace_live.Goals as goal

pub cull-requires : goal.cull-requires
cull-requires g c =
    let e = c.settle_all.ensures in
    let now = c.settle_all.new.copier.notes.now in
    let culls : now.culls ≡ c.args.notes.now.culls = e.same.notes.culls ∙ c.scavenge_older.ensures.notes.culls ∙ c.evacuate_roots.ensures.same.notes.culls ∙ ap (λ (n : PassNotes). n.culls) c.new-copier.ensures.notes in
    let empty = ap length (ap (λ v. v.items) culls ∙ c.requires.0.no_culls) in
    let room = ap vec_capacity culls in
    let enough = c.requires.0.culls_room in
    can-cull g.h.heap (state c.settle_all.new.copier) c.settle_all.new.weak (record { midway = e.settles.midway; all = e.settled; note = e.noting.can }) now (omega (arith, empty, now.culls.ok.0)) (omega arith)

pub break_dead-requires : goal.break_dead-requires
break_dead-requires g c =
    let e = c.settle_all.ensures in
    let now = c.cull.new.copier.notes.now in
    let breaks : now.breaks ≡ c.args.notes.now.breaks =
    c.cull.ensures.notes.breaks ∙ e.same.notes.breaks ∙ c.scavenge_older.ensures.notes.breaks ∙ c.evacuate_roots.ensures.same.notes.breaks ∙ ap (λ (n : PassNotes). n.breaks) c.new-copier.ensures.notes in
    let empty = ap length (ap (λ v. v.items) breaks ∙ c.requires.0.no_breaks) in
    let room = ap vec_capacity breaks in
    let enough = c.requires.0.breaks_room in
    can-break g.h.heap (state c.settle_all.new.copier) c.settle_all.new.weak (record { midway = e.settles.midway; all = e.settled; note = e.noting.can }) (state c.cull.new.copier) c.cull.ensures.left now
    (omega (arith, empty, now.breaks.ok.0)) (omega arith)

pub sweep-requires : goal.sweep-requires
sweep-requires g c =
    let now = c.break_dead.new.copier.notes.now in
    let queued : now.queued ≡ c.args.notes.now.queued =
    c.break_dead.ensures.notes.queued ∙ c.cull.ensures.notes.queued ∙ c.settle_all.ensures.same.notes.queued ∙ c.scavenge_older.ensures.notes.queued ∙ c.evacuate_roots.ensures.same.notes.queued
    ∙ ap (λ (n : PassNotes). n.queued) c.new-copier.ensures.notes in
    let empty = ap length (ap (λ v. v.items) queued ∙ c.requires.1.none) in
    let room = ap vec_capacity queued in
    let enough = c.requires.1.room in
    record {
      places = c.break_dead.ensures.left.places;
      list = g.h.heap.finalizers;
      named = stand-words g.h.heap (state c.break_dead.new.copier) c.args.finalizers.now c.break_dead.ensures.left.places c.requires.1.stand;
      room = omega (arith, empty, now.queued.ok.0);
    }

pub returns-clause-traced : goal.returns-clause-traced
returns-clause-traced g c =
    let e = c.settle_all.ensures in
    let starts = c.new-copier.ensures.starts in
    let w = state c.new-copier.result in
    let z = state c.settle_all.new.copier in
    let pins_are : c.new-copier.result.pins.now.listed ≡ c.args.pins.now.listed = ap (λ (s : CopyState). s.pins) starts in
    let pass_is : c.new-copier.result.pass ≡ c.args.pass = ap (λ (s : CopyState). s.pass) starts in
    let pinned : ArePinnedStarts g.h.heap c.new-copier.result.pass.generation c.new-copier.result.pins.now.listed =
    subst (λ (pass : Pass). ArePinnedStarts g.h.heap pass.generation c.new-copier.result.pins.now.listed) (sym pass_is)
    (subst (λ (pins : List ℕ). ArePinnedStarts g.h.heap c.args.pass.generation pins) (sym pins_are) c.requires.0.pinned) in
    let end : IsEndOf g.h w z c.evacuate_roots.new.exact = all-settled g.h w (state c.evacuate_roots.new.copier) (state c.scavenge_older.new.copier) z c.args.exact.now c.evacuate_roots.new.exact
    c.requires.0.ambiguous c.new-copier.ensures.midway (ap (λ (s : CopyState). s.moves) starts) pinned c.requires.0.roots c.evacuate_roots.ensures.roots c.scavenge_older.ensures.scans e.settles in
    let listed : IsListed g.h.heap z c.settle_all.new.weak = record { midway = e.settles.midway; all = e.settled; note = e.noting.can } in
    let t = state c.cull.new.copier in
    let u = state c.break_dead.new.copier in
    let swept = c.sweep.ensures.same in
    let v = state c.sweep.new.copier in
    let is = subst (λ (s : CopyState). IsTraced g.h s c.evacuate_roots.new.exact) (sym swept)
    (traced g.h w z t u c.evacuate_roots.new.exact end c.settle_all.new.weak listed c.cull.ensures.left c.break_dead.ensures.left) in
    let pins_now = ap (λ (s : CopyState). s.pins) swept ∙ traced-pins g.h w z t u c.evacuate_roots.new.exact end c.settle_all.new.weak listed c.cull.ensures.left c.break_dead.ensures.left in
    let pass_now = ap (λ (s : CopyState). s.pass) swept ∙ traced-pass g.h w z t u c.evacuate_roots.new.exact end c.settle_all.new.weak listed c.cull.ensures.left c.break_dead.ensures.left in
    traced-end g.h v c.evacuate_roots.new.exact _ _ _ _ _ _ is (search rules) (search rules) (search rules) (sym pins_are ∙ sym pins_now) (sym pass_is ∙ sym pass_now) (search rules)

pub returns-clause-notes : goal.returns-clause-notes
returns-clause-notes g c =
    let e = c.settle_all.ensures in
    let starts = c.new-copier.ensures.starts in
    let w = state c.new-copier.result in
    let z = state c.settle_all.new.copier in
    let t = state c.cull.new.copier in
    let u = state c.break_dead.new.copier in
    let listed : IsListed g.h.heap z c.settle_all.new.weak = record { midway = e.settles.midway; all = e.settled; note = e.noting.can } in
    let same : u ≡ record z { words = u.words } = end-same g.h.heap z c.settle_all.new.weak listed t c.cull.ensures.left u c.break_dead.ensures.left in
    let grown = settles-on g.h.heap (state c.evacuate_roots.new.copier) (state c.scavenge_older.new.copier) z (scans-settle g.h.heap (state c.evacuate_roots.new.copier) (state c.scavenge_older.new.copier) c.scavenge_older.ensures.scans) e.settles in
    let pass_z : z.pass ≡ w.pass = grown.follows.grows.pass ∙ c.evacuate_roots.ensures.roots.goes.grows.pass in
    let room_z : z.room ≡ w.room = grown.follows.grows.room ∙ c.evacuate_roots.ensures.roots.goes.grows.room in
    let pass_w : w.pass ≡ c.args.pass = ap (λ (s : CopyState). s.pass) starts in
    let room_w : w.room ≡ vec_capacity c.args.notes.now.moves = ap (λ (s : CopyState). s.room) starts in
    let start_notes : SameButMoves c.args.notes.now c.new-copier.result.notes.now = subst (λ (n : PassNotes). SameButMoves c.args.notes.now n) (sym c.new-copier.ensures.notes) (notes-same c.args.notes.now) in
    let chain = notes-on c.args.notes.now c.new-copier.result.notes.now c.settle_all.new.copier.notes.now start_notes
    (notes-on c.new-copier.result.notes.now c.evacuate_roots.new.copier.notes.now c.settle_all.new.copier.notes.now c.evacuate_roots.ensures.same.notes
    (notes-on c.evacuate_roots.new.copier.notes.now c.scavenge_older.new.copier.notes.now c.settle_all.new.copier.notes.now c.scavenge_older.ensures.notes e.same.notes)) in
    let told = trace-notes g.h.heap z t u c.settle_all.new.weak listed c.cull.ensures.left c.args.notes.now c.settle_all.new.copier.notes.now c.cull.new.copier.notes.now c.break_dead.new.copier.notes.now c.sweep.new.copier.notes.now
    chain c.requires.0.no_culls c.requires.0.no_breaks c.cull.ensures.noted c.cull.ensures.room c.cull.ensures.notes c.break_dead.ensures.noted c.break_dead.ensures.room c.break_dead.ensures.notes
    (ap (λ (s : CopyState). s.room) (c.sweep.ensures.same ∙ same) ∙ room_z ∙ room_w) c.requires.1.none
    (c.sweep.ensures.noted g.h.heap.finalizers (stand-words g.h.heap u c.args.finalizers.now c.break_dead.ensures.left.places c.requires.1.stand)) c.sweep.ensures.room c.sweep.ensures.notes same in
    let v = state c.sweep.new.copier in
    let ended : v ≡ record z { words = v.words } = subst (λ (s : CopyState). s ≡ record z { words = s.words }) (sym c.sweep.ensures.same) same in
    told-end g.h.heap z v _ _ _ _ _ _ c.args.notes.now c.sweep.new.copier.notes.now _ told ended (search rules) (sym (ap (λ (s : CopyState). s.pass) ended ∙ pass_z ∙ pass_w)) (search rules)

pub returns-clause-finalizers : goal.returns-clause-finalizers
returns-clause-finalizers g c =
    let e = c.settle_all.ensures in
    let starts = c.new-copier.ensures.starts in
    let w = state c.new-copier.result in
    let z = state c.settle_all.new.copier in
    let u = state c.break_dead.new.copier in
    let listed : IsListed g.h.heap z c.settle_all.new.weak = record { midway = e.settles.midway; all = e.settled; note = e.noting.can } in
    let same : u ≡ record z { words = u.words } = end-same g.h.heap z c.settle_all.new.weak listed (state c.cull.new.copier) c.cull.ensures.left u c.break_dead.ensures.left in
    let grown = settles-on g.h.heap (state c.evacuate_roots.new.copier) (state c.scavenge_older.new.copier) z (scans-settle g.h.heap (state c.evacuate_roots.new.copier) (state c.scavenge_older.new.copier) c.scavenge_older.ensures.scans) e.settles in
    let pass_w : w.pass ≡ c.args.pass = ap (λ (s : CopyState). s.pass) starts in
    let pass_u : u.pass ≡ c.args.pass = ap (λ (s : CopyState). s.pass) same ∙ grown.follows.grows.pass ∙ c.evacuate_roots.ensures.roots.goes.grows.pass ∙ pass_w in
    let swept = c.sweep.ensures.swept g.h.heap.finalizers (stand-words g.h.heap u c.args.finalizers.now c.break_dead.ensures.left.places c.requires.1.stand) in
    let still = c.sweep.ensures.same in
    let v = state c.sweep.new.copier in
    let there = subst (λ (s : CopyState). IsSwept g.h.heap s g.h.heap.finalizers c.args.finalizers.now c.sweep.new.self) (sym still) swept in
    swept-end g.h.heap v _ _ _ _ _ _ g.h.heap.finalizers c.args.finalizers.now c.sweep.new.self there (search rules) (sym (ap (λ (s : CopyState). s.pass) still ∙ pass_u)) (search rules)
