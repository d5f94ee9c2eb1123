-- One word more.
use Rattle.std.proofs.Common.{◌≡◌, ℕ, refl, ◌∙◌, ap, subst, arith}
use Rattle.std.specs.Prelude.{vec_capacity}
use Rattle.copy_space.specs.State.{state}
use Rattle.weak_refs.specs.Culling.{IsCleared}
use Rattle.weak_refs.proofs.Clearing.{cleared-none, clear-inside, cleared-next}
use Rattle.weak_refs.proofs.Noting.{rest-on, rest-same, parts-same, parts-on}
use Rattle.weak_refs.proofs.culling.clear.Goals as goal

pub loop-index-init : goal.loop-index-init
loop-index-init g c = record {
  cleared = cleared-none g.a (state c.args.copier.now) c.args.from c.requires.places;
  culls = refl;
  notes = record { rest = rest-same c.args.copier.now.notes.now; breaks = refl; queued = refl };
  parts = parts-same c.args.copier.now;
}

pub write-requires : goal.write-requires
write-requires g c =
    let inside = clear-inside g.a (state c.args.copier.now) c.args.from c.args.to c.requires in
    let long = c.loop-index.invariant.cleared.places.long in
    let long_before = c.requires.places.long in
    let test = c.loop-index-test.true in
    omega arith

pub loop-index-preserved : goal.loop-index-preserved
loop-index-preserved g c =
    let h = c.loop-index.invariant in
    record {
      cleared = cleared-next g.a (state c.args.copier.now) c.args.from c.args.to c.requires (state c.loop-index.copier) (state c.write.new.self) c.loop-index.index (omega arith) c.loop-index-test.true h.cleared c.write.ensures.words;
      culls = c.write.ensures.notes.culls ∙ h.culls;
      notes = record {
        rest = rest-on c.args.copier.now.notes.now c.loop-index.copier.notes.now c.write.new.self.notes.now h.notes.rest c.write.ensures.notes.rest;
        breaks = c.write.ensures.notes.breaks ∙ h.notes.breaks;
        queued = c.write.ensures.notes.queued ∙ h.notes.queued;
      };
      parts = parts-on c.args.copier.now c.loop-index.copier c.write.new.self h.parts
          (record { same_space = c.write.ensures.same_space; same_pages = c.write.ensures.same_pages; same_marks = c.write.ensures.same_marks; same_notes = c.write.ensures.same_notes });
    }

pub returns : goal.returns
returns g c =
    let h = c.loop-index.invariant in
    let end : c.loop-index.index ≡ c.args.to = (let order = c.requires.order in let test = c.loop-index-test.false in let most = c.loop-index.auto.index-end order in omega arith) in
    record {
      cleared = subst (λ (n : ℕ). IsCleared g.a (state c.args.copier.now) (state c.loop-index.copier) c.args.from n) end h.cleared;
      room = ap (λ v. vec_capacity v) h.culls;
      culls = h.culls;
      notes = h.notes;
      parts = h.parts;
    }
