-- One start more.
use Rattle.std.proofs.Common.{◌≡◌, ℕ, ◌<◌, List, [], ◌∷◌, ◌++◌, length, take, refl, sym, ◌∙◌, ap, subst, arith}
use Rattle.std.proofs.lemmas.List.{append-nil, take_all}
use Rattle.std.specs.Prelude.{slice_index}
use Rattle.heap_terms.specs.declared.kinds.Kind.TheVariants as kinds
use Rattle.copy_space.specs.CullNotes.{culled_of}
use Rattle.copy_space.specs.Settled.{is_settled}
use Rattle.copy_space.specs.State.{state}
use Rattle.weak_refs.specs.Culling.{CanCullAt}
use Rattle.copy_space.specs.WeakNames.{IsWeakAt}
use Rattle.weak_refs.specs.Rewriting.{AreRewritten, IsRewritten}
use Rattle.weak_refs.proofs.CulledNotes.{can-cull-next, culls-next}
use Rattle.weak_refs.proofs.Carrying.{rewritten-none, rewritten-on}
use Rattle.weak_refs.proofs.Noting.{rest-same, parts-same, culled-on, parts-on}
use Rattle.weak_refs.proofs.culling.cull.Goals as goal

pub loop-i-init : goal.loop-i-init
loop-i-init g c = record {
  left = rewritten-none g.a (state c.args.copier.now) kinds.Table c.args.weak.now.listed c.requires.starts_are.places;
  noted = λ names named. sym (append-nil c.args.copier.now.notes.now.culls.items);
  room = refl;
  notes = record { rest = rest-same c.args.copier.now.notes.now; breaks = refl; queued = refl };
  parts = parts-same c.args.copier.now;
}

pub cull_at-requires : goal.cull_at-requires
cull_at-requires g c =
    let r = state c.loop-i.copier in
    let most = c.len-i-end.ensures.value in
    subst (λ (start : ℕ). CanCullAt g.a r start c.loop-i.copier.notes.now) (sym c.at.ensures)
    (can-cull-next g.a (state c.args.copier.now) r c.args.weak.now.listed c.len-i-end.ensures.once c.loop-i.i (omega arith) c.args.copier.now.notes.now c.loop-i.copier.notes.now c.requires
    c.loop-i.invariant.left c.loop-i.invariant.noted c.loop-i.invariant.room)

pub loop-i-preserved : goal.loop-i-preserved
loop-i-preserved g c =
    let s = state c.args.copier.now in
    let r = state c.loop-i.copier in
    let t = state c.cull_at.new.copier in
    let starts = c.args.weak.now.listed in
    let most = c.len-i-end.ensures.value in
    let inside : c.loop-i.i < length starts = omega arith in
    let one : IsRewritten g.a r t kinds.Table (slice_index starts c.loop-i.i) = subst (λ (start : ℕ). IsRewritten g.a r t kinds.Table start) c.at.ensures c.cull_at.ensures.left in
    let noted : (name : ℕ) → IsWeakAt g.a r name (slice_index starts c.loop-i.i) →
    c.cull_at.new.copier.notes.now.culls.items ≡ c.loop-i.copier.notes.now.culls.items ++ culled_of g.a (is_settled g.a r) (name ∷ []) =
    subst (λ (start : ℕ). (name : ℕ) → IsWeakAt g.a r name start →
    c.cull_at.new.copier.notes.now.culls.items ≡ c.loop-i.copier.notes.now.culls.items ++ culled_of g.a (is_settled g.a r) (name ∷ [])) c.at.ensures c.cull_at.ensures.noted in
    record {
      left = rewritten-on g.a s c.requires.starts_are.places kinds.Table starts c.len-i-end.ensures.once c.loop-i.i inside r t c.loop-i.invariant.left one;
      noted = culls-next g.a s r starts c.len-i-end.ensures.once c.loop-i.i inside c.args.copier.now.notes.now c.loop-i.copier.notes.now c.requires
          c.loop-i.invariant.left c.loop-i.invariant.noted c.loop-i.invariant.room c.cull_at.new.copier.notes.now noted;
      room = c.cull_at.ensures.room ∙ c.loop-i.invariant.room;
      notes = culled-on c.args.copier.now.notes.now c.loop-i.copier.notes.now c.cull_at.new.copier.notes.now c.loop-i.invariant.notes c.cull_at.ensures.notes;
      parts = parts-on c.args.copier.now c.loop-i.copier c.cull_at.new.copier c.loop-i.invariant.parts c.cull_at.ensures.parts;
    }

pub returns-clause-left : goal.returns-clause-left
returns-clause-left g c =
    let end : c.loop-i.i ≡ length c.args.weak.now.listed = (let most = c.len-i-end.ensures.value in omega arith) in
    subst (λ (n : ℕ). AreRewritten g.a (state c.args.copier.now) (state c.loop-i.copier) kinds.Table c.args.weak.now.listed n) end c.loop-i.invariant.left

pub returns-clause-noted : goal.returns-clause-noted
returns-clause-noted g c = λ names named.
    (let most = c.len-i-end.ensures.value in
    let long = named.long in
    let all : take c.loop-i.i names ≡ names = take_all c.loop-i.i names (omega arith) in
    c.loop-i.invariant.noted names named
    ∙ ap (λ (more : List ℕ). c.args.copier.now.notes.now.culls.items ++ culled_of g.a (is_settled g.a (state c.args.copier.now)) more) all)
