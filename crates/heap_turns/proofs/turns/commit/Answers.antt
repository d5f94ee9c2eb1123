use Rattle.std.proofs.Common.{◌≡◌, ℕ, sym, ◌∙◌, subst, ap}
use Rattle.std.specs.Prelude.{◌==◌, not}
use Rattle.heap_terms.specs.declared.pages.Next.TheVariants as nexts
use Rattle.heap_terms.specs.Heap.{thread_at}
use Rattle.lisp_heap.specs.Events.{Happens}
use Rattle.lisp_heap.specs.ParcelView.{ParcelView}
use Rattle.lisp_heap.specs.View.{heap_of}
use Rattle.heap_turns.proofs.Sections.{inside_unless_open, built_owner}
use Rattle.heap_turns.proofs.turns.commit.Goals as goal

pub returns-clause-ok : goal.returns-clause-ok
returns-clause-ok c =
    let old = c.args.world.now in
    let new = c.commit.new.self in
    let built : c.build.new.self.owner ≡ c.args.parcel.now.owner = ap (λ (q : ParcelView). q.owner) c.build.ensures.parcel ∙ built_owner c.args.parcel.now c.args.kind c.args.n c.args.seed in
    let h : Happens c.args.parcel.now.owner old new = subst (λ (t : ℕ). Happens t old new) built c.in_ok-_name.ensures.ok in
    inside_unless_open c.args.parcel.now.owner old new c.inhibits.result h
    (λ opens. let never : nexts.Build c.args.kind c.args.n c.args.seed ≡ nexts.Open = sym c.requires.builds ∙ opens in cc)
    (c.inhibits.ensures ∙ ap (λ (t : ℕ). not ((thread_at (heap_of new) t).inhibits == 0)) (c.owner.ensures ∙ c.commit.ensures.owner ∙ built))
