use Rattle.std.proofs.Common.{◌<◌, length, subst, sym, ap, ◌∙◌}
use Rattle.heap_terms.specs.Heap.{NamedHeap}
use Rattle.page_views.specs.Labelled.{CanView}
use Rattle.lisp_heap.specs.View.{View, heap_of}
use Rattle.lisp_heap.proofs.PageViewing.{can_view}
use Rattle.lisp_heap.proofs.world.World.page.Goals as goal

pub view_page-requires : goal.view_page-requires
view_page-requires g c =
    let s = c.self.inside in (
      subst (λ (a : NamedHeap). CanView a s.space s.pages s.labels) (ap heap_of c.self.view_is ∙ sym c.requires.0) (can_view s c.self.invariant),
      subst (λ (w : View). c.args.p < length w.parts.pages) (sym c.self.view_is) c.requires.1,
    )
