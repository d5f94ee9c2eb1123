-- A small object goes on an open page.
use Rattle.std.proofs.Common.{◌≡◌, ℕ, Option, subst, ap, ◌∙◌}
use Rattle.heap_terms.specs.declared.kinds.PageType.{PageType}
use Rattle.heap_terms.specs.Layout.{size_of}
use Rattle.heap_terms.specs.Regions.{has_room, page_has_room}
use Rattle.lisp_heap.specs.State.{state_page}
use Rattle.lisp_heap.specs.View.{heap_of}
use Rattle.lisp_heap.proofs.Nexts.{room_small}
use Rattle.lisp_heap.proofs.world.World.has_room.Goals as goal

pub returns-then-size-le-PAGE_WORDS : goal.returns-then-size-le-PAGE_WORDS
returns-then-size-le-PAGE_WORDS c = λ t known. (
    let a = heap_of c.args.self.now in
    let size_is : c.size_of-size.result ≡ size_of c.args.kind c.args.n = c.size_of-size.ensures in
    subst (λ (n : ℕ). c.page_has_room.result ≡ has_room a t c.args.kind n) size_is
    (room_small a t c.args.state c.args.kind c.size_of-size.result c.page_has_room.result c.if-size-le-PAGE_WORDS.true known
    (c.page_has_room.ensures ∙ ap (λ (o : Option ℕ). page_has_room a.pages o c.size_of-size.result) c.open_page.ensures
    ∙ ap (λ (ty : PageType). page_has_room a.pages (state_page c.args.state ty) c.size_of-size.result) c.page_type.ensures)))
