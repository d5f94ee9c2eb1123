use Rattle.std.proofs.Common.{◌≡◌, ◌*◌, map, sym, ◌∙◌, ap}
use Rattle.heap_terms.specs.declared.pages.Entry.{Entry}
use Rattle.heap_terms.specs.LaidOut.{laid_words}
use Rattle.object_walk.specs.Walks.{found_at}
use Rattle.object_walk.proofs.Pieces.{left_told}
use Rattle.object_walk.proofs.walk.PageWalk.new.Goals as goal

pub returns : goal.returns
returns c starts h =
    let used : c.laid_words-used.result ≡ laid_words c.args.page _ = c.laid_words-used.ensures ∙ ap (λ (e : Entry). laid_words c.args.page e) c.entry.ensures in
    rw used (left_told c.args.space.now (512 * c.args.page) _ h.pieces h.on_page.laid ∙ ap (map found_at) (sym h.starts_are))
