-- The cells of a thread are cleared kind by kind.
use Rattle.std.proofs.Common.{◌≡◌, ℕ, List, refl, ap, ◌∙◌, subst}
use Rattle.std.proofs.lemmas.List.{with_items_is}
use Rattle.std.specs.Vec.{with_items}
use Rattle.lisp_heap.specs.CellsView.{CellsView, cleared, with_cleared}
use Rattle.lisp_heap.proofs.cells.CellWords.clear.Goals as goal

made : (stack exact raws shared : List ℕ) (v : CellsView) (t : ℕ) → stack ≡ cleared 16 v.stack t → exact ≡ cleared 16 v.exact t → raws ≡ cleared 8 v.raws t →
    shared ≡ v.shared → record { stack = stack; exact = exact; raws = raws; shared = shared } ≡ with_cleared v t
made stack exact raws shared v t one two three four = rw (one, two, three, four) refl

pub returns : goal.returns
returns c =
    let s = c.self.inside in
    let before : CellsView = record { stack = s.stack.items; exact = s.exact.items; raws = s.raws.items; shared = s.shared.items } in
    subst (λ (v : CellsView). record {
      stack = (with_items s.stack c.clear.new.words).items;
      exact = (with_items s.exact c.clear-2.new.words).items;
      raws = (with_items s.raws c.clear-3.new.words).items;
      shared = s.shared.items;
    } ≡ with_cleared v c.args.t) c.self.view_is
    (made (with_items s.stack c.clear.new.words).items (with_items s.exact c.clear-2.new.words).items (with_items s.raws c.clear-3.new.words).items s.shared.items before c.args.t
    (with_items_is s.stack c.clear.new.words (c.clear.ensures.len ∙ c.as_mut_slice.ensures.len) ∙ c.clear.ensures.words c.args.t refl ∙ ap (λ (xs : List ℕ). cleared 16 xs c.args.t) c.as_mut_slice.ensures.value)
    (with_items_is s.exact c.clear-2.new.words (c.clear-2.ensures.len ∙ c.as_mut_slice-2.ensures.len) ∙ c.clear-2.ensures.words c.args.t refl ∙ ap (λ (xs : List ℕ). cleared 16 xs c.args.t) c.as_mut_slice-2.ensures.value)
    (with_items_is s.raws c.clear-3.new.words (c.clear-3.ensures.len ∙ c.as_mut_slice-3.ensures.len) ∙ c.clear-3.ensures.words c.args.t refl ∙ ap (λ (xs : List ℕ). cleared 8 xs c.args.t) c.as_mut_slice-3.ensures.value) refl)
