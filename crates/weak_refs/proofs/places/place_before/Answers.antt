-- What stands on no page that was taken has not moved; else the move that ends there tells where it was.
use Rattle.std.proofs.Common.{◌≡◌, ℕ, ◌/◌, List, length, get_or, false, refl, sym, ◌∙◌, ap, subst, arith}
use Rattle.std.proofs.lemmas.List.{get_or_default}
use Rattle.heap_terms.specs.Heap.{entry_at}
use Rattle.heap_terms.specs.declared.pages.Entry.{Entry}
use Rattle.heap_terms.specs.Placement.{scratch}
use Rattle.copy_space.specs.declared.notes.Move.{Move}
use Rattle.copy_space.specs.Pages.{is_page_of}
use Rattle.copy_space.specs.State.{state}
use Rattle.copy_space.proofs.Places.{page-count}
use Rattle.weak_refs.specs.Places.{no_move, IsMoveTo, NoMoveTo}
use Rattle.weak_refs.proofs.Starts.{moved-from, unmoved-there, unmoved-off}
use Rattle.weak_refs.proofs.places.place_before.Goals as goal

pub is_taken-requires : goal.is_taken-requires
is_taken-requires g c =
    let count = page-count g.a (state c.args.copier.now) c.requires.places in
    let long = c.requires.places.long in
    let inside = c.requires.inside in
    rw c.pages.ensures (omega arith)

pub returns-then-not-is_taken : goal.returns-then-not-is_taken
returns-then-not-is_taken g c = λ name o there here.
    (let s = state c.args.copier.now in
    let off : is_page_of (entry_at s.pages (c.args.start / 512)) scratch ≡ false =
    subst (λ (pages : List Entry). is_page_of (entry_at pages (c.args.start / 512)) scratch ≡ false) (ap (λ p. p) c.pages.ensures) (sym c.is_taken.ensures ∙ c.if-not-is_taken.true) in
    sym here ∙ unmoved-off g.a s c.requires.places name o there (ap (λ (i : ℕ). is_page_of (entry_at s.pages (i / 512)) scratch) here ∙ off))

pub returns-in-Some : goal.returns-in-Some
returns-in-Some g c = λ name o there here.
    (let s = state c.args.copier.now in
    let d = c.index.result.now in
    let items : c.deref.result.now ≡ s.moves = c.deref.ensures.value ∙ ap (λ n. n.moves.items) c.notes.ensures in
    let found : IsMoveTo s.moves c.args.start c.in-Some.k = subst (λ (xs : List Move). IsMoveTo xs c.args.start c.in-Some.k) items c.in-Some.ensures.found in
    let below = found.below in
    let ends : (get_or s.moves c.in-Some.k d).new ≡ c.args.start = ap (λ (m : Move). m.new) (get_or_default s.moves c.in-Some.k d no_move below) ∙ found.ends in
    let result_is : c.index.result.now ≡ get_or s.moves c.in-Some.k d = c.index.ensures ∙ ap (λ n. get_or n.moves.items c.in-Some.k d) c.notes-in-Some.ensures in
    ap (λ (m : Move). m.old) result_is ∙ moved-from g.a s c.requires.places c.in-Some.k d c.args.start name o below ends there here)

pub returns-in-None : goal.returns-in-None
returns-in-None g c = λ name o there here.
    (let s = state c.args.copier.now in
    let items : c.deref.result.now ≡ s.moves = c.deref.ensures.value ∙ ap (λ n. n.moves.items) c.notes.ensures in
    let none : NoMoveTo s.moves c.args.start 0 (length s.moves) = subst (λ (xs : List Move). NoMoveTo xs c.args.start 0 (length xs)) items (c.in-None.ensures.none refl) in
    unmoved-there s.moves no_move c.args.start o.place (λ k l. none k (omega arith) l) here)
