-- Wiping goes on by the object at the index, or by two fillers.
use Rattle.std.proofs.Common.{◌≡◌, ℕ, ◌+◌, List, length, set, sym, ◌∙◌, ap, subst, arith}
use Rattle.std.proofs.lemmas.List.{length-set}
use Rattle.copy_space.specs.declared.marks.Mark.{Mark}
use Rattle.copy_space.specs.Marks.{mark_at}
use Rattle.page_sweep.specs.Wiping.{Tracing, lies_there}
use Rattle.page_sweep.proofs.Wiped.{IsWipedUpTo, room, begun, IsPassed, passed, wiped, in_space, ended}
use Rattle.page_sweep.proofs.wiping.wipe.Given as given
use Rattle.page_sweep.proofs.wiping.wipe.Goals as goal

-- the mark at the index is that of the state
told : (g : Tracing) (marks : List Mark) (index : ℕ) (mark : Mark) → marks ≡ g.state.marks → mark ≡ mark_at marks index → lies_there (mark_at g.state.marks index) ≡ lies_there mark
told g marks index mark is at = ap (λ (ms : List Mark). lies_there (mark_at ms index)) (sym is) ∙ ap lies_there (sym at)

pub overflow_mul-start : goal.overflow_mul-start
overflow_mul-start g c = (let r = room g.at c.args.space.now c.args.page c.args.fill c.args.ty c.requires.1 in let inside = r.inside in let small = r.small in omega arith)

pub overflow_add-end : goal.overflow_add-end
overflow_add-end g c = (let r = room g.at c.args.space.now c.args.page c.args.fill c.args.ty c.requires.1 in let inside = r.inside in let small = r.small in omega arith)

pub loop-index-init : goal.loop-index-init
loop-index-init g c = begun g.at c.args.space.now c.args.page c.args.fill c.args.ty c.requires.1

pub at-requires : goal.at-requires
at-requires g c =
    let r = room g.at c.args.space.now c.args.page c.args.fill c.args.ty c.requires.1 in
    let inside = r.inside in
    let marks = r.marks in
    let long = ap length c.requires.0 in
    let below = c.loop-index-test.true in
    omega arith

pub size_at-index-requires-clause-inside : goal.size_at-index-requires-clause-inside
size_at-index-requires-clause-inside g c =
    let r = room g.at c.args.space.now c.args.page c.args.fill c.args.ty c.requires.1 in
    let inside = r.inside in
    let long = c.loop-index.invariant.keeps.long in
    let long' = c.requires.1.keeps.long in
    let below = c.loop-index-test.true in
    omega arith

pub size_at-index-requires-clause-sized : goal.size_at-index-requires-clause-sized
size_at-index-requires-clause-sized g c =
    let lies = told g.at c.args.marks.now c.loop-index.index c.at.result c.requires.0 c.at.ensures ∙ sym c.keeps_place.ensures ∙ c.if-keeps_place.true in
    let p = passed g.at c.args.space.now c.args.page c.args.fill c.args.ty c.requires.1 c.loop-index.space c.loop-index.index c.loop-index.invariant c.loop-index-test.true lies in
    (p.0, p.1.sized)

-- the size that was read is that of the object
its_size : (g : given.Over) (c : goal.After-size_at-index g) → IsPassed g.at c.args.space.now c.args.page c.args.fill c.args.ty c.requires.1 c.loop-index.space c.loop-index.index c.size_at-index.result
its_size g c =
    let lies = told g.at c.args.marks.now c.loop-index.index c.at.result c.requires.0 c.at.ensures ∙ sym c.keeps_place.ensures ∙ c.if-keeps_place.true in
    let p = passed g.at c.args.space.now c.args.page c.args.fill c.args.ty c.requires.1 c.loop-index.space c.loop-index.index c.loop-index.invariant c.loop-index-test.true lies in
    subst (λ (n : ℕ). IsPassed g.at c.args.space.now c.args.page c.args.fill c.args.ty c.requires.1 c.loop-index.space c.loop-index.index n) (sym (c.size_at-index.ensures p.0 p.1.sized)) p.1

pub overflow_add-index : goal.overflow_add-index
overflow_add-index g c = (let p = its_size g c in let fits = p.fits in
    let r = room g.at c.args.space.now c.args.page c.args.fill c.args.ty c.requires.1 in let inside = r.inside in let small = r.small in omega arith)

pub loop-index-smaller-then-keeps_place : goal.loop-index-smaller-then-keeps_place
loop-index-smaller-then-keeps_place g c = (let p = its_size g c in let least = p.least in let below = c.loop-index-test.true in omega arith)

pub loop-index-preserved-then-keeps_place : goal.loop-index-preserved-then-keeps_place
loop-index-preserved-then-keeps_place g c = (its_size g c).next

pub write-requires : goal.write-requires
write-requires g c =
    let gone = told g.at c.args.marks.now c.loop-index.index c.at.result c.requires.0 c.at.ensures ∙ sym c.keeps_place.ensures ∙ c.if-keeps_place.false in
    let in_it = in_space g.at c.args.space.now c.args.page c.args.fill c.args.ty c.requires.1 c.loop-index.space c.loop-index.index c.loop-index.invariant c.loop-index-test.true gone in
    omega arith

pub write-requires-else-keeps_place : goal.write-requires-else-keeps_place
write-requires-else-keeps_place g c =
    let gone = told g.at c.args.marks.now c.loop-index.index c.at.result c.requires.0 c.at.ensures ∙ sym c.keeps_place.ensures ∙ c.if-keeps_place.false in
    let in_it = in_space g.at c.args.space.now c.args.page c.args.fill c.args.ty c.requires.1 c.loop-index.space c.loop-index.index c.loop-index.invariant c.loop-index-test.true gone in
    let long = length-set c.loop-index.space c.loop-index.index 65 in
    let long' = ap length c.write.ensures in
    omega arith

pub overflow_add-index-else-keeps_place-2 : goal.overflow_add-index-else-keeps_place-2
overflow_add-index-else-keeps_place-2 g c =
    let r = room g.at c.args.space.now c.args.page c.args.fill c.args.ty c.requires.1 in
    let inside = r.inside in
    let small = r.small in
    let below = c.loop-index-test.true in
    omega arith

pub loop-index-preserved : goal.loop-index-preserved
loop-index-preserved g c =
    let gone = told g.at c.args.marks.now c.loop-index.index c.at.result c.requires.0 c.at.ensures ∙ sym c.keeps_place.ensures ∙ c.if-keeps_place.false in
    let next = wiped g.at c.args.space.now c.args.page c.args.fill c.args.ty c.requires.1 c.loop-index.space c.loop-index.index c.loop-index.invariant c.loop-index-test.true gone in
    let words : c.write-else-keeps_place.new.self ≡ set (set c.loop-index.space c.loop-index.index 65) (c.loop-index.index + 1) 65 =
    c.write-else-keeps_place.ensures ∙ ap (λ (ws : List ℕ). set ws (c.loop-index.index + 1) 65) c.write.ensures in
    subst (λ (ws : List ℕ). IsWipedUpTo g.at c.args.space.now ws c.args.page (c.loop-index.index + 2)) (sym words) next

pub returns : goal.returns
returns g c = ended g.at c.args.space.now c.args.page c.args.fill c.args.ty c.requires.1 c.loop-index.space c.loop-index.index c.loop-index.invariant c.loop-index-test.false
