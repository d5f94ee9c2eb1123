use Rattle.std.proofs.Common.{◌≡◌, ℕ, ◌+◌, ◌-◌, ◌*◌, ◌/◌, ◌<◌, ◌≤◌, List, [], ◌∷◌, ◌++◌, length, Some, sym, ◌∙◌, ap, subst, arith, append_assoc}
use Rattle.std.proofs.lemmas.List.{get_or_default}
use Rattle.heap_terms.specs.declared.answers.Item.{Item}
use Rattle.heap_terms.specs.declared.pages.Entry.{Entry}
use Rattle.std.specs.Prelude.{slice_index}
use Rattle.heap_terms.specs.Heap.{entry_at}
use Rattle.heap_terms.specs.LaidOut.{AreObjectsOn}
use Rattle.heap_terms.specs.PageViews.{items_of}
use Rattle.object_walk.specs.declared.found.Found.{Found}
use Rattle.page_views.specs.Labelled.{IsByItself}
use Rattle.page_views.specs.Seen.{IsSeen, gap_between}
use Rattle.page_views.proofs.Viewing.{laid, label, most, stretch, seen_start}
use Rattle.page_views.proofs.Walking.{seen_next, seen_end}
use Rattle.page_views.proofs.view.items_on.Goals as goal

pub new-walk-requires-clause-laid : goal.new-walk-requires-clause-laid
new-walk-requires-clause-laid g c = laid g.a c.args.space.now c.args.pages.now c.args.labels.now c.requires.0 c.args.page

pub loop-next-init : goal.loop-next-init
loop-next-init g c =
    let h = c.requires.0 in
    let by_itself = subst (λ (ps : List Entry). IsByItself (entry_at ps c.args.page) c.args.fill) h.pages_are c.requires.1.1 in
    subst (λ (xs : List Item). IsSeen g.a (512 * c.args.page) (512 * c.args.page + c.args.fill) (512 * c.args.page) c.new-walk.result xs) (sym c.new-items.ensures)
    (seen_start g.a c.args.space.now c.args.page c.args.fill h.sound by_itself h.stand c.new-walk.result
    (λ starts on. c.new-walk.ensures starts (subst (λ (ps : List Entry). AreObjectsOn c.args.space.now ps c.args.page starts) (sym h.pages_are) on)))

pub push_gap-requires : goal.push_gap-requires
push_gap-requires g c =
    let h = c.requires.0 in
    let by_itself = subst (λ (ps : List Entry). IsByItself (entry_at ps c.args.page) c.args.fill) h.pages_are c.requires.1.1 in
    let seen = subst (λ (left : List Found). IsSeen g.a (512 * c.args.page) (512 * c.args.page + c.args.fill) c.loop-next.next left c.loop-next.items) c.in-Some.ensures.steps c.loop-next.invariant in
    let step = seen_next g.a (512 * c.args.page) (512 * c.args.page + c.args.fill) c.loop-next.next c.in-Some.found c.next.new.self c.loop-next.items
    (stretch g.a c.args.space.now c.args.page c.args.fill h.sound by_itself) seen in
    step.from_on

pub at-requires : goal.at-requires
at-requires g c =
    let h = c.requires.0 in
    let by_itself = subst (λ (ps : List Entry). IsByItself (entry_at ps c.args.page) c.args.fill) h.pages_are c.requires.1.1 in
    let seen = subst (λ (left : List Found). IsSeen g.a (512 * c.args.page) (512 * c.args.page + c.args.fill) c.loop-next.next left c.loop-next.items) c.in-Some.ensures.steps c.loop-next.invariant in
    let step = seen_next g.a (512 * c.args.page) (512 * c.args.page + c.args.fill) c.loop-next.next c.in-Some.found c.next.new.self c.loop-next.items
    (stretch g.a c.args.space.now c.args.page c.args.fill h.sound by_itself) seen in
    let fill_most = most g.a c.args.space.now c.args.page c.args.fill h.sound by_itself in
    let pages_long = ap (λ (ps : List Entry). length ps) h.pages_are in
    omega (arith, step.below, h.labels_long, c.requires.1.0)

pub overflow_add-next : goal.overflow_add-next
overflow_add-next g c =
    let h = c.requires.0 in
    let by_itself = subst (λ (ps : List Entry). IsByItself (entry_at ps c.args.page) c.args.fill) h.pages_are c.requires.1.1 in
    let seen = subst (λ (left : List Found). IsSeen g.a (512 * c.args.page) (512 * c.args.page + c.args.fill) c.loop-next.next left c.loop-next.items) c.in-Some.ensures.steps c.loop-next.invariant in
    let step = seen_next g.a (512 * c.args.page) (512 * c.args.page + c.args.fill) c.loop-next.next c.in-Some.found c.next.new.self c.loop-next.items
    (stretch g.a c.args.space.now c.args.page c.args.fill h.sound by_itself) seen in
    let fill_most = most g.a c.args.space.now c.args.page c.args.fill h.sound by_itself in
    let pages_most = c.len.ensures.most in
    let pages_are = c.len.ensures.value in
    omega (arith, step.ends, c.requires.1.0)

pub loop-next-preserved : goal.loop-next-preserved
loop-next-preserved g c =
    let h = c.requires.0 in
    let start = 512 * c.args.page in
    let end = 512 * c.args.page + c.args.fill in
    let f = c.in-Some.found in
    let by_itself = subst (λ (ps : List Entry). IsByItself (entry_at ps c.args.page) c.args.fill) h.pages_are c.requires.1.1 in
    let seen = subst (λ (left : List Found). IsSeen g.a start end c.loop-next.next left c.loop-next.items) c.in-Some.ensures.steps c.loop-next.invariant in
    let step = seen_next g.a start end c.loop-next.next f c.next.new.self c.loop-next.items
    (stretch g.a c.args.space.now c.args.page c.args.fill h.sound by_itself) seen in
    let fill_most = most g.a c.args.space.now c.args.page c.args.fill h.sound by_itself in
    let pages_long = ap (λ (ps : List Entry). length ps) h.pages_are in
    let inside : f.index / 2 < length c.args.labels.now = omega (arith, step.below, h.labels_long, c.requires.1.0) in
    let named : c.at.result ≡ step.name =
    c.at.ensures ∙ get_or_default c.args.labels.now (f.index / 2) c.at.result 0 inside ∙ ap (λ (i : ℕ). slice_index c.args.labels.now (i / 2)) step.here
    ∙ label g.a c.args.space.now c.args.pages.now c.args.labels.now h step.name step.o step.there in
    let items_are : c.push.new.items ≡ c.loop-next.items ++ gap_between c.loop-next.next f.index ++ record { name = Some step.name; index = f.index; count = 0 } ∷ [] =
    c.in_ok-push.ensures
    ∙ ap (λ (xs : List Item). xs ++ record { name = Some c.at.result; index = f.index; count = 0 } ∷ []) c.in_ok-push_gap.ensures
    ∙ ap (λ (n : ℕ). (c.loop-next.items ++ gap_between c.loop-next.next f.index) ++ record { name = Some n; index = f.index; count = 0 } ∷ []) named in
    subst (λ (xs : List Item). IsSeen g.a start end (f.index + f.size) c.next.new.self xs) (sym items_are) step.after

pub returns : goal.returns
returns g c =
    let h = c.requires.0 in
    let start = 512 * c.args.page in
    let end = 512 * c.args.page + c.args.fill in
    let by_itself = subst (λ (ps : List Entry). IsByItself (entry_at ps c.args.page) c.args.fill) h.pages_are c.requires.1.1 in
    let seen = subst (λ (left : List Found). IsSeen g.a start end c.loop-next.next left c.loop-next.items) c.in_default.ensures.steps.0 c.loop-next.invariant in
    let whole : end - start ≡ c.args.fill = omega arith in
    c.in_ok-push_gap-2.ensures ∙ seen_end g.a start end c.loop-next.next c.loop-next.items (stretch g.a c.args.space.now c.args.page c.args.fill h.sound by_itself) seen
    ∙ ap (items_of g.a start) whole
