-- One page after another is swept.
use Rattle.std.proofs.Common.{◌≡◌, ℕ, ◌+◌, ◌-◌, ◌<◌, ◌≤◌, List, [], ◌∷◌, ◌++◌, length, Bool, true, false, cond, Vec, Global, vec_capacity, sym, ◌∙◌, ap, subst, arith}
use Rattle.std.proofs.lemmas.List.{append-nil}
use Rattle.heap_terms.specs.Heap.{entry_at}
use Rattle.heap_terms.specs.Regions.{is_free}
use Rattle.page_sweep.proofs.Progress.{IsSweptUpTo, one-more, listed-most, swept-beyond, all-swept}
use Rattle.page_sweep.proofs.sweeping.sweep_pages.Goals as goal
use Rattle.page_sweep.proofs.sweeping.sweep_pages.Goals.{then-sweep_page, else-sweep_page}

pub push_reserved-requires : goal.push_reserved-requires
push_reserved-requires g c =
    let most = listed-most g.at c.args.traced.now c.args.space.now c.args.pages.now c.requires.0 c.loop-page.space c.loop-page.pages c.loop-page.freed.items c.loop-page.page c.loop-page.invariant.swept in
    let room = c.requires.1.1.1 in
    let capacity = c.loop-page.invariant.capacity in
    omega arith

-- a page more is listed where it became free
listed : (b is : Bool) (list : List ℕ) (page : ℕ) → is ≡ b → is ≡ true → list ++ page ∷ [] ≡ list ++ cond b (page ∷ []) []
listed b is list page freed yes_it = ap (λ (x : Bool). list ++ cond x (page ∷ []) []) (sym yes_it ∙ freed)

not_listed : (b is : Bool) (list : List ℕ) (page : ℕ) → is ≡ b → is ≡ false → list ≡ list ++ cond b (page ∷ []) []
not_listed b is list page freed not_it = sym (append-nil list) ∙ ap (λ (x : Bool). list ++ cond x (page ∷ []) []) (sym not_it ∙ freed)

pub loop-page-preserved : goal.loop-page-preserved
loop-page-preserved g c =
    let e = c.sweep_page.ensures in
    let below : c.loop-page.page < length c.args.pages.now = omega arith in
    let next = one-more g.at c.args.traced.now c.args.space.now c.args.pages.now c.requires.0 c.loop-page.space c.loop-page.pages c.loop-page.freed.items c.loop-page.page c.loop-page.invariant.swept below
    c.sweep_page.new.space c.sweep_page.new.pages e.words e.entry in
    elim c.if-sweep_page.branch [
      | then-sweep_page w ↦ record {
        swept = next c.if-sweep_page.freed.items (ap (λ (v : Vec ℕ Global). v.items) w.freed-is ∙ w.push_reserved.ensures.items ∙ listed _ c.sweep_page.result c.loop-page.freed.items c.loop-page.page e.freed w.if-sweep_page.true);
        capacity = ap vec_capacity w.freed-is ∙ w.push_reserved.ensures.capacity ∙ c.loop-page.invariant.capacity;
      }
      | else-sweep_page w ↦ record {
        swept = next c.if-sweep_page.freed.items (ap (λ (v : Vec ℕ Global). v.items) w.freed-is ∙ not_listed _ c.sweep_page.result c.loop-page.freed.items c.loop-page.page e.freed w.if-sweep_page.false);
        capacity = ap vec_capacity w.freed-is ∙ c.loop-page.invariant.capacity;
      }
    ]

pub returns-clause-swept : goal.returns-clause-swept
returns-clause-swept g c =
    let free : (p : ℕ) → c.used_end-page-end.result ≤ p → is_free (entry_at g.at.state.pages p) ≡ true = rw c.requires.0.pages_are at c.used_end-page-end.ensures.free in
    let inside : c.used_end-page-end.result ≤ length c.args.pages.now = c.used_end-page-end.ensures.inside in
    let at : c.loop-page.page ≡ c.used_end-page-end.result = omega arith in
    let k = length c.args.pages.now - c.used_end-page-end.result in
    let upto = swept-beyond g.at c.args.traced.now c.args.space.now c.args.pages.now c.requires.0 c.loop-page.space c.loop-page.pages c.loop-page.freed.items c.used_end-page-end.result free
    (subst (IsSweptUpTo g.at c.args.traced.now.target c.loop-page.space c.loop-page.pages c.loop-page.freed.items) at c.loop-page.invariant.swept) k in
    all-swept g.at c.args.traced.now c.args.space.now c.args.pages.now c.requires.0 c.loop-page.space c.loop-page.pages c.loop-page.freed.items (c.used_end-page-end.result + k) upto
    (omega arith)
