-- Page by page of the generation.
use Rattle.std.proofs.Common.{◌≡◌, ℕ, ◌+◌, ◌-◌, ◌*◌, ◌<◌, ◌≤◌, ◌++◌, List, length, map, true, false, refl, sym, ◌∙◌, ap, subst, arith}
use Rattle.heap_terms.specs.declared.limits.TheConstants.{MOST_PAGES}
use Rattle.pin_set.specs.Starts.{Starts}
use Rattle.object_walk.specs.Walks.{found_at}
use Rattle.ambiguous_roots.specs.Pinning.{referred, AreHitBefore, how_many_before}
use Rattle.heap_terms.specs.Heap.{entry_at}
use Rattle.heap_terms.specs.Regions.{is_free}
use Rattle.ambiguous_roots.proofs.Beyond.{hit-beyond, count-beyond}
use Rattle.ambiguous_roots.proofs.HowMany.{how_many-walked, how_many-passed}
use Rattle.ambiguous_roots.proofs.PageStep.{hit-none, hit-passed, hit-walked, few-starts, can-pin, laid-of, on-page, met-of, walked-is, none-before}
use Rattle.ambiguous_roots.proofs.pins.pin_pages.Goals as goal
use Rattle.ambiguous_roots.proofs.pins.pin_pages.Goals.{then-is_walked, else-is_walked}

pub loop-page-init : goal.loop-page-init
loop-page-init g c = record {
  pins = hit-none g.a c.args.generation c.args.ambiguous.now c.args.pins.now.listed c.requires.empty;
  most = refl;
  count = sym (none-before g.a c.args.generation);
  bound = omega arith;
}

pub pin_page-count-requires-clause-laid : goal.pin_page-count-requires-clause-laid
pin_page-count-requires-clause-laid g c = laid-of g.a c.args.space.now c.args.pages.now c.loop-page.page c.requires.sound c.requires.stand c.requires.pages_are

pub pin_page-count-requires-clause-can : goal.pin_page-count-requires-clause-can
pin_page-count-requires-clause-can g c starts on =
    let met = met-of g.a c.args.space.now c.args.pages.now c.loop-page.page starts c.requires.sound c.requires.stand c.requires.pages_are on in
    let walked = walked-is g.a c.args.pages.now c.loop-page.page c.args.generation c.entry.result c.is_walked.result true c.requires.pages_are c.entry.ensures c.is_walked.ensures c.if-is_walked.true in
    let same : length c.args.pages.now ≡ length g.a.pages = ap length c.requires.pages_are in
    let most : length g.a.pages ≤ MOST_PAGES = omega (arith, c.len.ensures.value, c.len.ensures.most) in
    let inside : c.loop-page.page < length g.a.pages = omega (arith, c.loop-page-test.true, c.used_end-page-end.ensures.inside) in
    let room : length c.args.ambiguous.now ≤ c.loop-page.pins.most = omega (arith, c.requires.room, c.loop-page.invariant.most) in
    can-pin g.a c.requires.sound c.args.generation c.loop-page.page c.args.ambiguous.now c.loop-page.pins.listed c.loop-page.invariant.pins starts met walked
    c.args.hints.now c.loop-page.pins refl room (c.requires.hints_long ∙ c.requires.stand.long) most inside c.requires.hinted

pub overflow_add-count : goal.overflow_add-count
overflow_add-count g c =
    let on = on-page g.a c.args.space.now c.args.pages.now c.loop-page.page c.requires.sound c.requires.stand c.requires.pages_are in
    let met = met-of g.a c.args.space.now c.args.pages.now c.loop-page.page on.starts c.requires.sound c.requires.stand c.requires.pages_are on.on in
    let walked = walked-is g.a c.args.pages.now c.loop-page.page c.args.generation c.entry.result c.is_walked.result true c.requires.pages_are c.entry.ensures c.is_walked.ensures c.if-is_walked.true in
    let few : length on.starts ≤ 512 = few-starts g.a c.requires.sound c.args.generation c.loop-page.page c.args.ambiguous.now c.loop-page.pins.listed c.loop-page.invariant.pins on.starts met walked in
    let count : c.pin_page-count.result ≡ length on.starts = c.pin_page-count.ensures.count on.starts on.on in
    let bound : c.loop-page.count ≤ 512 * c.loop-page.page = c.loop-page.invariant.bound in
    omega (arith, few, count, bound, c.loop-page-test.true, c.used_end-page-end.ensures.inside, c.len.ensures.value, c.len.ensures.most)

pub loop-page-preserved : goal.loop-page-preserved
loop-page-preserved g c = elim c.if-is_walked.branch [
  | then-is_walked w ↦ (
      let on = on-page g.a c.args.space.now c.args.pages.now c.loop-page.page c.requires.sound c.requires.stand c.requires.pages_are in
      let met = met-of g.a c.args.space.now c.args.pages.now c.loop-page.page on.starts c.requires.sound c.requires.stand c.requires.pages_are on.on in
      let walked = walked-is g.a c.args.pages.now c.loop-page.page c.args.generation c.entry.result c.is_walked.result true c.requires.pages_are c.entry.ensures c.is_walked.ensures w.if-is_walked.true in
      let listed : c.if-is_walked.pins.listed ≡ c.loop-page.pins.listed ++ referred c.args.ambiguous.now (map found_at on.starts) =
      ap (λ (pins : Starts). pins.listed) w.pins-is ∙ w.pin_page-count.ensures.pins on.starts on.on in
      let step = hit-walked g.a c.requires.sound c.args.generation c.loop-page.page c.args.ambiguous.now c.loop-page.pins.listed c.loop-page.invariant.pins on.starts met walked in
      let few : length on.starts ≤ 512 = few-starts g.a c.requires.sound c.args.generation c.loop-page.page c.args.ambiguous.now c.loop-page.pins.listed c.loop-page.invariant.pins on.starts met walked in
      let more = how_many-walked g.a c.requires.sound c.args.generation c.loop-page.page on.starts met walked in
      let count : c.if-is_walked.count ≡ c.loop-page.count + length on.starts = w.count-is ∙ ap (λ (n : ℕ). c.loop-page.count + n) (w.pin_page-count.ensures.count on.starts on.on) in
      let before : c.loop-page.count ≡ how_many_before g.a c.args.generation (512 * c.loop-page.page) = c.loop-page.invariant.count in
      let bound : c.loop-page.count ≤ 512 * c.loop-page.page = c.loop-page.invariant.bound in
      record {
        pins = subst (λ (xs : List ℕ). AreHitBefore g.a c.args.generation c.args.ambiguous.now (512 * (c.loop-page.page + 1)) xs) (sym listed) step;
        most = ap (λ (pins : Starts). pins.most) w.pins-is ∙ w.pin_page-count.ensures.most ∙ c.loop-page.invariant.most;
        count = count ∙ ap (λ (n : ℕ). n + length on.starts) before ∙ sym more;
        bound = omega (arith, count, few, bound);
      })
  | else-is_walked w ↦ (
      let passed = walked-is g.a c.args.pages.now c.loop-page.page c.args.generation c.entry.result c.is_walked.result false c.requires.pages_are c.entry.ensures c.is_walked.ensures w.if-is_walked.false in
      let step = hit-passed g.a c.requires.sound c.args.generation c.loop-page.page c.args.ambiguous.now c.loop-page.pins.listed c.loop-page.invariant.pins passed in
      let same = how_many-passed g.a c.requires.sound c.args.generation c.loop-page.page passed in
      let count : c.if-is_walked.count ≡ c.loop-page.count = w.count-is in
      let bound : c.loop-page.count ≤ 512 * c.loop-page.page = c.loop-page.invariant.bound in
      record {
        pins = subst (λ (pins : Starts). AreHitBefore g.a c.args.generation c.args.ambiguous.now (512 * (c.loop-page.page + 1)) pins.listed) (sym w.pins-is) step;
        most = ap (λ (pins : Starts). pins.most) w.pins-is ∙ c.loop-page.invariant.most;
        count = count ∙ c.loop-page.invariant.count ∙ sym same;
        bound = omega (arith, count, bound);
      })
]

pub returns-clause-pins : goal.returns-clause-pins
returns-clause-pins g c =
    let free : (p : ℕ) → c.used_end-page-end.result ≤ p → is_free (entry_at g.a.pages p) ≡ true = rw c.requires.pages_are at c.used_end-page-end.ensures.free in
    let inside : c.used_end-page-end.result ≤ length c.args.pages.now = c.used_end-page-end.ensures.inside in
    let at : c.loop-page.page ≡ c.used_end-page-end.result = omega arith in
    let k = length c.args.pages.now - c.used_end-page-end.result in
    let whole : c.used_end-page-end.result + k ≡ length c.args.pages.now = omega arith in
    subst (λ (n : ℕ). AreHitBefore g.a c.args.generation c.args.ambiguous.now (512 * n) c.loop-page.pins.listed) whole
    (hit-beyond g.a c.requires.sound c.args.generation c.used_end-page-end.result free c.args.ambiguous.now c.loop-page.pins.listed
    (subst (λ (n : ℕ). AreHitBefore g.a c.args.generation c.args.ambiguous.now (512 * n) c.loop-page.pins.listed) at c.loop-page.invariant.pins) k)

pub returns-clause-count : goal.returns-clause-count
returns-clause-count g c =
    let free : (p : ℕ) → c.used_end-page-end.result ≤ p → is_free (entry_at g.a.pages p) ≡ true = rw c.requires.pages_are at c.used_end-page-end.ensures.free in
    let inside : c.used_end-page-end.result ≤ length c.args.pages.now = c.used_end-page-end.ensures.inside in
    let at : c.loop-page.page ≡ c.used_end-page-end.result = omega arith in
    let k = length c.args.pages.now - c.used_end-page-end.result in
    let whole : c.used_end-page-end.result + k ≡ length c.args.pages.now = omega arith in
    c.loop-page.invariant.count ∙ ap (λ (n : ℕ). how_many_before g.a c.args.generation (512 * n)) at
    ∙ sym (count-beyond g.a c.requires.sound c.args.generation c.used_end-page-end.result free k)
    ∙ ap (λ (n : ℕ). how_many_before g.a c.args.generation (512 * n)) whole
