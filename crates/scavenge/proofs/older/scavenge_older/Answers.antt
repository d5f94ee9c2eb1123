-- One page more of older roots is scanned.
use Rattle.std.proofs.Common.{◌≡◌, ℕ, ◌≤◌, List, length, true, ap, subst, arith}
use Rattle.heap_terms.specs.declared.pages.Entry.{Entry}
use Rattle.heap_terms.specs.Heap.{entry_at}
use Rattle.heap_terms.specs.Regions.{is_free}
use Rattle.copy_space.specs.State.{state}
use Rattle.copy_space.proofs.Places.{page-count}
use Rattle.scavenge.specs.Clear.{HasNoPage, IsReach}
use Rattle.scavenge.specs.Older.{root_words}
use Rattle.scavenge.proofs.ClearPages.{none-stays, reach-stays}
use Rattle.scavenge.proofs.Frames.{scans-on, same-on}
use Rattle.scavenge.proofs.NotedStarts.{notes-over}
use Rattle.scavenge.proofs.OlderPages.{page-can, page-on}
use Rattle.scavenge.proofs.UsedPages.{others-below}
use Rattle.scavenge.proofs.older.scavenge_older.Goals as goal

pub entry-requires : goal.entry-requires
entry-requires g c =
    let s = state c.args.copier.now in
    let t = state c.loop-page.copier in
    let end : c.used_end-page-end.result ≤ length s.pages = rw c.pages-3.ensures at c.used_end-page-end.ensures.inside in
    let before = page-count g.a s c.requires.0.places in
    let now = page-count g.a t c.loop-page.invariant.scans.midway.places in
    rw c.pages-in-loop-page.ensures (omega arith)

pub scan_page-requires : goal.scan_page-requires
scan_page-requires g c =
    let noting = c.loop-page.invariant.noting in
    let s = state c.args.copier.now in
    let t = state c.loop-page.copier in
    let e : c.entry.result ≡ entry_at t.pages c.loop-page.page = rw c.pages-in-loop-page.ensures at c.entry.ensures in
    let words : c.root_words-words.result ≡ root_words (entry_at t.pages c.loop-page.page) c.loop-page.page s.pass.generation =
    rw (e, c.pass-collected.ensures) at c.root_words-words.ensures in
    let end : c.used_end-page-end.result ≤ length s.pages = rw c.pages-3.ensures at c.used_end-page-end.ensures.inside in
    let before = page-count g.a s c.requires.0.places in
    let reach_now = reach-stays g.a s t c.reach_of-reach.result c.requires.0 c.loop-page.invariant.scans
    (subst (λ (k : ℕ). IsReach s.pages k c.reach_of-reach.result) (ap (λ p. p.generation) c.pass-collected.ensures)
    (subst (λ (es : List Entry). IsReach es c.pass-collected.result.generation c.reach_of-reach.result) c.pages-2.ensures c.reach_of-reach.ensures)) in (
      page-can g.a s t c.loop-page.page c.root_words-words.result c.loop-page.invariant.scans words (omega arith),
      (
        noting.can,
        (
          λ idle. none-stays g.a s t c.requires.0 c.loop-page.invariant.scans
              (subst (λ (k : ℕ). HasNoPage s.pages k) (ap (λ p. p.generation) c.pass-collected.ensures)
              (subst (λ (es : List Entry). HasNoPage es c.pass-collected.result.generation) c.pages.ensures (c.has_no_page-idle.ensures idle))),
          reach_now,
        ),
      ),
    )

pub loop-page-preserved : goal.loop-page-preserved
loop-page-preserved g c =
    let s = state c.args.copier.now in
    let t = state c.loop-page.copier in
    let u = state c.scan_page.new.copier in
    let e : c.entry.result ≡ entry_at t.pages c.loop-page.page = rw c.pages-in-loop-page.ensures at c.entry.ensures in
    let words : c.root_words-words.result ≡ root_words (entry_at t.pages c.loop-page.page) c.loop-page.page s.pass.generation =
    rw (e, c.pass-collected.ensures) at c.root_words-words.ensures in
    let i = c.loop-page.invariant in
    record {
      scans = scans-on g.a s t u i.scans c.scan_page.ensures.scans;
      scanned = page-on g.a s t c.loop-page.page c.root_words-words.result i.scans words u c.loop-page.weak.listed c.scan_page.new.weak.listed c.scan_page.ensures.scans
          c.scan_page.ensures.noting.stays i.scanned c.scan_page.ensures.scanned;
      noting = notes-over g.a t u c.args.weak.now c.loop-page.weak c.scan_page.new.weak i.noting c.scan_page.ensures.noting;
      same = same-on c.args.copier.now c.loop-page.copier c.scan_page.new.copier i.same c.scan_page.ensures.same;
    }

pub returns-clause-others : goal.returns-clause-others
returns-clause-others g c =
    let s = state c.args.copier.now in
    let t = state c.loop-page.copier in
    let free : (p : ℕ) → c.used_end-page-end.result ≤ p → is_free (entry_at s.pages p) ≡ true = rw c.pages-3.ensures at c.used_end-page-end.ensures.free in
    others-below g.a s c.requires.0 c.used_end-page-end.result free t c.loop-page.weak.listed c.loop-page.page c.loop-page.invariant.scans c.loop-page-test.false
    c.loop-page.invariant.scanned
