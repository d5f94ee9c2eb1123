-- One pinned object more is scanned.
use Rattle.std.proofs.Common.{◌≡◌, ◌+◌, ℕ, length, refl, sym, ap, subst, arith}
use Rattle.std.specs.Prelude.{slice_index}
use Rattle.copy_space.specs.State.{state}
use Rattle.scavenge.specs.Fields.{CanScanObject, IsObjectScanned}
use Rattle.scavenge.specs.Scanning.{AreScanned}
use Rattle.scavenge.proofs.Frames.{scans-on, same-on}
use Rattle.scavenge.proofs.NotedStarts.{notes-over}
use Rattle.scavenge.proofs.QueueLaws.{pin-can, pin-scanned}
use Rattle.scavenge.proofs.queue.scan_pins.Goals as goal

pub scan_object-requires : goal.scan_object-requires
scan_object-requires g c =
    let s = state c.loop-i.copier in
    let is : c.at-index.result ≡ slice_index s.pins c.loop-i.i = rw c.pins-in-loop-i.ensures at c.at-index.ensures in
    let end : c.len-i-end.result ≡ length (state c.args.copier.now).pins = rw c.pins.ensures at c.len-i-end.ensures.value in
    let same : length s.pins ≡ length (state c.args.copier.now).pins = ap length c.loop-i.invariant.scans.follows.grows.pins in
    (subst (λ (i : ℕ). CanScanObject g.a s i) (sym is) (pin-can g.a s c.loop-i.i c.loop-i.invariant.scans.midway (omega arith)), c.loop-i.invariant.noting.can)

pub loop-i-preserved : goal.loop-i-preserved
loop-i-preserved g c =
    let s = state c.loop-i.copier in
    let t = state c.scan_object.new.copier in
    let is : c.at-index.result ≡ slice_index s.pins c.loop-i.i = rw c.pins-in-loop-i.ensures at c.at-index.ensures in
    let end : c.len-i-end.result ≡ length (state c.args.copier.now).pins = rw c.pins.ensures at c.len-i-end.ensures.value in
    let same : length s.pins ≡ length (state c.args.copier.now).pins = ap length c.loop-i.invariant.scans.follows.grows.pins in
    let one : IsObjectScanned g.a s t c.scan_object.new.weak.listed (slice_index s.pins c.loop-i.i) =
    subst (λ (i : ℕ). IsObjectScanned g.a s t c.scan_object.new.weak.listed i) is c.scan_object.ensures.scanned in
    record {
      scans = scans-on g.a (state c.args.copier.now) s t c.loop-i.invariant.scans c.scan_object.ensures.scans;
      scanned = pin-scanned g.a s t c.loop-i.weak.listed c.scan_object.new.weak.listed (record { pins = c.loop-i.i; moves = c.args.done.moves }) c.loop-i.invariant.scans.midway c.scan_object.ensures.scans.follows
          c.scan_object.ensures.noting.stays c.loop-i.invariant.scanned (record { pins = c.loop-i.i + 1; moves = c.args.done.moves }) refl refl (omega arith) one;
      noting = notes-over g.a s t c.args.weak.now c.loop-i.weak c.scan_object.new.weak c.loop-i.invariant.noting c.scan_object.ensures.noting;
      same = same-on c.args.copier.now c.loop-i.copier c.scan_object.new.copier c.loop-i.invariant.same c.scan_object.ensures.same;
    }

pub returns-clause-scanned : goal.returns-clause-scanned
returns-clause-scanned g c =
    let s = state c.loop-i.copier in
    let end : c.len-i-end.result ≡ length (state c.args.copier.now).pins = rw c.pins.ensures at c.len-i-end.ensures.value in
    let same : length s.pins ≡ length (state c.args.copier.now).pins = ap length c.loop-i.invariant.scans.follows.grows.pins in
    let result : c.len.result ≡ length s.pins = rw c.pins-2.ensures at c.len.ensures.value in
    let most = c.loop-i.invariant.scanned.pins_most in
    let all : c.loop-i.i ≡ c.len.result = omega arith in
    subst (λ (n : ℕ). AreScanned g.a s c.loop-i.weak.listed (record { pins = n; moves = c.args.done.moves })) all c.loop-i.invariant.scanned
