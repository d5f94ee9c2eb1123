use Rattle.std.proofs.Common.{◌≡◌, ◌≢◌, ◌<◌, ◌≤◌, ◌+◌, ◌++◌, false, set, option_to_list, get_or, length, take, sym, ap, ◌∙◌, subst, ⊎_elim, get_or-set_same, get_or-set_other, take_all, arith}
use Rattle.std.specs.Mem.Slots.{slots_items, slots_filled, slots_len, slots_counts}
use Rattle.stop_words.specs.ParcelSlots.{parcels_in}
use Rattle.atomic_table.specs.Table.{Final}
use Rattle.stop_words.specs.Rule.{StopRule}
use Rattle.stop_words.proofs.Basics.{same_or_not}
use Rattle.stop_words.proofs.Closing.{took, closes}
use Rattle.stop_words.proofs.seats.StopWords.close.Goals as goal

pub loop-slot-preserved : goal.loop-slot-preserved
loop-slot-preserved g c =
    let i = c.loop-slot.invariant in
    let old = c.loop-slot.closed.slots in
    let slot = c.loop-slot.slot in
    let now = c.take.new.self.slots in
    let o = c.take.ensures.others in
    let kept = c.keep.ensures in
    let test : slot < slots_len old = subst (λ n. slot < n) c.slot_count.ensures c.loop-slot-test.true in
    let same_len : slots_len now ≡ slots_len old = o.2 in
    let in_filled : slot < length (slots_filled old) = subst (λ n. slot < n) (slots_counts old).1 test in
    let filled_is : slots_filled now ≡ set (slots_filled old) slot false = o.1 in record {
      filled = λ k low high. ap (λ l. get_or l k false) filled_is ∙ get_or-set_other (slots_filled old) slot k false false (λ e. omega arith) ∙ i.filled k (omega arith) (omega arith);
      taken = λ k lt. ap (λ l. get_or l k false) filled_is ∙ ⊎_elim
          (λ (e : k ≡ slot). ap (λ j. get_or (set (slots_filled old) slot false) j false) e ∙ get_or-set_same (slots_filled old) slot false false in_filled)
          (λ (ne : k ≢ slot). get_or-set_other (slots_filled old) slot k false false ne ∙ i.taken k (omega arith))
          (same_or_not k slot);
      at_most = omega arith;
      same = o.0 ∙ i.same;
      count = o.2 ∙ i.count;
      parcels = kept.items ∙ ap (λ l. l ++ option_to_list c.take.result) i.parcels ∙ sym (took (slots_items old) slot c.take.result c.take.ensures.value) ∙ ap (λ l. parcels_in (take (slot + 1) l)) (sym o.0);
      few = let f = i.few in let k = kept.room.0 in omega arith;
      room = kept.room.1 ∙ i.room;
    }

pub returns : goal.returns
returns g c =
    let i = c.loop-slot.invariant in
    let last = c.close-closed.ensures in
    let closed = c.close-closed.result in
    let slots = slots_items closed.slots in
    let k = c.args.self.counts in
    let n = c.args.self.threads in
    let size : length slots ≡ n = sym (slots_counts closed.slots).0 ∙ last.counts.1 ∙ k.1 in
    let ended : length slots ≤ c.loop-slot.slot = let w = c.loop-slot-test.false in let e = c.slot_count.ensures in let m = i.count in let l = (slots_counts closed.slots).0 in omega arith in
    let all : c.loop-slot.into.items ≡ parcels_in slots = i.parcels ∙ ap (λ l. parcels_in (take c.loop-slot.slot l)) i.same ∙ ap parcels_in (take_all c.loop-slot.slot slots ended) in
    closes g.P.Owned.owner_of n (slots_items closed.words) slots c.loop-slot.into.items (subst (λ j. Final (StopRule g.P.Owned.owner_of j) (slots_items closed.words) slots) k.2 last.values.2) size all
