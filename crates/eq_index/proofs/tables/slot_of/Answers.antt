-- The words of the pairs in one piece are those of the table.
use Rattle.std.proofs.Common.{◌≡◌, ℕ, ◌+◌, ◌*◌, ◌<◌, ◌≤◌, ◌∙◌, List, Option, Some, None, sym, refl, length, arith, ap, take, drop, get_or}
use Rattle.std.proofs.lemmas.List.{get_or-drop, get_or-take, length-drop, length-take}
use Rattle.std.specs.Prelude.{◌≢◌, IfSome, IsNone}
use Rattle.eq_index.specs.Answers.{Finds}
use Rattle.eq_index.specs.Tables.{IsTable, PairWords}
use Rattle.eq_index.proofs.tables.slot_of.Goals as goal

module _ (words part : List ℕ) (table n key b : ℕ) (pairs : List PairWords) (t : IsTable words table b pairs) (count : n ≡ length pairs) (is : part ≡ take (2 * n) (drop (table + 4) words)) where
  piece-at : (k : ℕ) → k < n → get_or part (2 * k) 0 ≡ get_or words (table + 4 + 2 * k) 0
  piece-at k l = ap (λ (xs : List ℕ). get_or xs (2 * k) 0) is ∙ get_or-take (2 * n) (drop (table + 4) words) (2 * k) 0 (omega (arith, l)) ∙ get_or-drop (table + 4) words (2 * k) 0

  piece-long : 2 * n ≤ length part
  piece-long =
      let a = ap length is in
      let b1 = length-take (2 * n) (drop (table + 4) words) in
      let c = length-drop (table + 4) words in
      let within = t.within in
      let room = t.room in
      omega (arith, a, b1, c, within, room, count)

  piece-finds : (r : Option ℕ) → IfSome r (λ k. (k < n) × (get_or part (2 * k) 0 ≡ key)) → (IsNone r → (k : ℕ) → k < n → get_or part (2 * k) 0 ≢ key) → Finds pairs key r
  piece-finds (Some k) found none = (let l : k < length pairs = omega (arith, found.0, count) in (l, sym (t.keys k l) ∙ sym (piece-at k found.0) ∙ found.1))
  piece-finds None found none = λ k l e. none refl k (omega (arith, l, count)) (piece-at k (omega (arith, l, count)) ∙ t.keys k l ∙ e)

pub slot_in-requires : goal.slot_in-requires
slot_in-requires c =
    let q = c.requires in
    piece-long c.args.space.now c.in-Some.words.now c.args.table c.count-count.result c.args.key q.b q.pairs q.is (c.count-count.ensures q.b q.pairs q.is) c.in-Some.ensures

pub returns-in-Some : goal.returns-in-Some
returns-in-Some c = λ b pairs t.
    piece-finds c.args.space.now c.in-Some.words.now c.args.table c.count-count.result c.args.key b pairs t (c.count-count.ensures b pairs t) c.in-Some.ensures c.slot_in.result c.slot_in.ensures.found c.slot_in.ensures.none

pub overflow_mul-count : goal.overflow_mul-count
overflow_mul-count c =
    let n = c.count-count.ensures c.requires.b c.requires.pairs c.requires.is in
    omega (arith, n, c.requires.is.room, c.requires.is.most)
