use Rattle.std.proofs.Common.{◌≡◌, List, ℕ, [], ◌∷◌, ◌+◌, length, eqb, refl, ap, sym, ◌∙◌, subst, arith}
use Rattle.std.proofs.lemmas.Bool.{false≢true, eqb-true}
use Rattle.journal_text.specs.Builder.{State, TakesLine}
use Rattle.journal_text.specs.Journals.{HasNoLf}
use Rattle.journal_text.proofs.Loop.{line_fault, room_for_more}
use Rattle.journal_text.proofs.Prefixes.{Reading, reading_start, reading_more, reading_cut, reading_done}
use Rattle.journal_text.proofs.parsing.events_of.Goals as goal

empty : (xs : List ℕ) → length xs ≡ 0 → xs ≡ []
empty [] e = refl
empty (x ∷ xs) e = absurd (omega arith)

pub loop-behind-init : goal.loop-behind-init
loop-behind-init c = rw c.new-reader.ensures (reading_start c.args.bytes.now)

pub returns-in-Err-clause-fault : goal.returns-in-Err-clause-fault
returns-in-Err-clause-fault c =
    let stop = c.in-Err.ensures.stopped in
    rw c.at.ensures (line_fault c.args.bytes.now c.loop-behind.rest.now stop.content stop.after c.loop-behind.number c.loop-behind.reader c.take_line.new.self c.in-Err.fault
    (omega (arith, c.requires)) stop.text stop.plain stop.adds c.loop-behind.invariant)

pub overflow_add-number : goal.overflow_add-number
overflow_add-number c =
    let taken : TakesLine c.loop-behind.reader c.loop-behind.rest.now c.in-Ok-Some.behind.now c.take_line.new.self = rw c.in-Ok-Some.field-0-is at c.in-Ok-Some.ensures.taken in
    omega (arith, c.requires, room_for_more c.args.bytes.now c.loop-behind.rest.now taken.content c.in-Ok-Some.behind.now c.loop-behind.number c.loop-behind.reader taken.text c.loop-behind.invariant)

pub loop-behind-preserved : goal.loop-behind-preserved
loop-behind-preserved c =
    let taken : TakesLine c.loop-behind.reader c.loop-behind.rest.now c.in-Ok-Some.behind.now c.take_line.new.self = rw c.in-Ok-Some.field-0-is at c.in-Ok-Some.ensures.taken in
    reading_more c.args.bytes.now c.loop-behind.rest.now taken.content c.in-Ok-Some.behind.now c.loop-behind.number (c.loop-behind.number + 1) c.loop-behind.reader c.take_line.new.self
    taken.text taken.adds refl c.loop-behind.invariant

pub returns-then-not-is_empty-clause-fault : goal.returns-then-not-is_empty-clause-fault
returns-then-not-is_empty-clause-fault c =
    let ended : HasNoLf c.loop-behind.rest.now × (c.take_line.new.self ≡ c.loop-behind.reader) = rw c.in-Ok-None.field-0-is at c.in-Ok-None.ensures.taken in
    reading_cut c.args.bytes.now c.loop-behind.rest.now c.loop-behind.number c.loop-behind.reader (omega (arith, c.requires)) ended.0
    (λ none is. false≢true (sym c.if-not-is_empty.true ∙ c.is_empty.ensures ∙ ap (λ (xs : List ℕ). eqb (length xs) 0) none)) c.loop-behind.invariant

pub returns-then-not-is_done-clause-fault : goal.returns-then-not-is_done-clause-fault
returns-then-not-is_done-clause-fault c =
    let ended : HasNoLf c.loop-behind.rest.now × (c.take_line.new.self ≡ c.loop-behind.reader) = rw c.in-Ok-None.field-0-is at c.in-Ok-None.ensures.taken in
    let same : c.take_line.new.self ≡ c.loop-behind.reader = ended.1 in
    reading_cut c.args.bytes.now c.loop-behind.rest.now c.loop-behind.number c.loop-behind.reader (omega (arith, c.requires)) ended.0
    (λ none is. false≢true (rw c.if-not-is_done.true at (c.is_done.ensures.1 (ap (λ (s : State). s.stage) same ∙ is)))) c.loop-behind.invariant

pub returns-clause-journal : goal.returns-clause-journal
returns-clause-journal c =
    let ended : HasNoLf c.loop-behind.rest.now × (c.take_line.new.self ≡ c.loop-behind.reader) = rw c.in-Ok-None.field-0-is at c.in-Ok-None.ensures.taken in
    let same : c.take_line.new.self ≡ c.loop-behind.reader = ended.1 in
    let none : c.loop-behind.rest.now ≡ [] = empty c.loop-behind.rest.now (eqb-true (length c.loop-behind.rest.now) 0 (sym c.if-not-is_empty.ensures)) in
    rw c.into_events.ensures
    (reading_done c.args.bytes.now c.loop-behind.rest.now c.loop-behind.number c.take_line.new.self (omega (arith, c.requires)) none (c.is_done.ensures.0 c.if-not-is_done.false)
    (subst (λ (s : State). Reading c.args.bytes.now c.loop-behind.rest.now c.loop-behind.number s) (sym same) c.loop-behind.invariant))
