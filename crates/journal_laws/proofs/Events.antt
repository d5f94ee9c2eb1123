-- The events of a lawful history of a valid program are within the ranges of a journal.
use Rattle.std.proofs.Common.{◌≡◌, ℕ, List, [], ◌∷◌, length, Option, Some, None, true, refl, sym, arith, subst}
use Rattle.std.proofs.lemmas.List.Elements.{recursion_from_All}
use Rattle.std.specs.List.{All, AllByRecursion}
use Rattle.heap_terms.specs.declared.answers.Answer.{Answer}
use Rattle.heap_terms.specs.declared.answers.Answer.TheVariants as answers
use Rattle.heap_terms.specs.declared.answers.Item.{Item}
use Rattle.heap_terms.specs.declared.answers.PageView.{PageView}
use Rattle.heap_terms.specs.declared.answers.PageView.TheVariants as views
use Rattle.heap_terms.specs.declared.cells.Value.{Value}
use Rattle.heap_terms.specs.declared.cells.Value.TheVariants as values
use Rattle.heap_terms.specs.declared.commands.Command.{Command}
use Rattle.heap_terms.specs.declared.events.Cull.{Cull}
use Rattle.heap_terms.specs.declared.events.Event.{Event}
use Rattle.heap_terms.specs.declared.events.Event.TheVariants.{Did, Opened, Collected, Ended}
use Rattle.heap_terms.specs.declared.events.PassRecord.{PassRecord}
use Rattle.heap_terms.specs.declared.events.Placing.{Placing}
use Rattle.heap_terms.specs.declared.pages.Next.{Next}
use Rattle.heap_terms.specs.declared.pages.Next.TheVariants as nexts
use Rattle.heap_terms.specs.declared.programs.Program.{Program}
use Rattle.heap_terms.specs.Heap.{NamedHeap, start}
use Rattle.heap_terms.specs.Histories.{IsAnswer, IsNext, Lawful, LawfulFrom, after, command_at, next}
use Rattle.heap_terms.specs.Layout.{size_of}
use Rattle.heap_terms.specs.Regions.{place_for}
use Rattle.heap_terms.specs.Valid.{IsValid}
use Rattle.pass_laws.specs.PlainRecords.{IsPlainRecord, IsSide}
use Rattle.pass_laws.specs.PlainRecords as plain
use Rattle.heap_laws.specs.Plain.{IsPlain, IsPlainAnswer, IsPlainItem, IsPlainItemOf, IsPlainValue, IsPlainView}
use Rattle.heap_laws.proofs.NextEvents.{builds_for, history_few, next_parts, next_with_command}
use Rattle.journal_text.specs.Ranges.{AreEvents, IsAnswer as IsTold, IsCull, IsEvent, IsIndex, IsItem, IsItemOf, IsMove, IsName, IsNewIndex, IsPage, IsPass, IsValue}
use Rattle.journal_text.specs.Rows.{may_answer}
use Rattle.journal_laws.proofs.Rows.{outcome_fits, placing_fits}

-- ---- the answer is one that the command may have

answer_fits : (p : Program) (a : NamedHeap) (t : ℕ) (c : Command) (answer : Answer) (m : Next) → next p a t ≡ m → command_at p a t ≡ Some c → IsAnswer a t c answer m → may_answer c answer ≡ true
answer_fits p a t c answer nexts.Simple e at answered = subst (λ (x : Answer). may_answer c x ≡ true) (sym answered) (outcome_fits a t c)
answer_fits p a t c answer nexts.Open e at answered = subst (λ (x : Answer). may_answer c x ≡ true) (sym answered.0) (outcome_fits a t c)
answer_fits p a t c answer (nexts.Build kind n seed) e at answered =
    let parts = next_parts p a t (nexts.Build kind n seed) e (λ d. cc) (λ last d. cc) in
    let wished = builds_for a t _ kind n seed (next_with_command a t (command_at p a t) c (nexts.Build kind n seed) at parts.1) in
    subst (λ (x : Answer). may_answer c x ≡ true) (sym answered) (placing_fits c kind n seed (length a.objects) (place_for a t kind (size_of kind n)) wished.0)
answer_fits p a t c answer (nexts.Collect last) e at answered = absurd answered
answer_fits p a t c answer nexts.End e at answered = absurd answered
answer_fits p a t c answer nexts.Done e at answered = absurd answered

-- ---- the numbers are within their ranges

all_of : {A : Type 0} (P Q : A → Type 0) (xs : List A) → ((x : A) → P x → Q x) → AllByRecursion P xs → AllByRecursion Q xs
all_of P Q [] weaker h = tt
all_of P Q (x ∷ xs) weaker h = (weaker x h.0, all_of P Q xs weaker h.1)

value_told : (v : Value) → IsPlainValue v → IsValue v
value_told (values.Fix n) h = h
value_told values.Nil h = tt
value_told values.Unbound h = h
value_told (values.Ref name) h = h

side_told : (v : Value) → IsSide v → IsValue v
side_told (values.Fix n) h = h
side_told values.Nil h = tt
side_told values.Unbound h = h
side_told (values.Ref name) h = h

item_told : (name : Option ℕ) (count : ℕ) → IsPlainItemOf name count → IsItemOf name count
item_told None count h = h
item_told (Some name) count h = h

page_told : (view : PageView) → IsPlainView view → IsPage view
page_told views.Free h = tt
page_told (views.Small ty g fill items) h =
    (h.0, omega (arith, h.1), all_of IsPlainItem IsItem items (λ (item : Item) one. (item_told item.name item.count one.0, one.1)) h.2)
page_told (views.Large ty g pages name index) h = (h.0, omega (arith, h.1), h.2, h.3)

answer_told : (answer : Answer) → IsPlainAnswer answer → IsTold answer
answer_told answers.Done h = tt
answer_told (answers.Val v) h = value_told v h
answer_told (answers.Word w) h = h
answer_told answers.Yes h = tt
answer_told answers.No h = tt
answer_told answers.Absent h = tt
answer_told (answers.Live v) h = value_told v h
answer_told answers.Broken h = tt
answer_told (answers.Count n) h = h
answer_told (answers.Ran []) h = h
answer_told (answers.Ran (id ∷ ids)) h = h
answer_told (answers.Page view) h = page_told view h
answer_told (answers.Stat allocated cum num) h = h
answer_told (answers.Placed name index) h = h
answer_told (answers.Refused why) h = tt

pass_told : (r : PassRecord) → IsPlainRecord r → IsPass r
pass_told r h = record {
  generation = h.generation;
  target = h.target;
  moves = all_of (λ (m : Placing). IsName m.name × IsIndex m.old × plain.IsNewIndex m.new) IsMove r.moves (λ (m : Placing) one. (one.0, one.1, new_told m.new one.2)) (recursion_from_All _ r.moves h.moves);
  pins = recursion_from_All _ r.pins h.pins;
  culls = all_of (λ (k : Cull). IsName k.table × IsSide k.key × IsSide k.value) IsCull r.culls (λ (k : Cull) one. (one.0, side_told k.key one.1, side_told k.value one.2)) (recursion_from_All _ r.culls h.culls);
  breaks = recursion_from_All _ r.breaks h.breaks;
  queued = recursion_from_All _ r.queued h.queued;
  freed = recursion_from_All _ r.freed h.freed;
  dead = h.dead;
  kept = h.kept;
}
  where
    new_told : (new : Option ℕ) → plain.IsNewIndex new → IsNewIndex new
    new_told None h = tt
    new_told (Some index) h = h

event_told : (p : Program) (a : NamedHeap) (e : Event) → IsNext p a e → IsPlain e → IsEvent e
unfolding IsNext
event_told p a (Did t c answer) n h = (h.0, h.1.in_range, answer_told answer h.2, answer_fits p a t c answer (next p a t) refl n.0 n.1)
event_told p a (Opened t ty first k) n h = h
event_told p a (Collected t last passes) n h = (h.0, h.1, all_of IsPlainRecord IsPass passes pass_told (recursion_from_All _ passes h.2))
event_told p a (Ended t) n h = h

events_told : (p : Program) (a : NamedHeap) (h : List Event) → LawfulFrom p a h → AllByRecursion IsPlain h → AllByRecursion IsEvent h
events_told p a [] lawful plain = tt
events_told p a (e ∷ es) lawful plain = (event_told p a e lawful.0 plain.0, events_told p (after p a e) es lawful.1 plain.1)

pub history_told : (p : Program) (h : List Event) → IsValid p → Lawful p h → All IsPlain h → AreEvents h
history_told p h valid lawful plain = record {
  number = omega (arith, history_few p h valid lawful);
  events = events_told p (start p) h lawful (recursion_from_All IsPlain h plain);
}
