-- Values, answers, events, programs and what stands in them are equal exactly where they are the same.
use Rattle.std.proofs.Common.{◌≡◌, ℕ, true, nat_eq, List, refl, rules, subst, Decides}
use Rattle.std.specs.Cmp.{unsigned_Decides}
use Rattle.std.specs.Cmp.Lexicographic.{pointwise, pointwise_decides}
use Rattle.std.proofs.lemmas.Bool.{and_parts, and_from, false≢true}
use Rattle.heap_terms.specs.declared.answers.Answer.{Answer}
use Rattle.heap_terms.specs.declared.answers.Answer.TheVariants as answers
use Rattle.heap_terms.specs.declared.answers.Item.{Item}
use Rattle.heap_terms.specs.declared.answers.PageView.{PageView}
use Rattle.heap_terms.specs.declared.answers.PageView.TheVariants as views
use Rattle.heap_terms.specs.declared.answers.Refusal.{Refusal}
use Rattle.heap_terms.specs.declared.cells.Value.{Value}
use Rattle.heap_terms.specs.declared.commands.Command.{Command}
use Rattle.heap_terms.specs.declared.events.Cull.{Cull}
use Rattle.heap_terms.specs.declared.events.Event.{Event}
use Rattle.heap_terms.specs.declared.events.Event.TheVariants as events
use Rattle.heap_terms.specs.declared.events.PinAt.{PinAt}
use Rattle.heap_terms.specs.declared.events.Placing.{Placing}
use Rattle.heap_terms.specs.declared.events.PassRecord.{PassRecord}
use Rattle.heap_terms.specs.declared.kinds.Kind.{Kind}
use Rattle.heap_terms.specs.declared.kinds.PageType.{PageType}
use Rattle.heap_terms.specs.declared.pages.Entry.{Entry}
use Rattle.heap_terms.specs.declared.pages.Next.{Next}
use Rattle.heap_terms.specs.declared.programs.Program.{Program}
use Rattle.heap_terms.specs.contracts.answers.AnswerPartialEq.TheImpl as answer_eqs
use Rattle.heap_terms.specs.contracts.answers.ItemPartialEq.TheImpl as item_eqs
use Rattle.heap_terms.specs.contracts.answers.PageViewPartialEq.TheImpl as view_eqs
use Rattle.heap_terms.specs.contracts.answers.RefusalPartialEq.TheImpl as refusal_eqs
use Rattle.heap_terms.specs.contracts.cells.ValuePartialEq.TheImpl as value_eqs
use Rattle.heap_terms.specs.contracts.commands.CommandPartialEq.TheImpl as command_eqs
use Rattle.heap_terms.specs.contracts.events.CullPartialEq.TheImpl as cull_eqs
use Rattle.heap_terms.specs.contracts.events.EventPartialEq.TheImpl as event_eqs
use Rattle.heap_terms.specs.contracts.events.PinAtPartialEq.TheImpl as pin_eqs
use Rattle.heap_terms.specs.contracts.events.PlacingPartialEq.TheImpl as placing_eqs
use Rattle.heap_terms.specs.contracts.events.PassRecordPartialEq.TheImpl as pass_eqs
use Rattle.heap_terms.specs.contracts.kinds.KindPartialEq.TheImpl as kind_eqs
use Rattle.heap_terms.specs.contracts.kinds.PageTypePartialEq.TheImpl as type_eqs
use Rattle.heap_terms.specs.contracts.pages.EntryPartialEq.TheImpl as entry_eqs
use Rattle.heap_terms.specs.contracts.pages.NextPartialEq.TheImpl as next_eqs
use Rattle.heap_terms.specs.contracts.programs.ProgramPartialEq.TheImpl as program_eqs
use Rattle.heap_laws.proofs.Equal.Commands.{command_decides}

pub value_decides : (x y : Value) → Decides ((value_eqs.ghosts).eq x y) (x ≡ y)
value_decides x y = search rules

pub refusal_decides : (x y : Refusal) → Decides ((refusal_eqs.ghosts).eq x y) (x ≡ y)
refusal_decides x y = search rules

pub kind_decides : (x y : Kind) → Decides ((kind_eqs.ghosts).eq x y) (x ≡ y)
kind_decides x y = search rules

pub type_decides : (x y : PageType) → Decides ((type_eqs.ghosts).eq x y) (x ≡ y)
type_decides x y = search rules

pub item_decides : (x y : Item) → Decides ((item_eqs.ghosts).eq x y) (x ≡ y)
item_decides x y = search rules

pub pin_decides : (x y : PinAt) → Decides ((pin_eqs.ghosts).eq x y) (x ≡ y)
pin_decides x y = search rules

pub placing_decides : (x y : Placing) → Decides ((placing_eqs.ghosts).eq x y) (x ≡ y)
placing_decides x y = search rules

cull_same : (x y : Cull) → (cull_eqs.ghosts).eq x y ≡ true → x ≡ y
cull_same x y e0 =
    let p1 = and_parts _ _ e0 in
    let p2 = and_parts _ _ p1.1 in
    let table_is = (unsigned_Decides x.table y.table).0 p1.0 in
    let key_is = (value_decides x.key y.key).0 p2.0 in
    let value_is = (value_decides x.value y.value).0 p2.1 in
    λ i. record { table = table_is i; key = key_is i; value = value_is i }

cull_itself : (x : Cull) → (cull_eqs.ghosts).eq x x ≡ true
cull_itself x =
    and_from _ _ ((unsigned_Decides x.table x.table).1 refl) (and_from _ _ ((value_decides x.key x.key).1 refl) ((value_decides x.value x.value).1 refl))

pub cull_decides : (x y : Cull) → Decides ((cull_eqs.ghosts).eq x y) (x ≡ y)
cull_decides x y = (cull_same x y, λ e. subst (λ z. (cull_eqs.ghosts).eq x z ≡ true) e (cull_itself x))

pub entry_decides : (x y : Entry) → Decides ((entry_eqs.ghosts).eq x y) (x ≡ y)
entry_decides x y = search rules

pub next_decides : (x y : Next) → Decides ((next_eqs.ghosts).eq x y) (x ≡ y)
next_decides x y = search rules

-- lists
pub scripts_decide : (x y : List (List Command)) → Decides (pointwise (pointwise (command_eqs.ghosts).eq) x y) (x ≡ y)
scripts_decide = pointwise_decides (pointwise_decides command_decides)

pub numbers_decide : (x y : List ℕ) → Decides (pointwise nat_eq x y) (x ≡ y)
numbers_decide = pointwise_decides unsigned_Decides

pub items_decide : (x y : List Item) → Decides (pointwise (item_eqs.ghosts).eq x y) (x ≡ y)
items_decide = pointwise_decides item_decides

pub moves_decide : (x y : List Placing) → Decides (pointwise (placing_eqs.ghosts).eq x y) (x ≡ y)
moves_decide = pointwise_decides placing_decides

pub pins_decide : (x y : List PinAt) → Decides (pointwise (pin_eqs.ghosts).eq x y) (x ≡ y)
pins_decide = pointwise_decides pin_decides

pub culls_decide : (x y : List Cull) → Decides (pointwise (cull_eqs.ghosts).eq x y) (x ≡ y)
culls_decide = pointwise_decides cull_decides

-- programs
program_same : (x y : Program) → (program_eqs.ghosts).eq x y ≡ true → x ≡ y
program_same x y e0 =
    let p1 = and_parts _ _ e0 in
    let p2 = and_parts _ _ p1.1 in
    let p3 = and_parts _ _ p2.1 in
    let pages_is = (unsigned_Decides x.pages y.pages).0 p1.0 in
    let auto_is = (unsigned_Decides x.auto y.auto).0 p2.0 in
    let threads_is = (scripts_decide x.threads y.threads).0 p3.0 in
    let schedule_is = (numbers_decide x.schedule y.schedule).0 p3.1 in
    λ i. record { pages = pages_is i; auto = auto_is i; threads = threads_is i; schedule = schedule_is i }

program_itself : (x : Program) → (program_eqs.ghosts).eq x x ≡ true
program_itself x =
    and_from _ _ ((unsigned_Decides x.pages x.pages).1 refl) (and_from _ _ ((unsigned_Decides x.auto x.auto).1 refl) (and_from _ _ ((scripts_decide x.threads x.threads).1 refl) ((numbers_decide x.schedule x.schedule).1 refl)))

pub program_decides : (x y : Program) → Decides ((program_eqs.ghosts).eq x y) (x ≡ y)
program_decides x y = (program_same x y, λ e. subst (λ z. (program_eqs.ghosts).eq x z ≡ true) e (program_itself x))

-- pages as they are shown
view_same : (x y : PageView) → (view_eqs.ghosts).eq x y ≡ true → x ≡ y
view_same views.Free views.Free e0 = refl
view_same views.Free _ e0 = absurd (false≢true e0)
view_same (views.Small ty generation fill items) (views.Small ty2 generation2 fill2 items2) e0 =
    let p1 = and_parts _ _ e0 in
    let p2 = and_parts _ _ p1.1 in
    let p3 = and_parts _ _ p2.1 in
    let ty_is = (type_decides ty ty2).0 p1.0 in
    let generation_is = (unsigned_Decides generation generation2).0 p2.0 in
    let fill_is = (unsigned_Decides fill fill2).0 p3.0 in
    let items_is = (items_decide items items2).0 p3.1 in
    λ i. views.Small (ty_is i) (generation_is i) (fill_is i) (items_is i)
view_same (views.Small ty generation fill items) _ e0 = absurd (false≢true e0)
view_same (views.Large ty generation pages name index) (views.Large ty2 generation2 pages2 name2 index2) e0 =
    let p1 = and_parts _ _ e0 in
    let p2 = and_parts _ _ p1.1 in
    let p3 = and_parts _ _ p2.1 in
    let p4 = and_parts _ _ p3.1 in
    let ty_is = (type_decides ty ty2).0 p1.0 in
    let generation_is = (unsigned_Decides generation generation2).0 p2.0 in
    let pages_is = (unsigned_Decides pages pages2).0 p3.0 in
    let name_is = (unsigned_Decides name name2).0 p4.0 in
    let index_is = (unsigned_Decides index index2).0 p4.1 in
    λ i. views.Large (ty_is i) (generation_is i) (pages_is i) (name_is i) (index_is i)
view_same (views.Large ty generation pages name index) _ e0 = absurd (false≢true e0)

view_itself : (x : PageView) → (view_eqs.ghosts).eq x x ≡ true
view_itself views.Free = refl
view_itself (views.Small ty generation fill items) = and_from _ _ ((type_decides ty ty).1 refl) (and_from _ _ ((unsigned_Decides generation generation).1 refl) (and_from _ _ ((unsigned_Decides fill fill).1 refl) ((items_decide items items).1 refl)))
view_itself (views.Large ty generation pages name index) = and_from _ _ ((type_decides ty ty).1 refl) (and_from _ _ ((unsigned_Decides generation generation).1 refl) (and_from _ _ ((unsigned_Decides pages pages).1 refl) (and_from _ _ ((unsigned_Decides name name).1 refl) ((unsigned_Decides index index).1 refl))))

pub view_decides : (x y : PageView) → Decides ((view_eqs.ghosts).eq x y) (x ≡ y)
view_decides x y = (view_same x y, λ e. subst (λ z. (view_eqs.ghosts).eq x z ≡ true) e (view_itself x))

-- answers
answer_same : (x y : Answer) → (answer_eqs.ghosts).eq x y ≡ true → x ≡ y
answer_same answers.Done answers.Done e0 = refl
answer_same answers.Done _ e0 = absurd (false≢true e0)
answer_same (answers.Val v) (answers.Val v2) e0 =
    let v_is = (value_decides v v2).0 e0 in
    λ i. answers.Val (v_is i)
answer_same (answers.Val v) _ e0 = absurd (false≢true e0)
answer_same (answers.Word w) (answers.Word w2) e0 =
    let w_is = (unsigned_Decides w w2).0 e0 in
    λ i. answers.Word (w_is i)
answer_same (answers.Word w) _ e0 = absurd (false≢true e0)
answer_same answers.Yes answers.Yes e0 = refl
answer_same answers.Yes _ e0 = absurd (false≢true e0)
answer_same answers.No answers.No e0 = refl
answer_same answers.No _ e0 = absurd (false≢true e0)
answer_same answers.Absent answers.Absent e0 = refl
answer_same answers.Absent _ e0 = absurd (false≢true e0)
answer_same (answers.Live v) (answers.Live v2) e0 =
    let v_is = (value_decides v v2).0 e0 in
    λ i. answers.Live (v_is i)
answer_same (answers.Live v) _ e0 = absurd (false≢true e0)
answer_same answers.Broken answers.Broken e0 = refl
answer_same answers.Broken _ e0 = absurd (false≢true e0)
answer_same (answers.Count n) (answers.Count n2) e0 =
    let n_is = (unsigned_Decides n n2).0 e0 in
    λ i. answers.Count (n_is i)
answer_same (answers.Count n) _ e0 = absurd (false≢true e0)
answer_same (answers.Ran ids) (answers.Ran ids2) e0 =
    let ids_is = (numbers_decide ids ids2).0 e0 in
    λ i. answers.Ran (ids_is i)
answer_same (answers.Ran ids) _ e0 = absurd (false≢true e0)
answer_same (answers.Page view) (answers.Page view2) e0 =
    let view_is = (view_decides view view2).0 e0 in
    λ i. answers.Page (view_is i)
answer_same (answers.Page view) _ e0 = absurd (false≢true e0)
answer_same (answers.Stat allocated cum num) (answers.Stat allocated2 cum2 num2) e0 =
    let p1 = and_parts _ _ e0 in
    let p2 = and_parts _ _ p1.1 in
    let allocated_is = (unsigned_Decides allocated allocated2).0 p1.0 in
    let cum_is = (unsigned_Decides cum cum2).0 p2.0 in
    let num_is = (unsigned_Decides num num2).0 p2.1 in
    λ i. answers.Stat (allocated_is i) (cum_is i) (num_is i)
answer_same (answers.Stat allocated cum num) _ e0 = absurd (false≢true e0)
answer_same (answers.Placed name index) (answers.Placed name2 index2) e0 =
    let p1 = and_parts _ _ e0 in
    let name_is = (unsigned_Decides name name2).0 p1.0 in
    let index_is = (unsigned_Decides index index2).0 p1.1 in
    λ i. answers.Placed (name_is i) (index_is i)
answer_same (answers.Placed name index) _ e0 = absurd (false≢true e0)
answer_same (answers.Refused why) (answers.Refused why2) e0 =
    let why_is = (refusal_decides why why2).0 e0 in
    λ i. answers.Refused (why_is i)
answer_same (answers.Refused why) _ e0 = absurd (false≢true e0)

answer_itself : (x : Answer) → (answer_eqs.ghosts).eq x x ≡ true
answer_itself answers.Done = refl
answer_itself (answers.Val v) = (value_decides v v).1 refl
answer_itself (answers.Word w) = (unsigned_Decides w w).1 refl
answer_itself answers.Yes = refl
answer_itself answers.No = refl
answer_itself answers.Absent = refl
answer_itself (answers.Live v) = (value_decides v v).1 refl
answer_itself answers.Broken = refl
answer_itself (answers.Count n) = (unsigned_Decides n n).1 refl
answer_itself (answers.Ran ids) = (numbers_decide ids ids).1 refl
answer_itself (answers.Page view) = (view_decides view view).1 refl
answer_itself (answers.Stat allocated cum num) = and_from _ _ ((unsigned_Decides allocated allocated).1 refl) (and_from _ _ ((unsigned_Decides cum cum).1 refl) ((unsigned_Decides num num).1 refl))
answer_itself (answers.Placed name index) = and_from _ _ ((unsigned_Decides name name).1 refl) ((unsigned_Decides index index).1 refl)
answer_itself (answers.Refused why) = (refusal_decides why why).1 refl

pub answer_decides : (x y : Answer) → Decides ((answer_eqs.ghosts).eq x y) (x ≡ y)
answer_decides x y = (answer_same x y, λ e. subst (λ z. (answer_eqs.ghosts).eq x z ≡ true) e (answer_itself x))

-- passes
pass_same : (x y : PassRecord) → (pass_eqs.ghosts).eq x y ≡ true → x ≡ y
pass_same x y e0 =
    let p1 = and_parts _ _ e0 in
    let p2 = and_parts _ _ p1.1 in
    let p3 = and_parts _ _ p2.1 in
    let p4 = and_parts _ _ p3.1 in
    let p5 = and_parts _ _ p4.1 in
    let p6 = and_parts _ _ p5.1 in
    let p7 = and_parts _ _ p6.1 in
    let p8 = and_parts _ _ p7.1 in
    let p9 = and_parts _ _ p8.1 in
    let generation_is = (unsigned_Decides x.generation y.generation).0 p1.0 in
    let target_is = (unsigned_Decides x.target y.target).0 p2.0 in
    let moves_is = (moves_decide x.moves y.moves).0 p3.0 in
    let pins_is = (pins_decide x.pins y.pins).0 p4.0 in
    let culls_is = (culls_decide x.culls y.culls).0 p5.0 in
    let breaks_is = (numbers_decide x.breaks y.breaks).0 p6.0 in
    let queued_is = (numbers_decide x.queued y.queued).0 p7.0 in
    let freed_is = (numbers_decide x.freed y.freed).0 p8.0 in
    let dead_is = (unsigned_Decides x.dead y.dead).0 p9.0 in
    let kept_is = (unsigned_Decides x.kept y.kept).0 p9.1 in
    λ i. record { generation = generation_is i; target = target_is i; moves = moves_is i; pins = pins_is i; culls = culls_is i; breaks = breaks_is i; queued = queued_is i; freed = freed_is i; dead = dead_is i; kept = kept_is i }

pass_itself : (x : PassRecord) → (pass_eqs.ghosts).eq x x ≡ true
pass_itself x =
    and_from _ _ ((unsigned_Decides x.generation x.generation).1 refl) (and_from _ _ ((unsigned_Decides x.target x.target).1 refl) (and_from _ _ ((moves_decide x.moves x.moves).1 refl) (and_from _ _ ((pins_decide x.pins x.pins).1 refl) (and_from _ _ ((culls_decide x.culls x.culls).1 refl) (and_from _ _ ((numbers_decide x.breaks x.breaks).1 refl) (and_from _ _ ((numbers_decide x.queued x.queued).1 refl) (and_from _ _ ((numbers_decide x.freed x.freed).1 refl) (and_from _ _ ((unsigned_Decides x.dead x.dead).1 refl) ((unsigned_Decides x.kept x.kept).1 refl)))))))))

pub pass_decides : (x y : PassRecord) → Decides ((pass_eqs.ghosts).eq x y) (x ≡ y)
pass_decides x y = (pass_same x y, λ e. subst (λ z. (pass_eqs.ghosts).eq x z ≡ true) e (pass_itself x))

pub passes_decide : (x y : List PassRecord) → Decides (pointwise (pass_eqs.ghosts).eq x y) (x ≡ y)
passes_decide = pointwise_decides pass_decides

-- events
event_same : (x y : Event) → (event_eqs.ghosts).eq x y ≡ true → x ≡ y
event_same (events.Did thread command answer) (events.Did thread2 command2 answer2) e0 =
    let p1 = and_parts _ _ e0 in
    let p2 = and_parts _ _ p1.1 in
    let thread_is = (unsigned_Decides thread thread2).0 p1.0 in
    let command_is = (command_decides command command2).0 p2.0 in
    let answer_is = (answer_decides answer answer2).0 p2.1 in
    λ i. events.Did (thread_is i) (command_is i) (answer_is i)
event_same (events.Did thread command answer) _ e0 = absurd (false≢true e0)
event_same (events.Opened thread ty first pages) (events.Opened thread2 ty2 first2 pages2) e0 =
    let p1 = and_parts _ _ e0 in
    let p2 = and_parts _ _ p1.1 in
    let p3 = and_parts _ _ p2.1 in
    let thread_is = (unsigned_Decides thread thread2).0 p1.0 in
    let ty_is = (type_decides ty ty2).0 p2.0 in
    let first_is = (unsigned_Decides first first2).0 p3.0 in
    let pages_is = (unsigned_Decides pages pages2).0 p3.1 in
    λ i. events.Opened (thread_is i) (ty_is i) (first_is i) (pages_is i)
event_same (events.Opened thread ty first pages) _ e0 = absurd (false≢true e0)
event_same (events.Collected thread last passes) (events.Collected thread2 last2 passes2) e0 =
    let p1 = and_parts _ _ e0 in
    let p2 = and_parts _ _ p1.1 in
    let thread_is = (unsigned_Decides thread thread2).0 p1.0 in
    let last_is = (unsigned_Decides last last2).0 p2.0 in
    let passes_is = (passes_decide passes passes2).0 p2.1 in
    λ i. events.Collected (thread_is i) (last_is i) (passes_is i)
event_same (events.Collected thread last passes) _ e0 = absurd (false≢true e0)
event_same (events.Ended thread) (events.Ended thread2) e0 =
    let thread_is = (unsigned_Decides thread thread2).0 e0 in
    λ i. events.Ended (thread_is i)
event_same (events.Ended thread) _ e0 = absurd (false≢true e0)

event_itself : (x : Event) → (event_eqs.ghosts).eq x x ≡ true
event_itself (events.Did thread command answer) = and_from _ _ ((unsigned_Decides thread thread).1 refl) (and_from _ _ ((command_decides command command).1 refl) ((answer_decides answer answer).1 refl))
event_itself (events.Opened thread ty first pages) = and_from _ _ ((unsigned_Decides thread thread).1 refl) (and_from _ _ ((type_decides ty ty).1 refl) (and_from _ _ ((unsigned_Decides first first).1 refl) ((unsigned_Decides pages pages).1 refl)))
event_itself (events.Collected thread last passes) = and_from _ _ ((unsigned_Decides thread thread).1 refl) (and_from _ _ ((unsigned_Decides last last).1 refl) ((passes_decide passes passes).1 refl))
event_itself (events.Ended thread) = (unsigned_Decides thread thread).1 refl

pub event_decides : (x y : Event) → Decides ((event_eqs.ghosts).eq x y) (x ≡ y)
event_decides x y = (event_same x y, λ e. subst (λ z. (event_eqs.ghosts).eq x z ≡ true) e (event_itself x))
