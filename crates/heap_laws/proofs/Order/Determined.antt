-- What a thread may do next is one event, so that the order of the threads determines a history.
use Rattle.std.proofs.Common.{◌≡◌, ℕ, List, [], ◌∷◌, map, Option, inl, inr, refl, sym, ◌∙◌, subst, ap}
use Rattle.std.proofs.lemmas.Bool.{cases_order}
use Rattle.std.proofs.lemmas.Option.{same_Some}
use Rattle.heap_terms.specs.declared.answers.Answer.{Answer}
use Rattle.heap_terms.specs.declared.commands.Command.{Command}
use Rattle.heap_terms.specs.declared.events.Event.{Event}
use Rattle.heap_terms.specs.declared.events.Event.TheVariants.{Did, Opened, Collected, Ended}
use Rattle.heap_terms.specs.declared.events.PassRecord.{PassRecord}
use Rattle.heap_terms.specs.declared.kinds.PageType.{PageType}
use Rattle.heap_terms.specs.declared.pages.Entry.{Entry}
use Rattle.heap_terms.specs.declared.pages.Next.{Next}
use Rattle.heap_terms.specs.declared.pages.Next.TheVariants as nexts
use Rattle.heap_terms.specs.declared.programs.Program.{Program}
use Rattle.heap_terms.specs.Collections.{ArePasses, closed}
use Rattle.heap_terms.specs.Heap.{NamedHeap, start}
use Rattle.heap_terms.specs.Histories.{IsNext, IsAnswer, IsOpening, after, Lawful, LawfulFrom, command_at, wish_at, wished_size, next, thread_of}
use Rattle.heap_terms.specs.Regions.{Wish, Nothing, Make, wish_of, pages_needed, IsFreeRun, IsLowestRun, HasNoRun}
use Rattle.heap_terms.specs.Passes.{order_of}
use Rattle.heap_laws.specs.Order.{orders_of}
use Rattle.pass_laws.proofs.Determined.{passes_determined}

-- the lowest run begins at one page
pub lowest_same : (pages : List Entry) (first other k : ℕ) → IsLowestRun pages first k → IsLowestRun pages other k → first ≡ other
lowest_same pages first other k one two = elim (cases_order first other) [
  | inl same ↦ same
  | inr apart ↦ elim apart [
    | inl below ↦ absurd (two.lowest first below one.run)
    | inr above ↦ absurd (one.lowest other above two.run)
  ]
]

-- an opening for a wish is one
pub opening_same : (a : NamedHeap) (w : Wish) (ty ty' : PageType) (first first' k k' : ℕ) → IsOpening a w ty first k → IsOpening a w ty' first' k' →
    (ty ≡ ty') × (first ≡ first') × (k ≡ k')
opening_same a Nothing ty ty' first first' k k' one two = absurd one
opening_same a (Make kind n seed) ty ty' first first' k k' one two =
    let count : k ≡ k' = one.1 ∙ sym two.1 in
    let lowest : IsLowestRun a.pages first' k = subst (λ (x : ℕ). IsLowestRun a.pages first' x) (sym count) two.2 in
    (one.0 ∙ sym two.0, lowest_same a.pages first first' k one.2 lowest, count)

-- a region is not opened for an object that is refused
pub opening_or_refusal : (a : NamedHeap) (w : Wish) (ty : PageType) (first k : ℕ) → IsOpening a w ty first k → HasNoRun a.pages (pages_needed (wished_size w)) → ⊥
opening_or_refusal a Nothing ty first k opening none = opening
opening_or_refusal a (Make kind n seed) ty first k opening none =
    none first (subst (λ (x : ℕ). IsFreeRun a.pages first x) opening.1 opening.2.run)

-- an answer is one
pub answer_same : (a : NamedHeap) (t : ℕ) (c : Command) (x y : Answer) (n : Next) → IsAnswer a t c x n → IsAnswer a t c y n → x ≡ y
answer_same a t c x y nexts.Simple one two = one ∙ sym two
answer_same a t c x y nexts.Open one two = one.0 ∙ sym two.0
answer_same a t c x y (nexts.Build kind n seed) one two = one ∙ sym two
answer_same a t c x y (nexts.Collect last) one two = absurd one
answer_same a t c x y nexts.End one two = absurd one
answer_same a t c x y nexts.Done one two = absurd one

pub did_did : (p : Program) (a : NamedHeap) (t : ℕ) (c d : Command) (x y : Answer) → IsNext p a (Did t c x) → IsNext p a (Did t d y) → (c ≡ d) × (x ≡ y)
unfolding IsNext
did_did p a t c d x y one two =
    let same : c ≡ d = same_Some c d (sym one.0 ∙ two.0) in
    let two' : IsAnswer a t c y (next p a t) = subst (λ (z : Command). IsAnswer a t z y (next p a t)) (sym same) two.1 in
    (same, answer_same a t c x y (next p a t) one.1 two')

pub did_opened : (p : Program) (a : NamedHeap) (t : ℕ) (c : Command) (x : Answer) (ty : PageType) (first k : ℕ) → IsNext p a (Did t c x) →
    IsNext p a (Opened t ty first k) → ⊥
unfolding IsNext
did_opened p a t c x ty first k one two =
    let answered : IsAnswer a t c x nexts.Open = rw two.0 at one.1 in
    let opening : IsOpening a (wish_of c) ty first k = subst (λ (o : Option Command). IsOpening a (wish_at o) ty first k) one.0 two.1 in
    opening_or_refusal a (wish_of c) ty first k opening answered.1

pub did_ended : (p : Program) (a : NamedHeap) (t : ℕ) (c : Command) (x : Answer) → IsNext p a (Did t c x) → IsNext p a (Ended t) → ⊥
unfolding IsNext
did_ended p a t c x one two = rw two at one.1

pub opened_opened : (p : Program) (a : NamedHeap) (t : ℕ) (ty ty' : PageType) (first first' k k' : ℕ) → IsNext p a (Opened t ty first k) →
    IsNext p a (Opened t ty' first' k') → (ty ≡ ty') × (first ≡ first') × (k ≡ k')
unfolding IsNext
opened_opened p a t ty ty' first first' k k' one two = opening_same a (wish_at (command_at p a t)) ty ty' first first' k k' one.1 two.1

pub opened_ended : (p : Program) (a : NamedHeap) (t : ℕ) (ty : PageType) (first k : ℕ) → IsNext p a (Opened t ty first k) → IsNext p a (Ended t) → ⊥
unfolding IsNext
opened_ended p a t ty first k one two = (let never : nexts.Open ≡ nexts.End = sym one.0 ∙ two in cc)

pub did_collected : (p : Program) (a : NamedHeap) (t : ℕ) (c : Command) (x : Answer) (last : ℕ) (passes : List PassRecord) → IsNext p a (Did t c x) →
    IsNext p a (Collected t last passes) → ⊥
unfolding IsNext
did_collected p a t c x last passes one two = rw two.0 at one.1

pub opened_collected : (p : Program) (a : NamedHeap) (t : ℕ) (ty : PageType) (first k last : ℕ) (passes : List PassRecord) → IsNext p a (Opened t ty first k) →
    IsNext p a (Collected t last passes) → ⊥
unfolding IsNext
opened_collected p a t ty first k last passes one two = (let never : nexts.Open ≡ nexts.Collect last = sym one.0 ∙ two.0 in cc)

pub collected_ended : (p : Program) (a : NamedHeap) (t last : ℕ) (passes : List PassRecord) → IsNext p a (Collected t last passes) → IsNext p a (Ended t) → ⊥
unfolding IsNext
collected_ended p a t last passes one two = (let never : nexts.Collect last ≡ nexts.End = sym one.0 ∙ two in cc)

pub collected_collected : (p : Program) (a : NamedHeap) (t last last' : ℕ) (passes passes' : List PassRecord) → IsNext p a (Collected t last passes) →
    IsNext p a (Collected t last' passes') → map order_of passes ≡ map order_of passes' → (last ≡ last') × (passes ≡ passes')
unfolding IsNext
collected_collected p a t last last' passes passes' one two orders =
    let same : nexts.Collect last ≡ nexts.Collect last' = sym one.0 ∙ two.0 in
    let is : last ≡ last' = cc in
    let two' : ArePasses (closed a) last 0 passes' = subst (λ (x : ℕ). ArePasses (closed a) x 0 passes') (sym is) two.1.passes in
    (is, passes_determined (closed a) last 0 passes passes' one.1.passes two' orders)

-- two events of one thread that may come next are the same, where their passes took their names in the same orders
pub one_next : (p : Program) (a : NamedHeap) (e f : Event) → IsNext p a e → IsNext p a f → thread_of e ≡ thread_of f → orders_of e ≡ orders_of f → e ≡ f
one_next p a (Did t c x) (Did u d y) one two same orders =
    let two' : IsNext p a (Did t d y) = subst (λ (v : ℕ). IsNext p a (Did v d y)) (sym same) two in
    let parts = did_did p a t c d x y one two' in cc
one_next p a (Did t c x) (Opened u ty first k) one two same orders =
    absurd (did_opened p a t c x ty first k one (subst (λ (v : ℕ). IsNext p a (Opened v ty first k)) (sym same) two))
one_next p a (Did t c x) (Collected u last passes) one two same orders =
    absurd (did_collected p a t c x last passes one (subst (λ (v : ℕ). IsNext p a (Collected v last passes)) (sym same) two))
one_next p a (Did t c x) (Ended u) one two same orders =
    absurd (did_ended p a t c x one (subst (λ (v : ℕ). IsNext p a (Ended v)) (sym same) two))
one_next p a (Opened t ty first k) (Did u d y) one two same orders =
    absurd (did_opened p a t d y ty first k (subst (λ (v : ℕ). IsNext p a (Did v d y)) (sym same) two) one)
one_next p a (Opened t ty first k) (Opened u ty' first' k') one two same orders =
    let two' : IsNext p a (Opened t ty' first' k') = subst (λ (v : ℕ). IsNext p a (Opened v ty' first' k')) (sym same) two in
    let parts = opened_opened p a t ty ty' first first' k k' one two' in cc
one_next p a (Opened t ty first k) (Collected u last passes) one two same orders =
    absurd (opened_collected p a t ty first k last passes one (subst (λ (v : ℕ). IsNext p a (Collected v last passes)) (sym same) two))
one_next p a (Opened t ty first k) (Ended u) one two same orders =
    absurd (opened_ended p a t ty first k one (subst (λ (v : ℕ). IsNext p a (Ended v)) (sym same) two))
one_next p a (Collected t last passes) (Did u d y) one two same orders =
    absurd (did_collected p a t d y last passes (subst (λ (v : ℕ). IsNext p a (Did v d y)) (sym same) two) one)
one_next p a (Collected t last passes) (Opened u ty first k) one two same orders =
    absurd (opened_collected p a t ty first k last passes (subst (λ (v : ℕ). IsNext p a (Opened v ty first k)) (sym same) two) one)
one_next p a (Collected t last passes) (Collected u last' passes') one two same orders =
    let two' : IsNext p a (Collected t last' passes') = subst (λ (v : ℕ). IsNext p a (Collected v last' passes')) (sym same) two in
    let parts = collected_collected p a t last last' passes passes' one two' orders in cc
one_next p a (Collected t last passes) (Ended u) one two same orders =
    absurd (collected_ended p a t last passes one (subst (λ (v : ℕ). IsNext p a (Ended v)) (sym same) two))
one_next p a (Ended t) (Did u d y) one two same orders =
    absurd (did_ended p a t d y (subst (λ (v : ℕ). IsNext p a (Did v d y)) (sym same) two) one)
one_next p a (Ended t) (Opened u ty first k) one two same orders =
    absurd (opened_ended p a t ty first k (subst (λ (v : ℕ). IsNext p a (Opened v ty first k)) (sym same) two) one)
one_next p a (Ended t) (Collected u last passes) one two same orders =
    absurd (collected_ended p a t last passes (subst (λ (v : ℕ). IsNext p a (Collected v last passes)) (sym same) two) one)
one_next p a (Ended t) (Ended u) one two same orders = ap (λ (v : ℕ). Ended v) same

-- two lawful lists of events with the same threads and the same orders are the same
pub one_history_from : (p : Program) (a : NamedHeap) (h g : List Event) → LawfulFrom p a h → LawfulFrom p a g → map thread_of h ≡ map thread_of g →
    map orders_of h ≡ map orders_of g → h ≡ g
one_history_from p a [] [] one two same orders = refl
one_history_from p a [] (f ∷ fs) one two same orders = cc
one_history_from p a (e ∷ es) [] one two same orders = cc
one_history_from p a (e ∷ es) (f ∷ fs) one two same orders =
    let first : thread_of e ≡ thread_of f = cc in
    let others : map thread_of es ≡ map thread_of fs = cc in
    let order : orders_of e ≡ orders_of f = cc in
    let rest_orders : map orders_of es ≡ map orders_of fs = cc in
    let event : e ≡ f = one_next p a e f one.0 two.0 first order in
    let two' : LawfulFrom p (after p a e) fs = subst (λ (x : Event). LawfulFrom p (after p a x) fs) (sym event) two.1 in
    let rest : es ≡ fs = one_history_from p (after p a e) es fs one.1 two' others rest_orders in
    cc

pub one_history : (p : Program) (h g : List Event) → Lawful p h → Lawful p g → map thread_of h ≡ map thread_of g → map orders_of h ≡ map orders_of g → h ≡ g
one_history p h g one two same orders = one_history_from p (start p) h g one two same orders
