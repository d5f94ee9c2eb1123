-- The kinds of event that may come next, with what is known of each.
use Rattle.std.proofs.Common.{◌≡◌, ◌≢◌, ℕ, ◌<◌, List, length, Option, Some, None, Bool, true, false, inl, inr, refl, sym, ◌∙◌, subst, ap}
use Rattle.std.proofs.lemmas.Bool.{cases_lt, cases_Bool, false≢true}
use Rattle.std.proofs.lemmas.List.{get_or_past}
use Rattle.std.specs.Prelude.{if◌then◌else◌, ◌==◌}
use Rattle.heap_terms.specs.declared.answers.Answer.{Answer}
use Rattle.heap_terms.specs.declared.answers.Answer.TheVariants as answers
use Rattle.heap_terms.specs.declared.answers.Refusal.TheVariants.{Exhausted}
use Rattle.heap_terms.specs.declared.commands.Command.{Command}
use Rattle.heap_terms.specs.declared.commands.Command.TheVariants as commands
use Rattle.heap_terms.specs.declared.events.Event.{Event}
use Rattle.heap_terms.specs.declared.events.Event.TheVariants.{Did, Opened, Collected, Ended}
use Rattle.heap_terms.specs.declared.events.PassRecord.{PassRecord}
use Rattle.heap_terms.specs.declared.kinds.Kind.{Kind}
use Rattle.heap_terms.specs.declared.kinds.PageType.{PageType}
use Rattle.heap_terms.specs.declared.pages.Next.{Next}
use Rattle.heap_terms.specs.declared.pages.Next.TheVariants as nexts
use Rattle.heap_terms.specs.declared.programs.Program.{Program}
use Rattle.heap_terms.specs.Collections.{IsCollection, collected}
use Rattle.heap_terms.specs.Heap.{NamedHeap, Thread, thread_at, with_thread, ended_thread, fresh_thread}
use Rattle.heap_terms.specs.Histories.{IsNext, IsAnswer, IsOpening, after, after_command, next, next_for, next_command, next_unless_due, due, advance, command_at, wish_at}
use Rattle.heap_terms.specs.Layout.{page_type_of, size_of}
use Rattle.heap_terms.specs.Regions.{Wish, Nothing, Make, wish_of, has_room, pages_needed, IsLowestRun, HasNoRun, opened, committed, place_for}
use Rattle.heap_terms.specs.Outcome.{Outcome, refused}
use Rattle.heap_terms.specs.Outcomes.{outcome_of}

-- a thread that has not ended is one of the heap's
pub alive_thread : (a : NamedHeap) (t : ℕ) → (thread_at a t).ended ≡ false → t < length a.threads
alive_thread a t alive = elim (cases_lt t (length a.threads)) [
  | inl h ↦ h
  | inr h ↦ absurd (false≢true (sym alive ∙ ap (λ (th : Thread). th.ended) (get_or_past a.threads t (ended_thread fresh_thread) h)))
]

-- thread t does the command c, which allocates nothing
pub record DoesSimple (p : Program) (a : NamedHeap) (t : ℕ) (c : Command) (answer : Answer) : Type 0 where
  pub alive : (thread_at a t).ended ≡ false
  pub command : command_at p a t ≡ Some c
  pub wish : wish_of c ≡ Nothing
  pub answered : answer ≡ (outcome_of a t c).answer

-- thread t does the command c, which wants an object for which there is no room and no run
pub record IsRefused (p : Program) (a : NamedHeap) (t : ℕ) (c : Command) (answer : Answer) : Type 0 where
  pub alive : (thread_at a t).ended ≡ false
  pub command : command_at p a t ≡ Some c
  pub kind : Kind
  pub n : ℕ
  pub seed : ℕ
  pub wish : wish_of c ≡ Make kind n seed
  pub no_room : has_room a t kind (size_of kind n) ≡ false
  pub answered : answer ≡ answers.Refused Exhausted
  pub no_run : HasNoRun a.pages (pages_needed (size_of kind n))

-- thread t does the command c, which makes an object for which there is room
pub record Builds (p : Program) (a : NamedHeap) (t : ℕ) (c : Command) (answer : Answer) (kind : Kind) (n seed : ℕ) : Type 0 where
  pub alive : (thread_at a t).ended ≡ false
  pub command : command_at p a t ≡ Some c
  pub wish : wish_of c ≡ Make kind n seed
  pub room : has_room a t kind (size_of kind n) ≡ true
  pub answered : answer ≡ answers.Placed (length a.objects) (place_for a t kind (size_of kind n))

-- thread t opens a region for its command c
pub record Opens (p : Program) (a : NamedHeap) (t : ℕ) (ty : PageType) (first k : ℕ) : Type 0 where
  pub alive : (thread_at a t).ended ≡ false
  pub c : Command
  pub command : command_at p a t ≡ Some c
  pub kind : Kind
  pub n : ℕ
  pub seed : ℕ
  pub wish : wish_of c ≡ Make kind n seed
  pub no_room : has_room a t kind (size_of kind n) ≡ false
  pub type_is : ty ≡ page_type_of kind
  pub count_is : k ≡ pages_needed (size_of kind n)
  pub lowest : IsLowestRun a.pages first k
  pub free : due (thread_at a t) ≡ None

-- thread t collects up to a generation, with these passes
pub record Collects (p : Program) (a : NamedHeap) (t last : ℕ) (passes : List PassRecord) : Type 0 where
  pub alive : (thread_at a t).ended ≡ false
  pub owes : (thread_at a t).owed ≡ Some last
  pub collection : IsCollection a last passes

-- thread t ends
pub record Ends (p : Program) (a : NamedHeap) (t : ℕ) : Type 0 where
  pub alive : (thread_at a t).ended ≡ false
  pub no_command : command_at p a t ≡ None

-- what follows from what a thread does for a wish
pub room_if_builds : (b : Bool) (k kind : Kind) (m n s seed : ℕ) → (if b then nexts.Build k m s else nexts.Open) ≡ nexts.Build kind n seed →
    (b ≡ true) × (Make k m s ≡ Make kind n seed)
room_if_builds true k kind m n s seed e = (refl, cc)
room_if_builds false k kind m n s seed e = cc

pub room_if_opens : (b : Bool) (k : Kind) (m s : ℕ) → (if b then nexts.Build k m s else nexts.Open) ≡ nexts.Open → b ≡ false
room_if_opens true k m s e = cc
room_if_opens false k m s e = refl

pub never_simple : (b : Bool) (k : Kind) (m s : ℕ) → (if b then nexts.Build k m s else nexts.Open) ≡ nexts.Simple → ⊥
never_simple true k m s e = cc
never_simple false k m s e = cc

pub never_ends : (b : Bool) (k : Kind) (m s : ℕ) → (if b then nexts.Build k m s else nexts.Open) ≡ nexts.End → ⊥
never_ends true k m s e = cc
never_ends false k m s e = cc

pub builds_for : (a : NamedHeap) (t : ℕ) (w : Wish) (kind : Kind) (n seed : ℕ) → next_for a t w ≡ nexts.Build kind n seed →
    (w ≡ Make kind n seed) × (has_room a t kind (size_of kind n) ≡ true)
builds_for a t Nothing kind n seed e = cc
builds_for a t (Make k m s) kind n seed e =
    let parts = room_if_builds (has_room a t k (size_of k m)) k kind m n s seed e in
    let same_kind : k ≡ kind = cc in
    let same_n : m ≡ n = cc in
    (parts.1, rw (← same_kind, ← same_n) parts.0)

pub opens_for : (a : NamedHeap) (t : ℕ) (w : Wish) → next_for a t w ≡ nexts.Open →
    (kind : Kind) × (n : ℕ) × (seed : ℕ) × (w ≡ Make kind n seed) × (has_room a t kind (size_of kind n) ≡ false)
opens_for a t Nothing e = cc
opens_for a t (Make k m s) e = (k, m, s, refl, room_if_opens (has_room a t k (size_of k m)) k m s e)

pub simple_for : (a : NamedHeap) (t : ℕ) (w : Wish) → next_for a t w ≡ nexts.Simple → w ≡ Nothing
simple_for a t Nothing e = refl
simple_for a t (Make k m s) e = absurd (never_simple (has_room a t k (size_of k m)) k m s e)

pub never_ends_for : (a : NamedHeap) (t : ℕ) (w : Wish) → next_for a t w ≡ nexts.End → ⊥
never_ends_for a t Nothing e = cc
never_ends_for a t (Make k m s) e = never_ends (has_room a t k (size_of k m)) k m s e

pub never_collects_for : (a : NamedHeap) (t : ℕ) (w : Wish) (last : ℕ) → next_for a t w ≡ nexts.Collect last → ⊥
never_collects_for a t Nothing last e = cc
never_collects_for a t (Make k m s) last e = elim (cases_Bool (has_room a t k (size_of k m))) [
  | inl h ↦ (let e' = rw h at e in cc)
  | inr h ↦ (let e' = rw h at e in cc)
]

pub never_collects_command : (a : NamedHeap) (t : ℕ) (o : Option Command) (last : ℕ) → next_command a t o ≡ nexts.Collect last → ⊥
never_collects_command a t None last e = cc
never_collects_command a t (Some c) last e = never_collects_for a t (wish_of c) last e

-- a command that allocates is refused by the table, where it finds no room
pub allocating_refused : (a : NamedHeap) (t : ℕ) (c : Command) (kind : Kind) (n seed : ℕ) → wish_of c ≡ Make kind n seed → outcome_of a t c ≡ refused Exhausted a
unfolding outcome_of
allocating_refused a t (commands.NewCons d x y) kind n seed e = refl
allocating_refused a t (commands.NewVector d m) kind n seed e = refl
allocating_refused a t (commands.NewInstance d m) kind n seed e = refl
allocating_refused a t (commands.NewClosure d m) kind n seed e = refl
allocating_refused a t (commands.NewWords d m w) kind n seed e = refl
allocating_refused a t (commands.NewWeak d c) kind n seed e = refl
allocating_refused a t (commands.NewTable d w b) kind n seed e = refl
allocating_refused a t _ kind n seed e = cc

-- a next thing to do that is neither to collect nor nothing is that of the command at the thread's place
pub next_is_commands : (ended : Bool) (owed : Option ℕ) (n m : Next) → (if ended then nexts.Done else next_unless_due owed n) ≡ m →
    m ≢ nexts.Done → ((last : ℕ) → m ≢ nexts.Collect last) → (ended ≡ false) × (n ≡ m)
next_is_commands true owed n m e done collect = absurd (done (sym e))
next_is_commands false None n m e done collect = (refl, e)
next_is_commands false (Some last) n m e done collect = absurd (collect last (sym e))

-- and to collect is that of a thread that owes, and does not inhibit
pub collect_is_owed : (ended : Bool) (inhibits : ℕ) (owed : Option ℕ) (n : Next) (last : ℕ) →
    (if ended then nexts.Done else next_unless_due (if inhibits == 0 then owed else None) n) ≡ nexts.Collect last → (n ≡ nexts.Collect last → ⊥) →
    (ended ≡ false) × (owed ≡ Some last)
collect_is_owed true inhibits owed n last e other = cc
collect_is_owed false inhibits owed n last e other = elim (cases_Bool (inhibits == 0)) [
  | inl free ↦ (refl, due_is owed n last (rw free at e) other)
  | inr inhibited ↦ absurd (other (rw inhibited at e))
]
  where
    due_is : (owed : Option ℕ) (n : Next) (last : ℕ) → next_unless_due owed n ≡ nexts.Collect last → (n ≡ nexts.Collect last → ⊥) → owed ≡ Some last
    due_is None n last e other = absurd (other e)
    due_is (Some g) n last e other = cc

pub collects_next : (p : Program) (a : NamedHeap) (t last : ℕ) → next p a t ≡ nexts.Collect last → ((thread_at a t).ended ≡ false) × ((thread_at a t).owed ≡ Some last)
unfolding next
collects_next p a t last e = collect_is_owed (thread_at a t).ended (thread_at a t).inhibits (thread_at a t).owed (next_command a t (command_at p a t)) last e
    (never_collects_command a t (command_at p a t) last)

pub next_parts : (p : Program) (a : NamedHeap) (t : ℕ) (m : Next) → next p a t ≡ m →
    m ≢ nexts.Done → ((last : ℕ) → m ≢ nexts.Collect last) →
    ((thread_at a t).ended ≡ false) × (next_command a t (command_at p a t) ≡ m)
unfolding next
next_parts p a t m e done collect =
    next_is_commands (thread_at a t).ended (due (thread_at a t)) (next_command a t (command_at p a t)) m e done collect

-- and then nothing is due
pub next_is_free : (ended : Bool) (owed : Option ℕ) (n m : Next) → (if ended then nexts.Done else next_unless_due owed n) ≡ m →
    m ≢ nexts.Done → ((last : ℕ) → m ≢ nexts.Collect last) → owed ≡ None
next_is_free true owed n m e done collect = absurd (done (sym e))
next_is_free false None n m e done collect = refl
next_is_free false (Some last) n m e done collect = absurd (collect last (sym e))

pub next_free : (p : Program) (a : NamedHeap) (t : ℕ) (m : Next) → next p a t ≡ m →
    m ≢ nexts.Done → ((last : ℕ) → m ≢ nexts.Collect last) → due (thread_at a t) ≡ None
unfolding next
next_free p a t m e done collect =
    next_is_free (thread_at a t).ended (due (thread_at a t)) (next_command a t (command_at p a t)) m e done collect

-- a thread that has nothing left to do has ended
pub next_done : (p : Program) (a : NamedHeap) (t : ℕ) → next p a t ≡ nexts.Done → (thread_at a t).ended ≡ true
unfolding next
next_done p a t e = go (thread_at a t).ended (due (thread_at a t)) (command_at p a t) e
  where
    never_for : (w : Wish) → next_for a t w ≡ nexts.Done → ⊥
    never_for Nothing e = cc
    never_for (Make k m s) e = elim (cases_Bool (has_room a t k (size_of k m))) [
      | inl h ↦ (let e' = rw h at e in cc)
      | inr h ↦ (let e' = rw h at e in cc)
    ]

    never : (o : Option Command) → next_command a t o ≡ nexts.Done → ⊥
    never None e = cc
    never (Some c) e = never_for (wish_of c) e

    go : (ended : Bool) (owed : Option ℕ) (o : Option Command) → (if ended then nexts.Done else next_unless_due owed (next_command a t o)) ≡ nexts.Done → ended ≡ true
    go true owed o e = refl
    go false None o e = absurd (never o e)
    go false (Some last) o e = cc

pub next_with_command : (a : NamedHeap) (t : ℕ) (o : Option Command) (c : Command) (m : Next) → o ≡ Some c → next_command a t o ≡ m →
    next_for a t (wish_of c) ≡ m
next_with_command a t None c m o e = cc
next_with_command a t (Some d) c m o e = let same : d ≡ c = cc in rw (← same) e

-- the kinds of command that may come next
pub by_command : (p : Program) (a : NamedHeap) (t : ℕ) (c : Command) (answer : Answer) (P : NamedHeap → Type 0) →
    (DoesSimple p a t c answer → P (advance (outcome_of a t c).heap t)) →
    (IsRefused p a t c answer → P (advance a t)) →
    ((kind : Kind) (n seed : ℕ) → Builds p a t c answer kind n seed → P (advance (committed p a t c kind n) t)) →
    (m : Next) → next p a t ≡ m → command_at p a t ≡ Some c → IsAnswer a t c answer m → P (after_command p a t c m)
by_command p a t c answer P simple refuses builds nexts.Simple e at answered =
    let parts = next_parts p a t nexts.Simple e (λ d. cc) (λ last d. cc) in
    simple (record {
      alive = parts.0;
      command = at;
      wish = simple_for a t (wish_of c) (next_with_command a t (command_at p a t) c nexts.Simple at parts.1);
      answered = answered;
    })
by_command p a t c answer P simple refuses builds nexts.Open e at answered =
    let parts = next_parts p a t nexts.Open e (λ d. cc) (λ last d. cc) in
    let wished = opens_for a t (wish_of c) (next_with_command a t (command_at p a t) c nexts.Open at parts.1) in
    let none = allocating_refused a t c wished.0 wished.1 wished.2 wished.3 in
    subst (λ (o : Outcome). P (advance o.heap t)) (sym none) (refuses (record {
      alive = parts.0;
      command = at;
      kind = wished.0;
      n = wished.1;
      seed = wished.2;
      wish = wished.3;
      no_room = wished.4;
      answered = answered.0 ∙ ap (λ (o : Outcome). o.answer) none;
      no_run = rw wished.3 at answered.1;
    }))
by_command p a t c answer P simple refuses builds (nexts.Build kind n seed) e at answered =
    let parts = next_parts p a t (nexts.Build kind n seed) e (λ d. cc) (λ last d. cc) in
    let wished = builds_for a t (wish_of c) kind n seed (next_with_command a t (command_at p a t) c (nexts.Build kind n seed) at parts.1) in
    builds kind n seed (record { alive = parts.0; command = at; wish = wished.0; room = wished.1; answered = answered })
by_command p a t c answer P simple refuses builds (nexts.Collect last) e at answered = absurd answered
by_command p a t c answer P simple refuses builds nexts.End e at answered = absurd answered
by_command p a t c answer P simple refuses builds nexts.Done e at answered = absurd answered

-- what an opening is for
pub opens_at : (a : NamedHeap) (o : Option Command) (ty : PageType) (first k : ℕ) → IsOpening a (wish_at o) ty first k →
    (c : Command) × (o ≡ Some c)
opens_at a None ty first k opening = absurd opening
opens_at a (Some c) ty first k opening = (c, refl)

pub ends_at : (a : NamedHeap) (t : ℕ) (o : Option Command) → next_command a t o ≡ nexts.End → o ≡ None
ends_at a t None e = refl
ends_at a t (Some c) e = absurd (never_ends_for a t (wish_of c) e)

pub opens_from : (p : Program) (a : NamedHeap) (t : ℕ) (ty : PageType) (first k : ℕ) → IsNext p a (Opened t ty first k) → Opens p a t ty first k
unfolding IsNext
opens_from p a t ty first k e =
    let parts = next_parts p a t nexts.Open e.0 (λ d. cc) (λ last d. cc) in
    let at = opens_at a (command_at p a t) ty first k e.1 in
    let wished = opens_for a t (wish_of at.0) (next_with_command a t (command_at p a t) at.0 nexts.Open at.1 parts.1) in
    let opening : IsOpening a (wish_of at.0) ty first k = rw at.1 at e.1 in
    let opening' : IsOpening a (Make wished.0 wished.1 wished.2) ty first k = rw wished.3 at opening in
    record {
      alive = parts.0;
      c = at.0;
      command = at.1;
      kind = wished.0;
      n = wished.1;
      seed = wished.2;
      wish = wished.3;
      no_room = wished.4;
      type_is = opening'.0;
      count_is = opening'.1;
      lowest = opening'.2;
      free = next_free p a t nexts.Open e.0 (λ d. cc) (λ last d. cc);
    }

pub collects_from : (p : Program) (a : NamedHeap) (t last : ℕ) (passes : List PassRecord) → IsNext p a (Collected t last passes) → Collects p a t last passes
unfolding IsNext
collects_from p a t last passes e =
    let parts = collects_next p a t last e.0 in
    record { alive = parts.0; owes = parts.1; collection = e.1 }

pub ends_from : (p : Program) (a : NamedHeap) (t : ℕ) → IsNext p a (Ended t) → Ends p a t
unfolding IsNext
ends_from p a t e =
    let parts = next_parts p a t nexts.End e (λ d. cc) (λ last d. cc) in
    record { alive = parts.0; no_command = ends_at a t (command_at p a t) parts.1 }

-- what holds of every event that may come next and the heap after it, by the six kinds of event
pub by_events : (p : Program) (a : NamedHeap) (P : Event → NamedHeap → Type 0) →
    ((t : ℕ) (c : Command) (answer : Answer) → DoesSimple p a t c answer → P (Did t c answer) (advance (outcome_of a t c).heap t)) →
    ((t : ℕ) (c : Command) (answer : Answer) → IsRefused p a t c answer → P (Did t c answer) (advance a t)) →
    ((t : ℕ) (c : Command) (answer : Answer) (kind : Kind) (n seed : ℕ) → Builds p a t c answer kind n seed →
    P (Did t c answer) (advance (committed p a t c kind n) t)) →
    ((t : ℕ) (ty : PageType) (first k : ℕ) → Opens p a t ty first k → P (Opened t ty first k) (opened a t ty first k)) →
    ((t last : ℕ) (passes : List PassRecord) → Collects p a t last passes → P (Collected t last passes) (collected a t last passes)) →
    ((t : ℕ) → Ends p a t → P (Ended t) (with_thread a t (ended_thread (thread_at a t)))) →
    (e : Event) → IsNext p a e → P e (after p a e)
unfolding IsNext after
by_events p a P simple refuses builds opens collects ends (Did t c answer) e =
    by_command p a t c answer (P (Did t c answer)) (simple t c answer) (refuses t c answer) (builds t c answer) (next p a t) refl e.0 e.1
by_events p a P simple refuses builds opens collects ends (Opened t ty first k) e = opens t ty first k (opens_from p a t ty first k e)
by_events p a P simple refuses builds opens collects ends (Collected t last passes) e = collects t last passes (collects_from p a t last passes e)
by_events p a P simple refuses builds opens collects ends (Ended t) e = ends t (ends_from p a t e)
