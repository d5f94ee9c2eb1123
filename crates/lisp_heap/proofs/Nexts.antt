-- What a thread of a well-formed heap does next, and that what it builds has room in a parcel that agrees.
use Rattle.std.proofs.Common.{◌≡◌, ℕ, ◌+◌, ◌*◌, ◌<◌, ◌≤◌, List, length, subst, ap, ◌∙◌, sym, refl, Option, Some, None, Bool, true, false, option_map, inl, inr}
use Rattle.std.proofs.lemmas.Bool.{cases_lt, le-leb}
use Rattle.std.proofs.lemmas.List.{get_or_past}
use Rattle.std.specs.Prelude.{if◌then◌else◌}
use Rattle.heap_terms.specs.declared.commands.Command.{Command}
use Rattle.heap_terms.specs.declared.kinds.Kind.{Kind}
use Rattle.heap_terms.specs.declared.kinds.PageType.{PageType}
use Rattle.heap_terms.specs.declared.kinds.PageType.TheVariants as types
use Rattle.heap_terms.specs.declared.pages.Entry.{Entry}
use Rattle.heap_terms.specs.declared.pages.Entry.TheVariants.{Free}
use Rattle.heap_terms.specs.declared.pages.Next.TheVariants as nexts
use Rattle.heap_terms.specs.declared.programs.Program.{Program}
use Rattle.heap_terms.specs.Heap.{NamedHeap, Thread, thread_at, entry_at, fill_of, open_page}
use Rattle.heap_terms.specs.Histories.{command_at, next, next_command, next_for, next_unless_due, due}
use Rattle.heap_terms.specs.Layout.{page_words, page_type_of, size_of}
use Rattle.heap_terms.specs.Regions.{Wish, Nothing, Make, wish_of, has_room, is_small, page_has_room}
use Rattle.heap_terms.specs.Valid.{IsInRange}
use Rattle.heap_terms.specs.WellFormed.{IsWellFormed, IsOpenPage}
use Rattle.heap_laws.proofs.SoundHeaps.{open_page_used}
use Rattle.lisp_heap.specs.Agreement.{Agrees, CanBuild, small_out}
use Rattle.lisp_heap.specs.ParcelView.{ParcelView, LeaseView, place_of, small_region}
use Rattle.lisp_heap.specs.State.{state_of, state_page}
use Rattle.lisp_heap.specs.declared.states.ThreadState.{ThreadState}
use Rattle.lisp_heap.proofs.Rooms.{some_place, small_agrees, has_room_in}
use Rattle.lisp_heap.proofs.Wanted.{wish_making}

pub next_done : (p : Program) (a : NamedHeap) (t : ℕ) → (thread_at a t).ended ≡ true → nexts.Done ≡ next p a t
unfolding next
next_done p a t e = ap (λ (b : Bool). if b then nexts.Done else next_unless_due (due (thread_at a t)) (next_command a t (command_at p a t))) (sym e)

pub next_alive : (p : Program) (a : NamedHeap) (t : ℕ) → (thread_at a t).ended ≡ false → due (thread_at a t) ≡ None →
    next_command a t (command_at p a t) ≡ next p a t
unfolding next
next_alive p a t e free =
    ap (λ (o : Option ℕ). next_unless_due o (next_command a t (command_at p a t))) (sym free)
    ∙ ap (λ (b : Bool). if b then nexts.Done else next_unless_due (due (thread_at a t)) (next_command a t (command_at p a t))) (sym e)

-- what is due comes first
pub next_collects : (p : Program) (a : NamedHeap) (t last : ℕ) → (thread_at a t).ended ≡ false → due (thread_at a t) ≡ Some last →
    nexts.Collect last ≡ next p a t
unfolding next
next_collects p a t last e is_due =
    ap (λ (o : Option ℕ). next_unless_due o (next_command a t (command_at p a t))) (sym is_due)
    ∙ ap (λ (b : Bool). if b then nexts.Done else next_unless_due (due (thread_at a t)) (next_command a t (command_at p a t))) (sym e)

-- an open page is a page
open_entry_below : (ty : PageType) (page : ℕ) (pages : List Entry) → IsOpenPage ty page (entry_at pages page) → page < length pages
open_entry_below ty page pages h = elim (cases_lt page (length pages)) [
  | inl l ↦ l
  | inr r ↦ absurd (subst (λ (e : Entry). IsOpenPage ty page e) (get_or_past pages page Free r) h)
]

pub open_page_below : (p : Program) (a : NamedHeap) (t : ℕ) (ty : PageType) → IsWellFormed p a →
    (page : ℕ) → open_page (thread_at a t) ty ≡ Some page → page < length a.pages
open_page_below p a t ty wf page e = open_entry_below ty page a.pages (open_page_used p a t ty page wf e)

-- a region that lies on a page and is filled as far as the page
pub lies_on : (r : LeaseView) (pages : List Entry) (page : ℕ) → r.first ≡ page → r.pages ≡ 1 →
    r.next ≡ page_words * page + fill_of (entry_at pages page) → place_of r ≡ small_out pages page
lies_on r pages page first one next_is = cc

-- the open region of a type in a parcel that agrees lies on the open page
pub small_on : (a : NamedHeap) (q : ParcelView) (ty : PageType) (page : ℕ) → Agrees a q → open_page (thread_at a q.owner) ty ≡ Some page →
    (r : LeaseView) × (small_region q ty ≡ Some r) × (place_of r ≡ small_out a.pages page)
small_on a q ty page agrees e =
    some_place (small_region q ty) (small_out a.pages page) (small_agrees a q ty agrees ∙ ap (option_map (small_out a.pages)) e)

-- what a thread builds next has room in its parcel
build_for : (p : Program) (a : NamedHeap) (t : ℕ) (c : Command) (q : ParcelView) → IsWellFormed p a → IsInRange c → q.owner ≡ t → Agrees a q →
    (w : Wish) → wish_of c ≡ w → CanBuild (next_for a t w) q
build_for p a t c q wf in_range owner agrees Nothing e = tt
build_for p a t c q wf in_range owner agrees (Make kind n seed) e = by_room (has_room a t kind (size_of kind n)) refl
  where
    by_room : (b : Bool) → has_room a t kind (size_of kind n) ≡ b → CanBuild (if b then nexts.Build kind n seed else nexts.Open) q
    by_room false room = tt
    by_room true room =
        (has_room_in p a q kind n wf agrees (ap (λ (u : ℕ). has_room a u kind (size_of kind n)) owner ∙ room), wish_making c kind n seed in_range e)

pub can_build : (p : Program) (a : NamedHeap) (t : ℕ) (c : Command) (q : ParcelView) → IsWellFormed p a → IsInRange c → q.owner ≡ t → Agrees a q →
    CanBuild (next_for a t (wish_of c)) q
can_build p a t c q wf in_range owner agrees = build_for p a t c q wf in_range owner agrees (wish_of c) refl

-- whether there is room, by a state of a thread
pub state_page_is : (th : Thread) (ty : PageType) → state_page (state_of th) ty ≡ open_page th ty
state_page_is th types.Cons = refl
state_page_is th types.Boxed = refl
state_page_is th types.Unboxed = refl

pub room_small : (a : NamedHeap) (t : ℕ) (state : ThreadState) (kind : Kind) (size : ℕ) (b : Bool) → size ≤ page_words → state ≡ state_of (thread_at a t) →
    b ≡ page_has_room a.pages (state_page state (page_type_of kind)) size → b ≡ has_room a t kind size
room_small a t state kind size b fits known is =
    let small : is_small size ≡ true = le-leb size page_words fits in
    is ∙ ap (λ (x : ThreadState). page_has_room a.pages (state_page x (page_type_of kind)) size) known
    ∙ ap (λ (o : Option ℕ). page_has_room a.pages o size) (state_page_is (thread_at a t) (page_type_of kind))
    ∙ rw small refl
