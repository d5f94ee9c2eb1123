-- Whether a section goes on after an event.
use Rattle.std.proofs.Common.{◌≡◌, ◌≢◌, ℕ, Bool, true, false, refl, sym, ◌∙◌, ap, subst}
use Rattle.std.specs.Prelude.{◌==◌, ◌||◌, not, if◌then◌else◌, option_map}
use Rattle.heap_terms.specs.declared.events.Event.{Event}
use Rattle.heap_terms.specs.declared.events.Event.TheVariants.{Did, Opened, Collected, Ended}
use Rattle.heap_terms.specs.declared.kinds.Kind.{Kind}
use Rattle.heap_terms.specs.declared.kinds.PageType.{PageType}
use Rattle.heap_terms.specs.declared.kinds.PageType.TheVariants as types
use Rattle.heap_terms.specs.declared.pages.Next.TheVariants as nexts
use Rattle.heap_terms.specs.declared.programs.Program.{Program}
use Rattle.heap_terms.specs.Heap.{NamedHeap, thread_at}
use Rattle.heap_terms.specs.Histories.{IsNext, IsOpening, next, thread_of, wish_at, wished_size, command_at}
use Rattle.heap_terms.specs.MachineTurns.{opens}
use Rattle.heap_terms.specs.Regions.{is_small, Wish, Nothing, Make, wish_of, pages_needed, HasNoRun, IsFreeRun}
use Rattle.lisp_heap.specs.Agreement.{HasRunFor}
use Rattle.lisp_heap.specs.Events.{Happens}
use Rattle.heap_terms.specs.Layout.{page_type_of, size_of}
use Rattle.lisp_heap.specs.ParcelView.{ParcelView, region_built, small_built, with_built}
use Rattle.lisp_heap.specs.declared.parcels.Making.{Making}
use Rattle.lisp_heap.specs.View.{View, heap_of, next_of}
use Rattle.heap_turns.specs.Turns.{HappensInside}

-- a thread that opens nothing next opens nothing
pub not_opened : (p : Program) (a : NamedHeap) (e : Event) → IsNext p a e → next p a (thread_of e) ≢ nexts.Open → opens e ≡ false
unfolding IsNext
not_opened p a (Did t c answer) lawful other = refl
not_opened p a (Opened t ty first k) lawful other = absurd (other lawful.0)
not_opened p a (Collected t last passes) lawful other = refl
not_opened p a (Ended t) lawful other = refl

-- what an event that opens nothing means for its section
pub inside_if : (t : ℕ) (old new : View) (stays : Bool) (h : Happens t old new) → opens h.event ≡ false →
    stays ≡ not ((thread_at (heap_of new) t).inhibits == 0) → HappensInside t old new stays
inside_if t old new stays h none is = record {
  happens = h;
  goes_on = is
      ∙ ap (λ (u : ℕ). not ((thread_at (heap_of new) u).inhibits == 0)) (sym h.thread)
      ∙ ap (λ (b : Bool). b || not ((thread_at (heap_of new) (thread_of h.event)).inhibits == 0)) (sym none);
}

pub inside_unless_open : (t : ℕ) (old new : View) (stays : Bool) → (h : Happens t old new) → next_of old t ≢ nexts.Open →
    stays ≡ not ((thread_at (heap_of new) t).inhibits == 0) → HappensInside t old new stays
inside_unless_open t old new stays h other is =
    inside_if t old new stays h (not_opened old.program (heap_of old) h.event h.lawful (λ e. other (ap (next_of old) (sym h.thread) ∙ e))) is

-- where there is a run the event that opens next opens it
pub is_opened : (p : Program) (a : NamedHeap) (e : Event) (first : ℕ) → IsNext p a e → next p a (thread_of e) ≡ nexts.Open →
    IsFreeRun a.pages first (pages_needed (wished_size (wish_at (command_at p a (thread_of e))))) → opens e ≡ true
unfolding IsNext
is_opened p a (Did t c answer) first lawful is run =
    let none : HasNoRun a.pages (pages_needed (wished_size (wish_of c))) = (rw is at lawful.1).1 in
    absurd (none first (rw lawful.0 at run))
is_opened p a (Opened t ty first' k) first lawful is run = refl
is_opened p a (Collected t last passes) first lawful is run = (let never : nexts.Open ≡ nexts.Collect last = sym is ∙ lawful.0 in cc)
is_opened p a (Ended t) first lawful is run = (let never : nexts.Open ≡ nexts.End = sym is ∙ lawful in cc)

pub inside_opened : (t : ℕ) (old new : View) → (h : Happens t old new) → next_of old t ≡ nexts.Open → HasRunFor old t → HappensInside t old new true
inside_opened t old new h is run =
    let there = subst (λ (u : ℕ). HasRunFor old u) (sym h.thread) run in
    record {
      happens = h;
      goes_on = ap (λ (b : Bool). b || not ((thread_at (heap_of new) (thread_of h.event)).inhibits == 0))
          (sym (is_opened old.program (heap_of old) h.event there.0 h.lawful (ap (next_of old) h.thread ∙ is) there.1));
    }

-- and where there is none it does not
pub none_opened : (p : Program) (a : NamedHeap) (e : Event) → IsNext p a e →
    ((first : ℕ) → ¬ IsFreeRun a.pages first (pages_needed (wished_size (wish_at (command_at p a (thread_of e)))))) → opens e ≡ false
unfolding IsNext
none_opened p a (Did t c answer) lawful none = refl
none_opened p a (Opened t ty first k) lawful none = absurd (by_wish (wish_at (command_at p a t)) lawful.1 none)
  where
    by_wish : (w : Wish) → IsOpening a w ty first k → ((f : ℕ) → ¬ IsFreeRun a.pages f (pages_needed (wished_size w))) → ⊥
    by_wish Nothing opening never = opening
    by_wish (Make kind n seed) opening never = never first (subst (λ (m : ℕ). IsFreeRun a.pages first m) opening.1 opening.2.run)
none_opened p a (Collected t last passes) lawful none = refl
none_opened p a (Ended t) lawful none = refl

pub inside_exhausted : (t : ℕ) (old new : View) (stays : Bool) → (h : Happens t old new) → (¬ HasRunFor old t) →
    stays ≡ not ((thread_at (heap_of new) t).inhibits == 0) → HappensInside t old new stays
inside_exhausted t old new stays h none is =
    inside_if t old new stays h (none_opened old.program (heap_of old) h.event h.lawful
    (λ first run. none (subst (λ (u : ℕ). HasRunFor old u) h.thread (first, run)))) is

-- what is built in a parcel leaves its owner
pub built_owner : (q : ParcelView) (kind : Kind) (n seed : ℕ) → (with_built q kind n seed).owner ≡ q.owner
built_owner q kind n seed = go (is_small (size_of kind n)) (page_type_of kind) (record { kind = kind; n = n; seed = seed })
  where
    go : (small : Bool) (ty : PageType) (m : Making) → (if small then small_built q ty m else record q { run = option_map (region_built m) q.run }).owner ≡ q.owner
    go true types.Cons m = refl
    go true types.Boxed m = refl
    go true types.Unboxed m = refl
    go false ty m = refl
