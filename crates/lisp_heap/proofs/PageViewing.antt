-- The command `page`: its plan, and what a World has for the view.
use Rattle.std.proofs.Common.{◌≡◌, ℕ, ◌<◌, ◌≤◌, ltb, Bool, length, refl, ◌∙◌, ap}
use Rattle.std.proofs.lemmas.Bool.{lt-ltb, le-ltb}
use Rattle.std.specs.Prelude.{if◌then◌else◌}
use Rattle.heap_terms.specs.declared.answers.Answer.TheVariants as answers
use Rattle.heap_terms.specs.declared.answers.Refusal.TheVariants.{OutOfRange}
use Rattle.heap_terms.specs.declared.commands.Command.TheVariants as commands
use Rattle.heap_terms.specs.Heap.{NamedHeap}
use Rattle.heap_terms.specs.Outcome.{answering, refused}
use Rattle.heap_terms.specs.Outcomes.{outcome_of}
use Rattle.heap_terms.specs.PageViews.{page_view}
use Rattle.page_views.specs.Labelled.{CanView}
use Rattle.lisp_heap.specs.Plan.{IsPlan}
use Rattle.lisp_heap.specs.declared.plan.Change.TheVariants as changes
use Rattle.lisp_heap.specs.declared.world.World.TheInside.{Inside}
use Rattle.lisp_heap.specs.WorldSound.{IsSound}
use Rattle.lisp_heap.proofs.Plans.{planned}
use Rattle.lisp_heap.proofs.Soundness.{heap, well_formed}

view_outcome : (a : NamedHeap) (t page : ℕ) →
    outcome_of a t (commands.ShowPage page) ≡ (if ltb page (length a.pages) then answering (answers.Page (page_view a page)) a else refused OutOfRange a)
unfolding outcome_of
view_outcome a t page = refl

pub viewed_none : (a : NamedHeap) (t page : ℕ) → length a.pages ≤ page → IsPlan a t (commands.ShowPage page) (answers.Refused OutOfRange) changes.Nothing
viewed_none a t page past =
    planned a t (commands.ShowPage page) (refused OutOfRange a) (answers.Refused OutOfRange) changes.Nothing
    (view_outcome a t page ∙ ap (λ (b : Bool). if b then answering (answers.Page (page_view a page)) a else refused OutOfRange a) (le-ltb page (length a.pages) past)) refl refl

pub viewed_is : (a : NamedHeap) (t page : ℕ) → page < length a.pages → IsPlan a t (commands.ShowPage page) (answers.Page (page_view a page)) changes.Nothing
viewed_is a t page inside =
    planned a t (commands.ShowPage page) (answering (answers.Page (page_view a page)) a) (answers.Page (page_view a page)) changes.Nothing
    (view_outcome a t page ∙ ap (λ (b : Bool). if b then answering (answers.Page (page_view a page)) a else refused OutOfRange a) (lt-ltb page (length a.pages) inside)) refl refl

-- what a World keeps can be viewed
pub can_view : (s : Inside) → IsSound s → CanView (heap s) s.space s.pages s.labels
can_view s h = record {
  sound = (well_formed s h).sound;
  stand = h.holds.words;
  pages_are = h.holds.pages;
  labels_long = h.holds.labels.long;
  named = h.holds.labels.named;
}
