-- The command `page`. It is this project's own. Nothing is left free.
use Rattle.std.specs.Prelude.{ℕ, length, if◌then◌else◌, nat_lt}
use Rattle.heap_terms.specs.declared.answers.Answer.TheVariants.{Page}
use Rattle.heap_terms.specs.declared.answers.Refusal.TheVariants.{OutOfRange}
use Rattle.heap_terms.specs.Heap.{NamedHeap}
use Rattle.heap_terms.specs.Outcome.{Outcome, answering, refused}
use Rattle.heap_terms.specs.PageViews.{page_view}

abbrev pub viewing : NamedHeap → ℕ → Outcome
viewing a page = if nat_lt page (length a.pages) then answering (Page (page_view a page)) a else refused OutOfRange a
