-- What stands once all threads of a World have ended. This project's own.
use Rattle.std.specs.Prelude.{◌≡◌, ℕ, None}
use Rattle.heap_terms.specs.declared.pages.Next.TheVariants as nexts
use Rattle.heap_terms.specs.Heap.{Thread, thread_at}
use Rattle.lisp_heap.specs.View.{View, heap_of, next_of}

-- no thread has anything left to do
abbrev pub AllDone : View → Type 0
AllDone w = (t : ℕ) → next_of w t ≡ nexts.Done

-- a thread has no open region
pub record HasNoRegion (th : Thread) : Type 0 where
  pub cons : th.cons_page ≡ None
  pub boxed : th.boxed_page ≡ None
  pub unboxed : th.unboxed_page ≡ None
  pub run : th.open_run ≡ None

-- no region is out
abbrev pub NoneOut : View → Type 0
NoneOut w = (t : ℕ) → HasNoRegion (thread_at (heap_of w) t)
