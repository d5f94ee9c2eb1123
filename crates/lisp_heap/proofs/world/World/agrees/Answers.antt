-- The open pages of a thread's state are pages.
use Rattle.heap_terms.specs.declared.kinds.PageType.TheVariants as types
use Rattle.lisp_heap.proofs.world.World.agrees.Goals as goal

pub small_agrees-requires : goal.small_agrees-requires
small_agrees-requires c = c.thread_state-state.ensures.pages types.Cons

pub small_agrees-requires-then-small_agrees : goal.small_agrees-requires-then-small_agrees
small_agrees-requires-then-small_agrees c = c.thread_state-state.ensures.pages types.Boxed

pub small_agrees-requires-then-small_agrees-2 : goal.small_agrees-requires-then-small_agrees-2
small_agrees-requires-then-small_agrees-2 c = c.thread_state-state.ensures.pages types.Unboxed
