-- Where no page is in use there is nothing to know of it.
use Rattle.std.proofs.Common.{◌≡◌, ℕ, List, length, sym, subst, arith}
use Rattle.heap_terms.specs.declared.kinds.PageType.{PageType}
use Rattle.heap_terms.specs.declared.kinds.PageType.TheVariants as types
use Rattle.heap_terms.specs.declared.pages.Entry.{Entry}
use Rattle.copy_space.specs.declared.placing.PagesInUse.{PagesInUse}
use Rattle.copy_space.specs.State.{none_in_use}
use Rattle.copy_space.specs.Step.{AreTakenPages}
use Rattle.copy_space.proofs.tests.place_first.Goals as goal

none_taken : (pages : List Entry) → AreTakenPages pages none_in_use
none_taken pages types.Cons page e = cc
none_taken pages types.Boxed page e = cc
none_taken pages types.Unboxed page e = cc

pub place-requires : goal.place-requires
place-requires c = record {
  taken = subst (λ (u : PagesInUse). AreTakenPages c.args.pages.now u) (sym c.none-in_use.ensures) (none_taken c.args.pages.now);
  most = omega arith;
  least = c.requires.least;
  even = c.requires.even;
  bound = c.requires.most;
}
