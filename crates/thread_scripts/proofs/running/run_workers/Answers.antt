use Rattle.std.proofs.Common.{◌∙◌, sym, ap, subst, List, length, ℕ, arith}
use Rattle.std.specs.Prelude.{All}
use Rattle.stop_words.specs.Owners.{ByOwner}
use Rattle.stop_words.specs.declared.view.Place.TheVariants.{Parked}
use Rattle.lisp_heap.specs.Ready.{owner_of}
use Rattle.thread_scripts.specs.Workers.{IsAt}
use Rattle.thread_scripts.proofs.Seated.{fresh_by_owner, fresh_parked}
use Rattle.thread_scripts.proofs.running.run_workers.Goals as goal

pub new-requires-clause-owners : goal.new-requires-clause-owners
new-requires-clause-owners g c κs =
    subst (λ (n : ℕ). ByOwner owner_of n c.args.parcels.items) (sym c.args.parcels.ok.0) (fresh_by_owner c.args.parcels.items _ c.requires.parcels)

pub run_all-requires-clause-seats : goal.run_all-requires-clause-seats
run_all-requires-clause-seats g c κs within =
    subst (λ xs. All (λ seat. IsAt c.in-Ok-new.words seat Parked) xs) (sym c.as_mut_slice.ensures.value) (fresh_parked c.in-Ok-new.words c.in-Ok-new.seats.items c.in-Ok-new.ensures.seats.1)
