use Rattle.std.proofs.Common.{ℕ, List, map, ◌∙◌, ap}
use Rattle.std.specs.List.{range_with_len}
use Rattle.lisp_heap.specs.ParcelView.{ParcelView}
use Rattle.lisp_heap.specs.Ready.{owner_of}
use Rattle.stop_words.specs.Seats.{threads_of}
use Rattle.thread_scripts.proofs.Seated.{numbers_are}
use Rattle.thread_scripts.proofs.sections.collect_all.Goals as goal

pub collect-step-requires-clause-owners : goal.collect-step-requires-clause-owners
collect-step-requires-clause-owners g c =
    ap (λ (qs : List ParcelView). map owner_of qs) c.parcels.ensures.value ∙ c.gather-gathered.ensures.taken.parcels
    ∙ numbers_are 0 (threads_of c.args.words.now) ∙ ap (λ (n : ℕ). range_with_len 0 n) c.requires.count
