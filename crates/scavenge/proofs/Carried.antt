-- For the layers above: where scanning begins, what of it other steps leave as it was, and what it comes to.
use Rattle.std.proofs.Common.{◌≡◌, ℕ, List, Some, true, inl, inr, sym, ◌∙◌, ap, arith}
use Rattle.std.proofs.lemmas.Bool.{cases_eq}
use Rattle.heap_terms.specs.Heap.{NamedHeap, object_at}
use Rattle.heap_terms.specs.Objects.{Object}
use Rattle.copy_space.specs.Frames.{Follows}
use Rattle.copy_space.specs.Midway.{Midway}
use Rattle.copy_space.specs.Settled.{is_settled}
use Rattle.copy_space.specs.State.{CopyState}
use Rattle.scavenge.specs.Noting.{HasAll, IsDone}
use Rattle.scavenge.specs.Scanning.{AreScanned, AllOfGenerationScanned, OthersScanned}
use Rattle.scavenge.proofs.NotedStarts.{done-later}
use Rattle.scavenge.proofs.OlderPieces.{older}

-- at first nothing is scanned
pub nothing-scanned : (a : NamedHeap) (s : CopyState) (listed : List ℕ) → AreScanned a s listed (record { pins = 0; moves = 0 })
nothing-scanned a s listed = record {
  pins_most = omega arith;
  moves_most = omega arith;
  pins = λ k name o l there here. absurd (omega (arith, l));
  moves = λ k name o m l at there of_it old. absurd (omega (arith, l));
}

-- objects of other generations stay scanned
pub others-on : (a : NamedHeap) (s t : CopyState) (old new : List ℕ) → Midway a s → Follows a s t → HasAll old new → OthersScanned a s old → OthersScanned a t new
others-on a s t old new h f all others = λ name o there apart.
    (let apart_s = λ (same : o.generation ≡ s.pass.generation). apart (same ∙ sym (ap (λ p. p.generation) f.grows.pass)) in
    done-later a s t old new f all name o there (older a s h name o there apart_s).settled (others name o there apart_s))

-- and when those of the generation are scanned too, each settled object is
pub every-scanned : (a : NamedHeap) (s : CopyState) (listed : List ℕ) → OthersScanned a s listed → AllOfGenerationScanned a s listed → (name : ℕ) (o : Object) → object_at a.objects name ≡ Some o →
    is_settled a s name ≡ true → IsDone a s listed o
every-scanned a s listed others all name o there settled = elim (cases_eq o.generation s.pass.generation) [
  | inl of_it ↦ all name o there of_it settled
  | inr apart ↦ others name o there apart
]
