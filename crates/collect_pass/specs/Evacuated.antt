-- Evacuating the exact roots.
use Rattle.std.specs.Prelude.{◌≡◌, ℕ, ◌<◌, ◌⊎◌, List, length, map, true, slice_index, slice_index_or}
use Rattle.heap_terms.specs.Heap.{zero_value}
use Rattle.heap_terms.specs.Living.{AreLiving}
use Rattle.pass_laws.specs.Reached.{HasName}
use Rattle.copy_space.specs.Frames.{Goes}
use Rattle.copy_space.specs.Midway.{Midway}
use Rattle.copy_space.specs.Settled.{is_settled, word_before, IsNewWord}
use Rattle.copy_space.specs.State.{CopyState}
use Rattle.trace_laws.specs.Rooted.{Rooted}

-- exact roots can be evacuated: they are the words before the pass of the values, which are living
pub record CanEvacuateRoots (h : Rooted) (s : CopyState) (exact : List ℕ) : Type 0 where
  pub midway : Midway h.heap s
  pub exact_are : exact ≡ map (word_before h.heap) h.values
  pub living : AreLiving h.heap.objects h.values

-- they were: each has the word of its value from now on, and nothing but what they name was newly settled
pub record AreEvacuated (h : Rooted) (s t : CopyState) (exact : List ℕ) : Type 0 where
  pub midway : Midway h.heap t
  pub goes : Goes h.heap s t
  pub long : length exact ≡ length h.values
  pub each : (i : ℕ) → i < length exact → IsNewWord h.heap t (slice_index_or h.values i zero_value) (slice_index exact i)
  pub only : (name : ℕ) → is_settled h.heap t name ≡ true → (is_settled h.heap s name ≡ true) ⊎ HasName h.values name
