-- When finalizers stand for those of a named heap.
use Rattle.std.specs.Prelude.{◌≡◌, ℕ, List, map}
use Rattle.heap_terms.specs.declared.cells.Value.TheVariants.{Ref}
use Rattle.heap_terms.specs.Heap.{NamedHeap}
use Rattle.heap_terms.specs.Spelling.{word_of}
use Rattle.finalizers.specs.declared.lists.Registration.{Registration}
use Rattle.finalizers.specs.Lists.{Lists}

-- what is registered for a name, given the words of names
abbrev pub registration_of : (ℕ → ℕ) → ℕ × ℕ → Registration
registration_of word entry = record { object = word entry.0; id = entry.1 }

abbrev pub registrations : (ℕ → ℕ) → List (ℕ × ℕ) → List Registration
registrations word list = map (registration_of word) list

-- each has the word of its object and its number, in the heap's order, and the queue is the heap's
pub record FinalizersStand (a : NamedHeap) (f : Lists) : Type 0 where
  pub registered : f.registered ≡ registrations (λ name. word_of a.objects (Ref name)) a.finalizers
  pub queue : f.queue ≡ a.queue
