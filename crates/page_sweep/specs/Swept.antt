-- What sweeping the pages leaves, after what is settled has moved and been scanned. Wiping is this project's own.
use Rattle.std.specs.Prelude.{◌≡◌, ℕ, ◌+◌, ◌*◌, ◌<◌, List, length, map, Option, Some, None, true, if◌then◌else◌, slice_index}
use Rattle.heap_terms.specs.declared.pages.Entry.{Entry}
use Rattle.heap_terms.specs.Generations.{names}
use Rattle.heap_terms.specs.Heap.{NamedHeap, object_at, entry_at, fill_of}
use Rattle.heap_terms.specs.Layout.{page_words, filler_word}
use Rattle.heap_terms.specs.Objects.{Object, words_of_object}
use Rattle.heap_terms.specs.OnPages.{IsOwned}
use Rattle.copy_space.specs.Moved.{new_of, now_at}
use Rattle.copy_space.specs.Settled.{is_settled}
use Rattle.copy_space.specs.State.{CopyState}
use Rattle.page_sweep.specs.Held.{freed_pages, swept_pages}

-- the objects that remain, at their places now
abbrev pub remaining_now : NamedHeap → CopyState → List (Option Object)
remaining_now a s = map (λ name. if is_settled a s name then now_at s.moves (object_at a.objects name) else None) (names a)

-- The pages are freed or retagged. The words of each settled object are as they were, and each other word below the fill of
-- a page in use is the filler word.
pub record IsSwept (a : NamedHeap) (s : CopyState) (target : ℕ) (words : List ℕ) (pages : List Entry) (freed : List ℕ) : Type 0 where
  pub long : length words ≡ length s.words
  pub pages_are : pages ≡ swept_pages s.pins s.moves s.pass.generation target s.pages
  pub freed_are : freed ≡ freed_pages s.pins s.moves s.pass.generation s.pages
  pub kept : (name : ℕ) (o : Object) → object_at a.objects name ≡ Some o → is_settled a s name ≡ true → (i : ℕ) → i < words_of_object o →
      slice_index words (new_of s.moves o.place + i) ≡ slice_index s.words (new_of s.moves o.place + i)
  pub fillers : (page i : ℕ) → i < fill_of (entry_at pages page) → ¬ IsOwned (remaining_now a s) (page_words * page + i) →
      slice_index words (page_words * page + i) ≡ filler_word
