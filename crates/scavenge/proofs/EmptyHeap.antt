-- An empty heap of one page, with which a pass can begin.
use Rattle.std.proofs.Common.{◌≡◌, ℕ, zero, suc, ◌<◌, ◌≤◌, List, [], ◌∷◌, replicate, refl, arith}
use Rattle.std.proofs.lemmas.List.{length-replicate}
use Rattle.std.proofs.lemmas.List.Elements.{All-nil}
use Rattle.heap_terms.specs.declared.pages.Entry.{Entry}
use Rattle.heap_terms.specs.declared.pages.Entry.TheVariants.{Free}
use Rattle.heap_terms.specs.Heap.{NamedHeap, entry_at}
use Rattle.heap_terms.specs.Sound.{IsSound, IsFinalizer}
use Rattle.heap_terms.specs.Stands.{WordsStand}
use Rattle.copy_space.specs.declared.marks.Mark.{Mark}
use Rattle.copy_space.specs.declared.marks.Mark.TheVariants.{Fresh}
use Rattle.copy_space.specs.Copying.{CanBegin}
use Rattle.copy_space.specs.Midway.{HasStart}

abbrev pub empty_heap : NamedHeap
empty_heap = record {
  objects = [];
  pages = Free ∷ [];
  threads = [];
  shared = [];
  finalizers = [];
  queue = [];
  cum = [];
  num = [];
  counted = 0;
  triggered = 0;
}

all_free : (page : ℕ) → entry_at empty_heap.pages page ≡ Free
all_free zero = refl
all_free (suc page) = refl

empty-sound : IsSound empty_heap
empty-sound = record {
  objects = λ name o e. absurd (let never : ⊥ = cc in never);
  apart = λ x y o q not e f. absurd (let never : ⊥ = cc in never);
  entries = λ page. rw (all_free page) tt;
  runs = λ page. rw (all_free page) tt;
  finalizers = All-nil (IsFinalizer []);
  queue = λ i. omega arith;
}

empty-stands : (words : List ℕ) → words ≡ replicate 512 0 → WordsStand empty_heap words
empty-stands words same = record {
  long = rw same (length-replicate {A = ℕ} 512 0);
  spelled = λ name. tt;
  kept = λ name. tt;
  fillers = λ page i l. absurd (let none : i < 0 = rw (all_free page) at l in omega (arith, none));
}

pub empty-begins : (words : List ℕ) (pages : List Entry) (marks : List Mark) (pins : List ℕ) (room : ℕ) → words ≡ replicate 512 0 → pages ≡ replicate 1 Free →
    marks ≡ replicate 256 Fresh → pins ≡ [] → 256 ≤ room → CanBegin empty_heap words pages marks pins 0 room
empty-begins words pages marks pins room words_are pages_are marks_are pins_are enough = record {
  sound = empty-sound;
  stand = empty-stands words words_are;
  pages_are = pages_are;
  marks_long = rw (words_are, marks_are) refl;
  unmarked = rw marks_are refl;
  pinned = rw pins_are (All-nil (HasStart empty_heap 0));
  generation = omega arith;
  enough = rw marks_are enough;
}
