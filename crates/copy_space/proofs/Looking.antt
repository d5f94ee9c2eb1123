-- Looking a word up midway: by its page and its mark it is settled or not, and what its word is from now on.
use Rattle.std.proofs.Common.{◌≡◌, ℕ, ◌+◌, ◌*◌, ◌/◌, ◌≤◌, true, false, Some, inl, inr, refl, sym, ◌∙◌, ap, arith}
use Rattle.std.proofs.lemmas.Bool.{eq-eqb}
use Rattle.std.specs.Prelude.{slice_index, length, ◌==◌}
use Rattle.heap_terms.specs.declared.cells.Value.{Value}
use Rattle.heap_terms.specs.Heap.{NamedHeap, entry_at}
use Rattle.heap_terms.specs.Generations.{has_generation}
use Rattle.heap_terms.specs.Live.{is_live}
use Rattle.pass_laws.proofs.Sizes.{words_least}
use Rattle.lisp_words.specs.declared.pointers.Lowtag.{Lowtag}
use Rattle.lisp_words.specs.Tagged.{IsTagged}
use Rattle.copy_space.specs.declared.marks.Mark.TheVariants as marks
use Rattle.copy_space.specs.Copying.{settled_word}
use Rattle.copy_space.specs.Finding.{RefersToFresh}
use Rattle.copy_space.specs.Marks.{mark_at, is_set}
use Rattle.copy_space.specs.Midway.{IsPlacedSoFar}
use Rattle.copy_space.specs.Pages.{is_page_of}
use Rattle.copy_space.specs.Settled.{is_settled, word_before, word_now, IsNewWord, IsWordOf}
use Rattle.copy_space.specs.State.{CopyState}
use Rattle.copy_space.proofs.Places.{placed_before, now_inside}
use Rattle.copy_space.proofs.Referents.{ms, its, Referent, referent, InGeneration, in_generation, is_moved, here_unless_moved, same_word, settles-not}

module _ (a : NamedHeap) (s : CopyState) (h : IsPlacedSoFar a s) (v : Value) (word index : ℕ) (tag : Lowtag) (w : IsWordOf a s v word) (tagged : IsTagged word index tag)
    (page : is_page_of (entry_at s.pages (index / 512)) s.pass.generation ≡ true) where
  r : InGeneration a s h v word index tag
  r = in_generation a s h v word index tag w tagged page

  live_is : is_live (is_settled a s) v ≡ is_set (mark_at s.marks index)
  live_is =
      let it = r in
      let same : (it.o.generation == s.pass.generation) ≡ true = eq-eqb it.o.generation s.pass.generation it.of_it in
      ap (λ (u : Value). is_live (is_settled a s) u) it.is ∙ settles-not a s h it.name it.o it.there ∙ (rw same refl) ∙ ap (λ (i : ℕ). is_set (mark_at s.marks i)) it.here

  pub look-fresh : mark_at s.marks index ≡ marks.Fresh → is_live (is_settled a s) v ≡ false
  look-fresh m = live_is ∙ ap is_set m

  pub look-here : is_set (mark_at s.marks index) ≡ true → is_moved (mark_at s.marks index) ≡ false → IsNewWord a s v word
  look-here set unmoved =
      let it = r in
      let unmoved_there : is_moved (mark_at s.marks it.o.place) ≡ false = ap (λ (i : ℕ). is_moved (mark_at s.marks i)) it.here ∙ unmoved in
      record {
        settled = live_is ∙ set;
        is = it.before ∙ ap (λ (u : Value). word_before a u) it.is ∙ sym (same_word a s h it.name it.o it.there (here_unless_moved a s h it.name it.o it.there unmoved_there))
            ∙ ap (λ (u : Value). word_now a s u) (sym it.is);
      }

  pub look-moved : mark_at s.marks index ≡ marks.Moved → IsNewWord a s v (slice_index s.words (index + 1))
  look-moved m =
      let it = r in
      let there : mark_at s.marks it.o.place ≡ marks.Moved = ap (λ (i : ℕ). mark_at s.marks i) it.here ∙ m in
      let forward = h.forwards it.name it.o it.there there in
      record {
        settled = live_is ∙ ap is_set m;
        is = ap (λ (i : ℕ). slice_index s.words (i + 1)) (sym it.here) ∙ forward.1 ∙ ap (λ (u : Value). word_now a s u) (sym it.is);
      }

  -- the object that is not settled
  pub look-unsettled : mark_at s.marks index ≡ marks.Fresh → RefersToFresh a s v word index tag
  look-unsettled m =
      let it = r in
      record {
        name = it.name;
        start = record {
          of_it = ap (has_generation s.pass.generation) it.there ∙ eq-eqb it.o.generation s.pass.generation it.of_it;
          o = it.o;
          there = it.there;
          here = it.here;
        };
        is = it.is;
        tagged = it.tagged;
        word_is = it.before;
        fresh = m;
      }

-- a tagged word of a value is of an index inside the heap
pub tagged_inside : (a : NamedHeap) (s : CopyState) (h : IsPlacedSoFar a s) (v : Value) (word index : ℕ) (tag : Lowtag) → IsWordOf a s v word → IsTagged word index tag →
    index + 2 ≤ 512 * length a.pages
tagged_inside a s h v word index tag w tagged = go (referent a s h v word index tag w tagged)
  where
    go : Referent a s h v word index tag → index + 2 ≤ 512 * length a.pages
    go r = (let least = words_least r.o in
        let before = (placed_before a s (ms a s h) h.sound (its a s h) r.name r.o r.there).inside in
        let now = now_inside a s (ms a s h) h.sound (its a s h) r.name r.o r.there in
        elim r.at [ inl b ↦ omega (arith, b.0) | inr n ↦ omega (arith, n.0) ])

-- a settled word as an answer
pub new_answer : (a : NamedHeap) (s : CopyState) (v : Value) (word : ℕ) → IsNewWord a s v word → Some word ≡ settled_word a s v
new_answer a s v word n = rw n.settled (ap (λ (x : ℕ). Some x) n.is)
