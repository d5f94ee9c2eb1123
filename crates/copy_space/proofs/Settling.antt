-- What evacuation promises of an object that it settles: it moved or stayed, and its word is the answer.
use Rattle.std.proofs.Common.{◌≡◌, ◌≢◌, ℕ, List, [], ◌∷◌, Option, Some, None, true, ◌⊎◌, inl, inr, refl, sym, ◌∙◌, ap, subst, arith}
use Rattle.std.proofs.lemmas.Bool.{cases_eq, false≢true, or_right}
use Rattle.std.proofs.lemmas.List.{length-append}
use Rattle.std.specs.Prelude.{not, ◌||◌, ◌==◌, unwrap_or}
use Rattle.heap_terms.specs.declared.cells.Value.{Value}
use Rattle.heap_terms.specs.declared.cells.Value.TheVariants.{Ref}
use Rattle.heap_terms.specs.declared.pages.Entry.{Entry}
use Rattle.heap_terms.specs.Heap.{NamedHeap, object_at}
use Rattle.heap_terms.specs.Layout.{page_type_of, reference_word}
use Rattle.heap_terms.specs.Live.{is_live}
use Rattle.heap_terms.specs.Objects.{Object, kind_of, words_of_object}
use Rattle.heap_terms.specs.Spelling.{word_of_object}
use Rattle.lisp_words.specs.declared.pointers.Lowtag.{Lowtag}
use Rattle.copy_space.specs.declared.marks.Mark.{Mark}
use Rattle.copy_space.specs.declared.marks.Mark.TheVariants as marks
use Rattle.copy_space.specs.declared.placing.PagesInUse.{PagesInUse}
use Rattle.copy_space.specs.Copying.{Evacuates}
use Rattle.copy_space.specs.Finding.{CanSettle, RefersToFresh}
use Rattle.copy_space.specs.Frames.{Goes}
use Rattle.copy_space.specs.Marks.{mark_at, is_set}
use Rattle.copy_space.specs.Midway.{Midway}
use Rattle.copy_space.specs.Settled.{settles, is_settled, word_before, word_now, IsWordOf}
use Rattle.copy_space.specs.State.{CopyState}
use Rattle.copy_space.specs.Step.{IsStep}
use Rattle.copy_space.proofs.Copies.{IsForwarded}
use Rattle.copy_space.proofs.Moving.{stepped, IsNext, mark_here, mark_of_other, its_word, midway_moved, goes_moved, midway_stayed, goes_stayed}
use Rattle.copy_space.proofs.Names.{same_name}

-- the object that is to be settled
pub next-of : (a : NamedHeap) (s : CopyState) (v : Value) (word old : ℕ) (tag : Lowtag) → (r : RefersToFresh a s v word old tag) → IsNext a s r.name r.start.o
next-of a s v word old tag r = record {
  there = r.start.there;
  of_it = r.start.of_it;
  fresh = ap (λ (i : ℕ). mark_at s.marks i) r.start.here ∙ r.fresh;
}

module _ (a : NamedHeap) (s : CopyState) (old : ℕ) (tag : Lowtag) (word : ℕ) (can : CanSettle a s old tag word) where
  abbrev pub it : RefersToFresh a s can.value word old tag
  it = can.found can.value can.is_word

  abbrev pub next_is : IsNext a s (can.found can.value can.is_word).name (can.found can.value can.is_word).start.o
  next_is = next-of a s can.value word old tag (can.found can.value can.is_word)

  -- every value that has the word refers to this object
  only_it : (v : Value) → IsWordOf a s v word → v ≡ Ref it.name
  only_it v w =
      let r = can.found v w in
      let same = same_name a can.midway.places.sound r.name it.name r.start.o it.start.o r.start.there it.start.there (r.start.here ∙ sym it.start.here) in
      r.is ∙ ap (λ (x : ℕ). Ref x) same

  module _ (words : List ℕ) (pages : List Entry) (in_use : PagesInUse) (to : Option ℕ)
      (step : IsStep s.pages s.in_use (page_type_of (kind_of it.start.o.contents)) (words_of_object it.start.o) to pages in_use) (mark : Mark) (on : is_set mark ≡ true)
      (midway : Midway a (stepped s words pages in_use it.start.o.place (unwrap_or to it.start.o.place) mark))
      (goes : Goes a s (stepped s words pages in_use it.start.o.place (unwrap_or to it.start.o.place) mark)) (result : ℕ)
      (result_is : result ≡ reference_word (unwrap_or to it.start.o.place) (kind_of it.start.o.contents)) where
    abbrev now : CopyState
    now = stepped s words pages in_use it.start.o.place (unwrap_or to it.start.o.place) mark

    now_settled : is_settled a now it.name ≡ true
    now_settled = ap (settles now) it.start.there
        ∙ or_right (not (it.start.o.generation == s.pass.generation)) _ (ap is_set (mark_here a s can.midway it.name it.start.o next_is words pages in_use to step mark) ∙ on)

    newly : (v : Value) → v ≡ Ref it.name → (name : ℕ) → is_settled a now name ≡ true → (is_settled a s name ≡ true) ⊎ (v ≡ Ref name)
    newly v is name yes_now = elim (cases_eq name it.name) [
      | inl same ↦ inr (is ∙ ap (λ (x : ℕ). Ref x) (sym same))
      | inr apart ↦ inl (go apart (object_at a.objects name) refl yes_now)
    ]
      where
        go : name ≢ it.name → (q : Option Object) → object_at a.objects name ≡ q → settles now (object_at a.objects name) ≡ true → is_settled a s name ≡ true
        go apart None f e = absurd (false≢true (ap (settles now) (sym f) ∙ e))
        go apart (Some q) f e =
            (let mark_same = mark_of_other a s can.midway it.name it.start.o next_is words pages in_use to step mark name q f apart in
            ap (settles s) f ∙ ap (λ (m : Mark). not (q.generation == s.pass.generation) || is_set m) (sym mark_same) ∙ sym (ap (settles now) f) ∙ e)

    pub evacuates : Evacuates a s now word result
    evacuates = record {
      midway = midway;
      goes = goes;
      one = omega (arith, length-append s.moves (record { old = it.start.o.place; new = unwrap_or to it.start.o.place } ∷ []));
      each = λ v w. (let is = only_it v w in record {
        answer = record {
          settled = ap (λ (u : Value). is_live (is_settled a now) u) is ∙ now_settled;
          is = result_is ∙ sym (its_word a s can.midway it.name it.start.o next_is words pages in_use to step mark) ∙ ap (λ (u : Value). word_now a now u) (sym is);
        };
        only = newly v is;
      });
    }

  -- the object moved
  pub moved-evacuates : (words : List ℕ) (pages : List Entry) (in_use : PagesInUse) (index result : ℕ) →
      IsStep s.pages s.in_use (page_type_of (kind_of it.start.o.contents)) (words_of_object it.start.o) (Some index) pages in_use →
      result ≡ reference_word index (kind_of it.start.o.contents) → IsForwarded s.words words old index (words_of_object it.start.o) result →
      Evacuates a s (stepped s words pages in_use old index marks.Moved) word result
  moved-evacuates words pages in_use index result step is fw =
      let here = it.start.here in
      let fw' : IsForwarded s.words words it.start.o.place index (words_of_object it.start.o) result =
      subst (λ (i : ℕ). IsForwarded s.words words i index (words_of_object it.start.o) result) (sym here) fw in
      let m = midway_moved a s can.midway it.name it.start.o next_is pages in_use index step words result is fw' in
      let g = goes_moved a s can.midway it.name it.start.o next_is pages in_use index step words result is fw' in
      subst (λ (i : ℕ). Evacuates a s (stepped s words pages in_use i index marks.Moved) word result) here
      (evacuates words pages in_use (Some index) step marks.Moved refl m g result is)

  -- the object stayed
  pub stayed-evacuates : IsStep s.pages s.in_use (page_type_of (kind_of it.start.o.contents)) (words_of_object it.start.o) None s.pages s.in_use →
      Evacuates a s (stepped s s.words s.pages s.in_use old old marks.Stayed) word word
  stayed-evacuates step =
      let here = it.start.here in
      let m = midway_stayed a s can.midway it.name it.start.o next_is step in
      let g = goes_stayed a s can.midway it.name it.start.o next_is step in
      let is : word ≡ reference_word it.start.o.place (kind_of it.start.o.contents) = it.word_is ∙ ap (λ (u : Value). word_before a u) it.is ∙ ap word_of_object it.start.there in
      subst (λ (i : ℕ). Evacuates a s (stepped s s.words s.pages s.in_use i i marks.Stayed) word word) here
      (evacuates s.words s.pages s.in_use None step marks.Stayed refl m g word is)
