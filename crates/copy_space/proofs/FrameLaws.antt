-- Frames: each holds of a state and itself, and from one state over another to a third; a step of placing is one of scanning.
use Rattle.std.proofs.Common.{◌≡◌, ℕ, ◌+◌, List, [], ◌++◌, Some, true, inl, inr, refl, sym, ◌∙◌, ap, subst, arith}
use Rattle.std.proofs.lemmas.Bool.{cases_Bool, false≢true}
use Rattle.std.proofs.lemmas.List.{append_assoc, append-nil}
use Rattle.std.specs.Prelude.{slice_index, ◌==◌}
use Rattle.heap_terms.specs.declared.cells.Value.{Value}
use Rattle.heap_terms.specs.declared.cells.Value.TheVariants.{Fix, Nil, Unbound, Ref}
use Rattle.heap_terms.specs.Heap.{NamedHeap, object_at}
use Rattle.heap_terms.specs.Live.{is_live}
use Rattle.heap_terms.specs.Objects.{Object}
use Rattle.heap_terms.specs.Slots.{Val}
use Rattle.heap_terms.specs.Spelling.{word_of_object}
use Rattle.heap_terms.specs.Layout.{reference_word}
use Rattle.heap_terms.specs.Objects.{kind_of}
use Rattle.copy_space.specs.declared.notes.Move.{Move}
use Rattle.copy_space.specs.Copying.{Evacuates}
use Rattle.copy_space.specs.Frames.{Grows, Goes, IsScanned, Follows}
use Rattle.copy_space.specs.Marks.{mark_at, is_set}
use Rattle.copy_space.specs.Midway.{Midway}
use Rattle.copy_space.specs.Moved.{new_of}
use Rattle.copy_space.specs.Settled.{settles, is_settled, word_now, IsNewWord, IsEitherWord, IsWordOf}
use Rattle.copy_space.specs.State.{CopyState}
use Rattle.copy_space.proofs.Names.{now-there}
use Rattle.copy_space.proofs.Shapes.{slot-below}
use Rattle.std.proofs.Common.{Option, None}

pub Grows-same : (a : NamedHeap) (s : CopyState) → Grows a s s
Grows-same a s = record {
  more = [];
  moves = sym (append-nil s.moves);
  pins = refl;
  pass = refl;
  room = refl;
  marks = λ index set. refl;
  places = λ name o e settled. refl;
}

pub Goes-same : (a : NamedHeap) (s : CopyState) → Goes a s s
Goes-same a s = record { grows = Grows-same a s; words = λ name o e settled i l. refl }

-- what is settled stays settled
pub settled-stays : (a : NamedHeap) (s t : CopyState) → Grows a s t → (x : ℕ) → is_settled a s x ≡ true → is_settled a t x ≡ true
settled-stays a s t h x yes_s = go (object_at a.objects x) yes_s
  where
    go : (q : Option Object) → settles s q ≡ true → settles t q ≡ true
    go None e = absurd (false≢true e)
    go (Some o) e = elim (cases_Bool (o.generation == s.pass.generation)) [
      | inl same ↦ (let set : is_set (mark_at s.marks o.place) ≡ true = rw same at e in
          let set_t : is_set (mark_at t.marks o.place) ≡ true = ap is_set (h.marks o.place set) ∙ set in
          rw (h.pass, same) set_t)
      | inr other ↦ rw (h.pass, other) refl
    ]

pub live-stays : (a : NamedHeap) (s t : CopyState) → Grows a s t → (v : Value) → is_live (is_settled a s) v ≡ true → is_live (is_settled a t) v ≡ true
live-stays a s t h (Fix n) e = refl
live-stays a s t h Nil e = refl
live-stays a s t h Unbound e = refl
live-stays a s t h (Ref x) e = settled-stays a s t h x e

-- a settled value keeps its word
pub word-stays : (a : NamedHeap) (s t : CopyState) → Grows a s t → (v : Value) → is_live (is_settled a s) v ≡ true → word_now a t v ≡ word_now a s v
word-stays a s t h (Fix n) e = refl
word-stays a s t h Nil e = refl
word-stays a s t h Unbound e = refl
word-stays a s t h (Ref x) e = go (object_at a.objects x) refl
  where
    go : (q : Option Object) → object_at a.objects x ≡ q → word_now a t (Ref x) ≡ word_now a s (Ref x)
    go None f = absurd (false≢true (rw f at e))
    go (Some o) f =
        ap word_of_object (now-there a t.moves x o f) ∙ ap (λ (i : ℕ). reference_word i (kind_of o.contents)) (h.places x o f e)
        ∙ sym (ap word_of_object (now-there a s.moves x o f))

pub new-word-stays : (a : NamedHeap) (s t : CopyState) → Grows a s t → (v : Value) (word : ℕ) → IsNewWord a s v word → IsNewWord a t v word
new-word-stays a s t h v word n = record { settled = live-stays a s t h v n.settled; is = n.is ∙ sym (word-stays a s t h v n.settled) }

pub either-stays : (a : NamedHeap) (s t : CopyState) → Grows a s t → (v : Value) (word : ℕ) → IsEitherWord a s v word → IsEitherWord a t v word
either-stays a s t h v word (inl before) = inl before
either-stays a s t h v word (inr now) = inr (new-word-stays a s t h v word now)

-- and so does a word that evacuation takes
pub word-of-stays : (a : NamedHeap) (s t : CopyState) → Grows a s t → (v : Value) (word : ℕ) → IsWordOf a s v word → IsWordOf a t v word
word-of-stays a s t h v word w = record { living = w.living; either = either-stays a s t h v word w.either }

pub Grows-on : (a : NamedHeap) (s t u : CopyState) → Grows a s t → Grows a t u → Grows a s u
Grows-on a s t u h k = record {
  more = h.more ++ k.more;
  moves = k.moves ∙ ap (λ (ms : List Move). ms ++ k.more) h.moves ∙ append_assoc s.moves h.more k.more;
  pins = k.pins ∙ h.pins;
  pass = k.pass ∙ h.pass;
  room = k.room ∙ h.room;
  marks = λ index set. (let first = h.marks index set in k.marks index (ap is_set first ∙ set) ∙ first);
  places = λ name o e settled. k.places name o e (settled-stays a s t h name settled) ∙ h.places name o e settled;
}

pub Goes-on : (a : NamedHeap) (s t u : CopyState) → Goes a s t → Goes a t u → Goes a s u
Goes-on a s t u h k = record {
  grows = Grows-on a s t u h.grows k.grows;
  words = λ name o e settled i l.
      (let same = h.grows.places name o e settled in
      let second : slice_index u.words (new_of s.moves o.place + i) ≡ slice_index t.words (new_of s.moves o.place + i) =
      subst (λ (p : ℕ). slice_index u.words (p + i) ≡ slice_index t.words (p + i)) same (k.words name o e (settled-stays a s t h.grows name settled) i l) in
      second ∙ h.words name o e settled i l);
}

pub Follows-same : (a : NamedHeap) (s : CopyState) → Follows a s s
Follows-same a s = record { grows = Grows-same a s; fields = λ name o e settled i v f n. n }

pub Follows-on : (a : NamedHeap) (s t u : CopyState) → Follows a s t → Follows a t u → Follows a s u
Follows-on a s t u h k = record {
  grows = Grows-on a s t u h.grows k.grows;
  fields = λ name o e settled i v f n. k.fields name o e (settled-stays a s t h.grows name settled) i v f (h.fields name o e settled i v f n);
}

-- a step of placing is one of scanning
pub Follows-from_Goes : (a : NamedHeap) (s t : CopyState) → Midway a s → Goes a s t → Follows a s t
Follows-from_Goes a s t m h = record {
  grows = h.grows;
  fields = λ name o e settled i v f n.
      (let below = slot-below o.contents (m.places.sound.objects name o e).shape i (Val v) f in
      let place = h.grows.places name o e settled in
      let same : slice_index t.words (new_of t.moves o.place + i) ≡ slice_index s.words (new_of s.moves o.place + i) =
      ap (λ (p : ℕ). slice_index t.words (p + i)) place ∙ h.words name o e settled i below in
      subst (λ (w : ℕ). IsNewWord a t v w) (sym same) (new-word-stays a s t h.grows v (slice_index s.words (new_of s.moves o.place + i)) n));
}

-- what is scanned stays scanned
pub scanned-stays : (a : NamedHeap) (s t : CopyState) → Follows a s t → (name : ℕ) (o : Object) → object_at a.objects name ≡ Some o → is_settled a s name ≡ true →
    IsScanned a s o → IsScanned a t o
scanned-stays a s t h name o e settled done = λ i v f. h.fields name o e settled i v f (done i v f)

-- evacuation of a word whose value is settled changes nothing
pub evacuated-settled : (a : NamedHeap) (s : CopyState) (word result : ℕ) → Midway a s → ((v : Value) → IsWordOf a s v word → IsNewWord a s v result) →
    Evacuates a s s word result
evacuated-settled a s word result h all = record {
  midway = h;
  goes = Goes-same a s;
  one = omega arith;
  each = λ v w. record { answer = all v w; only = λ name settled. inl settled };
}
