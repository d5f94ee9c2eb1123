-- Texts that are appended piece by piece.
use Rattle.std.proofs.Common.{◌≡◌, ℕ, ◌<◌, ◌≤◌, ◌-◌, List, [], ◌∷◌, ◌++◌, length, take, drop, Option, Some, refl, ap, sym, ◌∙◌, inl, inr, append_assoc, arith, length-drop, take-append-drop, eq-zero-or-pos, Result, Ok, Err, OnOk, OnErr}
use Rattle.std.specs.Prelude.{IfErr}
use Rattle.heap_io.specs.declared.writing.Stopped.{Stopped}
use Rattle.heap_io.specs.Streams.{Stream, Rose, Grew}
use Rattle.lispheap.specs.Answers.{Change, change, SaysAll, StopsWithin}

-- a stream that stopped after a number of bytes stopped within the text
pub stopped_after : (text : List ℕ) (k : ℕ) (x y : Stream) → k < length text → Grew x.contents y.contents (take k text) → Rose x.faults y.faults → StopsWithin text (change x y)
stopped_after text k x y below grew rose =
    record {
      front = take k text;
      rest = drop k text;
      whole = sym (take-append-drop k text);
      proper = λ none. let l : length (drop k text) ≡ 0 = ap length none in omega (arith, length-drop k text, l);
      appended = grew;
      rose = rose;
    }

-- the same of whatever the call that appends the text answers
pub stopped_within : (r : Result (Unit {0}) Stopped) (text : List ℕ) (x y : Stream) →
    IfErr r (λ s. Grew x.contents y.contents (take s.written text)) → IfErr r (λ s. s.written < length text) → OnErr r (Rose x.faults y.faults) → OnErr r (StopsWithin text (change x y))
stopped_within (Ok done) text x y grew below rose = tt
stopped_within (Err s) text x y grew below rose = stopped_after text s.written x y below grew rose

-- where the first piece stopped, the whole did
pub first_stopped : (a b : List ℕ) (c : Change) → StopsWithin a c → StopsWithin (a ++ b) c
first_stopped a b c s =
    record {
      front = s.front;
      rest = s.rest ++ b;
      whole = ap (λ t. t ++ b) s.whole ∙ append_assoc s.front s.rest b;
      proper = λ none. s.proper (empty_front s.rest b none);
      appended = s.appended;
      rose = s.rose;
    }
  where
    empty_front : (xs ys : List ℕ) → xs ++ ys ≡ [] → xs ≡ []
    empty_front [] ys e = refl
    empty_front (x ∷ xs) ys e = cc

-- a count that rose in the second of two calls rose in both
pub rose_later : (f g h : ℕ) → f ≤ g → g ≤ h → Rose g h → Rose f h
rose_later f g h first second (inl less) = inl (omega arith)
rose_later f g h first second (inr last) =
    elim (eq-zero-or-pos (g - f)) [ inl none ↦ inr (let same : f ≡ g = omega arith in same ∙ last) | inr some ↦ inl (omega arith) ]

-- told contents grew by one piece and then by another
pub grew_twice : (x y z : Option (List ℕ)) (a b : List ℕ) → Grew x y a → Grew y z b → Grew x z (a ++ b)
grew_twice x y z a b first second xs told = second (xs ++ a) (first xs told) ∙ ap Some (append_assoc xs a b)

-- where the second piece stopped, the whole did
pub second_stopped : (a b : List ℕ) (x y z : Stream) → x.faults ≤ y.faults → y.faults ≤ z.faults → SaysAll a (change x y) → StopsWithin b (change y z) → StopsWithin (a ++ b) (change x z)
second_stopped a b x y z first second said s =
    record {
      front = a ++ s.front;
      rest = s.rest;
      whole = ap (λ t. a ++ t) s.whole ∙ sym (append_assoc a s.front s.rest);
      proper = s.proper;
      appended = grew_twice x.contents y.contents z.contents a s.front said.appended s.appended;
      rose = rose_later x.faults y.faults z.faults first second s.rose;
    }

-- both pieces were said
pub both_said : (a b : List ℕ) (x y z : Stream) → SaysAll a (change x y) → SaysAll b (change y z) → SaysAll (a ++ b) (change x z)
both_said a b x y z first second = record {
  appended = grew_twice x.contents y.contents z.contents a b first.appended second.appended;
  quiet = second.quiet ∙ first.quiet;
}

-- a fact holds at an error, whatever the result
pub at_err : {A E : Type 0} {P : Type 0} (r : Result A E) → P → OnErr r P
at_err (Ok x) h = tt
at_err (Err e) h = h

-- what follows at an error from what holds there, and at a success
pub err_from : {A E : Type 0} {P Q : Type 0} (r : Result A E) → (P → Q) → OnErr r P → OnErr r Q
err_from (Ok x) f h = tt
err_from (Err e) f h = f h

pub ok_from : {A E : Type 0} {P Q : Type 0} (r : Result A E) → (P → Q) → OnOk r P → OnOk r Q
ok_from (Ok x) f h = f h
ok_from (Err e) f h = tt
