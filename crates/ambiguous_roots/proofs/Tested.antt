-- For the tests: a heap of two free pages and nothing else.
use Rattle.std.proofs.Common.{◌≡◌, ℕ, zero, suc, ◌^◌, ◌<◌, List, [], ◌∷◌, length, replicate, Option, Some, None, Bool, false, refl, sym, ◌∙◌, ap, subst, arith}
use Rattle.std.proofs.lemmas.List.{get_or_past, length-replicate}
use Rattle.std.proofs.lemmas.List.Elements.{All-nil}
use Rattle.std.specs.Prelude.{IfSome}
use Rattle.heap_terms.specs.declared.pages.Entry.{Entry}
use Rattle.heap_terms.specs.declared.pages.Entry.TheVariants.{Free}
use Rattle.heap_terms.specs.Heap.{NamedHeap, object_at, entry_at, fill_of}
use Rattle.heap_terms.specs.Objects.{Object}
use Rattle.heap_terms.specs.OnPages.{IsEntry, IsInRun}
use Rattle.heap_terms.specs.Sound.{IsSound, IsFinalizer}
use Rattle.heap_terms.specs.Stands.{WordsStand, SlotsStand, KeptStand}
use Rattle.pin_set.specs.Starts.{Starts}
use Rattle.ambiguous_roots.specs.HitStarts.{CanFindPins}

abbrev pub empty_heap : NamedHeap
empty_heap = record {
  objects = [];
  pages = Free ∷ Free ∷ [];
  threads = [];
  shared = [];
  finalizers = [];
  queue = [];
  cum = [];
  num = [];
  counted = 0;
  triggered = 0;
}

no_object : (name : ℕ) (o : Object) → object_at [] name ≡ Some o → ⊥
no_object name o e = (let never : None ≡ Some o = sym (get_or_past [] name None (omega arith)) ∙ e in cc)

all_free : (page : ℕ) → entry_at (Free ∷ Free ∷ []) page ≡ Free
all_free zero = refl
all_free (suc zero) = refl
all_free (suc (suc page)) = get_or_past [] page Free (omega arith)

empty_sound : IsSound empty_heap
empty_sound = record {
  objects = λ name o e. absurd (no_object name o e);
  apart = λ x y o q apart e f. absurd (no_object x o e);
  entries = λ page. subst IsEntry (sym (all_free page)) tt;
  runs = λ page. subst (IsInRun (Free ∷ Free ∷ []) page) (sym (all_free page)) tt;
  finalizers = All-nil (IsFinalizer []);
  queue = λ i. subst (λ (n : ℕ). n < 2 ^ 32) (sym (get_or_past [] i 0 (omega arith))) (omega arith);
}

empty_stand : (words : List ℕ) → length words ≡ 1024 → WordsStand empty_heap words
empty_stand words long = record {
  long = long;
  spelled = λ name. subst (λ (q : Option Object). IfSome q (λ o. SlotsStand [] words o.place o.contents)) (sym (none_at name)) tt;
  kept = λ name. subst (λ (q : Option Object). IfSome q (λ o. KeptStand words o.place o.contents)) (sym (none_at name)) tt;
  fillers = λ page i l. absurd (let below : i < 0 = subst (λ (e : Entry). i < fill_of e) (all_free page) l in omega (arith, below));
}
  where
    none_at : (name : ℕ) → object_at [] name ≡ None
    none_at name = get_or_past [] name None (omega arith)

-- pins can be found in it
pub empty_can : (words : List ℕ) (pages : List Entry) (ambiguous : List ℕ) (hints : List Bool) (pins : Starts) → words ≡ replicate 1024 0 → pages ≡ replicate 2 Free →
    hints ≡ replicate 512 false → pins ≡ record { listed = []; most = 2 } → length ambiguous ≡ 2 → CanFindPins empty_heap words pages ambiguous hints pins
empty_can words pages ambiguous hints pins words_are pages_are hints_are pins_are two =
    let long : length words ≡ 1024 = ap length words_are ∙ length-replicate {A = ℕ} 1024 0 in
    let hints_long : length hints ≡ 512 = ap length hints_are ∙ length-replicate {A = Bool} 512 false in
    record {
      sound = empty_sound;
      stand = empty_stand words long;
      pages_are = pages_are;
      empty = ap (λ (s : Starts). s.listed) pins_are;
      room = (let most = ap (λ (s : Starts). s.most) pins_are in omega arith);
      hints_long = omega arith;
      unhinted = hints_are ∙ ap (λ (n : ℕ). replicate n false) (sym hints_long);
    }
