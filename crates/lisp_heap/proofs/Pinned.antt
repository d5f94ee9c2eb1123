-- What an ambiguous word hits stays where it is, and there are no more pins than such words.
use Rattle.std.proofs.Common.{◌≡◌, ◌≢◌, ℕ, ◌<◌, ◌≤◌, List, ◌++◌, length, map, refl, sym, ◌∙◌, subst, ap, arith, get_or, Option, Some, None, Bool, true, false, inl, inr}
use Rattle.std.proofs.lemmas.Bool.{cases_Bool, eqb-true, eq-eqb, and_from, false≢true}
use Rattle.std.proofs.lemmas.Bool.Decides.{Decides-eqb}
use Rattle.std.proofs.lemmas.Cmp.{nat_eq_equiv}
use Rattle.std.proofs.lemmas.List.{length-map, get_or-map}
use Rattle.std.proofs.lemmas.List.Folds.{list_any_at}
use Rattle.std.proofs.lemmas.Map.Made.{IsDistinct-from_AllPairs, length-le_from_is_member}
use Rattle.std.specs.List.{list_any}
use Rattle.std.specs.Prelude.{◌==◌, ◌&&◌, nat_eq, unwrap_or}
use Rattle.heap_terms.specs.declared.cells.Value.{Value}
use Rattle.heap_terms.specs.declared.cells.Value.TheVariants as values
use Rattle.heap_terms.specs.declared.events.PassRecord.{PassRecord}
use Rattle.heap_terms.specs.declared.events.PinAt.{PinAt}
use Rattle.heap_terms.specs.declared.events.Placing.{Placing}
use Rattle.heap_terms.specs.declared.kinds.Kind.{Kind}
use Rattle.heap_terms.specs.declared.kinds.Kind.TheVariants as kinds
use Rattle.heap_terms.specs.Generations.{has_generation, is_of}
use Rattle.heap_terms.specs.Heap.{NamedHeap, thread_at, ended_thread, fresh_thread, object_at, zero_value}
use Rattle.heap_terms.specs.Layout.{base_address, lowtag_of, reference_word}
use Rattle.heap_terms.specs.Living.{IsLiving}
use Rattle.heap_terms.specs.Objects.{Object, kind_of}
use Rattle.heap_terms.specs.Passes.{IsPass, after_pass, moved_to, remains, remains_at}
use Rattle.heap_terms.specs.Roots.{ambiguous_words, hits, is_hit, is_pinned, thread_words}
use Rattle.heap_terms.specs.Spelling.{word_of, word_of_object}
use Rattle.heap_terms.specs.WellFormed.{IsSound}
use Rattle.heap_laws.proofs.AtPlaces.{IsSome-value}
use Rattle.pass_laws.proofs.AfterPages.{surviving-kind, moved_listed}
use Rattle.pass_laws.proofs.AfterPass.{object_then, remains_after}
use Rattle.pass_laws.proofs.Lookups.{found_at, any_left, any-flat_map}
use Rattle.pass_laws.proofs.Reaching.{pinned_stay}

-- a word that is among the ambiguous ones hits the object to which it refers
hit_by : (a : NamedHeap) (name : ℕ) (o : Object) → object_at a.objects name ≡ Some o →
    list_any (nat_eq (reference_word o.place (kind_of o.contents))) (ambiguous_words a) ≡ true → is_hit a name ≡ true
hit_by a name o there e =
    let word = reference_word o.place (kind_of o.contents) in
    let f = found_at (nat_eq word) (ambiguous_words a) e in
    let same : word ≡ get_or (ambiguous_words a) f.0 0 = eqb-true word (get_or (ambiguous_words a) f.0 0) (f.2 0) in
    list_any_at (hits (object_at a.objects name)) (ambiguous_words a) f.0 0 f.1
    (ap (λ (q : Option Object). hits q (get_or (ambiguous_words a) f.0 0)) there ∙ eq-eqb (get_or (ambiguous_words a) f.0 0) word (sym same))

-- and what is hit has its word among them
word_of_hit : (a : NamedHeap) (name : ℕ) (o : Object) → object_at a.objects name ≡ Some o → is_hit a name ≡ true →
    list_any (nat_eq (reference_word o.place (kind_of o.contents))) (ambiguous_words a) ≡ true
word_of_hit a name o there e =
    let word = reference_word o.place (kind_of o.contents) in
    let f = found_at (hits (object_at a.objects name)) (ambiguous_words a) e in
    let same : get_or (ambiguous_words a) f.0 0 ≡ word = eqb-true (get_or (ambiguous_words a) f.0 0) word (ap (λ (q : Option Object). hits q (get_or (ambiguous_words a) f.0 0)) (sym there) ∙ f.2 0) in
    list_any_at (nat_eq word) (ambiguous_words a) f.0 0 f.1 (eq-eqb word (get_or (ambiguous_words a) f.0 0) (sym same))

-- the word in a cell s is among them
pub stack_word : (a : NamedHeap) (t i : ℕ) → t < length a.threads → i < length (thread_at a t).stack →
    list_any (nat_eq (word_of a.objects (get_or (thread_at a t).stack i zero_value))) (ambiguous_words a) ≡ true
stack_word a t i lt li =
    let th = thread_at a t in
    let word = word_of a.objects (get_or th.stack i zero_value) in
    let here : nat_eq word (get_or (map (word_of a.objects) th.stack) i 0) ≡ true = eq-eqb word (get_or (map (word_of a.objects) th.stack) i 0) (sym (get_or-map (word_of a.objects) th.stack i zero_value 0 li)) in
    let own : list_any (nat_eq word) (thread_words a.objects th) ≡ true =
    any_left (nat_eq word) (map (word_of a.objects) th.stack ++ th.raws) th.pins
    (any_left (nat_eq word) (map (word_of a.objects) th.stack) th.raws
    (list_any_at (nat_eq word) (map (word_of a.objects) th.stack) i 0 (omega (arith, li, length-map th.stack (word_of a.objects))) here)) in
    any-flat_map (nat_eq word) (thread_words a.objects) a.threads t (ended_thread fresh_thread) lt own

module _ (a : NamedHeap) (g h : ℕ) (r : PassRecord) (sound : IsSound a) (pass : IsPass a g h r) where
  word_at : (name : ℕ) (q : Object) → object_at (after_pass a r).objects name ≡ Some q → (o : Object) → object_at a.objects name ≡ Some o → q.place ≡ o.place → kind_of q.contents ≡ kind_of o.contents →
      word_of (after_pass a r).objects (values.Ref name) ≡ word_of a.objects (values.Ref name)
  word_at name q now o there place kind =
      ap word_of_object now ∙ ap (λ (i : ℕ). reference_word i (kind_of q.contents)) place ∙ ap (reference_word o.place) kind ∙ sym (ap word_of_object there)

  -- an object of another generation is not moved
  other_stays : (name : ℕ) (o : Object) → object_at a.objects name ≡ Some o → (o.generation == g) ≡ false →
      word_of (after_pass a r).objects (values.Ref name) ≡ word_of a.objects (values.Ref name)
  other_stays name o there other =
      let live : remains a r name ≡ true = ap (remains_at r name) there ∙ rw (pass.generation, other) refl in
      word_at name (object_then a r name o) (remains_after a g h r sound pass name o there live) o there (at (moved_to r.moves name) refl)
      (surviving-kind (remains a r) o.contents)
    where
      at : (to : Option ℕ) → moved_to r.moves name ≡ to → unwrap_or (moved_to r.moves name) o.place ≡ o.place
      at None is = ap (λ (x : Option ℕ). unwrap_or x o.place) is
      at (Some index) is =
          let f = found_at (λ (m : Placing). m.name == name) r.moves (moved_listed r.moves name index is) in
          let d : Placing = record { name = 0; old = 0; new = None } in
          let of : is_of a g name ≡ true = subst (λ (x : ℕ). is_of a g x ≡ true) (eqb-true (get_or r.moves f.0 d).name name (f.2 d)) (pass.movable f.0 d f.1).0 in
          let young : (o.generation == g) ≡ true = ap (has_generation g) (sym there) ∙ of in
          absurd (false≢true (sym other ∙ young))

  hit_stays : (name : ℕ) (o : Object) → object_at a.objects name ≡ Some o → is_hit a name ≡ true →
      word_of (after_pass a r).objects (values.Ref name) ≡ word_of a.objects (values.Ref name)
  hit_stays name o there hit = elim (cases_Bool (o.generation == g)) [
    | inr other ↦ other_stays name o there other
    | inl young ↦ (
        let of : is_of a g name ≡ true = ap (has_generation g) there ∙ young in
        let stay = pinned_stay a g h r name o pass there (and_from (is_of a g name) (is_hit a name) of hit) in
        word_at name stay.0 stay.1 o there stay.2 stay.3)
  ]

  -- a living value whose word is among the ambiguous ones has the same word after the pass
  pub ambiguous_stays : (v : Value) → IsLiving a.objects v → list_any (nat_eq (word_of a.objects v)) (ambiguous_words a) ≡ true →
      word_of (after_pass a r).objects v ≡ word_of a.objects v
  ambiguous_stays (values.Fix n) living e = refl
  ambiguous_stays values.Nil living e = refl
  ambiguous_stays values.Unbound living e = refl
  ambiguous_stays (values.Ref name) living e =
      let o = IsSome-value (object_at a.objects name) living in
      hit_stays name o.0 o.1 (hit_by a name o.0 o.1 (ap (λ (q : Option Object). list_any (nat_eq (word_of_object q)) (ambiguous_words a)) (sym o.1) ∙ e))

  -- ---- how many pins there are

  tag_small : (k : Kind) → lowtag_of k < 16
  tag_small kinds.Cons = omega arith
  tag_small kinds.Vector = omega arith
  tag_small kinds.Instance = omega arith
  tag_small kinds.Closure = omega arith
  tag_small kinds.Words = omega arith
  tag_small kinds.Weak = omega arith
  tag_small kinds.Table = omega arith

  abbrev pin_word : PinAt → ℕ
  pin_word q = word_of a.objects (values.Ref q.name)

  words_apart : (i j : ℕ) (d : PinAt) → i < j → j < length r.pins → pin_word (get_or r.pins i d) ≢ pin_word (get_or r.pins j d)
  words_apart i j d l m same =
      let one = pass.pins.pinned i d (omega (arith, l, m)) in
      let two = pass.pins.pinned j d m in
      let up = pass.pins.ascending i j d l m in
      let first : pin_word (get_or r.pins i d) ≡ reference_word one.0.place (kind_of one.0.contents) = ap word_of_object one.1 in
      let second : pin_word (get_or r.pins j d) ≡ reference_word two.0.place (kind_of two.0.contents) = ap word_of_object two.1 in
      let equal : reference_word one.0.place (kind_of one.0.contents) ≡ reference_word two.0.place (kind_of two.0.contents) = sym first ∙ same ∙ second in
      let even_one = (sound.objects (get_or r.pins i d).name one.0 one.1).placed.even in
      let even_two = (sound.objects (get_or r.pins j d).name two.0 two.1).placed.even in
      let tag_one = tag_small (kind_of one.0.contents) in
      let tag_two = tag_small (kind_of two.0.contents) in
      let place_one : (get_or r.pins i d).index ≡ one.0.place = one.2 in
      let place_two : (get_or r.pins j d).index ≡ two.0.place = two.2 in
      omega (arith, up, equal, even_one, even_two, tag_one, tag_two, place_one, place_two)

  pub pins_few : (words : List ℕ) → ((word : ℕ) → base_address ≤ word → list_any (nat_eq word) words ≡ list_any (nat_eq word) (ambiguous_words a)) →
      length r.pins ≤ length words
  pins_few words same =
      let long : length (map pin_word r.pins) ≡ length r.pins = length-map r.pins pin_word in
      let d : PinAt = record { name = 0; index = 0 } in
      let few = length-le_from_is_member nat_eq_equiv (map pin_word r.pins) words
      (IsDistinct-from_AllPairs (λ x y. Decides-eqb x y) (map pin_word r.pins) (λ i j e l m. (
      let first : get_or (map pin_word r.pins) i e ≡ pin_word (get_or r.pins i d) = get_or-map pin_word r.pins i d e (omega (arith, l, m, long)) in
      let second : get_or (map pin_word r.pins) j e ≡ pin_word (get_or r.pins j d) = get_or-map pin_word r.pins j d e (omega (arith, m, long)) in
      λ equal. words_apart i j d l (omega (arith, m, long)) (sym first ∙ equal ∙ second))))
      (λ word e. (
      let f = found_at (nat_eq word) (map pin_word r.pins) e in
      let below : f.0 < length r.pins = omega (arith, f.1, long) in
      let at : word ≡ get_or (map pin_word r.pins) f.0 0 = eqb-true word (get_or (map pin_word r.pins) f.0 0) (f.2 0) in
      let pin = pass.pins.pinned f.0 d below in
      let is : word ≡ reference_word pin.0.place (kind_of pin.0.contents) = at ∙ get_or-map pin_word r.pins f.0 d 0 below ∙ ap word_of_object pin.1 in
      let hit : is_hit a (get_or r.pins f.0 d).name ≡ true = hit_of (get_or r.pins f.0 d).name pin.3 in
      same word (omega (arith, is)) ∙ ap (λ (x : ℕ). list_any (nat_eq x) (ambiguous_words a)) is ∙ word_of_hit a (get_or r.pins f.0 d).name pin.0 pin.1 hit)) in
      omega (arith, few, long)
    where
      hit_of : (name : ℕ) → is_pinned a g name ≡ true → is_hit a name ≡ true
      hit_of name e = by_first (is_of a g name) e
        where
          by_first : (b : Bool) → (b && is_hit a name) ≡ true → is_hit a name ≡ true
          by_first true e = e
          by_first false e = cc
