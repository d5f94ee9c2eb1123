-- What a pass kept lies where its record says, with its size.
use Rattle.std.proofs.Common.{◌≡◌, ◌≢◌, ℕ, ◌<◌, ◌≤◌, List, length, map, refl, sym, ◌∙◌, subst, ap, arith, get_or, Option, Some, true}
use Rattle.std.proofs.lemmas.Bool.{eq-eqb, eqb-true, and_parts, or_left, or_right}
use Rattle.std.proofs.lemmas.Bool.Decides.{Decides-eqb}
use Rattle.std.proofs.lemmas.List.{length-map, get_or-map}
use Rattle.std.proofs.lemmas.List.Folds.{list_any_at}
use Rattle.std.proofs.lemmas.Map.Made.{IsDistinct-from_AllPairs}
use Rattle.std.proofs.lemmas.Map.Steps.{length-le_from_distinct_below}
use Rattle.std.proofs.lemmas.Option.{same_Some}
use Rattle.std.specs.Prelude.{slice_index, All, ◌==◌, unwrap_or, not}
use Rattle.heap_laws.proofs.Allocating.{size_least}
use Rattle.heap_laws.proofs.AtPlaces.{IfSome-at}
use Rattle.heap_terms.specs.declared.events.PassRecord.{PassRecord}
use Rattle.heap_terms.specs.declared.events.PinAt.{PinAt}
use Rattle.heap_terms.specs.declared.events.Placing.{Placing}
use Rattle.heap_terms.specs.Generations.{has_generation, is_of, words_taken}
use Rattle.heap_terms.specs.Heap.{NamedHeap, object_at}
use Rattle.heap_terms.specs.LaidOut.{BeginsWith}
use Rattle.heap_terms.specs.Layout.{size_of}
use Rattle.heap_terms.specs.Objects.{Object, kind_of, payload_of, words_of_object}
use Rattle.heap_terms.specs.Passes.{IsPass, after_pass, is_listed_pin, moved_to, remains, remains_at}
use Rattle.heap_terms.specs.Roots.{is_hit}
use Rattle.heap_terms.specs.Stands.{SlotsStand, WordsStand}
use Rattle.heap_terms.specs.WellFormed.{IsSound}
use Rattle.lisp_heap.specs.Kept.{IsSizeAt, KeptLie, moved_size, pinned_size, place_then}
use Rattle.lisp_heap.proofs.Recorded.{moves_few, of_below}
use Rattle.lisp_heap.proofs.Relabelling.{moved_at}
use Rattle.object_walk.proofs.FirstWords.{first_word_stands}
use Rattle.pass_laws.proofs.AfterPages.{surviving-kind, surviving-payload}
use Rattle.pass_laws.proofs.AfterPass.{object_then, remaining, remains_after}
use Rattle.pass_laws.proofs.Lookups.{found_at}
use Rattle.pass_laws.proofs.Reaching.{pinned_stay}
use Rattle.trace_laws.specs.Noted.{IsMoveOf}

module _ (a : NamedHeap) (g h : ℕ) (r : PassRecord) (sound : IsSound a) (pass : IsPass a g h r) (words : List ℕ) (then : IsSound (after_pass a r))
    (stands : WordsStand (after_pass a r) words) (moved : All (IsMoveOf a) r.moves) where
  same_size : (o : Object) → words_of_object o ≡ size_of (kind_of (object_then a r 0 o).contents) (payload_of (object_then a r 0 o).contents)
  same_size o = rw (surviving-payload (remains a r) o.contents, surviving-kind (remains a r) o.contents) refl

  sized_after : (name : ℕ) (q : Object) → object_at (after_pass a r).objects name ≡ Some q → (index : ℕ) → q.place ≡ index →
      IsSizeAt words index (words_taken (object_at a.objects name))
  sized_after name q e index at =
      let was = remaining a g h r sound pass name q e in
      let is = then.objects name q e in
      let slots : SlotsStand (after_pass a r).objects words q.place q.contents =
      IfSome-at (λ (o : Object). SlotsStand (after_pass a r).objects words o.place o.contents) (object_at (after_pass a r).objects name) q e (stands.spelled name) in
      let begins : BeginsWith (kind_of q.contents) (payload_of q.contents) (slice_index words q.place) =
      first_word_stands (after_pass a r).objects words q.place q.contents slots is.shape is.contents in
      let size : words_of_object was.object ≡ size_of (kind_of q.contents) (payload_of q.contents) =
      same_size was.object ∙ ap (λ (o : Object). size_of (kind_of o.contents) (payload_of o.contents)) (sym was.is) in
      subst (λ (i : ℕ). IsSizeAt words i (words_taken (object_at a.objects name))) at (record {
        inside = omega (arith, is.placed.inside, size_least (kind_of q.contents) (payload_of q.contents), stands.long);
        kind = kind_of q.contents;
        n = payload_of q.contents;
        begins = begins;
        size_is = ap words_taken was.there ∙ size;
      })

  moves_lie : All (λ (m : Placing). IsSizeAt words (place_then m) (moved_size a m)) r.moves
  moves_lie k d l =
      let m = get_or r.moves k d in
      let was = moved k d l in
      let of : has_generation g (Some was.o) ≡ true = ap (has_generation g) (sym was.there) ∙ (pass.movable k d l).0 in
      let listed : remains a r m.name ≡ true =
      ap (remains_at r m.name) was.there
      ∙ or_right (not (was.o.generation == r.generation)) _ (or_left _ (is_listed_pin r m.name) (list_any_at (λ (x : Placing). x.name == m.name) r.moves k d l (eq-eqb _ m.name refl))) in
      let place : unwrap_or (moved_to r.moves m.name) was.o.place ≡ place_then m =
      ap (λ (to : Option ℕ). unwrap_or to was.o.place) (moved_at r.moves k d pass.once l) ∙ ap (unwrap_or m.new) (sym was.old) in
      sized_after m.name (object_then a r m.name was.o) (remains_after a g h r sound pass m.name was.o was.there listed) (place_then m) place

  pins_lie : All (λ (q : PinAt). IsSizeAt words q.index (pinned_size a q)) r.pins
  pins_lie k d l =
      let q = get_or r.pins k d in
      let pin = pass.pins.pinned k d l in
      let stay = pinned_stay a g h r q.name pin.0 pass pin.1 pin.3 in
      sized_after q.name stay.0 stay.1 q.index (stay.2 ∙ sym pin.2)

  pins_count : length r.pins ≤ length a.objects
  pins_count =
      let names = map (λ (q : PinAt). q.name) r.pins in
      let long : length names ≡ length r.pins = length-map r.pins (λ (q : PinAt). q.name) in
      let d : PinAt = record { name = 0; index = 0 } in
      let few : length names ≤ length a.objects = length-le_from_distinct_below names (length a.objects)
      (IsDistinct-from_AllPairs (λ x y. Decides-eqb x y) names (λ i j e l m.
      (let first : get_or names i e ≡ (get_or r.pins i d).name = get_or-map (λ (q : PinAt). q.name) r.pins i d e (omega (arith, l, m, long)) in
      let second : get_or names j e ≡ (get_or r.pins j d).name = get_or-map (λ (q : PinAt). q.name) r.pins j d e (omega (arith, m, long)) in
      λ same. apart i j d l (omega (arith, m, long)) (sym first ∙ same ∙ second))))
      (λ name e. (
      let f = found_at (λ (x : ℕ). name == x) names e in
      let at : name ≡ get_or names f.0 0 = eqb-true name (get_or names f.0 0) (f.2 0) in
      let here : get_or names f.0 0 ≡ (get_or r.pins f.0 d).name = get_or-map (λ (q : PinAt). q.name) r.pins f.0 d 0 (omega (arith, f.1, long)) in
      let pin = pass.pins.pinned f.0 d (omega (arith, f.1, long)) in
      of_below a g name (subst (λ (x : ℕ). is_of a g x ≡ true) (sym (at ∙ here)) (and_parts (is_of a g (get_or r.pins f.0 d).name) (is_hit a (get_or r.pins f.0 d).name) pin.3).0))) in
      omega (arith, few, long)
    where
      apart : (i j : ℕ) (d : PinAt) → i < j → j < length r.pins → (get_or r.pins i d).name ≢ (get_or r.pins j d).name
      apart i j d before inside e =
          let one = pass.pins.pinned i d (omega (arith, before, inside)) in
          let two = pass.pins.pinned j d inside in
          let same : one.0 ≡ two.0 = same_Some one.0 two.0 (sym one.1 ∙ ap (object_at a.objects) e ∙ two.1) in
          let places : one.0.place ≡ two.0.place = ap (λ (o : Object). o.place) same in
          let low = pass.pins.ascending i j d before inside in
          omega (arith, low, places, one.2, two.2)

  pub kept_lie : length a.objects ≤ 20000 → KeptLie a words r
  kept_lie few =
      let moves = moves_few a g h r pass in
      let pins = pins_count in
      record {
        moves = moves_lie;
        pins = pins_lie;
        few_moves = omega (arith, moves, few);
        few_pins = omega (arith, pins, few);
      }
