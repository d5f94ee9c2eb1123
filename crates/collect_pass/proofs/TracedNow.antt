-- Evacuating the exact roots, scanning what is older, and settling what all that keeps comes to the end of settling.
use Rattle.std.proofs.Common.{◌≡◌, ℕ, ◌<◌, List, [], length, map, get_or, Option, Some, None, Bool, true, inl, inr, refl, sym, ◌∙◌, ap, subst, nat_eq, arith}
use Rattle.std.proofs.lemmas.Bool.{cases_lt, cases_eq, cases_Bool, and_parts, eq-eqb, eqb-true, false≢true}
use Rattle.std.proofs.lemmas.List.{ext_get_or, get_or-map, get_or_past, length-map}
use Rattle.std.specs.List.{list_any}
use Rattle.std.specs.Prelude.{not, ◌||◌, ◌==◌}
use Rattle.heap_terms.specs.Generations.{is_of}
use Rattle.heap_terms.specs.Heap.{NamedHeap, object_at, zero_value}
use Rattle.heap_terms.specs.Live.{IsClosed, is_live}
use Rattle.heap_terms.specs.Objects.{Object}
use Rattle.heap_terms.specs.Roots.{is_hit, is_pinned}
use Rattle.pass_laws.specs.Reached.{HasName}
use Rattle.pass_laws.proofs.Lookups.{found_at}
use Rattle.copy_space.specs.declared.notes.Pass.{Pass}
use Rattle.copy_space.specs.Marks.{mark_at, is_set}
use Rattle.copy_space.specs.Midway.{Midway}
use Rattle.copy_space.specs.Moved.{mark_for}
use Rattle.copy_space.specs.Settled.{is_settled, settles, word_now, IsNewWord}
use Rattle.copy_space.specs.State.{CopyState}
use Rattle.copy_space.specs.Frames.{Grows}
use Rattle.copy_space.proofs.FrameLaws.{Grows-on, new-word-stays}
use Rattle.copy_space.proofs.Names.{same_name}
use Rattle.copy_space.proofs.Referents.{mark_is}
use Rattle.scavenge.specs.Scanning.{Scans}
use Rattle.trace_laws.specs.Rooted.{Rooted, IsExactRoot, RootsStand}
use Rattle.trace_laws.specs.Traced.{ArePinnedStarts, SettlesNoMore}
use Rattle.collect_pass.specs.Evacuated.{AreEvacuated}
use Rattle.collect_pass.specs.Settling.{Settles}
use Rattle.collect_pass.proofs.SettlingLoop.{closed-fields}

-- The end of settling: the pins are the pinned objects, the exact roots are settled and have their words after the pass, and
-- nothing is settled that some closed set lacks. Pins and pass are those of the start.
pub record IsEndOf (h : Rooted) (w z : CopyState) (exact : List ℕ) : Type 0 where
  pub midway : Midway h.heap z
  pub pinned : ArePinnedStarts h.heap z.pass.generation z.pins
  pub exact_now : exact ≡ map (word_now h.heap z) h.values
  pub exact_live : (i : ℕ) → is_live (is_settled h.heap z) (get_or h.values i zero_value) ≡ true
  pub least : SettlesNoMore h.heap z
  pub pins : w.pins ≡ z.pins
  pub pass : w.pass ≡ z.pass
  pub room : z.room ≡ w.room

module _ (h : Rooted) (w x y z : CopyState) (before exact ambiguous : List ℕ) (start : Midway h.heap w) (unmoved : w.moves ≡ []) (pinned : ArePinnedStarts h.heap w.pass.generation w.pins)
    (roots : RootsStand h before ambiguous) (evacuated : AreEvacuated h w x exact) (older : Scans h.heap x y) (all : Settles h.heap y z) where
  abbrev a : NamedHeap
  a = h.heap

  x_on : Grows a x z
  x_on = Grows-on a x y z older.follows.grows all.follows.grows

  w_on : Grows a w z
  w_on = Grows-on a w x z evacuated.goes.grows x_on

  same_generation : z.pass.generation ≡ w.pass.generation
  same_generation = ap (λ (p : Pass). p.generation) w_on.pass

  -- what is settled at the start is in every closed set
  settled-first : (set : ℕ → Bool) → IsClosed a w.pass.generation set → (name : ℕ) → is_settled a w name ≡ true → set name ≡ true
  settled-first set closed name e = go (object_at a.objects name) refl
    where
      pin_of : (o : Object) → is_set (mark_for w.pins w.moves o.place) ≡ true → list_any (nat_eq o.place) w.pins ≡ true
      pin_of o on = elim (cases_Bool (list_any (nat_eq o.place) w.pins)) [
        | inl pin ↦ pin
        | inr free ↦ absurd (false≢true (rw (unmoved, free) at on))
      ]

      hit : (o : Object) → object_at a.objects name ≡ Some o → list_any (nat_eq o.place) w.pins ≡ true → is_hit a name ≡ true
      hit o there pin =
          let found = found_at (nat_eq o.place) w.pins pin in
          let at : o.place ≡ get_or w.pins found.0 0 = eqb-true o.place (get_or w.pins found.0 0) (found.2 0) in
          let start_of = pinned.each found.0 0 found.1 in
          let same = same_name a start.places.sound start_of.name name start_of.o o start_of.there there (start_of.here ∙ sym at) in
          (and_parts (is_of a w.pass.generation name) (is_hit a name) (subst (λ (n : ℕ). is_pinned a w.pass.generation n ≡ true) same start_of.pinned)).1

      go : (q : Option Object) → object_at a.objects name ≡ q → set name ≡ true
      go None there = absurd (false≢true (ap (settles w) (sym there) ∙ e))
      go (Some o) there = elim (cases_eq o.generation w.pass.generation) [
        | inr apart ↦ closed.others name o there apart
        | inl same ↦ (let test : (not (o.generation == w.pass.generation) || is_set (mark_at w.marks o.place)) ≡ true = ap (settles w) (sym there) ∙ e in
            let equal : (o.generation == w.pass.generation) ≡ true = eq-eqb o.generation w.pass.generation same in
            let on : is_set (mark_at w.marks o.place) ≡ true = rw equal at test in
            closed.hit name (hit o there (pin_of o (sym (ap is_set (mark_is a w start.places name o there)) ∙ on))))
      ]

  -- and so is what the exact roots name
  settled-root : (set : ℕ → Bool) → IsClosed a w.pass.generation set → (name : ℕ) → HasName h.values name → set name ≡ true
  settled-root set closed name has = go ((roots.exact_names name).1 has)
    where
      go : IsExactRoot a name → set name ≡ true
      go (inl (t, (i, is))) = ap (is_live set) (sym is) ∙ closed.exact t i
      go (inr (i, is)) = ap (is_live set) (sym is) ∙ closed.shared i

  settles-no-more : SettlesNoMore a z
  settles-no-more set closed name settled = all.within set (closed_at y same_y) (λ n e. older.reached set (closed-fields a x.pass.generation set (closed_at x same_x)) (λ m f. from_roots m f) n e) name settled
    where
      closed_w : IsClosed a w.pass.generation set
      closed_w = subst (λ (g : ℕ). IsClosed a g set) same_generation closed

      same_x : x.pass.generation ≡ w.pass.generation
      same_x = ap (λ (p : Pass). p.generation) evacuated.goes.grows.pass

      same_y : y.pass.generation ≡ w.pass.generation
      same_y = ap (λ (p : Pass). p.generation) older.follows.grows.pass ∙ same_x

      closed_at : (v : CopyState) → v.pass.generation ≡ w.pass.generation → IsClosed a v.pass.generation set
      closed_at v same = subst (λ (g : ℕ). IsClosed a g set) (sym same) closed_w

      from_roots : (m : ℕ) → is_settled a x m ≡ true → set m ≡ true
      from_roots m f = elim (evacuated.only m f) [
        | inl was ↦ settled-first set closed_w m was
        | inr has ↦ settled-root set closed_w m has
      ]

  new-at : (i : ℕ) → i < length exact → IsNewWord a z (get_or h.values i zero_value) (get_or exact i 0)
  new-at i l = new-word-stays a x z x_on (get_or h.values i zero_value) (get_or exact i 0) (evacuated.each i l)

  pub all-settled : IsEndOf h w z exact
  all-settled = record {
    midway = all.midway;
    pinned = subst (λ (pins : List ℕ). ArePinnedStarts a z.pass.generation pins) (sym w_on.pins) (subst (λ (g : ℕ). ArePinnedStarts a g w.pins) (sym same_generation) pinned);
    exact_now = ext_get_or 0 exact (map (word_now a z) h.values) (evacuated.long ∙ sym (length-map h.values (word_now a z)))
        (λ i l. (new-at i l).is ∙ sym (get_or-map (word_now a z) h.values i zero_value 0 (let long = evacuated.long in omega arith)));
    exact_live = λ i. (elim (cases_lt i (length exact)) [
      | inl l ↦ (new-at i l).settled
      | inr past ↦ (let none : get_or h.values i zero_value ≡ zero_value = get_or_past h.values i zero_value (let long = evacuated.long in omega arith) in rw none refl)
    ]);
    least = settles-no-more;
    pins = sym w_on.pins;
    pass = sym w_on.pass;
    room = w_on.room;
  }
