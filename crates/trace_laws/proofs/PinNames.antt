-- The pins of a record: the pinned starts, each with the name of the object that begins there.
use Rattle.std.proofs.Common.{◌≡◌, ◌≢◌, ℕ, List, [], ◌∷◌, map, length, get_or, Some, true, false, nat_eq, inl, inr, refl, sym, ◌∙◌, subst, ap, arith}
use Rattle.std.proofs.lemmas.Bool.{cases_eq, eq-eqb, ne_eqb}
use Rattle.std.proofs.lemmas.List.{get_or-map, length-map}
use Rattle.std.proofs.lemmas.List.Elements.{All-nil, All-cons, All-head, All-tail}
use Rattle.std.proofs.lemmas.Option.{same_Some}
use Rattle.std.specs.List.{list_any}
use Rattle.std.specs.Prelude.{All, AllPairs, ◌==◌}
use Rattle.heap_terms.specs.declared.events.PinAt.{PinAt}
use Rattle.heap_terms.specs.Heap.{NamedHeap, object_at}
use Rattle.heap_terms.specs.Objects.{Object}
use Rattle.heap_terms.specs.Passes.{ArePins}
use Rattle.heap_terms.specs.Roots.{is_pinned}
use Rattle.heap_terms.specs.Sound.{IsSound}
use Rattle.copy_space.proofs.Names.{same_name}
use Rattle.pass_laws.proofs.PinLists.{pinned_there}
use Rattle.trace_laws.specs.Traced.{IsPinnedStart, ArePinnedStarts}

-- a pin of a record is a pinned object at its place
abbrev pub IsPinNamed : NamedHeap → ℕ → PinAt → Type 0
IsPinNamed a g q = (o : Object) × (object_at a.objects q.name ≡ Some o) × (q.index ≡ o.place) × (is_pinned a g q.name ≡ true)

abbrev pub pin_index : PinAt → ℕ
pin_index q = q.index

-- the starts with their names
pub record NamedPins (a : NamedHeap) (g : ℕ) (starts : List ℕ) : Type 0 where
  pub pins : List PinAt
  pub indices : starts ≡ map pin_index pins
  pub each : All (IsPinNamed a g) pins

pub named-pins : (a : NamedHeap) (g : ℕ) (starts : List ℕ) → All (IsPinnedStart a g) starts → NamedPins a g starts
named-pins a g [] all = record { pins = []; indices = refl; each = All-nil (IsPinNamed a g) }
named-pins a g (index ∷ rest) all =
    let start = All-head (IsPinnedStart a g) index rest all in
    let more = named-pins a g rest (All-tail (IsPinnedStart a g) index rest all) in
    let first : PinAt = record { name = start.name; index = index } in
    record {
      pins = first ∷ more.pins;
      indices = ap (λ (xs : List ℕ). index ∷ xs) more.indices;
      each = All-cons (IsPinNamed a g) first more.pins (start.o, start.there, sym start.here, start.pinned) more.each;
    }

-- a pin is listed by its name exactly where it is listed by its place
pub pin-listed : (a : NamedHeap) (g : ℕ) → IsSound a → (qs : List PinAt) → All (IsPinNamed a g) qs → (x : ℕ) (o : Object) → object_at a.objects x ≡ Some o →
    list_any (λ (q : PinAt). q.name == x) qs ≡ list_any (nat_eq o.place) (map pin_index qs)
pin-listed a g sound [] each x o e = refl
pin-listed a g sound (q ∷ qs) each x o e =
    let pin = All-head (IsPinNamed a g) q qs each in
    let rest = pin-listed a g sound qs (All-tail (IsPinNamed a g) q qs each) x o e in
    elim (cases_eq q.name x) [
      | inl is ↦ (let there : object_at a.objects x ≡ Some pin.0 = subst (λ (y : ℕ). object_at a.objects y ≡ Some pin.0) is pin.1 in
          let same : o ≡ pin.0 = same_Some o pin.0 (sym e ∙ there) in
          let here : nat_eq o.place q.index ≡ true = eq-eqb o.place q.index (ap (λ (p : Object). p.place) same ∙ sym pin.2) in
          let named : (q.name == x) ≡ true = eq-eqb q.name x is in
          rw (named, here) refl)
      | inr not ↦ (let apart : o.place ≡ q.index → ⊥ = λ same. not (same_name a sound q.name x pin.0 o pin.1 e (sym pin.2 ∙ sym same)) in
          let other : nat_eq o.place q.index ≡ false = ne_eqb o.place q.index apart in
          let unnamed : (q.name == x) ≡ false = ne_eqb q.name x not in
          rw (unnamed, other) rest)
    ]

-- the pins of a record are the pinned names, each once, ascending
pub named-are : (a : NamedHeap) (g : ℕ) (starts : List ℕ) → IsSound a → ArePinnedStarts a g starts → (n : NamedPins a g starts) → ArePins a g n.pins
named-are a g starts sound h n = record {
  pinned = n.each;
  all = λ name is. (let at = pinned_there a g name is in
      pin-listed a g sound n.pins n.each name at.0 at.1 ∙ ap (list_any (nat_eq at.0.place)) (sym n.indices) ∙ h.all name at.0 at.1 is);
  ascending = λ i j d l m.
      (let long : length starts ≡ length n.pins = ap length n.indices ∙ length-map n.pins pin_index in
      let at_i : get_or starts i 0 ≡ (get_or n.pins i d).index = ap (λ (xs : List ℕ). get_or xs i 0) n.indices ∙ get_or-map pin_index n.pins i d 0 (omega arith) in
      let at_j : get_or starts j 0 ≡ (get_or n.pins j d).index = ap (λ (xs : List ℕ). get_or xs j 0) n.indices ∙ get_or-map pin_index n.pins j d 0 m in
      let below = h.ascending i j 0 l (omega arith) in
      omega arith);
}

-- so their names are distinct
pub names-distinct : (a : NamedHeap) (g : ℕ) (qs : List PinAt) → ArePins a g qs → AllPairs (λ (x y : ℕ). x ≢ y) (map (λ (q : PinAt). q.name) qs)
names-distinct a g qs h i j d l m =
    let long : length (map (λ (q : PinAt). q.name) qs) ≡ length qs = length-map qs (λ (q : PinAt). q.name) in
    let none : PinAt = record { name = 0; index = 0 } in
    let at_i = get_or-map (λ (q : PinAt). q.name) qs i none d (omega arith) in
    let at_j = get_or-map (λ (q : PinAt). q.name) qs j none d (omega arith) in
    let first = h.pinned i none (omega arith) in
    let second = h.pinned j none (omega arith) in
    let below = h.ascending i j none l (omega arith) in
    λ same.
    (let names : (get_or qs i none).name ≡ (get_or qs j none).name = sym at_i ∙ same ∙ at_j in
    let objects : first.0 ≡ second.0 = same_Some first.0 second.0 (sym first.1 ∙ ap (object_at a.objects) names ∙ second.1) in
    let places = ap (λ (o : Object). o.place) objects in
    let one = first.2 in
    let two = second.2 in
    omega arith)
