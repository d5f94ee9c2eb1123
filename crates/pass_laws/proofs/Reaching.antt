-- Passes in the words of a user: what is pinned, reached, unreached or weak, before and after.
use Rattle.std.proofs.Common.{◌≡◌, ℕ, zero, suc, List, [], ◌∷◌, get_or, Option, Some, None, Bool, true, false, ◌⊎◌, inl, inr, refl, sym, ◌∙◌, subst, ap}
use Rattle.std.proofs.lemmas.Bool.{cases_Bool, and_parts, false≢true, eqb-true}
use Rattle.std.proofs.lemmas.List.Elements.{filter_agree}
use Rattle.std.proofs.lemmas.Option.{same_Some}
use Rattle.std.specs.Prelude.{◌==◌, filter, if◌then◌else◌, unwrap_or, is_some}
use Rattle.heap_terms.specs.declared.cells.Value.{Value}
use Rattle.heap_terms.specs.declared.cells.Value.TheVariants as values
use Rattle.heap_terms.specs.declared.events.PassRecord.{PassRecord}
use Rattle.heap_terms.specs.declared.events.Placing.{Placing}
use Rattle.heap_terms.specs.declared.kinds.Weakness.{Weakness}
use Rattle.heap_terms.specs.declared.kinds.Weakness.TheVariants as weaknesses
use Rattle.heap_terms.specs.Generations.{is_of}
use Rattle.heap_terms.specs.Heap.{NamedHeap, object_at, thread_at, zero_value}
use Rattle.heap_terms.specs.Live.{is_live, AreLive, KeepsSides, Keeps, IsClosed, AreLiveNames}
use Rattle.heap_terms.specs.Objects.{Object, Contents, ConsOf, VectorOf, InstanceOf, ClosureOf, WordsOf, WeakTo, TableOf, kind_of, fields_of}
use Rattle.heap_terms.specs.Passes.{IsPass, remains, moved_to, object_after, after_pass}
use Rattle.heap_terms.specs.Roots.{is_hit, is_pinned}
use Rattle.heap_terms.specs.Survival.{keeps_pair, is_kept, surviving}
use Rattle.pass_laws.specs.Laws.{KeepsByWeakness}
use Rattle.pass_laws.specs.Reached.{HasName, IsRoot, RefersTo, IsReached, at_root, by_object, is_there}
use Rattle.pass_laws.proofs.AfterPages.{object_at-after, surviving-kind, moved_listed}
use Rattle.pass_laws.proofs.AfterPass.{object_then}
use Rattle.pass_laws.proofs.Lookups.{found_at}

-- two sets of live names are one
pub live_one : (a : NamedHeap) (g : ℕ) (live other : ℕ → Bool) → AreLiveNames a g live → AreLiveNames a g other → (name : ℕ) → live name ≡ other name
live_one a g live other one two name = elim (cases_Bool (live name)) [
  | inl here ↦ here ∙ sym (one.least other two.closed name here)
  | inr gone ↦ elim (cases_Bool (other name)) [
    | inl there ↦ absurd (false≢true (sym gone ∙ two.least live one.closed name there))
    | inr none ↦ gone ∙ sym none
  ]
]

-- an object that is there and remains, and one that does not
there_after : (a : NamedHeap) (r : PassRecord) (x : ℕ) (o : Object) → object_at a.objects x ≡ Some o → remains a r x ≡ true →
    object_at (after_pass a r).objects x ≡ Some (object_then a r x o)
there_after a r x o at live = object_at-after a r x ∙ ap (object_after a r x) at ∙ rw live refl

gone_after : (a : NamedHeap) (r : PassRecord) (x : ℕ) → remains a r x ≡ false → object_at (after_pass a r).objects x ≡ None
gone_after a r x dead = object_at-after a r x ∙ go (object_at a.objects x)
  where
    go : (q : Option Object) → object_after a r x q ≡ None
    go None = refl
    go (Some o) = rw dead refl

-- whether a value is there after a pass is whether it is live in it
pub there_is : (a : NamedHeap) (r : PassRecord) (v : Value) → is_there (after_pass a r) v ≡ is_live (remains a r) v
there_is a r (values.Fix n) = refl
there_is a r values.Nil = refl
there_is a r values.Unbound = refl
there_is a r (values.Ref x) = elim (cases_Bool (remains a r x)) [
  | inl live ↦ go (object_at a.objects x) refl live
  | inr dead ↦ ap (λ (q : Option Object). is_some q) (gone_after a r x dead) ∙ sym dead
]
  where
    go : (q : Option Object) → object_at a.objects x ≡ q → remains a r x ≡ true → is_some (object_at (after_pass a r).objects x) ≡ remains a r x
    go None at live = (let never : false ≡ true = rw at at live in absurd (false≢true never))
    go (Some o) at live = ap (λ (q : Option Object). is_some q) (there_after a r x o at live) ∙ sym live

-- a name that stands in a live list is in the set
name_live : (set : ℕ → Bool) (vs : List Value) (name : ℕ) → AreLive set vs → HasName vs name → set name ≡ true
name_live set vs name live at = rw at.1 at (live at.0)

-- roots, and what an object of a closed set refers to, are in the set
root_live : (a : NamedHeap) (g : ℕ) (set : ℕ → Bool) → IsClosed a g set → (name : ℕ) → IsRoot a g name → set name ≡ true
root_live a g set closed name (inl exact) = name_live set (thread_at a exact.0).exact name (closed.exact exact.0) exact.1
root_live a g set closed name (inr (inl shared)) = name_live set a.shared name closed.shared shared
root_live a g set closed name (inr (inr (inl hit))) = closed.hit name hit
root_live a g set closed name (inr (inr (inr other))) = closed.others name other.0 other.1 other.2

fields_live : (set : ℕ → Bool) (k : Contents) (vs : List Value) → Keeps set k → fields_of k ≡ Some vs → AreLive set vs
fields_live set (ConsOf a b) vs keeps e = (let same : a ∷ b ∷ [] ≡ vs = same_Some (a ∷ b ∷ []) vs e in subst (λ (xs : List Value). AreLive set xs) same (both keeps))
  where
    both : (is_live set a ≡ true) × (is_live set b ≡ true) → AreLive set (a ∷ b ∷ [])
    both h zero = h.0
    both h (suc zero) = h.1
    both h (suc (suc i)) = refl
fields_live set (VectorOf xs) vs keeps e = subst (λ (ys : List Value). AreLive set ys) (same_Some xs vs e) keeps
fields_live set (InstanceOf xs) vs keeps e = subst (λ (ys : List Value). AreLive set ys) (same_Some xs vs e) keeps
fields_live set (ClosureOf xs) vs keeps e = subst (λ (ys : List Value). AreLive set ys) (same_Some xs vs e) keeps
fields_live set (WordsOf ws) vs keeps e = cc
fields_live set (WeakTo v) vs keeps e = cc
fields_live set (TableOf w b pairs) vs keeps e = cc

referred_live : (set : ℕ → Bool) (k : Contents) (name : ℕ) → Keeps set k → RefersTo k name → set name ≡ true
referred_live set k name keeps (inl field) = name_live set field.0 name (fields_live set k field.0 keeps field.1) field.2
referred_live set k name keeps (inr side) =
    let keeps' : Keeps set (TableOf weaknesses.Strong side.0 side.1) = subst (λ (c : Contents). Keeps set c) side.2 keeps in
    by_side (keeps' side.3.0) side.3.1
  where
    by_side : {pair : Value × Value} → KeepsSides weaknesses.Strong (is_live set pair.0) (is_live set pair.1) → (pair.0 ≡ values.Ref name) ⊎ (pair.1 ≡ values.Ref name) → set name ≡ true
    by_side sides (inl key) = rw key at sides.0
    by_side sides (inr value) = rw value at sides.1

-- what is reached is in every closed set
pub reached_live : (a : NamedHeap) (g : ℕ) (set : ℕ → Bool) → IsClosed a g set → {name : ℕ} → IsReached a g name → set name ≡ true
reached_live a g set closed (at_root x root) = root_live a g set closed x root
reached_live a g set closed (by_object from o x reached at refers) = referred_live set o.contents x (closed.members from o at (reached_live a g set closed reached)) refers

-- pinned objects stay
pub pinned_stay : (a : NamedHeap) (g h : ℕ) (r : PassRecord) (name : ℕ) (o : Object) → IsPass a g h r → object_at a.objects name ≡ Some o → is_pinned a g name ≡ true →
    (q : Object) × (object_at (after_pass a r).objects name ≡ Some q) × (q.place ≡ o.place) × (kind_of q.contents ≡ kind_of o.contents) × (q.generation ≡ h)
pinned_stay a g h r name o pass at pinned =
    let both = and_parts (is_of a g name) (is_hit a name) pinned in
    let live = pass.live.closed.hit name both.1 in
    let young : (o.generation == g) ≡ true = rw at at both.0 in
    let young' : (o.generation == r.generation) ≡ true = rw pass.generation young in
    (object_then a r name o, there_after a r name o at live, unmoved (moved_to r.moves name) refl, surviving-kind (remains a r) o.contents, (rw young' pass.target))
  where
    unmoved : (to : Option ℕ) → moved_to r.moves name ≡ to → unwrap_or (moved_to r.moves name) o.place ≡ o.place
    unmoved None e = rw e refl
    unmoved (Some index) e =
        let found = found_at (λ (m : Placing). m.name == name) r.moves (moved_listed r.moves name index e) in
        let d : Placing = record { name = 0; old = 0; new = None } in
        let free = (pass.movable found.0 d found.1).1 in
        let free' : is_pinned a g name ≡ false = subst (λ (y : ℕ). is_pinned a g y ≡ false) (eqb-true _ name (found.2 d)) free in
        absurd (false≢true (sym free' ∙ pinned))

-- what is reached stays, and what is not goes
pub reached_stay : (a : NamedHeap) (g h : ℕ) (r : PassRecord) (name : ℕ) (o : Object) → IsPass a g h r → object_at a.objects name ≡ Some o → IsReached a g name →
    (q : Object) × (object_at (after_pass a r).objects name ≡ Some q)
reached_stay a g h r name o pass at reached =
    (object_then a r name o, there_after a r name o at (reached_live a g (remains a r) pass.live.closed reached))

pub unreached_go : (a : NamedHeap) (g h : ℕ) (r : PassRecord) (name : ℕ) (set : ℕ → Bool) → IsPass a g h r → IsClosed a g set → set name ≡ false →
    object_at (after_pass a r).objects name ≡ None
unreached_go a g h r name set pass closed out = elim (cases_Bool (remains a r name)) [
  | inl live ↦ absurd (false≢true (sym out ∙ pass.live.least set closed name live))
  | inr dead ↦ gone_after a r name dead
]

-- an object that is there after the pass
was_there : (a : NamedHeap) (r : PassRecord) (x : ℕ) (o q : Object) → object_at a.objects x ≡ Some o → object_at (after_pass a r).objects x ≡ Some q →
    (remains a r x ≡ true) × (q ≡ object_then a r x o)
was_there a r x o q at after = elim (cases_Bool (remains a r x)) [
  | inl live ↦ (live, same_Some q (object_then a r x o) (sym after ∙ there_after a r x o at live))
  | inr dead ↦ (let never : None ≡ Some q = sym (gone_after a r x dead) ∙ after in cc)
]

pub fields_stay : (a : NamedHeap) (r : PassRecord) (name : ℕ) (o q : Object) → object_at a.objects name ≡ Some o → object_at (after_pass a r).objects name ≡ Some q →
    (vs : List Value) → fields_of o.contents ≡ Some vs → fields_of q.contents ≡ Some vs
fields_stay a r name o q at after vs e = rw (was_there a r name o q at after).1 (go o.contents e)
  where
    go : (k : Contents) → fields_of k ≡ Some vs → fields_of (surviving (remains a r) k) ≡ Some vs
    go (ConsOf x y) f = f
    go (VectorOf xs) f = f
    go (InstanceOf xs) f = f
    go (ClosureOf xs) f = f
    go (WordsOf ws) f = cc
    go (WeakTo v) f = cc
    go (TableOf w b pairs) f = cc

-- weak pointers
pub weak_pointers : (a : NamedHeap) (r : PassRecord) (name : ℕ) (o q : Object) (v : Value) → object_at a.objects name ≡ Some o → o.contents ≡ WeakTo v →
    object_at (after_pass a r).objects name ≡ Some q → q.contents ≡ WeakTo (if is_there (after_pass a r) v then v else values.Unbound)
weak_pointers a r name o q v at weak after =
    ap (λ (x : Object). x.contents) (was_there a r name o q at after).1 ∙ ap (surviving (remains a r)) weak
    ∙ ap (λ (b : Bool). WeakTo (if b then v else values.Unbound)) (sym (there_is a r v))

-- tables
pair_keeps : (a : NamedHeap) (r : PassRecord) (w : Weakness) (pair : Value × Value) → KeepsSides w (is_live (remains a r) pair.0) (is_live (remains a r) pair.1) →
    KeepsByWeakness (after_pass a r) w pair
pair_keeps a r w pair keeps =
    let k = there_is a r pair.0 in
    let v = there_is a r pair.1 in
    record {
      strong = λ e. (let both : KeepsSides weaknesses.Strong (is_live (remains a r) pair.0) (is_live (remains a r) pair.1) = rw e at keeps in (k ∙ both.0, v ∙ both.1));
      key = λ e here. (let only : KeepsSides weaknesses.Key (is_live (remains a r) pair.0) (is_live (remains a r) pair.1) = rw e at keeps in v ∙ only (sym k ∙ here));
      value = λ e here. (let only : KeepsSides weaknesses.Value (is_live (remains a r) pair.0) (is_live (remains a r) pair.1) = rw e at keeps in k ∙ only (sym v ∙ here));
      key_or_value = λ e. (let both : KeepsSides weaknesses.KeyOrValue (is_live (remains a r) pair.0) (is_live (remains a r) pair.1) = rw e at keeps in
          k ∙ same (is_live (remains a r) pair.0) (is_live (remains a r) pair.1) both.0 both.1 ∙ sym v);
    }
  where
    same : (x y : Bool) → (x ≡ true → y ≡ true) → (y ≡ true → x ≡ true) → x ≡ y
    same true y to back = sym (to refl)
    same false true to back = back refl
    same false false to back = refl

pub weak_tables : (a : NamedHeap) (g h : ℕ) (r : PassRecord) (name : ℕ) (o q : Object) (w : Weakness) (b : ℕ) (pairs : List (Value × Value)) → IsPass a g h r →
    object_at a.objects name ≡ Some o → o.contents ≡ TableOf w b pairs → object_at (after_pass a r).objects name ≡ Some q →
    (q.contents ≡ TableOf w b (filter (λ pair. keeps_pair w (is_there (after_pass a r) pair.0) (is_there (after_pass a r) pair.1)) pairs))
    × ((i : ℕ) → KeepsByWeakness (after_pass a r) w (get_or pairs i (zero_value, zero_value)))
weak_tables a g h r name o q w b pairs pass at table after =
    let was = was_there a r name o q at after in
    let keeps : Keeps (remains a r) (TableOf w b pairs) = subst (λ (k : Contents). Keeps (remains a r) k) table (pass.live.closed.members name o at was.0) in (
      ap (λ (x : Object). x.contents) was.1 ∙ ap (surviving (remains a r)) table
          ∙ ap (λ (ps : List (Value × Value)). TableOf w b ps) (filter_agree (is_kept (remains a r) w) _
          (λ pair. rw (there_is a r pair.0, there_is a r pair.1) refl) pairs),
      λ i. pair_keeps a r w (get_or pairs i (zero_value, zero_value)) (keeps i),
    )
