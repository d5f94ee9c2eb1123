-- Living values stay living while objects are added or changed, and fields and cells hold living values.
use Rattle.std.proofs.Common.{◌≡◌, ℕ, zero, suc, ◌<◌, ◌≤◌, List, [], ◌∷◌, ◌++◌, length, Option, Some, None, inl, inr, refl, subst, arith, set, replicate, map, take, lit<}
use Rattle.std.proofs.lemmas.Bool.{cases_lt}
use Rattle.std.proofs.lemmas.List.{get_or-replicate, get_or-take, get_or_past, length-replicate, length-take}
use Rattle.std.specs.Prelude.{IsSome, slice_index_or}
use Rattle.heap_terms.specs.declared.cells.Cell.{Cell}
use Rattle.heap_terms.specs.declared.cells.Cell.TheVariants.{Stack, Exact, Shared}
use Rattle.heap_terms.specs.declared.cells.Value.{Value}
use Rattle.heap_terms.specs.declared.cells.Value.TheVariants as values
use Rattle.heap_terms.specs.declared.programs.Program.{Program}
use Rattle.heap_terms.specs.Cells.{cell_value}
use Rattle.heap_terms.specs.Heap.{NamedHeap, object_at, zero_value}
use Rattle.heap_terms.specs.Objects.{Object, Contents, ConsOf, VectorOf, InstanceOf, ClosureOf, WordsOf, WeakTo, TableOf, fields_of}
use Rattle.heap_terms.specs.Referents.{with_field}
use Rattle.heap_terms.specs.WellFormed.{IsLiving, IsLivingOrUnbound, AreLiving, HoldsLiving, AreBelow, IsWellFormed}
use Rattle.heap_laws.proofs.Lists.Places.{set_cases, push_cases}

-- each object of the first list is there in the second
abbrev pub AllStay : List (Option Object) → List (Option Object) → Type 0
AllStay old new = (name : ℕ) → IsSome (object_at old name) → IsSome (object_at new name)

pub IsLiving-stays : (old new : List (Option Object)) → AllStay old new → (v : Value) → IsLiving old v → IsLiving new v
IsLiving-stays old new stay (values.Fix n) h = h
IsLiving-stays old new stay values.Nil h = tt
IsLiving-stays old new stay values.Unbound h = h
IsLiving-stays old new stay (values.Ref name) h = stay name h

pub IsLivingOrUnbound-stays : (old new : List (Option Object)) → AllStay old new → (v : Value) → IsLivingOrUnbound old v → IsLivingOrUnbound new v
IsLivingOrUnbound-stays old new stay (values.Fix n) h = h
IsLivingOrUnbound-stays old new stay values.Nil h = tt
IsLivingOrUnbound-stays old new stay values.Unbound h = tt
IsLivingOrUnbound-stays old new stay (values.Ref name) h = stay name h

pub AreLiving-stays : (old new : List (Option Object)) → AllStay old new → (vs : List Value) → AreLiving old vs → AreLiving new vs
AreLiving-stays old new stay vs h = λ i. IsLiving-stays old new stay (slice_index_or vs i zero_value) (h i)

pub HoldsLiving-stays : (old new : List (Option Object)) → AllStay old new → (k : Contents) → HoldsLiving old k → HoldsLiving new k
HoldsLiving-stays old new stay (ConsOf a b) h = (IsLiving-stays old new stay a h.0, IsLiving-stays old new stay b h.1)
HoldsLiving-stays old new stay (VectorOf vs) h = AreLiving-stays old new stay vs h
HoldsLiving-stays old new stay (InstanceOf vs) h = AreLiving-stays old new stay vs h
HoldsLiving-stays old new stay (ClosureOf vs) h = AreLiving-stays old new stay vs h
HoldsLiving-stays old new stay (WordsOf ws) h = tt
HoldsLiving-stays old new stay (WeakTo v) h = IsLivingOrUnbound-stays old new stay v h
HoldsLiving-stays old new stay (TableOf w b pairs) h =
    (AreLiving-stays old new stay (map (λ pair. pair.0) pairs) h.0, AreLiving-stays old new stay (map (λ pair. pair.1) pairs) h.1)

-- a living value may stand where an unbound one may
pub IsLivingOrUnbound-living : (objects : List (Option Object)) (v : Value) → IsLiving objects v → IsLivingOrUnbound objects v
IsLivingOrUnbound-living objects (values.Fix n) h = h
IsLivingOrUnbound-living objects values.Nil h = tt
IsLivingOrUnbound-living objects values.Unbound h = tt
IsLivingOrUnbound-living objects (values.Ref name) h = h

-- the fixnum 0 is living
pub zero_living : (objects : List (Option Object)) → IsLiving objects zero_value
zero_living objects = lit< tt

pub AreLiving-zeros : (objects : List (Option Object)) (n : ℕ) → AreLiving objects (replicate n zero_value)
AreLiving-zeros objects n = λ i. elim (cases_lt i n) [
  | inl h ↦ rw (get_or-replicate n i zero_value zero_value h) (zero_living objects)
  | inr h ↦ (
      let past : length (replicate n zero_value) ≤ i = omega (arith, length-replicate n zero_value) in
      rw (get_or_past (replicate n zero_value) i zero_value past) (zero_living objects))
]

pub AreLiving-nil : (objects : List (Option Object)) → AreLiving objects []
AreLiving-nil objects = λ i. zero_living objects

pub AreLiving-cons : (objects : List (Option Object)) (x : Value) (vs : List Value) → IsLiving objects x → AreLiving objects vs → AreLiving objects (x ∷ vs)
AreLiving-cons objects x vs h rest zero = h
AreLiving-cons objects x vs h rest (suc i) = rest i

pub AreLiving-set : (objects : List (Option Object)) (vs : List Value) (i : ℕ) (v : Value) → AreLiving objects vs → IsLiving objects v →
    AreLiving objects (set vs i v)
AreLiving-set objects vs i v h living = λ j. elim (set_cases vs i j v zero_value) [
  | inl e ↦ rw e (h j)
  | inr e ↦ rw e.2 living
]

-- numbers below a bound
pub AreBelow-nil : (bound : ℕ) → 0 < bound → AreBelow bound []
AreBelow-nil bound h = λ i. h

pub AreBelow-all : (bound n w : ℕ) → 0 < bound → w < bound → AreBelow bound (replicate n w)
AreBelow-all bound n w h l = λ i. elim (cases_lt i n) [
  | inl inside ↦ rw (get_or-replicate n i w 0 inside) l
  | inr past ↦ rw (get_or_past (replicate n w) i 0 (omega (arith, length-replicate n w))) h
]

pub AreBelow-zeros : (bound n : ℕ) → 0 < bound → AreBelow bound (replicate n 0)
AreBelow-zeros bound n h = AreBelow-all bound n 0 h h

pub AreBelow-set : (bound : ℕ) (ws : List ℕ) (i w : ℕ) → AreBelow bound ws → w < bound → AreBelow bound (set ws i w)
AreBelow-set bound ws i w h l = λ j. elim (set_cases ws i j w 0) [
  | inl e ↦ rw e (h j)
  | inr e ↦ rw e.2 l
]

pub AreBelow-push : (bound : ℕ) (ws : List ℕ) (w : ℕ) → AreBelow bound ws → w < bound → AreBelow bound (ws ++ w ∷ [])
AreBelow-push bound ws w h l = λ j. elim (push_cases ws j w 0) [
  | inl e ↦ rw e.1 (h j)
  | inr e ↦ rw e.1 l
]

pub AreBelow-take : (bound : ℕ) (ws : List ℕ) (n : ℕ) → AreBelow bound ws → AreBelow bound (take n ws)
AreBelow-take bound ws n h = λ j. elim (cases_lt j n) [
  | inl inside ↦ rw (get_or-take n ws j 0 inside) (h j)
  | inr past ↦ (
      let most : length (take n ws) ≤ j = omega (arith, length-take n ws) in
      let zero : 0 < bound = (let first = h 0 in omega arith) in
      rw (get_or_past (take n ws) j 0 most) zero)
]

-- the fields of an object that holds living values
pub fields_living : (objects : List (Option Object)) (k : Contents) (vs : List Value) → fields_of k ≡ Some vs → HoldsLiving objects k → AreLiving objects vs
fields_living objects (ConsOf a b) vs e h =
    let same : (a ∷ b ∷ []) ≡ vs = cc in subst (λ xs. AreLiving objects xs) same (two a b h)
  where
    two : (a b : Value) → IsLiving objects a × IsLiving objects b → AreLiving objects (a ∷ b ∷ [])
    two a b h zero = h.0
    two a b h (suc zero) = h.1
    two a b h (suc (suc i)) = zero_living objects
fields_living objects (VectorOf ws) vs e h = let same : ws ≡ vs = cc in subst (λ xs. AreLiving objects xs) same h
fields_living objects (InstanceOf ws) vs e h = let same : ws ≡ vs = cc in subst (λ xs. AreLiving objects xs) same h
fields_living objects (ClosureOf ws) vs e h = let same : ws ≡ vs = cc in subst (λ xs. AreLiving objects xs) same h
fields_living objects (WordsOf ws) vs e h = cc
fields_living objects (WeakTo v) vs e h = cc
fields_living objects (TableOf w b pairs) vs e h = cc

-- a living value may be written into a field
pub with_field_living : (objects : List (Option Object)) (k : Contents) (i : ℕ) (v : Value) → HoldsLiving objects k → IsLiving objects v →
    HoldsLiving objects (with_field k i v)
with_field_living objects (ConsOf a b) zero v h living = (living, h.1)
with_field_living objects (ConsOf a b) (suc zero) v h living = (h.0, living)
with_field_living objects (ConsOf a b) (suc (suc i)) v h living = h
with_field_living objects (VectorOf vs) i v h living = AreLiving-set objects vs i v h living
with_field_living objects (InstanceOf vs) i v h living = AreLiving-set objects vs i v h living
with_field_living objects (ClosureOf vs) i v h living = AreLiving-set objects vs i v h living
with_field_living objects (WordsOf ws) i v h living = tt
with_field_living objects (WeakTo w) i v h living = h
with_field_living objects (TableOf w b pairs) i v h living = h

-- the cells of a thread of a well-formed heap hold living values
pub cell_living : (p : Program) (a : NamedHeap) (t : ℕ) (c : Cell) → IsWellFormed p a → t < length p.threads → IsLiving a.objects (cell_value a t c)
cell_living p a t (Stack i) w l = (w.threads t l).stack i
cell_living p a t (Exact i) w l = (w.threads t l).exact i
cell_living p a t (Shared i) w l = w.shared i

-- a push and a write of an object leave every object there
pub push_stays : (objects : List (Option Object)) (o : Object) → AllStay objects (objects ++ Some o ∷ [])
push_stays objects o = λ name h. elim (push_cases objects name (Some o) None) [
  | inl e ↦ rw e.1 h
  | inr e ↦ rw e.1 refl
]

pub write_stays : (objects : List (Option Object)) (name : ℕ) (o : Object) → AllStay objects (set objects name (Some o))
write_stays objects name o = λ x h. elim (set_cases objects name x (Some o) None) [
  | inl e ↦ rw e h
  | inr e ↦ rw e.2 refl
]
