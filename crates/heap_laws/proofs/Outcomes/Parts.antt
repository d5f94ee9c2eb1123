-- The parts of which outcomes are made: refusals and tests, and what a value refers to.
use Rattle.std.proofs.Common.{◌≡◌, ℕ, zero, suc, ◌<◌, List, length, Option, Some, None, Bool, true, false, refl, set}
use Rattle.std.proofs.lemmas.Bool.{ltb-true}
use Rattle.std.proofs.lemmas.List.{length-set}
use Rattle.std.specs.Prelude.{if◌then◌else◌, nat_lt, option_and_then, slice_index_or}
use Rattle.heap_terms.specs.declared.answers.Refusal.TheVariants.{NotType, OutOfRange}
use Rattle.heap_terms.specs.declared.cells.Value.{Value}
use Rattle.heap_terms.specs.declared.cells.Value.TheVariants as values
use Rattle.heap_terms.specs.Heap.{NamedHeap, object_at}
use Rattle.heap_terms.specs.Objects.{Object, Contents, ConsOf, VectorOf, InstanceOf, ClosureOf, WordsOf, WeakTo, TableOf, kind_of, payload_of, fields_of}
use Rattle.heap_terms.specs.Outcome.{Outcome, refused, needing, indexing}
use Rattle.heap_terms.specs.Referents.{contents_of, contents_at, fields_at, raws_of, raws_at, pointee_of, pointee_at, Table, table_of, table_at, with_field, changed_at}

-- a fact of both of two outcomes
pub by_test : {X : Type 0} (P : X → Type 0) (b : Bool) (x y : X) → (b ≡ true → P x) → (b ≡ false → P y) → P (if b then x else y)
by_test P true x y one other = one refl
by_test P false x y one other = other refl

-- a fact of a refusal, and of what is done where there is what the command needs
pub needing_cases : {A : Type 0} (Q : Outcome → Type 0) (o : Option A) (a : NamedHeap) (go : A → Outcome) → Q (refused NotType a) →
    ((x : A) → o ≡ Some x → Q (go x)) → Q (needing o a go)
needing_cases Q None a go same found = same
needing_cases Q (Some x) a go same found = found x refl

pub indexing_cases : {A : Type 0} (Q : Outcome → Type 0) (xs : List A) (i : ℕ) (default : A) (a : NamedHeap) (go : A → Outcome) → Q (refused OutOfRange a) →
    (i < length xs → Q (go (slice_index_or xs i default))) → Q (indexing xs i default a go)
indexing_cases Q xs i default a go same found = by_test Q (nat_lt i (length xs)) (go (slice_index_or xs i default)) (refused OutOfRange a)
    (λ e. found (ltb-true i (length xs) e)) (λ e. same)

-- the same of the heap that is left, which a refusal does not change
pub by_needing : {A : Type 0} (P : NamedHeap → Type 0) (o : Option A) (a : NamedHeap) (go : A → Outcome) → P a →
    ((x : A) → o ≡ Some x → P (go x).heap) → P (needing o a go).heap
by_needing P o a go same found = needing_cases (λ (x : Outcome). P x.heap) o a go same found

pub by_indexing : {A : Type 0} (P : NamedHeap → Type 0) (xs : List A) (i : ℕ) (default : A) (a : NamedHeap) (go : A → Outcome) → P a →
    (i < length xs → P (go (slice_index_or xs i default)).heap) → P (indexing xs i default a go).heap
by_indexing P xs i default a go same found = indexing_cases (λ (x : Outcome). P x.heap) xs i default a go same found

-- what an option leads to
pub and_then_parts : {A B : Type 0} (f : A → Option B) (o : Option A) (y : B) → option_and_then f o ≡ Some y → (x : A) × (o ≡ Some x) × (f x ≡ Some y)
and_then_parts f None y e = cc
and_then_parts f (Some x) y e = (x, refl, e)

-- a value refers to an object that is there and holds this
pub record Refers (objects : List (Option Object)) (v : Value) (k : Contents) : Type 0 where
  pub name : ℕ
  pub object : Object
  pub is : v ≡ values.Ref name
  pub there : object_at objects name ≡ Some object
  pub holds : object.contents ≡ k

pub refers_at : (objects : List (Option Object)) (v : Value) (k : Contents) → contents_at objects v ≡ Some k → Refers objects v k
refers_at objects (values.Fix n) k e = cc
refers_at objects values.Nil k e = cc
refers_at objects values.Unbound k e = cc
refers_at objects (values.Ref name) k e =
    let found = held (object_at objects name) k e in
    record { name = name; object = found.0; is = refl; there = found.1; holds = found.2 }
  where
    held : (o : Option Object) (k : Contents) → contents_of o ≡ Some k → (q : Object) × (o ≡ Some q) × (q.contents ≡ k)
    held None k e = cc
    held (Some q) k e = (q, refl, cc)

-- a value that has fields, raw words, a pointee or a table refers to an object that has them
pub fields_refer : (objects : List (Option Object)) (v : Value) (vs : List Value) → fields_at objects v ≡ Some vs → (k : Contents) × Refers objects v k × (fields_of k ≡ Some vs)
fields_refer objects v vs e = let parts = and_then_parts fields_of (contents_at objects v) vs e in (parts.0, refers_at objects v parts.0 parts.1, parts.2)

pub raws_refer : (objects : List (Option Object)) (v : Value) (ws : List ℕ) → raws_at objects v ≡ Some ws → Refers objects v (WordsOf ws)
raws_refer objects v ws e = let parts = and_then_parts raws_of (contents_at objects v) ws e in go parts.0 parts.1 parts.2
  where
    go : (k : Contents) → contents_at objects v ≡ Some k → raws_of k ≡ Some ws → Refers objects v (WordsOf ws)
    go (ConsOf x y) at e = cc
    go (VectorOf vs) at e = cc
    go (InstanceOf vs) at e = cc
    go (ClosureOf vs) at e = cc
    go (WordsOf us) at e = let same : us ≡ ws = cc in refers_at objects v (WordsOf ws) (rw (← same) at)
    go (WeakTo w) at e = cc
    go (TableOf w b pairs) at e = cc

pub pointee_refers : (objects : List (Option Object)) (v w : Value) → pointee_at objects v ≡ Some w → Refers objects v (WeakTo w)
pointee_refers objects v w e = let parts = and_then_parts pointee_of (contents_at objects v) w e in go parts.0 parts.1 parts.2
  where
    go : (k : Contents) → contents_at objects v ≡ Some k → pointee_of k ≡ Some w → Refers objects v (WeakTo w)
    go (ConsOf x y) at e = cc
    go (VectorOf vs) at e = cc
    go (InstanceOf vs) at e = cc
    go (ClosureOf vs) at e = cc
    go (WordsOf us) at e = cc
    go (WeakTo u) at e = let same : u ≡ w = cc in refers_at objects v (WeakTo w) (rw (← same) at)
    go (TableOf u b pairs) at e = cc

pub table_refers : (objects : List (Option Object)) (v : Value) (t : Table) → table_at objects v ≡ Some t → Refers objects v (TableOf t.weakness t.capacity t.pairs)
table_refers objects v t e = let parts = and_then_parts table_of (contents_at objects v) t e in go parts.0 parts.1 parts.2
  where
    go : (k : Contents) → contents_at objects v ≡ Some k → table_of k ≡ Some t → Refers objects v (TableOf t.weakness t.capacity t.pairs)
    go (ConsOf x y) at e = cc
    go (VectorOf vs) at e = cc
    go (InstanceOf vs) at e = cc
    go (ClosureOf vs) at e = cc
    go (WordsOf us) at e = cc
    go (WeakTo u) at e = cc
    go (TableOf w b pairs) at e =
        let same : t ≡ record { weakness = w; capacity = b; pairs = pairs } = cc in
        rw same (refers_at objects v (TableOf w b pairs) at)

-- the objects after the one that a value refers to was changed
pub changed_is : (objects : List (Option Object)) (v : Value) (k : Contents) (change : Contents → Contents) → (r : Refers objects v k) →
    changed_at objects v change ≡ set objects r.name (Some (record r.object { contents = change r.object.contents }))
changed_is objects v k change r = rw (r.is, r.there) refl

-- a change of a field keeps the kind and the size
pub with_field-kind : (k : Contents) (i : ℕ) (v : Value) → kind_of (with_field k i v) ≡ kind_of k
with_field-kind (ConsOf a b) zero v = refl
with_field-kind (ConsOf a b) (suc zero) v = refl
with_field-kind (ConsOf a b) (suc (suc i)) v = refl
with_field-kind (VectorOf vs) i v = refl
with_field-kind (InstanceOf vs) i v = refl
with_field-kind (ClosureOf vs) i v = refl
with_field-kind (WordsOf ws) i v = refl
with_field-kind (WeakTo w) i v = refl
with_field-kind (TableOf w b pairs) i v = refl

pub with_field-payload : (k : Contents) (i : ℕ) (v : Value) → payload_of (with_field k i v) ≡ payload_of k
with_field-payload (ConsOf a b) zero v = refl
with_field-payload (ConsOf a b) (suc zero) v = refl
with_field-payload (ConsOf a b) (suc (suc i)) v = refl
with_field-payload (VectorOf vs) i v = length-set vs i v
with_field-payload (InstanceOf vs) i v = length-set vs i v
with_field-payload (ClosureOf vs) i v = length-set vs i v
with_field-payload (WordsOf ws) i v = refl
with_field-payload (WeakTo w) i v = refl
with_field-payload (TableOf w b pairs) i v = refl
