-- Weak pointers and tables to which cells of a sound World refer.
use Rattle.std.proofs.Common.{◌≡◌, ◌≢◌, ℕ, ◌+◌, ◌<◌, List, length, map, ◌∙◌, sym, subst, ap, arith, refl, ◌^◌, Some, ℤ, pos, negsuc}
use Rattle.std.specs.Prelude.{slice_index}
use Rattle.heap_terms.specs.declared.cells.Value.{Value}
use Rattle.heap_terms.specs.declared.cells.Value.TheVariants.{Fix, Nil, Unbound, Ref}
use Rattle.heap_terms.specs.declared.kinds.Kind.TheVariants as kinds
use Rattle.heap_terms.specs.declared.kinds.Weakness.{Weakness}
use Rattle.heap_terms.specs.Heap.{NamedHeap}
use Rattle.heap_terms.specs.Layout.{unbound_word, fixnum_word}
use Rattle.heap_terms.specs.Living.{HoldsLiving, IsLivingOrUnbound}
use Rattle.heap_terms.specs.Objects.{Object, Contents, WeakTo, TableOf}
use Rattle.heap_terms.specs.Referents.{pointee_at, table_at}
use Rattle.heap_terms.specs.Slots.{Side, slot_at}
use Rattle.heap_terms.specs.Valid.{IsFixnum}
use Rattle.heap_terms.specs.WellFormed.{IsLiving}
use Rattle.heap_terms.specs.Spelling.{word_of}
use Rattle.eq_index.specs.Tables.{IsTable}
use Rattle.lisp_heap.specs.LivingWords.{IsOfKind, RefersTo}
use Rattle.lisp_heap.specs.View.{View, heap_of}
use Rattle.lisp_heap.specs.WorldSound.{IsSound, view_of}
use Rattle.lisp_heap.specs.declared.world.World.TheInside.{Inside}
use Rattle.lisp_heap.proofs.Referring.{object_known, object_of, slot_word}
use Rattle.lisp_heap.proofs.Soundness.{heap, well_formed}
use Rattle.lisp_heap.proofs.TablePlans.{weak_contents, pointee_is, table_is}
use Rattle.lisp_heap.proofs.TablesHere.{table_contents, in_words, here}

-- ---- weak pointers

-- the word of what a weak pointer points to: that of Unbound, or of a living value
pub record PointsTo (s : Inside) (w : View) (v : Value) (index : ℕ) : Type 0 where
  pub pointee : Value
  pub is : pointee_at (heap_of w).objects v ≡ Some pointee
  pub either : IsLivingOrUnbound (heap_of w).objects pointee
  pub word_is : slice_index s.space (index + 1) ≡ word_of (heap_of w).objects pointee
  pub inside : index + 1 < length s.space
  pub small : index + 1 < 2 ^ 32

points_in : (s : Inside) → IsSound s → (v : Value) (index : ℕ) → IsOfKind (heap s).objects v kinds.Weak (Some index) → PointsTo s (view_of s) v index
points_in s h v index f =
    let o = f.0 in
    let r = f.1 in
    let k = object_known s h r.name o r.there in
    let held = weak_contents o.contents f.2 in
    let living : HoldsLiving (heap s).objects (WeakTo held.0) = subst (HoldsLiving (heap s).objects) held.1 ((well_formed s h).sound.objects r.name o r.there).contents in
    record {
      pointee = held.0;
      is = pointee_is (heap s).objects v o held.0 r held.1;
      either = living;
      word_is = ap (λ (n : ℕ). slice_index s.space (n + 1)) f.3 ∙ slot_word s h r.name k 1 (Side held.0) (ap (λ (z : Contents). slot_at z 1) held.1);
      inside = omega (arith, f.3, k.least);
      small = omega (arith, f.3, k.below);
    }

pub points_to : (s : Inside) (w : View) → IsSound s → view_of s ≡ w → (v : Value) (index : ℕ) → IsOfKind (heap_of w).objects v kinds.Weak (Some index) → PointsTo s w v index
points_to s w h e v index = subst (λ (x : View). IsOfKind (heap_of x).objects v kinds.Weak (Some index) → PointsTo s x v index) e (points_in s h v index)

even_fixnum : (n : ℤ) → IsFixnum n → fixnum_word n ≢ unbound_word
even_fixnum (pos n) h e = omega (arith, h, e)
even_fixnum (negsuc n) h e = omega (arith, h, e)

-- no living value has the word of Unbound
unbound_in : (s : Inside) → IsSound s → (u : Value) → IsLivingOrUnbound (heap s).objects u → word_of (heap s).objects u ≡ unbound_word → u ≡ Unbound
unbound_in s h (Fix n) lives e = absurd (even_fixnum n lives e)
unbound_in s h Nil lives e = absurd (omega (arith, e))
unbound_in s h Unbound lives e = refl
unbound_in s h (Ref name) lives e = (let k = object_of s h name lives in absurd (omega (arith, e, k.word_is)))

pub unbound_is : (s : Inside) (w : View) → IsSound s → view_of s ≡ w → (u : Value) → IsLivingOrUnbound (heap_of w).objects u →
    word_of (heap_of w).objects u ≡ unbound_word → u ≡ Unbound
unbound_is s w h e u =
    subst (λ (x : View). IsLivingOrUnbound (heap_of x).objects u → word_of (heap_of x).objects u ≡ unbound_word → u ≡ Unbound) e (unbound_in s h u)

pub bound_lives : (a : NamedHeap) (u : Value) → IsLivingOrUnbound a.objects u → word_of a.objects u ≢ unbound_word → IsLiving a.objects u
bound_lives a (Fix n) h b = h
bound_lives a Nil h b = h
bound_lives a Unbound h b = absurd (b refl)
bound_lives a (Ref name) h b = h

-- ---- tables

-- a value refers to a table, which stands at an index
pub record StandsTable (s : Inside) (v : Value) (index : ℕ) : Type 0 where
  pub object : Object
  pub refers : RefersTo (heap s).objects v object
  pub place : index ≡ object.place
  pub w : Weakness
  pub b : ℕ
  pub pairs : List (Value × Value)
  pub contents : object.contents ≡ TableOf w b pairs
  pub words : IsTable s.space index b (map (in_words (heap s).objects) pairs)

pub stands_in : (s : Inside) → IsSound s → (v : Value) (index : ℕ) → IsOfKind (heap s).objects v kinds.Table (Some index) → StandsTable s v index
stands_in s h v index f =
    let held = table_contents (f.0).contents f.2 in
    record {
      object = f.0;
      refers = f.1;
      place = f.3;
      w = held.w;
      b = held.b;
      pairs = held.pairs;
      contents = held.is;
      words = subst (λ (n : ℕ). IsTable s.space n held.b (map (in_words (heap s).objects) held.pairs)) (sym f.3) (here s h (f.1).name f.0 held.w held.b held.pairs (f.1).there held.is);
    }

pub stands_table : (s : Inside) (w : View) → IsSound s → view_of s ≡ w → (v : Value) (index : ℕ) → IsOfKind (heap_of w).objects v kinds.Table (Some index) → StandsTable s v index
stands_table s w h e v index f = stands_in s h v index (subst (λ (x : View). IsOfKind (heap_of x).objects v kinds.Table (Some index)) (sym e) f)

-- the table as it is read in the heap of a view
pub counted : (s : Inside) (w : View) → view_of s ≡ w → (v : Value) (index : ℕ) → (t : StandsTable s v index) →
    table_at (heap_of w).objects v ≡ Some (record { weakness = t.w; capacity = t.b; pairs = t.pairs })
counted s w e v index t =
    subst (λ (x : View). table_at (heap_of x).objects v ≡ Some (record { weakness = t.w; capacity = t.b; pairs = t.pairs })) e
    (table_is (heap s).objects v t.object t.w t.b t.pairs t.refers t.contents)
