-- The words of values stay while fields of objects change and objects are added.
use Rattle.std.proofs.Common.{◌≡◌, ℕ, ◌<◌, List, [], ◌∷◌, ◌++◌, length, refl, sym, ◌∙◌, ap, inl, inr, Option, Some, None, set}
use Rattle.std.proofs.lemmas.Bool.{cases_lt}
use Rattle.std.proofs.lemmas.List.{get_or_past, get_or_append_left}
use Rattle.std.specs.Prelude.{IsSome}
use Rattle.heap_terms.specs.declared.cells.Value.{Value}
use Rattle.heap_terms.specs.declared.cells.Value.TheVariants.{Fix, Nil, Unbound, Ref}
use Rattle.heap_terms.specs.Heap.{object_at}
use Rattle.heap_terms.specs.Layout.{reference_word}
use Rattle.heap_terms.specs.Objects.{Object, Contents, kind_of}
use Rattle.heap_terms.specs.WellFormed.{IsLiving}
use Rattle.heap_terms.specs.Spelling.{word_of, word_of_object}
use Rattle.heap_laws.proofs.AtPlaces.{set_cases, IsSome-value}

-- an object that holds something else of its kind has the same reference, and no other value's word changes
pub word_of-replaced : (objects : List (Option Object)) (x : ℕ) (o : Object) (k : Contents) (v : Value) → object_at objects x ≡ Some o →
    kind_of k ≡ kind_of o.contents → word_of (set objects x (Some (record o { contents = k }))) v ≡ word_of objects v
word_of-replaced objects x o k (Fix n) there kind = refl
word_of-replaced objects x o k Nil there kind = refl
word_of-replaced objects x o k Unbound there kind = refl
word_of-replaced objects x o k (Ref y) there kind =
    elim (set_cases objects x y (Some (record o { contents = k })) None) [
      | inl same ↦ ap word_of_object same
      | inr changed ↦ (
          let before : object_at objects y ≡ Some o = ap (object_at objects) changed.0 ∙ there in
          ap word_of_object changed.2 ∙ ap (reference_word o.place) kind ∙ ap word_of_object (sym before))
    ]

-- a name that is there is below the number of names
pub name_below : (objects : List (Option Object)) (name : ℕ) → IsSome (object_at objects name) → name < length objects
name_below objects name there = elim (cases_lt name (length objects)) [
  | inl h ↦ h
  | inr h ↦ (
      let gone : object_at objects name ≡ None = get_or_past objects name None h in
      let found = IsSome-value (object_at objects name) there in
      let clash : Some (found.0) ≡ None = sym found.1 ∙ gone in
      let never : ⊥ = cc in absurd never)
]

-- one more object changes the word of no living value
pub word_of-push : (objects : List (Option Object)) (o : Object) (v : Value) → IsLiving objects v →
    word_of (objects ++ Some o ∷ []) v ≡ word_of objects v
word_of-push objects o (Fix n) h = refl
word_of-push objects o Nil h = refl
word_of-push objects o Unbound h = refl
word_of-push objects o (Ref y) h =
    ap word_of_object (get_or_append_left objects (Some o ∷ []) None y (name_below objects y h))
