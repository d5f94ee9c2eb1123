-- The exact roots of a heap, as values.
use Rattle.std.proofs.Common.{◌≡◌, ℕ, zero, suc, ◌+◌, ◌-◌, ◌<◌, ◌≤◌, List, [], ◌∷◌, ◌++◌, length, refl, sym, ◌∙◌, ap, arith, get_or, Option, ◌⊎◌, inl, inr}
use Rattle.std.proofs.lemmas.Bool.{cases_lt}
use Rattle.std.proofs.lemmas.List.{get_or_past, get_or_append_left, get_or-append_right, get_or-append-add}
use Rattle.std.proofs.lemmas.List.Elements.{All-head, All-tail}
use Rattle.std.specs.Prelude.{All, ◌↔◌, flat_map}
use Rattle.heap_terms.specs.declared.cells.Value.{Value}
use Rattle.heap_terms.specs.declared.cells.Value.TheVariants as values
use Rattle.heap_terms.specs.Heap.{NamedHeap, Thread, thread_at, ended_thread, fresh_thread, zero_value}
use Rattle.heap_terms.specs.Living.{AreLiving}
use Rattle.heap_terms.specs.Objects.{Object}
use Rattle.pass_laws.specs.Reached.{HasName}
use Rattle.pass_laws.proofs.Lookups.{all_zero}
use Rattle.trace_laws.specs.Rooted.{IsExactRoot}
use Rattle.lisp_heap.specs.Rooting.{exact_of, root_values}

-- ---- names in lists

inside : (vs : List Value) (i name : ℕ) → get_or vs i zero_value ≡ values.Ref name → i < length vs
inside vs i name e = elim (cases_lt i (length vs)) [
  | inl l ↦ l
  | inr past ↦ (let never : zero_value ≡ values.Ref name = sym (get_or_past vs i zero_value past) ∙ e in cc)
]

name_left : (xs ys : List Value) (name : ℕ) → HasName xs name → HasName (xs ++ ys) name
name_left xs ys name (i, e) = (i, get_or_append_left xs ys zero_value i (inside xs i name e) ∙ e)

name_right : (xs ys : List Value) (name : ℕ) → HasName ys name → HasName (xs ++ ys) name
name_right xs ys name (i, e) = (length xs + i, get_or-append-add xs ys i zero_value ∙ e)

name_parts : (xs ys : List Value) (name : ℕ) → HasName (xs ++ ys) name → HasName xs name ⊎ HasName ys name
name_parts xs ys name (i, e) = elim (cases_lt i (length xs)) [
  | inl l ↦ inl (i, sym (get_or_append_left xs ys zero_value i l) ∙ e)
  | inr past ↦ inr (i - length xs, sym (get_or-append_right xs ys (length xs) i zero_value refl past) ∙ e)
]

-- and in the cells of threads
name_in_thread : (ths : List Thread) (t name : ℕ) (d : Thread) → t < length ths → HasName (get_or ths t d).exact name → HasName (flat_map exact_of ths) name
name_in_thread [] t name d l h = absurd (omega (arith, l))
name_in_thread (th ∷ ths) zero name d l h = name_left th.exact (flat_map exact_of ths) name h
name_in_thread (th ∷ ths) (suc t) name d l h = name_right th.exact (flat_map exact_of ths) name (name_in_thread ths t name d (omega (arith, l)) h)

thread_of_name : (ths : List Thread) (name : ℕ) (d : Thread) → HasName (flat_map exact_of ths) name → (t : ℕ) × HasName (get_or ths t d).exact name
thread_of_name [] name d (i, e) = cc
thread_of_name (th ∷ ths) name d h = elim (name_parts th.exact (flat_map exact_of ths) name h) [
  | inl here ↦ (0, here)
  | inr rest ↦ (let r = thread_of_name ths name d rest in (suc r.0, r.1))
]

-- no name is in the cells of a thread that is not there
no_thread : (a : NamedHeap) (t name : ℕ) → length a.threads ≤ t → HasName (thread_at a t).exact name → ⊥
no_thread a t name past (i, e) =
    let none : get_or (thread_at a t).exact i zero_value ≡ zero_value =
    ap (λ (th : Thread). get_or th.exact i zero_value) (get_or_past a.threads t (ended_thread fresh_thread) past) ∙ all_zero 16 i in
    let never : zero_value ≡ values.Ref name = sym none ∙ e in
    cc

-- the names in the exact roots
pub exact_names : (a : NamedHeap) (name : ℕ) → IsExactRoot a name ↔ HasName (root_values a) name
exact_names a name = (to, from)
  where
    to : IsExactRoot a name → HasName (root_values a) name
    to (inl (t, h)) = elim (cases_lt t (length a.threads)) [
      | inl l ↦ name_left (flat_map exact_of a.threads) a.shared name (name_in_thread a.threads t name (ended_thread fresh_thread) l h)
      | inr past ↦ absurd (no_thread a t name past h)
    ]
    to (inr h) = name_right (flat_map exact_of a.threads) a.shared name h

    from : HasName (root_values a) name → IsExactRoot a name
    from h = elim (name_parts (flat_map exact_of a.threads) a.shared name h) [
      | inl in_threads ↦ inl (thread_of_name a.threads name (ended_thread fresh_thread) in_threads)
      | inr in_shared ↦ inr in_shared
    ]

-- ---- they are living

living_append : (objects : List (Option Object)) (xs ys : List Value) → AreLiving objects xs → AreLiving objects ys → AreLiving objects (xs ++ ys)
living_append objects xs ys one two i = elim (cases_lt i (length xs)) [
  | inl l ↦ rw (get_or_append_left xs ys zero_value i l) (one i)
  | inr past ↦ rw (get_or-append_right xs ys (length xs) i zero_value refl past) (two (i - length xs))
]

living_nil : (objects : List (Option Object)) → AreLiving objects []
living_nil objects i = omega arith

living_flat : (objects : List (Option Object)) (ths : List Thread) → All (λ (th : Thread). AreLiving objects th.exact) ths → AreLiving objects (flat_map exact_of ths)
living_flat objects [] h = living_nil objects
living_flat objects (th ∷ ths) h =
    living_append objects th.exact (flat_map exact_of ths) (All-head (λ (th : Thread). AreLiving objects th.exact) th ths h)
    (living_flat objects ths (All-tail (λ (th : Thread). AreLiving objects th.exact) th ths h))

pub roots_living : (a : NamedHeap) → All (λ (th : Thread). AreLiving a.objects th.exact) a.threads → AreLiving a.objects a.shared → AreLiving a.objects (root_values a)
roots_living a threads shared = living_append a.objects (flat_map exact_of a.threads) a.shared (living_flat a.objects a.threads threads) shared
