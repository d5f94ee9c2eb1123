-- In a well-formed heap there are live names, and each of them is there.
use Rattle.std.proofs.Common.{◌≡◌, ℕ, ◌<◌, List, [], ◌∷◌, length, get_or, Option, Some, None, Bool, true, false, inl, inr, refl, sym, ◌∙◌, subst, arith}
use Rattle.std.proofs.lemmas.Bool.{cases_lt, cases_Bool, or_cases, and_parts, and_from, false≢true, eqb-true}
use Rattle.std.proofs.lemmas.List.{get_or-map, get_or_past}
use Rattle.std.specs.List.{list_any}
use Rattle.std.specs.Prelude.{◌&&◌, IsSome, is_some}
use Rattle.heap_terms.specs.declared.cells.Value.{Value}
use Rattle.heap_terms.specs.declared.cells.Value.TheVariants as values
use Rattle.heap_terms.specs.declared.programs.Program.{Program}
use Rattle.heap_terms.specs.Heap.{NamedHeap, Thread, object_at, thread_at, ended_thread, fresh_thread, zero_value}
use Rattle.heap_terms.specs.Live.{is_live, AreLive, KeepsSides, Keeps, AreLiveNames}
use Rattle.heap_terms.specs.Objects.{Object, Contents, ConsOf, VectorOf, InstanceOf, ClosureOf, WordsOf, WeakTo, TableOf}
use Rattle.heap_terms.specs.Roots.{is_hit, ambiguous_words}
use Rattle.heap_terms.specs.WellFormed.{IsWellFormed, IsLiving, AreLiving, HoldsLiving}
use Rattle.pass_laws.proofs.LiveNames.{refers, pair_reaches, keeps_value, reaches, AllBelow, live_names}
use Rattle.pass_laws.proofs.Lookups.{found_at, all_zero}

-- an object that is there has a name below the number of objects
there_below : (objects : List (Option Object)) (x : ℕ) → IsSome (object_at objects x) → x < length objects
there_below objects x h = elim (cases_lt x (length objects)) [
  | inl l ↦ l
  | inr l ↦ (let gone : IsSome {T = Object} None = rw (get_or_past objects x None l) at h in absurd (false≢true gone))
]

living_below : (objects : List (Option Object)) (v : Value) (x : ℕ) → IsLiving objects v → refers x v ≡ true → x < length objects
living_below objects (values.Fix n) x living e = absurd (false≢true e)
living_below objects values.Nil x living e = absurd (false≢true e)
living_below objects values.Unbound x living e = absurd (false≢true e)
living_below objects (values.Ref y) x living e = subst (λ (z : ℕ). z < length objects) (eqb-true y x e) (there_below objects y living)

list_below : (objects : List (Option Object)) (vs : List Value) (x : ℕ) → AreLiving objects vs → list_any (refers x) vs ≡ true → x < length objects
list_below objects vs x living e =
    let found = found_at (refers x) vs e in living_below objects (get_or vs found.0 zero_value) x (living found.0) (found.2 zero_value)

contents_below : (objects : List (Option Object)) (k : Contents) (set : ℕ → Bool) (x : ℕ) → HoldsLiving objects k → reaches set x k ≡ true → x < length objects
contents_below objects (ConsOf a b) set x holds e = elim (or_cases (refers x a) (refers x b) e) [
  | inl f ↦ living_below objects a x holds.0 f
  | inr f ↦ living_below objects b x holds.1 f
]
contents_below objects (VectorOf vs) set x holds e = list_below objects vs x holds e
contents_below objects (InstanceOf vs) set x holds e = list_below objects vs x holds e
contents_below objects (ClosureOf vs) set x holds e = list_below objects vs x holds e
contents_below objects (WordsOf ws) set x holds e = absurd (false≢true e)
contents_below objects (WeakTo v) set x holds e = absurd (false≢true e)
contents_below objects (TableOf w b pairs) set x holds e =
    let found = found_at (pair_reaches set x w) pairs e in
    let d : Value × Value = (zero_value, zero_value) in
    let pair = get_or pairs found.0 d in
    let key : IsLiving objects pair.0 = subst (IsLiving objects) (get_or-map (λ (q : Value × Value). q.0) pairs found.0 d zero_value found.1) (holds.0 found.0) in
    let value : IsLiving objects pair.1 = subst (IsLiving objects) (get_or-map (λ (q : Value × Value). q.1) pairs found.0 d zero_value found.1) (holds.1 found.0) in
    elim (or_cases (keeps_value w (is_live set pair.0) && refers x pair.1) _ (found.2 d)) [
      | inl f ↦ living_below objects pair.1 x value (and_parts _ _ f).1
      | inr f ↦ living_below objects pair.0 x key (and_parts _ _ f).1
    ]

-- the cells of each thread are living, also of a number that no thread has
pub exact_living : (p : Program) (a : NamedHeap) → IsWellFormed p a → (t : ℕ) → AreLiving a.objects (thread_at a t).exact
exact_living p a w t = elim (cases_lt t (length p.threads)) [
  | inl l ↦ (w.threads t l).exact
  | inr l ↦ (let long = w.threads_length in
      subst (λ (th : Thread). AreLiving a.objects th.exact) (sym (get_or_past a.threads t (ended_thread fresh_thread) (omega arith))) (λ i. zero_cells i))
]
  where
    zero_cells : (i : ℕ) → IsLiving a.objects (get_or (ended_thread fresh_thread).exact i zero_value)
    zero_cells i = (let same = all_zero 16 i in rw same (omega arith))

-- every value refers to an object that is there
pub all_below : (p : Program) (a : NamedHeap) → IsWellFormed p a → AllBelow a
all_below p a w = (
  λ t x e. list_below a.objects (thread_at a t).exact x (exact_living p a w t) e,
  λ x e. list_below a.objects a.shared x w.shared e,
  λ m o set x at e. contents_below a.objects o.contents set x (w.sound.objects m o at).contents e,
)

-- live values among those that are there
both_live : (objects : List (Option Object)) (live : ℕ → Bool) (v : Value) → IsLiving objects v → is_live (λ x. live x && is_some (object_at objects x)) v ≡ is_live live v
both_live objects live (values.Fix n) h = refl
both_live objects live values.Nil h = refl
both_live objects live values.Unbound h = refl
both_live objects live (values.Ref x) h = elim (cases_Bool (live x)) [
  | inl here ↦ and_from (live x) _ here h ∙ sym here
  | inr none ↦ rw none refl
]

both_list : (objects : List (Option Object)) (live : ℕ → Bool) (vs : List Value) → AreLiving objects vs → AreLive live vs → AreLive (λ x. live x && is_some (object_at objects x)) vs
both_list objects live vs h keeps i = both_live objects live (get_or vs i zero_value) (h i) ∙ keeps i

both_keeps : (objects : List (Option Object)) (live : ℕ → Bool) (k : Contents) → HoldsLiving objects k → Keeps live k → Keeps (λ x. live x && is_some (object_at objects x)) k
both_keeps objects live (ConsOf a b) h keeps = (both_live objects live a h.0 ∙ keeps.0, both_live objects live b h.1 ∙ keeps.1)
both_keeps objects live (VectorOf vs) h keeps = both_list objects live vs h keeps
both_keeps objects live (InstanceOf vs) h keeps = both_list objects live vs h keeps
both_keeps objects live (ClosureOf vs) h keeps = both_list objects live vs h keeps
both_keeps objects live (WordsOf ws) h keeps = tt
both_keeps objects live (WeakTo v) h keeps = tt
both_keeps objects live (TableOf w b pairs) h keeps = λ i. elim (cases_lt i (length pairs)) [
  | inl l ↦ (let d : Value × Value = (zero_value, zero_value) in
      let pair = get_or pairs i d in
      let key : IsLiving objects pair.0 = subst (IsLiving objects) (get_or-map (λ (q : Value × Value). q.0) pairs i d zero_value l) (h.0 i) in
      let value : IsLiving objects pair.1 = subst (IsLiving objects) (get_or-map (λ (q : Value × Value). q.1) pairs i d zero_value l) (h.1 i) in
      rw (both_live objects live pair.0 key, both_live objects live pair.1 value) (keeps i))
  | inr l ↦ (let past = get_or_past pairs i (zero_value, zero_value) l in
      let keeps' : KeepsSides w true true = rw past at (keeps i) in rw past keeps')
]

-- a live name is there
pub live_there : (p : Program) (a : NamedHeap) (g : ℕ) (live : ℕ → Bool) → IsWellFormed p a → AreLiveNames a g live → (x : ℕ) → live x ≡ true → IsSome (object_at a.objects x)
live_there p a g live w h x e =
    let closed = h.closed in
    (and_parts (live x) (is_some (object_at a.objects x)) (h.least (λ x. live x && is_some (object_at a.objects x)) (record {
      others = λ name o at apart. and_from _ _ (closed.others name o at apart) (rw at refl);
      exact = λ t. both_list a.objects live (thread_at a t).exact (exact_living p a w t) (closed.exact t);
      shared = both_list a.objects live a.shared w.shared closed.shared;
      hit = λ name hit. and_from _ _ (closed.hit name hit) (hit_there name hit);
      members = λ name o at in_set. both_keeps a.objects live o.contents (w.sound.objects name o at).contents (closed.members name o at (and_parts (live name) _ in_set).0);
    }) x e)).1
  where
    hit_there : (name : ℕ) → is_hit a name ≡ true → is_some (object_at a.objects name) ≡ true
    hit_there name hit = go (object_at a.objects name) refl
      where
        no_hits : (ws : List ℕ) → list_any (λ _. false) ws ≡ true → ⊥
        no_hits [] f = false≢true f
        no_hits (w ∷ ws) f = no_hits ws f

        go : (q : Option Object) → object_at a.objects name ≡ q → is_some q ≡ true
        go None at = absurd (no_hits (ambiguous_words a) (rw at at hit))
        go (Some o) at = refl

-- live names, which are there
pub live_exist : (p : Program) (a : NamedHeap) (g : ℕ) → IsWellFormed p a → (live : ℕ → Bool) × AreLiveNames a g live
live_exist p a g w = live_names a g (all_below p a w)
