-- How many words a generation has after each event: a commit adds those of its object to the youngest, a pass moves those of
-- what remains to its target, and nothing else changes them.
use Rattle.std.proofs.Common.{◌≡◌, ℕ, zero, suc, ◌+◌, ◌<◌, List, length, get_or, set, Option, Some, None, Bool, true, false, inl, inr, refl, sym, ◌∙◌, ap, arith}
use Rattle.std.proofs.lemmas.Bool.{cases_Bool, cases_lt, eqb-true}
use Rattle.std.proofs.lemmas.List.{get_or_past}
use Rattle.std.proofs.lemmas.List.Sums.{sum_by_push, sum_by-cons, sum_by-set}
use Rattle.std.specs.List.{range_with_len, sum_by}
use Rattle.std.specs.Prelude.{if◌then◌else◌, ◌==◌, ◌&&◌}
use Rattle.heap_terms.specs.declared.commands.Command.{Command}
use Rattle.heap_terms.specs.declared.events.PassRecord.{PassRecord}
use Rattle.heap_terms.specs.declared.kinds.Kind.{Kind}
use Rattle.heap_terms.specs.declared.programs.Program.{Program}
use Rattle.heap_terms.specs.Generations.{allocated, has_generation, words_taken, names}
use Rattle.heap_terms.specs.Heap.{NamedHeap, thread_at, object_at}
use Rattle.heap_terms.specs.Layout.{size_of}
use Rattle.heap_terms.specs.Objects.{Object, kind_of, payload_of, words_of_object}
use Rattle.heap_terms.specs.Outcomes.{outcome_of}
use Rattle.heap_terms.specs.Passes.{after_pass, object_after, remains, remains_at}
use Rattle.heap_terms.specs.Regions.{Make, wish_of, committed, place_for}
use Rattle.heap_terms.specs.Survival.{surviving}
use Rattle.heap_terms.specs.Valid.{IsInRange, is_gc}
use Rattle.heap_terms.specs.WellFormed.{IsWellFormed}
use Rattle.heap_laws.specs.Limited.{IsLimited}
use Rattle.heap_laws.proofs.Events.OwnThread.{built_heap}
use Rattle.heap_laws.proofs.Events.Tasks.{with_cell-objects}
use Rattle.heap_laws.proofs.Lists.Sums.{sum_places, sum_same}
use Rattle.heap_laws.proofs.Outcomes.Changes.{by_outcome}
use Rattle.pass_laws.proofs.AfterPages.{object_at-after, surviving-kind, surviving-payload}
use Rattle.pass_laws.proofs.Lookups.{made_length}
use Rattle.heap_laws.proofs.WellFormed.Committed.{new_object, initial_kind, initial_payload}
use Rattle.heap_laws.proofs.WellFormed.PagesStay.{IsSameShape, same_words}

-- the words that an object adds to generation g
abbrev counted_in : ℕ → Option Object → ℕ
counted_in g o = if has_generation g o then words_taken o else 0

-- a commit
pub committed-allocated : (p : Program) (a : NamedHeap) (t : ℕ) (c : Command) (kind : Kind) (n seed g : ℕ) → wish_of c ≡ Make kind n seed →
    allocated (committed p a t c kind n) g ≡ allocated a g + (if 0 == g then size_of kind n else 0)
committed-allocated p a t c kind n seed g wish =
    let o = new_object a t c (place_for a t kind (size_of kind n)) in
    let words : words_of_object o ≡ size_of kind n = rw (initial_kind a t c kind n seed wish, initial_payload a t c kind n seed wish) refl in
    ap (sum_by (counted_in g)) (built_heap p a t c kind n).objects
    ∙ sum_by_push (counted_in g) a.objects (Some o)
    ∙ ap (λ (k : ℕ). allocated a g + (if 0 == g then k else 0)) words

-- an object is replaced by one of the same generation and size
same_counted : (g : ℕ) (o q : Object) → IsSameShape o q → counted_in g (Some q) ≡ counted_in g (Some o)
same_counted g o q same =
    ap (λ (n : ℕ). if n == g then words_of_object q else 0) same.generation
    ∙ ap (λ (n : ℕ). if o.generation == g then n else 0) (same_words o q same)

written : (g : ℕ) (objects : List (Option Object)) (name : ℕ) (o q : Object) → object_at objects name ≡ Some o → IsSameShape o q →
    sum_by (counted_in g) (set objects name (Some q)) ≡ sum_by (counted_in g) objects
written g objects name o q e same = elim (cases_lt name (length objects)) [
  | inr past ↦ (let none : None ≡ Some o = sym (get_or_past objects name None past) ∙ e in cc)
  | inl l ↦ (let change = sum_by-set (counted_in g) objects name (Some q) None l in
      let counted = same_counted g o q same in
      let was : counted_in g (get_or objects name None) ≡ counted_in g (Some o) = ap (counted_in g) e in
      omega arith)
]

-- a command that allocates nothing
pub outcome-allocated : (p : Program) (a : NamedHeap) (t : ℕ) (c : Command) (g : ℕ) → IsLimited p → IsWellFormed p a → t < length p.threads → (thread_at a t).ended ≡ false →
    IsInRange c → allocated (outcome_of a t c).heap g ≡ allocated a g
outcome-allocated p a t c g limits w l alive in_range = by_outcome p a t (λ b. allocated b g ≡ allocated a g) w limits.pages_most l alive (is_gc c) refl
    (λ d v living. ap (sum_by (counted_in g)) (with_cell-objects a t d v))
    (λ th r. refl)
    (λ name o q e same living shape. written g a.objects name o q e same)
    (λ fs all. refl)
    refl
    c refl in_range

-- ---- a pass

-- the words of what remains of generation g
abbrev pub kept_in : NamedHeap → PassRecord → ℕ → Option Object → ℕ
kept_in a r name o = if has_generation r.generation o && remains a r name then words_taken o else 0

abbrev pub kept_words : NamedHeap → PassRecord → ℕ
kept_words a r = sum_by (λ name. kept_in a r name (object_at a.objects name)) (names a)

-- the words of an object that remains
surviving_words : (a : NamedHeap) (r : PassRecord) (o : Object) → size_of (kind_of (surviving (remains a r) o.contents)) (payload_of (surviving (remains a r) o.contents)) ≡ words_of_object o
surviving_words a r o = rw (surviving-payload (remains a r) o.contents, surviving-kind (remains a r) o.contents) refl

pub sum_both : (f g : ℕ → ℕ) (a n : ℕ) → sum_by (λ t. f t + g t) (range_with_len a n) ≡ sum_by f (range_with_len a n) + sum_by g (range_with_len a n)
sum_both f g a zero = refl
sum_both f g a (suc n) =
    let rest = sum_both f g (a + 1) n in
    omega (
      arith,
      sum_by-cons f a (range_with_len (a + 1) n),
      sum_by-cons g a (range_with_len (a + 1) n),
      sum_by-cons (λ t. f t + g t) a (range_with_len (a + 1) n),
    )

pub sum_nothing : (a n : ℕ) → sum_by (λ t. 0) (range_with_len a n) ≡ 0
sum_nothing a zero = refl
sum_nothing a (suc n) = let rest = sum_nothing (a + 1) n in omega (arith, sum_by-cons (λ t. 0) a (range_with_len (a + 1) n))

-- a sum of terms that are there all or none
sum_if : (b : Bool) (f : ℕ → ℕ) (a n : ℕ) → sum_by (λ t. if b then f t else 0) (range_with_len a n) ≡ (if b then sum_by f (range_with_len a n) else 0)
sum_if true f a n = refl
sum_if false f a n = sum_nothing a n

sum_unless : (b : Bool) (f : ℕ → ℕ) (a n : ℕ) → sum_by (λ t. if b then 0 else f t) (range_with_len a n) ≡ (if b then 0 else sum_by f (range_with_len a n))
sum_unless true f a n = sum_nothing a n
sum_unless false f a n = refl

-- an object of the generation that remains, one that is gone, and one of another generation
kept_case : (t g : Bool) (w : ℕ) → (if t then w else 0) ≡ (if t then w else 0) + (if g then 0 else (if g then w else 0))
kept_case true true w = omega arith
kept_case true false w = omega arith
kept_case false true w = refl
kept_case false false w = refl

gone_case : (t g : Bool) (w : ℕ) → 0 ≡ (if t then 0 else 0) + (if g then 0 else (if g then w else 0))
gone_case true true w = refl
gone_case true false w = refl
gone_case false true w = refl
gone_case false false w = refl

other_case : (t g z : Bool) (w : ℕ) → (g ≡ true → z ≡ false) → (if z then w else 0) ≡ (if t then 0 else 0) + (if g then 0 else (if z then w else 0))
other_case true true z w apart = rw (apart refl) refl
other_case false true z w apart = rw (apart refl) refl
other_case true false true w apart = omega arith
other_case true false false w apart = refl
other_case false false true w apart = omega arith
other_case false false false w apart = refl

nothing_case : (t g : Bool) → 0 ≡ (if t then 0 else 0) + (if g then 0 else 0)
nothing_case true true = refl
nothing_case true false = refl
nothing_case false true = refl
nothing_case false false = refl

-- what one name adds to generation i after the pass
one_after : (a : NamedHeap) (r : PassRecord) (i name : ℕ) (o : Option Object) → object_at a.objects name ≡ o →
    counted_in i (object_after a r name o)
    ≡ (if r.target == i then kept_in a r name o else 0) + (if r.generation == i then 0 else counted_in i o)
one_after a r i name None at = nothing_case (r.target == i) (r.generation == i)
one_after a r i name (Some o) at = elim (cases_Bool (o.generation == r.generation)) [
  | inl own ↦ (
      let same : o.generation ≡ r.generation = eqb-true o.generation r.generation own in
      let again : (r.generation == i) ≡ (o.generation == i) = ap (λ (n : ℕ). n == i) (sym same) in
      elim (cases_Bool (remains a r name)) [
        | inl live ↦ rw (own, live, surviving_words a r o, again) (kept_case (r.target == i) (o.generation == i) (words_of_object o))
        | inr dead ↦ rw (own, dead, again) (gone_case (r.target == i) (o.generation == i) (words_of_object o))
      ])
  | inr other ↦ (
      let live : remains a r name ≡ true = ap (remains_at r name) at ∙ rw other refl in
      rw (other, live, surviving_words a r o)
      (other_case (r.target == i) (r.generation == i) (o.generation == i) (words_of_object o) (λ here. apart here other)))
]
  where
    apart : (r.generation == i) ≡ true → (o.generation == r.generation) ≡ false → (o.generation == i) ≡ false
    apart here other = let is : r.generation ≡ i = eqb-true r.generation i here in rw (← is) other

objects_length : (a : NamedHeap) (r : PassRecord) → length (after_pass a r).objects ≡ length a.objects
unfolding after_pass
objects_length a r = made_length (λ name. object_after a r name (object_at a.objects name)) (length a.objects)

-- a pass gives the words of what remains of its generation to the target, and those of other generations stay
pub pass-allocated : (a : NamedHeap) (r : PassRecord) (i : ℕ) →
    allocated (after_pass a r) i ≡ (if r.target == i then kept_words a r else 0) + (if r.generation == i then 0 else allocated a i)
pass-allocated a r i =
    let n = length a.objects in
    let kept : ℕ → ℕ = λ u. kept_in a r u (object_at a.objects u) in
    let before : ℕ → ℕ = λ u. counted_in i (object_at a.objects u) in
    sum_places (counted_in i) (after_pass a r).objects None
    ∙ ap (λ (k : ℕ). sum_by (λ u. counted_in i (object_at (after_pass a r).objects u)) (range_with_len 0 k)) (objects_length a r)
    ∙ sum_same (λ u. (if r.target == i then kept u else 0) + (if r.generation == i then 0 else before u)) (λ u. counted_in i (object_at (after_pass a r).objects u)) 0 n
    (λ u low high. ap (counted_in i) (object_at-after a r u) ∙ one_after a r i u (object_at a.objects u) refl)
    ∙ sum_both (λ u. if r.target == i then kept u else 0) (λ u. if r.generation == i then 0 else before u) 0 n
    ∙ ap (λ (k : ℕ). k + sum_by (λ u. if r.generation == i then 0 else before u) (range_with_len 0 n)) (sum_if (r.target == i) kept 0 n)
    ∙ ap (λ (k : ℕ). (if r.target == i then kept_words a r else 0) + k) (sum_unless (r.generation == i) before 0 n)
    ∙ ap (λ (k : ℕ). (if r.target == i then kept_words a r else 0) + (if r.generation == i then 0 else k)) (sym (sum_places (counted_in i) a.objects None))
