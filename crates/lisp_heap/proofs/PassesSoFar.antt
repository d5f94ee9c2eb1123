-- One pass more among those of a collection.
use Rattle.std.proofs.Common.{◌≡◌, ℕ, ◌+◌, ◌<◌, ◌≤◌, List, [], ◌∷◌, ◌++◌, length, refl, sym, ◌∙◌, subst, ap, arith, true, Option, Some, None, inl, inr}
use Rattle.std.proofs.lemmas.Bool.{cases_Bool, cases_eq, eq-eqb, false≢true}
use Rattle.std.proofs.lemmas.List.{length_push}
use Rattle.std.specs.Prelude.{◌==◌, if◌then◌else◌}
use Rattle.copy_space.specs.declared.notes.Pass.{Pass}
use Rattle.generation_policy.proofs.Loops.{after_one_more, last_one, one_more}
use Rattle.generation_policy.specs.declared.stats.GenStats.{GenStats}
use Rattle.generation_policy.specs.Plan.{pass_over, planned}
use Rattle.heap_terms.specs.declared.events.PassRecord.{PassRecord}
use Rattle.heap_terms.specs.declared.pages.Entry.{Entry}
use Rattle.heap_terms.specs.Collections.{IsPassOf, after_pass_of, after_passes, goes_on_after}
use Rattle.heap_terms.specs.Heap.{NamedHeap}
use Rattle.heap_terms.specs.Policy.{is_raised, target_of}
use Rattle.heap_terms.specs.WellFormed.{IsSound}
use Rattle.pass_laws.proofs.AfterPass.{remaining}
use Rattle.pass_laws.proofs.Collecting.{is_continued-low, is_continued-raised}
use Rattle.pass_laws.specs.NoRegions.{IsEmptyBelow}
use Rattle.trace_laws.specs.Rooted.{Rooted}
use Rattle.lisp_heap.specs.AllPasses.{IsNextPass, IsPlanned, IsStepped, Stand, StandNow}

-- a pass that raises empties its generation
raised_empty : (a : NamedHeap) (last g : ℕ) (r : PassRecord) → IsSound a → IsPassOf a last g r → is_raised a last g ≡ true → IsEmptyBelow a g → IsEmptyBelow (after_pass_of a last g r) (g + 1)
raised_empty a last g r sound pass raised empty x new e =
    let was = remaining a g (target_of g (is_raised a last g)) r sound pass x new e in
    let old = empty x was.object was.there in
    let target : r.target ≡ g + 1 = pass.target ∙ rw raised refl in
    rw was.is (elim (cases_Bool (was.object.generation == r.generation)) [
      | inl young ↦ rw young (omega (arith, target))
      | inr other ↦ rw other (let apart : was.object.generation ≡ g → ⊥ = λ same. false≢true (sym other ∙ eq-eqb was.object.generation r.generation (same ∙ sym pass.generation)) in above was.object.generation g old apart)
    ])
  where
    above : (n g : ℕ) → g ≤ n → (n ≡ g → ⊥) → g + 1 ≤ n
    above n g l apart = elim (cases_eq n g) [
      | inl same ↦ absurd (apart same)
      | inr other ↦ omega (arith, l, other)
    ]

-- the heap after the passes so far, with the values of the exact roots
abbrev pub rooted_now : Rooted → ℕ → List PassRecord → Rooted
rooted_now h last records = record { heap = after_passes h.heap last 0 records; values = h.values }

module _ (h : Rooted) (last : ℕ) (records : List PassRecord) (words : List ℕ) (pages : List Entry) (labels exact ambiguous : List ℕ) (stats : GenStats)
    (stand : Stand h last words pages labels exact ambiguous stats records) where
  pub stand_now : StandNow (rooted_now h last records) (after_passes h.heap last 0 records) (length records) words pages labels exact ambiguous stats
  stand_now = record {
    stand = stand.stand;
    named = stand.named;
    counted = stand.counted;
    program = stand.program;
    formed = stand.formed;
    regions = stand.regions;
    pairs_few = omega arith;
    few_pages = stand.few_pages;
    numbers = stand.numbers;
    few = stand.few;
    objects_long = refl;
    pages_long = refl;
  }

  module _ (pass : Pass) (plan : IsPlanned h.heap last records (Some pass)) (words' : List ℕ) (pages' : List Entry) (labels' exact' ambiguous' : List ℕ) (stats' : GenStats) (r : PassRecord)
      (plan_then : Option Pass) (step : IsStepped (rooted_now h last records) last (length records) pass words' pages' labels' exact' ambiguous' stats' r plan_then) where
    abbrev b : NamedHeap
    b = after_passes h.heap last 0 records

    abbrev c : NamedHeap
    c = after_pass_of (after_passes h.heap last 0 records) last (length records) r

    heap_more : after_passes h.heap last 0 (records ++ r ∷ []) ≡ after_pass_of (after_passes h.heap last 0 records) last (length records) r
    heap_more = after_one_more h.heap last 0 (length records) records r (omega arith)

    long : length (records ++ r ∷ []) ≡ length records + 1
    long = length_push records r

    relative : StandNow h (after_pass_of (after_passes h.heap last 0 records) last (length records) r) (length records + 1) words' pages' labels' exact' ambiguous' stats'
    relative = record {
      stand = step.stand.stand;
      named = step.stand.named;
      counted = step.stand.counted;
      program = step.stand.program;
      formed = step.stand.formed;
      regions = step.stand.regions;
      pairs_few = omega (arith, step.stand.pairs_few, stand.pairs_few);
      few_pages = step.stand.few_pages;
      numbers = step.stand.numbers;
      few = step.stand.few;
      objects_long = step.stand.objects_long ∙ stand.objects_long;
      pages_long = step.stand.pages_long ∙ stand.pages_long;
    }

    pub stand_more : (all : List PassRecord) → all ≡ records ++ r ∷ [] → Stand h last words' pages' labels' exact' ambiguous' stats' all
    stand_more all is =
        subst (Stand h last words' pages' labels' exact' ambiguous' stats') (sym is)
        (subst (λ (x : NamedHeap). StandNow h x (length (records ++ r ∷ [])) words' pages' labels' exact' ambiguous' stats') (sym heap_more)
        (subst (λ (n : ℕ). StandNow h (after_pass_of (after_passes h.heap last 0 records) last (length records) r) n words' pages' labels' exact' ambiguous' stats') (sym long) relative))

    then_is : plan_then ≡ (if goes_on_after (after_passes h.heap last 0 records) last (length records) r
        then Some (pass_over (after_pass_of (after_passes h.heap last 0 records) last (length records) r) last (length records + 1)) else None)
    then_is = step.plan_is ∙ ap (λ (p : Pass). planned (after_pass_of (after_passes h.heap last 0 records) last (length records) r) last (Some p)) plan.1.is

    more : goes_on_after (after_passes h.heap last 0 records) last (length records) r ≡ true →
        IsPlanned h.heap last (records ++ r ∷ []) (Some (pass_over (after_pass_of (after_passes h.heap last 0 records) last (length records) r) last (length records + 1)))
    more goes =
        let n = length records in
        let follows : Pass = pass_over c last (n + 1) in
        let low : n < 5 = is_continued-low c last n (is_raised b last n) goes in
        let raised : is_raised b last n ≡ true = is_continued-raised b c last n goes in
        let next : IsNextPass c last (n + 1) follows = record {
          is = refl;
          low = omega (arith, low);
          empty = raised_empty b last n r stand.stand.sound step.is_pass raised plan.1.empty;
        } in (
          one_more h.heap last 0 n records r (omega arith) plan.0 step.is_pass goes,
          subst (λ (x : NamedHeap). IsNextPass x last (length (records ++ r ∷ [])) follows) (sym heap_more) (subst (λ (k : ℕ). IsNextPass c last k follows) (sym long) next),
        )

    pub planned_more : (all : List PassRecord) → all ≡ records ++ r ∷ [] → IsPlanned h.heap last all plan_then
    planned_more all is = elim (cases_Bool (goes_on_after (after_passes h.heap last 0 records) last (length records) r)) [
      | inl goes ↦ (
          let so : plan_then ≡ Some (pass_over (after_pass_of (after_passes h.heap last 0 records) last (length records) r) last (length records + 1)) = rw goes at then_is in
          subst (λ (rs : List PassRecord). IsPlanned h.heap last rs plan_then) (sym is) (subst (IsPlanned h.heap last (records ++ r ∷ [])) (sym so) (more goes)))
      | inr ends ↦ (
          let so : plan_then ≡ None = rw ends at then_is in
          subst (λ (rs : List PassRecord). IsPlanned h.heap last rs plan_then) (sym is) (subst (IsPlanned h.heap last (records ++ r ∷ [])) (sym so)
          (last_one h.heap last 0 (length records) records r (omega arith) plan.0 step.is_pass ends)))
    ]
