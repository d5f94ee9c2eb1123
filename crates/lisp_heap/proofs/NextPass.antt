-- One pass more of a collection over the fields of a World.
use Rattle.std.proofs.Common.{◌≡◌, ℕ, ◌+◌, ◌<◌, ◌≤◌, List, length, refl, sym, ◌∙◌, subst, ap, arith, true, inl, inr}
use Rattle.std.proofs.lemmas.Bool.{cases_Bool}
use Rattle.collect_pass.specs.Pass.{IsReservedFor, RoomView}
use Rattle.copy_space.specs.declared.notes.Pass.{Pass}
use Rattle.generation_policy.specs.declared.stats.GenStats.{GenStats}
use Rattle.generation_policy.specs.Numbers.{IsMeasurable, IsPossible, StatsStand}
use Rattle.heap_laws.proofs.SoundHeaps.{pass-numbers}
use Rattle.heap_laws.specs.Numbers.{HasNumbers, most_passes}
use Rattle.heap_terms.specs.declared.events.PassRecord.{PassRecord}
use Rattle.heap_terms.specs.declared.pages.Entry.{Entry}
use Rattle.heap_terms.specs.Collections.{IsPassOf, after_pass_of}
use Rattle.copy_space.specs.WeakNames.{is_weak_object, weak_count}
use Rattle.heap_terms.specs.Generations.{names}
use Rattle.heap_terms.specs.Heap.{NamedHeap, object_at}
use Rattle.std.proofs.lemmas.List.FromFn.{length-range_with_len}
use Rattle.std.proofs.lemmas.List.Sums.{count_by-le-length}
use Rattle.heap_terms.specs.Passes.{IsPass, after_pass}
use Rattle.heap_terms.specs.Policy.{is_raised, target_of}
use Rattle.heap_terms.specs.WellFormed.{IsSound}
use Rattle.pair_laws.proofs.Counting.{pass_few}
use Rattle.pass_laws.proofs.AfterPages.{objects_long, pages_long}
use Rattle.pass_laws.proofs.Collecting.{is_raised-low, pass_of-well_formed}
use Rattle.pass_laws.specs.NoRegions.{IsEmptyBelow}
use Rattle.trace_laws.specs.Rooted.{Rooted, RootsStand}
use Rattle.lisp_heap.specs.AllPasses.{IsNextPass, StandNow}
use Rattle.lisp_heap.specs.Collecting.{CanMake, IsMade}
use Rattle.lisp_heap.specs.Counted.{CanCount, counted_heap}
use Rattle.lisp_heap.specs.Recording.{HasRoom, sizes_of}
use Rattle.lisp_heap.specs.declared.recording.RecordRoom.{RecordRoom}
use Rattle.lisp_heap.proofs.Unchanged.{LabelsStand-same, WordsStand-same}

-- the two sides of the comparison of an age are small enough
pub measurable : (c : NamedHeap) (stats : GenStats) (n g : ℕ) → StatsStand c stats → HasNumbers c (most_passes + n) → n ≤ 6 → g ≤ 6 → IsMeasurable stats g
measurable c stats n g stand numbers few low =
    let words = numbers.words g in
    let cum = numbers.cum g in
    record {
      words = omega (arith, words, stand.allocated_is g low);
      sums = rw stand.cum_is (omega (arith, cum, few));
    }

-- no more weak pointers and tables than names
weak_few : (a : NamedHeap) → weak_count a ≤ length a.objects
weak_few a = (let few = count_by-le-length (λ name. is_weak_object (object_at a.objects name)) (names a) in let long = length-range_with_len 0 (length a.objects) in omega (arith, few, long))

module _ (h : Rooted) (last n : ℕ) (pass : Pass) (words : List ℕ) (pages : List Entry) (labels exact ambiguous : List ℕ) (stats : GenStats)
    (stand : StandNow h h.heap n words pages labels exact ambiguous stats) (next : IsNextPass h.heap last n pass) where
  generation_is : pass.generation ≡ n
  generation_is = ap (λ (p : Pass). p.generation) next.is

  raise_is : pass.raise ≡ is_raised h.heap last n
  raise_is = ap (λ (p : Pass). p.raise) next.is

  raised_low : pass.raise ≡ true → n < 5
  raised_low e = is_raised-low h.heap last n (sym raise_is ∙ e)

  pub possible : IsPossible pass
  possible = record {
    collected = omega (arith, generation_is, next.low);
    raised = λ e. (let low = raised_low e in omega (arith, generation_is, low));
  }

  pub can_make : (room : RoomView) (record_room : RecordRoom) → IsReservedFor room (length h.heap.pages) (length ambiguous) (length h.heap.objects) →
      HasRoom record_room (sizes_of h.heap (length ambiguous)) → CanMake h words pages labels exact ambiguous pass room record_room
  can_make room record_room reserved fits =
      let long : length h.heap.pages ≡ length pages = ap (λ (ps : List Entry). length ps) (sym stand.stand.pages_are) in
      record {
        can = record {
          stand = stand.stand;
          generation = omega (arith, generation_is, next.low);
          oldest = λ e. elim (cases_Bool pass.raise) [
            | inl raised ↦ (let low = raised_low raised in absurd (omega (arith, generation_is, low, e)))
            | inr kept ↦ kept
          ];
          youngest = subst (IsEmptyBelow h.heap) (sym generation_is) next.empty;
          reserved = record {
            pages_are = reserved.pages_are ∙ long;
            enough = reserved.enough;
            weak_enough = omega (arith, weak_few h.heap, reserved.weak_enough);
          };
        };
        named = stand.named;
        few_pages = stand.few_pages;
        fits = fits;
      }

  pub can_count : CanCount h.heap stats pass
  can_count = record {
    possible = possible;
    stand = stand.counted;
    passes = most_passes + n;
    few_passes = omega (arith, next.low);
    numbers = stand.numbers;
    few = stand.few;
  }

  -- ---- after it

  module _ (r : PassRecord) (words' : List ℕ) (pages' : List Entry) (labels' exact' ambiguous' : List ℕ) (stats' : GenStats)
      (made : IsMade h words' pages' labels' exact' ambiguous' pass r) (counted : StatsStand (counted_heap h.heap r pass) stats') where
    pub is_pass_of : IsPassOf h.heap last n r
    is_pass_of = subst (λ (p : Pass). IsPass h.heap p.generation (target_of p.generation p.raise) r) next.is made.is_pass

    abbrev c : NamedHeap
    c = after_pass_of h.heap last n r

    sound_then : IsSound (after_pass h.heap r) → IsSound (after_pass_of h.heap last n r)
    sound_then s = record { objects = s.objects; apart = s.apart; entries = s.entries; runs = s.runs; finalizers = s.finalizers; queue = s.queue }

    roots_then : RootsStand (record { heap = after_pass h.heap r; values = h.values }) exact' ambiguous' → RootsStand (record { heap = after_pass_of h.heap last n r; values = h.values }) exact' ambiguous'
    roots_then s = record { exact_are = s.exact_are; living = s.living; exact_names = s.exact_names; hits = s.hits }

    pub stepped : StandNow h (after_pass_of h.heap last n r) (n + 1) words' pages' labels' exact' ambiguous' stats'
    stepped =
        let formed = pass_of-well_formed stand.program h.heap last n r next.low stand.formed stand.regions is_pass_of in
        let target = target_of n (is_raised h.heap last n) in
        let objects : length (after_pass_of h.heap last n r).objects ≡ length h.heap.objects = objects_long h.heap n target r stand.formed.sound is_pass_of in
        let paged : length (after_pass_of h.heap last n r).pages ≡ length h.heap.pages = pages_long h.heap n target r stand.formed.sound is_pass_of in
        let b = after_pass h.heap r in
        let numbers : HasNumbers (after_pass_of h.heap last n r) (most_passes + n + 1) = pass-numbers stand.program h.heap last n (most_passes + n) r next.low stand.formed stand.regions stand.few is_pass_of stand.numbers in
        record {
          stand = record {
            sound = sound_then made.stand.sound;
            words_stand = WordsStand-same b (after_pass_of h.heap last n r) words' refl refl made.stand.words_stand;
            pages_are = made.stand.pages_are;
            roots = roots_then made.stand.roots;
          };
          named = LabelsStand-same b (after_pass_of h.heap last n r) labels' refl refl made.named;
          counted = subst (λ (p : Pass). StatsStand (counted_heap h.heap r p) stats') next.is counted;
          program = stand.program;
          formed = formed.0;
          regions = formed.1;
          pairs_few = pass_few h.heap r;
          few_pages = omega (arith, paged, stand.few_pages);
          numbers = subst (HasNumbers (after_pass_of h.heap last n r)) (omega arith) numbers;
          few = omega (arith, objects, stand.few);
          objects_long = objects;
          pages_long = paged;
        }
