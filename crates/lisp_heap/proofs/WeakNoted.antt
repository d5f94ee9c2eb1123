-- The notes of culls and breaks are those of the heap before the pass, and they are not too many.
use Rattle.std.proofs.Common.{◌≡◌, ℕ, ◌/◌, ◌<◌, ◌≤◌, List, length, sym, ◌∙◌, subst, ap, arith, get_or, Some, None, inl, inr}
use Rattle.std.proofs.lemmas.Bool.{cases_lt, eqb-true}
use Rattle.std.proofs.lemmas.Bool.Decides.{Decides-eqb}
use Rattle.std.proofs.lemmas.List.{length-map, get_or_past}
use Rattle.std.proofs.lemmas.Map.Made.{IsDistinct-from_AllPairs}
use Rattle.std.proofs.lemmas.Map.Steps.{length-le_from_distinct_below}
use Rattle.std.specs.Prelude.{All, ◌==◌, filter, flat_map, not, slice_index}
use Rattle.heap_terms.specs.declared.events.PassRecord.{PassRecord}
use Rattle.heap_terms.specs.Heap.{NamedHeap, object_at}
use Rattle.heap_terms.specs.Objects.{Object}
use Rattle.heap_terms.specs.Passes.{IsPass, remains}
use Rattle.heap_terms.specs.Survival.{breaks_in, culls_in}
use Rattle.heap_terms.specs.WellFormed.{IsSound}
use Rattle.heap_laws.proofs.AtPlaces.{IfSome-at}
use Rattle.pair_laws.proofs.Counting.{filter_few}
use Rattle.pair_laws.proofs.Culls.{culled_few}
use Rattle.pair_laws.specs.Counts.{pair_count}
use Rattle.pass_laws.proofs.Lookups.{found_at}
use Rattle.pass_names.specs.Labelled.{AreLabels}
use Rattle.pass_names.specs.Named.{AreNotes, IsMet, Met}
use Rattle.copy_space.specs.declared.notes.PassNotes.{PassNotes}
use Rattle.copy_space.specs.CullNotes.{noted_cull}
use Rattle.copy_space.specs.WeakNames.{place_before}
use Rattle.trace_laws.specs.Noted.{IsToldBy}
use Rattle.lisp_heap.specs.Standing.{LabelsStand}

pub labels_of : (a : NamedHeap) (labels : List ℕ) → IsSound a → length a.pages ≤ 1024 → LabelsStand a labels → AreLabels a labels
labels_of a labels sound few stand = record {
  sound = sound;
  few = few;
  long = stand.long;
  named = λ name o there. IfSome-at (λ (q : Object). slice_index labels (q.place / 2) ≡ name) (object_at a.objects name) o there (stand.named name);
}

there_inside : (a : NamedHeap) (name : ℕ) (o : Object) → object_at a.objects name ≡ Some o → name < length a.objects
there_inside a name o e = elim (cases_lt name (length a.objects)) [
  | inl l ↦ l
  | inr past ↦ (let none : None ≡ Some o = sym (get_or_past a.objects name None past) ∙ e in cc)
]

module _ (a : NamedHeap) (r : PassRecord) (n : PassNotes) (told : IsToldBy a r n) where
  -- what the pass met of weak pointers and tables
  abbrev pub met_in : Met
  met_in = record { heap = a; live = remains a r; names = told.weak_names }

  pub notes_are : (labels : List ℕ) → AreLabels a labels → AreNotes met_in labels n
  notes_are labels labelled =
      let met : IsMet met_in labels = record { labels_are = labelled; weak = told.weak } in
      record { culls = record { met = met; noted = told.culls }; breaks = record { met = met; noted = told.breaks } }

  names_below : All (λ name. name < length a.objects) told.weak_names
  names_below k d l = let is = told.weak.each k d l in there_inside a (get_or told.weak_names k d) is.o is.there

  names_few : length told.weak_names ≤ length a.objects
  names_few = length-le_from_distinct_below told.weak_names (length a.objects) (IsDistinct-from_AllPairs (λ x y. Decides-eqb x y) told.weak_names told.weak.once) (λ name e. (
      let f = found_at (λ (x : ℕ). name == x) told.weak_names e in
      subst (λ (x : ℕ). x < length a.objects) (sym (eqb-true name (get_or told.weak_names f.0 0) (f.2 0))) (names_below f.0 0 f.1)))

  pub culls_few : length n.culls.items ≤ pair_count a
  culls_few =
      let all = flat_map (λ name. culls_in (remains a r) name (object_at a.objects name)) told.weak_names in
      let long : length n.culls.items ≡ length all = ap length told.culls ∙ length-map all (noted_cull a) in
      let few = culled_few a (remains a r) told.weak_names told.weak.once names_below in
      omega (arith, long, few)

  pub breaks_few : length n.breaks.items ≤ length a.objects
  breaks_few =
      let broken = filter (λ name. breaks_in (remains a r) name (object_at a.objects name)) told.weak_names in
      let long : length n.breaks.items ≡ length broken = ap length told.breaks ∙ length-map broken (place_before a) in
      let few = filter_few (λ name. breaks_in (remains a r) name (object_at a.objects name)) told.weak_names in
      omega (arith, long, few, names_few)

  pub queued_few : (g h : ℕ) → IsPass a g h r → length n.queued.items ≤ length a.finalizers
  queued_few g h pass =
      let dead = filter (λ (entry : ℕ × ℕ). not (remains a r entry.0)) a.finalizers in
      let long : length n.queued.items ≡ length dead = ap length (told.queued ∙ pass.queued) ∙ length-map dead (λ (entry : ℕ × ℕ). entry.1) in
      let few = filter_few (λ (entry : ℕ × ℕ). not (remains a r entry.0)) a.finalizers in
      omega (arith, long, few)
