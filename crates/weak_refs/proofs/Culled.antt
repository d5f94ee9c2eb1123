-- One table is culled: its pairs are gone through, the words behind those kept become unbound, and the count is written.
use Rattle.std.proofs.Common.{◌≡◌, ◌≢◌, ℕ, ◌+◌, ◌-◌, ◌*◌, ◌<◌, ◌≤◌, List, set, length, inl, inr, sym, ◌∙◌, ap, subst, arith}
use Rattle.std.proofs.lemmas.Bool.{cases_lt}
use Rattle.std.proofs.lemmas.List.{get_or-set_same, get_or-set_other}
use Rattle.std.proofs.Math.Seq.{take-length}
use Rattle.std.specs.Prelude.{slice_index, filter}
use Rattle.heap_terms.specs.declared.cells.Value.{Value}
use Rattle.heap_terms.specs.declared.kinds.Kind.TheVariants as kinds
use Rattle.heap_terms.specs.Heap.{NamedHeap}
use Rattle.heap_terms.specs.Live.{KeepPairs}
use Rattle.heap_terms.specs.Living.{IsShaped}
use Rattle.heap_terms.specs.Objects.{Object, Contents, TableOf, kind_of, words_of_object}
use Rattle.heap_terms.specs.Stands.{SlotsStand, KeptStand}
use Rattle.heap_terms.specs.Survival.{is_kept, surviving}
use Rattle.pass_laws.proofs.AfterPass.{IsShaped-surviving}
use Rattle.copy_space.specs.Midway.{IsPlacedSoFar}
use Rattle.copy_space.specs.Moved.{new_of, objects_now}
use Rattle.copy_space.specs.Settled.{is_settled, word_now}
use Rattle.copy_space.specs.State.{CopyState}
use Rattle.copy_space.proofs.Rewriting.{places-written}
use Rattle.weak_refs.specs.Culling.{ArePairsKept, IsCleared, CanClear, kept_of}
use Rattle.copy_space.specs.Surviving.{StandsAfter}
use Rattle.weak_refs.specs.Rewriting.{IsRewritten}
use Rattle.weak_refs.specs.Tables.{TableWords, IsTableNow}
use Rattle.weak_refs.proofs.Carrying.{over}
use Rattle.weak_refs.proofs.Pairs.{kept-most}
use Rattle.weak_refs.proofs.Starts.{same-object}
use Rattle.weak_refs.proofs.TablesNow.{table-inside, table-words, table-shape, table-slots, table-kept}

module _ (a : NamedHeap) (s : CopyState) (start : ℕ) (h : IsPlacedSoFar a s) (q : IsTableNow a s start) (ready : KeepPairs (is_settled a s) q.w q.pairs)
    (r : CopyState) (to : ℕ) (k : ArePairsKept a s r start q (length q.pairs) to) where
  kept : List (Value × Value)
  kept = kept_of (is_settled a s) q.w q.pairs (length q.pairs)

  pub end-low : start + 4 ≤ to
  end-low = (let is = k.to_is in omega arith)

  pub end-high : to ≤ start + 4 + 2 * length q.pairs
  end-high = (let is = k.to_is in let most = kept-most a s start h q ready (length q.pairs) (omega arith) in omega arith)

  few : length q.pairs ≤ q.b
  few = (table-shape a s start h q).2

  pub can-clear : (end : ℕ) → end ≡ start + 4 + 2 * length q.pairs → CanClear a r to end
  can-clear end is =
      let low = end-low in
      let high = end-high in
      let most = few in
      let size = table-words a s start h q in
      let here : new_of r.moves q.o.place ≡ start = ap (λ (x : CopyState). new_of x.moves q.o.place) k.same ∙ q.here in
      record { places = k.places; name = q.name; o = q.o; there = q.there; order = omega arith; low = omega arith; high = omega arith }

  module _ (u t : CopyState) (c : IsCleared a r u to (start + 4 + 2 * length q.pairs)) (count : ℕ) (count_is : count ≡ to - (start + 4)) (is : t ≡ record u { words = set u.words (start + 3) count }) where
    words_are : t.words ≡ set u.words (start + 3) count
    words_are = ap (λ (x : CopyState). x.words) is

    u_over : u ≡ over s u.words
    u_over = c.same ∙ ap (λ (x : CopyState). over x u.words) k.same

    t_over : t ≡ over s t.words
    t_over = is ∙ ap (λ (x : CopyState). over x (set u.words (start + 3) count)) u_over ∙ ap (λ (w : List ℕ). over s w) (sym words_are)

    inside : start + 4 ≤ length u.words
    inside = (let all = table-inside a s start h q in let long = h.long in let long_now = c.places.long in omega arith)

    places_then : IsPlacedSoFar a t
    places_then =
        let size = table-words a s start h q in
        let at : new_of s.moves q.o.place + 3 ≡ start + 3 = ap (λ (p : ℕ). p + 3) q.here in
        let over_u : IsPlacedSoFar a (over s u.words) = subst (λ (x : CopyState). IsPlacedSoFar a x) u_over c.places in
        let one : IsPlacedSoFar a (over s (set u.words (start + 3) count)) =
        subst (λ (i : ℕ). IsPlacedSoFar a (over s (set u.words i count))) at (places-written a (over s u.words) over_u q.name q.o q.there 3 (omega arith) count) in
        subst (λ (x : CopyState). IsPlacedSoFar a x) (sym (t_over ∙ ap (λ (w : List ℕ). over s w) words_are)) one

    -- words that are none of the count's
    not_count : (i : ℕ) → i ≢ start + 3 → slice_index t.words i ≡ slice_index u.words i
    not_count i other = ap (λ (w : List ℕ). slice_index w i) words_are ∙ get_or-set_other u.words (start + 3) i count 0 other

    before : (i : ℕ) → i < start + 4 → i ≢ start + 3 → slice_index t.words i ≡ slice_index s.words i
    before i low other = (let from = end-low in not_count i other ∙ c.others i (inl (omega arith)) ∙ k.others i (inl low))

    among : (i : ℕ) → start + 4 ≤ i → i < to → slice_index t.words i ≡ slice_index r.words i
    among i low high = not_count i (λ e. omega arith) ∙ c.others i (inl high)

    behind : (i : ℕ) → start + 4 + 2 * length q.pairs ≤ i → slice_index t.words i ≡ slice_index s.words i
    behind i low = (let high = end-high in not_count i (λ e. omega arith) ∙ c.others i (inr low) ∙ k.others i (inr (omega arith)))

    kept_words : TableWords (word_now a s) t.words start q.w q.b kept
    unfolding kept
    kept_words =
        let to_is = k.to_is in
        let low = end-low in
        let high = end-high in
        let room = few in
        let enough = inside in
        record {
          header = before start (omega arith) (λ e. omega arith) ∙ q.words.header;
          weakness = before (start + 1) (omega arith) (λ e. omega arith) ∙ q.words.weakness;
          flag = before (start + 2) (omega arith) (λ e. omega arith) ∙ q.words.flag;
          count = (let two : count ≡ 2 * length (kept_of (is_settled a s) q.w q.pairs (length q.pairs)) = omega arith in
              ap (λ (w : List ℕ). slice_index w (start + 3)) words_are ∙ get_or-set_same u.words (start + 3) count 0 (omega arith) ∙ two);
          keys = λ j l. among (start + 4 + 2 * j) (omega arith) (omega arith) ∙ k.keys j l;
          values = λ j l. among (start + 5 + 2 * j) (omega arith) (omega arith) ∙ k.values j l;
          unbound = λ i from below. (elim (cases_lt i (2 * length q.pairs)) [
            | inl was ↦ not_count (start + 4 + i) (λ e. omega arith) ∙ c.cleared (start + 4 + i) (omega arith) (omega arith)
            | inr past ↦ behind (start + 4 + i) (omega arith) ∙ q.words.unbound i past below
          ]);
          kept = λ i below. behind (start + 4 + 2 * q.b + i) (omega arith) ∙ q.words.kept i below;
        }

    survivors : surviving (is_settled a s) q.o.contents ≡ TableOf q.w q.b kept
    unfolding kept
    survivors =
        ap (λ (x : Contents). surviving (is_settled a s) x) q.contents
        ∙ ap (λ (xs : List (Value × Value)). TableOf q.w q.b (filter (is_kept (is_settled a s) q.w) xs)) (sym (take-length q.pairs))

    stands_then : StandsAfter a s t q.o
    stands_then =
        let shape : IsShaped (TableOf q.w q.b kept) =
        subst (λ (x : Contents). IsShaped x) survivors (IsShaped-surviving (is_settled a s) q.o.contents (h.sound.objects q.name q.o q.there).shape) in
        record {
          slots = subst (λ (p : ℕ). SlotsStand (objects_now a s.moves) t.words p (surviving (is_settled a s) q.o.contents)) (sym q.here)
              (subst (λ (x : Contents). SlotsStand (objects_now a s.moves) t.words start x) (sym survivors)
              (table-slots (objects_now a s.moves) t.words start q.w q.b kept shape kept_words));
          kept = subst (λ (p : ℕ). KeptStand t.words p (surviving (is_settled a s) q.o.contents)) (sym q.here)
              (subst (λ (x : Contents). KeptStand t.words start x) (sym survivors) (table-kept (objects_now a s.moves) t.words start q.w q.b kept shape kept_words));
        }

    pub table-rewritten : IsRewritten a s t kinds.Table start
    table-rewritten = record {
      same = t_over;
      places = places_then;
      after = λ name o there settled here kind. subst (λ (p : Object). StandsAfter a s t p) (same-object a s h q.name name q.o o q.there there (q.here ∙ sym here)) stands_then;
      others = λ i out. (
          let size = table-words a s start h q in
          let room = few in
          let low = end-low in
          elim (cases_lt i start) [
            | inl below ↦ before i (omega arith) (λ e. omega arith)
            | inr from ↦ elim (cases_lt i (start + words_of_object q.o)) [
              | inl into ↦ absurd (out (record { name = q.name; o = q.o; there = q.there; settled = q.settled; here = q.here; is_kind = ap kind_of q.contents; from = from; below = into }))
              | inr past ↦ behind i (omega arith)
            ]
          ]);
    }
