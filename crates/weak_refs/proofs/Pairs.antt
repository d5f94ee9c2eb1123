-- One pair is kept or noted, and the pairs gone through are one more.
use Rattle.std.proofs.Common.{◌≡◌, ◌≢◌, ℕ, suc, ◌+◌, ◌*◌, ◌<◌, ◌≤◌, ◌⊎◌, List, [], ◌∷◌, ◌++◌, set, length, take, drop, map, Option, Some, None, Bool, true, false, inl, inr, refl, sym, ◌∙◌, ap, subst, arith, append_assoc, length-append}
use Rattle.std.proofs.lemmas.Bool.{cases_Bool, cases_lt}
use Rattle.std.proofs.lemmas.List.{get_or-set_same, get_or-set_other, append-nil, get_or_append_left, length-set, map-append, length-take-le, take-append-drop}
use Rattle.std.proofs.lemmas.List.Elements.{filter-append}
use Rattle.std.proofs.Math.Seq.{take-suc, take-length, get_or-append_seam}
use Rattle.std.specs.Prelude.{slice_index, if◌then◌else◌, ◌&&◌, not, filter, vec_len, vec_capacity}
use Rattle.heap_terms.specs.declared.cells.Value.{Value}
use Rattle.heap_terms.specs.declared.kinds.Weakness.{Weakness}
use Rattle.heap_terms.specs.declared.kinds.Weakness.TheVariants as weaknesses
use Rattle.heap_terms.specs.Heap.{NamedHeap, zero_value}
use Rattle.heap_terms.specs.Live.{is_live, KeepsSides, KeepPairs}
use Rattle.heap_terms.specs.Objects.{Object, TableOf, words_of_object}
use Rattle.heap_terms.specs.Survival.{keeps_pair, is_kept}
use Rattle.copy_space.specs.declared.notes.CullNote.{CullNote}
use Rattle.copy_space.specs.declared.notes.PassNotes.{PassNotes}
use Rattle.copy_space.specs.Copying.{settled_word}
use Rattle.copy_space.specs.Midway.{IsPlacedSoFar}
use Rattle.copy_space.specs.Moved.{new_of}
use Rattle.copy_space.specs.Settled.{is_settled, word_before, word_now, IsWordOf}
use Rattle.copy_space.specs.State.{CopyState}
use Rattle.copy_space.proofs.Rewriting.{places-written}
use Rattle.weak_refs.specs.Culling.{ArePairsKept, AreCullsNoted, IsPairKept, CanKeepPair, both_live, with_pair, kept_of, notes_of, note_of}
use Rattle.weak_refs.specs.Tables.{IsTableNow, pair_at}
use Rattle.weak_refs.proofs.Carrying.{over}
use Rattle.weak_refs.proofs.Starts.{same-object}
use Rattle.weak_refs.proofs.TablesNow.{table-inside, table-words, table-shape, key-living, value-living}

-- both sides are settled
pub kept-live : (a : NamedHeap) (s t : CopyState) (place at to : ℕ) (u v : Value) (old new : PassNotes) (key value : ℕ) → Some key ≡ settled_word a s u → Some value ≡ settled_word a s v →
    t ≡ record s { words = with_pair s.words to key value } → new.culls ≡ old.culls → IsPairKept a s t place at to u v (to + 2) old new
kept-live a s t place at to u v old new key value e f is same = elim (cases_Bool (is_live (is_settled a s) u)) [
  | inr dead ↦ absurd (let never : Some key ≡ None = rw dead at e in cc)
  | inl live ↦ elim (cases_Bool (is_live (is_settled a s) v)) [
    | inr dead ↦ absurd (let never : Some value ≡ None = rw dead at f in cc)
    | inl too ↦ (let key_is : key ≡ word_now a s u = (let it : Some key ≡ Some (word_now a s u) = rw live at e in cc) in
        let value_is : value ≡ word_now a s v = (let it : Some value ≡ Some (word_now a s v) = rw too at f in cc) in
        let both : both_live a s u v ≡ true = rw (live, too) refl in
        record {
          next_is = rw both refl;
          is = rw both (is ∙ ap (λ (k : ℕ). record s { words = with_pair s.words to k value }) key_is ∙ ap (λ (x : ℕ). record s { words = with_pair s.words to (word_now a s u) x }) value_is);
          noted = rw both (ap (λ c. c.items) same ∙ sym (append-nil old.culls.items));
        })
  ]
]

-- one side is not
pub not-both : (a : NamedHeap) (s : CopyState) (u v : Value) (p q : Option ℕ) → p ≡ settled_word a s u → q ≡ settled_word a s v → ((p ≡ None) ⊎ (q ≡ None)) → both_live a s u v ≡ false
not-both a s u v p q e f none = elim (cases_Bool (is_live (is_settled a s) u)) [
  | inr dead ↦ rw dead refl
  | inl live ↦ elim (cases_Bool (is_live (is_settled a s) v)) [
    | inr dead ↦ rw (live, dead) refl
    | inl too ↦ (let is_p : p ≡ Some (word_now a s u) = e ∙ (rw live refl) in
        let is_q : q ≡ Some (word_now a s v) = f ∙ (rw too refl) in
        elim none [ inl no_p ↦ (let never : Some (word_now a s u) ≡ None = sym is_p ∙ no_p in cc) | inr no_q ↦ (let never : Some (word_now a s v) ≡ None = sym is_q ∙ no_q in cc) ])
  ]
]

pub kept-dead : (a : NamedHeap) (s t : CopyState) (place at to : ℕ) (u v : Value) (old new : PassNotes) → both_live a s u v ≡ false → t ≡ s →
    new.culls.items ≡ old.culls.items ++ record { table = place; key = slice_index s.words at; value = slice_index s.words (at + 1) } ∷ [] → IsPairKept a s t place at to u v to old new
kept-dead a s t place at to u v old new dead is noted = record { next_is = rw dead refl; is = rw dead is; noted = rw dead noted }

-- in a table in which each pair keeps what its weakness says, a pair stays exactly where both sides are live
pub ready-kept : (w : Weakness) (k v : Bool) → KeepsSides w k v → keeps_pair w k v ≡ (k && v)
ready-kept weaknesses.Strong k v h = (let first = h.0 in let second = h.1 in rw (first, second) refl)
ready-kept weaknesses.Key true v h = sym (h refl)
ready-kept weaknesses.Key false v h = refl
ready-kept weaknesses.Value true v h = refl
ready-kept weaknesses.Value false true h = (let never : false ≡ true = h refl in cc)
ready-kept weaknesses.Value false false h = refl
ready-kept weaknesses.KeyAndValue k v h = refl
ready-kept weaknesses.KeyOrValue true v h = sym (h.0 refl)
ready-kept weaknesses.KeyOrValue false true h = (let never : false ≡ true = h.1 refl in cc)
ready-kept weaknesses.KeyOrValue false false h = refl

filter-most : {X : Type 0} (p : X → Bool) (xs : List X) → length (filter p xs) ≤ length xs
filter-most p [] = omega arith
filter-most p (x ∷ xs) = elim (cases_Bool (p x)) [
  | inl in_it ↦ rw in_it (omega (arith, filter-most p xs))
  | inr out ↦ rw out (omega (arith, filter-most p xs))
]

module _ (a : NamedHeap) (s : CopyState) (start : ℕ) (h : IsPlacedSoFar a s) (q : IsTableNow a s start) (ready : KeepPairs (is_settled a s) q.w q.pairs) where
  abbrev live : ℕ → Bool
  live = is_settled a s

  abbrev u_of : ℕ → Value
  u_of n = (pair_at q.pairs n).0

  abbrev v_of : ℕ → Value
  v_of n = (pair_at q.pairs n).1

  abbrev kept : ℕ → List (Value × Value)
  kept n = kept_of live q.w q.pairs n

  pub kept-is : (n : ℕ) → is_kept live q.w (pair_at q.pairs n) ≡ both_live a s (u_of n) (v_of n)
  kept-is n = ready-kept q.w (is_live live (u_of n)) (is_live live (v_of n)) (ready n)

  pub kept-most : (n : ℕ) → n ≤ length q.pairs → length (kept n) ≤ n
  kept-most n l = (let most = filter-most (is_kept live q.w) (take n q.pairs) in let long = length-take-le n q.pairs l in omega arith)

  -- the pairs kept so far, and one more
  kept-next : (n : ℕ) → n < length q.pairs → kept (n + 1) ≡ kept n ++ (if both_live a s (u_of n) (v_of n) then pair_at q.pairs n ∷ [] else [])
  kept-next n l =
      let up : n + 1 ≡ suc n = omega arith in
      ap (λ (k : ℕ). kept k) up ∙ ap (λ (xs : List (Value × Value)). filter (is_kept live q.w) xs) (take-suc q.pairs n (zero_value, zero_value) l)
      ∙ filter-append (is_kept live q.w) (take n q.pairs) (pair_at q.pairs n ∷ [])
      ∙ ap (λ (more : List (Value × Value)). kept n ++ more) (one (is_kept live q.w (pair_at q.pairs n)) refl)
    where
      one : (yes_it : Bool) → is_kept live q.w (pair_at q.pairs n) ≡ yes_it → filter (is_kept live q.w) (pair_at q.pairs n ∷ []) ≡ (if both_live a s (u_of n) (v_of n) then pair_at q.pairs n ∷ [] else [])
      one true e = (let both = sym (kept-is n) ∙ e in rw (e, both) refl)
      one false e = (let both = sym (kept-is n) ∙ e in rw (e, both) refl)

  pub notes-next : (n place : ℕ) → n < length q.pairs →
      notes_of a live place q.w q.pairs (n + 1) ≡ notes_of a live place q.w q.pairs n ++ (if both_live a s (u_of n) (v_of n) then [] else note_of a place (pair_at q.pairs n) ∷ [])
  notes-next n place l =
      let up : n + 1 ≡ suc n = omega arith in
      ap (λ (k : ℕ). notes_of a live place q.w q.pairs k) up
      ∙ ap (λ (xs : List (Value × Value)). map (note_of a place) (filter (λ pair. not (is_kept live q.w pair)) xs)) (take-suc q.pairs n (zero_value, zero_value) l)
      ∙ ap (λ (xs : List (Value × Value)). map (note_of a place) xs) (filter-append (λ pair. not (is_kept live q.w pair)) (take n q.pairs) (pair_at q.pairs n ∷ []))
      ∙ map-append (note_of a place) (filter (λ pair. not (is_kept live q.w pair)) (take n q.pairs)) (filter (λ pair. not (is_kept live q.w pair)) (pair_at q.pairs n ∷ []))
      ∙ ap (λ (more : List CullNote). notes_of a live place q.w q.pairs n ++ more) (one (is_kept live q.w (pair_at q.pairs n)) refl)
    where
      one : (yes_it : Bool) → is_kept live q.w (pair_at q.pairs n) ≡ yes_it →
          map (note_of a place) (filter (λ pair. not (is_kept live q.w pair)) (pair_at q.pairs n ∷ [])) ≡ (if both_live a s (u_of n) (v_of n) then [] else note_of a place (pair_at q.pairs n) ∷ [])
      one true e = (let both = sym (kept-is n) ∙ e in rw (e, both) refl)
      one false e = (let both = sym (kept-is n) ∙ e in rw (e, both) refl)

  -- none is gone through
  pub kept-none : ArePairsKept a s s start q 0 (start + 4)
  kept-none = record {
    same = refl;
    places = h;
    to_is = omega arith;
    keys = λ k l. absurd (omega (arith, l));
    values = λ k l. absurd (omega (arith, l));
    others = λ i out. refl;
  }

  module _ (n : ℕ) (inside : n < length q.pairs) where
    -- the words of the next pair are as the moves left them
    module _ (w : List ℕ) (to : ℕ) (k : ArePairsKept a s (over s w) start q n to) where
      to_low : to ≤ start + 4 + 2 * n
      to_low = (let most = kept-most n (omega arith) in let is = k.to_is in omega arith)

      key_word : slice_index w (start + 4 + 2 * n) ≡ word_before a (u_of n)
      key_word = k.others (start + 4 + 2 * n) (inr to_low) ∙ q.words.keys n inside

      value_word : slice_index w (start + 4 + 2 * n + 1) ≡ word_before a (v_of n)
      value_word =
          let up : start + 4 + 2 * n + 1 ≡ start + 5 + 2 * n = omega arith in
          let low = to_low in
          ap (λ (i : ℕ). slice_index w i) up ∙ k.others (start + 5 + 2 * n) (inr (omega arith)) ∙ q.words.values n inside

      pair_inside : start + 4 + 2 * n + 2 ≤ start + words_of_object q.o
      pair_inside = (let few = (table-shape a s start h q).2 in let size = table-words a s start h q in omega arith)

      can_keep : (notes : PassNotes) → (both_live a s (u_of n) (v_of n) ≡ false → vec_len notes.culls + 1 ≤ vec_capacity notes.culls) → CanKeepPair a (over s w) (start + 4 + 2 * n) to notes
      can_keep notes room =
          let low = to_low in
          let pair_in = pair_inside in
          let size = table-words a s start h q in
          let all = table-inside a s start h q in
          let long = h.long in
          let long_now = k.places.long in
          record {
            places = k.places;
            u = u_of n;
            v = v_of n;
            key = record { living = key-living a s start h q n inside; either = inl key_word };
            value = record { living = value-living a s start h q n inside; either = inl value_word };
            at_inside = omega arith;
            to_inside = omega arith;
            room = room;
          }

      -- the pair is kept
      two : (key value : ℕ) → CopyState
      two key value = over s (with_pair w to key value)

      put_places : (key value : ℕ) → IsPlacedSoFar a (over s (with_pair w to key value))
      put_places key value =
          let m = length (kept n) in
          let low = to_low in
          let pair_in = pair_inside in
          let here = q.here in
          let is = k.to_is in
          let first : new_of s.moves q.o.place + (4 + 2 * m) ≡ to = omega arith in
          let second : new_of s.moves q.o.place + (5 + 2 * m) ≡ to + 1 = omega arith in
          let one = places-written a (over s w) k.places q.name q.o q.there (4 + 2 * m) (omega arith) key in
          let one_at : IsPlacedSoFar a (over s (set w to key)) = subst (λ (i : ℕ). IsPlacedSoFar a (over s (set w i key))) first one in
          let both = places-written a (over s (set w to key)) one_at q.name q.o q.there (5 + 2 * m) (omega arith) value in
          subst (λ (i : ℕ). IsPlacedSoFar a (over s (set (set w to key) i value))) second both

      long_enough : to + 2 ≤ length w
      long_enough =
          let low = to_low in
          let pair_in = pair_inside in
          let size = table-words a s start h q in
          let all = table-inside a s start h q in
          let long = h.long in
          let long_now = k.places.long in
          omega arith

      put_first : (key value : ℕ) → slice_index (with_pair w to key value) to ≡ key
      put_first key value =
          let enough = long_enough in
          let apart : to ≢ to + 1 = λ e. omega arith in
          get_or-set_other (set w to key) (to + 1) to value 0 apart ∙ get_or-set_same w to key 0 (omega arith)

      put_second : (key value : ℕ) → slice_index (with_pair w to key value) (to + 1) ≡ value
      put_second key value = (let enough = long_enough in let long = length-set w to key in get_or-set_same (set w to key) (to + 1) value 0 (omega arith))

      put_other : (key value i : ℕ) → i ≢ to → i ≢ to + 1 → slice_index (with_pair w to key value) i ≡ slice_index w i
      put_other key value i first second = get_or-set_other (set w to key) (to + 1) i value 0 second ∙ get_or-set_other w to i key 0 first

      kept_more : both_live a s (u_of n) (v_of n) ≡ true → ArePairsKept a s (over s (with_pair w to (word_now a s (u_of n)) (word_now a s (v_of n)))) start q (n + 1) (to + 2)
      kept_more both =
          let key = word_now a s (u_of n) in
          let value = word_now a s (v_of n) in
          let is = k.to_is in
          let next : kept (n + 1) ≡ kept n ++ pair_at q.pairs n ∷ [] = kept-next n inside ∙ (rw both refl) in
          let long : length (kept (n + 1)) ≡ length (kept n) + 1 = ap length next ∙ length-append (kept n) (pair_at q.pairs n ∷ []) in
          let last : pair_at (kept (n + 1)) (length (kept n)) ≡ pair_at q.pairs n =
          ap (λ (xs : List (Value × Value)). pair_at xs (length (kept n))) next ∙ get_or-append_seam (kept n) (pair_at q.pairs n) [] (zero_value, zero_value) in
          let before : (j : ℕ) → j < length (kept n) → pair_at (kept (n + 1)) j ≡ pair_at (kept n) j =
          λ j l. ap (λ (xs : List (Value × Value)). pair_at xs j) next ∙ get_or_append_left (kept n) (pair_at q.pairs n ∷ []) (zero_value, zero_value) j l in
          record {
            same = refl;
            places = put_places key value;
            to_is = omega arith;
            keys = λ j l. (elim (cases_lt j (length (kept n))) [
              | inl old ↦ put_other key value (start + 4 + 2 * j) (λ e. omega arith) (λ e. omega arith) ∙ k.keys j old ∙ ap (λ (p : Value × Value). word_now a s p.0) (sym (before j old))
              | inr new ↦ (let j_is : j ≡ length (kept n) = omega arith in
                  let at : start + 4 + 2 * j ≡ to = omega arith in
                  ap (λ (i : ℕ). slice_index (with_pair w to key value) i) at ∙ put_first key value
                  ∙ ap (λ (p : Value × Value). word_now a s p.0) (sym (ap (λ (i : ℕ). pair_at (kept (n + 1)) i) j_is ∙ last)))
            ]);
            values = λ j l. (elim (cases_lt j (length (kept n))) [
              | inl old ↦ put_other key value (start + 5 + 2 * j) (λ e. omega arith) (λ e. omega arith) ∙ k.values j old ∙ ap (λ (p : Value × Value). word_now a s p.1) (sym (before j old))
              | inr new ↦ (let j_is : j ≡ length (kept n) = omega arith in
                  let at : start + 5 + 2 * j ≡ to + 1 = omega arith in
                  ap (λ (i : ℕ). slice_index (with_pair w to key value) i) at ∙ put_second key value
                  ∙ ap (λ (p : Value × Value). word_now a s p.1) (sym (ap (λ (i : ℕ). pair_at (kept (n + 1)) i) j_is ∙ last)))
            ]);
            others = λ i out. elim out [
              | inl below ↦ put_other key value i (λ e. omega arith) (λ e. omega arith) ∙ k.others i (inl below)
              | inr above ↦ put_other key value i (λ e. omega arith) (λ e. omega arith) ∙ k.others i (inr (omega arith))
            ];
          }

      -- it is not
      kept_same : both_live a s (u_of n) (v_of n) ≡ false → ArePairsKept a s (over s w) start q (n + 1) to
      kept_same dead =
          let next : kept (n + 1) ≡ kept n = kept-next n inside ∙ (rw dead (append-nil (kept n))) in
          let long : length (kept (n + 1)) ≡ length (kept n) = ap length next in
          let is = k.to_is in
          record {
            same = refl;
            places = k.places;
            to_is = omega arith;
            keys = λ j l. k.keys j (omega arith) ∙ ap (λ (xs : List (Value × Value)). word_now a s (pair_at xs j).0) (sym next);
            values = λ j l. k.values j (omega arith) ∙ ap (λ (xs : List (Value × Value)). word_now a s (pair_at xs j).1) (sym next);
            others = k.others;
          }

      pair_kept : (t : CopyState) (place next : ℕ) (old new : PassNotes) → IsPairKept a (over s w) t place (start + 4 + 2 * n) to (u_of n) (v_of n) next old new → ArePairsKept a s t start q (n + 1) next
      pair_kept t place next old new one = elim (cases_Bool (both_live a s (u_of n) (v_of n))) [
        | inl both ↦ (let next_is : next ≡ to + 2 = one.next_is ∙ (rw both refl) in
            let is : t ≡ over s (with_pair w to (word_now a s (u_of n)) (word_now a s (v_of n))) = one.is ∙ (rw both refl) in
            subst (λ (j : ℕ). ArePairsKept a s t start q (n + 1) j) (sym next_is) (subst (λ (x : CopyState). ArePairsKept a s x start q (n + 1) (to + 2)) (sym is) (kept_more both)))
        | inr dead ↦ (let next_is : next ≡ to = one.next_is ∙ (rw dead refl) in
            let is : t ≡ over s w = one.is ∙ (rw dead refl) in
            subst (λ (j : ℕ). ArePairsKept a s t start q (n + 1) j) (sym next_is) (subst (λ (x : CopyState). ArePairsKept a s x start q (n + 1) to) (sym is) (kept_same dead)))
      ]

      pair_noted : (t : CopyState) (place next : ℕ) (old now new : PassNotes) → place ≡ q.o.place → AreCullsNoted a s start q n old now →
          IsPairKept a (over s w) t place (start + 4 + 2 * n) to (u_of n) (v_of n) next now new → AreCullsNoted a s start q (n + 1) old new
      pair_noted t place next old now new place_is so_far one = elim (cases_Bool (both_live a s (u_of n) (v_of n))) [
        | inl both ↦ (let more : new.culls.items ≡ now.culls.items = one.noted ∙ (rw both (append-nil now.culls.items)) in
            let same : notes_of a live q.o.place q.w q.pairs (n + 1) ≡ notes_of a live q.o.place q.w q.pairs n = notes-next n q.o.place inside ∙ (rw both (append-nil (notes_of a live q.o.place q.w q.pairs n))) in
            more ∙ so_far ∙ ap (λ (xs : List CullNote). old.culls.items ++ xs) (sym same))
        | inr dead ↦ (let more : new.culls.items ≡ now.culls.items ++ record { table = place; key = slice_index w (start + 4 + 2 * n); value = slice_index w (start + 4 + 2 * n + 1) } ∷ [] = one.noted ∙ (rw dead refl) in
            let note : record { table = place; key = slice_index w (start + 4 + 2 * n); value = slice_index w (start + 4 + 2 * n + 1) } ≡ note_of a q.o.place (pair_at q.pairs n) =
            (let key = key_word in let value = value_word in rw (place_is, key, value) refl) in
            let same : notes_of a live q.o.place q.w q.pairs (n + 1) ≡ notes_of a live q.o.place q.w q.pairs n ++ note_of a q.o.place (pair_at q.pairs n) ∷ [] = notes-next n q.o.place inside ∙ (rw dead refl) in
            more ∙ ap (λ (x : CullNote). now.culls.items ++ x ∷ []) note ∙ ap (λ (xs : List CullNote). xs ++ note_of a q.o.place (pair_at q.pairs n) ∷ []) so_far
            ∙ append_assoc old.culls.items (notes_of a live q.o.place q.w q.pairs n) (note_of a q.o.place (pair_at q.pairs n) ∷ [])
            ∙ ap (λ (xs : List CullNote). old.culls.items ++ xs) (sym same))
      ]

    -- the same in any state
    pub keep-can : (r : CopyState) (to : ℕ) (notes : PassNotes) → ArePairsKept a s r start q n to → (both_live a s (u_of n) (v_of n) ≡ false → vec_len notes.culls + 1 ≤ vec_capacity notes.culls) →
        CanKeepPair a r (start + 4 + 2 * n) to notes
    keep-can r to notes k room =
        subst (λ (x : CopyState). ArePairsKept a s x start q n to → CanKeepPair a x (start + 4 + 2 * n) to notes) (sym k.same) (λ j. can_keep r.words to j notes room) k

    pub keep-key : (r : CopyState) (to : ℕ) → ArePairsKept a s r start q n to → IsWordOf a r (u_of n) (slice_index r.words (start + 4 + 2 * n))
    keep-key r to k =
        subst (λ (x : CopyState). ArePairsKept a s x start q n to → IsWordOf a x (u_of n) (slice_index r.words (start + 4 + 2 * n))) (sym k.same)
        (λ j. record { living = key-living a s start h q n inside; either = inl (key_word r.words to j) }) k

    pub keep-value : (r : CopyState) (to : ℕ) → ArePairsKept a s r start q n to → IsWordOf a r (v_of n) (slice_index r.words (start + 4 + 2 * n + 1))
    keep-value r to k =
        subst (λ (x : CopyState). ArePairsKept a s x start q n to → IsWordOf a x (v_of n) (slice_index r.words (start + 4 + 2 * n + 1))) (sym k.same)
        (λ j. record { living = value-living a s start h q n inside; either = inl (value_word r.words to j) }) k

    pub keep-next : (r t : CopyState) (to place next : ℕ) (old new : PassNotes) → ArePairsKept a s r start q n to →
        IsPairKept a r t place (start + 4 + 2 * n) to (u_of n) (v_of n) next old new → ArePairsKept a s t start q (n + 1) next
    keep-next r t to place next old new k one =
        subst (λ (x : CopyState). ArePairsKept a s x start q n to → IsPairKept a x t place (start + 4 + 2 * n) to (u_of n) (v_of n) next old new → ArePairsKept a s t start q (n + 1) next)
        (sym k.same) (λ j. pair_kept r.words to j t place next old new) k one

    pub keep-noted : (r t : CopyState) (to place next : ℕ) (old now new : PassNotes) → ArePairsKept a s r start q n to → place ≡ q.o.place → AreCullsNoted a s start q n old now →
        IsPairKept a r t place (start + 4 + 2 * n) to (u_of n) (v_of n) next now new → AreCullsNoted a s start q (n + 1) old new
    keep-noted r t to place next old now new k place_is so_far one =
        subst (λ (x : CopyState). ArePairsKept a s x start q n to → IsPairKept a x t place (start + 4 + 2 * n) to (u_of n) (v_of n) next now new → AreCullsNoted a s start q (n + 1) old new)
        (sym k.same) (λ j. pair_noted r.words to j t place next old now new place_is so_far) k one

    -- there is room for the note of a pair that is not kept
    pub keep-room : (old now : PassNotes) → AreCullsNoted a s start q n old now → vec_capacity now.culls ≡ vec_capacity old.culls →
        vec_len old.culls + length (notes_of a live q.o.place q.w q.pairs (length q.pairs)) ≤ vec_capacity old.culls →
        both_live a s (u_of n) (v_of n) ≡ false → vec_len now.culls + 1 ≤ vec_capacity now.culls
    keep-room old now noted same room dead =
        let place = q.o.place in
        let p : Value × Value → Bool = λ pair. not (is_kept live q.w pair) in
        let next : notes_of a live place q.w q.pairs (n + 1) ≡ notes_of a live place q.w q.pairs n ++ note_of a place (pair_at q.pairs n) ∷ [] = notes-next n place inside ∙ (rw dead refl) in
        let whole : notes_of a live place q.w q.pairs (length q.pairs) ≡ notes_of a live place q.w q.pairs (n + 1) ++ map (note_of a place) (filter p (drop (n + 1) q.pairs)) =
        ap (λ (xs : List (Value × Value)). map (note_of a place) (filter p xs)) (take-length q.pairs ∙ sym (take-append-drop (n + 1) q.pairs))
        ∙ ap (λ (xs : List (Value × Value)). map (note_of a place) xs) (filter-append p (take (n + 1) q.pairs) (drop (n + 1) q.pairs))
        ∙ map-append (note_of a place) (filter p (take (n + 1) q.pairs)) (filter p (drop (n + 1) q.pairs)) in
        let one = ap length whole in
        let two = length-append (notes_of a live place q.w q.pairs (n + 1)) (map (note_of a place) (filter p (drop (n + 1) q.pairs))) in
        let three = ap length next in
        let four = length-append (notes_of a live place q.w q.pairs n) (note_of a place (pair_at q.pairs n) ∷ []) in
        let five = ap length noted in
        let six = length-append old.culls.items (notes_of a live place q.w q.pairs n) in
        omega arith

-- two tables at one start are one
pub record IsSameTable (a : NamedHeap) (s : CopyState) (start : ℕ) (p q : IsTableNow a s start) : Type 0 where
  pub o : p.o ≡ q.o
  pub w : p.w ≡ q.w
  pub pairs : p.pairs ≡ q.pairs

pub same-table : (a : NamedHeap) (s : CopyState) (start : ℕ) → IsPlacedSoFar a s → (p q : IsTableNow a s start) → IsSameTable a s start p q
same-table a s start h p q =
    let o_is = same-object a s h p.name q.name p.o q.o p.there q.there (p.here ∙ sym q.here) in
    let both : TableOf p.w p.b p.pairs ≡ TableOf q.w q.b q.pairs = sym p.contents ∙ ap (λ (o : Object). o.contents) o_is ∙ q.contents in
    record { o = o_is; w = cc; pairs = cc }

pub ready-any : (a : NamedHeap) (s : CopyState) (start : ℕ) → IsPlacedSoFar a s → (p q : IsTableNow a s start) → KeepPairs (is_settled a s) p.w p.pairs → KeepPairs (is_settled a s) q.w q.pairs
ready-any a s start h p q ready =
    let same = same-table a s start h p q in
    subst (λ (w : Weakness). KeepPairs (is_settled a s) w q.pairs) same.w (subst (λ (xs : List (Value × Value)). KeepPairs (is_settled a s) p.w xs) same.pairs ready)

pub noted-so : (old new : PassNotes) (place k v key value : ℕ) → k ≡ key → v ≡ value → new.culls.items ≡ old.culls.items ++ record { table = place; key = k; value = v } ∷ [] →
    new.culls.items ≡ old.culls.items ++ record { table = place; key = key; value = value } ∷ []
noted-so old new place k v key value e f noted =
    noted ∙ ap (λ (x : ℕ). old.culls.items ++ record { table = place; key = x; value = v } ∷ []) e ∙ ap (λ (x : ℕ). old.culls.items ++ record { table = place; key = key; value = x } ∷ []) f
