-- Which pairs are noted as culled, and the loop over the tables.
use Rattle.std.proofs.Common.{◌≡◌, ◌≢◌, ℕ, suc, ◌+◌, ◌<◌, ◌≤◌, List, [], ◌∷◌, ◌++◌, length, take, drop, get_or, map, Some, Bool, true, refl, sym, ◌∙◌, ap, subst, arith, length-append, append_assoc}
use Rattle.std.proofs.lemmas.Grind.{flat_map-append}
use Rattle.std.proofs.lemmas.List.{map-append, append-nil, take-append-drop}
use Rattle.std.proofs.Math.Seq.{take-suc, take-length}
use Rattle.std.specs.Prelude.{AllPairs, slice_index, flat_map, filter, not, vec_len, vec_capacity}
use Rattle.heap_terms.specs.declared.cells.Value.{Value}
use Rattle.heap_terms.specs.declared.events.Cull.{Cull}
use Rattle.heap_terms.specs.declared.kinds.Kind.TheVariants as kinds
use Rattle.heap_terms.specs.declared.kinds.Weakness.{Weakness}
use Rattle.heap_terms.specs.Heap.{NamedHeap, object_at}
use Rattle.heap_terms.specs.Live.{Keeps}
use Rattle.heap_terms.specs.Objects.{Object, Contents, ConsOf, VectorOf, InstanceOf, ClosureOf, WordsOf, WeakTo, TableOf, kind_of}
use Rattle.heap_terms.specs.Survival.{is_kept, culled_from, culls_in}
use Rattle.copy_space.specs.CullNotes.{culled_of, noted_cull}
use Rattle.copy_space.specs.declared.notes.CullNote.{CullNote}
use Rattle.copy_space.specs.declared.notes.PassNotes.{PassNotes}
use Rattle.copy_space.specs.Midway.{IsPlacedSoFar}
use Rattle.copy_space.specs.Settled.{is_settled}
use Rattle.copy_space.specs.State.{CopyState}
use Rattle.weak_refs.specs.Culling.{CanCull, CanCullAt, note_of, notes_of}
use Rattle.copy_space.specs.WeakNames.{AreNamed, IsWeakAt, place_before, place_of}
use Rattle.weak_refs.specs.Rewriting.{AreRewritten, IsWeakStart}
use Rattle.weak_refs.specs.Tables.{IsTableNow}
use Rattle.weak_refs.proofs.BreakingLoop.{weak-over}
use Rattle.weak_refs.proofs.Carrying.{start-waits}
use Rattle.weak_refs.proofs.Starts.{same-now}

pub culled-append : (a : NamedHeap) (live : ℕ → Bool) (xs ys : List ℕ) → culled_of a live (xs ++ ys) ≡ culled_of a live xs ++ culled_of a live ys
culled-append a live xs ys =
    ap (λ (l : List Cull). map (noted_cull a) l) (flat_map-append (λ name. culls_in live name (object_at a.objects name)) xs ys)
    ∙ map-append (noted_cull a) (flat_map (λ name. culls_in live name (object_at a.objects name)) xs) (flat_map (λ name. culls_in live name (object_at a.objects name)) ys)

pub culled-next : (a : NamedHeap) (live : ℕ → Bool) (names : List ℕ) (i : ℕ) → i < length names →
    culled_of a live (take (suc i) names) ≡ culled_of a live (take i names) ++ culled_of a live (get_or names i 0 ∷ [])
culled-next a live names i l = ap (culled_of a live) (take-suc names i 0 l) ∙ culled-append a live (take i names) (get_or names i 0 ∷ [])

pub culled-room : (a : NamedHeap) (live : ℕ → Bool) (names : List ℕ) (i : ℕ) → i < length names →
    length (culled_of a live (take i names)) + length (culled_of a live (get_or names i 0 ∷ [])) ≤ length (culled_of a live names)
culled-room a live names i l =
    let parts : culled_of a live names ≡ culled_of a live (take (suc i) names) ++ culled_of a live (drop (suc i) names) =
    ap (culled_of a live) (sym (take-append-drop (suc i) names)) ∙ culled-append a live (take (suc i) names) (drop (suc i) names) in
    let next = culled-next a live names i l in
    let one = length-append (culled_of a live (take (suc i) names)) (culled_of a live (drop (suc i) names)) in
    let two = length-append (culled_of a live (take i names)) (culled_of a live (get_or names i 0 ∷ [])) in
    let three = ap length parts in
    let four = ap length next in
    omega arith

noted-pairs : (a : NamedHeap) (name place : ℕ) → place_before a name ≡ place → (xs : List (Value × Value)) →
    map (noted_cull a) (map (λ (pair : Value × Value). record { table = name; key = pair.0; value = pair.1 }) xs) ≡ map (note_of a place) xs
noted-pairs a name place at [] = refl
noted-pairs a name place at (x ∷ xs) =
    ap (λ (p : ℕ). record { table = p; key = (note_of a place x).key; value = (note_of a place x).value } ∷ map (noted_cull a) (map (λ (pair : Value × Value). record { table = name; key = pair.0; value = pair.1 }) xs)) at
    ∙ ap (λ (more : List CullNote). note_of a place x ∷ more) (noted-pairs a name place at xs)

culled-one : (a : NamedHeap) (live : ℕ → Bool) (name : ℕ) (o : Object) → object_at a.objects name ≡ Some o → live name ≡ true →
    culled_of a live (name ∷ []) ≡ map (noted_cull a) (culled_from live name o.contents)
culled-one a live name o there settled =
    let one : culls_in live name (object_at a.objects name) ≡ culled_from live name o.contents = rw (there, settled) refl in
    ap (λ (l : List Cull). map (noted_cull a) (l ++ [])) one ∙ ap (λ (l : List Cull). map (noted_cull a) l) (append-nil (culled_from live name o.contents))

pub culled-table : (a : NamedHeap) (live : ℕ → Bool) (name : ℕ) (o : Object) (w : Weakness) (b : ℕ) (pairs : List (Value × Value)) → object_at a.objects name ≡ Some o → live name ≡ true →
    o.contents ≡ TableOf w b pairs → culled_of a live (name ∷ []) ≡ notes_of a live o.place w pairs (length pairs)
culled-table a live name o w b pairs there settled is =
    culled-one a live name o there settled ∙ ap (λ (k : Contents). map (noted_cull a) (culled_from live name k)) is
    ∙ noted-pairs a name o.place (ap place_of there) (filter (λ pair. not (is_kept live w pair)) pairs)
    ∙ ap (λ (xs : List (Value × Value)). map (note_of a o.place) (filter (λ pair. not (is_kept live w pair)) xs)) (sym (take-length pairs))

never_culled : (live : ℕ → Bool) (name : ℕ) (k : Contents) → kind_of k ≢ kinds.Table → culled_from live name k ≡ []
never_culled live name (ConsOf a b) n = refl
never_culled live name (VectorOf vs) n = refl
never_culled live name (InstanceOf vs) n = refl
never_culled live name (ClosureOf vs) n = refl
never_culled live name (WordsOf ws) n = refl
never_culled live name (WeakTo v) n = refl
never_culled live name (TableOf w b pairs) n = absurd (n refl)

-- of what stands at a start
pub culled-at : (a : NamedHeap) (s : CopyState) (start name : ℕ) → IsPlacedSoFar a s → (q : IsTableNow a s start) → IsWeakAt a s name start →
    culled_of a (is_settled a s) (name ∷ []) ≡ notes_of a (is_settled a s) q.o.place q.w q.pairs (length q.pairs)
culled-at a s start name h q at =
    let same = same-now a s h name q.name at.o q.o at.there q.there (at.here ∙ sym q.here) in
    ap (λ (x : ℕ). culled_of a (is_settled a s) (x ∷ [])) same ∙ culled-table a (is_settled a s) q.name q.o q.w q.b q.pairs q.there q.settled q.contents

pub culled-other : (a : NamedHeap) (s : CopyState) (start name : ℕ) → IsPlacedSoFar a s → (other : ℕ) (q : IsWeakAt a s other start) → IsWeakAt a s name start → kind_of q.o.contents ≢ kinds.Table →
    culled_of a (is_settled a s) (name ∷ []) ≡ []
culled-other a s start name h other q at none =
    let same = same-now a s h name other at.o q.o at.there q.there (at.here ∙ sym q.here) in
    ap (λ (x : ℕ). culled_of a (is_settled a s) (x ∷ [])) same ∙ culled-one a (is_settled a s) other q.o q.there q.settled
    ∙ ap (λ (l : List Cull). map (noted_cull a) l) (never_culled (is_settled a s) other q.o.contents none)

module _ (a : NamedHeap) (s r : CopyState) (starts : List ℕ) (once : AllPairs (λ (x y : ℕ). x ≢ y) starts) (i : ℕ) (inside : i < length starts) (old now : PassNotes) (can : CanCull a s starts old)
    (left : AreRewritten a s r kinds.Table starts i)
    (noted : (names : List ℕ) → AreNamed a s starts names → now.culls.items ≡ old.culls.items ++ culled_of a (is_settled a s) (take i names))
    (room : vec_capacity now.culls ≡ vec_capacity old.culls) where
  enough : vec_len now.culls + length (culled_of a (is_settled a s) (get_or can.names i 0 ∷ [])) ≤ vec_capacity now.culls
  enough =
      let so_far = ap length (noted can.names can.named) in
      let parts = length-append old.culls.items (culled_of a (is_settled a s) (take i can.names)) in
      let names_long = can.named.long in
      let most = culled-room a (is_settled a s) can.names i (omega arith) in
      let all = can.room in
      omega arith

  start_is : IsWeakStart a r kinds.Table (slice_index starts i)
  start_is = start-waits a s can.starts_are.places kinds.Table starts once i inside r left (can.starts_are.each i inside)

  name_is : start_is.name ≡ get_or can.names i 0
  name_is =
      let at = weak-over a s r left.same (get_or can.names i 0) (slice_index starts i) (can.named.each i inside) in
      same-now a r left.places start_is.name (get_or can.names i 0) start_is.at.o at.o start_is.at.there at.there (start_is.at.here ∙ sym at.here)

  culled_over : (names : List ℕ) → culled_of a (is_settled a r) names ≡ culled_of a (is_settled a s) names
  culled_over names = ap (λ (x : CopyState). culled_of a (is_settled a x) names) left.same

  pub can-cull-next : CanCullAt a r (slice_index starts i) now
  can-cull-next = record {
    places = left.places;
    start_is = start_is;
    ready = subst (λ (x : CopyState). Keeps (is_settled a x) start_is.at.o.contents) (sym left.same)
        (can.ready i start_is.at.o inside (ap (λ (x : ℕ). object_at a.objects x) (sym name_is) ∙ start_is.at.there));
    room = (let one : culled_of a (is_settled a r) (start_is.name ∷ []) ≡ culled_of a (is_settled a s) (get_or can.names i 0 ∷ []) =
        culled_over (start_is.name ∷ []) ∙ ap (λ (x : ℕ). culled_of a (is_settled a s) (x ∷ [])) name_is in
        let long = ap length one in
        let all = enough in
        omega arith);
  }

  pub culls-next : (new : PassNotes) → ((name : ℕ) → IsWeakAt a r name (slice_index starts i) → new.culls.items ≡ now.culls.items ++ culled_of a (is_settled a r) (name ∷ [])) →
      (names : List ℕ) → AreNamed a s starts names → new.culls.items ≡ old.culls.items ++ culled_of a (is_settled a s) (take (i + 1) names)
  culls-next new one names named =
      let at = weak-over a s r left.same (get_or names i 0) (slice_index starts i) (named.each i inside) in
      let names_long = named.long in
      let up : i + 1 ≡ suc i = omega arith in
      let next = culled-next a (is_settled a s) names i (omega arith) in
      rw up (one (get_or names i 0) at ∙ ap (λ (more : List CullNote). now.culls.items ++ more) (culled_over (get_or names i 0 ∷ []))
      ∙ ap (λ (so_far : List CullNote). so_far ++ culled_of a (is_settled a s) (get_or names i 0 ∷ [])) (noted names named)
      ∙ append_assoc old.culls.items (culled_of a (is_settled a s) (take i names)) (culled_of a (is_settled a s) (get_or names i 0 ∷ []))
      ∙ ap (λ (more : List CullNote). old.culls.items ++ more) (sym next))
