-- The record at the end of tracing has the copier's placement.
use Rattle.std.proofs.Common.{◌≡◌, ℕ, List, [], ◌∷◌, map, Some, refl, sym, ◌∙◌, ap, subst}
use Rattle.std.proofs.lemmas.List.Elements.{All-head, All-tail}
use Rattle.std.specs.Prelude.{All, unwrap_or}
use Rattle.heap_terms.specs.declared.events.PassRecord.{PassRecord}
use Rattle.heap_terms.specs.declared.events.Placing.{Placing}
use Rattle.heap_terms.specs.Heap.{NamedHeap, object_at}
use Rattle.heap_terms.specs.Objects.{Object}
use Rattle.heap_terms.specs.Passes.{moved_to, order_of}
use Rattle.heap_terms.specs.Placement.{Placement, placement}
use Rattle.heap_terms.specs.Sound.{IsSound}
use Rattle.pass_laws.proofs.AfterPages.{spread}
use Rattle.pass_laws.proofs.Spreading.{IsMoveOf}
use Rattle.copy_space.specs.declared.notes.Move.{Move}
use Rattle.copy_space.specs.Midway.{IsPlacedSoFar}
use Rattle.copy_space.specs.Moved.{new_of, noted}
use Rattle.copy_space.specs.State.{CopyState}
use Rattle.copy_space.proofs.Names.{says, same_name}
use Rattle.copy_space.proofs.Referents.{ms, its}
use Rattle.trace_laws.specs.Ends.{IsEnd}
use Rattle.trace_laws.proofs.Moves.{moves-named}

abbrev name_of : Placing → ℕ
name_of m = m.name

-- moves that are the same in indices are of the same names
same-names : (a : NamedHeap) → IsSound a → (xs ys : List Placing) → All (IsMoveOf a) xs → All (IsMoveOf a) ys → map noted xs ≡ map noted ys → map name_of xs ≡ map name_of ys
same-names a sound [] [] of_x of_y e = refl
same-names a sound [] (y ∷ ys) of_x of_y e = cc
same-names a sound (x ∷ xs) [] of_x of_y e = cc
same-names a sound (x ∷ xs) (y ∷ ys) of_x of_y e =
    let hx = All-head (IsMoveOf a) x xs of_x in
    let hy = All-head (IsMoveOf a) y ys of_y in
    let head : noted x ≡ noted y = cc in
    let tail : map noted xs ≡ map noted ys = cc in
    let old : x.old ≡ y.old = ap (λ (m : Move). m.old) head in
    let name : x.name ≡ y.name = same_name a sound x.name y.name hx.0 hy.0 hx.1 hy.1 (sym hx.2 ∙ old ∙ hy.2) in
    let rest : map name_of xs ≡ map name_of ys = same-names a sound xs ys (All-tail (IsMoveOf a) x xs of_x) (All-tail (IsMoveOf a) y ys of_y) tail in
    cc

module _ (a : NamedHeap) (s : CopyState) (p : IsPlacedSoFar a s) (target : ℕ) (r : PassRecord) (end : IsEnd a s target r) where
  pub olds : All (IsMoveOf a) r.moves
  olds = subst (λ (moves : List Placing). All (IsMoveOf a) moves) (sym end.is_pass.placed) (spread a s.pass.generation target r p.sound end.is_pass).olds

  pub order-is : order_of r ≡ p.order
  order-is = same-names a p.sound r.moves (ms a s p) olds (its a s p).placing.olds (sym end.moves ∙ (its a s p).moves_are) ∙ moves-named a s p

  -- so its pages are those of the state
  pub pages-are : (placement a (order_of r)).pages ≡ s.pages
  pages-are = ap (λ (order : List ℕ). (placement a order).pages) order-is ∙ sym (ap (λ (q : Placement). q.pages) p.placed.on_pages)

  -- and its places
  pub place-is : (x : ℕ) (o : Object) → object_at a.objects x ≡ Some o → unwrap_or (moved_to r.moves x) o.place ≡ new_of s.moves o.place
  place-is x o e = sym (ap (λ (moves : List Move). new_of moves o.place) end.moves ∙ (says a p.sound r.moves olds x o e).new)
