-- A state is told by its parts: the pages in use are those of the placement of what was moved.
use Rattle.std.proofs.Common.{◌≡◌, ◌≢◌, ℕ, zero, suc, ◌+◌, ◌<◌, ◌≤◌, List, [], ◌∷◌, length, map, Option, Some, None, Bool, true, inl, inr, refl, sym, ◌∙◌, ap, subst, arith}
use Rattle.std.proofs.lemmas.Bool.{cases_lt, cases_Bool, eq-eqb, eqb-true, false≢true}
use Rattle.std.proofs.lemmas.List.{get_or_past}
use Rattle.std.proofs.lemmas.List.Elements.{All-head, All-tail}
use Rattle.std.specs.List.{range_with_len}
use Rattle.std.specs.Prelude.{All, find, unwrap_or}
use Rattle.heap_terms.specs.declared.events.Placing.{Placing}
use Rattle.heap_terms.specs.declared.pages.Entry.{Entry}
use Rattle.heap_terms.specs.Heap.{NamedHeap, object_at}
use Rattle.heap_terms.specs.Objects.{Object}
use Rattle.heap_terms.specs.Placement.{Placement, placement}
use Rattle.heap_terms.specs.Sound.{IsSound}
use Rattle.pass_laws.proofs.Spreading.{IsMoveOf}
use Rattle.copy_space.specs.declared.marks.Mark.{Mark}
use Rattle.copy_space.specs.declared.notes.Move.{Move}
use Rattle.copy_space.specs.declared.notes.Pass.{Pass}
use Rattle.copy_space.specs.declared.notes.PassNotes.{PassNotes}
use Rattle.copy_space.specs.declared.placing.PagesInUse.{PagesInUse}
use Rattle.copy_space.specs.Midway.{IsPlacedSoFar}
use Rattle.copy_space.specs.Moved.{noted}
use Rattle.copy_space.specs.Settled.{is_settled}
use Rattle.copy_space.specs.State.{CopyState}
use Rattle.copy_space.proofs.Names.{same_name}
use Rattle.copy_space.proofs.Referents.{ms, its}
use Rattle.finalizers.specs.Lists.{Lists}
use Rattle.finalizers.specs.Sweeping.{IsSwept}
use Rattle.trace_laws.specs.Rooted.{Rooted}
use Rattle.trace_laws.specs.Traced.{IsTraced}
use Rattle.trace_laws.proofs.Moves.{moves-named}
use Rattle.collect_pass.specs.Tracing.{AreTraceNotes, begins_at, name_at, moved_names, in_use_after, end_state}

-- the only number of a range that passes a test is found
find-only : (p : ℕ → Bool) (from n x : ℕ) → p x ≡ true → from ≤ x → x < from + n → ((y : ℕ) → p y ≡ true → y ≡ x) → find p (range_with_len from n) ≡ Some x
find-only p from zero x passes low high only = absurd (omega (arith, low, high))
find-only p from (suc n) x passes low high only = elim (cases_Bool (p from)) [
  | inl here ↦ rw here (ap (λ (y : ℕ). Some y) (only from here))
  | inr gone ↦ (let apart : from ≢ x = λ same. false≢true (sym gone ∙ ap p same ∙ passes) in rw gone (find-only p (from + 1) n x passes (omega arith) (omega arith) only))
]

name-found : (a : NamedHeap) → IsSound a → (x : ℕ) (o : Object) → object_at a.objects x ≡ Some o → name_at a o.place ≡ x
name-found a sound x o e = ap (λ (q : Option ℕ). unwrap_or q 0) (find-only (λ name. begins_at o.place (object_at a.objects name)) 0 (length a.objects) x here (omega arith) inside only)
  where
    here : begins_at o.place (object_at a.objects x) ≡ true
    here = ap (begins_at o.place) e ∙ eq-eqb o.place o.place refl

    inside : x < 0 + length a.objects
    inside = elim (cases_lt x (length a.objects)) [
      | inl l ↦ omega arith
      | inr past ↦ (let never : None ≡ Some o = sym (get_or_past a.objects x None past) ∙ e in cc)
    ]

    only : (y : ℕ) → begins_at o.place (object_at a.objects y) ≡ true → y ≡ x
    only y begins = go (object_at a.objects y) refl
      where
        go : (q : Option Object) → object_at a.objects y ≡ q → y ≡ x
        go None f = absurd (false≢true (ap (begins_at o.place) (sym f) ∙ begins))
        go (Some q) f = same_name a sound y x q o f e (eqb-true q.place o.place (ap (begins_at o.place) (sym f) ∙ begins))

names-found : (a : NamedHeap) → IsSound a → (xs : List Placing) → All (IsMoveOf a) xs → moved_names a (map noted xs) ≡ map (λ (m : Placing). m.name) xs
names-found a sound [] all = refl
names-found a sound (m ∷ xs) all =
    let move = All-head (IsMoveOf a) m xs all in
    let here : name_at a m.old ≡ m.name = ap (name_at a) move.2 ∙ name-found a sound m.name move.0 move.1 in
    let rest : moved_names a (map noted xs) ≡ map (λ (m : Placing). m.name) xs = names-found a sound xs (All-tail (IsMoveOf a) m xs all) in
    cc

in-use-is : (a : NamedHeap) (s : CopyState) (p : IsPlacedSoFar a s) → s.in_use ≡ in_use_after a s.moves
in-use-is a s p =
    let order : moved_names a s.moves ≡ p.order = ap (moved_names a) (its a s p).moves_are ∙ names-found a p.sound (ms a s p) (its a s p).placing.olds ∙ moves-named a s p in
    let using : Placement → PagesInUse = λ q. record { cons = q.cons_page; boxed = q.boxed_page; unboxed = q.unboxed_page } in
    ap using p.placed.on_pages ∙ ap (λ (o : List ℕ). using (placement a o)) (sym order)

-- the room for moves is of no account
with-room : (h : Rooted) (s : CopyState) (exact : List ℕ) → IsTraced h s exact → IsTraced h (record s { room = length s.marks }) exact
with-room h s exact t = record {
  places = record {
    sound = t.places.sound;
    generation = t.places.generation;
    most = t.places.most;
    long = t.places.long;
    marks_long = t.places.marks_long;
    room = omega arith;
    order = t.places.order;
    once = t.places.once;
    met = t.places.met;
    placed = record { on_pages = t.places.placed.on_pages; moves = t.places.placed.moves };
    pins = t.places.pins;
    unpinned = t.places.unpinned;
    marks = t.places.marks;
    counted = t.places.counted;
    forwards = t.places.forwards;
    owned = t.places.owned;
    fillers = t.places.fillers;
  };
  pins = t.pins;
  keeps = t.keeps;
  stands = λ name o there settled. (let stands = t.stands name o there settled in record { slots = stands.slots; kept = stands.kept });
  exact_now = t.exact_now;
  exact_live = t.exact_live;
  least = t.least;
}

pub traced-end : (h : Rooted) (s : CopyState) (exact words : List ℕ) (pages : List Entry) (marks : List Mark) (pins : List ℕ) (pass : Pass) (moves : List Move) → IsTraced h s exact →
    words ≡ s.words → pages ≡ s.pages → marks ≡ s.marks → pins ≡ s.pins → pass ≡ s.pass → moves ≡ s.moves → IsTraced h (end_state h.heap words pages marks pins pass moves) exact
unfolding end_state
traced-end h s exact words pages marks pins pass moves t words_are pages_are marks_are pins_are pass_is moves_are =
    let use_is : s.in_use ≡ in_use_after h.heap moves = in-use-is h.heap s t.places ∙ ap (in_use_after h.heap) (sym moves_are) in
    let same : record s { room = length s.marks } ≡ end_state h.heap words pages marks pins pass moves = cc in
    subst (λ (u : CopyState). IsTraced h u exact) same (with-room h s exact t)

-- what is settled is told by the marks and the pass
pub settled-end : (a : NamedHeap) (s : CopyState) (words : List ℕ) (pages : List Entry) (marks : List Mark) (pins : List ℕ) (pass : Pass) (moves : List Move) → marks ≡ s.marks → pass ≡ s.pass →
    is_settled a (end_state a words pages marks pins pass moves) ≡ is_settled a s
unfolding end_state
settled-end a s words pages marks pins pass moves marks_are pass_is =
    subst (λ (m : List Mark). is_settled a (end_state a words pages m pins pass moves) ≡ is_settled a s) (sym marks_are)
    (subst (λ (p : Pass). is_settled a (end_state a words pages s.marks pins p moves) ≡ is_settled a s) (sym pass_is) refl)

pub told-end : (a : NamedHeap) (z u : CopyState) (words : List ℕ) (pages : List Entry) (marks : List Mark) (pins : List ℕ) (pass : Pass) (moves : List Move) (old ended new : PassNotes) →
    AreTraceNotes a (is_settled a z) old ended → u ≡ record z { words = u.words } → marks ≡ u.marks → pass ≡ u.pass → new ≡ ended →
    AreTraceNotes a (is_settled a (end_state a words pages marks pins pass moves)) old new
told-end a z u words pages marks pins pass moves old ended new told same marks_are pass_is notes_are =
    let live : is_settled a u ≡ is_settled a z = subst (λ (x : CopyState). is_settled a x ≡ is_settled a z) (sym same) refl in
    subst (λ (n : PassNotes). AreTraceNotes a (is_settled a (end_state a words pages marks pins pass moves)) old n) (sym notes_are)
    (subst (λ (set : ℕ → Bool). AreTraceNotes a set old ended) (sym (settled-end a u words pages marks pins pass moves marks_are pass_is ∙ live)) told)

-- and so is what is swept, by these and the moves
pub swept-end : (a : NamedHeap) (s : CopyState) (words : List ℕ) (pages : List Entry) (marks : List Mark) (pins : List ℕ) (pass : Pass) (moves : List Move) (list : List (ℕ × ℕ)) (old new : Lists) →
    IsSwept a s list old new → marks ≡ s.marks → pass ≡ s.pass → moves ≡ s.moves → IsSwept a (end_state a words pages marks pins pass moves) list old new
unfolding end_state
swept-end a s words pages marks pins pass moves list old new h marks_are pass_is moves_are =
    subst (λ (m : List Mark). IsSwept a (end_state a words pages m pins pass moves) list old new) (sym marks_are)
    (subst (λ (p : Pass). IsSwept a (end_state a words pages s.marks pins p moves) list old new) (sym pass_is)
    (subst (λ (ms : List Move). IsSwept a (end_state a words pages s.marks pins s.pass ms) list old new) (sym moves_are) (record { registered = h.registered; queue = h.queue })))
