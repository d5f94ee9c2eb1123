-- The words after the sweep stand for the heap after the pass.
use Rattle.std.proofs.Common.{◌≡◌, ℕ, ◌+◌, ◌*◌, ◌<◌, ◌≤◌, List, Option, Some, None, Bool, true, false, refl, sym, ◌∙◌, ap, subst, arith}
use Rattle.std.proofs.lemmas.Option.{same_Some}
use Rattle.std.specs.Prelude.{IfSome, slice_index, if◌then◌else◌}
use Rattle.heap_terms.specs.declared.events.PassRecord.{PassRecord}
use Rattle.heap_terms.specs.declared.pages.Entry.{Entry}
use Rattle.heap_terms.specs.declared.kinds.Kind.{Kind}
use Rattle.heap_terms.specs.Heap.{NamedHeap, object_at, entry_at, fill_of}
use Rattle.heap_terms.specs.Layout.{size_of}
use Rattle.heap_terms.specs.Objects.{Object, Contents, kind_of, payload_of, words_of_object}
use Rattle.heap_terms.specs.OnPages.{IsOwned}
use Rattle.heap_terms.specs.Passes.{after_pass, remains}
use Rattle.heap_terms.specs.Slots.{Slot, Raw, Val, Side, Kept, slot_at}
use Rattle.heap_terms.specs.Stands.{StandsFor, SlotsStand, KeptStand, WordsStand}
use Rattle.heap_terms.specs.Survival.{surviving}
use Rattle.pass_laws.proofs.AfterPages.{pages_long, surviving-kind, surviving-payload}
use Rattle.pass_laws.proofs.AfterPass.{IsShaped-surviving, object_then, remaining, remains_after}
use Rattle.copy_space.specs.Midway.{IsPlacedSoFar}
use Rattle.copy_space.specs.Moved.{new_of, now_at, objects_now}
use Rattle.copy_space.specs.Settled.{is_settled}
use Rattle.copy_space.specs.State.{CopyState}
use Rattle.copy_space.proofs.Shapes.{slot-below}
use Rattle.page_sweep.specs.Swept.{IsSwept, remaining_now}
use Rattle.page_sweep.proofs.Remaining.{remaining-at}
use Rattle.trace_laws.specs.Ends.{IsEnd}
use Rattle.trace_laws.specs.Rooted.{Rooted}
use Rattle.trace_laws.specs.Traced.{IsTraced}
use Rattle.collect_pass.proofs.Orders.{place-is}
use Rattle.collect_pass.proofs.PagesAfter.{pages-after}
use Rattle.collect_pass.proofs.Survivors.{surviving-live}

module _ (h : Rooted) (s : CopyState) (exact : List ℕ) (traced : IsTraced h s exact) (target : ℕ) (r : PassRecord) (end : IsEnd h.heap s target r)
    (words : List ℕ) (pages : List Entry) (freed : List ℕ) (swept : IsSwept h.heap s target words pages freed) where
  abbrev a : NamedHeap
  a = h.heap

  abbrev p : IsPlacedSoFar h.heap s
  p = traced.places

  lives : (x : ℕ) → remains a r x ≡ true → is_settled a s x ≡ true
  lives x e = sym (end.remains_are x) ∙ e

  -- an object that remains is at its place now and holds what survives of it
  place-then : (x : ℕ) (o : Object) → object_at a.objects x ≡ Some o → (object_then a r x o).place ≡ new_of s.moves o.place
  place-then x o e = place-is a s p target r end x o e

  contents-then : (x : ℕ) (o : Object) → (object_then a r x o).contents ≡ surviving (is_settled a s) o.contents
  contents-then x o = ap (λ (live : ℕ → Bool). surviving live o.contents) (λ i name. end.remains_are name i)

  size-then : (x : ℕ) (o : Object) → words_of_object (object_then a r x o) ≡ words_of_object o
  size-then x o =
      ap (λ (k : Kind). size_of k (payload_of (surviving (remains a r) o.contents))) (surviving-kind (remains a r) o.contents)
      ∙ ap (λ (n : ℕ). size_of (kind_of o.contents) n) (surviving-payload (remains a r) o.contents)

  size-left : (o : Object) → words_of_object (record o { contents = surviving (is_settled a s) o.contents }) ≡ words_of_object o
  size-left o =
      ap (λ (k : Kind). size_of k (payload_of (surviving (is_settled a s) o.contents))) (surviving-kind (is_settled a s) o.contents)
      ∙ ap (λ (n : ℕ). size_of (kind_of o.contents) n) (surviving-payload (is_settled a s) o.contents)

  -- its words stand for its slots
  module _ (x : ℕ) (o : Object) (e : object_at a.objects x ≡ Some o) (live : is_settled a s x ≡ true) where
    abbrev left : Contents
    left = surviving (is_settled a s) o.contents

    kept-word : (i : ℕ) (slot : Slot) → slot_at left i ≡ Some slot → slice_index words (new_of s.moves o.place + i) ≡ slice_index s.words (new_of s.moves o.place + i)
    kept-word i slot f =
        let below = slot-below left (IsShaped-surviving (is_settled a s) o.contents (p.sound.objects x o e).shape) i slot f in
        let size = size-left o in
        swept.kept x o e live i (omega arith)

    slots-stand : SlotsStand (after_pass a r).objects words (new_of s.moves o.place) left
    slots-stand i = go (slot_at left i) refl ((traced.stands x o e live).slots i)
      where
        go : (q : Option Slot) → slot_at left i ≡ q → IfSome q (λ slot. StandsFor (objects_now a s.moves) slot (slice_index s.words (new_of s.moves o.place + i))) →
            IfSome q (λ slot. StandsFor (after_pass a r).objects slot (slice_index words (new_of s.moves o.place + i)))
        go None f stands = tt
        go (Some (Raw w)) f stands = kept-word i (Raw w) f ∙ stands
        go (Some (Val v)) f stands = kept-word i (Val v) f ∙ stands ∙ sym (end.words v (surviving-live (is_settled a s) o.contents (traced.keeps x o e live) i (Val v) f))
        go (Some (Side v)) f stands = kept-word i (Side v) f ∙ stands ∙ sym (end.words v (surviving-live (is_settled a s) o.contents (traced.keeps x o e live) i (Side v) f))
        go (Some Kept) f stands = tt

    kept-stand : KeptStand words (new_of s.moves o.place) left
    kept-stand i f = kept-word i Kept f ∙ (traced.stands x o e live).kept i f

  spelled-after : (x : ℕ) → IfSome (object_at (after_pass a r).objects x) (λ o. SlotsStand (after_pass a r).objects words o.place o.contents)
  spelled-after x = go (object_at (after_pass a r).objects x) refl
    where
      go : (q : Option Object) → object_at (after_pass a r).objects x ≡ q → IfSome q (λ o. SlotsStand (after_pass a r).objects words o.place o.contents)
      go None e = tt
      go (Some new) e =
          let was = remaining a s.pass.generation target r p.sound end.is_pass x new e in
          let stands = slots-stand x was.object was.there (lives x was.live) in
          let placed : SlotsStand (after_pass a r).objects words (object_then a r x was.object).place (surviving (is_settled a s) was.object.contents) =
          subst (λ (place : ℕ). SlotsStand (after_pass a r).objects words place (surviving (is_settled a s) was.object.contents)) (sym (place-then x was.object was.there)) stands in
          let held : SlotsStand (after_pass a r).objects words (object_then a r x was.object).place (object_then a r x was.object).contents =
          subst (λ (k : Contents). SlotsStand (after_pass a r).objects words (object_then a r x was.object).place k) (sym (contents-then x was.object)) placed in
          subst (λ (q : Object). SlotsStand (after_pass a r).objects words q.place q.contents) (sym was.is) held

  kept-after : (x : ℕ) → IfSome (object_at (after_pass a r).objects x) (λ o. KeptStand words o.place o.contents)
  kept-after x = go (object_at (after_pass a r).objects x) refl
    where
      go : (q : Option Object) → object_at (after_pass a r).objects x ≡ q → IfSome q (λ o. KeptStand words o.place o.contents)
      go None e = tt
      go (Some new) e =
          let was = remaining a s.pass.generation target r p.sound end.is_pass x new e in
          let stands = kept-stand x was.object was.there (lives x was.live) in
          let placed : KeptStand words (object_then a r x was.object).place (surviving (is_settled a s) was.object.contents) =
          subst (λ (place : ℕ). KeptStand words place (surviving (is_settled a s) was.object.contents)) (sym (place-then x was.object was.there)) stands in
          let held : KeptStand words (object_then a r x was.object).place (object_then a r x was.object).contents =
          subst (λ (k : Contents). KeptStand words (object_then a r x was.object).place k) (sym (contents-then x was.object)) placed in
          subst (λ (q : Object). KeptStand words q.place q.contents) (sym was.is) held

  -- what belongs to something that remains belongs to an object of the heap after the pass
  owned-after : (i : ℕ) → IsOwned (remaining_now a s) i → IsOwned (after_pass a r).objects i
  owned-after i (x, q, there, belongs) = go (is_settled a s x) (object_at a.objects x) refl refl (sym (remaining-at a s x) ∙ there)
    where
      go : (live : Bool) (was : Option Object) → is_settled a s x ≡ live → object_at a.objects x ≡ was →
          (if live then now_at s.moves was else None) ≡ Some q → IsOwned (after_pass a r).objects i
      go false was live e f = cc
      go true None live e f = cc
      go true (Some o) live e f =
          let is : q ≡ record o { place = new_of s.moves o.place } = sym (same_Some (record o { place = new_of s.moves o.place }) q f) in
          let from : new_of s.moves o.place ≤ i = subst (λ (t : Object). t.place ≤ i) is belongs.from in
          let below : i < new_of s.moves o.place + words_of_object o = subst (λ (t : Object). i < t.place + words_of_object t) is belongs.below in
          let size = size-then x o in (
            x,
            object_then a r x o,
            remains_after a s.pass.generation target r p.sound end.is_pass x o e (end.remains_are x ∙ live),
            record {
              from = subst (λ (place : ℕ). place ≤ i) (sym (place-then x o e)) from;
              below = subst (λ (place : ℕ). i < place + words_of_object (object_then a r x o)) (sym (place-then x o e)) (subst (λ (n : ℕ). i < new_of s.moves o.place + n) (sym size) below);
            },
          )

  pub words-after : WordsStand (after_pass a r) words
  words-after = record {
    long = swept.long ∙ p.long ∙ ap (λ (n : ℕ). 512 * n) (sym (pages_long a s.pass.generation target r p.sound end.is_pass));
    spelled = spelled-after;
    kept = kept-after;
    fillers = λ page i less free.
        swept.fillers page i (subst (λ (es : List Entry). i < fill_of (entry_at es page)) (sym (pages-after a s p target r end words pages freed swept)) less) (λ owned. free (owned-after (512 * page + i) owned));
  }
