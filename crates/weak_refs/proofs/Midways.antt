-- Weak pointers and tables in a state midway: they stand as the moves left them, and what was noted stays noted.
use Rattle.std.proofs.Common.{◌≡◌, ◌≢◌, ℕ, ◌+◌, List, length, inl, inr, sym, ◌∙◌, ap, arith}
use Rattle.std.proofs.lemmas.Option.{same_Some}
use Rattle.std.specs.Prelude.{slice_index}
use Rattle.heap_terms.specs.declared.kinds.Kind.{Kind}
use Rattle.heap_terms.specs.declared.kinds.Kind.TheVariants as kinds
use Rattle.heap_terms.specs.Heap.{NamedHeap}
use Rattle.heap_terms.specs.Layout.{header_of}
use Rattle.heap_terms.specs.Objects.{Object, kind_of, payload_of}
use Rattle.heap_terms.specs.Slots.{Raw}
use Rattle.copy_space.specs.CullNotes.{broken_of, culled_of}
use Rattle.copy_space.specs.declared.notes.PassNotes.{PassNotes}
use Rattle.copy_space.specs.Midway.{Midway}
use Rattle.copy_space.specs.Moved.{new_of}
use Rattle.copy_space.specs.Settled.{is_settled}
use Rattle.copy_space.specs.State.{CopyState}
use Rattle.copy_space.proofs.FrameLaws.{settled-stays}
use Rattle.copy_space.proofs.Shapes.{header_leads}
use Rattle.weak_refs.specs.Breaking.{CanBreak, HasRoomForBreaks}
use Rattle.weak_refs.specs.Culling.{CanCull, HasRoomForCulls}
use Rattle.copy_space.specs.WeakNames.{AreNamed, IsWeakAt}
use Rattle.weak_refs.specs.Readying.{Readies, AreReady}
use Rattle.weak_refs.specs.Rewriting.{AreWeakStarts, IsWeakStart}

pub weak-header : (a : NamedHeap) (s : CopyState) (name start : ℕ) → Midway a s → (at : IsWeakAt a s name start) → slice_index s.words start ≡ header_of (kind_of at.o.contents) (payload_of at.o.contents)
weak-header a s name start m at =
    let none : new_of s.moves at.o.place + 0 ≡ start = (let here = at.here in omega arith) in
    ap (λ (i : ℕ). slice_index s.words i) (sym none)
    ∙ m.spelled.slots name at.o at.there 0 (Raw (header_of (kind_of at.o.contents) (payload_of at.o.contents))) (header_leads at.o.contents (m.places.sound.objects name at.o at.there).shape headed)
  where
    headed : kind_of at.o.contents ≢ kinds.Cons
    headed cons = elim at.weak [
      | inl weak ↦ (let never : kinds.Weak ≡ kinds.Cons = sym weak ∙ cons in cc)
      | inr table ↦ (let never : kinds.Table ≡ kinds.Cons = sym table ∙ cons in cc)
    ]

pub weak-start : (a : NamedHeap) (s : CopyState) (kind : Kind) (name start : ℕ) → Midway a s → IsWeakAt a s name start → IsWeakStart a s kind start
weak-start a s kind name start m at = record {
  name = name;
  at = at;
  header = weak-header a s name start m at;
  before = λ is. record { slots = m.spelled.slots name at.o at.there; kept = m.spelled.kept name at.o at.there };
}

pub weak-starts : (a : NamedHeap) (s : CopyState) (kind : Kind) (starts names : List ℕ) → Midway a s → AreNamed a s starts names → AreWeakStarts a s kind starts
weak-starts a s kind starts names m named = record {
  places = m.places;
  each = λ k l. weak-start a s kind (slice_index names k) (slice_index starts k) m (named.each k l);
}

-- what a caller of the calls knows midway
pub midway-can-cull : (a : NamedHeap) (s : CopyState) (starts names : List ℕ) (notes : PassNotes) → Midway a s → AreNamed a s starts names → AreReady a s starts (length starts) →
    HasRoomForCulls notes (culled_of a (is_settled a s) names) → CanCull a s starts notes
midway-can-cull a s starts names notes m named ready room = record {
  starts_are = weak-starts a s kinds.Table starts names m named;
  names = names;
  named = named;
  ready = λ k o l there. (let at = named.each k l in
      let o_is = same_Some at.o o (sym at.there ∙ there) in
      ready k l (slice_index names k) o there at.settled (ap (λ (q : Object). new_of s.moves q.place) (sym o_is) ∙ at.here));
  room = room;
}

pub midway-can-break : (a : NamedHeap) (s : CopyState) (starts names : List ℕ) (notes : PassNotes) → Midway a s → AreNamed a s starts names →
    HasRoomForBreaks notes (broken_of a (is_settled a s) names) → CanBreak a s starts notes
midway-can-break a s starts names notes m named room = record { starts_are = weak-starts a s kinds.Weak starts names m named; names = names; named = named; room = room }

-- what stands at a start stands there after more was settled
pub weak-stays : (a : NamedHeap) (s t : CopyState) (name start : ℕ) → Readies a s t → IsWeakAt a s name start → IsWeakAt a t name start
weak-stays a s t name start h at = record {
  o = at.o;
  there = at.there;
  settled = settled-stays a s t h.goes.grows name at.settled;
  here = h.goes.grows.places name at.o at.there at.settled ∙ at.here;
  weak = at.weak;
}
