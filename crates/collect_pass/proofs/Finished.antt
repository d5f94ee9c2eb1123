-- The end of tracing: after tables are culled and weak pointers broken the words of each settled object stand for what
-- survives of it, and the notes tell of all weak pointers and tables that are settled.
use Rattle.std.proofs.Common.{◌≡◌, ℕ, ◌+◌, ◌*◌, ◌≤◌, List, [], ◌++◌, length, map, get_or, Option, Some, None, Bool, true, false, nat_eq, inl, inr, refl, sym, ◌∙◌, ap, subst, arith, vec_len, vec_capacity}
use Rattle.std.proofs.lemmas.Bool.{cases_Bool, eq-eqb, false≢true}
use Rattle.std.proofs.lemmas.List.{get_or_default}
use Rattle.std.proofs.lemmas.List.Folds.{list_any_at}
use Rattle.std.specs.Prelude.{IfSome, slice_index}
use Rattle.heap_terms.specs.declared.kinds.Kind.TheVariants as kinds
use Rattle.heap_terms.specs.Heap.{NamedHeap, object_at, zero_value}
use Rattle.heap_terms.specs.Live.{is_live}
use Rattle.heap_terms.specs.Objects.{Object, Contents}
use Rattle.heap_terms.specs.Slots.{Slot, Raw, Val, Side, Kept, slot_at}
use Rattle.heap_terms.specs.Stands.{KeptStand, SlotsStand, StandsFor}
use Rattle.copy_space.specs.CullNotes.{broken_of, culled_of}
use Rattle.copy_space.specs.Midway.{Midway}
use Rattle.copy_space.specs.Notes.{SameButMoves, SameButQueued}
use Rattle.copy_space.specs.Moved.{new_of, objects_now}
use Rattle.copy_space.specs.Settled.{is_settled, word_now}
use Rattle.copy_space.specs.State.{CopyState}
use Rattle.copy_space.specs.Surviving.{StandsAfter}
use Rattle.copy_space.specs.WeakNames.{AreNamed, AreWeakNames, is_weak, weak_count}
use Rattle.copy_space.specs.declared.notes.PassNotes.{PassNotes}
use Rattle.copy_space.proofs.Shapes.{slot-below}
use Rattle.finalizers.specs.Sweeping.{dead_ids}
use Rattle.pin_set.specs.Starts.{Starts}
use Rattle.scavenge.specs.Noting.{CanNote}
use Rattle.scavenge.proofs.NotedStarts.{NamedStarts, kind-by_weak, named-starts, names-once, starts-few, weak-by_kind}
use Rattle.trace_laws.specs.Rooted.{Rooted}
use Rattle.trace_laws.specs.Traced.{ArePinnedStarts, IsTraced, KeepsAll, SettlesNoMore}
use Rattle.weak_refs.specs.Breaking.{CanBreak, HasRoomForBreaks, SameButBroken}
use Rattle.weak_refs.specs.Culling.{CanCull, HasRoomForCulls, SameButCulled}
use Rattle.weak_refs.specs.Rewriting.{AreRewritten}
use Rattle.weak_refs.proofs.BreakingLoop.{weak-over}
use Rattle.weak_refs.proofs.Ends.{both-same, culled-can-break, other-after, pointer-after, table-after}
use Rattle.weak_refs.proofs.Midways.{midway-can-cull}
use Rattle.weak_refs.proofs.Noted.{broken-most, culled-most}
use Rattle.weak_refs.proofs.Starts.{same-now}
use Rattle.collect_pass.specs.Settling.{AreAllSettled}
use Rattle.collect_pass.specs.Tracing.{AreTraceNotes}
use Rattle.collect_pass.proofs.Keeping.{listed-at}
use Rattle.collect_pass.proofs.Survivors.{strong-plain, strong-survives}
use Rattle.collect_pass.proofs.TracedNow.{IsEndOf}

-- all is settled, and all weak pointers and tables are listed
pub record IsListed (a : NamedHeap) (z : CopyState) (weak : Starts) : Type 0 where
  pub midway : Midway a z
  pub all : AreAllSettled a z weak.listed
  pub note : CanNote a z weak

module _ (a : NamedHeap) (z : CopyState) (weak : Starts) (h : IsListed a z weak) where
  pub its_names : NamedStarts a z weak.listed
  its_names = named-starts a z weak.listed h.note.each

  few : length its_names.names ≤ weak_count a
  few = (let most = starts-few a z weak.listed its_names h.note.once in let long = its_names.named.long in omega arith)

  -- there is room for all culls and breaks
  pub culls-fit : (notes : PassNotes) → vec_len notes.culls ≡ 0 → 64 * weak_count a ≤ vec_capacity notes.culls → HasRoomForCulls notes (culled_of a (is_settled a z) its_names.names)
  culls-fit notes none room = (let most = culled-most a h.midway.places.sound (is_settled a z) its_names.names in let names_few = few in omega arith)

  pub breaks-fit : (notes : PassNotes) → vec_len notes.breaks ≡ 0 → weak_count a ≤ vec_capacity notes.breaks → HasRoomForBreaks notes (broken_of a (is_settled a z) its_names.names)
  breaks-fit notes none room = (let most = broken-most a h.midway.places.sound (is_settled a z) its_names.names in let names_few = few in omega arith)

  pub can-cull : (notes : PassNotes) → vec_len notes.culls ≡ 0 → 64 * weak_count a ≤ vec_capacity notes.culls → CanCull a z weak.listed notes
  can-cull notes none room = midway-can-cull a z weak.listed its_names.names notes h.midway its_names.named h.all.ready (culls-fit notes none room)

  -- all names of weak pointers and tables
  pub weak-names : AreWeakNames a (is_settled a z) its_names.names
  weak-names = record {
    each = λ i d l.
        (let long = its_names.named.long in
        let at = its_names.named.each i (omega arith) in
        let same = get_or_default its_names.names i d 0 l in
        record {
          o = at.o;
          there = ap (object_at a.objects) same ∙ at.there;
          weak = weak-by_kind at.o.contents at.weak;
          lives = ap (is_settled a z) same ∙ at.settled;
        });
    once = names-once a z weak.listed its_names h.note.once;
    all = λ name o there is settled.
        (let listed = listed-at weak.listed (new_of z.moves o.place) ((h.all.done name o there settled).noted is) in
        let long = its_names.named.long in
        let at = its_names.named.each listed.k listed.below in
        let same = same-now a z h.midway.places name (slice_index its_names.names listed.k) o at.o there at.there (listed.is ∙ sym at.here) in
        list_any_at (nat_eq name) its_names.names listed.k 0 (let below = listed.below in omega arith) (eq-eqb name (get_or its_names.names listed.k 0) same));
  }

  module _ (t : CopyState) (left : AreRewritten a z t kinds.Table weak.listed (length weak.listed)) where
    pub can-break : (notes : PassNotes) → vec_len notes.breaks ≡ 0 → weak_count a ≤ vec_capacity notes.breaks → CanBreak a t weak.listed notes
    can-break notes none room = culled-can-break a z t h.midway weak.listed its_names.names its_names.named left notes (breaks-fit notes none room)

    module _ (u : CopyState) (broken : AreRewritten a t u kinds.Weak weak.listed (length weak.listed)) where
      pub end-same : u ≡ record z { words = u.words }
      end-same = both-same a z t h.midway weak.listed its_names.names its_names.named left u broken

      -- what is no weak pointer and no table
      module _ (name : ℕ) (o : Object) (there : object_at a.objects name ≡ Some o) (settled : is_settled a z name ≡ true) (strong : is_weak o.contents ≡ false) where
        unchanged : (i : ℕ) (slot : Slot) → slot_at o.contents i ≡ Some slot → slice_index u.words (new_of z.moves o.place + i) ≡ slice_index z.words (new_of z.moves o.place + i)
        unchanged i slot f =
            other-after a z t h.midway weak.listed its_names.names its_names.named left u broken name o there
            (λ table. false≢true (sym strong ∙ weak-by_kind o.contents (inr table))) (λ pointer. false≢true (sym strong ∙ weak-by_kind o.contents (inl pointer))) i
            (slot-below o.contents (h.midway.places.sound.objects name o there).shape i slot f)

        strong-slots : SlotsStand (objects_now a z.moves) u.words (new_of z.moves o.place) o.contents
        strong-slots i = go (slot_at o.contents i) refl
          where
            go : (q : Option Slot) → slot_at o.contents i ≡ q → IfSome q (λ slot. StandsFor (objects_now a z.moves) slot (slice_index u.words (new_of z.moves o.place + i)))
            go None f = tt
            go (Some (Raw w)) f = unchanged i (Raw w) f ∙ h.midway.spelled.slots name o there i (Raw w) f
            go (Some (Val v)) f = unchanged i (Val v) f ∙ ((h.all.done name o there settled).scanned i v f).is
            go (Some (Side v)) f = absurd (strong-plain o.contents strong i (Side v) f)
            go (Some Kept) f = tt

        strong-after : StandsAfter a z u o
        strong-after = record {
          slots = subst (λ (k : Contents). SlotsStand (objects_now a z.moves) u.words (new_of z.moves o.place) k) (sym (strong-survives (is_settled a z) o.contents strong)) strong-slots;
          kept = subst (λ (k : Contents). KeptStand u.words (new_of z.moves o.place) k) (sym (strong-survives (is_settled a z) o.contents strong))
              (λ i f. absurd (strong-plain o.contents strong i Kept f));
        }

      all-after : (name : ℕ) (o : Object) → object_at a.objects name ≡ Some o → is_settled a z name ≡ true → StandsAfter a z u o
      all-after name o there settled = elim (cases_Bool (is_weak o.contents)) [
        | inr strong ↦ strong-after name o there settled strong
        | inl is ↦ (let at = listed-at weak.listed (new_of z.moves o.place) ((h.all.done name o there settled).noted is) in
            elim (kind-by_weak o.contents is) [
              | inl pointer ↦ pointer-after a z t h.midway weak.listed its_names.names its_names.named left u broken at.k name o at.below there settled at.is pointer
              | inr table ↦ table-after a z t h.midway weak.listed its_names.names its_names.named left u broken at.k name o at.below there settled at.is table
            ])
      ]

      pub all-stand : (name : ℕ) (o : Object) → object_at a.objects name ≡ Some o → is_settled a u name ≡ true → StandsAfter a u u o
      all-stand = subst (λ (x : CopyState). (name : ℕ) (o : Object) → object_at a.objects name ≡ Some o → is_settled a x name ≡ true → StandsAfter a x u o) (sym end-same)
          (λ name o there settled. (let stands = all-after name o there settled in record { slots = stands.slots; kept = stands.kept }))

-- what was settled is traced
module _ (h : Rooted) (w z t u : CopyState) (exact : List ℕ) (end : IsEndOf h w z exact) (weak : Starts) (l : IsListed h.heap z weak)
    (left : AreRewritten h.heap z t kinds.Table weak.listed (length weak.listed)) (broken : AreRewritten h.heap t u kinds.Weak weak.listed (length weak.listed)) where
  same : u ≡ record z { words = u.words }
  same = end-same h.heap z weak l t left u broken

  pub traced : IsTraced h u exact
  traced = record {
    places = broken.places;
    pins = subst (λ (x : CopyState). ArePinnedStarts h.heap x.pass.generation x.pins) (sym same) end.pinned;
    keeps = subst (λ (x : CopyState). KeepsAll h.heap x) (sym same) l.all.keeps;
    stands = all-stand h.heap z weak l t left u broken;
    exact_now = subst (λ (x : CopyState). exact ≡ map (word_now h.heap x) h.values) (sym same) end.exact_now;
    exact_live = subst (λ (x : CopyState). (i : ℕ) → is_live (is_settled h.heap x) (get_or h.values i zero_value) ≡ true) (sym same) end.exact_live;
    least = subst (λ (x : CopyState). SettlesNoMore h.heap x) (sym same) end.least;
  }

  pub traced-pins : u.pins ≡ w.pins
  traced-pins = ap (λ (x : CopyState). x.pins) same ∙ sym end.pins

  pub traced-pass : u.pass ≡ w.pass
  traced-pass = ap (λ (x : CopyState). x.pass) same ∙ sym end.pass

  pub traced-room : u.room ≡ w.room
  traced-room = ap (λ (x : CopyState). x.room) same ∙ end.room

-- and told
module _ (a : NamedHeap) (z t u : CopyState) (weak : Starts) (l : IsListed a z weak) (left : AreRewritten a z t kinds.Table weak.listed (length weak.listed))
    (start settled culled broken ended : PassNotes) (chain : SameButMoves start settled) (no_culls : start.culls.items ≡ []) (no_breaks : start.breaks.items ≡ [])
    (culls_noted : (names : List ℕ) → AreNamed a z weak.listed names → culled.culls.items ≡ settled.culls.items ++ culled_of a (is_settled a z) names)
    (culls_room : vec_capacity culled.culls ≡ vec_capacity settled.culls) (culls_rest : SameButCulled settled culled)
    (breaks_noted : (names : List ℕ) → AreNamed a t weak.listed names → broken.breaks.items ≡ culled.breaks.items ++ broken_of a (is_settled a t) names)
    (breaks_room : vec_capacity broken.breaks ≡ vec_capacity culled.breaks) (breaks_rest : SameButBroken culled broken) (moves_room : vec_capacity ended.moves ≡ vec_capacity start.moves)
    (no_queued : start.queued.items ≡ []) (queued_noted : ended.queued.items ≡ broken.queued.items ++ dead_ids (is_settled a u) a.finalizers)
    (queued_room : vec_capacity ended.queued ≡ vec_capacity broken.queued) (queued_rest : SameButQueued broken ended) (u_is : u ≡ record z { words = u.words }) where
  abbrev names : List ℕ
  names = (its_names a z weak l).names

  named_then : AreNamed a t weak.listed names
  named_then = (let named = (its_names a z weak l).named in
      record { long = named.long; each = λ k below. weak-over a z t left.same (slice_index names k) (slice_index weak.listed k) (named.each k below) })

  live_then : is_settled a t ≡ is_settled a z
  live_then = subst (λ (x : CopyState). is_settled a x ≡ is_settled a z) (sym left.same) refl

  live_end : is_settled a u ≡ is_settled a z
  live_end = subst (λ (x : CopyState). is_settled a x ≡ is_settled a z) (sym u_is) refl

  pub trace-notes : AreTraceNotes a (is_settled a z) start ended
  trace-notes = record {
    rest = record {
      generation = queued_rest.rest.generation ∙ breaks_rest.rest.generation ∙ culls_rest.rest.generation ∙ chain.rest.generation;
      target = queued_rest.rest.target ∙ breaks_rest.rest.target ∙ culls_rest.rest.target ∙ chain.rest.target;
      pins = queued_rest.rest.pins ∙ breaks_rest.rest.pins ∙ culls_rest.rest.pins ∙ chain.rest.pins;
      freed = queued_rest.rest.freed ∙ breaks_rest.rest.freed ∙ culls_rest.rest.freed ∙ chain.rest.freed;
      dead = queued_rest.rest.dead ∙ breaks_rest.rest.dead ∙ culls_rest.rest.dead ∙ chain.rest.dead;
      kept = queued_rest.rest.kept ∙ breaks_rest.rest.kept ∙ culls_rest.rest.kept ∙ chain.rest.kept;
    };
    queued = queued_noted ∙ ap (λ (ids : List ℕ). ids ++ dead_ids (is_settled a u) a.finalizers) (ap (λ v. v.items) (breaks_rest.queued ∙ culls_rest.queued ∙ chain.queued) ∙ no_queued)
        ∙ ap (λ (live : ℕ → Bool). dead_ids live a.finalizers) live_end;
    weak_names = names;
    weak = weak-names a z weak l;
    culls = ap (λ v. v.items) queued_rest.culls ∙ ap (λ v. v.items) breaks_rest.culls ∙ culls_noted names (its_names a z weak l).named
        ∙ ap (λ (xs : List _). xs ++ culled_of a (is_settled a z) names) (ap (λ v. v.items) chain.culls ∙ no_culls);
    breaks = ap (λ v. v.items) queued_rest.breaks ∙ breaks_noted names named_then ∙ ap (λ (xs : List ℕ). xs ++ broken_of a (is_settled a t) names) (ap (λ v. v.items) culls_rest.breaks ∙ ap (λ v. v.items) chain.breaks ∙ no_breaks)
        ∙ ap (λ (live : ℕ → Bool). broken_of a live names) live_then;
    moves_room = moves_room;
    culls_room = ap vec_capacity queued_rest.culls ∙ ap vec_capacity breaks_rest.culls ∙ culls_room ∙ ap vec_capacity chain.culls;
    breaks_room = ap vec_capacity queued_rest.breaks ∙ breaks_room ∙ ap vec_capacity culls_rest.breaks ∙ ap vec_capacity chain.breaks;
    queued_room = queued_room ∙ ap vec_capacity breaks_rest.queued ∙ ap vec_capacity culls_rest.queued ∙ ap vec_capacity chain.queued;
  }
