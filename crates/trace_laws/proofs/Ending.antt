-- The end of tracing: the record of a lawful pass, built from the copier's moves and pins.
use Rattle.std.proofs.Common.{◌≡◌, ◌≢◌, ℕ, ◌+◌, ◌≤◌, ◌↔◌, List, [], map, get_or, Option, Some, None, Bool, true, false, refl, sym, ◌∙◌, subst, ap}
use Rattle.std.proofs.lemmas.Bool.{false≢true}
use Rattle.std.specs.Prelude.{All, AllPairs, unwrap_or}
use Rattle.heap_terms.specs.declared.cells.Value.{Value}
use Rattle.heap_terms.specs.declared.cells.Value.TheVariants as values
use Rattle.heap_terms.specs.declared.events.PassRecord.{PassRecord}
use Rattle.heap_terms.specs.declared.events.PinAt.{PinAt}
use Rattle.heap_terms.specs.declared.events.Placing.{Placing}
use Rattle.heap_terms.specs.declared.limits.TheConstants.{OLDEST_GENERATION}
use Rattle.heap_terms.specs.Generations.{is_of}
use Rattle.heap_terms.specs.Heap.{NamedHeap, object_at}
use Rattle.heap_terms.specs.Layout.{reference_word}
use Rattle.heap_terms.specs.Live.{is_live, AreLiveNames}
use Rattle.heap_terms.specs.Objects.{Object, kind_of}
use Rattle.heap_terms.specs.declared.kinds.Kind.{Kind}
use Rattle.heap_terms.specs.Roots.{is_pinned}
use Rattle.heap_terms.specs.Passes.{IsPass, ArePins, after_pass, object_after, moved_to, remains, freed_of, dead_of, kept_of}
use Rattle.heap_terms.specs.Placement.{placement}
use Rattle.heap_terms.specs.Spelling.{word_of, word_of_object}
use Rattle.heap_terms.specs.Survival.{surviving, culls_of, breaks_of, queued_of}
use Rattle.pass_laws.specs.Reached.{HasName}
use Rattle.pass_laws.proofs.AfterPages.{object_at-after, surviving-kind}
use Rattle.pass_laws.proofs.Told.{HasLists}
use Rattle.copy_space.specs.Midway.{IsPlacedSoFar}
use Rattle.copy_space.specs.Moved.{new_of, noted}
use Rattle.copy_space.specs.Settled.{settles, is_settled, word_now}
use Rattle.copy_space.specs.State.{CopyState}
use Rattle.copy_space.proofs.Names.{now-there, settled-place}
use Rattle.copy_space.proofs.Places.{said}
use Rattle.copy_space.proofs.Referents.{ms, its}
use Rattle.trace_laws.specs.Ends.{IsEnd}
use Rattle.trace_laws.specs.Noted.{IsMoveOf, IsPinOf}
use Rattle.trace_laws.specs.Rooted.{Rooted, IsExactRoot}
use Rattle.trace_laws.specs.Traced.{IsTraced}
use Rattle.trace_laws.proofs.Closing.{settled-live}
use Rattle.trace_laws.proofs.Kept.{kept-is, dead-is}
use Rattle.trace_laws.proofs.Moves.{moves-named, moves-once, moves-movable, moves-of}
use Rattle.trace_laws.proofs.PinNames.{IsPinNamed, NamedPins, named-pins, named-are}
use Rattle.trace_laws.proofs.Remaining.{HasMovesAndPins, remains-settled}

-- the record of a pass, but for what follows from its moves and pins
abbrev bare_record : ℕ → ℕ → List Placing → List PinAt → PassRecord
bare_record g target moves pins = record {
  generation = g;
  target = target;
  moves = moves;
  pins = pins;
  culls = [];
  breaks = [];
  queued = [];
  freed = [];
  dead = 0;
  kept = 0;
}

-- the record with all that follows
abbrev whole_record : NamedHeap → PassRecord → PassRecord
whole_record a r = record r {
  culls = culls_of a (remains a r);
  breaks = breaks_of a (remains a r);
  queued = queued_of a (remains a r);
  freed = freed_of a r;
  dead = dead_of a r;
  kept = kept_of a r;
}

module _ (h : Rooted) (s : CopyState) (exact : List ℕ) (target : ℕ) (names_are : (name : ℕ) → IsExactRoot h.heap name ↔ HasName h.values name)
    (t : IsTraced h s exact) (n : NamedPins h.heap s.pass.generation s.pins) (r : PassRecord)
    (told : HasMovesAndPins h.heap s (ms h.heap s t.places) n.pins r) (target_is : r.target ≡ target) (lists : HasLists h.heap r) where
  abbrev p : IsPlacedSoFar h.heap s
  p = t.places

  same : (name : ℕ) → remains h.heap r name ≡ is_settled h.heap s name
  same = remains-settled h.heap s t.places n r told

  remaining_live : AreLiveNames h.heap s.pass.generation (remains h.heap r)
  remaining_live = subst (λ (set : ℕ → Bool). AreLiveNames h.heap s.pass.generation set) (λ i x. sym (same x) i) (settled-live h s exact names_are t)

  lawful : IsPass h.heap s.pass.generation target r
  lawful = record {
    generation = told.generation;
    target = target_is;
    live = remaining_live;
    movable = subst (λ (moves : List Placing). All (λ (m : Placing). (is_of h.heap s.pass.generation m.name ≡ true) × (is_pinned h.heap s.pass.generation m.name ≡ false)) moves)
        (sym told.moves_are) (moves-movable h.heap s p t.pins);
    once = subst (λ (moves : List Placing). AllPairs (λ (m k : Placing). m.name ≢ k.name) moves) (sym told.moves_are) (moves-once h.heap s p);
    placed = lists.placed;
    pins = subst (λ (pins : List PinAt). ArePins h.heap s.pass.generation pins) (sym told.pins_are) (named-are h.heap s.pass.generation s.pins p.sound t.pins n);
    culls = lists.culls;
    breaks = lists.breaks;
    queued = lists.queued;
    freed = lists.freed;
    dead = lists.dead;
    kept = lists.kept;
  }

  -- the word of a name that remains
  word_then : (x : ℕ) (o : Object) → object_at h.heap.objects x ≡ Some o → is_settled h.heap s x ≡ true → word_of (after_pass h.heap r).objects (values.Ref x) ≡ word_now h.heap s (values.Ref x)
  word_then x o e on =
      let stays : remains h.heap r x ≡ true = same x ∙ on in
      let place : unwrap_or (moved_to r.moves x) o.place ≡ new_of s.moves o.place =
      ap (λ (moves : List Placing). unwrap_or (moved_to moves x) o.place) told.moves_are
      ∙ sym ((said h.heap s (ms h.heap s p) p.sound (its h.heap s p) x o e).0 ∙ settled-place (moved_to (ms h.heap s p) x) o) in
      ap word_of_object (object_at-after h.heap r x ∙ ap (object_after h.heap r x) e)
      ∙ rw stays (ap (λ (i : ℕ). reference_word i (kind_of (surviving (remains h.heap r) o.contents))) place
      ∙ ap (λ (k : Kind). reference_word (new_of s.moves o.place) k) (surviving-kind (remains h.heap r) o.contents))
      ∙ sym (ap word_of_object (now-there h.heap s.moves x o e))

  words_then : (v : Value) → is_live (is_settled h.heap s) v ≡ true → word_of (after_pass h.heap r).objects v ≡ word_now h.heap s v
  words_then (values.Fix k) on = refl
  words_then values.Nil on = refl
  words_then values.Unbound on = refl
  words_then (values.Ref x) on = go (object_at h.heap.objects x) refl
    where
      go : (q : Option Object) → object_at h.heap.objects x ≡ q → word_of (after_pass h.heap r).objects (values.Ref x) ≡ word_now h.heap s (values.Ref x)
      go None e = absurd (false≢true (ap (settles s) (sym e) ∙ on))
      go (Some o) e = word_then x o e on

  pin_of : (q : PinAt) → IsPinNamed h.heap s.pass.generation q → IsPinOf h.heap q
  pin_of q is = record { o = is.0; there = is.1; index = is.2 }

  ends : IsEnd h.heap s target r
  ends = record {
    is_pass = lawful;
    moves = (its h.heap s p).moves_are ∙ ap (map noted) (sym told.moves_are);
    moved = subst (λ (moves : List Placing). All (IsMoveOf h.heap) moves) (sym told.moves_are) (moves-of h.heap s p);
    pins = n.indices ∙ ap (map (λ (q : PinAt). q.index)) (sym told.pins_are);
    pinned = subst (λ (pins : List PinAt). All (IsPinOf h.heap) pins) (sym told.pins_are) (λ k d l. pin_of (get_or n.pins k d) (n.each k d l));
    remains_are = same;
    words = words_then;
    kept = lists.kept ∙ kept-is h.heap s p n (named-are h.heap s.pass.generation s.pins p.sound t.pins n) r told;
    dead = ap (λ (k : ℕ). k + r.kept) lists.dead ∙ ap (λ (k : ℕ). dead_of h.heap r + k) lists.kept
        ∙ dead-is h.heap s p n (named-are h.heap s.pass.generation s.pins p.sound t.pins n) r told;
  }

-- tracing always comes to that
pub traces-end : (h : Rooted) (s : CopyState) (exact : List ℕ) (target : ℕ) → ((name : ℕ) → IsExactRoot h.heap name ↔ HasName h.values name) →
    IsTraced h s exact → target ≤ OLDEST_GENERATION → (r : PassRecord) × IsEnd h.heap s target r
traces-end h s exact target names_are t low =
    let n = named-pins h.heap s.pass.generation s.pins t.pins.each in
    let bare = bare_record s.pass.generation target (ms h.heap s t.places) n.pins in
    let r = whole_record h.heap bare in (
      r,
      ends h s exact target names_are t n r (record { generation = refl; moves_are = refl; pins_are = refl }) refl (record {
        placed = ap (λ (order : List ℕ). (placement h.heap order).moves) (sym (moves-named h.heap s t.places));
        culls = refl;
        breaks = refl;
        queued = refl;
        freed = refl;
        dead = refl;
        kept = refl;
      }),
    )
