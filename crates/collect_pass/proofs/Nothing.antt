-- A pass over a generation that has no object: all is settled from the start, so tracing has nothing to do.
use Rattle.std.proofs.Common.{◌≡◌, ◌≢◌, ℕ, ◌*◌, ◌<◌, ◌≤◌, List, [], ◌∷◌, length, map, vec_capacity, Option, Some, None, Bool, true, false, refl, sym, ◌∙◌, ap, subst, nat_eq, arith}
use Rattle.std.proofs.lemmas.Bool.{false≢true, eq-eqb, ne_eqb}
use Rattle.std.proofs.lemmas.List.{append-nil, ext_get_or, length-map}
use Rattle.std.proofs.lemmas.List.Elements.{All-cons, All-nil}
use Rattle.std.proofs.lemmas.List.Folds.{list_any_none}
use Rattle.std.proofs.lemmas.List.FromFn.{length-range_with_len}
use Rattle.std.specs.List.{list_any}
use Rattle.std.specs.Prelude.{AllPairs, count_by, ◌==◌, ◌||◌, ◌++◌, not}
use Rattle.heap_terms.specs.declared.limits.TheConstants.{MOST_PAGES}
use Rattle.heap_terms.specs.declared.cells.Value.TheVariants.{Ref}
use Rattle.heap_terms.specs.declared.pages.Entry.{Entry}
use Rattle.heap_terms.specs.Generations.{is_of, has_generation, names}
use Rattle.heap_terms.specs.Heap.{NamedHeap, object_at}
use Rattle.heap_terms.specs.Live.{IsClosed}
use Rattle.heap_terms.specs.Objects.{Object, Contents}
use Rattle.heap_terms.specs.Spelling.{word_of}
use Rattle.heap_terms.specs.Stands.{KeptStand, SlotsStand}
use Rattle.pass_laws.proofs.Counting.{listed-few}
use Rattle.pass_laws.proofs.LiveNames.{object_below}
use Rattle.copy_space.specs.declared.marks.Mark.{Mark}
use Rattle.copy_space.specs.declared.notes.Pass.{Pass}
use Rattle.copy_space.specs.declared.notes.PassNotes.{PassNotes}
use Rattle.copy_space.specs.Marks.{mark_at, is_set}
use Rattle.copy_space.specs.Midway.{Midway}
use Rattle.copy_space.specs.Moved.{now_at, objects_now}
use Rattle.copy_space.specs.Settled.{is_settled, settles, word_now}
use Rattle.copy_space.specs.State.{CopyState}
use Rattle.copy_space.specs.Surviving.{StandsAfter}
use Rattle.copy_space.proofs.Names.{now-at-name}
use Rattle.copy_space.proofs.Starting.{start_state, starts}
use Rattle.finalizers.specs.Lists.{Lists}
use Rattle.finalizers.specs.Standing.{registrations}
use Rattle.finalizers.specs.Sweeping.{IsSwept}
use Rattle.pin_set.specs.Starts.{Starts}
use Rattle.trace_laws.specs.Rooted.{Rooted}
use Rattle.trace_laws.specs.Traced.{IsTraced}
use Rattle.collect_pass.specs.Tracing.{AreTraceNotes, CanFinalize, CanTrace, end_state}
use Rattle.collect_pass.proofs.Alive.{are-live, are-weak-names, broken-none, culled-none, dead-none, keeps-all, living-whole, survives-whole, weak_names}
use Rattle.collect_pass.proofs.EndStates.{settled-end, swept-end, traced-end}

now-nil : (q : Option Object) → now_at [] q ≡ q
now-nil None = refl
now-nil (Some o) = refl

-- where nothing has moved each object is where it was
same-objects : (a : NamedHeap) → objects_now a [] ≡ a.objects
same-objects a = ext_get_or None (objects_now a []) a.objects
    (length-map (names a) (λ name. now_at [] (object_at a.objects name)) ∙ length-range_with_len 0 (length a.objects))
    (λ i l. now-at-name a [] i ∙ now-nil (object_at a.objects i))

module _ (h : Rooted) (words : List ℕ) (pages : List Entry) (marks : List Mark) (pins : List ℕ) (pass : Pass) (exact : List ℕ) (notes : PassNotes) (weak : Starts)
    (can : CanTrace h words pages marks pins pass exact notes weak) (most : length pages ≤ MOST_PAGES) (none : count_by (is_of h.heap pass.generation) (names h.heap) ≡ 0) where
  abbrev a : NamedHeap
  a = h.heap

  abbrev s : CopyState
  s = start_state words pages marks pins pass (vec_capacity notes.moves)

  none-of : (name : ℕ) → is_of a pass.generation name ≡ true → (o : Object) → object_at a.objects name ≡ Some o → ⊥
  none-of name is o there =
      let below = object_below a.objects name o there in
      let once : AllPairs (λ (x y : ℕ). x ≢ y) (name ∷ []) = λ i j d l m. absurd (omega (arith, l, m)) in
      let few = listed-few (name ∷ []) (length a.objects) (is_of a pass.generation) once (All-cons (λ x. x < length a.objects) name [] below (All-nil (λ x. x < length a.objects))) (All-cons (λ x. is_of a pass.generation x ≡ true) name [] is (All-nil (λ x. is_of a pass.generation x ≡ true))) in
      absurd (omega (arith, few, none))

  others : (name : ℕ) (o : Object) → object_at a.objects name ≡ Some o → o.generation ≢ pass.generation
  others name o there same = none-of name (ap (has_generation pass.generation) there ∙ eq-eqb o.generation pass.generation same) o there

  all-settled : (name : ℕ) (o : Object) → object_at a.objects name ≡ Some o → is_settled a s name ≡ true
  all-settled name o there =
      let apart : (o.generation == pass.generation) ≡ false = ne_eqb o.generation pass.generation (others name o there) in
      ap (settles s) there ∙ ap (λ (b : Bool). not b || is_set (mark_at marks o.place)) apart

  unpinned : (x : ℕ) → list_any (nat_eq x) pins ≡ false
  unpinned x = list_any_none (nat_eq x) pins (λ i d l. (let start = can.begins.pinned i d l in absurd (none-of start.0 start.1.of_it start.1.o start.1.there)))

  midway : Midway a s
  midway = starts a words pages marks marks pins pass (vec_capacity notes.moves) can.begins most (λ i. (let free = unpinned (2 * i) in rw free refl)) refl

  stands : (name : ℕ) (o : Object) → object_at a.objects name ≡ Some o → StandsAfter a s s o
  stands name o there =
      let whole = survives-whole a can.begins.sound (is_settled a s) all-settled o.contents (can.begins.sound.objects name o there).contents in
      let slots : SlotsStand a.objects words o.place o.contents = rw there at (can.begins.stand.spelled name) in
      let kept : KeptStand words o.place o.contents = rw there at (can.begins.stand.kept name) in
      record {
        slots = subst (λ (k : Contents). SlotsStand (objects_now a []) words o.place k) (sym whole) (subst (λ (os : List (Option Object)). SlotsStand os words o.place o.contents) (sym (same-objects a)) slots);
        kept = subst (λ (k : Contents). KeptStand words o.place k) (sym whole) kept;
      }

  closed-has : (set : ℕ → Bool) → IsClosed a pass.generation set → (name : ℕ) → is_settled a s name ≡ true → set name ≡ true
  closed-has set closed name is = go (object_at a.objects name) refl
    where
      go : (q : Option Object) → object_at a.objects name ≡ q → set name ≡ true
      go None e = absurd (false≢true (ap (settles s) (sym e) ∙ is))
      go (Some o) e = closed.others name o e (others name o e)

  traced : IsTraced h s exact
  traced = record {
    places = midway.places;
    pins = can.pinned;
    keeps = λ name o there settled. keeps-all a can.begins.sound (is_settled a s) all-settled o.contents (can.begins.sound.objects name o there).contents;
    stands = λ name o there settled. stands name o there;
    exact_now = can.roots.exact_are ∙ ap (λ (os : List (Option Object)). map (word_of os) h.values) (sym (same-objects a));
    exact_live = are-live a can.begins.sound (is_settled a s) all-settled h.values can.roots.living;
    least = closed-has;
  }

  pub nothing-traced : IsTraced h (end_state a words pages marks pins pass notes.moves.items) exact
  nothing-traced = traced-end h s exact words pages marks pins pass notes.moves.items traced refl refl refl refl refl can.unmoved

  pub nothing-noted : notes.queued.items ≡ [] → AreTraceNotes a (is_settled a (end_state a words pages marks pins pass notes.moves.items)) notes notes
  nothing-noted queued = subst (λ (set : ℕ → Bool). AreTraceNotes a set notes notes) (sym (settled-end a s words pages marks pins pass notes.moves.items refl refl)) (record {
    rest = record { generation = refl; target = refl; pins = refl; freed = refl; dead = refl; kept = refl };
    queued = queued ∙ sym (dead-none a can.begins.sound (is_settled a s) all-settled);
    weak_names = weak_names a can.begins.sound (is_settled a s) all-settled;
    weak = are-weak-names a can.begins.sound (is_settled a s) all-settled;
    culls = can.no_culls ∙ sym (culled-none a can.begins.sound (is_settled a s) all-settled (weak_names a can.begins.sound (is_settled a s) all-settled));
    breaks = can.no_breaks ∙ sym (broken-none a can.begins.sound (is_settled a s) all-settled (weak_names a can.begins.sound (is_settled a s) all-settled));
    moves_room = refl;
    culls_room = refl;
    breaks_room = refl;
    queued_room = refl;
  })

  pub nothing-swept : (lists : Lists) → CanFinalize a lists notes → IsSwept a (end_state a words pages marks pins pass notes.moves.items) a.finalizers lists lists
  nothing-swept lists f = swept-end a s words pages marks pins pass notes.moves.items a.finalizers lists lists (record {
    registered = f.stand.registered ∙ ap (λ (os : List (Option Object)). registrations (λ name. word_of os (Ref name)) a.finalizers) (sym (same-objects a))
        ∙ ap (registrations (λ name. word_now a s (Ref name))) (sym (living-whole a can.begins.sound (is_settled a s) all-settled));
    queue = sym (append-nil lists.queue) ∙ ap (λ (ids : List ℕ). lists.queue ++ ids) (sym (dead-none a can.begins.sound (is_settled a s) all-settled));
  }) refl refl can.unmoved
