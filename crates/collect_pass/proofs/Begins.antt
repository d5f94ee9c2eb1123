-- The beginning of a pass: what is hit is pinned, and tracing can begin.
use Rattle.std.proofs.Common.{◌≡◌, ℕ, ◌*◌, ◌<◌, ◌≤◌, List, [], ◌∷◌, length, replicate, Option, Some, Bool, inl, inr, refl, sym, ◌∙◌, ap, subst, nat_eq, arith}
use Rattle.std.proofs.lemmas.Bool.{cases_eq, eq-eqb, ne_eqb, and_parts, and_from}
use Rattle.std.proofs.lemmas.List.{length-replicate}
use Rattle.std.proofs.lemmas.List.Elements.{All-weaker}
use Rattle.std.specs.List.{list_any}
use Rattle.std.specs.Prelude.{◌||◌, ◌==◌}
use Rattle.heap_terms.specs.declared.pages.Entry.{Entry}
use Rattle.heap_terms.specs.Generations.{is_of}
use Rattle.heap_terms.specs.Heap.{NamedHeap, object_at}
use Rattle.heap_terms.specs.Layout.{reference_word}
use Rattle.heap_terms.specs.Objects.{Object, kind_of}
use Rattle.heap_terms.specs.Roots.{ambiguous_words, hits, is_hit}
use Rattle.heap_terms.specs.Sound.{IsSound}
use Rattle.pass_laws.proofs.Sizes.{words_least}
use Rattle.copy_space.specs.declared.marks.Mark.TheVariants.{Fresh}
use Rattle.copy_space.specs.declared.notes.Pass.{Pass}
use Rattle.copy_space.specs.declared.notes.PassNotes.{PassNotes}
use Rattle.copy_space.specs.Midway.{HasStart}
use Rattle.ambiguous_roots.specs.HitStarts.{IsHitStart, AreHitStarts}
use Rattle.ambiguous_roots.proofs.Referring.{few-hits}
use Rattle.trace_laws.specs.Rooted.{Rooted, RootsStand}
use Rattle.trace_laws.specs.Traced.{IsPinnedStart, ArePinnedStarts}
use Rattle.collect_pass.specs.declared.room.PassRoom.TheInside.{Inside}
use Rattle.collect_pass.specs.Pass.{RoomView, CanPass}
use Rattle.collect_pass.specs.Room.{room_view, IsRoom, AreCleared}
use Rattle.collect_pass.specs.Tracing.{CanTrace}

eq-swap : (x y : ℕ) → (x == y) ≡ (y == x)
eq-swap x y = elim (cases_eq x y) [
  | inl same ↦ eq-eqb x y same ∙ sym (eq-eqb y x (sym same))
  | inr apart ↦ ne_eqb x y apart ∙ sym (ne_eqb y x (λ same. apart (sym same)))
]

-- an object is hit by some word of a list where the list has the word of a reference to it
hit-listed : (o : Object) (words : List ℕ) → list_any (hits (Some o)) words ≡ list_any (nat_eq (reference_word o.place (kind_of o.contents))) words
hit-listed o [] = refl
hit-listed o (w ∷ words) =
    ap (λ (b : Bool). b || list_any (hits (Some o)) words) (eq-swap w (reference_word o.place (kind_of o.contents)))
    ∙ ap (λ (b : Bool). (reference_word o.place (kind_of o.contents) == w) || b) (hit-listed o words)

module _ (h : Rooted) (exact ambiguous : List ℕ) (roots : RootsStand h exact ambiguous) where
  -- what the roots hit is what the heap's ambiguous words hit
  pub hit-same : (x : ℕ) (o : Object) → object_at h.heap.objects x ≡ Some o → list_any (hits (Some o)) ambiguous ≡ is_hit h.heap x
  hit-same x o e =
      hit-listed o ambiguous ∙ roots.hits (reference_word o.place (kind_of o.contents)) (omega arith) ∙ sym (hit-listed o (ambiguous_words h.heap))
      ∙ ap (λ (q : Option Object). list_any (hits q) (ambiguous_words h.heap)) (sym e)

  pub pinned-starts : (g : ℕ) (starts : List ℕ) → AreHitStarts h.heap g ambiguous starts → ArePinnedStarts h.heap g starts
  pinned-starts g starts s = record {
    each = All-weaker (IsHitStart h.heap g ambiguous) (IsPinnedStart h.heap g)
        (λ index start. record {
          name = start.name;
          o = start.o;
          there = start.there;
          here = start.here;
          pinned = and_from (is_of h.heap g start.name) (is_hit h.heap start.name) start.of_it (sym (hit-same start.name start.o start.there) ∙ start.hit);
        }) starts s.each;
    all = λ name o e pinned.
        (let both = and_parts (is_of h.heap g name) (is_hit h.heap name) pinned in
        s.all name o e both.0 (hit-same name o e ∙ both.1));
    ascending = s.ascending;
  }

-- no more are pinned than there are ambiguous roots
pub few-pins : (a : NamedHeap) (g : ℕ) (words starts : List ℕ) → IsSound a → AreHitStarts a g words starts → length starts ≤ length words
few-pins a g words starts sound s = few-hits a g words (512 * length a.pages) starts sound (record {
  each = s.each;
  before = All-weaker (IsHitStart a g words) (λ (i : ℕ). i < 512 * length a.pages)
      (λ index start. (let inside = (sound.objects start.name start.o start.there).placed.inside in let least = words_least start.o in let here = start.here in omega arith)) starts s.each;
  all = λ name o e of_it hit below. s.all name o e of_it hit;
  ascending = s.ascending;
})

module _ (h : Rooted) (words : List ℕ) (pages : List Entry) (exact ambiguous : List ℕ) (pass : Pass) (view : RoomView) (can : CanPass h words pages exact ambiguous pass view)
    (r : Inside) (room : IsRoom r) (view_is : room_view r ≡ view) where
  pub held-long : length r.held ≡ length pages
  held-long = ap (λ (v : RoomView). v.pages) view_is ∙ can.reserved.pages_are

  pub can-trace : (starts now : List ℕ) (notes : PassNotes) → AreHitStarts h.heap pass.generation ambiguous starts → now ≡ exact → AreCleared r.notes notes →
      CanTrace h words pages r.marks starts pass now notes r.weak
  can-trace starts now notes s same cleared =
      let held = held-long in
      let long = can.stand.words_stand.long in
      let pages_long = ap length can.stand.pages_are in
      let marks_long : length r.marks ≡ 256 * length r.held = ap length room.marks ∙ length-replicate (256 * length r.held) Fresh in
      let enough = room.notes.for_moves in
      let same_room = cleared.moves_room in
      record {
        begins = record {
          sound = can.stand.sound;
          stand = can.stand.words_stand;
          pages_are = can.stand.pages_are;
          marks_long = omega arith;
          unmarked = room.marks ∙ ap (λ (n : ℕ). replicate n Fresh) (sym marks_long);
          pinned = All-weaker (IsHitStart h.heap pass.generation ambiguous) (HasStart h.heap pass.generation)
              (λ index start. (start.name, record { of_it = start.of_it; o = start.o; there = start.there; here = start.here })) starts s.each;
          generation = can.generation;
          enough = omega arith;
        };
        unmoved = cleared.moves;
        pinned = pinned-starts h exact ambiguous can.stand.roots pass.generation starts s;
        ambiguous = ambiguous;
        roots = subst (λ (ws : List ℕ). RootsStand h ws ambiguous) (sym same) can.stand.roots;
        none = room.weak;
        room = (let most : r.weak.most ≡ view.weak = ap (λ (v : RoomView). v.weak) view_is in let weak = can.reserved.weak_enough in omega arith);
        no_culls = cleared.culls;
        no_breaks = cleared.breaks;
        culls_room = (let most : r.weak.most ≡ view.weak = ap (λ (v : RoomView). v.weak) view_is in
            let weak = can.reserved.weak_enough in
            let culls = room.notes.for_culls in
            let kept = cleared.culls_room in
            omega arith);
        breaks_room = (let most : r.weak.most ≡ view.weak = ap (λ (v : RoomView). v.weak) view_is in
            let weak = can.reserved.weak_enough in
            let breaks = room.notes.for_breaks in
            let kept = cleared.breaks_room in
            omega arith);
      }
