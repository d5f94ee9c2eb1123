-- One pass of a collection: what its record may say, and the heap after it. That a pass copies what is live and leaves
-- what is pinned in its place is SBCL's; the order in which a record lists things, and what becomes of pages, are this
-- project's own. The order of the moves is left free; everything else follows from the heap and that order.
use Rattle.std.specs.Prelude.{◌≡◌, ℕ, ◌/◌, ◌<◌, ◌==◌, ◌&&◌, ◌||◌, not, List, [], ◌∷◌, ◌++◌, map, filter, length, count_by, AllPairs, All, ◌≢◌, Option, Some, None, Bool, true, false, unwrap_or, is_none, if◌then◌else◌}
use Rattle.std.specs.List.{list_any, range_with_len}
use Rattle.heap_terms.specs.declared.events.PassRecord.{PassRecord}
use Rattle.heap_terms.specs.declared.events.PinAt.{PinAt}
use Rattle.heap_terms.specs.declared.events.Placing.{Placing}
use Rattle.heap_terms.specs.declared.pages.Entry.{Entry}
use Rattle.heap_terms.specs.declared.pages.Entry.TheVariants as entries
use Rattle.heap_terms.specs.Generations.{is_of, names}
use Rattle.heap_terms.specs.Heap.{NamedHeap, object_at, entry_at}
use Rattle.heap_terms.specs.Layout.{page_words}
use Rattle.heap_terms.specs.Live.{AreLiveNames}
use Rattle.heap_terms.specs.Objects.{Object}
use Rattle.heap_terms.specs.Placement.{scratch, placement}
use Rattle.heap_terms.specs.Roots.{is_pinned}
use Rattle.heap_terms.specs.Survival.{surviving, culls_of, breaks_of, queued_of, registered}

-- whether a record lists a name among its moves and stays, and among its pins
abbrev pub is_listed_move : PassRecord → ℕ → Bool
is_listed_move r name = list_any (λ (m : Placing). m.name == name) r.moves

abbrev pub is_listed_pin : PassRecord → ℕ → Bool
is_listed_pin r name = list_any (λ (q : PinAt). q.name == name) r.pins

-- whether an object remains, read off the record: it is of another generation, or it is moved, stays or is pinned
abbrev pub remains_at : PassRecord → ℕ → Option Object → Bool
remains_at r name None = false
remains_at r name (Some o) = not (o.generation == r.generation) || (is_listed_move r name || is_listed_pin r name)

abbrev pub remains : NamedHeap → PassRecord → ℕ → Bool
remains a r name = remains_at r name (object_at a.objects name)

-- the names in the order in which the pass took them
abbrev pub order_of : PassRecord → List ℕ
order_of r = map (λ (m : Placing). m.name) r.moves

-- where a list of moves puts a name; none where it is not moved
abbrev pub moved_to : List Placing → ℕ → Option ℕ
moved_to [] name = None
moved_to (m ∷ rest) name = if m.name == name then m.new else moved_to rest name

-- an object after the pass: what does not remain is gone, what is of the generation has the target, what was moved has
-- its new place
abbrev pub object_after : NamedHeap → PassRecord → ℕ → Option Object → Option Object
object_after a r name None = None
object_after a r name (Some o) =
    if remains a r name
    then Some (record {
      generation = if o.generation == r.generation then r.target else o.generation;
      place = unwrap_or (moved_to r.moves name) o.place;
      contents = surviving (remains a r) o.contents;
    })
    else None

-- a page after the pass: freed ones are free, the other pages of the generation and the pages that were taken have the target
abbrev pub entry_after : PassRecord → ℕ → Entry → Entry
entry_after r page entries.Free = entries.Free
entry_after r page (entries.Used ty g fill first pages) =
    if list_any (λ freed. freed == page) r.freed then entries.Free
    else entries.Used ty (if g == r.generation || g == scratch then r.target else g) fill first pages

-- the pages after the pass, from those of its placement
abbrev pub pages_after_pass : PassRecord → List Entry → List Entry
pages_after_pass r pages = map (λ page. entry_after r page (entry_at pages page)) (range_with_len 0 (length pages))

-- the heap after the pass that a record tells
unfoldable pub after_pass : NamedHeap → PassRecord → NamedHeap
after_pass a r = record a {
  objects = map (λ name. object_after a r name (object_at a.objects name)) (names a);
  pages = pages_after_pass r (placement a (order_of r)).pages;
  finalizers = registered a (remains a r);
  queue = a.queue ++ queued_of a (remains a r);
}

-- whether a pinned object, or one that stays, lies in the run that begins at a page
abbrev pub is_held : PassRecord → ℕ → Bool
is_held r first =
    list_any (λ (q : PinAt). q.index / page_words == first) r.pins
    || list_any (λ (m : Placing). is_none m.new && m.old / page_words == first) r.moves

-- whether the pass frees a page: it is of the generation before the pass, and nothing in its run is pinned or stays
abbrev pub is_freed : PassRecord → Entry → Bool
is_freed r entries.Free = false
is_freed r (entries.Used ty g fill first pages) = g == r.generation && not (is_held r first)

abbrev pub freed_of : NamedHeap → PassRecord → List ℕ
freed_of a r = filter (λ page. is_freed r (entry_at a.pages page)) (range_with_len 0 (length a.pages))

-- how many names of the generation die, and how many remain
abbrev pub dead_of : NamedHeap → PassRecord → ℕ
dead_of a r = count_by (λ name. is_of a r.generation name && not (remains a r name)) (names a)

abbrev pub kept_of : NamedHeap → PassRecord → ℕ
kept_of a r = count_by (λ name. is_of a r.generation name && remains a r name) (names a)

-- the pins of a record are the pinned names with their indices, each once, ascending by index
pub record ArePins (a : NamedHeap) (g : ℕ) (pins : List PinAt) : Type 0 where
  pub pinned : All (λ (q : PinAt). (o : Object) × (object_at a.objects q.name ≡ Some o) × (q.index ≡ o.place) × (is_pinned a g q.name ≡ true)) pins
  pub all : (name : ℕ) → is_pinned a g name ≡ true → list_any (λ (q : PinAt). q.name == name) pins ≡ true
  pub ascending : AllPairs (λ (q s : PinAt). q.index < s.index) pins

-- A record tells a pass over generation g with the target h: what remains is what is live; each live name of g that is
-- not pinned is moved or stays, once, by the placement of its order; and all other lists and numbers are those of the heap.
pub record IsPass (a : NamedHeap) (g h : ℕ) (r : PassRecord) : Type 0 where
  pub generation : r.generation ≡ g
  pub target : r.target ≡ h
  pub live : AreLiveNames a g (remains a r)
  pub movable : All (λ (m : Placing). (is_of a g m.name ≡ true) × (is_pinned a g m.name ≡ false)) r.moves
  pub once : AllPairs (λ (m n : Placing). m.name ≢ n.name) r.moves
  pub placed : r.moves ≡ (placement a (order_of r)).moves
  pub pins : ArePins a g r.pins
  pub culls : r.culls ≡ culls_of a (remains a r)
  pub breaks : r.breaks ≡ breaks_of a (remains a r)
  pub queued : r.queued ≡ queued_of a (remains a r)
  pub freed : r.freed ≡ freed_of a r
  pub dead : r.dead ≡ dead_of a r
  pub kept : r.kept ≡ kept_of a r
