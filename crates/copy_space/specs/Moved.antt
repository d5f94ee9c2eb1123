-- Where objects are while a pass moves them, read off its list of moves. The list is this project's own; an object that
-- was to move and found no place is in it with equal indices.
use Rattle.std.specs.Prelude.{ℕ, ◌==◌, List, [], ◌∷◌, map, Option, Some, None, Bool, if◌then◌else◌, unwrap_or, nat_eq}
use Rattle.std.specs.List.{list_any}
use Rattle.heap_terms.specs.declared.events.Placing.{Placing}
use Rattle.heap_terms.specs.Generations.{names}
use Rattle.heap_terms.specs.Heap.{NamedHeap, object_at}
use Rattle.heap_terms.specs.Objects.{Object}
use Rattle.copy_space.specs.declared.marks.Mark.{Mark}
use Rattle.copy_space.specs.declared.marks.Mark.TheVariants as marks
use Rattle.copy_space.specs.declared.notes.Move.{Move}

-- the place now of the object that was at an index; an index that no move names is its own
abbrev pub new_of : List Move → ℕ → ℕ
new_of [] index = index
new_of (m ∷ rest) index = if m.old == index then m.new else new_of rest index

-- whether a move or stay is of the object that was at an index
abbrev pub has_move : List Move → ℕ → Bool
has_move moves index = list_any (λ (m : Move). m.old == index) moves

-- an object at its place now
abbrev pub now_at : List Move → Option Object → Option Object
now_at moves None = None
now_at moves (Some o) = Some (record o { place = new_of moves o.place })

-- all objects at their places now, which tell the words that references to them have now
abbrev pub objects_now : NamedHeap → List Move → List (Option Object)
objects_now a moves = map (λ name. now_at moves (object_at a.objects name)) (names a)

-- the mark that an index has where these are the pinned starts and the moves
abbrev pub mark_for : List ℕ → List Move → ℕ → Mark
mark_for pins moves index =
    if list_any (nat_eq index) pins then marks.Pinned
    else if has_move moves index then (if new_of moves index == index then marks.Stayed else marks.Moved)
    else marks.Fresh

-- a move of a record of a pass, as the notes have it
abbrev pub noted : Placing → Move
noted m = record { old = m.old; new = unwrap_or m.new m.old }
