-- Marks of double words. What they say is this project's own.
use Rattle.std.specs.Prelude.{ℕ, ◌/◌, List, Bool, true, false, slice_index_or}
use Rattle.copy_space.specs.declared.marks.Mark.{Mark}
use Rattle.copy_space.specs.declared.marks.Mark.TheVariants.{Fresh, Pinned, Stayed, Moved}

-- the mark of the double word of an index; behind the last one all are fresh
abbrev pub mark_at : List Mark → ℕ → Mark
mark_at marks index = slice_index_or marks (index / 2) Fresh

-- whether a mark tells of an object that is done with
abbrev pub is_set : Mark → Bool
is_set Fresh = false
is_set Pinned = true
is_set Stayed = true
is_set Moved = true
