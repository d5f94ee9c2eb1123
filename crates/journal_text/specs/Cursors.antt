-- What is left of a line.
use Rattle.std.specs.Prelude.{ℕ, Bool, true, false, ◌==◌, List, []}
use Rattle.std.specs.List.{slice_split}

abbrev pub is_space : ℕ → Bool
is_space b = b == 32

-- the fields that are left: what stands between single spaces
abbrev pub fields_left : Bool → List ℕ → List (List ℕ)
fields_left true bytes = slice_split is_space bytes
fields_left false bytes = []
