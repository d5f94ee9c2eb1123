-- Where the notes of culls stand, in order: by the names of the tables, and for one table as the notes are.
use Rattle.std.specs.Prelude.{◌≡◌, ◌⊎◌, ℕ, ◌<◌, ◌≤◌, List, [], ◌∷◌, All, slice_index_or}
use Rattle.copy_space.specs.declared.notes.CullNote.{CullNote}
use Rattle.pass_names.specs.Labelled.{label_at}
use Rattle.pass_names.specs.declared.places.NotePlace.{NotePlace}

abbrev pub no_note : CullNote
no_note = record { table = 0; key = 0; value = 0 }

-- where the i-th note stands, and the name of its table
abbrev pub place_in : List ℕ → List CullNote → ℕ → NotePlace
place_in labels notes i = record { table = label_at labels (slice_index_or notes i no_note).table; at = i }

-- a place comes before another or is the same
abbrev pub Precedes : NotePlace → NotePlace → Type 0
Precedes p q = (p.table < q.table) ⊎ ((p.table ≡ q.table) × (p.at ≤ q.at))

abbrev pub AreInOrder : List NotePlace → Type 0
AreInOrder [] = Unit {0}
AreInOrder (p ∷ places) = All (Precedes p) places × AreInOrder places
