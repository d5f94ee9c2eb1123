-- The flags of pages.
use Rattle.std.specs.Prelude.{ℕ, ◌==◌, ◌/◌, ◌&&◌, List, Bool, false, slice_index_or}
use Rattle.std.specs.List.{list_any}
use Rattle.heap_terms.specs.Layout.{page_words}
use Rattle.copy_space.specs.declared.notes.Move.{Move}

-- the flag of a page; past the last page all are clear
abbrev pub held_at : List Bool → ℕ → Bool
held_at held page = slice_index_or held page false

-- whether one of some starts is on a page
abbrev pub is_pinned_on : List ℕ → ℕ → Bool
is_pinned_on pins page = list_any (λ index. index / page_words == page) pins

-- whether one of some moves is a stay on a page
abbrev pub is_stay_on : List Move → ℕ → Bool
is_stay_on moves page = list_any (λ (m : Move). (m.old == m.new) && (m.old / page_words == page)) moves
