-- Which pages a pass holds: those of its generation in whose run something is pinned or stays. This project's own.
use Rattle.std.specs.Prelude.{ℕ, ◌==◌, ◌&&◌, ◌||◌, List, Bool, false, not, filter, length, map, if◌then◌else◌}
use Rattle.std.specs.List.{range_with_len}
use Rattle.heap_terms.specs.declared.pages.Entry.{Entry}
use Rattle.heap_terms.specs.declared.pages.Entry.TheVariants.{Free, Used}
use Rattle.heap_terms.specs.Heap.{entry_at}
use Rattle.heap_terms.specs.Placement.{scratch}
use Rattle.copy_space.specs.declared.notes.Move.{Move}
use Rattle.page_sweep.specs.Flags.{is_pinned_on, is_stay_on}

-- whether a pinned object, or one that stays, lies on the first page of a run
abbrev pub is_held : List ℕ → List Move → ℕ → Bool
is_held pins moves first = is_pinned_on pins first || is_stay_on moves first

-- whether the pass over a generation frees a page
abbrev pub is_freed : List ℕ → List Move → ℕ → Entry → Bool
is_freed pins moves generation Free = false
is_freed pins moves generation (Used ty g fill first pages) = (g == generation) && not (is_held pins moves first)

-- the pages that it frees, ascending
abbrev pub freed_pages : List ℕ → List Move → ℕ → List Entry → List ℕ
freed_pages pins moves generation pages = filter (λ page. is_freed pins moves generation (entry_at pages page)) (range_with_len 0 (length pages))

-- a page after the pass: free, or of the target generation where it was of the pass's or taken in it
abbrev pub swept_entry : List ℕ → List Move → ℕ → ℕ → Entry → Entry
swept_entry pins moves generation target Free = Free
swept_entry pins moves generation target (Used ty g fill first pages) =
    if is_freed pins moves generation (Used ty g fill first pages) then Free
    else Used ty (if (g == generation) || (g == scratch) then target else g) fill first pages

-- all pages after the pass
abbrev pub swept_pages : List ℕ → List Move → ℕ → ℕ → List Entry → List Entry
swept_pages pins moves generation target pages = map (swept_entry pins moves generation target) pages
