-- Which pages are of a generation.
use Rattle.std.specs.Prelude.{ℕ, ◌==◌, Bool, false}
use Rattle.heap_terms.specs.declared.pages.Entry.{Entry}
use Rattle.heap_terms.specs.declared.pages.Entry.TheVariants.{Free, Used}

-- whether a page is in use and of generation g
abbrev pub is_page_of : Entry → ℕ → Bool
is_page_of Free g = false
is_page_of (Used ty other fill first pages) g = other == g
