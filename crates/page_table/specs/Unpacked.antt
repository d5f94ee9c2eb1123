-- What an entry of eight bytes says.
use Rattle.std.specs.Prelude.{◌≡◌, ℕ, List, map, length, ◌≤◌, true}
use Rattle.heap_terms.specs.declared.kinds.PageType.{PageType}
use Rattle.heap_terms.specs.declared.kinds.PageType.TheVariants as types
use Rattle.heap_terms.specs.declared.pages.Entry.{Entry}
use Rattle.heap_terms.specs.declared.pages.Entry.TheVariants as entries
use Rattle.heap_terms.specs.declared.limits.TheConstants.{MOST_PAGES}
use Rattle.heap_terms.specs.Heap.{entry_at}
use Rattle.heap_terms.specs.Regions.{is_free}
use Rattle.page_table.specs.declared.packed.Holds.{Holds}
use Rattle.page_table.specs.declared.packed.Holds.TheVariants as holds
use Rattle.page_table.specs.declared.packed.Packed.{Packed}

-- what a page of a type holds
abbrev pub holding : PageType → Holds
holding types.Cons = holds.Conses
holding types.Boxed = holds.Boxed
holding types.Unboxed = holds.Unboxed

-- an entry by what the page holds: where that is nothing the page is free
abbrev pub entry_with : Holds → ℕ → ℕ → ℕ → ℕ → Entry
entry_with holds.Nothing generation fill first pages = entries.Free
entry_with holds.Conses generation fill first pages = entries.Used types.Cons generation fill first pages
entry_with holds.Boxed generation fill first pages = entries.Used types.Boxed generation fill first pages
entry_with holds.Unboxed generation fill first pages = entries.Used types.Unboxed generation fill first pages

abbrev pub unpacked : Packed → Entry
unpacked p = entry_with p.holds p.generation p.fill p.run_first p.run_pages

-- the entries of a table
abbrev pub unpacked_all : List Packed → List Entry
unpacked_all ps = map unpacked ps

-- a table has 1 to 1,024 pages, and from the page `end` on all of them are free
pub record IsTable (ps : List Packed) (end : ℕ) : Type 0 where
  pub least : 1 ≤ length ps
  pub most : length ps ≤ MOST_PAGES
  pub inside : end ≤ length ps
  pub free : (p : ℕ) → end ≤ p → is_free (entry_at (unpacked_all ps) p) ≡ true
