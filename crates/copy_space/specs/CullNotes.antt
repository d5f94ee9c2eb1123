-- What a pass notes of the pairs that it culls and of the weak pointers that it breaks: places and words before the pass.
-- The order of the tables and weak pointers is free; that of the pairs of a table is theirs.
use Rattle.std.specs.Prelude.{ℕ, List, map, filter, flat_map, Bool}
use Rattle.heap_terms.specs.declared.events.Cull.{Cull}
use Rattle.heap_terms.specs.Heap.{NamedHeap, object_at}
use Rattle.heap_terms.specs.Survival.{culls_in, breaks_in}
use Rattle.copy_space.specs.declared.notes.CullNote.{CullNote}
use Rattle.copy_space.specs.Settled.{word_before}
use Rattle.copy_space.specs.WeakNames.{place_before}

-- the note of a culled pair: where its table was before the pass, and the words of its sides before the pass
abbrev pub noted_cull : NamedHeap → Cull → CullNote
noted_cull a c = record { table = place_before a c.table; key = word_before a c.key; value = word_before a c.value }

-- the notes of the pairs that are culled from the tables of some names, table by table, in the order of the pairs
abbrev pub culled_of : NamedHeap → (ℕ → Bool) → List ℕ → List CullNote
culled_of a live names = map (noted_cull a) (flat_map (λ name. culls_in live name (object_at a.objects name)) names)

-- where the weak pointers of some names were before the pass that become broken
abbrev pub broken_of : NamedHeap → (ℕ → Bool) → List ℕ → List ℕ
broken_of a live names = map (place_before a) (filter (λ name. breaks_in live name (object_at a.objects name)) names)
