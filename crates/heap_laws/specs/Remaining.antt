-- How many events are left at most.
use Rattle.std.specs.Prelude.{ℕ, ◌+◌, ◌-◌, ◌*◌, length, drop, Option, Some, None, if◌then◌else◌, ◌==◌, count_by}
use Rattle.std.specs.List.{range_with_len, sum_by}
use Rattle.heap_terms.specs.declared.pages.Next.{Next}
use Rattle.heap_terms.specs.declared.pages.Next.TheVariants as nexts
use Rattle.heap_terms.specs.declared.programs.Program.{Program}
use Rattle.heap_terms.specs.declared.limits.TheConstants.{MOST_COMMANDS, MOST_GCS, MOST_THREADS, MOST_TRIGGERS}
use Rattle.heap_terms.specs.Heap.{NamedHeap, thread_at}
use Rattle.heap_terms.specs.Histories.{script_of, next}
use Rattle.heap_terms.specs.Valid.{is_gc}

-- 1 for a region that is opened next
abbrev pub opens_next : Next → ℕ
opens_next nexts.Simple = 0
opens_next nexts.Open = 1
opens_next (nexts.Build kind n seed) = 0
opens_next (nexts.Collect last) = 0
opens_next nexts.End = 0
opens_next nexts.Done = 0

-- How many events thread t has left at most, but for collections and what they cost: its end, for each command that is left
-- the command and a region for it, and the region that it opens next. None once it has ended.
abbrev pub left : Program → NamedHeap → ℕ → ℕ
left p a t =
    if (thread_at a t).ended
    then 0
    else 1 + 2 * (length (script_of p t) - (thread_at a t).done) + opens_next (next p a t)

-- 1 for a collection that is owed
abbrev pub owes : Option ℕ → ℕ
owes None = 0
owes (Some last) = 1

-- how many collections thread t has left by its script: the one that it owes, and one for each `gc` that is left
abbrev pub collections_left : Program → NamedHeap → ℕ → ℕ
collections_left p a t =
    if (thread_at a t).ended then 0 else owes (thread_at a t).owed + count_by is_gc (drop (thread_at a t).done (script_of p t))

-- how many commits may still ask for one by `auto`
abbrev pub triggers_left : Program → NamedHeap → ℕ
triggers_left p a = if p.auto == 0 then 0 else MOST_TRIGGERS - a.triggered

-- a collection closes the regions of all threads, so that each of them may open one again
abbrev pub collection_weight : ℕ
collection_weight = 1 + MOST_THREADS

-- how many all threads have left
abbrev pub all_left : Program → NamedHeap → ℕ
all_left p a = collection_weight * triggers_left p a
    + sum_by (λ t. left p a t + collection_weight * collections_left p a t) (range_with_len 0 (length p.threads))

-- How many events a history of a program has at most: for each command itself and a region for it, for each thread its end
-- and a region that it opens for nothing, and the weight of each collection.
abbrev pub events_at_most : Program → ℕ
events_at_most p = 2 * sum_by length p.threads + 2 * length p.threads
    + collection_weight * (sum_by (count_by is_gc) p.threads + (if p.auto == 0 then 0 else MOST_TRIGGERS))

-- and of every program
abbrev pub most_events : ℕ
most_events = 2 * MOST_COMMANDS + 2 * MOST_THREADS + collection_weight * (MOST_GCS + MOST_TRIGGERS)
