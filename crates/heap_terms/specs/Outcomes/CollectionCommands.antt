-- The commands about collections: `gc`, `nogc`, `gcok`, `stat`. That `gc g` names the oldest generation that is
-- collected for certain is SBCL's; owed numbers and inhibit counts are this project's own. Nothing is left free.
use Rattle.std.specs.Prelude.{ℕ, ◌+◌, ◌-◌, ◌==◌, max, Option, Some, None, if◌then◌else◌, slice_index_or}
use Rattle.heap_terms.specs.declared.answers.Answer.TheVariants.{Stat}
use Rattle.heap_terms.specs.declared.answers.Refusal.TheVariants as refusals
use Rattle.heap_terms.specs.Generations.{allocated}
use Rattle.heap_terms.specs.Heap.{NamedHeap, thread_at, with_thread}
use Rattle.heap_terms.specs.Outcome.{Outcome, done, answering, refused}

-- what a thread owes once it owes generation g: the greater of what it was and g
abbrev pub owing : Option ℕ → ℕ → Option ℕ
owing None g = Some g
owing (Some last) g = Some (max last g)

-- `gc g`: the thread owes
abbrev pub asking : NamedHeap → ℕ → ℕ → Outcome
asking a t g = done (with_thread a t (record (thread_at a t) { owed = owing (thread_at a t).owed g }))

-- `nogc`: the inhibit count rises by one
abbrev pub inhibiting : NamedHeap → ℕ → Outcome
inhibiting a t = done (with_thread a t (record (thread_at a t) { inhibits = (thread_at a t).inhibits + 1 }))

-- `gcok`: it falls by one
abbrev pub allowing : NamedHeap → ℕ → Outcome
allowing a t =
    if (thread_at a t).inhibits == 0 then refused refusals.Nothing a
    else done (with_thread a t (record (thread_at a t) { inhibits = (thread_at a t).inhibits - 1 }))

-- `stat g`: the words of the objects of generation g, and its two numbers of the policy
abbrev pub counting_words : NamedHeap → ℕ → Outcome
counting_words a g = answering (Stat (allocated a g) (slice_index_or a.cum g 0) (slice_index_or a.num g 0)) a
