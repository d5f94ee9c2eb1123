-- The counts of a script's commands, with one more command in the last thread.
use Rattle.std.proofs.Common.{◌≡◌, ◌+◌, ◌<◌, suc, cond, List, [], ◌∷◌, ◌++◌, length, refl, ap, arith, length-append}
use Rattle.std.specs.Prelude.{sum_by, count_by}
use Rattle.std.proofs.lemmas.List.Sums.{sum_by-append}
use Rattle.heap_terms.specs.declared.commands.Command.{Command}
use Rattle.heap_terms.specs.ScriptReading.{onto_last}
use Rattle.heap_terms.specs.Valid.{is_gc}

pub length-onto_last : (ts : List (List Command)) (c : Command) → length (onto_last ts c) ≡ length ts
length-onto_last [] c = refl
length-onto_last (t ∷ []) c = refl
length-onto_last (t ∷ u ∷ ts) c = ap suc (length-onto_last (u ∷ ts) c)

count_by-push : (cs : List Command) (c : Command) → count_by is_gc (cs ++ c ∷ []) ≡ count_by is_gc cs + cond (is_gc c) 1 0
count_by-push cs c = omega (arith, sum_by-append (λ (x : Command). cond (is_gc x) 1 0) cs (c ∷ []))

pub commands-onto_last : (ts : List (List Command)) (c : Command) → 0 < length ts → sum_by length (onto_last ts c) ≡ sum_by length ts + 1
commands-onto_last [] c some = absurd (omega arith)
commands-onto_last (t ∷ []) c some = omega (arith, length-append t (c ∷ []))
commands-onto_last (t ∷ u ∷ ts) c some =
    omega (arith, commands-onto_last (u ∷ ts) c (omega arith), sum_by-append length (t ∷ []) (u ∷ ts), sum_by-append length (t ∷ []) (onto_last (u ∷ ts) c))

pub gcs-onto_last : (ts : List (List Command)) (c : Command) → 0 < length ts → sum_by (count_by is_gc) (onto_last ts c) ≡ sum_by (count_by is_gc) ts + cond (is_gc c) 1 0
gcs-onto_last [] c some = absurd (omega arith)
gcs-onto_last (t ∷ []) c some = omega (arith, count_by-push t c)
gcs-onto_last (t ∷ u ∷ ts) c some =
    omega (arith, gcs-onto_last (u ∷ ts) c (omega arith), sum_by-append (count_by is_gc) (t ∷ []) (u ∷ ts), sum_by-append (count_by is_gc) (t ∷ []) (onto_last (u ∷ ts) c))

pub ruleset counted = (length-onto_last, commands-onto_last, gcs-onto_last)
