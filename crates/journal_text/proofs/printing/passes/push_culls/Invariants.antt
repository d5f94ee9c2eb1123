use Rattle.std.proofs.Common.{◌≡◌, ◌++◌, take, codes}
use Rattle.std.specs.List.{flat_map}
use Rattle.heap_terms.specs.declared.events.Cull.{Cull}
use Rattle.heap_terms.specs.Text.{field, line, name_text, value_text}
use Rattle.journal_text.proofs.printing.passes.push_culls.Given as goal

abbrev pub invariant-loop-cull : goal.invariant-loop-cull
invariant-loop-cull l = l.out.text ≡ l.initial.out.text ++ flat_map (λ (k : Cull). line (codes "cull" ++ field (name_text k.table) ++ field (value_text k.key) ++ field (value_text k.value))) (take l.cull-index l.culls)
