-- One entry in k places, and another one after them.
use Rattle.std.proofs.Common.{◌≡◌, ◌+◌, ◌-◌, length, take, drop, replicate, set, ap, ◌∙◌, arith}
use Rattle.std.proofs.lemmas.List.{length-take, length-drop, length-set}
use Rattle.page_table.proofs.RunSearch.{unpacked-last}
use Rattle.page_table.proofs.table.write_run.Goals as goal

pub returns : goal.returns
returns c =
    let written = set c.args.entries.now (c.args.first + c.args.k) c.args.rest in
    let len : length (take (c.args.first + c.args.k - c.args.first) (drop c.args.first written)) ≡ c.args.k =
    simp (length-take, length-drop, length-set) (omega (arith, c.requires.inside)) in
    unpacked-last c.args.entries.now c.args.first c.args.k (c.args.first + c.args.k - c.args.first) c.args.full c.args.rest c.fill.new.self (omega arith) c.requires.inside
    (c.fill.ensures.after (λ y e. e) ∙ ap (λ n. replicate n c.args.full) len)
