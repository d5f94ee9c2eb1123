use Rattle.std.proofs.Common.{◌≡◌, ◌+◌, ◌-◌, length, take, drop, replicate, ap, ◌∙◌, arith}
use Rattle.std.proofs.lemmas.List.{length-take, length-drop}
use Rattle.std.proofs.Math.Nat.{add-sub_cancel_left}
use Rattle.page_table.proofs.RunSearch.{unpacked-run}
use Rattle.page_table.proofs.table.fill_run.Goals as goal

pub returns : goal.returns
returns c =
    let len : length (take (c.args.first + c.args.k - c.args.first) (drop c.args.first c.args.entries.now)) ≡ c.args.k =
    simp (length-take, length-drop) (omega (arith, c.requires.inside)) in
    unpacked-run _ _ _ _ _ _ _ (add-sub_cancel_left c.args.first c.args.k)
    (c.fill.ensures.after (λ y e. e) ∙ ap (λ n. replicate n c.empty-entry.result) len) c.empty-entry.ensures
