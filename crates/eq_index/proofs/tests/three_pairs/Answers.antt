use Rattle.std.proofs.Common.{ℕ, List, sym, ◌∙◌, ap, subst}
use Rattle.std.specs.Prelude.{drop}
use Rattle.word_space.specs.Space.{written}
use Rattle.eq_index.specs.Tables.{HasTable}
use Rattle.eq_index.proofs.MadeTables.{has_three}
use Rattle.eq_index.proofs.tests.three_pairs.Goals as goal

pub returns-clause-table : goal.returns-clause-table
returns-clause-table c =
    subst (λ (words : List ℕ). HasTable words 0) (sym (c.write_all.ensures.words ∙ ap (written c.in_ok-space.space 0) c.as_slice.ensures))
    (has_three (drop 16 c.in_ok-space.space))
