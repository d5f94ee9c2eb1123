use Rattle.std.proofs.Common.{◌≡◌, List, ℕ, ◌++◌, length, take, sym, subst, ◌∙◌, take-append-drop}
use lib.Pointwise.{bytes_decides}
use Rattle.journal_text.proofs.parsing.plain.behind.Goals as goal

pub returns : goal.returns
returns g c =
    let bytes = c.args.bytes.now in
    let word = c.as_slice.result.now in
    let same : take (length word) bytes ≡ word = (bytes_decides (take (length word) bytes) word).0 c.in_ok-after.ensures.cases.0 in
    let whole : bytes ≡ word ++ c.in_ok-after.after.now = sym (take-append-drop (length word) bytes) ∙ (λ i. same i ++ sym c.in_ok-after.ensures.cases.1 i) in
    subst (λ (w : List ℕ). bytes ≡ w ++ c.in_ok-after.after.now) c.as_slice.ensures whole
