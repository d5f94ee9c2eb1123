use Rattle.std.proofs.Common.{◌≡◌, List, ℕ, length, take, sym, subst}
use lib.Pointwise.{bytes_decides}
use Rattle.script_text.proofs.Spelled.{spelled_taken}
use Rattle.script_text.proofs.words.plain_word.Goals as goal

pub returns : goal.returns
returns g c =
    let rest = c.args.rest.now in
    let word = c.as_slice.result.now in
    let same : take (length word) rest ≡ word = (bytes_decides (take (length word) rest) word).0 c.in_ok-strip_prefix.ensures.cases.0 in
    let here : take (length c.args.spelled.now) rest ≡ c.args.spelled.now =
    subst (λ (w : List ℕ). take (length w) rest ≡ w) c.as_slice.ensures same in
    spelled_taken rest c.args.spelled.now c.split_at.result.1.now g.row.N c.requires (sym c.told-spelled) here c.split_at.ensures.back
