use Rattle.std.proofs.Common.{◌*◌, ℕ, List, length, ap, ◌∙◌}
use Rattle.std.proofs.lemmas.List.{length-replicate}
use Rattle.heap_terms.specs.Layout.{page_words}
use Rattle.word_space.proofs.space.Space.new.Goals as goal

-- src/space.rt:41:9
pub invariant_of-result : goal.invariant_of-result
invariant_of-result c = record {
  pages = c.args.pages;
  whole = ap (λ (k : List ℕ). length k) c.in_ok-words.ensures ∙ length-replicate (page_words * c.args.pages) 0;
  least = c.requires.least;
  most = c.requires.most;
}
