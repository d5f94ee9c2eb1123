-- What is put in is hit.
use Rattle.std.proofs.Common.{ℕ, sym, ◌∙◌, ap, eqb}
use Rattle.std.specs.List.{list_any}
use Rattle.ambiguous_roots.proofs.pins.pin_if_hit.Goals as goal

pub insert-requires : goal.insert-requires
insert-requires c = c.requires.small (ap (λ (word : ℕ). list_any (λ y. eqb y word) c.args.ambiguous.now) (sym c.tag.ensures) ∙ sym c.contains.ensures.value ∙ c.if-contains.true)
