-- The label of an object is its name.
use Rattle.std.proofs.Common.{◌∙◌}
use Rattle.pass_names.proofs.Reading.{has_label, label_read}
use Rattle.pass_names.proofs.values.name_at.Goals as goal

pub at-requires : goal.at-requires
at-requires c = has_label c.args.labels.now c.args.index c.requires

pub returns : goal.returns
returns c a name o labelled there here = c.at.ensures ∙ label_read a c.args.labels.now labelled name c.args.index c.at.result o there here
