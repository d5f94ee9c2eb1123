use Rattle.std.proofs.Common.{refl}
use Rattle.heap_terms.specs.Policy.{is_raised, is_continued}
use Rattle.pass_laws.proofs.examples.age_decides.Goals as goal

pub returns : goal.returns
unfolding is_raised is_continued
returns c = record {
  goes_on = refl;
  too_young = refl;
  too_small = refl;
  not_raised = refl;
  asked_for = refl;
  raised_by_number = refl;
  not_yet = refl;
  raised_as_asked = refl;
  never_the_last = refl;
}
