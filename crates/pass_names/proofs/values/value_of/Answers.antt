-- The value of a living value's word.
use Rattle.std.proofs.Common.{◌<◌, ◌/◌, length, subst, ap, ◌∙◌, sym, ℕ, refl}
use Rattle.heap_terms.specs.declared.cells.Value.TheVariants.{Ref}
use Rattle.pass_names.proofs.Reading.{found_at, nil_at, label_read}
use Rattle.pass_names.proofs.values.value_of.Goals as goal

pub at-requires : goal.at-requires
at-requires c =
    let h = c.requires in
    let f = found_at h.heap c.args.labels.now h.labels_are h.value c.args.word c.in-Some-untag.index c.in-Some-untag.field-0-1 h.living h.word_is c.in-Some-untag.ensures.tagged in
    subst (λ (n : ℕ). n / 2 < length c.args.labels.now) (sym f.place) f.at_object.half

pub returns-in-Some-untag : goal.returns-in-Some-untag
returns-in-Some-untag c a v labelled living is =
    let f = found_at a c.args.labels.now labelled v c.args.word c.in-Some-untag.index c.in-Some-untag.field-0-1 living is c.in-Some-untag.ensures.tagged in
    ap Ref (c.at.ensures ∙ label_read a c.args.labels.now labelled f.name c.in-Some-untag.index c.at.result f.at_object.object f.at_object.there f.place) ∙ sym f.value_is

pub returns-in-None : goal.returns-in-None
returns-in-None c a v labelled living is =
    nil_at a c.args.labels.now labelled v c.args.word living is ((c.in_default.ensures.none).0 refl) (c.in-None.ensures.none refl)
