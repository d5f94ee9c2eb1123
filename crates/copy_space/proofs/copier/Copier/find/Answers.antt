-- A word is looked up by its tag, its page and its mark.
use Rattle.std.proofs.Common.{◌≡◌, true, false, ◌⊎◌, inl, inr, refl, sym, ◌∙◌, ap, arith}
use Rattle.lisp_words.specs.Tagged.{IsTagged}
use Rattle.copy_space.specs.declared.marks.Mark.{Mark}
use Rattle.copy_space.specs.declared.marks.Mark.TheVariants as marks
use Rattle.copy_space.specs.Marks.{mark_at, is_set}
use Rattle.copy_space.specs.State.{state}
use Rattle.copy_space.proofs.Looking.{look-here, look-moved, look-unsettled, tagged_inside}
use Rattle.copy_space.proofs.Places.{page-count}
use Rattle.copy_space.proofs.Referents.{is_moved, out_of_generation, untagged}
use Rattle.copy_space.proofs.copier.Copier.find.Goals as goal

here : (m : Mark) → (m ≡ marks.Pinned) ⊎ (m ≡ marks.Stayed) → (is_set m ≡ true) × (is_moved m ≡ false)
here m (inl p) = (ap is_set p, ap is_moved p)
here m (inr q) = (ap is_set q, ap is_moved q)

pub is_of-requires : goal.is_of-requires
is_of-requires g c =
    let tagged : IsTagged c.args.word c.in-Some.index c.in-Some.lowtag = rw c.in-Some.is at c.untag.ensures.tagged in
    let inside = tagged_inside g.a (state c.args.self.now) c.requires.places c.requires.value c.args.word c.in-Some.index c.in-Some.lowtag c.requires.is_word tagged in
    let long = page-count g.a (state c.args.self.now) c.requires.places in
    omega arith

pub at-requires : goal.at-requires
at-requires g c =
    let tagged : IsTagged c.args.word c.in-Some.index c.in-Some.lowtag = rw c.in-Some.is at c.untag.ensures.tagged in
    let inside = tagged_inside g.a (state c.args.self.now) c.requires.places c.requires.value c.args.word c.in-Some.index c.in-Some.lowtag c.requires.is_word tagged in
    let long = c.requires.places.long in
    let marks_long = c.requires.places.marks_long in
    omega arith

pub returns-in_default : goal.returns-in_default
returns-in_default g c = λ v w. untagged g.a (state c.args.self.now) c.requires.places v c.args.word w (rw c.in_default.is at c.untag.ensures.none refl)

pub returns-then-not-is_of : goal.returns-then-not-is_of
returns-then-not-is_of g c = λ v w.
    (let tagged : IsTagged c.args.word c.in-Some.index c.in-Some.lowtag = rw c.in-Some.is at c.untag.ensures.tagged in
    out_of_generation g.a (state c.args.self.now) c.requires.places v c.args.word c.in-Some.index c.in-Some.lowtag w tagged (sym c.is_of.ensures ∙ c.if-not-is_of.true))

pub returns-in-Fresh : goal.returns-in-Fresh
returns-in-Fresh g c = λ v w.
    (let tagged : IsTagged c.args.word c.in-Some.index c.in-Some.lowtag = rw c.in-Some.is at c.untag.ensures.tagged in
    look-unsettled g.a (state c.args.self.now) c.requires.places v c.args.word c.in-Some.index c.in-Some.lowtag w tagged (sym c.is_of.ensures ∙ c.if-not-is_of.false)
    (sym c.at.ensures ∙ c.in-Fresh.is))

pub returns-in-Moved : goal.returns-in-Moved
returns-in-Moved g c = λ v w.
    (let tagged : IsTagged c.args.word c.in-Some.index c.in-Some.lowtag = rw c.in-Some.is at c.untag.ensures.tagged in
    rw c.read.ensures
    (look-moved g.a (state c.args.self.now) c.requires.places v c.args.word c.in-Some.index c.in-Some.lowtag w tagged (sym c.is_of.ensures ∙ c.if-not-is_of.false)
    (sym c.at.ensures ∙ c.in-Moved.is)))

pub returns-in-Pinned : goal.returns-in-Pinned
returns-in-Pinned g c = λ v w.
    (let tagged : IsTagged c.args.word c.in-Some.index c.in-Some.lowtag = rw c.in-Some.is at c.untag.ensures.tagged in
    let mark = here (mark_at c.args.self.now.marks.now c.in-Some.index) (elim c.in-Pinned.is [ inl p ↦ inl (sym c.at.ensures ∙ p) | inr q ↦ inr (sym c.at.ensures ∙ q) ]) in
    look-here g.a (state c.args.self.now) c.requires.places v c.args.word c.in-Some.index c.in-Some.lowtag w tagged (sym c.is_of.ensures ∙ c.if-not-is_of.false) mark.0 mark.1)
