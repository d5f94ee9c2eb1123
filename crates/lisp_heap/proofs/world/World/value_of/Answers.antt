-- The value of a living value's word.
use Rattle.std.proofs.Common.{◌≡◌, ◌<◌, ◌/◌, length, subst, ap, ◌∙◌, sym, ℕ, get_or, refl}
use Rattle.std.proofs.lemmas.List.{get_or_default}
use Rattle.heap_terms.specs.declared.cells.Value.{Value}
use Rattle.heap_terms.specs.declared.cells.Value.TheVariants.{Ref, Nil}
use Rattle.heap_terms.specs.WellFormed.{IsLiving}
use Rattle.heap_terms.specs.Spelling.{word_of}
use Rattle.lisp_heap.specs.LivingWords.{IsWord}
use Rattle.lisp_heap.specs.WorldSound.{view_of}
use Rattle.lisp_heap.specs.View.{View, heap_of}
use Rattle.lisp_heap.proofs.Referring.{found_at, nil_at, label_is, label_there}
use Rattle.lisp_heap.proofs.world.World.value_of.Goals as goal

pub at-requires : goal.at-requires
at-requires c =
    let word : IsWord (heap_of (view_of c.self.inside)) c.args.word =
    subst (λ (w : View). IsWord (heap_of w) c.args.word) (sym c.self.view_is) c.requires in
    let f = found_at c.self.inside c.self.invariant word.value c.args.word c.in-Some-untag.index c.in-Some-untag.field-0-1 word.living word.word_is
    c.in-Some-untag.ensures.tagged in
    subst (λ (n : ℕ). n / 2 < length c.self.inside.labels) (sym f.place) (label_there c.self.inside c.self.invariant f.name f.at_object)

pub returns-in-Some-untag : goal.returns-in-Some-untag
returns-in-Some-untag c =
    subst (λ (w : View). (v : Value) → IsLiving (heap_of w).objects v → c.args.word ≡ word_of (heap_of w).objects v → Ref c.at.result ≡ v) c.self.view_is
    (λ v living is. (
    let f = found_at c.self.inside c.self.invariant v c.args.word c.in-Some-untag.index c.in-Some-untag.field-0-1 living is
    c.in-Some-untag.ensures.tagged in
    let there = label_there c.self.inside c.self.invariant f.name f.at_object in
    let read : c.at.result ≡ get_or c.self.inside.labels (f.at_object.object.place / 2) c.at.result =
    c.at.ensures ∙ ap (λ (n : ℕ). get_or c.self.inside.labels (n / 2) c.at.result) f.place in
    ap Ref (read ∙ get_or_default c.self.inside.labels (f.at_object.object.place / 2) c.at.result 0 there
    ∙ label_is c.self.inside c.self.invariant f.name f.at_object) ∙ sym f.value_is))

pub returns-in-None : goal.returns-in-None
returns-in-None c =
    subst (λ (w : View). (v : Value) → IsLiving (heap_of w).objects v → c.args.word ≡ word_of (heap_of w).objects v → Nil ≡ v) c.self.view_is
    (λ v living is. nil_at c.self.inside c.self.invariant v c.args.word living is ((c.in_default.ensures.none).0 refl) (c.in-None.ensures.none refl))
