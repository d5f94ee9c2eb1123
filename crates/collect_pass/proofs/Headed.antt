-- What survives of an object begins with the header of the object.
use Rattle.std.proofs.Common.{◌≡◌, ◌≢◌, ℕ, ◌+◌, Option, sym, ◌∙◌, ap, subst, List, arith}
use Rattle.std.specs.Prelude.{IfSome, slice_index}
use Rattle.heap_terms.specs.declared.kinds.Kind.{Kind}
use Rattle.heap_terms.specs.declared.kinds.Kind.TheVariants as kinds
use Rattle.heap_terms.specs.Layout.{header_of}
use Rattle.heap_terms.specs.Objects.{kind_of, payload_of}
use Rattle.heap_terms.specs.Slots.{Slot}
use Rattle.heap_terms.specs.Stands.{StandsFor}
use Rattle.heap_terms.specs.Survival.{surviving}
use Rattle.pass_laws.proofs.AfterPages.{surviving-kind, surviving-payload}
use Rattle.pass_laws.proofs.AfterPass.{IsShaped-surviving}
use Rattle.copy_space.specs.Moved.{new_of, objects_now}
use Rattle.copy_space.specs.Settled.{is_settled}
use Rattle.copy_space.specs.State.{CopyState}
use Rattle.copy_space.proofs.Shapes.{header_leads}
use Rattle.page_sweep.specs.Wiping.{AreHeaded}
use Rattle.trace_laws.specs.Rooted.{Rooted}
use Rattle.trace_laws.specs.Traced.{IsTraced}

pub all-headed : (h : Rooted) (s : CopyState) (exact : List ℕ) → IsTraced h s exact → AreHeaded h.heap s
all-headed h s exact t = λ name o there settled headed. (
    let live = is_settled h.heap s in
    let left = surviving live o.contents in
    let shape = IsShaped-surviving live o.contents (t.places.sound.objects name o there).shape in
    let none : new_of s.moves o.place + 0 ≡ new_of s.moves o.place = omega arith in
    let left_headed : kind_of left ≢ kinds.Cons = λ cons. headed (sym (surviving-kind live o.contents) ∙ cons) in
    let first : slice_index s.words (new_of s.moves o.place + 0) ≡ header_of (kind_of left) (payload_of left) =
    subst (λ (q : Option Slot). IfSome q (λ slot. StandsFor (objects_now h.heap s.moves) slot (slice_index s.words (new_of s.moves o.place + 0)))) (header_leads left shape left_headed)
    ((t.stands name o there settled).slots 0) in
    ap (λ (i : ℕ). slice_index s.words i) (sym none) ∙ first ∙ ap (λ (k : Kind). header_of k (payload_of left)) (surviving-kind live o.contents)
    ∙ ap (λ (p : ℕ). header_of (kind_of o.contents) p) (surviving-payload live o.contents))
