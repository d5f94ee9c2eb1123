-- An object with a header: it is read, placed and copied, or it stays.
use Rattle.std.proofs.Common.{◌≡◌, ℕ, ◌+◌, ◌≤◌, ◌⊎◌, sym, ◌∙◌, ap, subst, length, set, arith}
use Rattle.heap_terms.specs.declared.kinds.Kind.{Kind}
use Rattle.heap_terms.specs.declared.limits.TheConstants.{MOST_ELEMENTS}
use Rattle.heap_terms.specs.Objects.{kind_of, payload_of}
use Rattle.copy_space.specs.State.{state}
use Rattle.copy_space.specs.Step.{CanPlace}
use Rattle.copy_space.proofs.Copies.{forwarded}
use Rattle.copy_space.proofs.Ready.{is-ready, header-there, headed-can, headed-inside, headed-fits, headed-moved, headed-stayed}
use Rattle.pass_laws.proofs.Sizes.{words_least}
use Rattle.copy_space.proofs.Settling.{it}
use Rattle.copy_space.proofs.copier.Copier.settle_headed.Goals as goal

pub header_at-kind-requires-clause-header : goal.header_at-kind-requires-clause-header
header_at-kind-requires-clause-header g c =
    let s = state c.args.self.now in
    let o = (it g.a s c.args.index c.requires.tag c.args.word c.requires.can).start.o in
    (kind_of o.contents, payload_of o.contents, header-there g.a s c.args.index c.requires.tag c.args.word c.requires.can c.requires.headed)

pub size_of-size-requires : goal.size_of-size-requires
size_of-size-requires g c =
    let s = state c.args.self.now in
    let o = (it g.a s c.args.index c.requires.tag c.args.word c.requires.can).start.o in
    let header = header-there g.a s c.args.index c.requires.tag c.args.word c.requires.can c.requires.headed in
    let found = c.header_at-kind.ensures (kind_of o.contents) (payload_of o.contents) header in
    subst (λ (n : ℕ). n ≤ MOST_ELEMENTS) (sym (ap (λ (k : Kind × ℕ). k.1) found)) header.most

pub place-requires : goal.place-requires
place-requires g c =
    let s = state c.args.self.now in
    let o = (it g.a s c.args.index c.requires.tag c.args.word c.requires.can).start.o in
    let header = header-there g.a s c.args.index c.requires.tag c.args.word c.requires.can c.requires.headed in
    let found = c.header_at-kind.ensures (kind_of o.contents) (payload_of o.contents) header in
    subst (λ (n : ℕ). CanPlace s.pages s.in_use n) (sym c.size_of-size.ensures)
    (headed-can g.a s c.args.index c.requires.tag c.args.word c.requires.can c.header_at-kind.result.0 c.header_at-kind.result.1
    (ap (λ (k : Kind × ℕ). k.0) found) (ap (λ (k : Kind × ℕ). k.1) found))

pub copy-requires-clause-from_within : goal.copy-requires-clause-from_within
copy-requires-clause-from_within g c =
    let s = state c.args.self.now in
    let o = (it g.a s c.args.index c.requires.tag c.args.word c.requires.can).start.o in
    let header = header-there g.a s c.args.index c.requires.tag c.args.word c.requires.can c.requires.headed in
    let found = c.header_at-kind.ensures (kind_of o.contents) (payload_of o.contents) header in
    subst (λ (n : ℕ). c.args.index + n ≤ length s.words) (sym c.size_of-size.ensures)
    (headed-inside g.a s c.args.index c.requires.tag c.args.word c.requires.can c.header_at-kind.result.0 c.header_at-kind.result.1
    (ap (λ (k : Kind × ℕ). k.0) found) (ap (λ (k : Kind × ℕ). k.1) found))

pub copy-requires-clause-to_within : goal.copy-requires-clause-to_within
copy-requires-clause-to_within g c =
    let s = state c.args.self.now in
    let o = (it g.a s c.args.index c.requires.tag c.args.word c.requires.can).start.o in
    let header = header-there g.a s c.args.index c.requires.tag c.args.word c.requires.can c.requires.headed in
    let found = c.header_at-kind.ensures (kind_of o.contents) (payload_of o.contents) header in
    let fits = headed-fits g.a s c.args.index c.requires.tag c.args.word c.requires.can c.header_at-kind.result.0 c.header_at-kind.result.1
    (ap (λ (k : Kind × ℕ). k.0) found) (ap (λ (k : Kind × ℕ). k.1) found) c.in-Some.to c.place.new.pages c.place.new.in_use
    (rw (c.in-Some.is, c.page_type.ensures, c.size_of-size.ensures) at c.place.ensures.step) in
    subst (λ (n : ℕ). c.in-Some.to + n ≤ length s.words) (sym c.size_of-size.ensures) fits.inside

pub copy-requires-clause-apart : goal.copy-requires-clause-apart
copy-requires-clause-apart g c =
    let s = state c.args.self.now in
    let o = (it g.a s c.args.index c.requires.tag c.args.word c.requires.can).start.o in
    let header = header-there g.a s c.args.index c.requires.tag c.args.word c.requires.can c.requires.headed in
    let found = c.header_at-kind.ensures (kind_of o.contents) (payload_of o.contents) header in
    let fits = headed-fits g.a s c.args.index c.requires.tag c.args.word c.requires.can c.header_at-kind.result.0 c.header_at-kind.result.1
    (ap (λ (k : Kind × ℕ). k.0) found) (ap (λ (k : Kind × ℕ). k.1) found) c.in-Some.to c.place.new.pages c.place.new.in_use
    (rw (c.in-Some.is, c.page_type.ensures, c.size_of-size.ensures) at c.place.ensures.step) in
    subst (λ (n : ℕ). (c.args.index + n ≤ c.in-Some.to) ⊎ (c.in-Some.to + n ≤ c.args.index)) (sym c.size_of-size.ensures) fits.apart

pub forward-requires-clause-inside : goal.forward-requires-clause-inside
forward-requires-clause-inside g c =
    let s = state c.args.self.now in
    let ready = is-ready g.a s c.args.index c.requires.tag c.args.word c.requires.can in
    let inside = ready.inside in
    let least = words_least (it g.a s c.args.index c.requires.tag c.args.word c.requires.can).start.o in
    let long = c.copy.ensures.len in
    omega arith

pub forward-requires-clause-small : goal.forward-requires-clause-small
forward-requires-clause-small g c =
    let s = state c.args.self.now in
    let small = (is-ready g.a s c.args.index c.requires.tag c.args.word c.requires.can).small in
    let long = c.copy.ensures.len in
    omega arith

pub push_reserved-requires : goal.push_reserved-requires
push_reserved-requires g c =
    omega (arith, (is-ready g.a (state c.args.self.now) c.args.index c.requires.tag c.args.word c.requires.can).push, c.args.self.now.notes.now.moves.ok.0)

pub push_reserved-requires-in-None : goal.push_reserved-requires-in-None
push_reserved-requires-in-None g c =
    omega (arith, (is-ready g.a (state c.args.self.now) c.args.index c.requires.tag c.args.word c.requires.can).push, c.args.self.now.notes.now.moves.ok.0)

pub returns-in-Some-clause-evacuates : goal.returns-in-Some-clause-evacuates
returns-in-Some-clause-evacuates g c =
    let s = state c.args.self.now in
    let o = (it g.a s c.args.index c.requires.tag c.args.word c.requires.can).start.o in
    let header = header-there g.a s c.args.index c.requires.tag c.args.word c.requires.can c.requires.headed in
    let found = c.header_at-kind.ensures (kind_of o.contents) (payload_of o.contents) header in
    let words : c.forward.new.space ≡ forwarded s.words c.args.index c.in-Some.to c.size_of-size.result c.tag-moved.result =
    c.forward.ensures ∙ ap (λ ws. set (set ws c.args.index 1) (c.args.index + 1) c.tag-moved.result) c.copy.ensures.words in
    rw (c.push_reserved.ensures.items, c.push_reserved.ensures.capacity, c.set.ensures, words, c.size_of-size.ensures)
    (headed-moved g.a s c.args.index c.requires.tag c.args.word c.requires.can c.header_at-kind.result.0 c.header_at-kind.result.1
    (ap (λ (k : Kind × ℕ). k.0) found) (ap (λ (k : Kind × ℕ). k.1) found) c.in-Some.to c.tag-moved.result c.place.new.pages c.place.new.in_use
    (rw (c.in-Some.is, c.page_type.ensures, c.size_of-size.ensures) at c.place.ensures.step) c.tag-moved.ensures)

pub returns-in-None-clause-evacuates : goal.returns-in-None-clause-evacuates
returns-in-None-clause-evacuates g c =
    let s = state c.args.self.now in
    let o = (it g.a s c.args.index c.requires.tag c.args.word c.requires.can).start.o in
    let header = header-there g.a s c.args.index c.requires.tag c.args.word c.requires.can c.requires.headed in
    let found = c.header_at-kind.ensures (kind_of o.contents) (payload_of o.contents) header in
    rw (c.push_reserved-in-None.ensures.items, c.push_reserved-in-None.ensures.capacity, c.set-in-None.ensures)
    (headed-stayed g.a s c.args.index c.requires.tag c.args.word c.requires.can c.header_at-kind.result.0 c.header_at-kind.result.1
    (ap (λ (k : Kind × ℕ). k.0) found) (ap (λ (k : Kind × ℕ). k.1) found) c.place.new.pages c.place.new.in_use
    (rw (c.in-None.is, c.page_type.ensures, c.size_of-size.ensures) at c.place.ensures.step))
