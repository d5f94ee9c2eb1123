-- What waited, and then all that is there.
use Rattle.std.proofs.Common.{◌≡◌, length, ◌∙◌, ap, arith, vec_len}
use Rattle.copy_space.specs.declared.notes.PassNotes.{PassNotes}
use Rattle.copy_space.specs.State.{state}
use Rattle.std.proofs.lemmas.Bool.{false≢true}
use Rattle.weak_refs.specs.Readying.{HasSameMoves}
use Rattle.weak_refs.proofs.Readies.{moves-longer, readies-on, ready-later}
use Rattle.weak_refs.proofs.readying.ready_entries.Goals as goal

pub ready_all-requires : goal.ready_all-requires
ready_all-requires g c = ready-later g.a (state c.args.copier.now) (state c.ready_waiting-whole.new.copier) c.args.weak.now.listed c.ready_waiting-whole.ensures.readies c.requires

pub returns-clause-readies : goal.returns-clause-readies
returns-clause-readies g c =
    readies-on g.a (state c.args.copier.now) (state c.ready_waiting-whole.new.copier) (state c.ready_all.new.copier) c.ready_waiting-whole.ensures.readies c.ready_all.ensures.readies

pub returns-then-whole : goal.returns-then-whole
returns-then-whole g c =
    let s = state c.args.copier.now in
    let t = state c.ready_waiting-whole.new.copier in
    let h = c.ready_waiting-whole.ensures.readies in
    let longer = moves-longer g.a s t h in
    let before : c.len-before.result ≡ length s.moves = c.len-before.ensures ∙ ap (λ (n : PassNotes). vec_len n.moves) c.notes.ensures ∙ c.args.copier.now.notes.now.moves.ok.0 in
    let after : c.len.result ≡ length t.moves = c.len.ensures ∙ ap (λ (n : PassNotes). vec_len n.moves) c.notes-2.ensures ∙ c.ready_waiting-whole.new.copier.notes.now.moves.ok.0 in
    let test = c.if-len-before.false in
    let same : HasSameMoves s t = omega (arith, longer, before, after, test) in
    record {
      readies = h;
      grew = λ e. absurd (false≢true e);
      stayed = λ e. same;
      ready = λ e. c.ready_waiting-whole.ensures.ready c.if-whole.true same;
      same = c.ready_waiting-whole.ensures.same;
    }
