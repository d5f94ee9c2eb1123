-- Both sides are looked up.
use Rattle.std.proofs.Common.{◌≡◌, ◌+◌, set, false, inl, inr, sym, ◌∙◌, ap}
use Rattle.std.specs.Prelude.{slice_index}
use Rattle.copy_space.specs.State.{CopyState, state}
use Rattle.weak_refs.specs.Culling.{both_live}
use Rattle.weak_refs.proofs.Pairs.{kept-live, kept-dead, not-both, noted-so}
use Rattle.weak_refs.proofs.culling.keep_pair.Goals as goal
use Rattle.weak_refs.proofs.culling.keep_pair.Goals.{in_default-via-in-Some+in_default, in_default-via-in_default}

pub returns-in-Some-Some-clause-kept : goal.returns-in-Some-Some-clause-kept
returns-in-Some-Some-clause-kept g c = λ u v hu hv.
    (let s = state c.args.copier.now in
    let key_at : c.read-key.result ≡ slice_index s.words c.args.at = rw c.space.ensures at c.read-key.ensures in
    let value_at : c.read-value.result ≡ slice_index s.words (c.args.at + 1) = rw c.space-2.ensures at c.read-value.ensures in
    let key = sym c.in-Some-Some.is-0 ∙ c.word_now.ensures u (rw key_at hu) in
    let value = sym c.in-Some-Some.is-1 ∙ c.word_now-2.ensures v (rw value_at hv) in
    kept-live g.a s (state c.write-in-Some-Some.new.self) c.args.place c.args.at c.args.to u v c.args.copier.now.notes.now c.write-in-Some-Some.new.self.notes.now
    c.in-Some-Some.key_now c.in-Some-Some.value_now key value
    (c.write-in-Some-Some.ensures.words ∙ ap (λ (x : CopyState). record x { words = set x.words (c.args.to + 1) c.in-Some-Some.value_now }) c.write.ensures.words)
    (c.write-in-Some-Some.ensures.notes.culls ∙ c.write.ensures.notes.culls))

pub returns-in_default-clause-kept : goal.returns-in_default-clause-kept
returns-in_default-clause-kept g c = λ u v hu hv.
    (let s = state c.args.copier.now in
    let key_at : c.read-key.result ≡ slice_index s.words c.args.at = rw c.space.ensures at c.read-key.ensures in
    let value_at : c.read-value.result ≡ slice_index s.words (c.args.at + 1) = rw c.space-2.ensures at c.read-value.ensures in
    let key = c.word_now.ensures u (rw key_at hu) in
    let value = c.word_now-2.ensures v (rw value_at hv) in
    let dead : both_live g.a s u v ≡ false = elim c.in_default.branch [
      | in_default-via-in-Some+in_default w ↦ not-both g.a s u v c.word_now.result c.word_now-2.result key value (inr w.in_default.is-1)
      | in_default-via-in_default w ↦ not-both g.a s u v c.word_now.result c.word_now-2.result key value (inl w.in_default.is-0)
    ] in
    kept-dead g.a s (state c.note_cull.new.self) c.args.place c.args.at c.args.to u v c.args.copier.now.notes.now c.note_cull.new.self.notes.now dead c.note_cull.ensures.same
    (noted-so c.args.copier.now.notes.now c.note_cull.new.self.notes.now c.args.place c.read-key.result c.read-value.result (slice_index s.words c.args.at) (slice_index s.words (c.args.at + 1))
    key_at value_at c.note_cull.ensures.noted))
