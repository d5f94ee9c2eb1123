-- One registration more.
use Rattle.std.proofs.Common.{◌≡◌, ℕ, ◌<◌, List, ◌++◌, length, take, refl, sym, ◌∙◌, ap, subst, arith}
use Rattle.std.proofs.lemmas.List.{take_all}
use Rattle.copy_space.specs.Copying.{settled_word}
use Rattle.copy_space.specs.Midway.{IsPlacedSoFar}
use Rattle.copy_space.specs.Settled.{is_settled, IsWordOf, word_now}
use Rattle.copy_space.specs.State.{CopyState, state}
use Rattle.heap_terms.specs.declared.cells.Value.TheVariants.{Ref}
use Rattle.finalizers.specs.declared.lists.Registration.{Registration}
use Rattle.finalizers.specs.Lists.{Lists, registration_at}
use Rattle.finalizers.specs.Standing.{registrations}
use Rattle.finalizers.specs.Sweeping.{AreWordsOf, IsSweptAt, living, dead_ids, pair_at}
use Rattle.finalizers.proofs.Progress.{progress-none, progress-next, counts-next, queued-on, queued-same, parts-on, parts-same}
use Rattle.finalizers.proofs.lists.Finalizers.sweep.Goals as goal

pub loop-i-init : goal.loop-i-init
loop-i-init g c =
    let s = state c.args.copier.now in
    let noted = c.args.copier.now.notes.now.queued.items in
    rw (← c.self.view_is) (record {
      progress = λ list named. progress-none g.a s list c.self.inside.registered.items c.self.inside.queue.items noted;
      counts = record { long = refl; behind = omega arith; queue_long = refl; noted_long = refl };
      queue_room = refl;
      same = refl;
      room = refl;
      notes = queued-same c.args.copier.now.notes.now;
      parts = parts-same c.args.copier.now;
    })

pub sweep_at-kept-requires : goal.sweep_at-kept-requires
sweep_at-kept-requires g c =
    let s = state c.args.copier.now in
    let inv = c.loop-i.invariant in
    let list = c.requires.list in
    let named = c.requires.named in
    let long = named.long in
    let was = ap (λ (x : Lists). length x.registered) c.self.view_is in
    let waited = ap (λ (x : Lists). length x.queue) c.self.view_is in
    let counts = inv.counts in
    let queue_room = inv.queue_room in
    let room = inv.room in
    let inside : c.loop-i.i < length list = omega arith in
    let same : registration_at c.loop-i.self-inside.registered.items c.loop-i.i ≡ registration_at c.args.self.now.registered c.loop-i.i =
    (inv.progress list named).rest c.loop-i.i (omega arith) in
    let word = subst (λ (r : Registration). IsWordOf g.a s (Ref (pair_at list c.loop-i.i).0) r.object) (sym same) (named.words c.loop-i.i inside) in
    record {
      places = subst (λ (t : CopyState). IsPlacedSoFar g.a t) (sym inv.same) c.requires.places;
      value = Ref (pair_at list c.loop-i.i).0;
      is_word = subst (λ (t : CopyState). IsWordOf g.a t (Ref (pair_at list c.loop-i.i).0) (registration_at c.loop-i.self-inside.registered.items c.loop-i.i).object) (sym inv.same) word;
      inside = omega (arith, c.loop-i.self-inside.registered.ok, c.self.inside.registered.ok);
      behind = omega arith;
      queue_room = omega (arith, c.loop-i.self-inside.queue.ok, c.self.inside.queue.ok, c.self.inside.registered.ok);
      notes_room = omega (arith, c.loop-i.copier.notes.now.queued.ok, c.args.copier.now.notes.now.queued.ok);
    }

pub loop-i-preserved : goal.loop-i-preserved
loop-i-preserved g c =
    let s = state c.args.copier.now in
    let inv = c.loop-i.invariant in
    let e = c.sweep_at-kept.ensures in
    let was = ap (λ (x : Lists). length x.registered) c.self.view_is in
    let step : (list : List (ℕ × ℕ)) → AreWordsOf g.a s list c.args.self.now.registered →
    IsSweptAt (settled_word g.a s (Ref (pair_at list c.loop-i.i).0)) (registration_at c.loop-i.self-inside.registered.items c.loop-i.i).id c.loop-i.kept
    c.loop-i.self-inside.registered.items c.sweep_at-kept.new.registered.items c.loop-i.self-inside.queue.items c.sweep_at-kept.new.queue.items
    c.loop-i.copier.notes.now.queued.items c.sweep_at-kept.new.copier.notes.now.queued.items c.sweep_at-kept.result =
    λ list named.
    (let long = named.long in
    let inside : c.loop-i.i < length list = omega (arith, c.self.inside.registered.ok) in
    let same : registration_at c.loop-i.self-inside.registered.items c.loop-i.i ≡ registration_at c.args.self.now.registered c.loop-i.i =
    (inv.progress list named).rest c.loop-i.i (omega arith) in
    let word = subst (λ (r : Registration). IsWordOf g.a s (Ref (pair_at list c.loop-i.i).0) r.object) (sym same) (named.words c.loop-i.i inside) in
    let there = subst (λ (t : CopyState). IsWordOf g.a t (Ref (pair_at list c.loop-i.i).0) (registration_at c.loop-i.self-inside.registered.items c.loop-i.i).object) (sym inv.same) word in
    subst (λ (t : CopyState). IsSweptAt (settled_word g.a t (Ref (pair_at list c.loop-i.i).0)) (registration_at c.loop-i.self-inside.registered.items c.loop-i.i).id c.loop-i.kept
    c.loop-i.self-inside.registered.items c.sweep_at-kept.new.registered.items c.loop-i.self-inside.queue.items c.sweep_at-kept.new.queue.items
    c.loop-i.copier.notes.now.queued.items c.sweep_at-kept.new.copier.notes.now.queued.items c.sweep_at-kept.result) inv.same (e.step (Ref (pair_at list c.loop-i.i).0) there)) in
    record {
      progress = λ list named.
          (let long = named.long in
          progress-next g.a s list c.loop-i.i c.loop-i.kept c.args.self.now.registered c.loop-i.self-inside.registered.items c.sweep_at-kept.new.registered.items
          c.args.self.now.queue c.loop-i.self-inside.queue.items c.sweep_at-kept.new.queue.items
          c.args.copier.now.notes.now.queued.items c.loop-i.copier.notes.now.queued.items c.sweep_at-kept.new.copier.notes.now.queued.items c.sweep_at-kept.result
          named (omega (arith, c.self.inside.registered.ok)) inv.counts (inv.progress list named) (step list named));
      counts = counts-next g.a s c.requires.list c.loop-i.i c.loop-i.kept c.args.self.now.registered c.loop-i.self-inside.registered.items c.sweep_at-kept.new.registered.items
          c.args.self.now.queue c.loop-i.self-inside.queue.items c.sweep_at-kept.new.queue.items
          c.args.copier.now.notes.now.queued.items c.loop-i.copier.notes.now.queued.items c.sweep_at-kept.new.copier.notes.now.queued.items c.sweep_at-kept.result
          (settled_word g.a s (Ref (pair_at c.requires.list c.loop-i.i).0)) (registration_at c.loop-i.self-inside.registered.items c.loop-i.i).id
          (omega (arith, c.self.inside.registered.ok)) inv.counts (step c.requires.list c.requires.named);
      queue_room = e.queue_room ∙ inv.queue_room;
      same = e.same ∙ inv.same;
      room = e.room ∙ inv.room;
      notes = queued-on c.args.copier.now.notes.now c.loop-i.copier.notes.now c.sweep_at-kept.new.copier.notes.now inv.notes e.notes;
      parts = parts-on c.args.copier.now c.loop-i.copier c.sweep_at-kept.new.copier inv.parts e.parts;
    }

pub invariant_of-self : goal.invariant_of-self
invariant_of-self g c =
    let was = ap (λ (x : Lists). length x.registered) c.self.view_is in
    let waited = ap (λ (x : Lists). length x.queue) c.self.view_is in
    let counts = c.loop-i.invariant.counts in
    let queue_room = c.loop-i.invariant.queue_room in
    let now = c.truncate.ensures.len in
    let ok1 = c.loop-i.self-inside.registered.ok in
    let ok2 = c.loop-i.self-inside.queue.ok in
    let ok3 = c.self.inside.registered.ok in
    let ok4 = c.self.inside.queue.ok in
    record {
      room = omega arith;
      few = omega arith;
    }

pub returns-clause-swept : goal.returns-clause-swept
returns-clause-swept g c = λ list named.
    (let s = state c.args.copier.now in
    let long = named.long in
    let was = ap (λ (x : Lists). length x.registered) c.self.view_is in
    let all : take c.loop-i.i list ≡ list = take_all c.loop-i.i list (omega arith) in
    let p = c.loop-i.invariant.progress list named in
    record {
      registered = c.truncate.ensures.items ∙ p.front ∙ ap (λ (xs : List (ℕ × ℕ)). registrations (λ name. word_now g.a s (Ref name)) (living (is_settled g.a s) xs)) all;
      queue = p.queue_is ∙ ap (λ (xs : List (ℕ × ℕ)). c.args.self.now.queue ++ dead_ids (is_settled g.a s) xs) all;
    })

pub returns-clause-noted : goal.returns-clause-noted
returns-clause-noted g c = λ list named.
    (let s = state c.args.copier.now in
    let long = named.long in
    let was = ap (λ (x : Lists). length x.registered) c.self.view_is in
    let all : take c.loop-i.i list ≡ list = take_all c.loop-i.i list (omega arith) in
    (c.loop-i.invariant.progress list named).noted_is ∙ ap (λ (xs : List (ℕ × ℕ)). c.args.copier.now.notes.now.queued.items ++ dead_ids (is_settled g.a s) xs) all)
