-- The roots after a pass: what is hit keeps its place, so the ambiguous words are as they were.
use Rattle.std.proofs.Common.{◌≡◌, ℕ, suc, ◌<◌, List, [], ◌∷◌, ◌++◌, map, length, get_or, Option, Some, None, true, inl, inr, refl, sym, ◌∙◌, ap, arith}
use Rattle.std.proofs.lemmas.Bool.{cases_Bool, false≢true, and_from, eqb-true}
use Rattle.std.specs.Prelude.{IsSome, flat_map, unwrap_or, ◌==◌}
use Rattle.heap_terms.specs.declared.cells.Value.{Value}
use Rattle.heap_terms.specs.declared.cells.Value.TheVariants as values
use Rattle.heap_terms.specs.declared.events.PassRecord.{PassRecord}
use Rattle.heap_terms.specs.declared.events.Placing.{Placing}
use Rattle.heap_terms.specs.declared.kinds.Kind.{Kind}
use Rattle.heap_terms.specs.Generations.{is_of}
use Rattle.heap_terms.specs.Heap.{NamedHeap, object_at, thread_at, zero_value, fresh_thread, ended_thread}
use Rattle.heap_terms.specs.Layout.{reference_word}
use Rattle.heap_terms.specs.Objects.{Object, kind_of}
use Rattle.heap_terms.specs.Passes.{IsPass, after_pass, remains, moved_to}
use Rattle.heap_terms.specs.Roots.{thread_words, ambiguous_words, is_hit, is_pinned}
use Rattle.heap_terms.specs.Sound.{IsSound}
use Rattle.heap_terms.specs.Spelling.{word_of, word_of_object}
use Rattle.heap_terms.specs.Survival.{surviving}
use Rattle.pass_laws.proofs.AfterPages.{object_at-after, surviving-kind}
use Rattle.pass_laws.proofs.AfterPass.{remains_after}
use Rattle.pass_laws.proofs.AfterRoots.{stack_hits}
use Rattle.pass_laws.proofs.Lookups.{found_at}
use Rattle.pass_laws.proofs.Spreading.{is_in, moved_to-none}

-- lists of what two functions make that agree at each element
pub map-same : {X Y : Type 0} (f g : X → Y) (xs : List X) (d : X) → ((i : ℕ) → i < length xs → f (get_or xs i d) ≡ g (get_or xs i d)) → map f xs ≡ map g xs
map-same f g [] d same = refl
map-same f g (x ∷ xs) d same =
    let here : f x ≡ g x = same 0 (omega arith) in
    let rest : map f xs ≡ map g xs = map-same f g xs d (λ i l. same (suc i) (omega arith)) in
    cc

flat-same : {X Y : Type 0} (f g : X → List Y) (xs : List X) (d : X) → ((i : ℕ) → i < length xs → f (get_or xs i d) ≡ g (get_or xs i d)) → flat_map f xs ≡ flat_map g xs
flat-same f g [] d same = refl
flat-same f g (x ∷ xs) d same =
    let here : f x ≡ g x = same 0 (omega arith) in
    let rest : flat_map f xs ≡ flat_map g xs = flat-same f g xs d (λ i l. same (suc i) (omega arith)) in
    cc

pub threads-after : (a : NamedHeap) (r : PassRecord) → (after_pass a r).threads ≡ a.threads
unfolding after_pass
threads-after a r = refl

pub shared-after : (a : NamedHeap) (r : PassRecord) → (after_pass a r).shared ≡ a.shared
unfolding after_pass
shared-after a r = refl

module _ (a : NamedHeap) (g target : ℕ) (r : PassRecord) (sound : IsSound a) (pass : IsPass a g target r) where
  -- what is hit does not move
  hit-unmoved : (x : ℕ) → is_hit a x ≡ true → moved_to r.moves x ≡ None
  hit-unmoved x hit = elim (cases_Bool (is_in r.moves x)) [
    | inr none ↦ moved_to-none r.moves x none
    | inl has ↦ (let found = found_at (λ (m : Placing). m.name == x) r.moves has in
        let d : Placing = record { name = 0; old = 0; new = None } in
        let named : (get_or r.moves found.0 d).name ≡ x = eqb-true (get_or r.moves found.0 d).name x (found.2 d) in
        let movable = pass.movable found.0 d found.1 in
        let of_it : is_of a g x ≡ true = ap (is_of a g) (sym named) ∙ movable.0 in
        let pinned : is_pinned a g x ≡ true = and_from (is_of a g x) (is_hit a x) of_it hit in
        absurd (false≢true (sym (ap (is_pinned a g) (sym named) ∙ movable.1) ∙ pinned)))
  ]

  -- so a value in a cell s has the word that it had
  stack-word : (t i : ℕ) (v : Value) → get_or (thread_at a t).stack i zero_value ≡ v → word_of (after_pass a r).objects v ≡ word_of a.objects v
  stack-word t i (values.Fix n) e = refl
  stack-word t i values.Nil e = refl
  stack-word t i values.Unbound e = refl
  stack-word t i (values.Ref x) e = go (object_at a.objects x) refl
    where
      go : (q : Option Object) → object_at a.objects x ≡ q → word_of_object (object_at (after_pass a r).objects x) ≡ word_of_object (object_at a.objects x)
      go None f = (let gone : object_at (after_pass a r).objects x ≡ None = object_at-after a r x ∙ (rw f refl) in rw (gone, f) refl)
      go (Some o) f =
          let there : IsSome (object_at a.objects x) = rw f refl in
          let hit = stack_hits a t i x there e in
          let then = remains_after a g target r sound pass x o f (pass.live.closed.hit x hit) in
          let place : unwrap_or (moved_to r.moves x) o.place ≡ o.place = ap (λ (to : Option ℕ). unwrap_or to o.place) (hit-unmoved x hit) in
          ap word_of_object then ∙ ap (λ (index : ℕ). reference_word index (kind_of (surviving (remains a r) o.contents))) place
          ∙ ap (λ (k : Kind). reference_word o.place k) (surviving-kind (remains a r) o.contents) ∙ sym (ap word_of_object f)

  pub ambiguous-after : ambiguous_words (after_pass a r) ≡ ambiguous_words a
  ambiguous-after = ap (flat_map (thread_words (after_pass a r).objects)) (threads-after a r) ∙ flat-same (thread_words (after_pass a r).objects) (thread_words a.objects) a.threads (ended_thread fresh_thread)
      (λ t l. ap (λ (ws : List ℕ). ws ++ (thread_at a t).raws ++ (thread_at a t).pins)
      (map-same (word_of (after_pass a r).objects) (word_of a.objects) (thread_at a t).stack zero_value (λ i m. stack-word t i (get_or (thread_at a t).stack i zero_value) refl)))
