-- Finalizers that stand for those of a heap, around a pass.
use Rattle.std.proofs.Common.{◌≡◌, ℕ, ◌<◌, List, [], ◌∷◌, ◌++◌, length, Bool, true, inl, inr, refl, sym, ◌∙◌, ap, ap₂}
use Rattle.std.proofs.lemmas.Bool.{cases_Bool}
use Rattle.std.proofs.lemmas.List.{length-map, get_or-map}
use Rattle.std.proofs.lemmas.List.Elements.{All-get_or}
use Rattle.heap_terms.specs.declared.cells.Value.{Value}
use Rattle.heap_terms.specs.declared.cells.Value.TheVariants.{Ref}
use Rattle.heap_terms.specs.declared.events.PassRecord.{PassRecord}
use Rattle.heap_terms.specs.Heap.{NamedHeap}
use Rattle.heap_terms.specs.Live.{is_live}
use Rattle.heap_terms.specs.Passes.{after_pass, remains}
use Rattle.heap_terms.specs.Sound.{IsFinalizer}
use Rattle.heap_terms.specs.Spelling.{word_of}
use Rattle.heap_terms.specs.Survival.{queued_of}
use Rattle.copy_space.specs.Midway.{IsPlacedSoFar}
use Rattle.copy_space.specs.Settled.{is_settled, word_now}
use Rattle.copy_space.specs.State.{CopyState}
use Rattle.finalizers.specs.declared.lists.Registration.{Registration}
use Rattle.finalizers.specs.Lists.{Lists, registration_at, no_registration}
use Rattle.finalizers.specs.Standing.{FinalizersStand, registrations, registration_of}
use Rattle.finalizers.specs.Sweeping.{AreWordsOf, IsSwept, living, dead_ids, pair_at}

-- registrations made from a list, place by place
registration-is : (w : ℕ → ℕ) (list : List (ℕ × ℕ)) (i : ℕ) → i < length list → registration_at (registrations w list) i ≡ registration_of w (pair_at list i)
registration-is w list i h = get_or-map (registration_of w) list i (0, 0) no_registration h

-- before tracing ends each registration has a word of its object
pub stand-words : (a : NamedHeap) (s : CopyState) (f : Lists) → IsPlacedSoFar a s → FinalizersStand a f → AreWordsOf a s a.finalizers f.registered
stand-words a s f h stand = record {
  long = ap length stand.registered ∙ length-map a.finalizers (registration_of (λ name. word_of a.objects (Ref name)));
  words = λ i inside. record { living = (All-get_or (IsFinalizer a.objects) a.finalizers i (0, 0) inside h.sound.finalizers).there; either = inl (ap (λ (r : Registration). r.object) (here i inside)) };
  ids = λ i inside. ap (λ (r : Registration). r.id) (here i inside);
}
  where
    here : (i : ℕ) → i < length a.finalizers → registration_at f.registered i ≡ registration_of (λ name. word_of a.objects (Ref name)) (pair_at a.finalizers i)
    here i inside = ap (λ (xs : List Registration). registration_at xs i) stand.registered ∙ registration-is (λ name. word_of a.objects (Ref name)) a.finalizers i inside

-- words of names that only differ for names that are not live
reworded : (live : ℕ → Bool) (u w : ℕ → ℕ) → ((name : ℕ) → live name ≡ true → u name ≡ w name) → (list : List (ℕ × ℕ)) → registrations u (living live list) ≡ registrations w (living live list)
reworded live u w same [] = refl
reworded live u w same (entry ∷ list) = elim (cases_Bool (live entry.0)) [
  | inl alive ↦ rw alive (ap₂ (λ (word : ℕ) (rest : List Registration). record { object = word; id = entry.1 } ∷ rest) (same entry.0 alive) (reworded live u w same list))
  | inr gone ↦ rw gone (reworded live u w same list)
]

-- after a pass whose record has the settled names and their words, finalizers that were swept stand for those of the heap after it
pub swept-stand : (a : NamedHeap) (s : CopyState) (r : PassRecord) (old new : Lists) → FinalizersStand a old → IsSwept a s a.finalizers old new →
    ((name : ℕ) → remains a r name ≡ is_settled a s name) → ((v : Value) → is_live (is_settled a s) v ≡ true → word_of (after_pass a r).objects v ≡ word_now a s v) →
    FinalizersStand (after_pass a r) new
unfolding after_pass
swept-stand a s r old new stand swept same words =
    let live : remains a r ≡ is_settled a s = λ i name. same name i in
    record {
      registered = swept.registered
          ∙ reworded (is_settled a s) (λ name. word_now a s (Ref name)) (λ name. word_of (after_pass a r).objects (Ref name)) (λ name settled. sym (words (Ref name) settled)) a.finalizers
          ∙ ap (λ (l : ℕ → Bool). registrations (λ name. word_of (after_pass a r).objects (Ref name)) (living l a.finalizers)) (sym live);
      queue = swept.queue ∙ ap (λ (q : List ℕ). q ++ dead_ids (is_settled a s) a.finalizers) stand.queue ∙ ap (λ (l : ℕ → Bool). a.queue ++ dead_ids l a.finalizers) (sym live);
    }

-- and the ids that were noted are those that the definition queues
pub noted-ids : (a : NamedHeap) (s : CopyState) (r : PassRecord) → ((name : ℕ) → remains a r name ≡ is_settled a s name) → dead_ids (is_settled a s) a.finalizers ≡ queued_of a (remains a r)
noted-ids a s r same = (let live : remains a r ≡ is_settled a s = λ i name. same name i in ap (λ (l : ℕ → Bool). dead_ids l a.finalizers) (sym live))
