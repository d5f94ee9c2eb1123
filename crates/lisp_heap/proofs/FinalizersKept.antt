-- What stands for a heap's finalizers stands for those of another heap with the same finalizers.
use Rattle.std.proofs.Common.{◌≡◌, ℕ, ◌≤◌, List, [], ◌∷◌, length, not, arith, refl, sym, ◌∙◌, ap, ap₂, Option}
use Rattle.std.specs.Prelude.{All, IsSome}
use Rattle.std.proofs.lemmas.List.{length-map}
use Rattle.std.proofs.lemmas.List.Elements.{All-head, All-tail}
use Rattle.std.proofs.lemmas.List.Filters.{length-filter_both}
use Rattle.heap_terms.specs.declared.cells.Value.TheVariants.{Ref}
use Rattle.heap_terms.specs.Heap.{NamedHeap, object_at}
use Rattle.heap_terms.specs.declared.events.PassRecord.{PassRecord}
use Rattle.heap_terms.specs.Objects.{Object}
use Rattle.heap_terms.specs.Passes.{after_pass, remains}
use Rattle.heap_terms.specs.Survival.{registered}
use Rattle.heap_terms.specs.Sound.{IsFinalizer}
use Rattle.heap_terms.specs.Spelling.{word_of}
use Rattle.finalizers.specs.declared.lists.Registration.{Registration}
use Rattle.finalizers.specs.Lists.{Lists}
use Rattle.finalizers.specs.Standing.{FinalizersStand, registration_of, registrations}

pub FinalizersStand-same : (a b : NamedHeap) (f : Lists) → b.objects ≡ a.objects → b.finalizers ≡ a.finalizers → b.queue ≡ a.queue → FinalizersStand a f → FinalizersStand b f
FinalizersStand-same a b f objects finalizers queue s = record {
  registered = s.registered ∙ ap (λ (list : List (ℕ × ℕ)). registrations (λ name. word_of a.objects (Ref name)) list) (sym finalizers)
      ∙ ap (λ (os : List (Option Object)). registrations (λ name. word_of os (Ref name)) b.finalizers) (sym objects);
  queue = s.queue ∙ sym queue;
}

-- ---- the words of objects that are there are the same

same_words : (u w : ℕ → ℕ) (objects : List (Option Object)) (list : List (ℕ × ℕ)) → All (IsFinalizer objects) list →
    ((name : ℕ) → IsSome (object_at objects name) → u name ≡ w name) → registrations u list ≡ registrations w list
same_words u w objects [] all same = refl
same_words u w objects (entry ∷ list) all same =
    ap₂ (λ (word : ℕ) (rest : List Registration). record { object = word; id = entry.1 } ∷ rest) (same entry.0 (All-head (IsFinalizer objects) entry list all).there)
    (same_words u w objects list (All-tail (IsFinalizer objects) entry list all) same)

pub FinalizersStand-everywhere : (a b : NamedHeap) (f : Lists) → ((name : ℕ) → word_of b.objects (Ref name) ≡ word_of a.objects (Ref name)) →
    b.finalizers ≡ a.finalizers → b.queue ≡ a.queue → FinalizersStand a f → FinalizersStand b f
FinalizersStand-everywhere a b f same finalizers queue s =
    let words : (λ (name : ℕ). word_of a.objects (Ref name)) ≡ (λ (name : ℕ). word_of b.objects (Ref name)) = λ i name. sym (same name) i in
    record {
      registered = s.registered ∙ ap (λ (w : ℕ → ℕ). registrations w a.finalizers) words
          ∙ ap (λ (list : List (ℕ × ℕ)). registrations (λ name. word_of b.objects (Ref name)) list) (sym finalizers);
      queue = s.queue ∙ sym queue;
    }

pub FinalizersStand-words : (a b : NamedHeap) (f : Lists) → All (IsFinalizer a.objects) a.finalizers →
    ((name : ℕ) → IsSome (object_at a.objects name) → word_of b.objects (Ref name) ≡ word_of a.objects (Ref name)) →
    b.finalizers ≡ a.finalizers → b.queue ≡ a.queue → FinalizersStand a f → FinalizersStand b f
FinalizersStand-words a b f all same finalizers queue s = record {
  registered = s.registered ∙ sym (same_words (λ name. word_of b.objects (Ref name)) (λ name. word_of a.objects (Ref name)) a.objects a.finalizers all same)
      ∙ ap (λ (list : List (ℕ × ℕ)). registrations (λ name. word_of b.objects (Ref name)) list) (sym finalizers);
  queue = s.queue ∙ sym queue;
}

-- ---- a pass

-- as many as the heap has
pub registered_long : (a : NamedHeap) (f : Lists) → FinalizersStand a f → length f.registered ≡ length a.finalizers
registered_long a f s = ap length s.registered ∙ length-map a.finalizers (registration_of (λ name. word_of a.objects (Ref name)))

-- no more remain than were registered
pub registered_few : (a : NamedHeap) (r : PassRecord) (f g : Lists) → FinalizersStand a f → FinalizersStand (after_pass a r) g → length g.registered ≤ length f.registered
unfolding after_pass
registered_few a r f g s t =
    let both = length-filter_both (λ (entry : ℕ × ℕ). remains a r entry.0) (λ (entry : ℕ × ℕ). not (remains a r entry.0)) (λ entry. refl) a.finalizers in
    let before = ap length s.registered ∙ length-map a.finalizers (registration_of (λ name. word_of a.objects (Ref name))) in
    let after = ap length t.registered ∙ length-map (registered a (remains a r)) (registration_of (λ name. word_of (after_pass a r).objects (Ref name))) in
    omega arith
