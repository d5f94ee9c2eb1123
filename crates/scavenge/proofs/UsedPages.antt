-- From where on all pages are free, nothing is of another generation.
use Rattle.std.proofs.Common.{◌≡◌, ◌≢◌, ℕ, ◌*◌, ◌/◌, ◌<◌, ◌≤◌, inl, inr, List, Some, true, false, refl, sym, ◌∙◌, ap, arith}
use Rattle.std.proofs.lemmas.Bool.{cases_lt, false≢true}
use Rattle.heap_terms.specs.declared.pages.Entry.{Entry}
use Rattle.heap_terms.specs.declared.pages.Entry.TheVariants.{Free, Used}
use Rattle.heap_terms.specs.Heap.{NamedHeap, object_at, entry_at}
use Rattle.heap_terms.specs.Objects.{Object}
use Rattle.heap_terms.specs.Regions.{is_free}
use Rattle.copy_space.specs.Midway.{Midway}
use Rattle.copy_space.specs.Pages.{is_page_of}
use Rattle.copy_space.specs.State.{CopyState}
use Rattle.copy_space.proofs.Referents.{its}
use Rattle.scavenge.specs.Noting.{IsDone}
use Rattle.scavenge.specs.Scanning.{Scans, OthersScanned}
use Rattle.scavenge.proofs.OlderPages.{begins_on}

pub free-other : (e : Entry) (g : ℕ) → is_free e ≡ true → is_page_of e g ≡ false
free-other Free g free = refl
free-other (Used ty k fill first n) g free = absurd (false≢true free)

module _ (a : NamedHeap) (s : CopyState) (h : Midway a s) (end : ℕ) (free : (p : ℕ) → end ≤ p → is_free (entry_at s.pages p) ≡ true) where
  -- the page on which an object begins is in use
  no_free : (name : ℕ) (o : Object) → object_at a.objects name ≡ Some o → is_free (entry_at s.pages (o.place / 512)) ≡ true → ⊥
  no_free name o there none =
      let b = begins_on a.pages o (h.places.sound.objects name o there).placed in
      let used : is_free (entry_at a.pages (o.place / 512)) ≡ false = ap is_free b.entry in
      elim ((its a s h.places).placing.fresh (o.place / 512)) [
        | inl same ↦ false≢true (sym used ∙ ap is_free (sym same) ∙ none)
        | inr taken ↦ false≢true (sym used ∙ ap is_free taken.0)
      ]

  pub begins-below : (name : ℕ) (o : Object) → object_at a.objects name ≡ Some o → o.place < 512 * end
  begins-below name o there = elim (cases_lt o.place (512 * end)) [
    | inl below ↦ below
    | inr above ↦ absurd (no_free name o there (free (o.place / 512) (omega (arith, above))))
  ]

  -- all pages below are walked
  pub others-below : (t : CopyState) (listed : List ℕ) (page : ℕ) → Scans a s t → end ≤ page →
      ((name : ℕ) (o : Object) → object_at a.objects name ≡ Some o → o.generation ≢ s.pass.generation → o.place < 512 * page → IsDone a t listed o) → OthersScanned a t listed
  others-below t listed page k all scanned = λ name o there apart.
      (let below = begins-below name o there in
      scanned name o there (λ same. apart (same ∙ sym (ap (λ p. p.generation) k.follows.grows.pass))) (omega (arith, below, all)))
