-- The cells of all threads one after the other, as one list.
use Rattle.std.proofs.Common.{◌≡◌, ℕ, zero, suc, ◌+◌, ◌*◌, ◌/◌, ◌%◌, ◌<◌, List, [], ◌∷◌, ◌++◌, length, map, sym, ◌∙◌, ap, arith, get_or}
use Rattle.std.proofs.Math.Nat.{mul-suc}
use Rattle.std.proofs.lemmas.List.{length-append, length-map, get_or-map, get_or_append_left, get_or-append-add, ext_get_or}
use Rattle.std.proofs.lemmas.List.Elements.{All-head, All-tail}
use Rattle.std.specs.Prelude.{All, flat_map}
use Rattle.heap_terms.specs.Heap.{Thread}

module _ {X : Type 0} (each : ℕ) (part : Thread → List X) where
  -- every thread has so many
  abbrev pub HaveEach : List Thread → Type 0
  HaveEach ths = All (λ (th : Thread). length (part th) ≡ each) ths

  pub flat_long : (ths : List Thread) → HaveEach ths → length (flat_map part ths) ≡ each * length ths
  flat_long [] h = omega arith
  flat_long (th ∷ ths) h =
      let rest = flat_long ths (All-tail (λ (th : Thread). length (part th) ≡ each) th ths h) in
      let first = All-head (λ (th : Thread). length (part th) ≡ each) th ths h in
      omega (arith, length-append (part th) (flat_map part ths), rest, first, mul-suc each (length ths))

  -- cell i of thread t
  pub flat_at : (ths : List Thread) (t i : ℕ) (d : Thread) (z : X) → HaveEach ths → t < length ths → i < each →
      get_or (flat_map part ths) (each * t + i) z ≡ get_or (part (get_or ths t d)) i z
  flat_at [] t i d z h lt li = absurd (omega (arith, lt))
  flat_at (th ∷ ths) zero i d z h lt li =
      let first = All-head (λ (th : Thread). length (part th) ≡ each) th ths h in
      let at : each * 0 + i ≡ i = omega arith in
      ap (λ (k : ℕ). get_or (part th ++ flat_map part ths) k z) at ∙ get_or_append_left (part th) (flat_map part ths) z i (omega (arith, li, first))
  flat_at (th ∷ ths) (suc t) i d z h lt li =
      let first = All-head (λ (th : Thread). length (part th) ≡ each) th ths h in
      let at : each * suc t + i ≡ length (part th) + (each * t + i) = omega (arith, first, mul-suc each t) in
      ap (λ (k : ℕ). get_or (part th ++ flat_map part ths) k z) at ∙ get_or-append-add (part th) (flat_map part ths) (each * t + i) z
      ∙ flat_at ths t i d z (All-tail (λ (th : Thread). length (part th) ≡ each) th ths h) (omega (arith, lt)) li

  -- words that stand for all of them, thread by thread and cell by cell
  pub flat_words : (f : X → ℕ) (z : X) (d : Thread) (quotient rest : ℕ → ℕ) (ths : List Thread) (words : List ℕ) → HaveEach ths →
      ((n k : ℕ) → k < each * n → (k ≡ each * quotient k + rest k) × (quotient k < n) × (rest k < each)) →
      length words ≡ each * length ths →
      ((t i : ℕ) → t < length ths → i < each → get_or words (each * t + i) 0 ≡ f (get_or (part (get_or ths t d)) i z)) →
      words ≡ map f (flat_map part ths)
  flat_words f z d quotient rest ths words h split long at =
      ext_get_or 0 words (map f (flat_map part ths)) (long ∙ sym (flat_long ths h) ∙ sym (length-map (flat_map part ths) f)) (λ k l.
      (let parts = split (length ths) k (omega (arith, l, long)) in
      let t = quotient k in
      let i = rest k in
      let inside : k < length (flat_map part ths) = omega (arith, l, long, flat_long ths h) in
      ap (λ (x : ℕ). get_or words x 0) parts.0 ∙ at t i parts.1 parts.2
      ∙ ap f (sym (flat_at ths t i d z h parts.1 parts.2)) ∙ ap (λ (x : ℕ). f (get_or (flat_map part ths) x z)) (sym parts.0)
      ∙ sym (get_or-map f (flat_map part ths) k z 0 inside)))

pub sixteenth : (n k : ℕ) → k < 16 * n → (k ≡ 16 * (k / 16) + k % 16) × (k / 16 < n) × (k % 16 < 16)
sixteenth n k l = (omega arith, omega (arith, l), omega arith)

pub eighth : (n k : ℕ) → k < 8 * n → (k ≡ 8 * (k / 8) + k % 8) × (k / 8 < n) × (k % 8 < 8)
eighth n k l = (omega arith, omega (arith, l), omega arith)
