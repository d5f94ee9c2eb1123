-- One exact root after another.
use Rattle.std.proofs.Common.{◌≡◌, ℕ, ◌+◌, ◌<◌, ◌≤◌, List, length, get_or, set, true, ◌⊎◌, inl, inr, refl, sym, ◌∙◌, ap, subst, arith}
use Rattle.std.proofs.lemmas.Bool.{cases_eq}
use Rattle.std.proofs.lemmas.List.{length-set, length-map, get_or-map, get_or-set_same, get_or-set_other}
use Rattle.std.specs.Prelude.{slice_index, slice_index_or}
use Rattle.heap_terms.specs.declared.cells.Value.{Value}
use Rattle.heap_terms.specs.declared.cells.Value.TheVariants as values
use Rattle.heap_terms.specs.Heap.{zero_value}
use Rattle.heap_terms.specs.Living.{IsLiving, IsLivingOrUnbound}
use Rattle.pass_laws.specs.Reached.{HasName}
use Rattle.copy_space.specs.Copying.{CanEvacuate, Evacuates}
use Rattle.copy_space.specs.Frames.{Goes}
use Rattle.copy_space.specs.Midway.{Midway}
use Rattle.copy_space.specs.Settled.{is_settled, word_before, IsNewWord, IsWordOf}
use Rattle.copy_space.specs.State.{CopyState}
use Rattle.copy_space.proofs.FrameLaws.{Goes-same, Goes-on, new-word-stays}
use Rattle.trace_laws.specs.Rooted.{Rooted}
use Rattle.collect_pass.specs.Evacuated.{CanEvacuateRoots, AreEvacuated}

-- the first n exact roots are evacuated
pub record AreEvacuatedUpTo (h : Rooted) (s t : CopyState) (before exact : List ℕ) (n : ℕ) : Type 0 where
  pub midway : Midway h.heap t
  pub goes : Goes h.heap s t
  pub long : length exact ≡ length before
  pub done : (i : ℕ) → i < n → IsNewWord h.heap t (slice_index_or h.values i zero_value) (slice_index exact i)
  pub rest : (i : ℕ) → n ≤ i → slice_index exact i ≡ slice_index before i
  pub only : (name : ℕ) → is_settled h.heap t name ≡ true → (is_settled h.heap s name ≡ true) ⊎ HasName h.values name

living-bound : (h : Rooted) (v : Value) → IsLiving h.heap.objects v → IsLivingOrUnbound h.heap.objects v
living-bound h (values.Fix n) l = l
living-bound h values.Nil l = tt
living-bound h values.Unbound l = absurd l
living-bound h (values.Ref x) l = l

module _ (h : Rooted) (s : CopyState) (before : List ℕ) (can : CanEvacuateRoots h s before) where
  long : length before ≡ length h.values
  long = ap length can.exact_are ∙ length-map h.values (word_before h.heap)

  pub none-evacuated : AreEvacuatedUpTo h s s before before 0
  none-evacuated = record {
    midway = can.midway;
    goes = Goes-same h.heap s;
    long = refl;
    done = λ i none. absurd (omega arith);
    rest = λ i from. refl;
    only = λ name settled. inl settled;
  }

  module _ (t : CopyState) (exact : List ℕ) (n : ℕ) (u : AreEvacuatedUpTo h s t before exact n) (below : n < length exact) where
    next-word : IsWordOf h.heap t (get_or h.values n zero_value) (slice_index exact n)
    next-word = record {
      living = living-bound h (get_or h.values n zero_value) (can.living n);
      either = inl (u.rest n (omega arith) ∙ ap (λ (ws : List ℕ). slice_index ws n) can.exact_are
          ∙ get_or-map (word_before h.heap) h.values n zero_value 0 (let l = long in let m = u.long in omega arith));
    }

    pub next-can : CanEvacuate h.heap t (slice_index exact n)
    next-can = record { midway = u.midway; value = get_or h.values n zero_value; is_word = next-word }

    pub one-evacuated : (v : CopyState) (result : ℕ) → Evacuates h.heap t v (slice_index exact n) result → AreEvacuatedUpTo h s v before (set exact n result) (n + 1)
    one-evacuated v result e =
        let its = e.each (get_or h.values n zero_value) next-word in
        record {
          midway = e.midway;
          goes = Goes-on h.heap s t v u.goes e.goes;
          long = length-set exact n result ∙ u.long;
          done = λ i less. (elim (cases_eq i n) [
            | inl same ↦ (let here : slice_index (set exact n result) i ≡ result = ap (slice_index (set exact n result)) same ∙ get_or-set_same exact n result 0 below in
                subst (λ (w : ℕ). IsNewWord h.heap v (get_or h.values i zero_value) w) (sym here)
                (subst (λ (j : ℕ). IsNewWord h.heap v (get_or h.values j zero_value) result) (sym same) its.answer))
            | inr apart ↦ subst (λ (w : ℕ). IsNewWord h.heap v (get_or h.values i zero_value) w) (sym (get_or-set_other exact n i result 0 apart))
                (new-word-stays h.heap t v e.goes.grows (get_or h.values i zero_value) (slice_index exact i) (u.done i (omega arith)))
          ]);
          rest = λ i from. get_or-set_other exact n i result 0 (λ same. omega (arith, same)) ∙ u.rest i (omega arith);
          only = λ name settled. (elim (its.only name settled) [
            | inl was ↦ u.only name was
            | inr is ↦ inr (n, is)
          ]);
        }

  pub all-evacuated : (t : CopyState) (exact : List ℕ) → AreEvacuatedUpTo h s t before exact (length exact) → AreEvacuated h s t exact
  all-evacuated t exact u = record { midway = u.midway; goes = u.goes; long = u.long ∙ long; each = u.done; only = u.only }
