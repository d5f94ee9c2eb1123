-- Marking pins one after the other.
use Rattle.std.proofs.Common.{◌≡◌, ◌≢◌, ℕ, ◌+◌, ◌*◌, ◌/◌, ◌%◌, ◌<◌, List, length, get_or, set, take, replicate, Bool, true, false, nat_eq, inl, inr, refl, sym, ◌∙◌, ap, arith}
use Rattle.std.proofs.lemmas.Bool.{cases_eq, cases_Bool, eq-eqb, ne_eqb, or_right}
use Rattle.std.proofs.lemmas.List.{get_or-set_same, get_or-set_other, get_or-replicate, get_or_default, length-replicate, same_lists}
use Rattle.std.proofs.lemmas.List.Folds.{list_any_more}
use Rattle.std.specs.List.{list_any}
use Rattle.std.specs.Prelude.{if◌then◌else◌, ◌||◌, ◌==◌}
use Rattle.copy_space.specs.declared.marks.Mark.{Mark}
use Rattle.copy_space.specs.declared.marks.Mark.TheVariants as marks
use Rattle.copy_space.specs.declared.notes.Move.{Move}
use Rattle.copy_space.specs.Marks.{mark_at}
use Rattle.copy_space.specs.Moved.{has_move, mark_for}

or_none : (b : Bool) → (b || false) ≡ b
or_none true = refl
or_none false = refl

pub marked-more : (m : Mark) (before ks : List Mark) (pins : List ℕ) (i pin : ℕ) → i < length pins → pin ≡ get_or pins i 0 → pin % 2 ≡ 0 → pin / 2 < length ks →
    ((j : ℕ) → mark_at ks (2 * j) ≡ (if list_any (nat_eq (2 * j)) (take i pins) then m else mark_at before (2 * j))) →
    (j : ℕ) → mark_at (set ks (pin / 2) m) (2 * j) ≡ (if list_any (nat_eq (2 * j)) (take (i + 1) pins) then m else mark_at before (2 * j))
marked-more m before ks pins i pin inside is even within all j =
    let more = list_any_more (nat_eq (2 * j)) pins i 0 inside in
    elim (cases_eq (2 * j) pin) [
      | inl same ↦ (let halves : (2 * j) / 2 ≡ pin / 2 = omega arith in
          let here : nat_eq (2 * j) (get_or pins i 0) ≡ true = eq-eqb (2 * j) (get_or pins i 0) (same ∙ is) in
          let any : list_any (nat_eq (2 * j)) (take (i + 1) pins) ≡ true = more ∙ or_right (list_any (nat_eq (2 * j)) (take i pins)) (nat_eq (2 * j) (get_or pins i 0)) here in
          ap (λ (k : ℕ). get_or (set ks (pin / 2) m) k marks.Fresh) halves ∙ get_or-set_same ks (pin / 2) m marks.Fresh within
          ∙ ap (λ (b : Bool). if b then m else mark_at before (2 * j)) (sym any))
      | inr apart ↦ (let halves : (2 * j) / 2 ≢ pin / 2 = λ same. apart (omega arith) in
          let here : nat_eq (2 * j) (get_or pins i 0) ≡ false = ne_eqb (2 * j) (get_or pins i 0) (λ same. apart (same ∙ sym is)) in
          let any : list_any (nat_eq (2 * j)) (take (i + 1) pins) ≡ list_any (nat_eq (2 * j)) (take i pins) =
          more ∙ ap (λ (b : Bool). list_any (nat_eq (2 * j)) (take i pins) || b) here ∙ or_none (list_any (nat_eq (2 * j)) (take i pins)) in
          get_or-set_other ks (pin / 2) ((2 * j) / 2) m marks.Fresh halves ∙ all j ∙ ap (λ (b : Bool). if b then m else mark_at before (2 * j)) (sym any))
    ]

-- and clearing moves
pub cleared-more : (before ks : List Mark) (moves : List Move) (i old : ℕ) → i < length moves → (get_or moves i (record { old = 0; new = 0 })).old ≡ old → old % 2 ≡ 0 → old / 2 < length ks →
    ((j : ℕ) → mark_at ks (2 * j) ≡ (if has_move (take i moves) (2 * j) then marks.Fresh else mark_at before (2 * j))) →
    (j : ℕ) → mark_at (set ks (old / 2) marks.Fresh) (2 * j) ≡ (if has_move (take (i + 1) moves) (2 * j) then marks.Fresh else mark_at before (2 * j))
cleared-more before ks moves i old inside is even within all j =
    let first : Move = record { old = 0; new = 0 } in
    let more = list_any_more (λ (m : Move). m.old == (2 * j)) moves i first inside in
    elim (cases_eq (2 * j) old) [
      | inl same ↦ (let halves : (2 * j) / 2 ≡ old / 2 = omega arith in
          let here : ((get_or moves i first).old == (2 * j)) ≡ true = eq-eqb (get_or moves i first).old (2 * j) (is ∙ sym same) in
          let any : has_move (take (i + 1) moves) (2 * j) ≡ true = more ∙ or_right (has_move (take i moves) (2 * j)) ((get_or moves i first).old == (2 * j)) here in
          ap (λ (k : ℕ). get_or (set ks (old / 2) marks.Fresh) k marks.Fresh) halves ∙ get_or-set_same ks (old / 2) marks.Fresh marks.Fresh within
          ∙ ap (λ (b : Bool). if b then marks.Fresh else mark_at before (2 * j)) (sym any))
      | inr apart ↦ (let halves : (2 * j) / 2 ≢ old / 2 = λ same. apart (omega arith) in
          let here : ((get_or moves i first).old == (2 * j)) ≡ false = ne_eqb (get_or moves i first).old (2 * j) (λ same. apart (sym same ∙ is)) in
          let any : has_move (take (i + 1) moves) (2 * j) ≡ has_move (take i moves) (2 * j) =
          more ∙ ap (λ (b : Bool). has_move (take i moves) (2 * j) || b) here ∙ or_none (has_move (take i moves) (2 * j)) in
          get_or-set_other ks (old / 2) ((2 * j) / 2) marks.Fresh marks.Fresh halves ∙ all j ∙ ap (λ (b : Bool). if b then marks.Fresh else mark_at before (2 * j)) (sym any))
    ]

-- when pins and moves are cleared, all marks are fresh
pub all-fresh : (old mid new : List Mark) (pins : List ℕ) (moves : List Move) → ((i : ℕ) → mark_at old (2 * i) ≡ mark_for pins moves (2 * i)) →
    ((i : ℕ) → mark_at mid (2 * i) ≡ (if list_any (nat_eq (2 * i)) pins then marks.Fresh else mark_at old (2 * i))) →
    ((i : ℕ) → mark_at new (2 * i) ≡ (if has_move moves (2 * i) then marks.Fresh else mark_at mid (2 * i))) → length new ≡ length old →
    new ≡ replicate (length old) marks.Fresh
all-fresh old mid new pins moves was first second long =
    same_lists new (replicate (length old) marks.Fresh) (long ∙ sym (length-replicate (length old) marks.Fresh))
    (λ k d l. (let half : (2 * k) / 2 ≡ k = omega arith in
    get_or_default new k d marks.Fresh l ∙ sym (ap (λ (j : ℕ). get_or new j marks.Fresh) half) ∙ fresh k ∙ sym (get_or-replicate (length old) k marks.Fresh d (omega arith))))
  where
    fresh : (k : ℕ) → mark_at new (2 * k) ≡ marks.Fresh
    fresh k = second k ∙ (elim (cases_Bool (has_move moves (2 * k))) [
      | inl has ↦ rw has refl
      | inr none ↦ rw none (first k ∙ (elim (cases_Bool (list_any (nat_eq (2 * k)) pins)) [
        | inl pin ↦ rw pin refl
        | inr free ↦ rw free (was k ∙ rw (free, none) refl)
      ]))
    ])
