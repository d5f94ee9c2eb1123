-- Flags that are set one after another.
use Rattle.std.proofs.Common.{◌≡◌, ◌≢◌, ℕ, ◌+◌, ◌/◌, ◌<◌, List, length, get_or, set, take, Bool, true, false, inl, inr, refl, sym, ◌∙◌, ap}
use Rattle.std.proofs.lemmas.Bool.{cases_eq, eq-eqb, ne_eqb, or_right}
use Rattle.std.proofs.lemmas.List.{get_or-set_same, get_or-set_other}
use Rattle.std.proofs.lemmas.List.Folds.{list_any_more}
use Rattle.std.specs.List.{list_any}
use Rattle.std.specs.Prelude.{◌==◌, ◌&&◌, ◌||◌, if◌then◌else◌}
use Rattle.copy_space.specs.declared.notes.Move.{Move}
use Rattle.page_sweep.specs.Flags.{held_at, is_pinned_on, is_stay_on}

or_none : (b : Bool) → (b || false) ≡ b
or_none true = refl
or_none false = refl

and_none : (b : Bool) → (b && false) ≡ false
and_none true = refl
and_none false = refl

-- one element more: its page gets the flag, and of no other page it tells
module _ {X : Type 0} (tells : ℕ → X → Bool) (flag : Bool) (before ks : List Bool) (xs : List X) (i at : ℕ) (d : X) (inside : i < length xs) (within : at < length ks)
    (its : tells at (get_or xs i d) ≡ true) (others : (page : ℕ) → page ≢ at → tells page (get_or xs i d) ≡ false)
    (all : (page : ℕ) → held_at ks page ≡ (if list_any (tells page) (take i xs) then flag else held_at before page)) where
  pub flagged-more : (page : ℕ) → held_at (set ks at flag) page ≡ (if list_any (tells page) (take (i + 1) xs) then flag else held_at before page)
  flagged-more page =
      let more = list_any_more (tells page) xs i d inside in
      elim (cases_eq page at) [
        | inl same ↦ (let here : tells page (get_or xs i d) ≡ true = ap (λ (p : ℕ). tells p (get_or xs i d)) same ∙ its in
            let any : list_any (tells page) (take (i + 1) xs) ≡ true = more ∙ or_right (list_any (tells page) (take i xs)) (tells page (get_or xs i d)) here in
            ap (λ (p : ℕ). get_or (set ks at flag) p false) same ∙ get_or-set_same ks at flag false within ∙ ap (λ (b : Bool). if b then flag else held_at before page) (sym any))
        | inr apart ↦ (let any : list_any (tells page) (take (i + 1) xs) ≡ list_any (tells page) (take i xs) =
            more ∙ ap (λ (b : Bool). list_any (tells page) (take i xs) || b) (others page apart) ∙ or_none (list_any (tells page) (take i xs)) in
            get_or-set_other ks at page flag false apart ∙ all page ∙ ap (λ (b : Bool). if b then flag else held_at before page) (sym any))
      ]

-- and an element that tells of no page
pub flagged-none : {X : Type 0} (tells : ℕ → X → Bool) (flag : Bool) (before ks : List Bool) (xs : List X) (i : ℕ) (d : X) → i < length xs →
    ((page : ℕ) → tells page (get_or xs i d) ≡ false) →
    ((page : ℕ) → held_at ks page ≡ (if list_any (tells page) (take i xs) then flag else held_at before page)) →
    (page : ℕ) → held_at ks page ≡ (if list_any (tells page) (take (i + 1) xs) then flag else held_at before page)
flagged-none tells flag before ks xs i d inside none all page =
    let any : list_any (tells page) (take (i + 1) xs) ≡ list_any (tells page) (take i xs) =
    list_any_more (tells page) xs i d inside ∙ ap (λ (b : Bool). list_any (tells page) (take i xs) || b) (none page) ∙ or_none (list_any (tells page) (take i xs)) in
    all page ∙ ap (λ (b : Bool). if b then flag else held_at before page) (sym any)

abbrev pub pin_tells : ℕ → ℕ → Bool
pin_tells page index = index / 512 == page

abbrev pub stay_tells : ℕ → Move → Bool
stay_tells page m = (m.old == m.new) && (m.old / 512 == page)

pub pin-flagged : (flag : Bool) (before ks : List Bool) (pins : List ℕ) (i pin : ℕ) → i < length pins → pin ≡ get_or pins i 0 → pin / 512 < length ks →
    ((page : ℕ) → held_at ks page ≡ (if is_pinned_on (take i pins) page then flag else held_at before page)) →
    (page : ℕ) → held_at (set ks (pin / 512) flag) page ≡ (if is_pinned_on (take (i + 1) pins) page then flag else held_at before page)
pin-flagged flag before ks pins i pin inside is within all =
    flagged-more pin_tells flag before ks pins i (pin / 512) 0 inside within
    (eq-eqb (get_or pins i 0 / 512) (pin / 512) (ap (λ (j : ℕ). j / 512) (sym is)))
    (λ page apart. ne_eqb (get_or pins i 0 / 512) page (λ same. apart (sym same ∙ ap (λ (j : ℕ). j / 512) (sym is))))
    all

pub stay-flagged : (flag : Bool) (before ks : List Bool) (moves : List Move) (i : ℕ) (m : Move) → i < length moves → get_or moves i (record { old = 0; new = 0 }) ≡ m → m.old ≡ m.new →
    m.old / 512 < length ks →
    ((page : ℕ) → held_at ks page ≡ (if is_stay_on (take i moves) page then flag else held_at before page)) →
    (page : ℕ) → held_at (set ks (m.old / 512) flag) page ≡ (if is_stay_on (take (i + 1) moves) page then flag else held_at before page)
stay-flagged flag before ks moves i m inside is stays within all =
    let first : Move = record { old = 0; new = 0 } in
    let same : (m.old == m.new) ≡ true = eq-eqb m.old m.new stays in
    flagged-more stay_tells flag before ks moves i (m.old / 512) first inside within
    (ap (stay_tells (m.old / 512)) is ∙ (rw same (eq-eqb (m.old / 512) (m.old / 512) refl)))
    (λ page apart. ap (stay_tells page) is ∙ (rw same (ne_eqb (m.old / 512) page (λ e. apart (sym e)))))
    all

pub move-not_flagged : (flag : Bool) (before ks : List Bool) (moves : List Move) (i : ℕ) (m : Move) → i < length moves → get_or moves i (record { old = 0; new = 0 }) ≡ m → m.old ≢ m.new →
    ((page : ℕ) → held_at ks page ≡ (if is_stay_on (take i moves) page then flag else held_at before page)) →
    (page : ℕ) → held_at ks page ≡ (if is_stay_on (take (i + 1) moves) page then flag else held_at before page)
move-not_flagged flag before ks moves i m inside is moves_away all =
    let first : Move = record { old = 0; new = 0 } in
    let other : (m.old == m.new) ≡ false = ne_eqb m.old m.new moves_away in
    flagged-none stay_tells flag before ks moves i first inside (λ page. ap (stay_tells page) is ∙ (rw other refl)) all
