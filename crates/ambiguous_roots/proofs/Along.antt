-- Pinning along a list of objects: at each of them there is room, and it is not pinned yet.
use Rattle.std.proofs.Common.{◌≡◌, ℕ, zero, suc, ◌+◌, ◌-◌, ◌/◌, ◌^◌, ◌<◌, ◌≤◌, List, [], ◌∷◌, ◌++◌, length, get_or, take, Bool, true, false, nat_eq, inl, inr, refl, sym, ◌∙◌, ap, subst, arith}
use Rattle.std.proofs.lemmas.Bool.{cases_Bool, ne_eqb}
use Rattle.std.proofs.lemmas.List.{length-append, get_or-take}
use Rattle.std.proofs.lemmas.List.Elements.{All-head, All-tail}
use Rattle.std.proofs.lemmas.List.Folds.{list_any-append}
use Rattle.std.specs.List.{list_any}
use Rattle.std.specs.Prelude.{All, ◌||◌}
use Rattle.pin_set.specs.Starts.{Starts}
use Rattle.object_walk.specs.declared.found.Found.{Found}
use Rattle.ambiguous_roots.specs.Hinted.{hint_of}
use Rattle.ambiguous_roots.specs.Pinning.{is_referred, referred, CanPinAll}

-- nothing of what was met lies at or behind an index
none-referred : (words : List ℕ) (index : ℕ) (found : List Found) → All (λ (f : Found). f.index < index) found → list_any (nat_eq index) (referred words found) ≡ false
none-referred words index [] before = refl
none-referred words index (f ∷ found) before =
    let rest = none-referred words index found (All-tail (λ (f : Found). f.index < index) f found before) in
    let below = All-head (λ (f : Found). f.index < index) f found before in
    let other : nat_eq index f.index ≡ false = ne_eqb index f.index (λ same. omega arith) in
    elim (cases_Bool (is_referred words f.index f.kind)) [
      | inl hit ↦ rw (hit, other) rest
      | inr not ↦ rw not rest
    ]

-- one that is met and hit adds one
referred-room : (words : List ℕ) (found : List Found) (k : ℕ) (d : Found) → k < length found → is_referred words (get_or found k d).index (get_or found k d).kind ≡ true →
    length (referred words (take k found)) + 1 ≤ length (referred words found)
referred-room words [] k d l hit = absurd (omega (arith, l))
referred-room words (f ∷ found) zero d l hit = rw hit (omega arith)
referred-room words (f ∷ found) (suc k) d l hit =
    let rest = referred-room words found k d (omega arith) hit in
    elim (cases_Bool (is_referred words f.index f.kind)) [
      | inl here ↦ rw here (omega arith)
      | inr not ↦ rw not rest
    ]

-- what holds at object k, after those before it
module _ (words : List ℕ) (hints : List Bool) (pins now : Starts) (all : List Found) (k : ℕ) (f : Found) (can : CanPinAll words hints pins all) (l : k < length all) (at : f ≡ get_or all k f)
    (listed : now.listed ≡ pins.listed ++ referred words (take k all)) (most : now.most ≡ pins.most) where
  pub its-inside : f.index / 2 < length hints
  its-inside = subst (λ (x : Found). x.index / 2 < length hints) (sym at) (can.inside k f l)

  pub its-hint : is_referred words f.index f.kind ≡ true → hint_of hints (f.index / 2) ≡ true
  its-hint = subst (λ (x : Found). is_referred words x.index x.kind ≡ true → hint_of hints (x.index / 2) ≡ true) (sym at) (can.hinted k f l)

  before_it : All (λ (x : Found). x.index < f.index) (take k all)
  before_it j d m =
      let inside : j < k = first-ones j m in
      subst (λ (x : Found). x.index < f.index) (sym (get_or-take k all j d inside)) (subst (λ (x : Found). (get_or all j d).index < x.index) (sym (at_default d)) (can.ascending j k d inside l))
    where
      first-ones : (j : ℕ) → j < length (take k all) → j < k
      first-ones j m = within k all j m
        where
          within : (k : ℕ) (xs : List Found) (j : ℕ) → j < length (take k xs) → j < k
          within zero xs j m = absurd (omega (arith, m))
          within (suc k) [] j m = absurd (omega (arith, m))
          within (suc k) (x ∷ xs) zero m = omega arith
          within (suc k) (x ∷ xs) (suc j) m = omega (arith, within k xs j (omega arith))

      at_default : (d : Found) → f ≡ get_or all k d
      at_default d = at ∙ same all k l
        where
          same : (xs : List Found) (k : ℕ) → k < length xs → get_or xs k f ≡ get_or xs k d
          same [] k l = absurd (omega (arith, l))
          same (x ∷ xs) zero l = refl
          same (x ∷ xs) (suc k) l = same xs k (omega arith)

  pub its-new : list_any (nat_eq f.index) now.listed ≡ false
  its-new =
      let old : list_any (nat_eq f.index) pins.listed ≡ false = subst (λ (x : Found). list_any (nat_eq x.index) pins.listed ≡ false) (sym at) (can.unpinned k f l) in
      ap (list_any (nat_eq f.index)) listed ∙ list_any-append (nat_eq f.index) pins.listed (referred words (take k all))
      ∙ ap (λ (b : Bool). b || list_any (nat_eq f.index) (referred words (take k all))) old ∙ none-referred words f.index (take k all) before_it

  room : is_referred words f.index f.kind ≡ true → length now.listed + 1 ≤ length pins.listed + length (referred words all)
  room hit =
      let more = referred-room words all k f l (subst (λ (x : Found). is_referred words x.index x.kind ≡ true) at hit) in
      omega (arith, ap length listed, length-append pins.listed (referred words (take k all)), more)

  pub its-room : is_referred words f.index f.kind ≡ true → length now.listed < now.most
  its-room hit = (let more = room hit in let enough = can.room in omega arith)

  pub its-small : is_referred words f.index f.kind ≡ true → length now.listed < 2 ^ 32 - 1
  its-small hit = (let more = room hit in let enough = can.small in omega arith)
