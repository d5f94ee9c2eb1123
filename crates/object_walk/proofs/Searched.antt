-- A search in what a walk finds: indices ascend, so the first object at or behind an index is the one that starts there,
-- if one does.
use Rattle.std.proofs.Common.{◌≡◌, ℕ, zero, suc, ◌+◌, ◌*◌, ◌/◌, ◌≤◌, ◌⊎◌, inl, inr, List, [], ◌∷◌, map, Bool, true, false, Option, Some, None, refl, sym, ◌∙◌, ap, arith}
use Rattle.std.proofs.lemmas.Bool.{le-leb, lt-leb, eq-eqb, eqb-true}
use Rattle.std.specs.Prelude.{Contains, nat_le, find, if◌then◌else◌, option_map, IfSome, IsNone, ◌==◌}
use Rattle.std.specs.Bool.{then_some}
use Rattle.heap_terms.specs.declared.pages.Entry.{Entry}
use Rattle.heap_terms.specs.Layout.{page_words, size_of}
use Rattle.heap_terms.specs.LaidOut.{Piece, Fillers, Whole, ObjectStart, object_starts, AreObjectsOn, IsLaidOut, StartsAt}
use Rattle.object_walk.specs.declared.found.Found.{Found}
use Rattle.object_walk.specs.Walks.{found_at, IsFoundAt}
use Rattle.object_walk.proofs.Pieces.{size_least}

-- an element of a list is its first or one of the others
pub contains_cases : {A : Type 0} (x y : A) (ys : List A) → Contains (y ∷ ys) x → (y ≡ x) ⊎ Contains ys x
contains_cases x y ys (zero, inside, is) = inl is
contains_cases x y ys (suc k, inside, is) = inr (k, omega arith, is)

pub contains_first : {A : Type 0} (x : A) (xs : List A) → Contains (x ∷ xs) x
contains_first x xs = (0, omega arith, refl)

pub contains_later : {A : Type 0} (x y : A) (ys : List A) → Contains ys x → Contains (y ∷ ys) x
contains_later x y ys (k, inside, is) = (suc k, omega arith, is)

pub contains_none : {A : Type 0} (x : A) → Contains [] x → ⊥
contains_none x (k, inside, is) = omega arith

-- the objects of pieces from an index on begin there or behind it
pub starts_behind : (from : ℕ) (pieces : List Piece) (s : ObjectStart) → Contains (object_starts from pieces) s → from ≤ s.index
starts_behind from [] s h = absurd (contains_none s h)
starts_behind from (Fillers ∷ pieces) s h = omega (arith, starts_behind (from + 2) pieces s h)
starts_behind from (Whole kind n ∷ pieces) s h = elim (contains_cases s (record { index = from; kind = kind; n = n }) (object_starts (from + size_of kind n) pieces) h) [
  | inl e ↦ omega (arith, ap (λ (t : ObjectStart). t.index) e)
  | inr later ↦ omega (arith, starts_behind (from + size_of kind n) pieces s later)
]

-- the search
abbrev pub from_index : ℕ → Found → Bool
from_index index f = nat_le index f.index

pub start_found : (from : ℕ) (pieces : List Piece) (s : ObjectStart) → Contains (object_starts from pieces) s →
    find (from_index s.index) (map found_at (object_starts from pieces)) ≡ Some (found_at s)
start_found from [] s h = absurd (contains_none s h)
start_found from (Fillers ∷ pieces) s h = start_found (from + 2) pieces s h
start_found from (Whole kind n ∷ pieces) s h = elim (contains_cases s (record { index = from; kind = kind; n = n }) (object_starts (from + size_of kind n) pieces) h) [
  | inl e ↦ (
      let here : nat_le s.index from ≡ true = le-leb s.index from (omega (arith, ap (λ (t : ObjectStart). t.index) e)) in
      rw here (ap (λ (t : ObjectStart). Some (found_at t)) e))
  | inr later ↦ (
      let behind : nat_le s.index from ≡ false = lt-leb s.index from (omega (arith, size_least kind n, starts_behind (from + size_of kind n) pieces s later)) in
      rw behind (start_found (from + size_of kind n) pieces s later))
]

-- and what it finds is an object
pub record IsAmong (starts : List ObjectStart) (f : Found) : Type 0 where
  pub start : ObjectStart
  pub is : f ≡ found_at start
  pub among : Contains starts start

pub found_among : (test : Found → Bool) (starts : List ObjectStart) (f : Found) → find test (map found_at starts) ≡ Some f → IsAmong starts f
found_among test [] f e = absurd (let never : ⊥ = cc in never)
found_among test (s ∷ starts) f e = tested (test (found_at s)) (found_among test starts f) e
  where
    tested : (b : Bool) → (find test (map found_at starts) ≡ Some f → IsAmong starts f) → (if b then Some (found_at s) else find test (map found_at starts)) ≡ Some f →
        IsAmong (s ∷ starts) f
    tested true later e = record { start = s; is = (let same : found_at s ≡ f = cc in sym same); among = contains_first s starts }
    tested false later e =
        let k = later e in
        record { start = k.start; is = k.is; among = contains_later k.start s starts k.among }

-- what a search answers of the objects of a page, told in what is left of a walk over it
pub search_meets : (words : List ℕ) (pages : List Entry) (index : ℕ) (left : List Found) (r : Option Found) (s : ObjectStart) →
    ((starts : List ObjectStart) → AreObjectsOn words pages (index / page_words) starts → left ≡ map found_at starts) →
    r ≡ find (from_index index) left → s.index ≡ index → StartsAt words pages s → r ≡ Some (found_at s)
search_meets words pages index left r s told searched here h = met index here told searched
  where
    met : (index : ℕ) → s.index ≡ index → ((starts : List ObjectStart) → AreObjectsOn words pages (index / page_words) starts → left ≡ map found_at starts) →
        r ≡ find (from_index index) left → r ≡ Some (found_at s)
    met index here told searched =
        let objects : AreObjectsOn words pages (index / page_words) h.starts = rw (← here) h.objects in
        let left_is : left ≡ map found_at (object_starts (page_words * (index / page_words)) h.objects.pieces) =
        told h.starts objects ∙ ap (map found_at) (h.objects.starts_are ∙ ap (λ (i : ℕ). object_starts (page_words * (i / page_words)) h.objects.pieces) here) in
        let among : Contains (object_starts (page_words * (index / page_words)) h.objects.pieces) s =
        rw (← (ap (λ (i : ℕ). object_starts (page_words * (i / page_words)) h.objects.pieces) here), ← h.objects.starts_are) h.among in
        searched ∙ ap (find (from_index index)) left_is ∙ ap (λ (i : ℕ). find (from_index i) (map found_at (object_starts (page_words * (index / page_words)) h.objects.pieces))) (sym here)
        ∙ start_found (page_words * (index / page_words)) h.objects.pieces s among

pub search_finds : (words : List ℕ) (pages : List Entry) (index : ℕ) (left : List Found) (r : Option Found) (f : Found) →
    ((starts : List ObjectStart) → AreObjectsOn words pages (index / page_words) starts → left ≡ map found_at starts) →
    r ≡ find (from_index index) left → IsLaidOut words pages (index / page_words) → r ≡ Some f → f.index ≡ index → IsFoundAt words pages index f
search_finds words pages index left r f told searched laid some here =
    let starts : List ObjectStart = object_starts (page_words * (index / page_words)) laid.pieces in
    let objects : AreObjectsOn words pages (index / page_words) starts = record { pieces = laid.pieces; on_page = laid.on_page; starts_are = refl } in
    let among : IsAmong starts f =
    found_among (from_index index) starts f (ap (find (from_index index)) (sym (told starts objects)) ∙ sym searched ∙ some) in
    let same : among.start.index ≡ index = sym (ap (λ (g : Found). g.index) among.is) ∙ here in
    record { start = among.start; is = among.is; here = same; starts = record { starts = starts; objects = rw same objects; among = among.among } }

pub same_option : (r : Option Found) → option_map (λ (f : Found). f) r ≡ r
same_option None = refl
same_option (Some f) = refl

-- what was found is answered where it is at the index
pub kept_same : (index : ℕ) (f : Found) (s : ObjectStart) → Some f ≡ Some (found_at s) → s.index ≡ index → then_some (f.index == index) f ≡ Some (found_at s)
kept_same index f s is here =
    let same : f ≡ found_at s = cc in
    let at : (f.index == index) ≡ true = eq-eqb f.index index (ap (λ (g : Found). g.index) same ∙ here) in
    rw at is

pub kept : (words : List ℕ) (pages : List Entry) (index : ℕ) (f : Found) (r : Option Found) → r ≡ then_some (f.index == index) f →
    (f.index ≡ index → IsFoundAt words pages index f) → IfSome r (IsFoundAt words pages index)
kept words pages index f r is found = rw is (tested (f.index == index) (eqb-true f.index index))
  where
    tested : (b : Bool) → (b ≡ true → f.index ≡ index) → IfSome (then_some b f) (IsFoundAt words pages index)
    tested true at = found (at refl)
    tested false at = tt

pub none_kept : (r : Option Found) (s : ObjectStart) → IsNone r → r ≡ Some (found_at s) → ⊥
none_kept None s none is = cc
none_kept (Some f) s none is = cc
