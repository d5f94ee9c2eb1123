-- Which threads let a collection be made.
use Rattle.std.proofs.Common.{◌≡◌, ℕ, ◌<◌, List, [], ◌∷◌, length, map, refl, sym, ◌∙◌, subst, ap, arith, get_or, true, false, inl, inr, zero-add}
use Rattle.std.proofs.lemmas.Bool.{cases_lt, cases_Bool, eqb-true, eq-eqb}
use Rattle.std.proofs.lemmas.List.{get_or_default, get_or_past, length-map, get_or-map, ext_get_or}
use Rattle.std.proofs.lemmas.List.Elements.{All-from_get_or}
use Rattle.std.proofs.lemmas.List.FromFn.{length-range_with_len, get_or-range_with_len}
use Rattle.std.specs.List.{range_with_len}
use Rattle.std.specs.Prelude.{◌==◌, not, Result, Ok, Err, is_ok, OnOk}
use Rattle.heap_terms.specs.Heap.{NamedHeap, Thread, thread_at, ended_thread, fresh_thread}
use Rattle.lisp_heap.specs.Agreement.{Agrees, AreFresh}
use Rattle.lisp_heap.specs.ParcelView.{ParcelView, empty_parcel}
use Rattle.lisp_heap.specs.Ready.{AllLet, AreByOwner, AreReady, Lets, all_empty, owner_of}

pub lets : (a : NamedHeap) (parcels : List ParcelView) (u : ℕ) (q : ParcelView) → not ((thread_at a u).inhibits == 0) ≡ false → u < length parcels →
    q ≡ get_or parcels u q → Agrees a q → Lets a parcels u
lets a parcels u q free l at agrees = record {
  allows = elim (cases_Bool ((thread_at a u).inhibits == 0)) [
    | inl none ↦ eqb-true (thread_at a u).inhibits 0 none
    | inr some ↦ (let never : true ≡ false = rw some at free in cc)
  ];
  agrees = λ d. subst (Agrees a) (at ∙ get_or_default parcels u q d l) agrees;
}

pub inhibits : (a : NamedHeap) (parcels : List ParcelView) (u : ℕ) → not ((thread_at a u).inhibits == 0) ≡ true → Lets a parcels u → ⊥
inhibits a parcels u some h = (let never : false ≡ true = rw (eq-eqb (thread_at a u).inhibits 0 h.allows) at some in cc)

pub differs : (a : NamedHeap) (parcels : List ParcelView) (u : ℕ) (q : ParcelView) → q ≡ get_or parcels u q → (Agrees a q → ⊥) → Lets a parcels u → ⊥
differs a parcels u q at other h = other (subst (Agrees a) (sym at) (h.agrees q))

-- where every thread lets it be made, no thread inhibits
pub nobody_inhibits : (a : NamedHeap) (parcels : List ParcelView) → length parcels ≡ length a.threads → AllLet a parcels → (u : ℕ) → (thread_at a u).inhibits ≡ 0
nobody_inhibits a parcels count h u = elim (cases_lt u (length a.threads)) [
  | inl l ↦ (h u (omega (arith, l, count))).allows
  | inr past ↦ ap (λ (th : Thread). th.inhibits) (get_or_past a.threads u (ended_thread fresh_thread) past)
]

-- ---- parcels by owner

pub count_of : (parcels : List ParcelView) (n : ℕ) → AreByOwner parcels n → length parcels ≡ n
count_of parcels n h = sym (length-map parcels owner_of) ∙ ap length h ∙ length-range_with_len 0 n

pub empty_owners : (parcels : List ParcelView) → map owner_of (all_empty parcels) ≡ map owner_of parcels
empty_owners [] = refl
empty_owners (q ∷ parcels) = ap (λ (xs : List ℕ). q.owner ∷ xs) (empty_owners parcels)

-- the same of each parcel by itself
pub by_owner_at : (parcels : List ParcelView) (n t : ℕ) (d : ParcelView) → AreByOwner parcels n → t < length parcels → (get_or parcels t d).owner ≡ t
by_owner_at parcels n t d h l =
    sym (get_or-map owner_of parcels t d 0 l) ∙ ap (λ (xs : List ℕ). get_or xs t 0) h ∙ get_or-range_with_len 0 n t 0 (omega (arith, l, count_of parcels n h)) ∙ zero-add t

pub by_owner_from : (parcels : List ParcelView) (n : ℕ) → length parcels ≡ n → ((t : ℕ) (d : ParcelView) → t < length parcels → (get_or parcels t d).owner ≡ t) → AreByOwner parcels n
by_owner_from parcels n count owners =
    ext_get_or 0 (map owner_of parcels) (range_with_len 0 n) (length-map parcels owner_of ∙ count ∙ sym (length-range_with_len 0 n)) (λ t l.
    (let inside : t < length parcels = omega (arith, l, length-map parcels owner_of) in
    get_or-map owner_of parcels t (empty_parcel 0) 0 inside ∙ owners t (empty_parcel 0) inside ∙ sym (get_or-range_with_len 0 n t 0 (omega (arith, inside, count)) ∙ zero-add t)))

pub fresh_by_owner : (parcels : List ParcelView) (n : ℕ) → AreFresh parcels n → AreByOwner parcels n
fresh_by_owner parcels n h =
    by_owner_from parcels n h.count (λ t d l. ap owner_of (h.each t d (omega (arith, l, h.count))))

-- parcels without regions are ready where each such parcel agrees
pub empty_ready : (a : NamedHeap) (parcels : List ParcelView) (n : ℕ) → AreByOwner parcels n → ((u : ℕ) → Agrees a (empty_parcel u)) → AreReady a (all_empty parcels) n
empty_ready a parcels n owners agree = record {
  owners = empty_owners parcels ∙ owners;
  agree = All-from_get_or (Agrees a) (all_empty parcels) (empty_parcel 0) (λ i l.
      (let inside : i < length parcels = omega (arith, l, length-map parcels (λ (q : ParcelView). empty_parcel q.owner)) in
      subst (Agrees a) (sym (get_or-map (λ (q : ParcelView). empty_parcel q.owner) parcels i (empty_parcel 0) (empty_parcel 0) inside)) (agree (get_or parcels i (empty_parcel 0)).owner)));
}

-- what holds where a result is right
pub on_ok : {A E : Type 0} (P : Type 0) (r : Result A E) → is_ok r ≡ true → OnOk r P → P
on_ok P (Ok x) e h = h
on_ok P (Err x) e h = cc
