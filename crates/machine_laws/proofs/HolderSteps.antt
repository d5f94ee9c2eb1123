-- What the holder of the turn does keeps words and phases in order: claiming, posting, looking, collecting, releasing and
-- giving the turn back.
use Rattle.std.proofs.Common.{◌≡◌, ◌≢◌, ℕ, suc, ◌+◌, ◌<◌, ◌≤◌, inl, inr, refl, sym, ◌∙◌, ap, subst, arith, Bool, true, false}
use Rattle.std.proofs.lemmas.Bool.{cases_eq, cases_lt, lt-ltb, le-ltb, false≢true, true≢false}
use Rattle.std.specs.Prelude.{nat_lt, not, bit_or}
use Rattle.heap_terms.specs.declared.phases.Phase.{Phase}
use Rattle.heap_terms.specs.declared.phases.Phase.TheVariants.{Parked, Outside, Inside, Leaving, Parking, Posting, Looking, Collecting, Releasing, Returning, Ended}
use Rattle.heap_terms.specs.Phases.{other_from, looking_from, posting_from, releasing_from}
use Rattle.heap_terms.specs.WordMachine.{has, clear}
use Rattle.machine_laws.specs.Order.{own_bits, holds, is_stopped, is_found, stop_bit, IsHeld, InOrder, IsPlaced}
use Rattle.machine_laws.proofs.Others.{IsChanged, by_change, other_is, There, Last, other_case}

-- below the next other one are, but for t itself, just those below u
pub below_other : (t u x : ℕ) → x ≢ t → nat_lt x (other_from t u) ≡ nat_lt x u
below_other t u x apart = elim (cases_lt x u) [
  | inl below ↦ (let from = (other_is t u).from in let l : x < other_from t u = omega arith in lt-ltb x (other_from t u) l ∙ sym (lt-ltb x u below))
  | inr past ↦ elim (cases_lt x (other_from t u)) [
    | inl below ↦ absurd (apart ((other_is t u).between x past below))
    | inr beyond ↦ le-ltb x (other_from t u) beyond ∙ sym (le-ltb x u past)
  ]
]

-- a phase of the holder h of the turn
pub record IsHolding (n h : ℕ) (q : Phase) : Type 0 where
  pub holding : holds q ≡ true
  pub placed : IsPlaced n h q

pub looking_holds : (n t u : ℕ) → IsHolding n t (looking_from n t u)
looking_holds n t u = elim (other_case n t u) [
  | There e below ↦ rw e (record { holding = refl; placed = (below, (other_is t u).other) })
  | Last e all ↦ rw e (record { holding = refl; placed = tt })
]

pub posting_holds : (n t u : ℕ) → IsHolding n t (posting_from n t u)
posting_holds n t u = elim (other_case n t u) [
  | There e below ↦ rw e (record { holding = refl; placed = (below, (other_is t u).other) })
  | Last e all ↦ rw e (looking_holds n t 0)
]

pub releasing_holds : (n t u : ℕ) → IsHolding n t (releasing_from n t u)
releasing_holds n t u = elim (other_case n t u) [
  | There e below ↦ rw e (record { holding = refl; placed = (below, (other_is t u).other) })
  | Last e all ↦ rw e (record { holding = refl; placed = tt })
]

-- where all from u on are t itself another one is below u
below_last : (n t u x : ℕ) → ((y : ℕ) → u ≤ y → y < n → y ≡ t) → x < n → x ≢ t → nat_lt x u ≡ true
below_last n t u x all l apart = elim (cases_lt x u) [
  | inl below ↦ lt-ltb x u below
  | inr past ↦ absurd (apart (all x past l))
]

looking_stop : (n t u x : ℕ) → is_stopped (looking_from n t u) x ≡ true
looking_stop n t u x = elim (other_case n t u) [ There e below ↦ rw e refl | Last e all ↦ rw e refl ]

looking_found : (n t u x : ℕ) → x < n → x ≢ t → is_found (looking_from n t u) x ≡ nat_lt x u
looking_found n t u x l apart = elim (other_case n t u) [
  | There e below ↦ rw e (below_other t u x apart)
  | Last e all ↦ rw e (sym (below_last n t u x all l apart))
]

posting_stop : (n t u x : ℕ) → x < n → x ≢ t → is_stopped (posting_from n t u) x ≡ nat_lt x u
posting_stop n t u x l apart = elim (other_case n t u) [
  | There e below ↦ rw e (below_other t u x apart)
  | Last e all ↦ rw e (looking_stop n t 0 x ∙ sym (below_last n t u x all l apart))
]

posting_found : (n t u x : ℕ) → x < n → x ≢ t → is_found (posting_from n t u) x ≡ false
posting_found n t u x l apart = elim (other_case n t u) [
  | There e below ↦ rw e refl
  | Last e all ↦ rw e (looking_found n t 0 x l apart ∙ le-ltb x 0 (omega arith))
]

releasing_stop : (n t u x : ℕ) → x < n → x ≢ t → is_stopped (releasing_from n t u) x ≡ not (nat_lt x u)
releasing_stop n t u x l apart = elim (other_case n t u) [
  | There e below ↦ rw e (ap not (below_other t u x apart))
  | Last e all ↦ rw e (ap not (sym (below_last n t u x all l apart)))
]

releasing_found : (n t u x : ℕ) → x < n → x ≢ t → is_found (releasing_from n t u) x ≡ not (nat_lt x u)
releasing_found n t u x l apart = elim (other_case n t u) [
  | There e below ↦ rw e (ap not (below_other t u x apart))
  | Last e all ↦ rw e (ap not (sym (below_last n t u x all l apart)))
]

-- the thread whose phase holds the turn is its holder
pub holder_is : (n t turn : ℕ) (words : ℕ → ℕ) (phases : ℕ → Phase) → InOrder n turn words phases → t < n → holds (phases t) ≡ true → IsHeld n t turn words phases
holder_is n t turn words phases order l holding = elim order [
  | inl f ↦ absurd (true≢false (sym holding ∙ f.nobody t l))
  | inr held ↦ elim (cases_eq t held.0) [
    | inl same ↦ subst (λ (h : ℕ). IsHeld n h turn words phases) (sym same) held.1
    | inr apart ↦ absurd (true≢false (sym holding ∙ held.1.nobody t l apart))
  ]
]

-- what a step of the holder to another phase leaves
pub record IsHolderStep (n h : ℕ) (words' : ℕ → ℕ) (phases : ℕ → Phase) (q : Phase) : Type 0 where
  pub phase : IsHolding n h q
  pub own : words' h ≡ 0
  pub words_are : (u : ℕ) → u < n → u ≢ h → words' u ≡ own_bits (phases u) + stop_bit (is_stopped q u)
  pub found : (u : ℕ) → u < n → u ≢ h → is_found q u ≡ true → own_bits (phases u) ≡ 4

pub holder_step : (n h turn : ℕ) (words' : ℕ → ℕ) (phases phases' : ℕ → Phase) (q : Phase) → h < n → turn ≡ suc h →
    ((u : ℕ) → u < n → u ≢ h → holds (phases u) ≡ false) → IsChanged h q phases phases' → IsHolderStep n h words' phases q → InOrder n turn words' phases'
holder_step n h turn words' phases phases' q l turn_is nobody c s = inr (
  h,
  record {
    holder = l;
    turn_is = turn_is;
    holding = ap holds c.own ∙ s.phase.holding;
    placed = subst (λ (x : Phase). IsPlaced n h x) (sym c.own) s.phase.placed;
    own = s.own;
    nobody = λ u below apart. ap holds (c.others u apart) ∙ nobody u below apart;
    words_are = λ u below apart. subst (λ (x : Phase). words' u ≡ own_bits x + stop_bit (is_stopped (phases' h) u)) (sym (c.others u apart))
        (subst (λ (x : Phase). words' u ≡ own_bits (phases u) + stop_bit (is_stopped x u)) (sym c.own) (s.words_are u below apart));
    found = λ u below apart seen. ap own_bits (c.others u apart) ∙ s.found u below apart (subst (λ (x : Phase). is_found x u ≡ true) c.own seen);
  },
)

-- a thread outside claims the turn that is free
pub claim_step : (n t : ℕ) (words : ℕ → ℕ) (phases phases' : ℕ → Phase) → InOrder n 0 words phases → t < n → phases t ≡ Outside →
    IsChanged t (posting_from n t 0) phases phases' → InOrder n (suc t) words phases'
claim_step n t words phases phases' order l at c = elim order [
  | inr held ↦ absurd (let never = held.1.turn_is in omega arith)
  | inl f ↦ holder_step n t (suc t) words phases phases' (posting_from n t 0) l refl (λ u below apart. f.nobody u below) c (record {
    phase = posting_holds n t 0;
    own = f.words_are t l ∙ ap own_bits at;
    words_are = λ u below apart. f.words_are u below
        ∙ (let z : own_bits (phases u) ≡ own_bits (phases u) + 0 = omega arith in z)
        ∙ ap (λ (s : Bool). own_bits (phases u) + stop_bit s) (sym (posting_stop n t 0 u below apart ∙ le-ltb u 0 (omega arith)));
    found = λ u below apart seen. absurd (false≢true (sym (posting_found n t 0 u below apart) ∙ seen));
  })
]

-- words of another thread, bit by bit
post_bits : (ph : Phase) → bit_or (own_bits ph + 0) 2 ≡ own_bits ph + 2
post_bits Parked = refl
post_bits Outside = refl
post_bits Inside = refl
post_bits Leaving = refl
post_bits Parking = refl
post_bits (Posting u) = refl
post_bits (Looking u) = refl
post_bits Collecting = refl
post_bits (Releasing u) = refl
post_bits Returning = refl
post_bits Ended = refl

look_bits : (ph : Phase) → has 4 (own_bits ph + 2) ≡ true → own_bits ph ≡ 4
look_bits Parked e = refl
look_bits Outside e = absurd (false≢true e)
look_bits Inside e = absurd (false≢true e)
look_bits Leaving e = absurd (false≢true e)
look_bits Parking e = absurd (false≢true e)
look_bits (Posting u) e = absurd (false≢true e)
look_bits (Looking u) e = absurd (false≢true e)
look_bits Collecting e = absurd (false≢true e)
look_bits (Releasing u) e = absurd (false≢true e)
look_bits Returning e = absurd (false≢true e)
look_bits Ended e = refl

release_bits : (ph : Phase) → clear 2 (own_bits ph + 2) ≡ own_bits ph + 0
release_bits Parked = refl
release_bits Outside = refl
release_bits Inside = refl
release_bits Leaving = refl
release_bits Parking = refl
release_bits (Posting u) = refl
release_bits (Looking u) = refl
release_bits Collecting = refl
release_bits (Releasing u) = refl
release_bits Returning = refl
release_bits Ended = refl

-- below v + 1 are v and those below v
pub one_more : (u v : ℕ) → u ≢ v → nat_lt u (v + 1) ≡ nat_lt u v
one_more u v other = elim (cases_lt u v) [
  | inl below ↦ lt-ltb u (v + 1) (omega arith) ∙ sym (lt-ltb u v below)
  | inr past ↦ le-ltb u (v + 1) (omega arith) ∙ sym (le-ltb u v past)
]

-- what is not below v + 1 is not below v
pub later : (u v : ℕ) → not (nat_lt u (v + 1)) ≡ true → not (nat_lt u v) ≡ true
later u v beyond = elim (cases_lt u (v + 1)) [
  | inl below ↦ absurd (false≢true (ap not (sym (lt-ltb u (v + 1) below)) ∙ beyond))
  | inr past ↦ ap not (le-ltb u v (omega arith))
]

-- the holder posts to thread v
pub post_step : (n h v turn : ℕ) (words words' : ℕ → ℕ) (phases phases' : ℕ → Phase) → IsHeld n h turn words phases → phases h ≡ Posting v →
    IsChanged v (bit_or (words v) 2) words words' → IsChanged h (posting_from n h (v + 1)) phases phases' → InOrder n turn words' phases'
post_step n h v turn words words' phases phases' k at cw cp =
    let placed : IsPlaced n h (Posting v) = subst (λ (x : Phase). IsPlaced n h x) at k.placed in
    let q = posting_from n h (v + 1) in
    holder_step n h turn words' phases phases' q k.holder k.turn_is k.nobody cp (record {
      phase = posting_holds n h (v + 1);
      own = cw.others h (λ same. placed.1 (sym same)) ∙ k.own;
      words_are = λ u below apart.
          let old : words u ≡ own_bits (phases u) + stop_bit (nat_lt u v) = subst (λ (x : Phase). words u ≡ own_bits (phases u) + stop_bit (is_stopped x u)) at (k.words_are u below apart) in
          let now = posting_stop n h (v + 1) u below apart in
          elim (cases_eq u v) [
            | inl same ↦ (
                let none : nat_lt u v ≡ false = le-ltb u v (omega arith) in
                let before : words u ≡ own_bits (phases u) + 0 = old ∙ ap (λ (s : Bool). own_bits (phases u) + stop_bit s) none in
                let stands : is_stopped q u ≡ true = now ∙ lt-ltb u (v + 1) (omega arith) in
                let e : words' u ≡ bit_or (words u) 2 = subst (λ (x : ℕ). words' x ≡ bit_or (words x) 2) (sym same) cw.own in
                e ∙ ap (λ (w : ℕ). bit_or w 2) before ∙ post_bits (phases u) ∙ ap (λ (s : Bool). own_bits (phases u) + stop_bit s) (sym stands))
            | inr other ↦ cw.others u other ∙ old ∙ ap (λ (s : Bool). own_bits (phases u) + stop_bit s) (sym (now ∙ one_more u v other))
          ];
      found = λ u below apart seen. absurd (false≢true (sym (posting_found n h (v + 1) u below apart) ∙ seen));
    })

-- the holder finds thread v parked
pub look_step : (n h v turn : ℕ) (words : ℕ → ℕ) (phases phases' : ℕ → Phase) → IsHeld n h turn words phases → phases h ≡ Looking v → has 4 (words v) ≡ true →
    IsChanged h (looking_from n h (v + 1)) phases phases' → InOrder n turn words phases'
look_step n h v turn words phases phases' k at parked cp =
    let placed : IsPlaced n h (Looking v) = subst (λ (x : Phase). IsPlaced n h x) at k.placed in
    let q = looking_from n h (v + 1) in
    let old : (u : ℕ) → u < n → u ≢ h → words u ≡ own_bits (phases u) + 2 = λ u below apart.
    subst (λ (x : Phase). words u ≡ own_bits (phases u) + stop_bit (is_stopped x u)) at (k.words_are u below apart) in
    holder_step n h turn words phases phases' q k.holder k.turn_is k.nobody cp (record {
      phase = looking_holds n h (v + 1);
      own = k.own;
      words_are = λ u below apart. old u below apart ∙ ap (λ (s : Bool). own_bits (phases u) + stop_bit s) (sym (looking_stop n h (v + 1) u));
      found = λ u below apart seen. elim (cases_eq u v) [
        | inl same ↦ (
            let seen_v : has 4 (words u) ≡ true = subst (λ (x : ℕ). has 4 (words x) ≡ true) (sym same) parked in
            look_bits (phases u) (ap (λ (w : ℕ). has 4 w) (sym (old u below apart)) ∙ seen_v))
        | inr other ↦ (
            let lower : nat_lt u v ≡ true = sym (one_more u v other) ∙ sym (looking_found n h (v + 1) u below apart) ∙ seen in
            k.found u below apart (subst (λ (x : Phase). is_found x u ≡ true) (sym at) lower))
      ];
    })

-- the holder has collected
pub collect_step : (n h turn : ℕ) (words : ℕ → ℕ) (phases phases' : ℕ → Phase) → IsHeld n h turn words phases → phases h ≡ Collecting →
    IsChanged h (releasing_from n h 0) phases phases' → InOrder n turn words phases'
collect_step n h turn words phases phases' k at cp =
    let q = releasing_from n h 0 in
    holder_step n h turn words phases phases' q k.holder k.turn_is k.nobody cp (record {
      phase = releasing_holds n h 0;
      own = k.own;
      words_are = λ u below apart.
          let old : words u ≡ own_bits (phases u) + 2 = subst (λ (x : Phase). words u ≡ own_bits (phases u) + stop_bit (is_stopped x u)) at (k.words_are u below apart) in
          old ∙ ap (λ (s : Bool). own_bits (phases u) + stop_bit s) (sym (releasing_stop n h 0 u below apart ∙ ap not (le-ltb u 0 (omega arith))));
      found = λ u below apart seen. k.found u below apart (subst (λ (x : Phase). is_found x u ≡ true) (sym at) refl);
    })

-- the holder releases thread v
pub release_step : (n h v turn : ℕ) (words words' : ℕ → ℕ) (phases phases' : ℕ → Phase) → IsHeld n h turn words phases → phases h ≡ Releasing v →
    IsChanged v (clear 2 (words v)) words words' → IsChanged h (releasing_from n h (v + 1)) phases phases' → InOrder n turn words' phases'
release_step n h v turn words words' phases phases' k at cw cp =
    let placed : IsPlaced n h (Releasing v) = subst (λ (x : Phase). IsPlaced n h x) at k.placed in
    let q = releasing_from n h (v + 1) in
    holder_step n h turn words' phases phases' q k.holder k.turn_is k.nobody cp (record {
      phase = releasing_holds n h (v + 1);
      own = cw.others h (λ same. placed.1 (sym same)) ∙ k.own;
      words_are = λ u below apart.
          let old : words u ≡ own_bits (phases u) + stop_bit (not (nat_lt u v)) = subst (λ (x : Phase). words u ≡ own_bits (phases u) + stop_bit (is_stopped x u)) at (k.words_are u below apart) in
          let now = releasing_stop n h (v + 1) u below apart in
          elim (cases_eq u v) [
            | inl same ↦ (
                let stood : nat_lt u v ≡ false = le-ltb u v (omega arith) in
                let before : words u ≡ own_bits (phases u) + 2 = old ∙ ap (λ (s : Bool). own_bits (phases u) + stop_bit (not s)) stood in
                let none : is_stopped q u ≡ false = now ∙ ap not (lt-ltb u (v + 1) (omega arith)) in
                let e : words' u ≡ clear 2 (words u) = subst (λ (x : ℕ). words' x ≡ clear 2 (words x)) (sym same) cw.own in
                e ∙ ap (λ (w : ℕ). clear 2 w) before ∙ release_bits (phases u) ∙ ap (λ (s : Bool). own_bits (phases u) + stop_bit s) (sym none))
            | inr other ↦ cw.others u other ∙ old ∙ ap (λ (s : Bool). own_bits (phases u) + stop_bit s) (sym (now ∙ ap not (one_more u v other)))
          ];
      found = λ u below apart seen.
          let beyond : not (nat_lt u (v + 1)) ≡ true = sym (releasing_found n h (v + 1) u below apart) ∙ seen in
          let there : not (nat_lt u v) ≡ true = later u v beyond in
          k.found u below apart (subst (λ (x : Phase). is_found x u ≡ true) (sym at) there);
    })

-- the holder gives the turn back
pub return_step : (n h turn : ℕ) (words : ℕ → ℕ) (phases phases' : ℕ → Phase) → IsHeld n h turn words phases → phases h ≡ Returning →
    IsChanged h Outside phases phases' → InOrder n 0 words phases'
return_step n h turn words phases phases' k at cp = inl (record {
  free = refl;
  nobody = λ u below. by_change (λ v x. holds x ≡ false) h Outside phases phases' cp refl u (λ apart. k.nobody u below apart);
  words_are = λ u below. by_change (λ v x. words v ≡ own_bits x) h Outside phases phases' cp k.own u (λ apart.
      subst (λ (x : Phase). words u ≡ own_bits (phases u) + stop_bit (is_stopped x u)) at (k.words_are u below apart)
      ∙ (let z : own_bits (phases u) + 0 ≡ own_bits (phases u) = omega arith in z));
})
