-- What a write does to the pairs of a table.
use Rattle.std.proofs.Common.{◌≡◌, ℕ, ◌+◌, ◌-◌, ◌*◌, ◌<◌, ◌≤◌, ◌⊎◌, List, [], ◌∷◌, ◌++◌, length, take, drop, set, get_or, refl, sym, ap, ◌∙◌, inl, inr, subst, arith, length-append}
use Rattle.std.proofs.lemmas.Bool.{cases_eq, cases_lt}
use Rattle.std.proofs.lemmas.List.{get_or-set_other, get_or-take, get_or-drop, length-set, length-drop, length-take-le}
use Rattle.std.proofs.lemmas.Grind.{get_or-set_at}
use Rattle.std.proofs.Math.ListN.{get_or-append}
use Rattle.std.proofs.Math.Seq.{get_or-append_seam, get_or-append_right}
use Rattle.eq_index.specs.Answers.{HasNo, without}
use Rattle.eq_index.specs.Closing.{ClosesUp}
use Rattle.eq_index.specs.Tables.{PairWords, no_pair, pair_at, IsTable, StaysElsewhere, Becomes}

-- a word that is not the one that is written
kept : (words : List ℕ) (i v j : ℕ) → (j ≡ i → ⊥) → get_or (set words i v) j 0 ≡ get_or words j 0
kept words i v j apart = get_or-set_other words i j v 0 apart

-- a write inside a table
pub inside : (words : List ℕ) (table b i v : ℕ) → table ≤ i → i < table + 4 + 4 * b → StaysElsewhere words (set words i v) table b
inside words table b i v low high = record {
  long = length-set words i v;
  same = λ j out. elim out [ inl below ↦ kept words i v j (λ e. omega arith) | inr above ↦ kept words i v j (λ e. omega arith) ];
}

pub then_inside : (old mid new : List ℕ) (table b : ℕ) → StaysElsewhere old mid table b → StaysElsewhere mid new table b → StaysElsewhere old new table b
then_inside old mid new table b p q = record { long = q.long ∙ p.long; same = λ j out. q.same j out ∙ p.same j out }

-- nothing is written
pub unchanged : (words : List ℕ) (table b : ℕ) (pairs : List PairWords) → IsTable words table b pairs → Becomes words words table b pairs
unchanged words table b pairs t = record { is = t; weakness = refl; elsewhere = record { long = refl; same = λ j out. refl } }

-- ---- another value in a pair

pair_set : (pairs : List PairWords) (slot : ℕ) (p : PairWords) (k : ℕ) → slot < length pairs → p.key ≡ (pair_at pairs slot).key → (pair_at (set pairs slot p) k).key ≡ (pair_at pairs k).key
pair_set pairs slot p k lt same = elim (cases_eq k slot) [
  | inl here ↦ ap (λ (q : PairWords). q.key) (get_or-set_at pairs slot k p no_pair here lt) ∙ same ∙ ap (λ (i : ℕ). (pair_at pairs i).key) (sym here)
  | inr other ↦ ap (λ (q : PairWords). q.key) (get_or-set_other pairs slot k p no_pair other)
]

value_read : (words : List ℕ) (table b : ℕ) (pairs : List PairWords) (slot value : ℕ) (p : PairWords) → IsTable words table b pairs → slot < length pairs → p.value ≡ value →
    (k : ℕ) → k < length pairs → get_or (set words (table + 4 + 2 * slot + 1) value) (table + 5 + 2 * k) 0 ≡ (pair_at (set pairs slot p) k).value
value_read words table b pairs slot value p t lt same k below = elim (cases_eq k slot) [
  | inl here ↦
      get_or-set_at words (table + 4 + 2 * slot + 1) (table + 5 + 2 * k) value 0 (omega arith) (omega (arith, t.within, t.room))
      ∙ sym same ∙ ap (λ (q : PairWords). q.value) (sym (get_or-set_at pairs slot k p no_pair here lt))
  | inr other ↦
      kept words (table + 4 + 2 * slot + 1) value (table + 5 + 2 * k) (λ e. other (omega arith)) ∙ t.values k below
      ∙ ap (λ (q : PairWords). q.value) (sym (get_or-set_other pairs slot k p no_pair other))
]

pub replaced : (words : List ℕ) (table b : ℕ) (pairs : List PairWords) (slot value : ℕ) (p : PairWords) → IsTable words table b pairs → slot < length pairs →
    p.key ≡ (pair_at pairs slot).key → p.value ≡ value → Becomes words (set words (table + 4 + 2 * slot + 1) value) table b (set pairs slot p)
replaced words table b pairs slot value p t lt key val =
    let at = table + 4 + 2 * slot + 1 in
    let len = length-set pairs slot p in
    let long = length-set words at value in
    record {
      is = record {
        least = t.least;
        most = t.most;
        within = omega (arith, t.within, long);
        low = t.low;
        header = kept words at value table (λ e. omega arith) ∙ t.header;
        flag = kept words at value (table + 2) (λ e. omega arith) ∙ t.flag;
        count = kept words at value (table + 3) (λ e. omega arith) ∙ t.count ∙ ap (λ (n : ℕ). 2 * n) (sym len);
        room = omega (arith, t.room, len);
        keys = λ k below. kept words at value (table + 4 + 2 * k) (λ e. omega arith) ∙ t.keys k (omega (arith, len)) ∙ sym (pair_set pairs slot p k lt key);
        values = λ k below. value_read words table b pairs slot value p t lt val k (omega (arith, len));
        unbound = λ i from to. kept words at value (table + 4 + i) (λ e. omega (arith, len)) ∙ t.unbound i (omega (arith, len)) to;
        kept = λ i to. kept words at value (table + 4 + 2 * b + i) (λ e. omega (arith, t.room)) ∙ t.kept i to;
        once = λ i k bi bk e. t.once i k (omega (arith, len)) (omega (arith, len)) (sym (pair_set pairs slot p i lt key) ∙ e ∙ pair_set pairs slot p k lt key);
      };
      weakness = kept words at value (table + 1) (λ e. omega arith);
      elsewhere = inside words table b at value (omega arith) (omega (arith, t.room));
    }

-- ---- one more pair

pair_before : (pairs : List PairWords) (p : PairWords) (k : ℕ) → k < length pairs → pair_at (pairs ++ p ∷ []) k ≡ pair_at pairs k
pair_before pairs p k lt = get_or-append pairs (p ∷ []) no_pair k lt

pair_last : (pairs : List PairWords) (p : PairWords) (k : ℕ) → k ≡ length pairs → pair_at (pairs ++ p ∷ []) k ≡ p
pair_last pairs p k e = ap (λ (i : ℕ). pair_at (pairs ++ p ∷ []) i) e ∙ get_or-append_seam pairs p [] no_pair

-- the words after the key, the value and the number of pairs were written
abbrev pub with_three : List ℕ → ℕ → ℕ → ℕ → ℕ → ℕ → List ℕ
with_three words at first second count n = set (set (set words at first) (at + 1) second) count n

three_kept : (words : List ℕ) (at first second count n j : ℕ) → (j ≡ at → ⊥) → (j ≡ at + 1 → ⊥) → (j ≡ count → ⊥) → get_or (with_three words at first second count n) j 0 ≡ get_or words j 0
three_kept words at first second count n j a b c =
    kept (set (set words at first) (at + 1) second) count n j c ∙ kept (set words at first) (at + 1) second j b ∙ kept words at first j a

pub three_long : (words : List ℕ) (at first second count n : ℕ) → length (with_three words at first second count n) ≡ length words
three_long words at first second count n =
    length-set (set (set words at first) (at + 1) second) count n ∙ length-set (set words at first) (at + 1) second ∙ length-set words at first

three_first : (words : List ℕ) (at first second count n j : ℕ) → count < at → at < length words → j ≡ at → get_or (with_three words at first second count n) j 0 ≡ first
three_first words at first second count n j low lt e =
    kept (set (set words at first) (at + 1) second) count n j (λ h. omega arith) ∙ kept (set words at first) (at + 1) second j (λ h. omega arith) ∙ get_or-set_at words at j first 0 e lt

three_second : (words : List ℕ) (at first second count n j : ℕ) → count < at → at + 1 < length words → j ≡ at + 1 → get_or (with_three words at first second count n) j 0 ≡ second
three_second words at first second count n j low lt e =
    kept (set (set words at first) (at + 1) second) count n j (λ h. omega arith)
    ∙ get_or-set_at (set words at first) (at + 1) j second 0 e (let long = length-set words at first in omega (arith, long))

three_count : (words : List ℕ) (at first second count n : ℕ) → count < at → at < length words → get_or (with_three words at first second count n) count 0 ≡ n
three_count words at first second count n low lt =
    get_or-set_at (set (set words at first) (at + 1) second) count count n 0 refl
    (let long = length-set (set words at first) (at + 1) second in let more = length-set words at first in omega (arith, long, more))

three_inside : (words : List ℕ) (table b at first second n : ℕ) → table ≤ at → at + 1 < table + 4 + 4 * b → StaysElsewhere words (with_three words at first second (table + 3) n) table b
three_inside words table b at first second n low high = record {
  long = three_long words at first second (table + 3) n;
  same = λ j out. elim out [
    | inl below ↦ three_kept words at first second (table + 3) n j (λ e. omega arith) (λ e. omega arith) (λ e. omega arith)
    | inr above ↦ three_kept words at first second (table + 3) n j (λ e. omega arith) (λ e. omega arith) (λ e. omega arith)
  ];
}

abbrev pub added_words : List ℕ → ℕ → ℕ → ℕ → ℕ → List ℕ
added_words words table count key value = with_three words (table + 4 + 2 * count) key value (table + 3) (2 * (count + 1))

key_added : (words : List ℕ) (table b : ℕ) (pairs : List PairWords) (p : PairWords) → IsTable words table b pairs → length pairs < b →
    (k : ℕ) → k < length pairs + 1 → get_or (added_words words table (length pairs) p.key p.value) (table + 4 + 2 * k) 0 ≡ (pair_at (pairs ++ p ∷ []) k).key
key_added words table b pairs p t room k lt = elim (cases_lt k (length pairs)) [
  | inl before ↦
      three_kept words (table + 4 + 2 * length pairs) p.key p.value (table + 3) (2 * (length pairs + 1)) (table + 4 + 2 * k) (λ e. omega arith) (λ e. omega arith) (λ e. omega arith)
      ∙ t.keys k before ∙ ap (λ (q : PairWords). q.key) (sym (pair_before pairs p k before))
  | inr last ↦
      three_first words (table + 4 + 2 * length pairs) p.key p.value (table + 3) (2 * (length pairs + 1)) (table + 4 + 2 * k) (omega arith) (omega (arith, t.within)) (omega arith)
      ∙ ap (λ (q : PairWords). q.key) (sym (pair_last pairs p k (omega arith)))
]

value_added : (words : List ℕ) (table b : ℕ) (pairs : List PairWords) (p : PairWords) → IsTable words table b pairs → length pairs < b →
    (k : ℕ) → k < length pairs + 1 → get_or (added_words words table (length pairs) p.key p.value) (table + 5 + 2 * k) 0 ≡ (pair_at (pairs ++ p ∷ []) k).value
value_added words table b pairs p t room k lt = elim (cases_lt k (length pairs)) [
  | inl before ↦
      three_kept words (table + 4 + 2 * length pairs) p.key p.value (table + 3) (2 * (length pairs + 1)) (table + 5 + 2 * k) (λ e. omega arith) (λ e. omega arith) (λ e. omega arith)
      ∙ t.values k before ∙ ap (λ (q : PairWords). q.value) (sym (pair_before pairs p k before))
  | inr last ↦
      three_second words (table + 4 + 2 * length pairs) p.key p.value (table + 3) (2 * (length pairs + 1)) (table + 5 + 2 * k) (omega arith) (omega (arith, t.within)) (omega arith)
      ∙ ap (λ (q : PairWords). q.value) (sym (pair_last pairs p k (omega arith)))
]

-- the keys stay distinct
added_once : (words : List ℕ) (table b : ℕ) (pairs : List PairWords) (p : PairWords) → IsTable words table b pairs → HasNo pairs p.key →
    (i k : ℕ) → i < length pairs + 1 → k < length pairs + 1 → (pair_at (pairs ++ p ∷ []) i).key ≡ (pair_at (pairs ++ p ∷ []) k).key → i ≡ k
added_once words table b pairs p t none i k bi bk e =
    elim (cases_lt i (length pairs)) [
      | inl li ↦ elim (cases_lt k (length pairs)) [
        | inl lk ↦ t.once i k li lk (ap (λ (q : PairWords). q.key) (sym (pair_before pairs p i li)) ∙ e ∙ ap (λ (q : PairWords). q.key) (pair_before pairs p k lk))
        | inr gk ↦ absurd (none i li (ap (λ (q : PairWords). q.key) (sym (pair_before pairs p i li)) ∙ e ∙ ap (λ (q : PairWords). q.key) (pair_last pairs p k (omega arith))))
      ]
      | inr gi ↦ elim (cases_lt k (length pairs)) [
        | inl lk ↦ absurd (none k lk (ap (λ (q : PairWords). q.key) (sym (pair_before pairs p k lk)) ∙ sym e ∙ ap (λ (q : PairWords). q.key) (pair_last pairs p i (omega arith))))
        | inr gk ↦ omega arith
      ]
    ]

pub added : (words : List ℕ) (table b count : ℕ) (pairs : List PairWords) (p : PairWords) → IsTable words table b pairs → count ≡ length pairs → length pairs < b → HasNo pairs p.key →
    Becomes words (added_words words table count p.key p.value) table b (pairs ++ p ∷ [])
added words table b count pairs p t counted room none =
    subst (λ (n : ℕ). Becomes words (added_words words table n p.key p.value) table b (pairs ++ p ∷ [])) (sym counted) (at (length-append pairs (p ∷ [])))
  where
    at : length (pairs ++ p ∷ []) ≡ length pairs + 1 → Becomes words (added_words words table (length pairs) p.key p.value) table b (pairs ++ p ∷ [])
    at len =
        let n = length pairs in
        let stays = λ (j : ℕ) (a : j ≡ table + 4 + 2 * n → ⊥) (d : j ≡ table + 4 + 2 * n + 1 → ⊥) (c : j ≡ table + 3 → ⊥). three_kept words (table + 4 + 2 * n) p.key p.value (table + 3) (2 * (n + 1)) j a d c in
        let long = three_long words (table + 4 + 2 * n) p.key p.value (table + 3) (2 * (n + 1)) in
        record {
          is = record {
            least = t.least;
            most = t.most;
            within = omega (arith, t.within, long);
            low = t.low;
            header = stays table (λ e. omega arith) (λ e. omega arith) (λ e. omega arith) ∙ t.header;
            flag = stays (table + 2) (λ e. omega arith) (λ e. omega arith) (λ e. omega arith) ∙ t.flag;
            count = three_count words (table + 4 + 2 * n) p.key p.value (table + 3) (2 * (n + 1)) (omega arith) (omega (arith, t.within)) ∙ ap (λ (m : ℕ). 2 * m) (sym len);
            room = omega (arith, len);
            keys = λ k lt. key_added words table b pairs p t room k (omega (arith, len));
            values = λ k lt. value_added words table b pairs p t room k (omega (arith, len));
            unbound = λ i from to. stays (table + 4 + i) (λ e. omega (arith, len)) (λ e. omega (arith, len)) (λ e. omega arith) ∙ t.unbound i (omega (arith, len)) to;
            kept = λ i to. stays (table + 4 + 2 * b + i) (λ e. omega arith) (λ e. omega arith) (λ e. omega arith) ∙ t.kept i to;
            once = λ i k bi bk e. added_once words table b pairs p t none i k (omega (arith, len)) (omega (arith, len)) e;
          };
          weakness = stays (table + 1) (λ e. omega arith) (λ e. omega arith) (λ e. omega arith);
          elsewhere = three_inside words table b (table + 4 + 2 * n) p.key p.value (2 * (n + 1)) (omega arith) (omega arith);
        }

-- ---- one pair less

length_without : (pairs : List PairWords) (slot : ℕ) → slot < length pairs → length (without pairs slot) + 1 ≡ length pairs
length_without pairs slot lt =
    let all = length-append (take slot pairs) (drop (slot + 1) pairs) in
    let front = length-take-le slot pairs (omega arith) in
    let back = length-drop (slot + 1) pairs in
    omega (arith, all, front, back)

front_pair : (pairs : List PairWords) (slot k : ℕ) → slot < length pairs → k < slot → pair_at (without pairs slot) k ≡ pair_at pairs k
front_pair pairs slot k lt low =
    let front = length-take-le slot pairs (omega arith) in
    get_or-append (take slot pairs) (drop (slot + 1) pairs) no_pair k (omega (arith, front)) ∙ get_or-take slot pairs k no_pair low

back_pair : (pairs : List PairWords) (slot k : ℕ) → slot < length pairs → slot ≤ k → pair_at (without pairs slot) k ≡ pair_at pairs (k + 1)
back_pair pairs slot k lt high =
    let front = length-take-le slot pairs (omega arith) in
    get_or-append_right (take slot pairs) (drop (slot + 1) pairs) k no_pair (omega (arith, front))
    ∙ get_or-drop (slot + 1) pairs (k - length (take slot pairs)) no_pair
    ∙ (let e : slot + 1 + (k - length (take slot pairs)) ≡ k + 1 = omega (arith, front) in ap (λ (i : ℕ). pair_at pairs i) e)

abbrev pub removed_words : List ℕ → ℕ → ℕ → List ℕ
removed_words mid table last = with_three mid (table + 4 + 2 * last) 0x51 0x51 (table + 3) (2 * last)

-- a word of a pair after the pairs have closed up
closed : (words mid : List ℕ) (table slot last k d : ℕ) → ClosesUp words (table + 4 + 2 * slot) (table + 4 + 2 * last) mid → k < last → slot ≤ k → d < 2 →
    get_or mid (table + 4 + d + 2 * k) 0 ≡ get_or words (table + 4 + d + 2 * (k + 1)) 0
closed words mid table slot last k d c lt high two =
    c.moved (table + 4 + d + 2 * k) (omega arith) (omega arith)
    ∙ (let e : table + 4 + d + 2 * k + 2 ≡ table + 4 + d + 2 * (k + 1) = omega arith in ap (λ (i : ℕ). get_or words i 0) e)

-- a word of the table that is no part of a pair, or of one before
open_word : (words mid : List ℕ) (table slot last j : ℕ) → ClosesUp words (table + 4 + 2 * slot) (table + 4 + 2 * last) mid → (j < table + 4 + 2 * slot) ⊎ (table + 4 + 2 * last + 2 ≤ j) → (j ≡ table + 3 → ⊥) → slot ≤ last →
    get_or (removed_words mid table last) j 0 ≡ get_or words j 0
open_word words mid table slot last j c out other order =
    three_kept mid (table + 4 + 2 * last) 0x51 0x51 (table + 3) (2 * last) j (λ e. elim out [ inl low ↦ omega arith | inr high ↦ omega arith ]) (λ e. elim out [ inl low ↦ omega arith | inr high ↦ omega arith ]) other
    ∙ c.others j (elim out [ inl low ↦ inl low | inr high ↦ inr (omega arith) ])

pair_word : (words mid : List ℕ) (table slot last k d : ℕ) → ClosesUp words (table + 4 + 2 * slot) (table + 4 + 2 * last) mid → k < last → slot ≤ last → d < 2 →
    get_or (removed_words mid table last) (table + 4 + d + 2 * k) 0 ≡ get_or mid (table + 4 + d + 2 * k) 0
pair_word words mid table slot last k d c lt order two =
    three_kept mid (table + 4 + 2 * last) 0x51 0x51 (table + 3) (2 * last) (table + 4 + d + 2 * k) (λ e. omega arith) (λ e. omega arith) (λ e. omega arith)

key_left : (words mid : List ℕ) (table b slot last : ℕ) (pairs : List PairWords) → IsTable words table b pairs → ClosesUp words (table + 4 + 2 * slot) (table + 4 + 2 * last) mid → slot < length pairs → last + 1 ≡ length pairs →
    (k : ℕ) → k < last → get_or (removed_words mid table last) (table + 4 + 2 * k) 0 ≡ (pair_at (without pairs slot) k).key
key_left words mid table b slot last pairs t c lt counted k below =
    let shift : table + 4 + 0 + 2 * k ≡ table + 4 + 2 * k = omega arith in
    let first = ap (λ (i : ℕ). get_or (removed_words mid table last) i 0) (sym shift) ∙ pair_word words mid table slot last k 0 c below (omega arith) (omega arith) in
    elim (cases_lt k slot) [
      | inl low ↦ first ∙ ap (λ (i : ℕ). get_or mid i 0) shift ∙ c.others (table + 4 + 2 * k) (inl (omega arith)) ∙ t.keys k (omega arith) ∙ ap (λ (q : PairWords). q.key) (sym (front_pair pairs slot k lt low))
      | inr high ↦
          first ∙ closed words mid table slot last k 0 c below high (omega arith)
          ∙ (let e : table + 4 + 0 + 2 * (k + 1) ≡ table + 4 + 2 * (k + 1) = omega arith in ap (λ (i : ℕ). get_or words i 0) e)
          ∙ t.keys (k + 1) (omega arith) ∙ ap (λ (q : PairWords). q.key) (sym (back_pair pairs slot k lt high))
    ]

value_left : (words mid : List ℕ) (table b slot last : ℕ) (pairs : List PairWords) → IsTable words table b pairs → ClosesUp words (table + 4 + 2 * slot) (table + 4 + 2 * last) mid → slot < length pairs → last + 1 ≡ length pairs →
    (k : ℕ) → k < last → get_or (removed_words mid table last) (table + 5 + 2 * k) 0 ≡ (pair_at (without pairs slot) k).value
value_left words mid table b slot last pairs t c lt counted k below =
    let shift : table + 4 + 1 + 2 * k ≡ table + 5 + 2 * k = omega arith in
    let first = ap (λ (i : ℕ). get_or (removed_words mid table last) i 0) (sym shift) ∙ pair_word words mid table slot last k 1 c below (omega arith) (omega arith) in
    elim (cases_lt k slot) [
      | inl low ↦ first ∙ ap (λ (i : ℕ). get_or mid i 0) shift ∙ c.others (table + 5 + 2 * k) (inl (omega arith)) ∙ t.values k (omega arith) ∙ ap (λ (q : PairWords). q.value) (sym (front_pair pairs slot k lt low))
      | inr high ↦
          first ∙ closed words mid table slot last k 1 c below high (omega arith)
          ∙ (let e : table + 4 + 1 + 2 * (k + 1) ≡ table + 5 + 2 * (k + 1) = omega arith in ap (λ (i : ℕ). get_or words i 0) e)
          ∙ t.values (k + 1) (omega arith) ∙ ap (λ (q : PairWords). q.value) (sym (back_pair pairs slot k lt high))
    ]

-- the words behind the last pair
unbound_left : (words mid : List ℕ) (table b slot last : ℕ) (pairs : List PairWords) → IsTable words table b pairs → ClosesUp words (table + 4 + 2 * slot) (table + 4 + 2 * last) mid → slot < length pairs → last + 1 ≡ length pairs →
    (i : ℕ) → 2 * last ≤ i → i < 2 * b → get_or (removed_words mid table last) (table + 4 + i) 0 ≡ 0x51
unbound_left words mid table b slot last pairs t c lt counted i from to =
    let long = c.long in
    elim (cases_eq i (2 * last)) [
      | inl first ↦ three_first mid (table + 4 + 2 * last) 0x51 0x51 (table + 3) (2 * last) (table + 4 + i) (omega arith) (omega (arith, t.within, t.room, long)) (omega arith)
      | inr other ↦ elim (cases_eq i (2 * last + 1)) [
        | inl second ↦ three_second mid (table + 4 + 2 * last) 0x51 0x51 (table + 3) (2 * last) (table + 4 + i) (omega arith) (omega (arith, t.within, t.room, long)) (omega arith)
        | inr beyond ↦ open_word words mid table slot last (table + 4 + i) c (inr (omega arith)) (λ e. omega arith) (omega arith) ∙ t.unbound i (omega arith) to
      ]
    ]

left_once : (words : List ℕ) (table b slot last : ℕ) (pairs : List PairWords) → IsTable words table b pairs → slot < length pairs → last + 1 ≡ length pairs →
    (i k : ℕ) → i < last → k < last → (pair_at (without pairs slot) i).key ≡ (pair_at (without pairs slot) k).key → i ≡ k
left_once words table b slot last pairs t lt counted i k bi bk e =
    elim (cases_lt i slot) [
      | inl li ↦ elim (cases_lt k slot) [
        | inl lk ↦ t.once i k (omega arith) (omega arith) (at (sym (front_pair pairs slot i lt li)) e (front_pair pairs slot k lt lk))
        | inr gk ↦ let same = t.once i (k + 1) (omega arith) (omega arith) (at (sym (front_pair pairs slot i lt li)) e (back_pair pairs slot k lt gk)) in absurd (omega arith)
      ]
      | inr gi ↦ elim (cases_lt k slot) [
        | inl lk ↦ let same = t.once (i + 1) k (omega arith) (omega arith) (at (sym (back_pair pairs slot i lt gi)) e (front_pair pairs slot k lt lk)) in absurd (omega arith)
        | inr gk ↦ let same = t.once (i + 1) (k + 1) (omega arith) (omega arith) (at (sym (back_pair pairs slot i lt gi)) e (back_pair pairs slot k lt gk)) in omega arith
      ]
    ]
  where
    at : {x y z w : PairWords} → x ≡ y → y.key ≡ z.key → z ≡ w → x.key ≡ w.key
    at p h q = ap (λ (v : PairWords). v.key) p ∙ h ∙ ap (λ (v : PairWords). v.key) q

closes_inside : (words mid : List ℕ) (table b from to : ℕ) → ClosesUp words from to mid → table ≤ from → to ≤ table + 4 + 4 * b → StaysElsewhere words mid table b
closes_inside words mid table b from to c low high = record {
  long = c.long;
  same = λ j out. c.others j (elim out [ inl below ↦ inl (omega arith) | inr above ↦ inr (omega arith) ]);
}

pub removed : (words mid : List ℕ) (table b slot last : ℕ) (pairs : List PairWords) → IsTable words table b pairs → ClosesUp words (table + 4 + 2 * slot) (table + 4 + 2 * last) mid → slot < length pairs → last + 1 ≡ length pairs →
    Becomes words (removed_words mid table last) table b (without pairs slot)
removed words mid table b slot last pairs t c lt counted =
    let len = length_without pairs slot lt in
    let long = three_long mid (table + 4 + 2 * last) 0x51 0x51 (table + 3) (2 * last) in
    record {
      is = record {
        least = t.least;
        most = t.most;
        within = omega (arith, t.within, long, c.long);
        low = t.low;
        header = open_word words mid table slot last table c (inl (omega arith)) (λ e. omega arith) (omega arith) ∙ t.header;
        flag = open_word words mid table slot last (table + 2) c (inl (omega arith)) (λ e. omega arith) (omega arith) ∙ t.flag;
        count = three_count mid (table + 4 + 2 * last) 0x51 0x51 (table + 3) (2 * last) (omega arith) (omega (arith, t.within, t.room, c.long))
            ∙ (let e : last ≡ length (without pairs slot) = omega (arith, len) in ap (λ (n : ℕ). 2 * n) e);
        room = omega (arith, len, t.room);
        keys = λ k below. key_left words mid table b slot last pairs t c lt counted k (omega (arith, len));
        values = λ k below. value_left words mid table b slot last pairs t c lt counted k (omega (arith, len));
        unbound = λ i from to. unbound_left words mid table b slot last pairs t c lt counted i (omega (arith, len)) to;
        kept = λ i to. open_word words mid table slot last (table + 4 + 2 * b + i) c (inr (omega (arith, t.room))) (λ e. omega arith) (omega arith) ∙ t.kept i to;
        once = λ i k bi bk e. left_once words table b slot last pairs t lt counted i k (omega (arith, len)) (omega (arith, len)) e;
      };
      weakness = open_word words mid table slot last (table + 1) c (inl (omega arith)) (λ e. omega arith) (omega arith);
      elsewhere = then_inside words mid (removed_words mid table last) table b
          (closes_inside words mid table b (table + 4 + 2 * slot) (table + 4 + 2 * last) c (omega arith) (omega (arith, t.room)))
          (three_inside mid table b (table + 4 + 2 * last) 0x51 0x51 (2 * last) (omega arith) (omega (arith, t.room)));
    }
