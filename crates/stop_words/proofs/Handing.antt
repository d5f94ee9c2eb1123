-- The hand of the holder, slot by slot, and the owners of parcels, number by number.
use Rattle.std.proofs.Common.{◌≡◌, ◌≢◌, ◌<◌, ◌≤◌, ◌+◌, ◌-◌, ℕ, zero, suc, Bool, true, false, List, [], ◌∷◌, ◌++◌, Option, None, Some, option_map, map, length, reverse, refl, sym, ap, ◌∙◌, subst, append_assoc, add-one, arith}
use Rattle.std.proofs.lemmas.List.{map-append, reverse-append, reverse-reverse, length-map, length-reverse}
use Rattle.std.specs.Prelude.{if◌then◌else◌, slice_get}
use Rattle.atomic_table.specs.Table.{Me, rest, turned}
use Rattle.stop_words.specs.declared.view.Place.TheVariants.{Holding}
use Rattle.stop_words.specs.declared.view.View.{View}
use Rattle.stop_words.specs.Views.{SeenAll}
use Rattle.stop_words.specs.Places.{is_in}
use Rattle.stop_words.specs.Hands.{label, labels, picked, lying, labelled, hand_at}
use Rattle.stop_words.specs.Owners.{numbers_from}
use Rattle.stop_words.proofs.SeatFacts.{Facts, head_of}
use Rattle.stop_words.proofs.Start.{length-numbers_from}

map-reverse : {A B : Type 0} (f : A → B) (xs : List A) → map f (reverse xs) ≡ reverse (map f xs)
map-reverse f [] = refl
map-reverse f (x ∷ xs) =
    ap (map f) (reverse-append (x ∷ []) xs) ∙ map-append f (reverse xs) (x ∷ []) ∙ ap (λ l. l ++ f x ∷ []) (map-reverse f xs) ∙ sym (reverse-append (f x ∷ []) (map f xs))

-- one more at the end
pub labelled_snoc : (f : ℕ → Option ℕ) (a i b : ℕ) → b ≡ a + i → labelled f a i ++ (b, f b) ∷ [] ≡ labelled f a (suc i)
labelled_snoc f a zero b e = let h : b ≡ a = omega arith in λ j. (h j, f (h j)) ∷ []
labelled_snoc f a (suc i) b e = ap (λ l. (a, f a) ∷ l) (labelled_snoc f (suc a) i b (omega arith))

pub numbers_snoc : (a i b : ℕ) → b ≡ a + i → numbers_from a i ++ b ∷ [] ≡ numbers_from a (suc i)
numbers_snoc a zero b e = let h : b ≡ a = omega arith in λ j. h j ∷ []
numbers_snoc a (suc i) b e = ap (λ l. a ∷ l) (numbers_snoc (suc a) i b (omega arith))

pub numbers_split : (a i b j n : ℕ) → b ≡ a + i → n ≡ i + j → numbers_from a i ++ numbers_from b j ≡ numbers_from a n
numbers_split a zero b j n e m = let h : b ≡ a = omega arith in let k : j ≡ n = omega arith in λ x. numbers_from (h x) (k x)
numbers_split a (suc i) b j zero e m = absurd (omega arith)
numbers_split a (suc i) b j (suc n) e m = ap (λ l. a ∷ l) (numbers_split (suc a) i b j n (omega arith) (omega arith))

-- where all of a range were seen, their slots are picked
pub picked_run : (xs : List ℕ) (f : ℕ → Option ℕ) (a m : ℕ) → ((u : ℕ) → a ≤ u → u < a + m → is_in u xs ≡ true) → picked xs f a m ≡ labelled f a m
picked_run xs f a zero all = refl
picked_run xs f a (suc m) all =
    ap (λ b. if b then (a, f a) ∷ picked xs f (suc a) m else picked xs f (suc a) m) (all a (omega arith) (omega arith))
    ∙ ap (λ l. (a, f a) ∷ l) (picked_run xs f (suc a) m (λ u lo hi. all u (omega arith) (omega arith)))

if_append : {A : Type 0} (b : Bool) (x : A) (xs ys zs : List A) → xs ≡ ys ++ zs → (if b then x ∷ xs else xs) ≡ (if b then x ∷ ys else ys) ++ zs
if_append true x xs ys zs e = ap (λ l. x ∷ l) e
if_append false x xs ys zs e = e

picked_split : (xs : List ℕ) (f : ℕ → Option ℕ) (a i b j n : ℕ) → b ≡ a + i → n ≡ i + j → picked xs f a n ≡ picked xs f a i ++ picked xs f b j
picked_split xs f a zero b j n e m = let h : a ≡ b = omega arith in let k : n ≡ j = omega arith in λ x. picked xs f (h x) (k x)
picked_split xs f a (suc i) b j zero e m = absurd (omega arith)
picked_split xs f a (suc i) b j (suc n) e m = if_append (is_in a xs) (a, f a) (picked xs f (suc a) n) (picked xs f (suc a) i) (picked xs f b j) (picked_split xs f (suc a) i b j n (omega arith) (omega arith))

-- where all others were seen, the slots of all others are picked
pub picked_others : (xs : List ℕ) (f : ℕ → Option ℕ) (t n : ℕ) → t < n → is_in t xs ≡ false → ((u : ℕ) → u < n → u ≢ t → is_in u xs ≡ true) → picked xs f 0 n ≡ labelled f 0 t ++ labelled f (t + 1) (n - (t + 1))
picked_others xs f t n lt not_own all =
    picked_split xs f 0 t t (suc (n - (t + 1))) n (omega arith) (omega arith)
    ∙ (λ j. picked_run xs f 0 t (λ u lo hi. all u (omega arith) (λ e. omega arith)) j ++ own j)
  where
    own : picked xs f t (suc (n - (t + 1))) ≡ labelled f (t + 1) (n - (t + 1))
    own =
        ap (λ b. if b then (t, f t) ∷ picked xs f (suc t) (n - (t + 1)) else picked xs f (suc t) (n - (t + 1))) not_own
        ∙ ap (λ k. picked xs f k (n - (t + 1))) (sym (add-one t))
        ∙ picked_run xs f (t + 1) (n - (t + 1)) (λ u lo hi. all u (omega arith) (λ e. omega arith))

-- one slot less is to come, and it goes behind the others
pub next_slot : (f h : ℕ → Option ℕ) (from to slot : ℕ) (tail shown : List (ℕ × Option ℕ)) → from ≤ slot → slot < to → shown ≡ labelled f slot (to - slot) ++ (tail ++ labelled h from (slot - from))
    → (shown ≡ (slot, f slot) ∷ (labelled f (slot + 1) (to - (slot + 1)) ++ (tail ++ labelled h from (slot - from))))
    × ((labelled f (slot + 1) (to - (slot + 1)) ++ (tail ++ labelled h from (slot - from))) ++ (slot, h slot) ∷ [] ≡ labelled f (slot + 1) (to - (slot + 1)) ++ (tail ++ labelled h from (slot + 1 - from)))
next_slot f h from to slot tail shown lo hi e =
    let more : List (ℕ × Option ℕ) = labelled f (slot + 1) (to - (slot + 1)) in
    let done : List (ℕ × Option ℕ) = labelled h from (slot - from) in
    let count : to - slot ≡ suc (to - (slot + 1)) = omega arith in
    let gone : slot + 1 - from ≡ suc (slot - from) = omega arith in (
      e ∙ ap (λ k. labelled f slot k ++ (tail ++ done)) count ∙ ap (λ k. (slot, f slot) ∷ (labelled f k (to - (slot + 1)) ++ (tail ++ done))) (sym (add-one slot)),
      append_assoc more (tail ++ done) ((slot, h slot) ∷ [])
          ∙ ap (λ l. more ++ l) (append_assoc tail done ((slot, h slot) ∷ []) ∙ ap (λ l. tail ++ l) (labelled_snoc h from (slot - from) slot (omega arith) ∙ ap (labelled h from) (sym gone))),
    )

module _ {P : Type 0} (owner : P → ℕ) where
  -- the hand after the first slot was emptied and went behind the others
  pub turned_hand : (slot : ℕ) (o : Option ℕ) (x : Option P) (old : List (ℕ × Option P)) (more : List (ℕ × Option ℕ)) → labels owner old ≡ (slot, o) ∷ more → labels owner (rest old ++ (slot, x) ∷ []) ≡ more ++ (slot, option_map owner x) ∷ []
  turned_hand slot o x old more shows = map-append (label owner) (rest old) ((slot, x) ∷ []) ∙ ap (λ l. l ++ (slot, option_map owner x) ∷ []) (head_of owner slot o more old shows).3

  -- one more parcel
  pub more_parcels : (from slot : ℕ) (old now new : List P) (x : P) → from ≤ slot → owner x ≡ slot → new ≡ now ++ x ∷ [] → (ys : List P) × (now ≡ old ++ ys) × (map owner ys ≡ numbers_from from (slot - from))
      → (ys : List P) × (new ≡ old ++ ys) × (map owner ys ≡ numbers_from from (slot + 1 - from))
  more_parcels from slot old now new x lo is pushed had =
      let gone : slot + 1 - from ≡ suc (slot - from) = omega arith in (
        had.0 ++ x ∷ [],
        pushed ∙ ap (λ l. l ++ x ∷ []) had.1 ∙ append_assoc old had.0 (x ∷ []),
        map-append owner had.0 (x ∷ []) ∙ (λ j. had.2 j ++ is j ∷ []) ∙ numbers_snoc from (slot - from) slot (omega arith) ∙ ap (numbers_from from) (sym gone),
      )

-- the first slot of a range, and the others
pub first_slot : (f : ℕ → Option ℕ) (slot to : ℕ) (tail shown : List (ℕ × Option ℕ)) → slot < to → shown ≡ labelled f slot (to - slot) ++ tail → shown ≡ (slot, f slot) ∷ (labelled f (slot + 1) (to - (slot + 1)) ++ tail)
first_slot f slot to tail shown lt e =
    let count : to - slot ≡ suc (to - (slot + 1)) = omega arith in
    e ∙ ap (λ k. labelled f slot k ++ tail) count ∙ ap (λ k. (slot, f slot) ∷ (labelled f k (to - (slot + 1)) ++ tail)) (sym (add-one slot))

pub first_number : (slot to : ℕ) (more shown : List ℕ) → slot < to → shown ≡ numbers_from slot (to - slot) ++ more → shown ≡ slot ∷ (numbers_from (slot + 1) (to - (slot + 1)) ++ more)
first_number slot to more shown lt e =
    let count : to - slot ≡ suc (to - (slot + 1)) = omega arith in
    e ∙ ap (λ k. numbers_from slot k ++ more) count ∙ ap (λ k. slot ∷ (numbers_from k (to - (slot + 1)) ++ more)) (sym (add-one slot))

module _ {P : Type 0} (owner : P → ℕ) where
  -- the parcel that was popped, and those that are left
  pub popped : (items left : List P) (x : P) (n : ℕ) (ns : List ℕ) → items ≡ left ++ x ∷ [] → reverse (map owner items) ≡ n ∷ ns → (owner x ≡ n) × (reverse (map owner left) ≡ ns)
  popped items left x n ns is shows =
      let both : owner x ∷ reverse (map owner left) ≡ n ∷ ns =
      sym (reverse-append (map owner left) (owner x ∷ [])) ∙ sym (ap reverse (ap (map owner) is ∙ map-append owner left (x ∷ []))) ∙ shows in
      let first : owner x ≡ n = cc in
      let others : reverse (map owner left) ≡ ns = cc in
      (first, others)

  -- there is one where a number is left
  pub some_left : (items : List P) (n : ℕ) (ns : List ℕ) → reverse (map owner items) ≡ n ∷ ns → 0 < length items
  some_left [] n ns e = absurd (cc)
  some_left (x ∷ xs) n ns e = omega arith

  pub none_left : (items : List P) → reverse (map owner items) ≡ [] → items ≡ []
  none_left items e =
      let size : length items ≡ 0 = sym (length-map items owner) ∙ sym (length-reverse (map owner items)) ∙ ap length e in empty items size
    where
      empty : (xs : List P) → length xs ≡ 0 → xs ≡ []
      empty [] h = refl
      empty (x ∷ xs) h = absurd (omega arith)

  label_first : (hand : List (ℕ × Option P)) (e : ℕ × Option ℕ) (more : List (ℕ × Option ℕ)) → labels owner hand ≡ e ∷ more → labels owner (turned hand) ≡ more ++ e ∷ []
  label_first [] e more s = absurd (cc)
  label_first (x ∷ xs) e more s =
      let q : label owner x ∷ labels owner xs ≡ e ∷ more = s in
      let first : label owner x ≡ e = cc in
      let others : labels owner xs ≡ more = cc in
      map-append (label owner) xs (x ∷ []) ∙ (λ j. others j ++ first j ∷ [])

  -- the own slot goes behind the others
  pub own_last : (f : ℕ → Option ℕ) (t n : ℕ) (hand : List (ℕ × Option P)) → labels owner hand ≡ (t, None) ∷ (labelled f 0 t ++ labelled f (t + 1) (n - (t + 1)))
      → labels owner (turned hand) ≡ labelled f 0 (t - 0) ++ (labelled f (t + 1) (n - (t + 1)) ++ (t, None) ∷ [])
  own_last f t n hand s =
      let zero_off : t ≡ t - 0 = omega arith in
      label_first hand (t, None) (labelled f 0 t ++ labelled f (t + 1) (n - (t + 1))) s ∙ append_assoc (labelled f 0 t) (labelled f (t + 1) (n - (t + 1))) ((t, None) ∷ [])
      ∙ ap (λ k. labelled f 0 k ++ (labelled f (t + 1) (n - (t + 1)) ++ (t, None) ∷ [])) zero_off

  -- the slots below t were emptied and went behind it
  pub own_between : (f h : ℕ → Option ℕ) (t n : ℕ) (shown : List (ℕ × Option ℕ)) → shown ≡ (labelled f (t + 1) (n - (t + 1)) ++ (t, None) ∷ []) ++ labelled h 0 (t - 0)
      → shown ≡ labelled f (t + 1) (n - (t + 1)) ++ ((t, None) ∷ labelled h 0 (t - 0))
  own_between f h t n shown s = s ∙ append_assoc (labelled f (t + 1) (n - (t + 1))) ((t, None) ∷ []) (labelled h 0 (t - 0))

  -- all slots but the own one were emptied
  pub own_first : (h : ℕ → Option ℕ) (t n : ℕ) (shown : List (ℕ × Option ℕ)) → shown ≡ ((t, None) ∷ labelled h 0 (t - 0)) ++ labelled h (t + 1) (n - (t + 1)) → shown ≡ (t, None) ∷ (labelled h 0 t ++ labelled h (t + 1) (n - (t + 1)))
  own_first h t n shown s = let zero_off : t - 0 ≡ t = omega arith in s ∙ ap (λ k. (t, None) ∷ (labelled h 0 k ++ labelled h (t + 1) (n - (t + 1)))) zero_off

  get_mid : (xs : List P) (x : P) (ys : List P) (t : ℕ) → length xs ≡ t → slice_get (xs ++ x ∷ ys) t ≡ Some x
  get_mid [] x ys zero e = refl
  get_mid [] x ys (suc t) e = absurd (omega arith)
  get_mid (z ∷ xs) x ys zero e = absurd (omega arith)
  get_mid (z ∷ xs) x ys (suc t) e = get_mid xs x ys t (omega arith)

  -- the parcels of those below t, the own one, and those above it
  pub all_parcels : (t n : ℕ) → t < n → (i0 i1 i2 i3 : List P) (own : P) → i0 ≡ [] → owner own ≡ t
      → (ys : List P) × (i1 ≡ i0 ++ ys) × (map owner ys ≡ numbers_from 0 (t - 0)) → i2 ≡ i1 ++ own ∷ [] → (ys : List P) × (i3 ≡ i2 ++ ys) × (map owner ys ≡ numbers_from (t + 1) (n - (t + 1)))
      → (map owner i3 ≡ numbers_from 0 n) × (slice_get i3 t ≡ Some own)
  all_parcels t n lt i0 i1 i2 i3 own none owned below pushed above =
      let zero_off : t - 0 ≡ t = omega arith in
      let first : i1 ≡ below.0 = below.1 ∙ ap (λ l. l ++ below.0) none in
      let whole : i3 ≡ below.0 ++ (own ∷ above.0) = above.1 ∙ ap (λ l. l ++ above.0) (pushed ∙ ap (λ l. l ++ own ∷ []) first) ∙ append_assoc below.0 (own ∷ []) above.0 in
      let owners : map owner below.0 ≡ numbers_from 0 t = below.2 ∙ ap (numbers_from 0) zero_off in
      let rest_of : owner own ∷ map owner above.0 ≡ numbers_from t (suc (n - (t + 1))) = (λ j. owned j ∷ above.2 j) ∙ ap (λ k. t ∷ numbers_from k (n - (t + 1))) (add-one t) in (
        ap (map owner) whole ∙ map-append owner below.0 (own ∷ above.0) ∙ (λ j. owners j ++ rest_of j) ∙ numbers_split 0 t t (suc (n - (t + 1))) n (omega arith) (omega arith),
        ap (λ l. slice_get l t) whole ∙ get_mid below.0 own above.0 t (sym (length-map below.0 owner) ∙ ap length owners ∙ length-numbers_from 0 t),
      )

  -- the parcel that was popped after t others lay at place t
  pub own_there : (items back left less : List P) (own : P) (t : ℕ) → back ≡ reverse items → (put : List P) × (back ≡ left ++ put) × (length put ≡ t - 0) → left ≡ less ++ own ∷ [] → slice_get items t ≡ Some own
  own_there items back left less own t is off last =
      ap (λ l. slice_get l t)
      (sym (reverse-reverse items) ∙ ap reverse (sym is ∙ off.1) ∙ reverse-append left off.0 ∙ ap (λ l. reverse off.0 ++ l) (ap reverse last ∙ reverse-append less (own ∷ [])))
      ∙ get_mid (reverse off.0) own (reverse less) t (let r = length-reverse off.0 in let z = off.2 in omega arith)

  -- the parcels in the order in which they are popped
  pub to_pop : (n t : ℕ) (items back : List P) → t < n → map owner items ≡ numbers_from 0 n → back ≡ reverse items → reverse (map owner back) ≡ numbers_from 0 (t - 0) ++ (t ∷ numbers_from (t + 1) (n - (t + 1)))
  to_pop n t items back lt owned is =
      let zero_off : t ≡ t - 0 = omega arith in
      ap (λ l. reverse (map owner l)) is ∙ ap reverse (map-reverse owner items) ∙ reverse-reverse (map owner items) ∙ owned ∙ sym (numbers_split 0 t t (suc (n - (t + 1))) n (omega arith) (omega arith))
      ∙ ap (λ k. numbers_from 0 t ++ (t ∷ numbers_from k (n - (t + 1)))) (sym (add-one t)) ∙ ap (λ k. numbers_from 0 k ++ (t ∷ numbers_from (t + 1) (n - (t + 1)))) zero_off

  -- the hand of a holder that has seen all others parked
  pub holder_hand : (m : Me (Option P) View) (t n slots : ℕ) (o b : Bool) → labels owner m.1 ≡ hand_at m.0.place m.0.thread m.0.seen o slots → m.0.place ≡ Holding → o ≡ b → slots ≡ n → m.0.thread ≡ t → t < n
      → is_in m.0.thread m.0.seen ≡ false → SeenAll m.0 n → labels owner m.1 ≡ (t, None) ∷ (labelled (lying b) 0 t ++ labelled (lying b) (t + 1) (n - (t + 1)))
  holder_hand m t n slots o b hand placed out count number lt alone seen =
      hand ∙ (λ j. hand_at (placed j) (number j) m.0.seen (out j) (count j))
      ∙ ap (λ l. (t, None) ∷ l) (picked_others m.0.seen (lying b) t n lt (sym (ap (λ k. is_in k m.0.seen) number) ∙ alone) (λ u hi apart. seen u hi (λ e. apart (e ∙ number))))

  -- what the seat keeps once the parcels are out of the slots
  pub after_gather : (m now_m : Me (Option P) View) (t n thread_no slots now : ℕ) (o : Bool) → Facts owner thread_no o slots m → now ≡ slots → slots ≡ n → now_m.0 ≡ m.0 → m.0.place ≡ Holding → m.0.thread ≡ t → t < n → SeenAll m.0 n
      → labels owner now_m.1 ≡ (t, None) ∷ (labelled (lying true) 0 t ++ labelled (lying true) (t + 1) (n - (t + 1))) → Facts owner thread_no true now now_m
  after_gather m now_m t n thread_no slots now o f same count view placed number lt seen shows = subst (λ v. Facts owner thread_no true now (v, now_m.1)) (sym view) (record {
    number = f.number;
    in_range = let l = f.in_range in omega arith;
    idle = f.idle;
    alone = f.alone;
    hand = shows ∙ ap (λ l. (t, None) ∷ l) (sym (picked_others m.0.seen (lying true) t n lt (sym (ap (λ k. is_in k m.0.seen) number) ∙ f.alone) (λ u hi apart. seen u hi (λ e. apart (e ∙ number)))))
        ∙ sym (λ j. hand_at (placed j) (number j) m.0.seen true ((same ∙ count) j));
    gathered = λ z. (placed, λ u hi apart. seen u (omega arith) apart);
  })
