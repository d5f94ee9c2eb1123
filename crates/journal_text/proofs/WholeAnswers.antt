-- All the fields behind an arrow are one answer's, and each answer is read back.
use Rattle.std.proofs.Common.{◌≡◌, ℕ, ℤ, ◌^◌, ◌<◌, ◌≤◌, Bool, true, false, ◌&&◌, eqb, leb, List, [], ◌∷◌, get_or, map, Option, Some, refl, ap, sym, ◌∙◌, subst, arith, inl, inr}
use Rattle.std.specs.Fmt.{decimal, signed_decimal}
use Rattle.std.specs.List.{AllByRecursion}
use Rattle.std.specs.Prelude.{codes}
use Rattle.std.proofs.lemmas.Bool.{cases_Bool, ne_eqb, le-leb}
use Rattle.std.proofs.lemmas.Option.{some_pair_parts, same_Some}
use Rattle.heap_terms.specs.declared.answers.Answer.{Answer}
use Rattle.heap_terms.specs.declared.answers.Answer.TheVariants as answers
use Rattle.heap_terms.specs.declared.answers.Item.{Item}
use Rattle.heap_terms.specs.declared.answers.PageView.TheVariants as views
use Rattle.heap_terms.specs.declared.answers.Refusal.{Refusal}
use Rattle.heap_terms.specs.declared.answers.Refusal.TheVariants as refusals
use Rattle.heap_terms.specs.declared.cells.Value.{Value}
use Rattle.heap_terms.specs.declared.cells.Value.TheVariants as values
use Rattle.heap_terms.specs.declared.kinds.PageType.{PageType}
use Rattle.heap_terms.specs.declared.kinds.PageType.TheVariants as types
use Rattle.heap_terms.specs.Text.{name_text, index_text, value_text, word_text, type_text, refusal_text}
use Rattle.heap_terms.specs.Valid.{IsFixnum}
use Rattle.journal_text.specs.declared.parsing.openings.Filling.{Filling}
use Rattle.journal_text.specs.declared.parsing.openings.Filling.TheVariants as fillings
use Rattle.journal_text.specs.declared.parsing.openings.Opening.{Opening}
use Rattle.journal_text.specs.declared.parsing.openings.Opening.TheVariants as openings
use Rattle.journal_text.specs.AnswerReading.{ending, opening_text, an_opening, a_short_opening, a_long_opening, a_number_64, an_item, an_object, all_of, the_word, a_filling, filling_text, some_ran, read_live, read_ran, three_numbers, read_stat, read_small, read_large, read_filled, read_page, read_worded, second_is_x, read_numeric, placed, read_named, read_opened, read_answer}
use Rattle.journal_text.specs.FieldReading.{a_fixnum, a_word, a_name, an_index, a_value, a_generation}
use Rattle.journal_text.specs.LineReading.{◌>>=◌, first, a_number_32}
use Rattle.journal_text.specs.Ranges.{IsName, IsIndex, IsValue, IsItem, AreIds, IsAnswer, IsNumber32}
use Rattle.journal_text.proofs.Answers.{item_field, object_field, answer_fields, ending_sound, word_exact_at, number_64_exact, filling_exact, object_exact, item_exact, all_sound, all_again}
use Rattle.journal_text.proofs.Binding.{bind_some}
use Rattle.journal_text.proofs.Exact.{IsExact, lettered, number_32_exact, value_exact, generation_exact, name_exact, index_exact, fixnum_exact, word_exact, Fronted, signed_front, decimal_front}
use Rattle.journal_text.proofs.Sequences.{first_sound}
use Rattle.journal_text.proofs.WordsFound.{opening_found}

-- what the fields behind a first one say, with it
abbrev pub Says : List ℕ → List (List ℕ) → Answer → Type 0
Says field fields a = (field ∷ fields ≡ answer_fields a) × IsAnswer a

alone : (field : List ℕ) (made : Answer) (fields : List (List ℕ)) (a : Answer) → answer_fields made ≡ field ∷ [] → IsAnswer made → ending made fields ≡ Some a → Says field fields a
alone field made fields a whole good e =
    let k = ending_sound made a fields e in
    subst (λ (x : Answer). Says field fields x) k.1 (ap (λ (xs : List (List ℕ)). field ∷ xs) k.0 ∙ sym whole, good)

-- a field read by an exact reader, and nothing behind it
one_more : {A : Type 0} {p : List ℕ → Option A} {text : A → List ℕ} {ok : A → Type 0} → IsExact p text ok → (make : A → Answer) (field : List ℕ) (fields : List (List ℕ)) (a : Answer) →
    ((x : A) → answer_fields (make x) ≡ text x ∷ []) → ((x : A) → ok x → IsAnswer (make x)) → (p field >>= λ x. ending (make x) fields) ≡ Some a → Says field fields a
one_more {p} exact make field fields a whole good e =
    let b = bind_some (p field) (λ x. ending (make x) fields) a e in
    let s = exact.sound field b.0 b.1 in
    alone field (make b.0) fields a (whole b.0 ∙ (λ i. sym s.0 i ∷ [])) (good b.0 s.1) b.2

live_sound : (fields : List (List ℕ)) (a : Answer) → read_live fields ≡ Some a → Says (codes "live") fields a
unfolding read_live
live_sound fields a e =
    let b = bind_some (first a_value fields) (λ v. ending (answers.Live v.0) v.1) a e in
    let s = first_sound value_exact fields b.0.0 b.0.1 b.1 in
    let k = ending_sound (answers.Live b.0.0) a b.0.1 b.2 in
    subst (λ (x : Answer). Says (codes "live") fields x) k.1 (ap (λ (xs : List (List ℕ)). codes "live" ∷ xs) (s.0 ∙ ap (λ (xs : List (List ℕ)). value_text b.0.0 ∷ xs) k.0), s.1)

less : (n : ℕ) → n ≤ 4294967295 → IsNumber32 n
less n h = omega (arith, h)

more : (n : ℕ) → IsNumber32 n → n ≤ 4294967295
more n h = omega (arith, h)

pub ids_exact : IsExact a_number_32 decimal IsNumber32
ids_exact = record { sound = λ f x e. let s = number_32_exact.sound f x e in (s.0, less x s.1); again = λ x ok. number_32_exact.again x (more x ok) }

ran_sound : (fields : List (List ℕ)) (a : Answer) → read_ran fields ≡ Some a → Says (codes "ran") fields a
unfolding read_ran
ran_sound fields a e =
    let b = bind_some (all_of a_number_32 fields) some_ran a e in
    let s = all_sound ids_exact fields b.0 b.1 in
    at b.0 (s.0) s.1 b.2
  where
    at : (ids : List ℕ) → fields ≡ map decimal ids → AllByRecursion IsNumber32 ids → some_ran ids ≡ Some a → Says (codes "ran") fields a
    at [] said good e = absurd cc
    at (id ∷ ids) said good e = subst (λ (x : Answer). Says (codes "ran") fields x) (same_Some (answers.Ran (id ∷ ids)) a e) (ap (λ (xs : List (List ℕ)). codes "ran" ∷ xs) said, good)

stat_sound : (fields : List (List ℕ)) (a : Answer) → read_stat fields ≡ Some a → Says (codes "allocated") fields a
unfolding read_stat
stat_sound fields a e =
    let n = bind_some (three_numbers fields) (λ n. ending (answers.Stat n.0.0 n.0.1 n.0.2) n.1) a e in
    let b = bind_some (first a_number_64 fields) _ n.0 n.1 in
    let c = bind_some (first (the_word (codes "cum")) b.0.1) _ n.0 b.2 in
    let d = bind_some (first a_number_64 c.0.1) _ n.0 c.2 in
    let f = bind_some (first (the_word (codes "num")) d.0.1) _ n.0 d.2 in
    let g = bind_some (first a_number_32 f.0.1) _ n.0 f.2 in
    let sb = first_sound number_64_exact fields b.0.0 b.0.1 b.1 in
    let sc = first_sound (word_exact_at (codes "cum")) b.0.1 c.0.0 c.0.1 c.1 in
    let sd = first_sound number_64_exact c.0.1 d.0.0 d.0.1 d.1 in
    let sf = first_sound (word_exact_at (codes "num")) d.0.1 f.0.0 f.0.1 f.1 in
    let sg = first_sound ids_exact f.0.1 g.0.0 g.0.1 g.1 in
    let k = some_pair_parts (b.0.0, d.0.0, g.0.0) n.0.0 g.0.1 n.0.1 g.2 in
    let end = ending_sound (answers.Stat n.0.0.0 n.0.0.1 n.0.0.2) a n.0.1 n.2 in
    let said : fields ≡ decimal b.0.0 ∷ codes "cum" ∷ decimal d.0.0 ∷ codes "num" ∷ decimal g.0.0 ∷ [] =
    sb.0 ∙ ap (λ (xs : List (List ℕ)). decimal b.0.0 ∷ xs) (sc.0 ∙ ap (λ (xs : List (List ℕ)). codes "cum" ∷ xs) (sd.0 ∙ ap (λ (xs : List (List ℕ)). decimal d.0.0 ∷ xs) (sf.0 ∙ ap (λ (xs : List (List ℕ)). codes "num" ∷ xs) (sg.0 ∙ ap (λ (xs : List (List ℕ)). decimal g.0.0 ∷ xs) (k.1 ∙ end.0))))) in
    let made : answers.Stat b.0.0 d.0.0 g.0.0 ≡ a = ap (λ (t : ℕ × ℕ × ℕ). answers.Stat t.0 t.1 t.2) k.0 ∙ end.1 in
    subst (λ (x : Answer). Says (codes "allocated") fields x) made (ap (λ (xs : List (List ℕ)). codes "allocated" ∷ xs) said, (omega (arith, sb.1), omega (arith, sd.1), sg.1))

small_sound : (ty : PageType) (g : ℕ) (fields : List (List ℕ)) (a : Answer) → g ≤ 5 → read_small ty g fields ≡ Some a →
    (type_text ty ∷ lettered 103 g ∷ codes "fill" ∷ fields ≡ answer_fields a) × IsAnswer a
unfolding read_small
small_sound ty g fields a ok e =
    let b = bind_some (first a_number_32 fields) (λ fill. all_of an_item fill.1 >>= λ items. Some (answers.Page (views.Small ty g fill.0 items))) a e in
    let c = bind_some (all_of an_item b.0.1) (λ items. Some (answers.Page (views.Small ty g b.0.0 items))) a b.2 in
    let s = first_sound ids_exact fields b.0.0 b.0.1 b.1 in
    let t = all_sound item_exact b.0.1 c.0 c.1 in
    subst (λ (x : Answer). (type_text ty ∷ lettered 103 g ∷ codes "fill" ∷ fields ≡ answer_fields x) × IsAnswer x) (same_Some (answers.Page (views.Small ty g b.0.0 c.0)) a c.2)
    (ap (λ (xs : List (List ℕ)). type_text ty ∷ lettered 103 g ∷ codes "fill" ∷ xs) (s.0 ∙ ap (λ (xs : List (List ℕ)). decimal b.0.0 ∷ xs) t.0), (ok, s.1, t.1))

large_sound : (ty : PageType) (g : ℕ) (fields : List (List ℕ)) (a : Answer) → g ≤ 5 → read_large ty g fields ≡ Some a →
    (type_text ty ∷ lettered 103 g ∷ codes "large" ∷ fields ≡ answer_fields a) × IsAnswer a
unfolding read_large
large_sound ty g fields a ok e =
    let b = bind_some (first a_number_32 fields) (λ pages. first an_object pages.1 >>= λ o. ending (answers.Page (views.Large ty g pages.0 o.0.0 o.0.1)) o.1) a e in
    let c = bind_some (first an_object b.0.1) (λ o. ending (answers.Page (views.Large ty g b.0.0 o.0.0 o.0.1)) o.1) a b.2 in
    let s = first_sound ids_exact fields b.0.0 b.0.1 b.1 in
    let t = first_sound object_exact b.0.1 c.0.0 c.0.1 c.1 in
    let k = ending_sound (answers.Page (views.Large ty g b.0.0 c.0.0.0 c.0.0.1)) a c.0.1 c.2 in
    subst (λ (x : Answer). (type_text ty ∷ lettered 103 g ∷ codes "large" ∷ fields ≡ answer_fields x) × IsAnswer x) k.1
    (ap (λ (xs : List (List ℕ)). type_text ty ∷ lettered 103 g ∷ codes "large" ∷ xs) (s.0 ∙ ap (λ (xs : List (List ℕ)). decimal b.0.0 ∷ xs) (t.0 ∙ ap (λ (xs : List (List ℕ)). object_field c.0.0 ∷ xs) k.0)), (ok, s.1, t.1.0, t.1.1))

page_sound : (ty : PageType) (fields : List (List ℕ)) (a : Answer) → read_page ty fields ≡ Some a → Says (type_text ty) fields a
unfolding read_page
page_sound ty fields a e =
    let b = bind_some (first a_generation fields) (λ g. first a_filling g.1 >>= λ w. read_filled w.0 ty g.0 w.1) a e in
    let c = bind_some (first a_filling b.0.1) (λ w. read_filled w.0 ty b.0.0 w.1) a b.2 in
    let s = first_sound generation_exact fields b.0.0 b.0.1 b.1 in
    let t = first_sound filling_exact b.0.1 c.0.0 c.0.1 c.1 in
    let k = at c.0.0 b.0.0 c.0.1 s.1 c.2 in
    (ap (λ (xs : List (List ℕ)). type_text ty ∷ xs) (s.0 ∙ ap (λ (xs : List (List ℕ)). lettered 103 b.0.0 ∷ xs) t.0) ∙ k.0, k.1)
  where
    at : (w : Filling) (g : ℕ) (rest : List (List ℕ)) → g ≤ 5 → read_filled w ty g rest ≡ Some a → (type_text ty ∷ lettered 103 g ∷ filling_text w ∷ rest ≡ answer_fields a) × IsAnswer a
    at fillings.Fill g rest ok e = small_sound ty g rest a ok e
    at fillings.Large g rest ok e = large_sound ty g rest a ok e

worded_sound : (o : Opening) (fields : List (List ℕ)) (a : Answer) → read_worded o fields ≡ Some a → Says (opening_text o) fields a
unfolding read_worded
worded_sound openings.Done fields a e = alone (codes "ok") answers.Done fields a refl tt e
worded_sound openings.Yes fields a e = alone (codes "yes") answers.Yes fields a refl tt e
worded_sound openings.No fields a e = alone (codes "no") answers.No fields a refl tt e
worded_sound openings.Absent fields a e = alone (codes "none") answers.Absent fields a refl tt e
worded_sound openings.Broken fields a e = alone (codes "broken") answers.Broken fields a refl tt e
worded_sound openings.Nil fields a e = alone (codes "nil") (answers.Val values.Nil) fields a refl tt e
worded_sound openings.Free fields a e = alone (codes "free") (answers.Page views.Free) fields a refl tt e
worded_sound openings.Live fields a e = live_sound fields a e
worded_sound openings.Ran fields a e = ran_sound fields a e
worded_sound openings.Stat fields a e = stat_sound fields a e
worded_sound (openings.Page ty) fields a e = page_sound ty fields a e
worded_sound (openings.Refused why) fields a e = alone (refusal_text why) (answers.Refused why) fields a refl tt e

opened_sound : (field : List ℕ) (fields : List (List ℕ)) (a : Answer) → read_opened field fields ≡ Some a → Says field fields a
opened_sound field fields a e =
    let b = bind_some (an_opening field) (λ o. read_worded o fields) a e in
    let s = opening_found field b.0 b.1 in
    subst (λ (f : List ℕ). Says f fields a) (sym s) (worded_sound b.0 fields a b.2)

placed_sound : (name : ℕ) (fields : List (List ℕ)) (a : Answer) → IsName name → placed name fields ≡ Some a → Says (name_text name) fields a
placed_sound name [] a ok e = subst (λ (x : Answer). Says (name_text name) [] x) (same_Some (answers.Val (values.Ref name)) a e) (refl, ok)
placed_sound name (f ∷ fields) a ok e =
    let b = bind_some (an_index f) (λ index. ending (answers.Placed name index) fields) a e in
    let s = index_exact.sound f b.0 b.1 in
    let k = ending_sound (answers.Placed name b.0) a fields b.2 in
    subst (λ (x : Answer). Says (name_text name) (f ∷ fields) x) k.1 ((λ i. name_text name ∷ s.0 i ∷ k.0 i), (ok, s.1))

named_sound : (field : List ℕ) (fields : List (List ℕ)) (a : Answer) → read_named field fields ≡ Some a → Says field fields a
unfolding read_named
named_sound field fields a e =
    let b = bind_some (a_name field) (λ name. placed name fields) a e in
    let s = name_exact.sound field b.0 b.1 in
    subst (λ (f : List ℕ). Says f fields a) (sym s.0) (placed_sound b.0 fields a s.1 b.2)

numeric_sound : (counts : Bool) (field : List ℕ) (fields : List (List ℕ)) (a : Answer) → read_numeric counts field fields ≡ Some a → Says field fields a
unfolding read_numeric
numeric_sound true field fields a e = one_more number_64_exact answers.Count field fields a (λ n. refl) (λ n ok. omega (arith, ok)) e
numeric_sound false field fields a e = elim (cases_Bool (second_is_x field)) [
  | inl hex ↦ one_more word_exact answers.Word field fields a (λ n. refl) (λ n ok. ok) (rw hex at e)
  | inr dec ↦ one_more fixnum_exact (λ z. answers.Val (values.Fix z)) field fields a (λ n. refl) (λ n ok. ok) (rw dec at e)
]

pub answer_sound : (counts : Bool) (fields : List (List ℕ)) (a : Answer) → read_answer counts fields ≡ Some a → (fields ≡ answer_fields a) × IsAnswer a
unfolding read_answer
answer_sound counts [] a e = absurd cc
answer_sound counts ([] ∷ fields) a e = absurd cc
answer_sound counts ((b ∷ rest) ∷ fields) a e = elim (cases_Bool (leb 45 b && leb b 57)) [
  | inl number ↦ numeric_sound counts (b ∷ rest) fields a (rw number at e)
  | inr other ↦ elim (cases_Bool (eqb b 35)) [
    | inl hash ↦ named_sound (b ∷ rest) fields a (rw (other, hash) at e)
    | inr word ↦ opened_sound (b ∷ rest) fields a (rw (other, word) at e)
  ]
]

-- ---- back again

-- whether the command counts, as far as the answer tells
abbrev pub Suits : Bool → Answer → Type 0
Suits counts (answers.Val v) = counts ≡ false
Suits counts (answers.Word w) = counts ≡ false
Suits counts (answers.Count n) = counts ≡ true
Suits counts answers.Done = Unit {0}
Suits counts answers.Yes = Unit {0}
Suits counts answers.No = Unit {0}
Suits counts answers.Absent = Unit {0}
Suits counts (answers.Live v) = Unit {0}
Suits counts answers.Broken = Unit {0}
Suits counts (answers.Ran ids) = Unit {0}
Suits counts (answers.Page view) = Unit {0}
Suits counts (answers.Stat allocated cum num) = Unit {0}
Suits counts (answers.Placed name index) = Unit {0}
Suits counts (answers.Refused why) = Unit {0}

second_no : (xs : List ℕ) → (get_or xs 1 0 ≡ 120 → ⊥) → second_is_x xs ≡ false
second_no [] no_x = refl
second_no (b ∷ []) no_x = refl
second_no (b ∷ c ∷ xs) no_x = ne_eqb c 120 no_x

number_front : (counts : Bool) (text : List ℕ) (fields : List (List ℕ)) → Fronted text → read_answer counts (text ∷ fields) ≡ read_numeric counts text fields
unfolding read_answer
number_front counts text fields f =
    let low : leb 45 f.head ≡ true = le-leb 45 f.head f.low in
    let high : leb f.head 57 ≡ true = le-leb f.head 57 f.high in
    let step : read_answer counts ((f.head ∷ f.tail) ∷ fields) ≡ read_numeric counts (f.head ∷ f.tail) fields = rw (low, high) refl in
    ap (λ (xs : List ℕ). read_answer counts (xs ∷ fields)) f.is ∙ step ∙ ap (λ (xs : List ℕ). read_numeric counts xs fields) (sym f.is)

fixed : (z : ℤ) → IsFixnum z → read_numeric false (signed_decimal z) [] ≡ Some (answers.Val (values.Fix z))
unfolding read_numeric
fixed z ok =
    let f = signed_front z ok in
    let no_x : second_is_x (signed_decimal z) ≡ false = second_no (signed_decimal z) f.plain in
    let k : a_fixnum (signed_decimal z) ≡ Some z = fixnum_exact.again z ok in
    rw (no_x, k) refl

counted : (n : ℕ) → n < 2 ^ 64 → read_numeric true (decimal n) [] ≡ Some (answers.Count n)
unfolding read_numeric
counted n ok = let k : a_number_64 (decimal n) ≡ Some n = number_64_exact.again n (omega (arith, ok)) in rw k refl

worded : (w : ℕ) → w < 2 ^ 64 → read_answer false (word_text w ∷ []) ≡ Some (answers.Word w)
unfolding read_answer read_numeric
worded w ok = let k : a_word (word_text w) ≡ Some w = word_exact.again w ok in rw k refl

named : (counts : Bool) (n : ℕ) (fields : List (List ℕ)) → IsName n → read_answer counts (name_text n ∷ fields) ≡ placed n fields
unfolding read_answer read_named
named counts n fields ok = let k : a_name (name_text n) ≡ Some n = name_exact.again n ok in rw k refl

page_front : (counts : Bool) (ty : PageType) (fields : List (List ℕ)) → read_answer counts (type_text ty ∷ fields) ≡ read_page ty fields
unfolding read_answer a_short_opening read_worded
page_front counts types.Cons fields = refl
page_front counts types.Boxed fields = refl
page_front counts types.Unboxed fields = refl

small_again : (ty : PageType) (g fill : ℕ) (items : List Item) → g ≤ 5 → IsNumber32 fill → AllByRecursion IsItem items →
    read_page ty (lettered 103 g ∷ codes "fill" ∷ decimal fill ∷ map item_field items) ≡ Some (answers.Page (views.Small ty g fill items))
unfolding read_page read_small a_filling
small_again ty g fill items ok f good =
    let a : a_generation (lettered 103 g) ≡ Some g = generation_exact.again g ok in
    let b : a_number_32 (decimal fill) ≡ Some fill = ids_exact.again fill f in
    let c : all_of an_item (map item_field items) ≡ Some items = all_again item_exact items good in
    rw (a, b, c) refl

large_again : (ty : PageType) (g pages name index : ℕ) → g ≤ 5 → IsNumber32 pages → IsName name → IsIndex index →
    read_page ty (lettered 103 g ∷ codes "large" ∷ decimal pages ∷ object_field (name, index) ∷ []) ≡ Some (answers.Page (views.Large ty g pages name index))
unfolding read_page read_large a_filling
large_again ty g pages name index ok p n i =
    let a : a_generation (lettered 103 g) ≡ Some g = generation_exact.again g ok in
    let b : a_number_32 (decimal pages) ≡ Some pages = ids_exact.again pages p in
    let c : an_object (object_field (name, index)) ≡ Some (name, index) = object_exact.again (name, index) (n, i) in
    rw (a, b, c) refl

ran_again : (counts : Bool) (ids : List ℕ) → AreIds ids → read_answer counts (codes "ran" ∷ map decimal ids) ≡ Some (answers.Ran ids)
unfolding read_answer a_short_opening read_worded read_ran
ran_again counts [] good = absurd good
ran_again counts (id ∷ ids) good =
    let c : all_of a_number_32 (map decimal (id ∷ ids)) ≡ Some (id ∷ ids) = all_again ids_exact (id ∷ ids) good in
    rw c refl

stat_again : (counts : Bool) (a c n : ℕ) → a < 2 ^ 64 → c < 2 ^ 64 → IsNumber32 n → read_answer counts (answer_fields (answers.Stat a c n)) ≡ Some (answers.Stat a c n)
unfolding read_answer a_short_opening a_long_opening read_worded read_stat
stat_again counts a c n x y z =
    let p : a_number_64 (decimal a) ≡ Some a = number_64_exact.again a (omega (arith, x)) in
    let q : a_number_64 (decimal c) ≡ Some c = number_64_exact.again c (omega (arith, y)) in
    let r : a_number_32 (decimal n) ≡ Some n = ids_exact.again n z in
    rw (p, q, r) refl

live_again : (counts : Bool) (v : Value) → IsValue v → read_answer counts (codes "live" ∷ value_text v ∷ []) ≡ Some (answers.Live v)
unfolding read_answer a_short_opening read_worded read_live
live_again counts v ok = let k : a_value (value_text v) ≡ Some v = value_exact.again v ok in rw k refl

refused_again : (counts : Bool) (why : Refusal) → read_answer counts (refusal_text why ∷ []) ≡ Some (answers.Refused why)
unfolding read_answer a_short_opening a_long_opening read_worded
refused_again counts refusals.NotType = refl
refused_again counts refusals.OutOfRange = refl
refused_again counts refusals.TableFull = refl
refused_again counts refusals.Exhausted = refl
refused_again counts refusals.Nothing = refl
refused_again counts refusals.PinsFull = refl

pub answer_again : (counts : Bool) (a : Answer) → IsAnswer a → Suits counts a → read_answer counts (answer_fields a) ≡ Some a
unfolding read_answer a_short_opening read_worded
answer_again counts answers.Done ok suits = refl
answer_again counts (answers.Val (values.Fix z)) ok suits = number_front counts (signed_decimal z) [] (signed_front z ok) ∙ ap (λ b. read_numeric b (signed_decimal z) []) suits ∙ fixed z ok
answer_again counts (answers.Val values.Nil) ok suits = refl
answer_again counts (answers.Val values.Unbound) ok suits = absurd ok
answer_again counts (answers.Val (values.Ref n)) ok suits = named counts n [] ok
answer_again counts (answers.Word w) ok suits = ap (λ b. read_answer b (word_text w ∷ [])) suits ∙ worded w ok
answer_again counts answers.Yes ok suits = refl
answer_again counts answers.No ok suits = refl
answer_again counts answers.Absent ok suits = refl
answer_again counts (answers.Live v) ok suits = live_again counts v ok
answer_again counts answers.Broken ok suits = refl
answer_again counts (answers.Count n) ok suits = number_front counts (decimal n) [] (decimal_front n ok) ∙ ap (λ b. read_numeric b (decimal n) []) suits ∙ counted n ok
answer_again counts (answers.Ran ids) ok suits = ran_again counts ids ok
answer_again counts (answers.Page views.Free) ok suits = refl
answer_again counts (answers.Page (views.Small ty g fill items)) ok suits = page_front counts ty _ ∙ small_again ty g fill items ok.0 ok.1 ok.2
answer_again counts (answers.Page (views.Large ty g pages name index)) ok suits = page_front counts ty _ ∙ large_again ty g pages name index ok.0 ok.1 ok.2 ok.3
answer_again counts (answers.Stat a c n) ok suits = stat_again counts a c n ok.0 ok.1 ok.2
answer_again counts (answers.Placed name index) ok suits =
    let k : an_index (index_text index) ≡ Some index = index_exact.again index ok.1 in
    named counts name (index_text index ∷ []) ok.0 ∙ rw k refl
answer_again counts (answers.Refused why) ok suits = refused_again counts why
