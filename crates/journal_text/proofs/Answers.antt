-- Each answer is read from the fields that it is spelled by, and from no others.
use Rattle.std.proofs.Common.{◌≡◌, ℕ, zero, suc, ◌^◌, ◌<◌, ◌≤◌, true, eqb, List, [], ◌∷◌, ◌++◌, length, get_or, map, Option, Some, None, refl, ap, sym, ◌∙◌, subst, arith, inl, inr}
use Rattle.std.specs.Fmt.{decimal}
use Rattle.std.specs.List.{AllByRecursion}
use Rattle.std.specs.Prelude.{codes}
use Rattle.std.specs.Str.{bytes_eq}
use Rattle.std.proofs.lemmas.Bool.{cases_Bool, eqb-true}
use Rattle.std.proofs.lemmas.Option.{same_Some, cond_some}
use Rattle.std.proofs.lemmas.Slice.Eq.{bytes_eq-Decides}
use Rattle.heap_terms.specs.declared.answers.Answer.{Answer}
use Rattle.heap_terms.specs.declared.answers.Answer.TheVariants as answers
use Rattle.heap_terms.specs.declared.answers.Item.{Item}
use Rattle.heap_terms.specs.declared.answers.PageView.TheVariants as views
use Rattle.heap_terms.specs.Text.{name_text, index_text, value_text, word_text, type_text, refusal_text, item_text}
use Rattle.journal_text.specs.AnswerReading.{ending, a_number_64, cut_at, item_of, an_item, an_object, all_of, the_word, a_filling, filling_text}
use Rattle.journal_text.specs.FieldReading.{a_number, a_name}
use Rattle.journal_text.specs.LineReading.{◌>>=◌, a_count}
use Rattle.journal_text.specs.Ranges.{IsName, IsIndex, IsItem, IsItemOf}
use Rattle.journal_text.proofs.Binding.{bind_some}
use Rattle.journal_text.proofs.Cuts.{cut_sound, cut_again}
use Rattle.journal_text.proofs.Exact.{IsExact, lettered, number_exact, name_exact}
use Rattle.journal_text.proofs.Numerals.{number_sound, number_complete, count_sound, count_complete, decimal_byte, decimal_digits}
use Rattle.journal_text.proofs.Words.{filling_again}
use Rattle.journal_text.proofs.WordsFound.{filling_found}

-- the fields of an answer
abbrev pub item_field : Item → List ℕ
item_field item = item_text item.name item.index item.count

abbrev pub object_field : (ℕ × ℕ) → List ℕ
object_field o = name_text o.0 ++ index_text o.1

abbrev pub answer_fields : Answer → List (List ℕ)
answer_fields answers.Done = codes "ok" ∷ []
answer_fields (answers.Val v) = value_text v ∷ []
answer_fields (answers.Word w) = word_text w ∷ []
answer_fields answers.Yes = codes "yes" ∷ []
answer_fields answers.No = codes "no" ∷ []
answer_fields answers.Absent = codes "none" ∷ []
answer_fields (answers.Live v) = codes "live" ∷ value_text v ∷ []
answer_fields answers.Broken = codes "broken" ∷ []
answer_fields (answers.Count n) = decimal n ∷ []
answer_fields (answers.Ran ids) = codes "ran" ∷ map decimal ids
answer_fields (answers.Page views.Free) = codes "free" ∷ []
answer_fields (answers.Page (views.Small ty g fill items)) = type_text ty ∷ lettered 103 g ∷ codes "fill" ∷ decimal fill ∷ map item_field items
answer_fields (answers.Page (views.Large ty g pages name index)) = type_text ty ∷ lettered 103 g ∷ codes "large" ∷ decimal pages ∷ object_field (name, index) ∷ []
answer_fields (answers.Stat allocated cum num) = codes "allocated" ∷ decimal allocated ∷ codes "cum" ∷ decimal cum ∷ codes "num" ∷ decimal num ∷ []
answer_fields (answers.Placed name index) = name_text name ∷ index_text index ∷ []
answer_fields (answers.Refused why) = refusal_text why ∷ []

-- ---- pieces

pub ending_sound : {A : Type 0} (x y : A) (fields : List (List ℕ)) → ending x fields ≡ Some y → (fields ≡ []) × (x ≡ y)
ending_sound x y [] e = (refl, same_Some x y e)
ending_sound x y (f ∷ fields) e = absurd cc

word_there : (word f : List ℕ) (x : Unit {0}) → the_word word f ≡ Some x → f ≡ word
word_there word f x e = (bytes_eq-Decides f word).0 (cond_some (bytes_eq f word) tt x e).0

pub word_exact_at : (word : List ℕ) → IsExact (the_word word) (λ u. word) (λ u. Unit {0})
word_exact_at word = record { sound = λ f x e. (word_there word f x e, tt); again = λ x ok. let e : bytes_eq word word ≡ true = (bytes_eq-Decides word word).1 refl in rw e refl }

pub number_64_exact : IsExact a_number_64 decimal (λ n. n ≤ 18446744073709551615)
number_64_exact = number_exact 18446744073709551615 (omega arith)

pub filling_exact : IsExact a_filling filling_text (λ w. Unit {0})
filling_exact = record { sound = λ f x e. (filling_found f x e, tt); again = λ x ok. filling_again x }

no_at : (letter : ℕ) (n : ℕ) → n < 2 ^ 64 → (letter ≡ 64 → ⊥) → (k : ℕ) → k < length (lettered letter n) → get_or (lettered letter n) k 0 ≡ 64 → ⊥
no_at letter n small other zero lt e = other e
no_at letter n small other (suc k) lt e = omega (arith, decimal_byte (decimal n) (decimal_digits n small) k (omega arith), e)

pub object_exact : IsExact an_object object_field (λ o. IsName o.0 × IsIndex o.1)
unfolding an_object
object_exact = record {
  sound = λ f x e.
      let a = bind_some (cut_at 64 f) (λ parts. a_name parts.0 >>= λ name. a_number 524287 parts.1 >>= λ index. Some (name, index)) x e in
      let b = bind_some (a_name a.0.0) (λ name. a_number 524287 a.0.1 >>= λ index. Some (name, index)) x a.2 in
      let c = bind_some (a_number 524287 a.0.1) (λ index. Some (b.0, index)) x b.2 in
      let front = name_exact.sound a.0.0 b.0 b.1 in
      let back = number_sound 524287 a.0.1 c.0 c.1 in
      let whole = cut_sound 64 f a.0.0 a.0.1 a.1 in
      subst (λ (o : ℕ × ℕ). (f ≡ object_field o) × (IsName o.0 × IsIndex o.1)) (same_Some (b.0, c.0) x c.2)
      (whole ∙ (λ i. front.0 i ++ (64 ∷ back.0 i)), (front.1, omega (arith, back.1)));
  again = λ x ok.
      let cut : cut_at 64 (name_text x.0 ++ (64 ∷ decimal x.1)) ≡ Some (name_text x.0, decimal x.1) = cut_again 64 (name_text x.0) (decimal x.1) (no_at 35 x.0 (omega (arith, ok.0)) (λ e. omega (arith, e))) in
      let name : a_name (name_text x.0) ≡ Some x.0 = name_exact.again x.0 ok.0 in
      let index : a_number 524287 (decimal x.1) ≡ Some x.1 = number_complete 524287 x.1 (omega arith) (omega (arith, ok.1)) in
      rw (cut, name, index) refl;
}

item_sound : (front : List ℕ) (index : ℕ) (x : Item) → index ≤ 524287 → item_of front index ≡ Some x → (front ++ (64 ∷ decimal index) ≡ item_field x) × IsItem x
item_sound [] index x within e = absurd cc
item_sound (b ∷ digits) index x within e = elim (cases_Bool (eqb b 35)) [
  | inl hash ↦
      let a = bind_some (a_number 19999 digits) (λ name. Some (record { name = Some name; index = index; count = 0 })) x (rw hash at e) in
      let s = number_sound 19999 digits a.0 a.1 in
      let is = eqb-true b 35 hash in
      subst (λ (y : Item). ((b ∷ digits) ++ (64 ∷ decimal index) ≡ item_field y) × IsItem y) (same_Some (record { name = Some a.0; index = index; count = 0 }) x a.2)
      ((λ i. (is i ∷ s.0 i) ++ (64 ∷ decimal index)), ((omega (arith, s.1), refl), omega arith))
  | inr other ↦ elim (cases_Bool (eqb b 126)) [
    | inl tilde ↦
        let a = bind_some (a_count 4294967295 digits) (λ count. Some (record { name = None; index = index; count = count })) x (rw (other, tilde) at e) in
        let s = count_sound 4294967295 digits a.0 a.1 in
        let is = eqb-true b 126 tilde in
        subst (λ (y : Item). ((b ∷ digits) ++ (64 ∷ decimal index) ≡ item_field y) × IsItem y) (same_Some (record { name = None; index = index; count = a.0 }) x a.2)
        ((λ i. (is i ∷ s.0 i) ++ (64 ∷ decimal index)), ((s.1, omega (arith, s.2)), omega arith))
    | inr no_tilde ↦ absurd (let k = rw (other, no_tilde) at e in cc)
  ]
]

item_again : (name : Option ℕ) (index count : ℕ) → IsItemOf name count → IsIndex index → an_item (item_text name index count) ≡ Some (record { name = name; index = index; count = count })
unfolding an_item
item_again (Some name) index count ok within =
    let cut : cut_at 64 (name_text name ++ (64 ∷ decimal index)) ≡ Some (name_text name, decimal index) = cut_again 64 (name_text name) (decimal index) (no_at 35 name (omega (arith, ok.0)) (λ e. omega (arith, e))) in
    let n : a_number 19999 (decimal name) ≡ Some name = number_complete 19999 name (omega arith) (omega (arith, ok.0)) in
    let i : a_number 524287 (decimal index) ≡ Some index = number_complete 524287 index (omega arith) (omega (arith, within)) in
    rw (cut, i, n) (ap (λ c. Some (record { name = Some name; index = index; count = c })) (sym ok.1))
item_again None index count ok within =
    let cut : cut_at 64 (lettered 126 count ++ (64 ∷ decimal index)) ≡ Some (lettered 126 count, decimal index) = cut_again 64 (lettered 126 count) (decimal index) (no_at 126 count (omega (arith, ok.1)) (λ e. omega (arith, e))) in
    let n : a_count 4294967295 (decimal count) ≡ Some count = count_complete 4294967295 count (omega arith) ok.0 (omega (arith, ok.1)) in
    let i : a_number 524287 (decimal index) ≡ Some index = number_complete 524287 index (omega arith) (omega (arith, within)) in
    rw (cut, i, n) refl

pub item_exact : IsExact an_item item_field IsItem
unfolding an_item
item_exact = record {
  sound = λ f x e.
      let a = bind_some (cut_at 64 f) (λ parts. a_number 524287 parts.1 >>= λ index. item_of parts.0 index) x e in
      let b = bind_some (a_number 524287 a.0.1) (λ index. item_of a.0.0 index) x a.2 in
      let back = number_sound 524287 a.0.1 b.0 b.1 in
      let whole = cut_sound 64 f a.0.0 a.0.1 a.1 in
      let s = item_sound a.0.0 b.0 x back.1 b.2 in
      (whole ∙ (λ i. a.0.0 ++ (64 ∷ back.0 i)) ∙ s.0, s.1);
  again = λ x ok. item_again x.name x.index x.count ok.0 ok.1;
}

pub all_sound : {A : Type 0} {reads : List ℕ → Option A} {text : A → List ℕ} {ok : A → Type 0} → IsExact reads text ok → (fields : List (List ℕ)) (xs : List A) → all_of reads fields ≡ Some xs → (fields ≡ map text xs) × AllByRecursion ok xs
unfolding all_of
all_sound {text} {ok} exact [] xs e = subst (λ ys. ([] ≡ map text ys) × AllByRecursion ok ys) (same_Some [] xs e) (refl, tt)
all_sound {reads} {text} {ok} exact (f ∷ fields) xs e =
    let a = bind_some (reads f) (λ x. all_of reads fields >>= λ ys. Some (x ∷ ys)) xs e in
    let b = bind_some (all_of reads fields) (λ ys. Some (a.0 ∷ ys)) xs a.2 in
    let s = exact.sound f a.0 a.1 in
    let r = all_sound exact fields b.0 b.1 in
    subst (λ ys. (f ∷ fields ≡ map text ys) × AllByRecursion ok ys) (same_Some (a.0 ∷ b.0) xs b.2) ((λ i. s.0 i ∷ r.0 i), (s.1, r.1))

pub all_again : {A : Type 0} {reads : List ℕ → Option A} {text : A → List ℕ} {ok : A → Type 0} → IsExact reads text ok → (xs : List A) → AllByRecursion ok xs → all_of reads (map text xs) ≡ Some xs
unfolding all_of
all_again exact [] good = refl
all_again {reads} {text} exact (x ∷ xs) good =
    let a : reads (text x) ≡ Some x = exact.again x good.0 in
    let b : all_of reads (map text xs) ≡ Some xs = all_again exact xs good.1 in
    rw (a, b) refl
