-- Fields that are read one after the other by exact readers.
use Rattle.std.proofs.Common.{◌≡◌, ℕ, List, [], ◌∷◌, Option, Some, ap, ◌∙◌}
use Rattle.std.proofs.lemmas.Option.{some_pair_parts}
use Rattle.journal_text.specs.LineReading.{first, one, two, three}
use Rattle.journal_text.proofs.Binding.{bind_some}
use Rattle.journal_text.proofs.Exact.{IsExact}

pub first_sound : {A : Type 0} {p : List ℕ → Option A} {text : A → List ℕ} {ok : A → Type 0} → IsExact p text ok → (fields : List (List ℕ)) (x : A) (more : List (List ℕ)) → first p fields ≡ Some (x, more) → (fields ≡ text x ∷ more) × ok x
first_sound {p} exact [] x more e = absurd cc
first_sound {A} {p} {text} {ok} exact (f ∷ fs) x more e =
    let b = bind_some (p f) (λ x. Some (x, fs)) (x, more) e in
    let k = some_pair_parts b.0 x fs more b.2 in
    let s = exact.sound f x (b.1 ∙ ap Some k.0) in
    ((λ i. s.0 i ∷ k.1 i), s.1)

pub record One {A C : Type 0} (text : A → List ℕ) (ok : A → Type 0) (make : A → C) (fields : List (List ℕ)) (c : C) (more : List (List ℕ)) : Type 0 where
  pub x : A
  pub is : make x ≡ c
  pub spelled : fields ≡ text x ∷ more
  pub first : ok x

pub record Two {A B C : Type 0} (text : A → List ℕ) (ok : A → Type 0) (text2 : B → List ℕ) (ok2 : B → Type 0) (make : A → B → C) (fields : List (List ℕ)) (c : C) (more : List (List ℕ)) : Type 0 where
  pub x : A
  pub y : B
  pub is : make x y ≡ c
  pub spelled : fields ≡ text x ∷ text2 y ∷ more
  pub first : ok x
  pub second : ok2 y

pub record Three {A B D C : Type 0} (text : A → List ℕ) (ok : A → Type 0) (text2 : B → List ℕ) (ok2 : B → Type 0) (text3 : D → List ℕ) (ok3 : D → Type 0) (make : A → B → D → C) (fields : List (List ℕ)) (c : C) (more : List (List ℕ)) : Type 0 where
  pub x : A
  pub y : B
  pub z : D
  pub is : make x y z ≡ c
  pub spelled : fields ≡ text x ∷ text2 y ∷ text3 z ∷ more
  pub first : ok x
  pub second : ok2 y
  pub third : ok3 z

pub one_sound : {A C : Type 0} {p : List ℕ → Option A} {text : A → List ℕ} {ok : A → Type 0} → IsExact p text ok → (make : A → C) (fields : List (List ℕ)) (c : C) (more : List (List ℕ)) →
    one p make fields ≡ Some (c, more) → One text ok make fields c more
one_sound {p} {text} exact make fields c more e =
    let b = bind_some (first p fields) (λ a. Some (make a.0, a.1)) (c, more) e in
    let k = some_pair_parts (make b.0.0) c b.0.1 more b.2 in
    let s = first_sound exact fields b.0.0 b.0.1 b.1 in
    record { x = b.0.0; is = k.0; spelled = s.0 ∙ ap (λ (xs : List (List ℕ)). text b.0.0 ∷ xs) k.1; first = s.1 }

pub two_sound : {A B C : Type 0} {p : List ℕ → Option A} {text : A → List ℕ} {ok : A → Type 0} {q : List ℕ → Option B} {text2 : B → List ℕ} {ok2 : B → Type 0} →
    IsExact p text ok → IsExact q text2 ok2 → (make : A → B → C) (fields : List (List ℕ)) (c : C) (more : List (List ℕ)) →
    two p q make fields ≡ Some (c, more) → Two text ok text2 ok2 make fields c more
two_sound {p} {text} {q} exact exact2 make fields c more e =
    let b = bind_some (first p fields) (λ a. one q (make a.0) a.1) (c, more) e in
    let s = first_sound exact fields b.0.0 b.0.1 b.1 in
    let t = one_sound exact2 (make b.0.0) b.0.1 c more b.2 in
    record { x = b.0.0; y = t.x; is = t.is; spelled = s.0 ∙ ap (λ (xs : List (List ℕ)). text b.0.0 ∷ xs) t.spelled; first = s.1; second = t.first }

pub three_sound : {A B D C : Type 0} {p : List ℕ → Option A} {text : A → List ℕ} {ok : A → Type 0} {q : List ℕ → Option B} {text2 : B → List ℕ} {ok2 : B → Type 0} {r : List ℕ → Option D} {text3 : D → List ℕ} {ok3 : D → Type 0} →
    IsExact p text ok → IsExact q text2 ok2 → IsExact r text3 ok3 → (make : A → B → D → C) (fields : List (List ℕ)) (c : C) (more : List (List ℕ)) →
    three p q r make fields ≡ Some (c, more) → Three text ok text2 ok2 text3 ok3 make fields c more
three_sound {p} {text} {q} {r} exact exact2 exact3 make fields c more e =
    let b = bind_some (first p fields) (λ a. two q r (make a.0) a.1) (c, more) e in
    let s = first_sound exact fields b.0.0 b.0.1 b.1 in
    let t = two_sound exact2 exact3 (make b.0.0) b.0.1 c more b.2 in
    record { x = b.0.0; y = t.x; z = t.y; is = t.is; spelled = s.0 ∙ ap (λ (xs : List (List ℕ)). text b.0.0 ∷ xs) t.spelled; first = s.1; second = t.first; third = t.second }
