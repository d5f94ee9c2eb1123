-- A command's row of the table, and the fields that are read before they are counted.
use Rattle.std.proofs.Common.{◌≡◌, ℕ, ◌≤◌, List, [], ◌∷◌, length, drop, Result, Ok, Err, refl, sym, ap, ◌∙◌, arith}
use Rattle.std.specs.Prelude.{codes}
use Rattle.std.proofs.lemmas.Bool.{ne_eqb, eq-eqb}
use Rattle.std.proofs.lemmas.List.{length-drop}
use Rattle.heap_terms.specs.declared.commands.Command.{Command}
use Rattle.heap_terms.specs.declared.commands.Command.TheVariants as commands
use Rattle.heap_terms.specs.declared.faults.Why.{Why}
use Rattle.heap_terms.specs.declared.faults.Why.TheVariants.{Fields}
use Rattle.heap_terms.specs.Fields.{◌>>=◌, between, at_most, is_fixnum, is_i64}
use Rattle.heap_terms.specs.Grammar.{FieldForm, LispCell, RawCell, RawWord, WeaknessWord, Signed, Wide, Number, Meaning, Saying, Statement, Does, Row, Small, meaning_of, said_of, rows, row, said_by, statement_of}
use Rattle.script_text.specs.declared.words.Name.{Name}
use Rattle.script_text.specs.declared.words.Name.TheVariants as names
use Rattle.script_text.specs.Commands.{in_first, but_first, front_command, field_count, does}
use Rattle.script_text.specs.Words.{text_of_name}

-- ---- steps that may fail

bind_ext : {A B : Type 0} (r : Result A Why) (f g : A → Result B Why) → ((x : A) → f x ≡ g x) → (r >>= f) ≡ (r >>= g)
bind_ext (Ok x) f g h = h x
bind_ext (Err e) f g h = refl

bind_ok : {A B : Type 0} (r : Result A Why) (f : A → Result B Why) (y : B) → (r >>= f) ≡ Ok y → (x : A) × (r ≡ Ok x) × (f x ≡ Ok y)
bind_ok (Ok x) f y e = (x, refl, e)
bind_ok (Err d) f y e = absurd cc

-- the row of a command
pub row_of : Name → Row
row_of names.Fix = row (codes "fix") (LispCell ∷ Signed is_fixnum ∷ []) (λ d n. Does (commands.Fix d n))
row_of names.Nil = row (codes "nil") (LispCell ∷ []) (λ d. Does (commands.MakeNil d))
row_of names.Move = row (codes "move") (LispCell ∷ LispCell ∷ []) (λ d c. Does (commands.Move d c))
row_of names.Cons = row (codes "cons") (LispCell ∷ LispCell ∷ LispCell ∷ []) (λ d a b. Does (commands.NewCons d a b))
row_of names.Vector = row (codes "vector") (LispCell ∷ Small ∷ []) (λ d n. Does (commands.NewVector d n))
row_of names.Instance = row (codes "instance") (LispCell ∷ Small ∷ []) (λ d n. Does (commands.NewInstance d n))
row_of names.Closure = row (codes "closure") (LispCell ∷ Small ∷ []) (λ d n. Does (commands.NewClosure d n))
row_of names.Words = row (codes "words") (LispCell ∷ Small ∷ RawWord ∷ []) (λ d n w. Does (commands.NewWords d n w))
row_of names.Weak = row (codes "weak") (LispCell ∷ LispCell ∷ []) (λ d c. Does (commands.NewWeak d c))
row_of names.Table = row (codes "table") (LispCell ∷ WeaknessWord ∷ Number (between 1 64) ∷ []) (λ d w b. Does (commands.NewTable d w b))
row_of names.Get = row (codes "get") (LispCell ∷ LispCell ∷ Small ∷ []) (λ d c i. Does (commands.Get d c i))
row_of names.Put = row (codes "put") (LispCell ∷ Small ∷ LispCell ∷ []) (λ c i a. Does (commands.Put c i a))
row_of names.RawGet = row (codes "rawget") (RawCell ∷ LispCell ∷ Small ∷ []) (λ r c i. Does (commands.RawGet r c i))
row_of names.RawPut = row (codes "rawput") (LispCell ∷ Small ∷ RawCell ∷ []) (λ c i r. Does (commands.RawPut c i r))
row_of names.Eq = row (codes "eq") (LispCell ∷ LispCell ∷ []) (λ a b. Does (commands.Same a b))
row_of names.Show = row (codes "show") (LispCell ∷ []) (λ c. Does (commands.Show c))
row_of names.Addr = row (codes "addr") (RawCell ∷ LispCell ∷ []) (λ r c. Does (commands.Addr r c))
row_of names.Raw = row (codes "raw") (RawCell ∷ RawWord ∷ []) (λ r w. Does (commands.SetRaw r w))
row_of names.Add = row (codes "add") (RawCell ∷ Signed is_i64 ∷ []) (λ r k. Does (commands.AddRaw r k))
row_of names.Pin = row (codes "pin") (LispCell ∷ []) (λ c. Does (commands.Pin c))
row_of names.Unpin = row (codes "unpin") [] (Does commands.Unpin)
row_of names.WeakVal = row (codes "weakval") (LispCell ∷ LispCell ∷ []) (λ d c. Does (commands.WeakVal d c))
row_of names.TablePut = row (codes "tput") (LispCell ∷ LispCell ∷ LispCell ∷ []) (λ c k v. Does (commands.TablePut c k v))
row_of names.TableGet = row (codes "tget") (LispCell ∷ LispCell ∷ LispCell ∷ []) (λ d c k. Does (commands.TableGet d c k))
row_of names.TableRem = row (codes "trem") (LispCell ∷ LispCell ∷ []) (λ c k. Does (commands.TableRem c k))
row_of names.TableCount = row (codes "tcount") (LispCell ∷ []) (λ c. Does (commands.TableCount c))
row_of names.Gc = row (codes "gc") (Number (at_most 5) ∷ []) (λ g. Does (commands.Collect g))
row_of names.Page = row (codes "page") (Wide ∷ []) (λ p. Does (commands.ShowPage p))
row_of names.Stat = row (codes "stat") (Number (at_most 6) ∷ []) (λ g. Does (commands.Stat g))
row_of names.Nogc = row (codes "nogc") [] (Does commands.Inhibit)
row_of names.Gcok = row (codes "gcok") [] (Does commands.Allow)
row_of names.Finalize = row (codes "finalize") (LispCell ∷ Wide ∷ []) (λ c id. Does (commands.Finalize c id))
row_of names.Cancel = row (codes "cancel") (LispCell ∷ []) (λ c. Does (commands.Cancel c))
row_of names.Runfin = row (codes "runfin") [] (Does commands.RunFinalizers)

statement_is : (name : Name) (threads : ℕ) (fs : List (List ℕ)) → statement_of threads (text_of_name name) fs ≡ said_by (row_of name) fs
unfolding statement_of rows row_of
statement_is names.Fix threads fs = refl
statement_is names.Nil threads fs = refl
statement_is names.Move threads fs = refl
statement_is names.Cons threads fs = refl
statement_is names.Vector threads fs = refl
statement_is names.Instance threads fs = refl
statement_is names.Closure threads fs = refl
statement_is names.Words threads fs = refl
statement_is names.Weak threads fs = refl
statement_is names.Table threads fs = refl
statement_is names.Get threads fs = refl
statement_is names.Put threads fs = refl
statement_is names.RawGet threads fs = refl
statement_is names.RawPut threads fs = refl
statement_is names.Eq threads fs = refl
statement_is names.Show threads fs = refl
statement_is names.Addr threads fs = refl
statement_is names.Raw threads fs = refl
statement_is names.Add threads fs = refl
statement_is names.Pin threads fs = refl
statement_is names.Unpin threads fs = refl
statement_is names.WeakVal threads fs = refl
statement_is names.TablePut threads fs = refl
statement_is names.TableGet threads fs = refl
statement_is names.TableRem threads fs = refl
statement_is names.TableCount threads fs = refl
statement_is names.Gc threads fs = refl
statement_is names.Page threads fs = refl
statement_is names.Stat threads fs = refl
statement_is names.Nogc threads fs = refl
statement_is names.Gcok threads fs = refl
statement_is names.Finalize threads fs = refl
statement_is names.Cancel threads fs = refl
statement_is names.Runfin threads fs = refl

abbrev front_said : Row → List (List ℕ) → Result Statement Why
front_said r fs = said_of r.forms r.says fs

does-bind : {A : Type 0} (r : Result A Why) (f : A → Result Command Why) → does (r >>= f) ≡ (r >>= λ x. does (f x))
does-bind (Ok x) f = refl
does-bind (Err e) f = refl

-- one, two and three fields, read one after the other
one : (fa : FieldForm) (k : Meaning fa → Command) (fs : List (List ℕ))
    → does (in_first (meaning_of fa) fs >>= λ x. Ok (k x)) ≡ said_of (fa ∷ []) (λ x. Does (k x)) fs
one fa k [] = refl
one fa k (f ∷ fs) = does-bind (meaning_of fa f) (λ x. Ok (k x))

two : (fa fb : FieldForm) (k : Meaning fa → Meaning fb → Command) (fs : List (List ℕ))
    → does (in_first (meaning_of fa) fs >>= λ x. in_first (meaning_of fb) (but_first fs) >>= λ y. Ok (k x y)) ≡ said_of (fa ∷ fb ∷ []) (λ x y. Does (k x y)) fs
two fa fb k [] = refl
two fa fb k (f ∷ fs) =
    does-bind (meaning_of fa f) (λ x. in_first (meaning_of fb) fs >>= λ y. Ok (k x y))
    ∙ bind_ext (meaning_of fa f) _ _ (λ x. one fb (k x) fs)

three : (fa fb fc : FieldForm) (k : Meaning fa → Meaning fb → Meaning fc → Command) (fs : List (List ℕ))
    → does (in_first (meaning_of fa) fs >>= λ x. in_first (meaning_of fb) (but_first fs) >>= λ y. in_first (meaning_of fc) (but_first (but_first fs)) >>= λ z. Ok (k x y z)) ≡ said_of (fa ∷ fb ∷ fc ∷ []) (λ x y z. Does (k x y z)) fs
three fa fb fc k [] = refl
three fa fb fc k (f ∷ fs) =
    does-bind (meaning_of fa f) (λ x. in_first (meaning_of fb) fs >>= λ y. in_first (meaning_of fc) (but_first fs) >>= λ z. Ok (k x y z))
    ∙ bind_ext (meaning_of fa f) _ _ (λ x. two fb fc (k x) fs)

front_is : (name : Name) (fs : List (List ℕ)) → does (front_command name fs) ≡ front_said (row_of name) fs
unfolding row_of
front_is names.Fix fs = two LispCell (Signed is_fixnum) commands.Fix fs
front_is names.Nil fs = one LispCell commands.MakeNil fs
front_is names.Move fs = two LispCell LispCell commands.Move fs
front_is names.Cons fs = three LispCell LispCell LispCell commands.NewCons fs
front_is names.Vector fs = two LispCell Small commands.NewVector fs
front_is names.Instance fs = two LispCell Small commands.NewInstance fs
front_is names.Closure fs = two LispCell Small commands.NewClosure fs
front_is names.Words fs = three LispCell Small RawWord commands.NewWords fs
front_is names.Weak fs = two LispCell LispCell commands.NewWeak fs
front_is names.Table fs = three LispCell WeaknessWord (Number (between 1 64)) commands.NewTable fs
front_is names.Get fs = three LispCell LispCell Small commands.Get fs
front_is names.Put fs = three LispCell Small LispCell commands.Put fs
front_is names.RawGet fs = three RawCell LispCell Small commands.RawGet fs
front_is names.RawPut fs = three LispCell Small RawCell commands.RawPut fs
front_is names.Eq fs = two LispCell LispCell commands.Same fs
front_is names.Show fs = one LispCell commands.Show fs
front_is names.Addr fs = two RawCell LispCell commands.Addr fs
front_is names.Raw fs = two RawCell RawWord commands.SetRaw fs
front_is names.Add fs = two RawCell (Signed is_i64) commands.AddRaw fs
front_is names.Pin fs = one LispCell commands.Pin fs
front_is names.Unpin fs = refl
front_is names.WeakVal fs = two LispCell LispCell commands.WeakVal fs
front_is names.TablePut fs = three LispCell LispCell LispCell commands.TablePut fs
front_is names.TableGet fs = three LispCell LispCell LispCell commands.TableGet fs
front_is names.TableRem fs = two LispCell LispCell commands.TableRem fs
front_is names.TableCount fs = one LispCell commands.TableCount fs
front_is names.Gc fs = one (Number (at_most 5)) commands.Collect fs
front_is names.Page fs = one Wide commands.ShowPage fs
front_is names.Stat fs = one (Number (at_most 6)) commands.Stat fs
front_is names.Nogc fs = refl
front_is names.Gcok fs = refl
front_is names.Finalize fs = two LispCell Wide commands.Finalize fs
front_is names.Cancel fs = one LispCell commands.Cancel fs
front_is names.Runfin fs = refl

count_is : (name : Name) → length (row_of name).forms ≡ field_count name
unfolding row_of
count_is names.Fix = refl
count_is names.Nil = refl
count_is names.Move = refl
count_is names.Cons = refl
count_is names.Vector = refl
count_is names.Instance = refl
count_is names.Closure = refl
count_is names.Words = refl
count_is names.Weak = refl
count_is names.Table = refl
count_is names.Get = refl
count_is names.Put = refl
count_is names.RawGet = refl
count_is names.RawPut = refl
count_is names.Eq = refl
count_is names.Show = refl
count_is names.Addr = refl
count_is names.Raw = refl
count_is names.Add = refl
count_is names.Pin = refl
count_is names.Unpin = refl
count_is names.WeakVal = refl
count_is names.TablePut = refl
count_is names.TableGet = refl
count_is names.TableRem = refl
count_is names.TableCount = refl
count_is names.Gc = refl
count_is names.Page = refl
count_is names.Stat = refl
count_is names.Nogc = refl
count_is names.Gcok = refl
count_is names.Finalize = refl
count_is names.Cancel = refl
count_is names.Runfin = refl

-- ---- counting the fields

-- as many fields as forms were there
fields_need : (forms : List FieldForm) (says : Saying forms) (fs : List (List ℕ)) (said : Statement) → said_of forms says fs ≡ Ok said → length forms ≤ length fs
fields_need [] says fs said e = omega arith
fields_need (form ∷ forms) says [] said e = absurd cc
fields_need (form ∷ forms) says (f ∷ fs) said e =
    let one = bind_ok (meaning_of form f) (λ m. said_of forms (says m) fs) said e in
    omega (arith, fields_need forms (says one.0) fs said one.2)

said_if_counted : (r : Row) (fs : List (List ℕ)) → length fs ≡ length r.forms → said_by r fs ≡ front_said r fs
said_if_counted r fs e = rw (eq-eqb (length fs) (length r.forms) e) refl

said_unless_counted : (r : Row) (fs : List (List ℕ)) → (length fs ≡ length r.forms → ⊥) → said_by r fs ≡ Err Fields
said_unless_counted r fs ne = rw (ne_eqb (length fs) (length r.forms) ne) refl

need : (name : Name) (fs : List (List ℕ)) (c : Command) → front_command name fs ≡ Ok c → field_count name ≤ length fs
need name fs c e =
    let said : front_said (row_of name) fs ≡ Ok (Does c) = sym (front_is name fs) ∙ ap does e in
    omega (arith, fields_need (row_of name).forms (row_of name).says fs (Does c) said, count_is name)

-- a command whose fields are all there, and no more
pub command_read : (name : Name) (threads : ℕ) (fs : List (List ℕ)) (c : Command) → front_command name fs ≡ Ok c → length (drop (field_count name) fs) ≡ 0 → statement_of threads (text_of_name name) fs ≡ Ok (Does c)
command_read name threads fs c e none =
    let counted : length fs ≡ length (row_of name).forms = omega (arith, need name fs c e, count_is name, length-drop (field_count name) fs) in
    statement_is name threads fs ∙ said_if_counted (row_of name) fs counted ∙ sym (front_is name fs) ∙ ap does e

-- a command with fields after it
pub command_with_more : (name : Name) (threads : ℕ) (fs : List (List ℕ)) → (length (drop (field_count name) fs) ≡ 0 → ⊥) → statement_of threads (text_of_name name) fs ≡ Err Fields
command_with_more name threads fs some =
    let more : length fs ≡ length (row_of name).forms → ⊥ = λ e. some (omega (arith, count_is name, length-drop (field_count name) fs)) in
    statement_is name threads fs ∙ said_unless_counted (row_of name) fs more

-- a bad field of a command, by the number of its fields
pub command_bad : (name : Name) (threads : ℕ) (fs : List (List ℕ)) (why : Why) → front_command name fs ≡ Err why → length fs ≡ field_count name → statement_of threads (text_of_name name) fs ≡ Err why
command_bad name threads fs why e counted =
    statement_is name threads fs ∙ said_if_counted (row_of name) fs (counted ∙ sym (count_is name)) ∙ sym (front_is name fs) ∙ ap does e

pub command_uncounted : (name : Name) (threads : ℕ) (fs : List (List ℕ)) → (length fs ≡ field_count name → ⊥) → statement_of threads (text_of_name name) fs ≡ Err Fields
command_uncounted name threads fs ne = statement_is name threads fs ∙ said_unless_counted (row_of name) fs (λ e. ne (e ∙ count_is name))
