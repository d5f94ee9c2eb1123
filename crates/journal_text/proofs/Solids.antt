-- The fields of a line have no blanks, and its text is they, joined.
use Rattle.std.proofs.Common.{◌≡◌, ℕ, suc, ◌^◌, ◌<◌, ◌≤◌, true, List, [], ◌∷◌, ◌++◌, map, Option, Some, None, refl, ◌∙◌, arith, inl, inr}
use Rattle.std.specs.Fmt.{decimal}
use Rattle.std.specs.Prelude.{codes}
use Rattle.heap_terms.specs.declared.answers.Answer.{Answer}
use Rattle.heap_terms.specs.declared.answers.Answer.TheVariants as answers
use Rattle.heap_terms.specs.declared.cells.Value.{Value}
use Rattle.heap_terms.specs.declared.commands.Command.{Command}
use Rattle.heap_terms.specs.declared.commands.Command.TheVariants as commands
use Rattle.heap_terms.specs.declared.events.Event.TheVariants as events
use Rattle.heap_terms.specs.Text.{name_text, index_text, value_text, type_text}
use Rattle.heap_terms.specs.Valid.{IsInRange}
use Rattle.journal_text.specs.declared.parsing.pieces.Piece.{Piece}
use Rattle.journal_text.specs.declared.parsing.pieces.Piece.TheVariants as pieces
use Rattle.journal_text.specs.declared.parsing.words.Name.{Name}
use Rattle.journal_text.specs.declared.parsing.words.Name.TheVariants as names
use Rattle.journal_text.specs.LineReading.{first}
use Rattle.journal_text.specs.Ranges.{IsName, IsIndex, IsValue, IsAnswer, IsMove, IsNumber32}
use Rattle.journal_text.specs.Words.{name_in, word_of}
use Rattle.journal_text.proofs.Answers.{answer_fields}
use Rattle.journal_text.proofs.Commands.{spelled}
use Rattle.std.proofs.Common.{ℤ, pos, negsuc, leb, ◌&&◌}
use Rattle.std.specs.Fmt.{signed_decimal}
use Rattle.std.specs.List.{AllByRecursion, list_all}
use Rattle.std.proofs.lemmas.Bool.{leb-true, le-leb, and_parts, cases_Bool}
use Rattle.std.proofs.lemmas.List.Folds.{list_all-append}
use Rattle.heap_terms.specs.declared.answers.Item.{Item}
use Rattle.heap_terms.specs.declared.answers.PageView.TheVariants as views
use Rattle.heap_terms.specs.declared.answers.Refusal.{Refusal}
use Rattle.heap_terms.specs.declared.answers.Refusal.TheVariants as refusals
use Rattle.heap_terms.specs.declared.cells.Cell.{Cell}
use Rattle.heap_terms.specs.declared.cells.Cell.TheVariants as cells
use Rattle.heap_terms.specs.declared.cells.Value.TheVariants as values
use Rattle.heap_terms.specs.declared.kinds.PageType.{PageType}
use Rattle.heap_terms.specs.declared.kinds.PageType.TheVariants as types
use Rattle.heap_terms.specs.declared.kinds.Weakness.{Weakness}
use Rattle.heap_terms.specs.declared.kinds.Weakness.TheVariants as weaknesses
use Rattle.heap_terms.specs.Text.{cell_text, word_text, weakness_text, refusal_text, hex_digits, item_text}
use Rattle.heap_terms.specs.Valid.{IsCell, IsFixnum, IsSigned}
use Rattle.journal_text.specs.FieldReading.{is_decimal, is_hex}
use Rattle.journal_text.specs.Ranges.{IsItem, IsItemOf, AreIds}
use Rattle.journal_text.proofs.Answers.{item_field}
use Rattle.journal_text.proofs.Exact.{lettered}
use Rattle.journal_text.proofs.HexDigits.{hex_all}
use Rattle.journal_text.proofs.Joined.{solid, Solid}
use Rattle.journal_text.proofs.Numerals.{decimal_digits}
use Rattle.journal_text.proofs.Pieces.{IsPiece, piece_fields, move_fields}

-- ---- no blanks

digits_solid : (xs : List ℕ) → list_all is_decimal xs ≡ true → Solid xs
digits_solid [] all = refl
digits_solid (b ∷ xs) all =
    let both = and_parts (is_decimal b) (list_all is_decimal xs) all in
    let low = leb-true 48 b (and_parts (leb 48 b) (leb b 57) both.0).0 in
    let here : solid b ≡ true = le-leb 33 b (omega arith) in
    let rest : list_all solid xs ≡ true = digits_solid xs both.1 in
    rw (here, rest) refl

hex_solid : (xs : List ℕ) → list_all is_hex xs ≡ true → Solid xs
hex_solid [] all = refl
hex_solid (b ∷ xs) all =
    let both = and_parts (is_hex b) (list_all is_hex xs) all in
    let low : 33 ≤ b = elim (cases_Bool (is_decimal b)) [
      | inl dec ↦ omega (arith, leb-true 48 b (and_parts (leb 48 b) (leb b 57) dec).0)
      | inr other ↦ let letter : (leb 97 b && leb b 102) ≡ true = rw other at both.0 in omega (arith, leb-true 97 b (and_parts (leb 97 b) (leb b 102) letter).0)
    ] in
    let here : solid b ≡ true = le-leb 33 b low in
    let rest : list_all solid xs ≡ true = hex_solid xs both.1 in
    rw (here, rest) refl

decimal_solid : (n : ℕ) → n < 2 ^ 64 → Solid (decimal n)
decimal_solid n small = digits_solid (decimal n) (decimal_digits n small)

fixnum_solid : (z : ℤ) → IsFixnum z → Solid (signed_decimal z)
fixnum_solid (pos n) ok = decimal_solid n (omega arith)
fixnum_solid (negsuc n) ok = decimal_solid (suc n) (omega arith)

long_solid : (z : ℤ) → IsSigned z → Solid (signed_decimal z)
long_solid (pos n) ok = decimal_solid n (omega arith)
long_solid (negsuc n) ok = decimal_solid (suc n) (omega arith)

cell_solid : (c : Cell) → IsCell c → Solid (cell_text c)
cell_solid (cells.Stack i) ok = decimal_solid i (omega arith)
cell_solid (cells.Exact i) ok = decimal_solid i (omega arith)
cell_solid (cells.Shared i) ok = decimal_solid i (omega arith)

word_solid : (w : ℕ) → Solid (word_text w)
word_solid w = hex_solid (hex_digits 16 w) (hex_all 16 w)

weakness_solid : (w : Weakness) → Solid (weakness_text w)
weakness_solid weaknesses.Strong = refl
weakness_solid weaknesses.Key = refl
weakness_solid weaknesses.Value = refl
weakness_solid weaknesses.KeyAndValue = refl
weakness_solid weaknesses.KeyOrValue = refl

type_solid : (ty : PageType) → Solid (type_text ty)
type_solid types.Cons = refl
type_solid types.Boxed = refl
type_solid types.Unboxed = refl

refusal_solid : (why : Refusal) → Solid (refusal_text why)
refusal_solid refusals.NotType = refl
refusal_solid refusals.OutOfRange = refl
refusal_solid refusals.TableFull = refl
refusal_solid refusals.Exhausted = refl
refusal_solid refusals.Nothing = refl
refusal_solid refusals.PinsFull = refl

value_solid : (v : Value) → IsValue v → Solid (value_text v)
value_solid (values.Fix z) ok = fixnum_solid z ok
value_solid values.Nil ok = refl
value_solid values.Unbound ok = absurd ok
value_solid (values.Ref n) ok = decimal_solid n (omega arith)

name_solid : (n : ℕ) → IsName n → Solid (name_text n)
name_solid n ok = decimal_solid n (omega arith)

index_solid : (n : ℕ) → IsIndex n → Solid (index_text n)
index_solid n ok = decimal_solid n (omega arith)

both_solid : (f g : List ℕ) → Solid f → Solid g → Solid (f ++ g)
both_solid f g x y = list_all-append solid f g ∙ rw (x, y) refl

item_solid : (name : Option ℕ) (index count : ℕ) → IsItemOf name count → IsIndex index → Solid (item_text name index count)
item_solid (Some name) index count ok within = both_solid (name_text name) (index_text index) (name_solid name ok.0) (index_solid index within)
item_solid None index count ok within = both_solid (lettered 126 count) (index_text index) (decimal_solid count (omega (arith, ok.1))) (index_solid index within)

items_solid : (items : List Item) → AllByRecursion IsItem items → AllByRecursion Solid (map item_field items)
items_solid [] good = tt
items_solid (x ∷ items) good = (item_solid x.name x.index x.count good.0.0 good.0.1, items_solid items good.1)

numbers_solid : (ids : List ℕ) → AllByRecursion IsNumber32 ids → AllByRecursion Solid (map decimal ids)
numbers_solid [] good = tt
numbers_solid (n ∷ ids) good = (decimal_solid n (omega (arith, good.0)), numbers_solid ids good.1)

ids_solid : (ids : List ℕ) → AreIds ids → AllByRecursion Solid (map decimal ids)
ids_solid [] good = tt
ids_solid (n ∷ ids) good = numbers_solid (n ∷ ids) good

answer_solid : (a : Answer) → IsAnswer a → AllByRecursion Solid (answer_fields a)
answer_solid answers.Done ok = (refl, tt)
answer_solid (answers.Val v) ok = (value_solid v ok, tt)
answer_solid (answers.Word w) ok = (word_solid w, tt)
answer_solid answers.Yes ok = (refl, tt)
answer_solid answers.No ok = (refl, tt)
answer_solid answers.Absent ok = (refl, tt)
answer_solid (answers.Live v) ok = (refl, (value_solid v ok, tt))
answer_solid answers.Broken ok = (refl, tt)
answer_solid (answers.Count n) ok = (decimal_solid n ok, tt)
answer_solid (answers.Ran ids) ok = (refl, ids_solid ids ok)
answer_solid (answers.Page views.Free) ok = (refl, tt)
answer_solid (answers.Page (views.Small ty g fill items)) ok = (type_solid ty, (decimal_solid g (omega (arith, ok.0)), (refl, (decimal_solid fill (omega (arith, ok.1)), items_solid items ok.2))))
answer_solid (answers.Page (views.Large ty g pages name index)) ok =
    (type_solid ty, (decimal_solid g (omega (arith, ok.0)), (refl, (decimal_solid pages (omega (arith, ok.1)), (both_solid (name_text name) (index_text index) (name_solid name ok.2) (index_solid index ok.3), tt)))))
answer_solid (answers.Stat a c n) ok = (refl, (decimal_solid a ok.0, (refl, (decimal_solid c ok.1, (refl, (decimal_solid n (omega (arith, ok.2)), tt))))))
answer_solid (answers.Placed name index) ok = (name_solid name ok.0, (index_solid index ok.1, tt))
answer_solid (answers.Refused why) ok = (refusal_solid why, tt)

name_of_solid : (n : Name) → Solid (word_of n)
name_of_solid names.Fix = refl
name_of_solid names.Cons = refl
name_of_solid names.Get = refl
name_of_solid names.Put = refl
name_of_solid names.Show = refl
name_of_solid names.Nil = refl
name_of_solid names.Move = refl
name_of_solid names.Vector = refl
name_of_solid names.Instance = refl
name_of_solid names.Closure = refl
name_of_solid names.Words = refl
name_of_solid names.Weak = refl
name_of_solid names.Table = refl
name_of_solid names.RawGet = refl
name_of_solid names.RawPut = refl
name_of_solid names.Eq = refl
name_of_solid names.Addr = refl
name_of_solid names.Raw = refl
name_of_solid names.Add = refl
name_of_solid names.Pin = refl
name_of_solid names.Unpin = refl
name_of_solid names.WeakVal = refl
name_of_solid names.Tput = refl
name_of_solid names.Tget = refl
name_of_solid names.Trem = refl
name_of_solid names.Tcount = refl
name_of_solid names.Finalize = refl
name_of_solid names.Cancel = refl
name_of_solid names.RunFin = refl
name_of_solid names.Gc = refl
name_of_solid names.NoGc = refl
name_of_solid names.GcOk = refl
name_of_solid names.Page = refl
name_of_solid names.Stat = refl

command_solid : (c : Command) → IsInRange c → AllByRecursion Solid (spelled c)
command_solid (commands.Fix d n) ok = (cell_solid d ok.0, (fixnum_solid n ok.1, tt))
command_solid (commands.MakeNil d) ok = (cell_solid d ok, tt)
command_solid (commands.Move d c) ok = (cell_solid d ok.0, (cell_solid c ok.1, tt))
command_solid (commands.NewCons d a b) ok = (cell_solid d ok.0, (cell_solid a ok.1, (cell_solid b ok.2, tt)))
command_solid (commands.NewVector d n) ok = (cell_solid d ok.0, (decimal_solid n (omega (arith, ok.1)), tt))
command_solid (commands.NewInstance d n) ok = (cell_solid d ok.0, (decimal_solid n (omega (arith, ok.1)), tt))
command_solid (commands.NewClosure d n) ok = (cell_solid d ok.0, (decimal_solid n (omega (arith, ok.1)), tt))
command_solid (commands.NewWords d n w) ok = (cell_solid d ok.0, (decimal_solid n (omega (arith, ok.1)), (word_solid w, tt)))
command_solid (commands.NewWeak d c) ok = (cell_solid d ok.0, (cell_solid c ok.1, tt))
command_solid (commands.NewTable d w b) ok = (cell_solid d ok.0, (weakness_solid w, (decimal_solid b (omega (arith, ok.2)), tt)))
command_solid (commands.Get d c i) ok = (cell_solid d ok.0, (cell_solid c ok.1, (decimal_solid i (omega (arith, ok.2)), tt)))
command_solid (commands.Put c i a) ok = (cell_solid c ok.0, (decimal_solid i (omega (arith, ok.1)), (cell_solid a ok.2, tt)))
command_solid (commands.RawGet r c i) ok = (decimal_solid r.0 (omega (arith, ok.0)), (cell_solid c ok.1, (decimal_solid i (omega (arith, ok.2)), tt)))
command_solid (commands.RawPut c i r) ok = (cell_solid c ok.0, (decimal_solid i (omega (arith, ok.1)), (decimal_solid r.0 (omega (arith, ok.2)), tt)))
command_solid (commands.Same a b) ok = (cell_solid a ok.0, (cell_solid b ok.1, tt))
command_solid (commands.Show c) ok = (cell_solid c ok, tt)
command_solid (commands.Addr r c) ok = (decimal_solid r.0 (omega (arith, ok.0)), (cell_solid c ok.1, tt))
command_solid (commands.SetRaw r w) ok = (decimal_solid r.0 (omega (arith, ok.0)), (word_solid w, tt))
command_solid (commands.AddRaw r k) ok = (decimal_solid r.0 (omega (arith, ok.0)), (long_solid k ok.1, tt))
command_solid (commands.Pin c) ok = (cell_solid c ok, tt)
command_solid commands.Unpin ok = tt
command_solid (commands.WeakVal d c) ok = (cell_solid d ok.0, (cell_solid c ok.1, tt))
command_solid (commands.TablePut c k v) ok = (cell_solid c ok.0, (cell_solid k ok.1, (cell_solid v ok.2, tt)))
command_solid (commands.TableGet d c k) ok = (cell_solid d ok.0, (cell_solid c ok.1, (cell_solid k ok.2, tt)))
command_solid (commands.TableRem c k) ok = (cell_solid c ok.0, (cell_solid k ok.1, tt))
command_solid (commands.TableCount c) ok = (cell_solid c ok, tt)
command_solid (commands.Finalize c id) ok = (cell_solid c ok.0, (decimal_solid id (omega (arith, ok.1)), tt))
command_solid (commands.Cancel c) ok = (cell_solid c ok, tt)
command_solid commands.RunFinalizers ok = tt
command_solid (commands.Collect g) ok = (decimal_solid g (omega (arith, ok)), tt)
command_solid commands.Inhibit ok = tt
command_solid commands.Allow ok = tt
command_solid (commands.ShowPage p) ok = (decimal_solid p (omega (arith, ok)), tt)
command_solid (commands.Stat g) ok = (decimal_solid g (omega (arith, ok)), tt)

all_append : (xs ys : List (List ℕ)) → AllByRecursion Solid xs → AllByRecursion Solid ys → AllByRecursion Solid (xs ++ ys)
all_append [] ys x y = y
all_append (f ∷ xs) ys x y = (x.0, all_append xs ys x.1 y)

move_solid : (name old : ℕ) (new : Option ℕ) → IsMove (record { name = name; old = old; new = new }) → AllByRecursion Solid (move_fields name old new)
move_solid name old (Some new) ok = (refl, (name_solid name ok.0, (index_solid old ok.1, (index_solid new ok.2, tt))))
move_solid name old None ok = (refl, (name_solid name ok.0, (index_solid old ok.1, tt)))

pub piece_solid : (p : Piece) → IsPiece p → AllByRecursion Solid (piece_fields p)
piece_solid (pieces.Event (events.Did t c a)) ok = (decimal_solid t (omega (arith, ok.0)), (name_of_solid (name_in c), all_append (spelled c) (codes "->" ∷ answer_fields a) (command_solid c ok.1) (refl, answer_solid a ok.2)))
piece_solid (pieces.Event (events.Opened t ty first k)) ok = (decimal_solid t (omega (arith, ok.0)), (refl, (type_solid ty, (decimal_solid first (omega (arith, ok.1)), (decimal_solid k (omega (arith, ok.3)), tt)))))
piece_solid (pieces.Event (events.Collected t last passes)) ok = tt
piece_solid (pieces.Event (events.Ended t)) ok = (decimal_solid t (omega (arith, ok)), (refl, tt))
piece_solid (pieces.Collect t last) ok = (decimal_solid t (omega (arith, ok.0)), (refl, (decimal_solid last (omega (arith, ok.1)), tt)))
piece_solid (pieces.Pass g target) ok = (refl, (decimal_solid g (omega (arith, ok.0)), (decimal_solid target (omega (arith, ok.1)), tt)))
piece_solid (pieces.Move m) ok = move_solid m.name m.old m.new ok
piece_solid (pieces.Pin q) ok = (refl, (name_solid q.name ok.0, (index_solid q.index ok.1, tt)))
piece_solid (pieces.Cull k) ok = (refl, (name_solid k.table ok.0, (value_solid k.key ok.1, (value_solid k.value ok.2, tt))))
piece_solid (pieces.Break name) ok = (refl, (name_solid name ok, tt))
piece_solid (pieces.Queue id) ok = (refl, (decimal_solid id (omega (arith, ok)), tt))
piece_solid (pieces.Free page) ok = (refl, (decimal_solid page (omega (arith, ok)), tt))
piece_solid (pieces.Swept dead kept) ok = (refl, (decimal_solid dead (omega (arith, ok.0)), (decimal_solid kept (omega (arith, ok.1)), tt)))
piece_solid (pieces.Done n) ok = (refl, (decimal_solid n ok, tt))
