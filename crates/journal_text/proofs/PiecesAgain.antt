-- Each line is read back from its fields.
use Rattle.std.proofs.Common.{◌≡◌, ℕ, ◌<◌, ◌≤◌, true, false, List, ◌∷◌, ◌++◌, length, Option, Some, None, refl, ap, ◌∙◌, arith}
use Rattle.std.specs.Fmt.{decimal}
use Rattle.std.specs.Prelude.{codes}
use Rattle.std.proofs.lemmas.Bool.{false≢true}
use Rattle.std.proofs.lemmas.Fmt.{decimal_digit}
use Rattle.heap_terms.specs.declared.answers.Answer.{Answer}
use Rattle.heap_terms.specs.declared.answers.Answer.TheVariants as answers
use Rattle.heap_terms.specs.declared.commands.Command.{Command}
use Rattle.heap_terms.specs.declared.commands.Command.TheVariants as commands
use Rattle.heap_terms.specs.declared.events.Event.TheVariants as events
use Rattle.heap_terms.specs.Text.{name_text, index_text, value_text, type_text}
use Rattle.heap_terms.specs.Valid.{IsInRange}
use Rattle.journal_text.specs.declared.parsing.pieces.Piece.{Piece}
use Rattle.journal_text.specs.declared.parsing.pieces.Piece.TheVariants as pieces
use Rattle.journal_text.specs.declared.parsing.records.Kind.{Kind}
use Rattle.journal_text.specs.declared.parsing.records.Kind.TheVariants as kinds
use Rattle.journal_text.specs.declared.parsing.rows.Shape.TheVariants as shapes
use Rattle.journal_text.specs.declared.parsing.words.Name.{Name}
use Rattle.journal_text.specs.declared.parsing.words.Name.TheVariants as names
use Rattle.journal_text.specs.AnswerReading.{a_number_64, read_answer}
use Rattle.journal_text.specs.FieldReading.{a_name, a_type, a_value, an_index}
use Rattle.journal_text.specs.LineReading.{first, a_collected, a_generation_number, a_number_32, read_command}
use Rattle.journal_text.specs.PieceReading.{a_kind, a_page, a_page_count, a_thread, a_verb, counts, kind_text, read_act, read_did, read_line, read_record, read_verb}
use Rattle.journal_text.specs.Ranges.{IsAnswer, IsMove}
use Rattle.journal_text.specs.Rows.{admits, may_answer}
use Rattle.journal_text.specs.Words.{command_word, name_in, word_of}
use Rattle.journal_text.proofs.Answers.{answer_fields, number_64_exact}
use Rattle.journal_text.proofs.Commands.{command_again, spelled}
use Rattle.journal_text.proofs.Exact.{collected_exact, generation_number_exact, value_exact, name_exact, index_exact, type_exact}
use Rattle.journal_text.proofs.WholeAnswers.{Suits, answer_again, ids_exact}
use Rattle.journal_text.proofs.Words.{name_again}
use Rattle.journal_text.proofs.WordsFound.{kind_found}
use Rattle.journal_text.proofs.Pieces.{IsPiece, piece_fields, move_fields, page_exact, page_count_exact, thread_exact}

-- ---- no word begins with a digit

thread_text : (t : ℕ) → t < 8 → length (decimal t) ≡ 1
thread_text t small = ap length (decimal_digit t (omega arith))

kind_long : (k : Kind) → 2 ≤ length (kind_text k)
kind_long kinds.Pass = omega arith
kind_long kinds.Move = omega arith
kind_long kinds.Stay = omega arith
kind_long kinds.Pin = omega arith
kind_long kinds.Cull = omega arith
kind_long kinds.Break = omega arith
kind_long kinds.Queue = omega arith
kind_long kinds.Free = omega arith
kind_long kinds.Swept = omega arith
kind_long kinds.Done = omega arith

kind_none : (t : ℕ) → t < 8 → a_kind (decimal t) ≡ None
kind_none t small = at (a_kind (decimal t)) refl
  where
    at : (told : Option Kind) → a_kind (decimal t) ≡ told → told ≡ None
    at None is = refl
    at (Some k) is = absurd (omega (arith, kind_long k, thread_text t small, ap length (kind_found (decimal t) k is)))

verb_none : (n : Name) → a_verb (word_of n) ≡ None
unfolding a_verb
verb_none names.Fix = refl
verb_none names.Cons = refl
verb_none names.Get = refl
verb_none names.Put = refl
verb_none names.Show = refl
verb_none names.Nil = refl
verb_none names.Move = refl
verb_none names.Vector = refl
verb_none names.Instance = refl
verb_none names.Closure = refl
verb_none names.Words = refl
verb_none names.Weak = refl
verb_none names.Table = refl
verb_none names.RawGet = refl
verb_none names.RawPut = refl
verb_none names.Eq = refl
verb_none names.Addr = refl
verb_none names.Raw = refl
verb_none names.Add = refl
verb_none names.Pin = refl
verb_none names.Unpin = refl
verb_none names.WeakVal = refl
verb_none names.Tput = refl
verb_none names.Tget = refl
verb_none names.Trem = refl
verb_none names.Tcount = refl
verb_none names.Finalize = refl
verb_none names.Cancel = refl
verb_none names.RunFin = refl
verb_none names.Gc = refl
verb_none names.NoGc = refl
verb_none names.GcOk = refl
verb_none names.Page = refl
verb_none names.Stat = refl

-- ---- whether a command counts

value_no_count : (c : Command) → admits c shapes.Value ≡ true → counts c ≡ false
value_no_count (commands.Fix d n) h = refl
value_no_count (commands.MakeNil d) h = refl
value_no_count (commands.Move d c) h = refl
value_no_count (commands.NewCons d a b) h = refl
value_no_count (commands.NewVector d n) h = refl
value_no_count (commands.NewInstance d n) h = refl
value_no_count (commands.NewClosure d n) h = refl
value_no_count (commands.NewWords d n w) h = refl
value_no_count (commands.NewWeak d c) h = refl
value_no_count (commands.NewTable d w b) h = refl
value_no_count (commands.Get d c i) h = refl
value_no_count (commands.Put c i a) h = refl
value_no_count (commands.RawGet r c i) h = refl
value_no_count (commands.RawPut c i r) h = refl
value_no_count (commands.Same a b) h = refl
value_no_count (commands.Show c) h = refl
value_no_count (commands.Addr r c) h = refl
value_no_count (commands.SetRaw r w) h = refl
value_no_count (commands.AddRaw r k) h = refl
value_no_count (commands.Pin c) h = refl
value_no_count commands.Unpin h = refl
value_no_count (commands.WeakVal d c) h = refl
value_no_count (commands.TablePut c k v) h = refl
value_no_count (commands.TableGet d c k) h = refl
value_no_count (commands.TableRem c k) h = refl
value_no_count (commands.TableCount c) h = absurd (false≢true h)
value_no_count (commands.Finalize c id) h = refl
value_no_count (commands.Cancel c) h = absurd (false≢true h)
value_no_count commands.RunFinalizers h = refl
value_no_count (commands.Collect g) h = refl
value_no_count commands.Inhibit h = refl
value_no_count commands.Allow h = refl
value_no_count (commands.ShowPage p) h = refl
value_no_count (commands.Stat g) h = refl

word_no_count : (c : Command) → admits c shapes.Word ≡ true → counts c ≡ false
word_no_count (commands.Fix d n) h = refl
word_no_count (commands.MakeNil d) h = refl
word_no_count (commands.Move d c) h = refl
word_no_count (commands.NewCons d a b) h = refl
word_no_count (commands.NewVector d n) h = refl
word_no_count (commands.NewInstance d n) h = refl
word_no_count (commands.NewClosure d n) h = refl
word_no_count (commands.NewWords d n w) h = refl
word_no_count (commands.NewWeak d c) h = refl
word_no_count (commands.NewTable d w b) h = refl
word_no_count (commands.Get d c i) h = refl
word_no_count (commands.Put c i a) h = refl
word_no_count (commands.RawGet r c i) h = refl
word_no_count (commands.RawPut c i r) h = refl
word_no_count (commands.Same a b) h = refl
word_no_count (commands.Show c) h = refl
word_no_count (commands.Addr r c) h = refl
word_no_count (commands.SetRaw r w) h = refl
word_no_count (commands.AddRaw r k) h = refl
word_no_count (commands.Pin c) h = refl
word_no_count commands.Unpin h = refl
word_no_count (commands.WeakVal d c) h = refl
word_no_count (commands.TablePut c k v) h = refl
word_no_count (commands.TableGet d c k) h = refl
word_no_count (commands.TableRem c k) h = refl
word_no_count (commands.TableCount c) h = absurd (false≢true h)
word_no_count (commands.Finalize c id) h = refl
word_no_count (commands.Cancel c) h = absurd (false≢true h)
word_no_count commands.RunFinalizers h = refl
word_no_count (commands.Collect g) h = refl
word_no_count commands.Inhibit h = refl
word_no_count commands.Allow h = refl
word_no_count (commands.ShowPage p) h = refl
word_no_count (commands.Stat g) h = refl

suits : (c : Command) (a : Answer) → may_answer c a ≡ true → Suits (counts c) a
suits c (answers.Val v) h = value_no_count c h
suits c (answers.Word w) h = word_no_count c h
suits c (answers.Count n) h = h
suits c answers.Done h = tt
suits c answers.Yes h = tt
suits c answers.No h = tt
suits c answers.Absent h = tt
suits c (answers.Live v) h = tt
suits c answers.Broken h = tt
suits c (answers.Ran ids) h = tt
suits c (answers.Page view) h = tt
suits c (answers.Stat allocated cum num) h = tt
suits c (answers.Placed name index) h = tt
suits c (answers.Refused why) h = tt

-- ---- the lines

did_again : (t : ℕ) (c : Command) (a : Answer) → IsInRange c → IsAnswer a → may_answer c a ≡ true → read_did t (name_in c) (spelled c ++ (codes "->" ∷ answer_fields a)) ≡ Some (pieces.Event (events.Did t c a))
unfolding read_did
did_again t c a good answer may =
    let command : read_command (name_in c) (spelled c ++ (codes "->" ∷ answer_fields a)) ≡ Some (c, codes "->" ∷ answer_fields a) = command_again c (codes "->" ∷ answer_fields a) good in
    let told : read_answer (counts c) (answer_fields a) ≡ Some a = answer_again (counts c) a answer (suits c a may) in
    rw (command, told, may) refl

thread_again : (t : ℕ) (fields : List (List ℕ)) → t < 8 → read_line (decimal t ∷ fields) ≡ read_act t fields
unfolding read_line
thread_again t fields small =
    let kind : a_kind (decimal t) ≡ None = kind_none t small in
    let thread : a_thread (decimal t) ≡ Some t = thread_exact.again t (omega arith) in
    rw (kind, thread) refl

act_again : (t : ℕ) (n : Name) (fields : List (List ℕ)) → read_act t (word_of n ∷ fields) ≡ read_did t n fields
act_again t n fields =
    let verb : a_verb (word_of n) ≡ None = verb_none n in
    let name : command_word (word_of n) ≡ Some n = name_again n in
    rw (verb, name) refl

pub line_again : (p : Piece) → IsPiece p → read_line (piece_fields p) ≡ Some p
unfolding read_line a_kind read_record a_verb read_verb
line_again (pieces.Event (events.Did t c a)) ok = thread_again t _ ok.0 ∙ act_again t (name_in c) _ ∙ did_again t c a ok.1 ok.2 ok.3
line_again (pieces.Event (events.Opened t ty first k)) ok =
    let x : a_type (type_text ty) ≡ Some ty = type_exact.again ty tt in
    let y : a_page (decimal first) ≡ Some first = page_exact.again first (omega (arith, ok.1)) in
    let z : a_page_count (decimal k) ≡ Some k = page_count_exact.again k (ok.2, ok.3) in
    thread_again t _ ok.0 ∙ rw (x, y, z) refl
line_again (pieces.Event (events.Collected t last passes)) ok = absurd ok
line_again (pieces.Event (events.Ended t)) ok = thread_again t _ ok
line_again (pieces.Collect t last) ok = let x : a_collected (decimal last) ≡ Some last = collected_exact.again last ok.1 in thread_again t _ ok.0 ∙ rw x refl
line_again (pieces.Pass g target) ok =
    let x : a_collected (decimal g) ≡ Some g = collected_exact.again g ok.0 in
    let y : a_generation_number (decimal target) ≡ Some target = generation_number_exact.again target ok.1 in
    rw (x, y) refl
line_again (pieces.Move m) ok = at m.name m.old m.new ok
  where
    at : (name old : ℕ) (new : Option ℕ) → IsMove (record { name = name; old = old; new = new }) → read_line (move_fields name old new) ≡ Some (pieces.Move (record { name = name; old = old; new = new }))
    at name old (Some new) ok =
        let x : a_name (name_text name) ≡ Some name = name_exact.again name ok.0 in
        let y : an_index (index_text old) ≡ Some old = index_exact.again old ok.1 in
        let z : an_index (index_text new) ≡ Some new = index_exact.again new ok.2 in
        rw (x, y, z) refl
    at name old None ok =
        let x : a_name (name_text name) ≡ Some name = name_exact.again name ok.0 in
        let y : an_index (index_text old) ≡ Some old = index_exact.again old ok.1 in
        rw (x, y) refl
line_again (pieces.Pin q) ok =
    let x : a_name (name_text q.name) ≡ Some q.name = name_exact.again q.name ok.0 in
    let y : an_index (index_text q.index) ≡ Some q.index = index_exact.again q.index ok.1 in
    rw (x, y) refl
line_again (pieces.Cull k) ok =
    let x : a_name (name_text k.table) ≡ Some k.table = name_exact.again k.table ok.0 in
    let y : a_value (value_text k.key) ≡ Some k.key = value_exact.again k.key ok.1 in
    let z : a_value (value_text k.value) ≡ Some k.value = value_exact.again k.value ok.2 in
    rw (x, y, z) refl
line_again (pieces.Break name) ok = let x : a_name (name_text name) ≡ Some name = name_exact.again name ok in rw x refl
line_again (pieces.Queue id) ok = let x : a_number_32 (decimal id) ≡ Some id = ids_exact.again id ok in rw x refl
line_again (pieces.Free page) ok = let x : a_page (decimal page) ≡ Some page = page_exact.again page (omega (arith, ok)) in rw x refl
line_again (pieces.Swept dead kept) ok =
    let x : a_number_32 (decimal dead) ≡ Some dead = ids_exact.again dead ok.0 in
    let y : a_number_32 (decimal kept) ≡ Some kept = ids_exact.again kept ok.1 in
    rw (x, y) refl
line_again (pieces.Done n) ok = let x : a_number_64 (decimal n) ≡ Some n = number_64_exact.again n (omega (arith, ok)) in rw x refl
