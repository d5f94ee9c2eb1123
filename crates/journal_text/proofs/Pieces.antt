-- Each line is read from the fields that it is spelled by, and from no others.
use Rattle.std.proofs.Common.{◌≡◌, ℕ, ◌^◌, ◌<◌, ◌≤◌, cond, List, [], ◌∷◌, ◌++◌, Option, Some, None, refl, ap, sym, ◌∙◌, subst, arith}
use Rattle.std.specs.Fmt.{decimal}
use Rattle.std.specs.Prelude.{codes}
use Rattle.std.proofs.lemmas.Option.{some_pair_parts, cond_some}
use Rattle.heap_terms.specs.declared.cells.Value.{Value}
use Rattle.heap_terms.specs.declared.commands.Command.{Command}
use Rattle.heap_terms.specs.declared.events.Event.TheVariants as events
use Rattle.heap_terms.specs.Text.{name_text, index_text, value_text, type_text}
use Rattle.heap_terms.specs.Valid.{IsInRange}
use Rattle.journal_text.specs.declared.parsing.pieces.Piece.{Piece}
use Rattle.journal_text.specs.declared.parsing.pieces.Piece.TheVariants as pieces
use Rattle.journal_text.specs.declared.parsing.records.Kind.{Kind}
use Rattle.journal_text.specs.declared.parsing.records.Kind.TheVariants as kinds
use Rattle.journal_text.specs.declared.parsing.records.Verb.{Verb}
use Rattle.journal_text.specs.declared.parsing.records.Verb.TheVariants as verbs
use Rattle.journal_text.specs.declared.parsing.words.Name.{Name}
use Rattle.journal_text.specs.AnswerReading.{ending, read_answer, the_word}
use Rattle.journal_text.specs.LineReading.{◌>>=◌, first, read_command}
use Rattle.journal_text.specs.PieceReading.{a_kind, a_page, a_page_count, a_thread, a_verb, command_and_arrow, counts, kind_text, move, pin, read_act, read_by_kind, read_by_verb, read_did, read_line, read_record, read_verb, stay, verb_text, whole}
use Rattle.journal_text.specs.Ranges.{IsName, IsEvent, IsMove, IsPin, IsCull, IsNumber32, IsPageNumber, IsThread}
use Rattle.journal_text.specs.Rows.{may_answer}
use Rattle.journal_text.specs.Words.{command_word, name_in, word_of}
use Rattle.journal_text.proofs.Answers.{answer_fields, ending_sound, word_exact_at, number_64_exact}
use Rattle.journal_text.proofs.Binding.{bind_some}
use Rattle.journal_text.proofs.Commands.{command_sound, spelled}
use Rattle.journal_text.proofs.Exact.{IsExact, IsCount, number_exact, count_exact, collected_exact, generation_number_exact, value_exact, name_exact, index_exact, type_exact}
use Rattle.journal_text.proofs.Sequences.{first_sound, one_sound, two_sound, three_sound}
use Rattle.journal_text.proofs.WholeAnswers.{answer_sound, ids_exact}
use Rattle.journal_text.proofs.WordsFound.{kind_found, name_found, verb_found}

-- the fields of a line; an event that is a collection has none of its own
abbrev pub move_fields : ℕ → ℕ → Option ℕ → List (List ℕ)
move_fields name old (Some new) = codes "move" ∷ name_text name ∷ index_text old ∷ index_text new ∷ []
move_fields name old None = codes "stay" ∷ name_text name ∷ index_text old ∷ []

abbrev pub piece_fields : Piece → List (List ℕ)
piece_fields (pieces.Event (events.Did t c a)) = decimal t ∷ word_of (name_in c) ∷ (spelled c ++ (codes "->" ∷ answer_fields a))
piece_fields (pieces.Event (events.Opened t ty first k)) = decimal t ∷ codes "open" ∷ type_text ty ∷ decimal first ∷ decimal k ∷ []
piece_fields (pieces.Event (events.Collected t last passes)) = []
piece_fields (pieces.Event (events.Ended t)) = decimal t ∷ codes "end" ∷ []
piece_fields (pieces.Collect t last) = decimal t ∷ codes "collect" ∷ decimal last ∷ []
piece_fields (pieces.Pass g target) = codes "pass" ∷ decimal g ∷ decimal target ∷ []
piece_fields (pieces.Move m) = move_fields m.name m.old m.new
piece_fields (pieces.Pin q) = codes "pin" ∷ name_text q.name ∷ index_text q.index ∷ []
piece_fields (pieces.Cull k) = codes "cull" ∷ name_text k.table ∷ value_text k.key ∷ value_text k.value ∷ []
piece_fields (pieces.Break name) = codes "break" ∷ name_text name ∷ []
piece_fields (pieces.Queue id) = codes "queue" ∷ decimal id ∷ []
piece_fields (pieces.Free page) = codes "free" ∷ decimal page ∷ []
piece_fields (pieces.Swept dead kept) = codes "swept" ∷ decimal dead ∷ decimal kept ∷ []
piece_fields (pieces.Done n) = codes "done" ∷ decimal n ∷ []

-- all its numbers are in their ranges
abbrev pub IsPiece : Piece → Type 0
IsPiece (pieces.Event (events.Did t c a)) = IsEvent (events.Did t c a)
IsPiece (pieces.Event (events.Opened t ty first k)) = IsEvent (events.Opened t ty first k)
IsPiece (pieces.Event (events.Collected t last passes)) = ⊥
IsPiece (pieces.Event (events.Ended t)) = IsThread t
IsPiece (pieces.Collect t last) = IsThread t × (last ≤ 5)
IsPiece (pieces.Pass g target) = (g ≤ 5) × (target ≤ 6)
IsPiece (pieces.Move m) = IsMove m
IsPiece (pieces.Pin q) = IsPin q
IsPiece (pieces.Cull k) = IsCull k
IsPiece (pieces.Break name) = IsName name
IsPiece (pieces.Queue id) = IsNumber32 id
IsPiece (pieces.Free page) = IsPageNumber page
IsPiece (pieces.Swept dead kept) = IsNumber32 dead × IsNumber32 kept
IsPiece (pieces.Done n) = n < 2 ^ 64

abbrev pub Says : List (List ℕ) → Piece → Type 0
Says fields p = (fields ≡ piece_fields p) × IsPiece p

pub page_exact : IsExact a_page decimal (λ n. n ≤ 1023)
page_exact = number_exact 1023 (omega arith)

pub page_count_exact : IsExact a_page_count decimal (IsCount 1024)
page_count_exact = count_exact 1024 (omega arith)

pub thread_exact : IsExact a_thread decimal (λ n. n ≤ 7)
thread_exact = number_exact 7 (omega arith)

-- ---- the lines that are no events

record_sound : (k : Kind) (fields : List (List ℕ)) (p : Piece) → read_record k fields ≡ Some (p, []) → Says (kind_text k ∷ fields) p
unfolding read_record
record_sound kinds.Pass fields p e =
    let t = two_sound collected_exact generation_number_exact (pieces.Pass) fields p [] e in
    subst (λ (x : Piece). Says (kind_text kinds.Pass ∷ fields) x) t.is (ap (λ (xs : List (List ℕ)). kind_text kinds.Pass ∷ xs) t.spelled, (t.first, t.second))
record_sound kinds.Move fields p e =
    let t = three_sound name_exact index_exact index_exact (move) fields p [] e in
    subst (λ (x : Piece). Says (kind_text kinds.Move ∷ fields) x) t.is (ap (λ (xs : List (List ℕ)). kind_text kinds.Move ∷ xs) t.spelled, (t.first, t.second, t.third))
record_sound kinds.Stay fields p e =
    let t = two_sound name_exact index_exact (stay) fields p [] e in
    subst (λ (x : Piece). Says (kind_text kinds.Stay ∷ fields) x) t.is (ap (λ (xs : List (List ℕ)). kind_text kinds.Stay ∷ xs) t.spelled, (t.first, t.second, tt))
record_sound kinds.Pin fields p e =
    let t = two_sound name_exact index_exact (pin) fields p [] e in
    subst (λ (x : Piece). Says (kind_text kinds.Pin ∷ fields) x) t.is (ap (λ (xs : List (List ℕ)). kind_text kinds.Pin ∷ xs) t.spelled, (t.first, t.second))
record_sound kinds.Cull fields p e =
    let t = three_sound name_exact value_exact value_exact (λ (table : ℕ) (key value : Value). pieces.Cull (record { table = table; key = key; value = value })) fields p [] e in
    subst (λ (x : Piece). Says (kind_text kinds.Cull ∷ fields) x) t.is (ap (λ (xs : List (List ℕ)). kind_text kinds.Cull ∷ xs) t.spelled, (t.first, t.second, t.third))
record_sound kinds.Break fields p e =
    let t = one_sound name_exact (pieces.Break) fields p [] e in
    subst (λ (x : Piece). Says (kind_text kinds.Break ∷ fields) x) t.is (ap (λ (xs : List (List ℕ)). kind_text kinds.Break ∷ xs) t.spelled, t.first)
record_sound kinds.Queue fields p e =
    let t = one_sound ids_exact (pieces.Queue) fields p [] e in
    subst (λ (x : Piece). Says (kind_text kinds.Queue ∷ fields) x) t.is (ap (λ (xs : List (List ℕ)). kind_text kinds.Queue ∷ xs) t.spelled, t.first)
record_sound kinds.Free fields p e =
    let t = one_sound page_exact (pieces.Free) fields p [] e in
    subst (λ (x : Piece). Says (kind_text kinds.Free ∷ fields) x) t.is (ap (λ (xs : List (List ℕ)). kind_text kinds.Free ∷ xs) t.spelled, omega (arith, t.first))
record_sound kinds.Swept fields p e =
    let t = two_sound ids_exact ids_exact (pieces.Swept) fields p [] e in
    subst (λ (x : Piece). Says (kind_text kinds.Swept ∷ fields) x) t.is (ap (λ (xs : List (List ℕ)). kind_text kinds.Swept ∷ xs) t.spelled, (t.first, t.second))
record_sound kinds.Done fields p e =
    let t = one_sound number_64_exact (pieces.Done) fields p [] e in
    subst (λ (x : Piece). Says (kind_text kinds.Done ∷ fields) x) t.is (ap (λ (xs : List (List ℕ)). kind_text kinds.Done ∷ xs) t.spelled, omega (arith, t.first))

-- ---- events

whole_told : (told : Option (Piece × List (List ℕ))) (p : Piece) → whole told ≡ Some p → told ≡ Some (p, [])
whole_told told p e =
    let b = bind_some told (λ r. ending r.0 r.1) p e in
    let k = ending_sound b.0.0 p b.0.1 b.2 in
    b.1 ∙ (λ i. Some (k.1 i, k.0 i))

verb_sound : (v : Verb) (t : ℕ) (fields : List (List ℕ)) (p : Piece) → IsThread t → read_verb v t fields ≡ Some (p, []) → Says (decimal t ∷ verb_text v ∷ fields) p
unfolding read_verb
verb_sound verbs.Open t fields p ok e =
    let s = three_sound type_exact page_exact page_count_exact (λ ty first k. pieces.Event (events.Opened t ty first k)) fields p [] e in
    subst (λ (x : Piece). Says (decimal t ∷ codes "open" ∷ fields) x) s.is (ap (λ (xs : List (List ℕ)). decimal t ∷ codes "open" ∷ xs) s.spelled, (ok, omega (arith, s.second), s.third.0, s.third.1))
verb_sound verbs.Collect t fields p ok e =
    let s = one_sound collected_exact (λ last. pieces.Collect t last) fields p [] e in
    subst (λ (x : Piece). Says (decimal t ∷ codes "collect" ∷ fields) x) s.is (ap (λ (xs : List (List ℕ)). decimal t ∷ codes "collect" ∷ xs) s.spelled, (ok, s.first))
verb_sound verbs.End t fields p ok e =
    let k = some_pair_parts (pieces.Event (events.Ended t)) p fields [] e in
    subst (λ (x : Piece). Says (decimal t ∷ codes "end" ∷ fields) x) k.0 (ap (λ (xs : List (List ℕ)). decimal t ∷ codes "end" ∷ xs) k.1, ok)

did_sound : (t : ℕ) (name : Name) (fields : List (List ℕ)) (p : Piece) → IsThread t → read_did t name fields ≡ Some p → Says (decimal t ∷ word_of name ∷ fields) p
unfolding read_did
did_sound t name fields p ok e =
    let a = bind_some (command_and_arrow name fields) (λ c. read_answer (counts c.0) c.1 >>= λ answer. cond (may_answer c.0 answer) (Some (pieces.Event (events.Did t c.0 answer))) None) p e in
    let b = bind_some (read_answer (counts a.0.0) a.0.1) (λ answer. cond (may_answer a.0.0 answer) (Some (pieces.Event (events.Did t a.0.0 answer))) None) p a.2 in
    let c = cond_some (may_answer a.0.0 b.0) (pieces.Event (events.Did t a.0.0 b.0)) p b.2 in
    let d = bind_some (read_command name fields) (λ c. first (the_word (codes "->")) c.1 >>= λ arrow. Some (c.0, arrow.1)) a.0 a.1 in
    let f = bind_some (first (the_word (codes "->")) d.0.1) (λ arrow. Some (d.0.0, arrow.1)) a.0 d.2 in
    let g = some_pair_parts d.0.0 a.0.0 f.0.1 a.0.1 f.2 in
    let said = command_sound name fields d.0.0 d.0.1 d.1 in
    let arrow = first_sound (word_exact_at (codes "->")) d.0.1 f.0.0 f.0.1 f.1 in
    let answer = answer_sound (counts a.0.0) a.0.1 b.0 b.1 in
    let rest : d.0.1 ≡ codes "->" ∷ answer_fields b.0 = arrow.0 ∙ ap (λ (xs : List (List ℕ)). codes "->" ∷ xs) (g.1 ∙ answer.0) in
    let good : IsInRange a.0.0 = subst (λ (x : Command). IsInRange x) g.0 said.good in
    let word : word_of name ≡ word_of (name_in a.0.0) = ap word_of (sym said.named) ∙ ap (λ x. word_of (name_in x)) g.0 in
    let front : fields ≡ spelled a.0.0 ++ (codes "->" ∷ answer_fields b.0) = said.said ∙ (λ i. spelled (g.0 i) ++ rest i) in
    subst (λ (x : Piece). Says (decimal t ∷ word_of name ∷ fields) x) c.1 ((λ i. decimal t ∷ word i ∷ front i), (ok, good, answer.1, c.0))

act_sound : (t : ℕ) (fields : List (List ℕ)) (p : Piece) → IsThread t → read_act t fields ≡ Some p → Says (decimal t ∷ fields) p
act_sound t [] p ok e = absurd cc
act_sound t (f ∷ fields) p ok e = at (a_verb f) refl e
  where
    at : (told : Option Verb) → a_verb f ≡ told → read_by_verb told t f fields ≡ Some p → Says (decimal t ∷ f ∷ fields) p
    at (Some v) is e = subst (λ (x : List ℕ). Says (decimal t ∷ x ∷ fields) p) (sym (verb_found f v is)) (verb_sound v t fields p ok (whole_told (read_verb v t fields) p e))
    at None is e =
        let b = bind_some (command_word f) (λ name. read_did t name fields) p e in
        subst (λ (x : List ℕ). Says (decimal t ∷ x ∷ fields) p) (sym (name_found f b.0 b.1)) (did_sound t b.0 fields p ok b.2)

pub line_sound : (fields : List (List ℕ)) (p : Piece) → read_line fields ≡ Some p → Says fields p
unfolding read_line
line_sound [] p e = absurd cc
line_sound (f ∷ fields) p e = at (a_kind f) refl e
  where
    at : (told : Option Kind) → a_kind f ≡ told → read_by_kind told f fields ≡ Some p → Says (f ∷ fields) p
    at (Some k) is e = subst (λ (x : List ℕ). Says (x ∷ fields) p) (sym (kind_found f k is)) (record_sound k fields p (whole_told (read_record k fields) p e))
    at None is e =
        let b = bind_some (a_thread f) (λ t. read_act t fields) p e in
        let s = thread_exact.sound f b.0 b.1 in
        subst (λ (x : List ℕ). Says (x ∷ fields) p) (sym s.0) (act_sound b.0 fields p (omega (arith, s.1)) b.2)
