-- The text of a line: its fields joined, and an LF.
use Rattle.std.proofs.Common.{◌≡◌, ℕ, List, [], ◌∷◌, ◌++◌, map, Option, Some, None, refl, ap, sym, ◌∙◌}
use Rattle.std.specs.Fmt.{decimal}
use Rattle.std.specs.Prelude.{codes}
use Rattle.heap_terms.specs.declared.answers.Answer.{Answer}
use Rattle.heap_terms.specs.declared.answers.Answer.TheVariants as answers
use Rattle.heap_terms.specs.declared.commands.Command.{Command}
use Rattle.heap_terms.specs.declared.commands.Command.TheVariants as commands
use Rattle.heap_terms.specs.declared.events.Event.TheVariants as events
use Rattle.heap_terms.specs.Text.{name_text, index_text, value_text, type_text}
use Rattle.journal_text.specs.declared.parsing.pieces.Piece.{Piece}
use Rattle.journal_text.specs.declared.parsing.pieces.Piece.TheVariants as pieces
use Rattle.journal_text.specs.Words.{name_in, word_of}
use Rattle.journal_text.proofs.Answers.{answer_fields}
use Rattle.journal_text.proofs.Commands.{spelled}
use Rattle.std.proofs.Common.{append_assoc, append-nil}
use Rattle.std.specs.Fmt.{signed_decimal}
use Rattle.std.specs.List.{flat_map}
use Rattle.heap_terms.specs.declared.answers.Item.{Item}
use Rattle.heap_terms.specs.declared.answers.PageView.TheVariants as views
use Rattle.heap_terms.specs.Text.{word_text, weakness_text, refusal_text, field, line, fields_text, answer_text, item_text, event_text, number_field, placing_text}
use Rattle.heap_terms.specs.Valid.{name_of}
use Rattle.journal_text.proofs.Answers.{item_field, object_field}
use Rattle.journal_text.proofs.Exact.{lettered}
use Rattle.journal_text.proofs.Joined.{joined}
use Rattle.journal_text.proofs.Pieces.{IsPiece, piece_fields, move_fields}
use Rattle.std.proofs.lemmas.Grind.{flat_map-append}
use Rattle.heap_terms.specs.Text.{cell_field, raw_field, index_text}
use Rattle.journal_text.specs.Lines.{piece_text}

-- ---- lists of bytes put together one after the other

cat2 : (a b n : List ℕ) → (a ++ b) ++ n ≡ (a ++ (b ++ [])) ++ n
cat2 a b n = simp append-nil

cat3 : (a b c n : List ℕ) → ((a ++ b) ++ c) ++ n ≡ (a ++ (b ++ (c ++ []))) ++ n
cat3 a b c n = simp (append_assoc, append-nil)

cat4 : (a b c d n : List ℕ) → (((a ++ b) ++ c) ++ d) ++ n ≡ (a ++ (b ++ (c ++ (d ++ [])))) ++ n
cat4 a b c d n = simp (append_assoc, append-nil)

cat5 : (a b c d f n : List ℕ) → ((((a ++ b) ++ c) ++ d) ++ f) ++ n ≡ (a ++ (b ++ (c ++ (d ++ (f ++ []))))) ++ n
cat5 a b c d f n = simp (append_assoc, append-nil)

tail1 : (a : List ℕ) → a ≡ a ++ []
tail1 a = sym (append-nil a)

tail2 : (a b : List ℕ) → a ++ b ≡ a ++ (b ++ [])
tail2 a b = simp append-nil

tail3 : (a b c : List ℕ) → (a ++ b) ++ c ≡ a ++ (b ++ (c ++ []))
tail3 a b c = simp (append_assoc, append-nil)

tail5 : (a b c d f : List ℕ) → (((a ++ b) ++ c) ++ d) ++ f ≡ a ++ (b ++ (c ++ (d ++ (f ++ []))))
tail5 a b c d f = simp (append_assoc, append-nil)

tail6 : (a b c d f g : List ℕ) → ((((a ++ b) ++ c) ++ d) ++ f) ++ g ≡ a ++ (b ++ (c ++ (d ++ (f ++ (g ++ [])))))
tail6 a b c d f g = simp (append_assoc, append-nil)

page4 : (a b c d f : List ℕ) → (((a ++ b) ++ c) ++ d) ++ f ≡ a ++ (b ++ (c ++ (d ++ f)))
page4 a b c d f = simp append_assoc

tail_text : (c : Command) → fields_text c ≡ flat_map field (spelled c)
tail_text (commands.Fix d n) = tail2 (cell_field d) (field (signed_decimal n))
tail_text (commands.MakeNil d) = tail1 (cell_field d)
tail_text (commands.Move d c) = tail2 (cell_field d) (cell_field c)
tail_text (commands.NewCons d a b) = tail3 (cell_field d) (cell_field a) (cell_field b)
tail_text (commands.NewVector d n) = tail2 (cell_field d) (number_field n)
tail_text (commands.NewInstance d n) = tail2 (cell_field d) (number_field n)
tail_text (commands.NewClosure d n) = tail2 (cell_field d) (number_field n)
tail_text (commands.NewWords d n w) = tail3 (cell_field d) (number_field n) (field (word_text w))
tail_text (commands.NewWeak d c) = tail2 (cell_field d) (cell_field c)
tail_text (commands.NewTable d w b) = tail3 (cell_field d) (field (weakness_text w)) (number_field b)
tail_text (commands.Get d c i) = tail3 (cell_field d) (cell_field c) (number_field i)
tail_text (commands.Put c i a) = tail3 (cell_field c) (number_field i) (cell_field a)
tail_text (commands.RawGet r c i) = tail3 (raw_field r) (cell_field c) (number_field i)
tail_text (commands.RawPut c i r) = tail3 (cell_field c) (number_field i) (raw_field r)
tail_text (commands.Same a b) = tail2 (cell_field a) (cell_field b)
tail_text (commands.Show c) = tail1 (cell_field c)
tail_text (commands.Addr r c) = tail2 (raw_field r) (cell_field c)
tail_text (commands.SetRaw r w) = tail2 (raw_field r) (field (word_text w))
tail_text (commands.AddRaw r k) = tail2 (raw_field r) (field (signed_decimal k))
tail_text (commands.Pin c) = tail1 (cell_field c)
tail_text commands.Unpin = refl
tail_text (commands.WeakVal d c) = tail2 (cell_field d) (cell_field c)
tail_text (commands.TablePut c k v) = tail3 (cell_field c) (cell_field k) (cell_field v)
tail_text (commands.TableGet d c k) = tail3 (cell_field d) (cell_field c) (cell_field k)
tail_text (commands.TableRem c k) = tail2 (cell_field c) (cell_field k)
tail_text (commands.TableCount c) = tail1 (cell_field c)
tail_text (commands.Finalize c id) = tail2 (cell_field c) (number_field id)
tail_text (commands.Cancel c) = tail1 (cell_field c)
tail_text commands.RunFinalizers = refl
tail_text (commands.Collect g) = tail1 (number_field g)
tail_text commands.Inhibit = refl
tail_text commands.Allow = refl
tail_text (commands.ShowPage p) = tail1 (number_field p)
tail_text (commands.Stat g) = tail1 (number_field g)

word_text_of : (c : Command) → name_of c ≡ word_of (name_in c)
word_text_of (commands.Fix d n) = refl
word_text_of (commands.MakeNil d) = refl
word_text_of (commands.Move d c) = refl
word_text_of (commands.NewCons d a b) = refl
word_text_of (commands.NewVector d n) = refl
word_text_of (commands.NewInstance d n) = refl
word_text_of (commands.NewClosure d n) = refl
word_text_of (commands.NewWords d n w) = refl
word_text_of (commands.NewWeak d c) = refl
word_text_of (commands.NewTable d w b) = refl
word_text_of (commands.Get d c i) = refl
word_text_of (commands.Put c i a) = refl
word_text_of (commands.RawGet r c i) = refl
word_text_of (commands.RawPut c i r) = refl
word_text_of (commands.Same a b) = refl
word_text_of (commands.Show c) = refl
word_text_of (commands.Addr r c) = refl
word_text_of (commands.SetRaw r w) = refl
word_text_of (commands.AddRaw r k) = refl
word_text_of (commands.Pin c) = refl
word_text_of commands.Unpin = refl
word_text_of (commands.WeakVal d c) = refl
word_text_of (commands.TablePut c k v) = refl
word_text_of (commands.TableGet d c k) = refl
word_text_of (commands.TableRem c k) = refl
word_text_of (commands.TableCount c) = refl
word_text_of (commands.Finalize c id) = refl
word_text_of (commands.Cancel c) = refl
word_text_of commands.RunFinalizers = refl
word_text_of (commands.Collect g) = refl
word_text_of commands.Inhibit = refl
word_text_of commands.Allow = refl
word_text_of (commands.ShowPage p) = refl
word_text_of (commands.Stat g) = refl

items_text : (items : List Item) → flat_map (λ (item : Item). field (item_text item.name item.index item.count)) items ≡ flat_map field (map item_field items)
items_text [] = refl
items_text (x ∷ items) = ap (λ (xs : List ℕ). field (item_field x) ++ xs) (items_text items)

ids_text : (ids : List ℕ) → flat_map number_field ids ≡ flat_map field (map decimal ids)
ids_text [] = refl
ids_text (x ∷ ids) = ap (λ (xs : List ℕ). field (decimal x) ++ xs) (ids_text ids)

answer_joined : (a : Answer) → answer_text a ≡ joined (answer_fields a)
answer_joined answers.Done = refl
answer_joined (answers.Val v) = sym (append-nil (value_text v))
answer_joined (answers.Word w) = sym (append-nil (word_text w))
answer_joined answers.Yes = refl
answer_joined answers.No = refl
answer_joined answers.Absent = refl
answer_joined (answers.Live v) = tail2 (codes "live") (field (value_text v))
answer_joined answers.Broken = refl
answer_joined (answers.Count n) = sym (append-nil (decimal n))
answer_joined (answers.Ran ids) = ap (λ (xs : List ℕ). codes "ran" ++ xs) (ids_text ids)
answer_joined (answers.Page views.Free) = refl
answer_joined (answers.Page (views.Small ty g fill items)) = page4 (type_text ty) (field (lettered 103 g)) (codes " fill") (number_field fill) _ ∙ ap (λ (xs : List ℕ). type_text ty ++ (field (lettered 103 g) ++ (codes " fill" ++ (number_field fill ++ xs)))) (items_text items)
answer_joined (answers.Page (views.Large ty g pages name index)) = tail5 (type_text ty) (field (lettered 103 g)) (codes " large") (number_field pages) (field (object_field (name, index)))
answer_joined (answers.Stat a c n) = tail6 (codes "allocated") (number_field a) (codes " cum") (number_field c) (codes " num") (number_field n)
answer_joined (answers.Placed name index) = tail2 (name_text name) (field (index_text index))
answer_joined (answers.Refused why) = sym (append-nil (refusal_text why))

answer_flat : (a : Answer) → flat_map field (answer_fields a) ≡ codes " " ++ joined (answer_fields a)
answer_flat answers.Done = refl
answer_flat (answers.Val v) = refl
answer_flat (answers.Word w) = refl
answer_flat answers.Yes = refl
answer_flat answers.No = refl
answer_flat answers.Absent = refl
answer_flat (answers.Live v) = refl
answer_flat answers.Broken = refl
answer_flat (answers.Count n) = refl
answer_flat (answers.Ran ids) = refl
answer_flat (answers.Page views.Free) = refl
answer_flat (answers.Page (views.Small ty g fill items)) = refl
answer_flat (answers.Page (views.Large ty g pages name index)) = refl
answer_flat (answers.Stat x c n) = refl
answer_flat (answers.Placed name index) = refl
answer_flat (answers.Refused why) = refl

put_together : (t s w f a j n : List ℕ) → ((((t ++ s) ++ (w ++ f)) ++ (a ++ s)) ++ j) ++ n ≡ (t ++ ((s ++ w) ++ (f ++ (a ++ (s ++ j))))) ++ n
put_together t s w f a j n = simp append_assoc

did_text : (t : ℕ) (c : Command) (a : Answer) → event_text (events.Did t c a) ≡ line (joined (piece_fields (pieces.Event (events.Did t c a))))
unfolding event_text
did_text t c a =
    let fields : flat_map field (spelled c ++ (codes "->" ∷ answer_fields a)) ≡ flat_map field (spelled c) ++ (codes " ->" ++ (codes " " ++ joined (answer_fields a))) =
    flat_map-append field (spelled c) (codes "->" ∷ answer_fields a) ∙ ap (λ (xs : List ℕ). flat_map field (spelled c) ++ (codes " ->" ++ xs)) (answer_flat a) in
    (λ i. line (decimal t ++ codes " " ++ (word_text_of c i ++ tail_text c i) ++ codes " -> " ++ answer_joined a i))
    ∙ put_together (decimal t) (codes " ") (word_of (name_in c)) (flat_map field (spelled c)) (codes " ->") (joined (answer_fields a)) (codes "\n")
    ∙ ap (λ (xs : List ℕ). line (decimal t ++ (field (word_of (name_in c)) ++ xs))) (sym fields)

pub text_joined : (p : Piece) → IsPiece p → piece_text p ≡ line (joined (piece_fields p))
unfolding event_text
text_joined (pieces.Event (events.Did t c a)) ok = did_text t c a
text_joined (pieces.Event (events.Opened t ty f k)) ok = cat5 (decimal t) (codes " open") (field (type_text ty)) (number_field f) (number_field k) (codes "\n")
text_joined (pieces.Event (events.Collected t last passes)) ok = absurd ok
text_joined (pieces.Event (events.Ended t)) ok = cat2 (decimal t) (codes " end") (codes "\n")
text_joined (pieces.Collect t last) ok = cat3 (decimal t) (codes " collect") (number_field last) (codes "\n")
text_joined (pieces.Pass g target) ok = cat3 (codes "pass") (number_field g) (number_field target) (codes "\n")
text_joined (pieces.Move m) ok = at m.name m.old m.new
  where
    at : (name old : ℕ) (new : Option ℕ) → line (placing_text name old new) ≡ line (joined (move_fields name old new))
    at name old (Some new) = cat4 (codes "move") (field (name_text name)) (field (index_text old)) (field (index_text new)) (codes "\n")
    at name old None = cat3 (codes "stay") (field (name_text name)) (field (index_text old)) (codes "\n")
text_joined (pieces.Pin q) ok = cat3 (codes "pin") (field (name_text q.name)) (field (index_text q.index)) (codes "\n")
text_joined (pieces.Cull k) ok = cat4 (codes "cull") (field (name_text k.table)) (field (value_text k.key)) (field (value_text k.value)) (codes "\n")
text_joined (pieces.Break name) ok = cat2 (codes "break") (field (name_text name)) (codes "\n")
text_joined (pieces.Queue id) ok = cat2 (codes "queue") (number_field id) (codes "\n")
text_joined (pieces.Free page) ok = cat2 (codes "free") (number_field page) (codes "\n")
text_joined (pieces.Swept dead kept) ok = cat3 (codes "swept") (number_field dead) (number_field kept) (codes "\n")
text_joined (pieces.Done n) ok = cat2 (codes "done") (number_field n) (codes "\n")
