-- The line of a command is read as that command.
use Rattle.std.proofs.Common.{◌≡◌, ℕ, ℤ, pos, negsuc, ◌≤◌, ◌<◌, ◌^◌, true, false, eqb, leb, List, [], ◌∷◌, length, Ok, refl, ap, ◌∙◌, arith, append_assoc, append-nil}
use Rattle.std.specs.Prelude.{decimal, slice_index}
use Rattle.std.specs.Fmt.{signed_decimal}
use Rattle.std.specs.List.{All}
use Rattle.std.proofs.lemmas.Bool.{lt-ltb, le-leb}
use Rattle.std.proofs.lemmas.List.Elements.{All-nil, All-cons}
use Rattle.heap_terms.specs.declared.commands.Command.{Command}
use Rattle.heap_terms.specs.declared.commands.Command.TheVariants.{Fix, MakeNil, Move, NewCons, NewVector, NewInstance, NewClosure, NewWords, NewWeak, NewTable, Get, Put, RawGet, RawPut, Same, Show, Addr, SetRaw, AddRaw, Pin, Unpin, WeakVal, TablePut, TableGet, TableRem, TableCount, Finalize, Cancel, RunFinalizers, Collect, Inhibit, Allow, ShowPage, Stat}
use Rattle.heap_terms.specs.Fields.{is_fixnum, is_i64}
use Rattle.heap_terms.specs.Grammar.{Does, rows, statement_of}
use Rattle.heap_terms.specs.ScriptReading.{SoFar, InThread, may_follow, judged, judged_word, within_limits}
use Rattle.heap_terms.specs.Text.{cell_text, word_text, weakness_text, command_text}
use Rattle.heap_terms.specs.Valid.{IsFixnum, IsSigned, IsCommand, IsInRange, name_of, is_built}
use Rattle.script_laws.proofs.Lines.{IsWord, written, spaced}
use Rattle.script_laws.proofs.FieldTexts.{decimal_word, number_decimal, signed_text, signed_word, fixnum_signed, cell_said, cell_word, raw_text, raw_said, raw_is_word, raw_word_said, raw_word_word, weakness_said, weakness_word}

-- the fields of a command after its word
unfoldable pub fields_of : Command → List (List ℕ)
fields_of (Fix d n) = cell_text d ∷ signed_decimal n ∷ []
fields_of (MakeNil d) = cell_text d ∷ []
fields_of (Move d c) = cell_text d ∷ cell_text c ∷ []
fields_of (NewCons d a b) = cell_text d ∷ cell_text a ∷ cell_text b ∷ []
fields_of (NewVector d n) = cell_text d ∷ decimal n ∷ []
fields_of (NewInstance d n) = cell_text d ∷ decimal n ∷ []
fields_of (NewClosure d n) = cell_text d ∷ decimal n ∷ []
fields_of (NewWords d n w) = cell_text d ∷ decimal n ∷ word_text w ∷ []
fields_of (NewWeak d c) = cell_text d ∷ cell_text c ∷ []
fields_of (NewTable d w b) = cell_text d ∷ weakness_text w ∷ decimal b ∷ []
fields_of (Get d c i) = cell_text d ∷ cell_text c ∷ decimal i ∷ []
fields_of (Put c i a) = cell_text c ∷ decimal i ∷ cell_text a ∷ []
fields_of (RawGet r c i) = raw_text r ∷ cell_text c ∷ decimal i ∷ []
fields_of (RawPut c i r) = cell_text c ∷ decimal i ∷ raw_text r ∷ []
fields_of (Same a b) = cell_text a ∷ cell_text b ∷ []
fields_of (Show c) = cell_text c ∷ []
fields_of (Addr r c) = raw_text r ∷ cell_text c ∷ []
fields_of (SetRaw r w) = raw_text r ∷ word_text w ∷ []
fields_of (AddRaw r k) = raw_text r ∷ signed_decimal k ∷ []
fields_of (Pin c) = cell_text c ∷ []
fields_of Unpin = []
fields_of (WeakVal d c) = cell_text d ∷ cell_text c ∷ []
fields_of (TablePut c k v) = cell_text c ∷ cell_text k ∷ cell_text v ∷ []
fields_of (TableGet d c k) = cell_text d ∷ cell_text c ∷ cell_text k ∷ []
fields_of (TableRem c k) = cell_text c ∷ cell_text k ∷ []
fields_of (TableCount c) = cell_text c ∷ []
fields_of (Finalize c id) = cell_text c ∷ decimal id ∷ []
fields_of (Cancel c) = cell_text c ∷ []
fields_of RunFinalizers = []
fields_of (Collect g) = decimal g ∷ []
fields_of Inhibit = []
fields_of Allow = []
fields_of (ShowPage p) = decimal p ∷ []
fields_of (Stat g) = decimal g ∷ []

-- ---- the text

pub text_spaced : (c : Command) → command_text c ≡ spaced (name_of c) (fields_of c)
unfolding fields_of spaced raw_text
text_spaced (Fix d n) = simp (append_assoc, append-nil)
text_spaced (MakeNil d) = simp (append_assoc, append-nil)
text_spaced (Move d c) = simp (append_assoc, append-nil)
text_spaced (NewCons d a b) = simp (append_assoc, append-nil)
text_spaced (NewVector d n) = simp (append_assoc, append-nil)
text_spaced (NewInstance d n) = simp (append_assoc, append-nil)
text_spaced (NewClosure d n) = simp (append_assoc, append-nil)
text_spaced (NewWords d n w) = simp (append_assoc, append-nil)
text_spaced (NewWeak d c) = simp (append_assoc, append-nil)
text_spaced (NewTable d w b) = simp (append_assoc, append-nil)
text_spaced (Get d c i) = simp (append_assoc, append-nil)
text_spaced (Put c i a) = simp (append_assoc, append-nil)
text_spaced (RawGet r c i) = simp (append_assoc, append-nil)
text_spaced (RawPut c i r) = simp (append_assoc, append-nil)
text_spaced (Same a b) = simp (append_assoc, append-nil)
text_spaced (Show c) = simp (append_assoc, append-nil)
text_spaced (Addr r c) = simp (append_assoc, append-nil)
text_spaced (SetRaw r w) = simp (append_assoc, append-nil)
text_spaced (AddRaw r k) = simp (append_assoc, append-nil)
text_spaced (Pin c) = simp (append_assoc, append-nil)
text_spaced Unpin = simp (append_assoc, append-nil)
text_spaced (WeakVal d c) = simp (append_assoc, append-nil)
text_spaced (TablePut c k v) = simp (append_assoc, append-nil)
text_spaced (TableGet d c k) = simp (append_assoc, append-nil)
text_spaced (TableRem c k) = simp (append_assoc, append-nil)
text_spaced (TableCount c) = simp (append_assoc, append-nil)
text_spaced (Finalize c id) = simp (append_assoc, append-nil)
text_spaced (Cancel c) = simp (append_assoc, append-nil)
text_spaced RunFinalizers = simp (append_assoc, append-nil)
text_spaced (Collect g) = simp (append_assoc, append-nil)
text_spaced Inhibit = simp (append_assoc, append-nil)
text_spaced Allow = simp (append_assoc, append-nil)
text_spaced (ShowPage p) = simp (append_assoc, append-nil)
text_spaced (Stat g) = simp (append_assoc, append-nil)

-- ---- its words

-- a number of 32 bits
narrow : (n : ℕ) → n < 2 ^ 32 → IsWord (decimal n)
narrow n h = decimal_word n (omega arith)

pub name_word : (c : Command) → IsWord (name_of c)
name_word (Fix d n) = written _ (omega arith) refl
name_word (MakeNil d) = written _ (omega arith) refl
name_word (Move d c) = written _ (omega arith) refl
name_word (NewCons d a b) = written _ (omega arith) refl
name_word (NewVector d n) = written _ (omega arith) refl
name_word (NewInstance d n) = written _ (omega arith) refl
name_word (NewClosure d n) = written _ (omega arith) refl
name_word (NewWords d n w) = written _ (omega arith) refl
name_word (NewWeak d c) = written _ (omega arith) refl
name_word (NewTable d w b) = written _ (omega arith) refl
name_word (Get d c i) = written _ (omega arith) refl
name_word (Put c i a) = written _ (omega arith) refl
name_word (RawGet r c i) = written _ (omega arith) refl
name_word (RawPut c i r) = written _ (omega arith) refl
name_word (Same a b) = written _ (omega arith) refl
name_word (Show c) = written _ (omega arith) refl
name_word (Addr r c) = written _ (omega arith) refl
name_word (SetRaw r w) = written _ (omega arith) refl
name_word (AddRaw r k) = written _ (omega arith) refl
name_word (Pin c) = written _ (omega arith) refl
name_word Unpin = written _ (omega arith) refl
name_word (WeakVal d c) = written _ (omega arith) refl
name_word (TablePut c k v) = written _ (omega arith) refl
name_word (TableGet d c k) = written _ (omega arith) refl
name_word (TableRem c k) = written _ (omega arith) refl
name_word (TableCount c) = written _ (omega arith) refl
name_word (Finalize c id) = written _ (omega arith) refl
name_word (Cancel c) = written _ (omega arith) refl
name_word RunFinalizers = written _ (omega arith) refl
name_word (Collect g) = written _ (omega arith) refl
name_word Inhibit = written _ (omega arith) refl
name_word Allow = written _ (omega arith) refl
name_word (ShowPage p) = written _ (omega arith) refl
name_word (Stat g) = written _ (omega arith) refl

one : (a : List ℕ) → IsWord a → All IsWord (a ∷ [])
one a h = All-cons IsWord a [] h (All-nil IsWord)

two : (a b : List ℕ) → IsWord a → IsWord b → All IsWord (a ∷ b ∷ [])
two a b h k = All-cons IsWord a (b ∷ []) h (one b k)

three : (a b c : List ℕ) → IsWord a → IsWord b → IsWord c → All IsWord (a ∷ b ∷ c ∷ [])
three a b c h k l = All-cons IsWord a (b ∷ c ∷ []) h (two b c k l)

pub field_words : (c : Command) → IsInRange c → All IsWord (fields_of c)
unfolding fields_of
field_words (Fix d n) h = two _ _ (cell_word d h.0) (signed_word n (fixnum_signed n h.1))
field_words (MakeNil d) h = one _ (cell_word d h)
field_words (Move d c) h = two _ _ (cell_word d h.0) (cell_word c h.1)
field_words (NewCons d a b) h = three _ _ _ (cell_word d h.0) (cell_word a h.1) (cell_word b h.2)
field_words (NewVector d n) h = two _ _ (cell_word d h.0) (narrow n (omega (arith, h.1)))
field_words (NewInstance d n) h = two _ _ (cell_word d h.0) (narrow n (omega (arith, h.1)))
field_words (NewClosure d n) h = two _ _ (cell_word d h.0) (narrow n (omega (arith, h.1)))
field_words (NewWords d n w) h = three _ _ _ (cell_word d h.0) (narrow n (omega (arith, h.1))) (raw_word_word w)
field_words (NewWeak d c) h = two _ _ (cell_word d h.0) (cell_word c h.1)
field_words (NewTable d w b) h = three _ _ _ (cell_word d h.0) (weakness_word w) (narrow b (omega (arith, h.2)))
field_words (Get d c i) h = three _ _ _ (cell_word d h.0) (cell_word c h.1) (narrow i (omega (arith, h.2)))
field_words (Put c i a) h = three _ _ _ (cell_word c h.0) (narrow i (omega (arith, h.1))) (cell_word a h.2)
field_words (RawGet r c i) h = three _ _ _ (raw_is_word r h.0) (cell_word c h.1) (narrow i (omega (arith, h.2)))
field_words (RawPut c i r) h = three _ _ _ (cell_word c h.0) (narrow i (omega (arith, h.1))) (raw_is_word r h.2)
field_words (Same a b) h = two _ _ (cell_word a h.0) (cell_word b h.1)
field_words (Show c) h = one _ (cell_word c h)
field_words (Addr r c) h = two _ _ (raw_is_word r h.0) (cell_word c h.1)
field_words (SetRaw r w) h = two _ _ (raw_is_word r h.0) (raw_word_word w)
field_words (AddRaw r k) h = two _ _ (raw_is_word r h.0) (signed_word k h.1)
field_words (Pin c) h = one _ (cell_word c h)
field_words Unpin h = All-nil IsWord
field_words (WeakVal d c) h = two _ _ (cell_word d h.0) (cell_word c h.1)
field_words (TablePut c k v) h = three _ _ _ (cell_word c h.0) (cell_word k h.1) (cell_word v h.2)
field_words (TableGet d c k) h = three _ _ _ (cell_word d h.0) (cell_word c h.1) (cell_word k h.2)
field_words (TableRem c k) h = two _ _ (cell_word c h.0) (cell_word k h.1)
field_words (TableCount c) h = one _ (cell_word c h)
field_words (Finalize c id) h = two _ _ (cell_word c h.0) (narrow id (omega (arith, h.1)))
field_words (Cancel c) h = one _ (cell_word c h)
field_words RunFinalizers h = All-nil IsWord
field_words (Collect g) h = one _ (narrow g (omega (arith, h)))
field_words Inhibit h = All-nil IsWord
field_words Allow h = All-nil IsWord
field_words (ShowPage p) h = one _ (narrow p (omega (arith, h)))
field_words (Stat g) h = one _ (narrow g (omega (arith, h)))

-- ---- what they say

fixnum_is : (z : ℤ) → IsFixnum z → is_fixnum z ≡ true
fixnum_is (pos n) h = lt-ltb n (2 ^ 62) h
fixnum_is (negsuc n) h = lt-ltb n (2 ^ 62) h

i64_is : (z : ℤ) → IsSigned z → is_i64 z ≡ true
i64_is (pos n) h = lt-ltb n (2 ^ 63) h
i64_is (negsuc n) h = lt-ltb n (2 ^ 63) h

most : (n m : ℕ) → n ≤ m → leb n m ≡ true
most n m h = le-leb n m h

pub said : (c : Command) (threads : ℕ) → IsInRange c → statement_of threads (name_of c) (fields_of c) ≡ Ok (Does c)
unfolding statement_of rows fields_of
said (Fix d n) threads h = rw (cell_said d h.0, signed_text n (fixnum_signed n h.1), fixnum_is n h.1) refl
said (MakeNil d) threads h = rw (cell_said d h) refl
said (Move d c) threads h = rw (cell_said d h.0, cell_said c h.1) refl
said (NewCons d a b) threads h = rw (cell_said d h.0, cell_said a h.1, cell_said b h.2) refl
said (NewVector d n) threads h = rw (cell_said d h.0, number_decimal n (omega (arith, h.1)), most n 65535 (omega (arith, h.1))) refl
said (NewInstance d n) threads h = rw (cell_said d h.0, number_decimal n (omega (arith, h.1)), most n 65535 (omega (arith, h.1))) refl
said (NewClosure d n) threads h = rw (cell_said d h.0, number_decimal n (omega (arith, h.1)), most n 65535 (omega (arith, h.1))) refl
said (NewWords d n w) threads h = rw (cell_said d h.0, number_decimal n (omega (arith, h.1)), most n 65535 (omega (arith, h.1)), raw_word_said w h.2) refl
said (NewWeak d c) threads h = rw (cell_said d h.0, cell_said c h.1) refl
said (NewTable d w b) threads h = rw (cell_said d h.0, weakness_said w, number_decimal b (omega (arith, h.2)), most 1 b h.1, most b 64 h.2) refl
said (Get d c i) threads h = rw (cell_said d h.0, cell_said c h.1, number_decimal i (omega (arith, h.2)), most i 65535 (omega (arith, h.2))) refl
said (Put c i a) threads h = rw (cell_said c h.0, number_decimal i (omega (arith, h.1)), most i 65535 (omega (arith, h.1)), cell_said a h.2) refl
said (RawGet r c i) threads h = rw (raw_said r h.0, cell_said c h.1, number_decimal i (omega (arith, h.2)), most i 65535 (omega (arith, h.2))) refl
said (RawPut c i r) threads h = rw (cell_said c h.0, number_decimal i (omega (arith, h.1)), most i 65535 (omega (arith, h.1)), raw_said r h.2) refl
said (Same a b) threads h = rw (cell_said a h.0, cell_said b h.1) refl
said (Show c) threads h = rw (cell_said c h) refl
said (Addr r c) threads h = rw (raw_said r h.0, cell_said c h.1) refl
said (SetRaw r w) threads h = rw (raw_said r h.0, raw_word_said w h.1) refl
said (AddRaw r k) threads h = rw (raw_said r h.0, signed_text k h.1, i64_is k h.1) refl
said (Pin c) threads h = rw (cell_said c h) refl
said Unpin threads h = refl
said (WeakVal d c) threads h = rw (cell_said d h.0, cell_said c h.1) refl
said (TablePut c k v) threads h = rw (cell_said c h.0, cell_said k h.1, cell_said v h.2) refl
said (TableGet d c k) threads h = rw (cell_said d h.0, cell_said c h.1, cell_said k h.2) refl
said (TableRem c k) threads h = rw (cell_said c h.0, cell_said k h.1) refl
said (TableCount c) threads h = rw (cell_said c h) refl
said (Finalize c id) threads h = rw (cell_said c h.0, number_decimal id (omega (arith, h.1)), most id 4294967295 (omega (arith, h.1))) refl
said (Cancel c) threads h = rw (cell_said c h) refl
said RunFinalizers threads h = refl
said (Collect g) threads h = rw (number_decimal g (omega (arith, h)), most g 5 (omega (arith, h))) refl
said Inhibit threads h = refl
said Allow threads h = refl
said (ShowPage p) threads h = rw (number_decimal p (omega (arith, h)), most p 4294967295 (omega (arith, h))) refl
said (Stat g) threads h = rw (number_decimal g (omega (arith, h)), most g 6 (omega (arith, h))) refl

-- a name begins no comment, and may stand behind a `thread` line
no_comment : (c : Command) → eqb (slice_index (name_of c) 0) 59 ≡ false
no_comment (Fix d n) = refl
no_comment (MakeNil d) = refl
no_comment (Move d c) = refl
no_comment (NewCons d a b) = refl
no_comment (NewVector d n) = refl
no_comment (NewInstance d n) = refl
no_comment (NewClosure d n) = refl
no_comment (NewWords d n w) = refl
no_comment (NewWeak d c) = refl
no_comment (NewTable d w b) = refl
no_comment (Get d c i) = refl
no_comment (Put c i a) = refl
no_comment (RawGet r c i) = refl
no_comment (RawPut c i r) = refl
no_comment (Same a b) = refl
no_comment (Show c) = refl
no_comment (Addr r c) = refl
no_comment (SetRaw r w) = refl
no_comment (AddRaw r k) = refl
no_comment (Pin c) = refl
no_comment Unpin = refl
no_comment (WeakVal d c) = refl
no_comment (TablePut c k v) = refl
no_comment (TableGet d c k) = refl
no_comment (TableRem c k) = refl
no_comment (TableCount c) = refl
no_comment (Finalize c id) = refl
no_comment (Cancel c) = refl
no_comment RunFinalizers = refl
no_comment (Collect g) = refl
no_comment Inhibit = refl
no_comment Allow = refl
no_comment (ShowPage p) = refl
no_comment (Stat g) = refl

follows : (c : Command) → may_follow InThread (name_of c) ≡ true
follows (Fix d n) = refl
follows (MakeNil d) = refl
follows (Move d c) = refl
follows (NewCons d a b) = refl
follows (NewVector d n) = refl
follows (NewInstance d n) = refl
follows (NewClosure d n) = refl
follows (NewWords d n w) = refl
follows (NewWeak d c) = refl
follows (NewTable d w b) = refl
follows (Get d c i) = refl
follows (Put c i a) = refl
follows (RawGet r c i) = refl
follows (RawPut c i r) = refl
follows (Same a b) = refl
follows (Show c) = refl
follows (Addr r c) = refl
follows (SetRaw r w) = refl
follows (AddRaw r k) = refl
follows (Pin c) = refl
follows Unpin = refl
follows (WeakVal d c) = refl
follows (TablePut c k v) = refl
follows (TableGet d c k) = refl
follows (TableRem c k) = refl
follows (TableCount c) = refl
follows (Finalize c id) = refl
follows (Cancel c) = refl
follows RunFinalizers = refl
follows (Collect g) = refl
follows Inhibit = refl
follows Allow = refl
follows (ShowPage p) = refl
follows (Stat g) = refl

word_judged : (word : List ℕ) (s : SoFar) (fs : List (List ℕ)) → eqb (slice_index word 0) 59 ≡ false → is_built word ≡ true → may_follow InThread word ≡ true → s.place ≡ InThread →
    judged s (word ∷ fs) ≡ within_limits s (statement_of (length s.program.threads) word fs)
unfolding judged judged_word
word_judged word s fs plain built follow at = rw (plain, built, at, follow) refl

-- how such a line is judged behind a `thread` line
pub command_judged : (c : Command) (s : SoFar) → IsCommand c → s.place ≡ InThread →
    judged s (name_of c ∷ fields_of c) ≡ within_limits s (Ok (Does c))
command_judged c s h at = word_judged (name_of c) s (fields_of c) (no_comment c) h.built (follows c) at ∙ ap (within_limits s) (said c (length s.program.threads) h.in_range)
