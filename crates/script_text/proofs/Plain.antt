-- Commands in their usual spelling.
use Rattle.std.proofs.Common.{◌≡◌, ℕ, ℤ, true, false, eqb, List, ◌∷◌, length, get_or, ◌≤◌, Ok, refl, sym, ap, ◌∙◌}
use Rattle.heap_terms.specs.declared.cells.Cell.{Cell}
use Rattle.heap_terms.specs.declared.cells.Raw.{Raw}
use Rattle.heap_terms.specs.declared.commands.Command.{Command}
use Rattle.heap_terms.specs.declared.commands.Command.TheVariants as commands
use Rattle.std.specs.Prelude.{slice_index}
use Rattle.heap_terms.specs.Valid.{is_built}
use Rattle.heap_terms.specs.Grammar.{Does, statement_of}
use Rattle.heap_terms.specs.ScriptReading.{SoFar, InThread, may_follow, judged, judged_word, within_limits}
use Rattle.script_text.specs.declared.words.Name.{Name}
use Rattle.script_text.specs.declared.words.Name.TheVariants as names
use Rattle.script_text.specs.Commands.{Reads, a_cell, a_raw_cell, an_index, a_fixnum, a_signed, IsFront, SaysCommand}
use Rattle.script_text.specs.Left.{fields_left, Taken}
use Rattle.script_text.specs.Words.{text_of_name}
use Rattle.script_text.proofs.Rows.{command_read}
use Rattle.script_text.proofs.Spelled.{lf_ends}

-- ---- the fields of each command

pub fix_front : (r0 r1 r2 : List ℕ) (d : Cell) (n : ℤ) → Reads a_cell r0 d r1 → Reads a_fixnum r1 n r2 → IsFront names.Fix r0 (commands.Fix d n) r2
fix_front r0 r1 r2 d n a b = record {
  says = rw (a.taken.fields, b.taken.fields, a.says, b.says) refl;
  fields = rw (a.taken.fields, b.taken.fields) refl;
  lines = b.taken.lines ∙ a.taken.lines;
}

pub cons_front : (r0 r1 r2 r3 : List ℕ) (x y z : Cell) → Reads a_cell r0 x r1 → Reads a_cell r1 y r2 → Reads a_cell r2 z r3 → IsFront names.Cons r0 (commands.NewCons x y z) r3
cons_front r0 r1 r2 r3 x y z a b c = record {
  says = rw (a.taken.fields, b.taken.fields, c.taken.fields, a.says, b.says, c.says) refl;
  fields = rw (a.taken.fields, b.taken.fields, c.taken.fields) refl;
  lines = c.taken.lines ∙ b.taken.lines ∙ a.taken.lines;
}

pub get_front : (r0 r1 r2 r3 : List ℕ) (x y : Cell) (i : ℕ) → Reads a_cell r0 x r1 → Reads a_cell r1 y r2 → Reads an_index r2 i r3 → IsFront names.Get r0 (commands.Get x y i) r3
get_front r0 r1 r2 r3 x y i a b c = record {
  says = rw (a.taken.fields, b.taken.fields, c.taken.fields, a.says, b.says, c.says) refl;
  fields = rw (a.taken.fields, b.taken.fields, c.taken.fields) refl;
  lines = c.taken.lines ∙ b.taken.lines ∙ a.taken.lines;
}

pub put_front : (r0 r1 r2 r3 : List ℕ) (x y : Cell) (i : ℕ) → Reads a_cell r0 x r1 → Reads an_index r1 i r2 → Reads a_cell r2 y r3 → IsFront names.Put r0 (commands.Put x i y) r3
put_front r0 r1 r2 r3 x y i a b c = record {
  says = rw (a.taken.fields, b.taken.fields, c.taken.fields, a.says, b.says, c.says) refl;
  fields = rw (a.taken.fields, b.taken.fields, c.taken.fields) refl;
  lines = c.taken.lines ∙ b.taken.lines ∙ a.taken.lines;
}

pub show_front : (r0 r1 : List ℕ) (x : Cell) → Reads a_cell r0 x r1 → IsFront names.Show r0 (commands.Show x) r1
show_front r0 r1 x a = record { says = rw (a.taken.fields, a.says) refl; fields = rw a.taken.fields refl; lines = a.taken.lines }

pub nil_front : (r0 r1 : List ℕ) (x0 : Cell) → Reads a_cell r0 x0 r1 → IsFront names.Nil r0 (commands.MakeNil x0) r1
nil_front r0 r1 x0 h0 = record {
  says = rw (h0.taken.fields, h0.says) refl;
  fields = rw h0.taken.fields refl;
  lines = h0.taken.lines;
}

pub move_front : (r0 r1 r2 : List ℕ) (x0 : Cell) (x1 : Cell) → Reads a_cell r0 x0 r1 → Reads a_cell r1 x1 r2 → IsFront names.Move r0 (commands.Move x0 x1) r2
move_front r0 r1 r2 x0 x1 h0 h1 = record {
  says = rw (h0.taken.fields, h1.taken.fields, h0.says, h1.says) refl;
  fields = rw (h0.taken.fields, h1.taken.fields) refl;
  lines = h1.taken.lines ∙ h0.taken.lines;
}

pub vector_front : (r0 r1 r2 : List ℕ) (x0 : Cell) (x1 : ℕ) → Reads a_cell r0 x0 r1 → Reads an_index r1 x1 r2 → IsFront names.Vector r0 (commands.NewVector x0 x1) r2
vector_front r0 r1 r2 x0 x1 h0 h1 = record {
  says = rw (h0.taken.fields, h1.taken.fields, h0.says, h1.says) refl;
  fields = rw (h0.taken.fields, h1.taken.fields) refl;
  lines = h1.taken.lines ∙ h0.taken.lines;
}

pub instance_front : (r0 r1 r2 : List ℕ) (x0 : Cell) (x1 : ℕ) → Reads a_cell r0 x0 r1 → Reads an_index r1 x1 r2 → IsFront names.Instance r0 (commands.NewInstance x0 x1) r2
instance_front r0 r1 r2 x0 x1 h0 h1 = record {
  says = rw (h0.taken.fields, h1.taken.fields, h0.says, h1.says) refl;
  fields = rw (h0.taken.fields, h1.taken.fields) refl;
  lines = h1.taken.lines ∙ h0.taken.lines;
}

pub closure_front : (r0 r1 r2 : List ℕ) (x0 : Cell) (x1 : ℕ) → Reads a_cell r0 x0 r1 → Reads an_index r1 x1 r2 → IsFront names.Closure r0 (commands.NewClosure x0 x1) r2
closure_front r0 r1 r2 x0 x1 h0 h1 = record {
  says = rw (h0.taken.fields, h1.taken.fields, h0.says, h1.says) refl;
  fields = rw (h0.taken.fields, h1.taken.fields) refl;
  lines = h1.taken.lines ∙ h0.taken.lines;
}

pub rawget_front : (r0 r1 r2 r3 : List ℕ) (x0 : Raw) (x1 : Cell) (x2 : ℕ) → Reads a_raw_cell r0 x0 r1 → Reads a_cell r1 x1 r2 → Reads an_index r2 x2 r3 → IsFront names.RawGet r0 (commands.RawGet x0 x1 x2) r3
rawget_front r0 r1 r2 r3 x0 x1 x2 h0 h1 h2 = record {
  says = rw (h0.taken.fields, h1.taken.fields, h2.taken.fields, h0.says, h1.says, h2.says) refl;
  fields = rw (h0.taken.fields, h1.taken.fields, h2.taken.fields) refl;
  lines = h2.taken.lines ∙ h1.taken.lines ∙ h0.taken.lines;
}

pub rawput_front : (r0 r1 r2 r3 : List ℕ) (x0 : Cell) (x1 : ℕ) (x2 : Raw) → Reads a_cell r0 x0 r1 → Reads an_index r1 x1 r2 → Reads a_raw_cell r2 x2 r3 → IsFront names.RawPut r0 (commands.RawPut x0 x1 x2) r3
rawput_front r0 r1 r2 r3 x0 x1 x2 h0 h1 h2 = record {
  says = rw (h0.taken.fields, h1.taken.fields, h2.taken.fields, h0.says, h1.says, h2.says) refl;
  fields = rw (h0.taken.fields, h1.taken.fields, h2.taken.fields) refl;
  lines = h2.taken.lines ∙ h1.taken.lines ∙ h0.taken.lines;
}

pub eq_front : (r0 r1 r2 : List ℕ) (x0 : Cell) (x1 : Cell) → Reads a_cell r0 x0 r1 → Reads a_cell r1 x1 r2 → IsFront names.Eq r0 (commands.Same x0 x1) r2
eq_front r0 r1 r2 x0 x1 h0 h1 = record {
  says = rw (h0.taken.fields, h1.taken.fields, h0.says, h1.says) refl;
  fields = rw (h0.taken.fields, h1.taken.fields) refl;
  lines = h1.taken.lines ∙ h0.taken.lines;
}

pub addr_front : (r0 r1 r2 : List ℕ) (x0 : Raw) (x1 : Cell) → Reads a_raw_cell r0 x0 r1 → Reads a_cell r1 x1 r2 → IsFront names.Addr r0 (commands.Addr x0 x1) r2
addr_front r0 r1 r2 x0 x1 h0 h1 = record {
  says = rw (h0.taken.fields, h1.taken.fields, h0.says, h1.says) refl;
  fields = rw (h0.taken.fields, h1.taken.fields) refl;
  lines = h1.taken.lines ∙ h0.taken.lines;
}

pub add_front : (r0 r1 r2 : List ℕ) (x0 : Raw) (x1 : ℤ) → Reads a_raw_cell r0 x0 r1 → Reads a_signed r1 x1 r2 → IsFront names.Add r0 (commands.AddRaw x0 x1) r2
add_front r0 r1 r2 x0 x1 h0 h1 = record {
  says = rw (h0.taken.fields, h1.taken.fields, h0.says, h1.says) refl;
  fields = rw (h0.taken.fields, h1.taken.fields) refl;
  lines = h1.taken.lines ∙ h0.taken.lines;
}

-- ---- a line of a command

-- its word, its fields, and an LF behind them
pub says_command : (name : Name) (rest fields after : List ℕ) (c : Command) → is_built (text_of_name name) ≡ true → Taken rest (text_of_name name) fields → IsFront name fields c after →
    1 ≤ length after → get_or after 0 0 ≡ 10 → SaysCommand rest c after
says_command name rest fields after c built word front long lf =
    let none : length (fields_left after) ≡ 0 = lf_ends after long lf in
    record {
      name = name;
      built = built;
      fields = fields_left fields;
      words = word.fields;
      says = λ threads. command_read name threads (fields_left fields) c front.says (ap length (sym front.fields) ∙ none);
      lines = front.lines ∙ word.lines;
    }

-- the word of a command begins no comment, and may stand behind a `thread` line
no_comment : (name : Name) → eqb (slice_index (text_of_name name) 0) 59 ≡ false
no_comment names.Fix = refl
no_comment names.Nil = refl
no_comment names.Move = refl
no_comment names.Cons = refl
no_comment names.Vector = refl
no_comment names.Instance = refl
no_comment names.Closure = refl
no_comment names.Words = refl
no_comment names.Weak = refl
no_comment names.Table = refl
no_comment names.Get = refl
no_comment names.Put = refl
no_comment names.RawGet = refl
no_comment names.RawPut = refl
no_comment names.Eq = refl
no_comment names.Show = refl
no_comment names.Addr = refl
no_comment names.Raw = refl
no_comment names.Add = refl
no_comment names.Pin = refl
no_comment names.Unpin = refl
no_comment names.WeakVal = refl
no_comment names.TablePut = refl
no_comment names.TableGet = refl
no_comment names.TableRem = refl
no_comment names.TableCount = refl
no_comment names.Gc = refl
no_comment names.Page = refl
no_comment names.Stat = refl
no_comment names.Nogc = refl
no_comment names.Gcok = refl
no_comment names.Finalize = refl
no_comment names.Cancel = refl
no_comment names.Runfin = refl

follows : (name : Name) → may_follow InThread (text_of_name name) ≡ true
follows names.Fix = refl
follows names.Nil = refl
follows names.Move = refl
follows names.Cons = refl
follows names.Vector = refl
follows names.Instance = refl
follows names.Closure = refl
follows names.Words = refl
follows names.Weak = refl
follows names.Table = refl
follows names.Get = refl
follows names.Put = refl
follows names.RawGet = refl
follows names.RawPut = refl
follows names.Eq = refl
follows names.Show = refl
follows names.Addr = refl
follows names.Raw = refl
follows names.Add = refl
follows names.Pin = refl
follows names.Unpin = refl
follows names.WeakVal = refl
follows names.TablePut = refl
follows names.TableGet = refl
follows names.TableRem = refl
follows names.TableCount = refl
follows names.Gc = refl
follows names.Page = refl
follows names.Stat = refl
follows names.Nogc = refl
follows names.Gcok = refl
follows names.Finalize = refl
follows names.Cancel = refl
follows names.Runfin = refl

-- how a command is judged behind a `thread` line
word_judged : (word : List ℕ) (s : SoFar) (fs : List (List ℕ)) → eqb (slice_index word 0) 59 ≡ false → is_built word ≡ true → may_follow InThread word ≡ true → s.place ≡ InThread →
    judged s (word ∷ fs) ≡ within_limits s (statement_of (length s.program.threads) word fs)
unfolding judged judged_word
word_judged word s fs plain built follow at = rw (plain, built, at, follow) refl

pub plain_judged : (s : SoFar) (old new : List ℕ) (c : Command) → s.place ≡ InThread → SaysCommand old c new → judged s (fields_left old) ≡ within_limits s (Ok (Does c))
plain_judged s old new c e says =
    ap (judged s) says.words
    ∙ word_judged (text_of_name says.name) s says.fields (no_comment says.name) says.built (follows says.name) e
    ∙ ap (within_limits s) (says.says (length s.program.threads))
