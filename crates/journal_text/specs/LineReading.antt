-- Reading the fields of a line one after the other. A reader answers what it read and the fields that are left.
use Rattle.std.specs.Prelude.{◌≡◌, ℕ, zero, suc, ℤ, ◌^◌, List, [], ◌∷◌, Option, Some, None}
use Rattle.heap_terms.specs.declared.commands.Command.{Command}
use Rattle.heap_terms.specs.declared.commands.Command.TheVariants as commands
use Rattle.journal_text.specs.declared.parsing.words.Name.{Name}
use Rattle.journal_text.specs.declared.parsing.words.Name.TheVariants as names
use Rattle.journal_text.specs.FieldReading.{a_cell, a_raw, a_fixnum, a_signed, a_number, a_word, a_weakness}

-- what follows where something was read
infixl 10 ◌>>=◌
abbrev pub ◌>>=◌ : {A B : Type 0} → Option A → (A → Option B) → Option B
(Some x) >>= f = f x
None >>= f = None

-- what the first field says, and the fields after it
abbrev pub first : {A : Type 0} → (List ℕ → Option A) → List (List ℕ) → Option (A × List (List ℕ))
first reads [] = None
first reads (field ∷ fields) = reads field >>= λ x. Some (x, fields)

-- what one, two and three fields say together
abbrev pub one : {A C : Type 0} → (List ℕ → Option A) → (A → C) → List (List ℕ) → Option (C × List (List ℕ))
one p make fields = first p fields >>= λ a. Some (make a.0, a.1)

abbrev pub two : {A B C : Type 0} → (List ℕ → Option A) → (List ℕ → Option B) → (A → B → C) → List (List ℕ) → Option (C × List (List ℕ))
two p q make fields = first p fields >>= λ a. first q a.1 >>= λ b. Some (make a.0 b.0, b.1)

abbrev pub three : {A B C D : Type 0} → (List ℕ → Option A) → (List ℕ → Option B) → (List ℕ → Option C) → (A → B → C → D) → List (List ℕ) → Option (D × List (List ℕ))
three p q r make fields = first p fields >>= λ a. first q a.1 >>= λ b. first r b.1 >>= λ c. Some (make a.0 b.0 c.0, c.1)

-- what a call on the fields that are left answers: what the reader says of them
abbrev pub Gives : {A : Type 0} → (List (List ℕ) → Option (A × List (List ℕ))) → List (List ℕ) → List (List ℕ) → Option A → Type 0
Gives reads old new None = reads old ≡ None
Gives reads old new (Some x) = reads old ≡ Some (x, new)

-- a number that is not 0
abbrev pub positive : ℕ → Option ℕ
positive zero = None
positive (suc n) = Some (suc n)

unfoldable pub a_count : ℕ → List ℕ → Option ℕ
a_count most field = a_number most field >>= positive

-- the numbers of commands
abbrev pub an_element : List ℕ → Option ℕ
an_element field = a_number 65535 field

abbrev pub a_capacity : List ℕ → Option ℕ
a_capacity field = a_count 64 field

abbrev pub a_number_32 : List ℕ → Option ℕ
a_number_32 field = a_number 4294967295 field

abbrev pub a_collected : List ℕ → Option ℕ
a_collected field = a_number 5 field

abbrev pub a_generation_number : List ℕ → Option ℕ
a_generation_number field = a_number 6 field

abbrev pub a_long : List ℕ → Option ℤ
a_long field = a_signed (2 ^ 63) field

-- the fields of a command after its word
unfoldable pub read_command : Name → List (List ℕ) → Option (Command × List (List ℕ))
read_command names.Fix fields = two a_cell a_fixnum commands.Fix fields
read_command names.Nil fields = one a_cell commands.MakeNil fields
read_command names.Move fields = two a_cell a_cell commands.Move fields
read_command names.Cons fields = three a_cell a_cell a_cell commands.NewCons fields
read_command names.Vector fields = two a_cell an_element commands.NewVector fields
read_command names.Instance fields = two a_cell an_element commands.NewInstance fields
read_command names.Closure fields = two a_cell an_element commands.NewClosure fields
read_command names.Words fields = three a_cell an_element a_word commands.NewWords fields
read_command names.Weak fields = two a_cell a_cell commands.NewWeak fields
read_command names.Table fields = three a_cell a_weakness a_capacity commands.NewTable fields
read_command names.Get fields = three a_cell a_cell an_element commands.Get fields
read_command names.Put fields = three a_cell an_element a_cell commands.Put fields
read_command names.RawGet fields = three a_raw a_cell an_element commands.RawGet fields
read_command names.RawPut fields = three a_cell an_element a_raw commands.RawPut fields
read_command names.Eq fields = two a_cell a_cell commands.Same fields
read_command names.Show fields = one a_cell commands.Show fields
read_command names.Addr fields = two a_raw a_cell commands.Addr fields
read_command names.Raw fields = two a_raw a_word commands.SetRaw fields
read_command names.Add fields = two a_raw a_long commands.AddRaw fields
read_command names.Pin fields = one a_cell commands.Pin fields
read_command names.Unpin fields = Some (commands.Unpin, fields)
read_command names.WeakVal fields = two a_cell a_cell commands.WeakVal fields
read_command names.Tput fields = three a_cell a_cell a_cell commands.TablePut fields
read_command names.Tget fields = three a_cell a_cell a_cell commands.TableGet fields
read_command names.Trem fields = two a_cell a_cell commands.TableRem fields
read_command names.Tcount fields = one a_cell commands.TableCount fields
read_command names.Finalize fields = two a_cell a_number_32 commands.Finalize fields
read_command names.Cancel fields = one a_cell commands.Cancel fields
read_command names.RunFin fields = Some (commands.RunFinalizers, fields)
read_command names.Gc fields = one a_collected commands.Collect fields
read_command names.NoGc fields = Some (commands.Inhibit, fields)
read_command names.GcOk fields = Some (commands.Allow, fields)
read_command names.Page fields = one a_number_32 commands.ShowPage fields
read_command names.Stat fields = one a_generation_number commands.Stat fields
