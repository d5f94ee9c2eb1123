-- What a command comes to is one of the answers that it may have.
use Rattle.std.proofs.Common.{◌≡◌, ℕ, List, length, Option, Some, None, Bool, true, false, refl}
use Rattle.std.specs.Prelude.{slice_set, if◌then◌else◌, nat_lt, ◌==◌, ◌||◌}
use Rattle.heap_terms.specs.declared.answers.Answer.{Answer}
use Rattle.heap_terms.specs.declared.answers.Refusal.TheVariants.{NotType, OutOfRange, TableFull}
use Rattle.heap_terms.specs.declared.answers.Answer.TheVariants.{No, Placed, Val, Yes}
use Rattle.heap_terms.specs.declared.cells.Cell.{Cell}
use Rattle.heap_terms.specs.declared.cells.Value.{Value}
use Rattle.heap_terms.specs.declared.cells.Value.TheVariants as values
use Rattle.heap_terms.specs.declared.commands.Command.{Command}
use Rattle.heap_terms.specs.declared.commands.Command.TheVariants.{Fix, MakeNil, Move, NewCons, NewVector, NewInstance, NewClosure, NewWords, NewWeak, NewTable, Get, Put, RawGet, RawPut, Same, Show, Addr, SetRaw, AddRaw, Pin, Unpin, WeakVal, TablePut, TableGet, TableRem, TableCount, Finalize, Cancel, RunFinalizers, Collect, Inhibit, Allow, ShowPage, Stat}
use Rattle.heap_terms.specs.declared.kinds.Kind.{Kind}
use Rattle.heap_terms.specs.declared.limits.TheConstants.{MOST_PINS}
use Rattle.heap_terms.specs.Cells.{cell_value, with_cell}
use Rattle.heap_terms.specs.Heap.{NamedHeap, thread_at, zero_value}
use Rattle.heap_terms.specs.Outcome.{Outcome, answering, done, refused, needing, indexing}
use Rattle.heap_terms.specs.Outcomes.{outcome_of}
use Rattle.heap_terms.specs.Outcomes.RawCommands.{taking}
use Rattle.heap_terms.specs.Outcomes.TableCommands.{found_outcome, with_pairs_at}
use Rattle.heap_terms.specs.Outcomes.WeakCommands.{weak_outcome}
use Rattle.heap_terms.specs.Pairs.{has_key, same_value, value_at, with_pair, without_key}
use Rattle.heap_terms.specs.RawCells.{raw_value}
use Rattle.heap_terms.specs.Referents.{changed_at, fields_at, name_in, pointee_at, raws_at, table_at, with_field_at, with_raws}
use Rattle.heap_terms.specs.Regions.{Make, wish_of}
use Rattle.journal_text.specs.Rows.{may_answer}

-- the command may have the answer of this outcome
record Fits (c : Command) (o : Outcome) : Type 0 where
  answer : may_answer c o.answer ≡ true

by_test : (c : Command) (b : Bool) (x y : Outcome) → Fits c x → Fits c y → Fits c (if b then x else y)
by_test c true x y one other = one
by_test c false x y one other = other

of_answers : (c : Command) (b : Bool) (x y : Answer) (a : NamedHeap) → may_answer c x ≡ true → may_answer c y ≡ true → Fits c (answering (if b then x else y) a)
of_answers c true x y a one other = record { answer = one }
of_answers c false x y a one other = record { answer = other }

by_need : {A : Type 0} (c : Command) (o : Option A) (a : NamedHeap) (go : A → Outcome) → Fits c (refused NotType a) → ((x : A) → Fits c (go x)) → Fits c (needing o a go)
by_need c None a go same found = same
by_need c (Some x) a go same found = found x

by_index : {A : Type 0} (c : Command) (xs : List A) (i : ℕ) (default : A) (a : NamedHeap) (go : A → Outcome) → Fits c (refused OutOfRange a) → ((x : A) → Fits c (go x)) →
    Fits c (indexing xs i default a go)
by_index c xs i default a go same found = by_test c (nat_lt i (length xs)) _ _ (found _) same

by_found : (a : NamedHeap) (t : ℕ) (d x k : Cell) (o : Option Value) → Fits (TableGet d x k) (found_outcome a t d o)
by_found a t d x k None = record { answer = refl }
by_found a t d x k (Some v) = record { answer = refl }

by_weak : (a : NamedHeap) (t : ℕ) (d x : Cell) (v : Value) → Fits (WeakVal d x) (weak_outcome a t d v)
by_weak a t d x (values.Fix n) = record { answer = refl }
by_weak a t d x values.Nil = record { answer = refl }
by_weak a t d x values.Unbound = record { answer = refl }
by_weak a t d x (values.Ref name) = record { answer = refl }

table_fits : (a : NamedHeap) (t : ℕ) (c : Command) → Fits c (outcome_of a t c)
unfolding outcome_of
table_fits a t (Fix d n) = (record { answer = refl })
table_fits a t (MakeNil d) = (record { answer = refl })
table_fits a t (Move d x) = (record { answer = refl })
table_fits a t (NewCons d x y) = (record { answer = refl })
table_fits a t (NewVector d n) = (record { answer = refl })
table_fits a t (NewInstance d n) = (record { answer = refl })
table_fits a t (NewClosure d n) = (record { answer = refl })
table_fits a t (NewWords d n w) = (record { answer = refl })
table_fits a t (NewWeak d x) = (record { answer = refl })
table_fits a t (NewTable d w b) = (record { answer = refl })
table_fits a t (Get d x i) = by_need (Get d x i) (fields_at a.objects (cell_value a t x)) a _ (record { answer = refl }) (λ vs.
    by_index (Get d x i) vs i zero_value a (λ v. answering (Val v) (with_cell a t d v)) (record { answer = refl }) (λ v. (record { answer = refl })))
table_fits a t (Put x i b) = by_need (Put x i b) (fields_at a.objects (cell_value a t x)) a _ (record { answer = refl }) (λ vs.
    by_index (Put x i b) vs i zero_value a (λ _. done (record a { objects = with_field_at a.objects (cell_value a t x) i (cell_value a t b) })) (record { answer = refl }) (λ v. (record { answer = refl })))
table_fits a t (RawGet r x i) = by_need (RawGet r x i) (raws_at a.objects (cell_value a t x)) a _ (record { answer = refl }) (λ ws.
    by_index (RawGet r x i) ws i 0 a (λ word. taking a t r word) (record { answer = refl }) (λ w. (record { answer = refl })))
table_fits a t (RawPut x i r) = by_need (RawPut x i r) (raws_at a.objects (cell_value a t x)) a _ (record { answer = refl }) (λ ws.
    by_index (RawPut x i r) ws i 0 a (λ _. done (record a { objects = changed_at a.objects (cell_value a t x) (λ k. with_raws k (slice_set ws i (raw_value a t r))) })) (record { answer = refl }) (λ w. (record { answer = refl })))
table_fits a t (Same x y) = of_answers (Same x y) (same_value (cell_value a t x) (cell_value a t y)) Yes No a refl refl
table_fits a t (Show x) = (record { answer = refl })
table_fits a t (Addr r x) = (record { answer = refl })
table_fits a t (SetRaw r w) = (record { answer = refl })
table_fits a t (AddRaw r k) = (record { answer = refl })
table_fits a t (Pin x) = by_test (Pin x) (nat_lt (length (thread_at a t).pins) MOST_PINS) _ _ (record { answer = refl }) (record { answer = refl })
table_fits a t Unpin = by_test Unpin (length (thread_at a t).pins == 0) _ _ (record { answer = refl }) (record { answer = refl })
table_fits a t (WeakVal d x) = by_need (WeakVal d x) (pointee_at a.objects (cell_value a t x)) a _ (record { answer = refl }) (λ v. by_weak a t d x v)
table_fits a t (TablePut x k v) = by_need (TablePut x k v) (table_at a.objects (cell_value a t x)) a _ (record { answer = refl }) (λ table.
    by_test (TablePut x k v) (has_key table.pairs (cell_value a t k) || nat_lt (length table.pairs) table.capacity) (done (with_pairs_at a (cell_value a t x) (with_pair table.pairs (cell_value a t k) (cell_value a t v)))) (refused TableFull a) (record { answer = refl }) (record { answer = refl }))
table_fits a t (TableGet d x k) = by_need (TableGet d x k) (table_at a.objects (cell_value a t x)) a _ (record { answer = refl }) (λ table. by_found a t d x k (value_at table.pairs (cell_value a t k)))
table_fits a t (TableRem x k) = by_need (TableRem x k) (table_at a.objects (cell_value a t x)) a _ (record { answer = refl }) (λ table.
    by_test (TableRem x k) (has_key table.pairs (cell_value a t k)) (answering Yes (with_pairs_at a (cell_value a t x) (without_key table.pairs (cell_value a t k)))) (answering No a) (record { answer = refl }) (record { answer = refl }))
table_fits a t (TableCount x) = by_need (TableCount x) (table_at a.objects (cell_value a t x)) a _ (record { answer = refl }) (λ table. (record { answer = refl }))
table_fits a t (Finalize x id) = by_need (Finalize x id) (name_in (cell_value a t x)) a _ (record { answer = refl }) (λ name. (record { answer = refl }))
table_fits a t (Cancel x) = by_need (Cancel x) (name_in (cell_value a t x)) a _ (record { answer = refl }) (λ name. (record { answer = refl }))
table_fits a t RunFinalizers = by_test RunFinalizers (length a.queue == 0) _ _ (record { answer = refl }) (record { answer = refl })
table_fits a t (Collect g) = (record { answer = refl })
table_fits a t Inhibit = (record { answer = refl })
table_fits a t Allow = by_test Allow ((thread_at a t).inhibits == 0) _ _ (record { answer = refl }) (record { answer = refl })
table_fits a t (ShowPage p) = by_test (ShowPage p) (nat_lt p (length a.pages)) _ _ (record { answer = refl }) (record { answer = refl })
table_fits a t (Stat g) = (record { answer = refl })

pub outcome_fits : (a : NamedHeap) (t : ℕ) (c : Command) → may_answer c (outcome_of a t c).answer ≡ true
outcome_fits a t c = (table_fits a t c).answer

-- a command that makes an object may answer where it stands
pub placing_fits : (c : Command) (kind : Kind) (n seed name index : ℕ) → wish_of c ≡ Make kind n seed → may_answer c (Placed name index) ≡ true
placing_fits (NewCons d x y) kind n seed name index e = refl
placing_fits (NewVector d m) kind n seed name index e = refl
placing_fits (NewInstance d m) kind n seed name index e = refl
placing_fits (NewClosure d m) kind n seed name index e = refl
placing_fits (NewWords d m w) kind n seed name index e = refl
placing_fits (NewWeak d x) kind n seed name index e = refl
placing_fits (NewTable d w b) kind n seed name index e = refl
placing_fits (Fix d m) kind n seed name index e = cc
placing_fits (MakeNil d) kind n seed name index e = cc
placing_fits (Move d x) kind n seed name index e = cc
placing_fits (Get d x i) kind n seed name index e = cc
placing_fits (Put x i b) kind n seed name index e = cc
placing_fits (RawGet r x i) kind n seed name index e = cc
placing_fits (RawPut x i r) kind n seed name index e = cc
placing_fits (Same x y) kind n seed name index e = cc
placing_fits (Show x) kind n seed name index e = cc
placing_fits (Addr r x) kind n seed name index e = cc
placing_fits (SetRaw r w) kind n seed name index e = cc
placing_fits (AddRaw r k) kind n seed name index e = cc
placing_fits (Pin x) kind n seed name index e = cc
placing_fits Unpin kind n seed name index e = cc
placing_fits (WeakVal d x) kind n seed name index e = cc
placing_fits (TablePut x k v) kind n seed name index e = cc
placing_fits (TableGet d x k) kind n seed name index e = cc
placing_fits (TableRem x k) kind n seed name index e = cc
placing_fits (TableCount x) kind n seed name index e = cc
placing_fits (Finalize x id) kind n seed name index e = cc
placing_fits (Cancel x) kind n seed name index e = cc
placing_fits RunFinalizers kind n seed name index e = cc
placing_fits (Collect g) kind n seed name index e = cc
placing_fits Inhibit kind n seed name index e = cc
placing_fits Allow kind n seed name index e = cc
placing_fits (ShowPage p) kind n seed name index e = cc
placing_fits (Stat g) kind n seed name index e = cc
