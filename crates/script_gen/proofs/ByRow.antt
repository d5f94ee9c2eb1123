-- What holds of the command of each number, by its rows.
use Rattle.std.proofs.Common.{◌≡◌, ℕ, ◌+◌, ◌<◌, ◌≤◌, ◌==◌, ◌&&◌, Bool, true, false, nat_lt, refl, arith, if◌then◌else◌}
use Rattle.std.proofs.lemmas.Bool.{and_parts, lt-ltb, le-ltb, ne_eqb, ltb-true}
use Rattle.heap_terms.specs.declared.commands.Command.TheVariants.{MakeNil, Move, NewCons, NewVector, NewInstance, NewWords, NewWeak, NewTable, Get, Put, Same, Addr, TablePut, TableGet, Finalize, Collect}
use Rattle.heap_terms.specs.Generated.{Drawn, drawn, draw, cell_drawn, raw_drawn, weakness_numbered, collects, command_of, most_generated_gcs}
use Rattle.heap_terms.specs.Valid.{is_gc}

-- what holds of both sides holds of a choice
by_choice : {A : Type 0} (P : A → Type 0) (b : Bool) (x y : A) → P x → P y → P (if b then x else y)
by_choice P true x y p q = p
by_choice P false x y p q = q

-- what holds of each row
pub record EachRow (gcs x : ℕ) (P : Drawn → Type 0) : Type 0 where
  pub conses : P (drawn (NewCons (cell_drawn x 1) (cell_drawn x 2) (cell_drawn x 3)) 3)
  pub vectors : P (drawn (NewVector (cell_drawn x 1) (draw x 2 64)) 2)
  pub instances : P (drawn (NewInstance (cell_drawn x 1) (draw x 2 16)) 2)
  pub words : P (drawn (NewWords (cell_drawn x 1) (draw x 2 32) (draw x 3 1000)) 3)
  pub weak_pointers : P (drawn (NewWeak (cell_drawn x 1) (cell_drawn x 2)) 2)
  pub tables : P (drawn (NewTable (cell_drawn x 1) (weakness_numbered (draw x 2 5)) (1 + draw x 3 8)) 3)
  pub gets : P (drawn (Get (cell_drawn x 1) (cell_drawn x 2) (draw x 3 2)) 3)
  pub puts : P (drawn (Put (cell_drawn x 1) (draw x 2 2) (cell_drawn x 3)) 3)
  pub moves : P (drawn (Move (cell_drawn x 1) (cell_drawn x 2)) 2)
  pub nils : P (drawn (MakeNil (cell_drawn x 1)) 1)
  pub table_puts : P (drawn (TablePut (cell_drawn x 1) (cell_drawn x 2) (cell_drawn x 3)) 3)
  pub table_gets : P (drawn (TableGet (cell_drawn x 1) (cell_drawn x 2) (cell_drawn x 3)) 3)
  pub addrs : P (drawn (Addr (raw_drawn x 1) (cell_drawn x 2)) 2)
  pub finalizers : P (drawn (Finalize (cell_drawn x 1) (draw x 2 1000)) 2)
  pub collections : (draw x 1 4 == 0 && nat_lt gcs most_generated_gcs) ≡ true → P (drawn (Collect (draw x 2 3)) 2)
  pub compared : P (drawn (Same (cell_drawn x 2) (cell_drawn x 3)) 3)

of_last : (gcs x : ℕ) (P : Drawn → Type 0) → EachRow gcs x P → P (collects gcs x)
of_last gcs x P rows = where_it_holds P (draw x 1 4 == 0 && nat_lt gcs most_generated_gcs) _ _ rows.collections rows.compared
  where
    where_it_holds : {A : Type 0} (P : A → Type 0) (b : Bool) (x y : A) → (b ≡ true → P x) → P y → P (if b then x else y)
    where_it_holds P true x y p q = p refl
    where_it_holds P false x y p q = q

-- holds of every command
pub of_command : (gcs x q : ℕ) (P : Drawn → Type 0) → EachRow gcs x P → P (command_of gcs x q)
unfolding command_of
of_command gcs x q P rows =
    by_choice P (nat_lt q 6) _ _ rows.conses (by_choice P (q == 6) _ _ rows.vectors (by_choice P (q == 7) _ _ rows.instances
    (by_choice P (q == 8) _ _ rows.words (by_choice P (q == 9) _ _ rows.weak_pointers (by_choice P (q == 10) _ _ rows.tables
    (by_choice P (q == 11) _ _ rows.gets (by_choice P (q == 12) _ _ rows.puts (by_choice P (q == 13) _ _ rows.moves
    (by_choice P (q == 14) _ _ rows.nils (by_choice P (q == 15) _ _ rows.table_puts (by_choice P (q == 16) _ _ rows.table_gets
    (by_choice P (q == 17) _ _ rows.addrs (by_choice P (q == 18) _ _ rows.finalizers (of_last gcs x P rows))))))))))))))

-- the rows at both ends
pub first_row : (gcs x q : ℕ) → q < 6 → command_of gcs x q ≡ drawn (NewCons (cell_drawn x 1) (cell_drawn x 2) (cell_drawn x 3)) 3
unfolding command_of
first_row gcs x q below = rw (lt-ltb q 6 below) refl

pub last_row : (gcs x q : ℕ) → 18 < q → command_of gcs x q ≡ collects gcs x
unfolding command_of
last_row gcs x q above =
    rw (
      le-ltb q 6 (omega arith),
      ne_eqb q 6 (λ e. omega (arith, e)),
      ne_eqb q 7 (λ e. omega (arith, e)),
      ne_eqb q 8 (λ e. omega (arith, e)),
      ne_eqb q 9 (λ e. omega (arith, e)),
      ne_eqb q 10 (λ e. omega (arith, e)),
      ne_eqb q 11 (λ e. omega (arith, e)),
      ne_eqb q 12 (λ e. omega (arith, e)),
      ne_eqb q 13 (λ e. omega (arith, e)),
      ne_eqb q 14 (λ e. omega (arith, e)),
      ne_eqb q 15 (λ e. omega (arith, e)),
      ne_eqb q 16 (λ e. omega (arith, e)),
      ne_eqb q 17 (λ e. omega (arith, e)),
      ne_eqb q 18 (λ e. omega (arith, e)),
    ) refl

-- the number of `gc` stays within its bound
pub bounded : (gcs x q : ℕ) → gcs ≤ most_generated_gcs → gcs + (if is_gc (command_of gcs x q).command then 1 else 0) ≤ most_generated_gcs
bounded gcs x q below = of_command gcs x q (λ d. gcs + (if is_gc d.command then 1 else 0) ≤ most_generated_gcs) (record {
  conses = omega arith;
  vectors = omega arith;
  instances = omega arith;
  words = omega arith;
  weak_pointers = omega arith;
  tables = omega arith;
  gets = omega arith;
  puts = omega arith;
  moves = omega arith;
  nils = omega arith;
  table_puts = omega arith;
  table_gets = omega arith;
  addrs = omega arith;
  finalizers = omega arith;
  compared = omega arith;
  collections = λ both. let less = ltb-true gcs most_generated_gcs (and_parts (draw x 1 4 == 0) (nat_lt gcs most_generated_gcs) both).1 in omega arith;
})
