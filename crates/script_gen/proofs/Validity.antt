-- A generated program is one that a script can say.
use Rattle.std.proofs.Common.{◌≡◌, ℕ, ◌+◌, ◌*◌, ◌/◌, ◌<◌, ◌≤◌, ◌^◌, zero, suc, true, length, refl, ap, ◌∙◌, arith, inl, inr, cond}
use Rattle.std.specs.Prelude.{All, sum_by, count_by}
use Rattle.std.proofs.Math.Nat.{mod-lt}
use Rattle.std.proofs.lemmas.Bool.{cases_lt, lt-ltb, le-ltb}
use Rattle.std.proofs.Math.Nat.{zero-add}
use Rattle.std.proofs.lemmas.List.Sums.{sum_by-cons}
use Rattle.std.proofs.lemmas.List.Elements.{All-nil, All-cons}
use Rattle.heap_terms.specs.declared.commands.Command.{Command}
use Rattle.heap_terms.specs.Generated.{Progress, cell_numbered, cell_drawn, command_of, commands_each, commands_from, draw, generated, most_generated_gcs, next_drawn, next_state, number_from, progress_after, progressed, state_after, threads_from}
use Rattle.heap_terms.specs.Valid.{IsCell, IsCommand, IsInRange, IsValid, is_built, is_gc, name_of}
use Rattle.script_gen.proofs.ByRow.{bounded, of_command}

-- a draw below k is below it
below : (x n k : ℕ) → 0 < k → draw x n k < k
unfolding number_from
below x n k some = mod-lt (state_after n x / 2 ^ 33) some

cell_within : (j : ℕ) → j < 48 → IsCell (cell_numbered j)
cell_within j less = elim (cases_lt j 16) [
  | inl first ↦ rw (lt-ltb j 16 first) first
  | inr low ↦ elim (cases_lt j 32) [
    | inl second ↦ rw (le-ltb j 16 low, lt-ltb j 32 second) (omega arith)
    | inr high ↦ rw (le-ltb j 16 low, le-ltb j 32 high) (omega arith)
  ]
]

-- each field is in its range
in_range : (gcs x q : ℕ) → IsInRange (command_of gcs x q).command
in_range gcs x q =
    let cell : (n : ℕ) → IsCell (cell_drawn x n) = λ n. cell_within (draw x n 48) (below x n 48 (omega arith)) in
    let less : (n k : ℕ) → 0 < k → draw x n k < k = below x in
    of_command gcs x q (λ d. IsInRange d.command) (record {
      conses = (cell 1, cell 2, cell 3);
      vectors = (cell 1, (let h = less 2 64 (omega arith) in omega arith));
      instances = (cell 1, (let h = less 2 16 (omega arith) in omega arith));
      words = (cell 1, (let h = less 2 32 (omega arith) in omega arith), (let h = less 3 1000 (omega arith) in omega arith));
      weak_pointers = (cell 1, cell 2);
      tables = (cell 1, (omega arith), (let h = less 3 8 (omega arith) in omega arith));
      gets = (cell 1, cell 2, (let h = less 3 2 (omega arith) in omega arith));
      puts = (cell 1, (let h = less 2 2 (omega arith) in omega arith), cell 3);
      moves = (cell 1, cell 2);
      nils = cell 1;
      table_puts = (cell 1, cell 2, cell 3);
      table_gets = (cell 1, cell 2, cell 3);
      addrs = (less 1 8 (omega arith), cell 2);
      finalizers = (cell 1, (let h = less 2 1000 (omega arith) in omega arith));
      collections = λ _. let h = less 2 3 (omega arith) in omega arith;
      compared = (cell 2, cell 3);
    })

-- Every word that is generated is built.
built : (gcs x q : ℕ) → is_built (name_of (command_of gcs x q).command) ≡ true
built gcs x q = of_command gcs x q (λ d. is_built (name_of d.command) ≡ true) (record {
  conses = refl;
  vectors = refl;
  instances = refl;
  words = refl;
  weak_pointers = refl;
  tables = refl;
  gets = refl;
  puts = refl;
  moves = refl;
  nils = refl;
  table_puts = refl;
  table_gets = refl;
  addrs = refl;
  finalizers = refl;
  collections = λ _. refl;
  compared = refl;
})

is_command : (g : Progress) → IsCommand (next_drawn g).command
is_command g = record { built = built g.gcs (next_state g.state) (draw g.state 1 20); in_range = in_range g.gcs (next_state g.state) (draw g.state 1 20) }

are_commands : (n : ℕ) (g : Progress) → All IsCommand (commands_from n g)
unfolding commands_from
are_commands zero g = All-nil IsCommand
are_commands (suc n) g = All-cons IsCommand _ _ (is_command g) (are_commands n (progressed g))

are_threads : (n : ℕ) (g : Progress) → All (All IsCommand) (threads_from n g)
unfolding threads_from
are_threads zero g = All-nil (All IsCommand)
are_threads (suc n) g = All-cons (All IsCommand) _ _ (are_commands commands_each g) (are_threads n (progress_after commands_each g))

-- as many commands and threads as are asked for
commands_made : (n : ℕ) (g : Progress) → length (commands_from n g) ≡ n
unfolding commands_from
commands_made zero g = refl
commands_made (suc n) g = ap suc (commands_made n (progressed g))

threads_made : (n : ℕ) (g : Progress) → length (threads_from n g) ≡ n
unfolding threads_from
threads_made zero g = refl
threads_made (suc n) g = ap suc (threads_made n (progress_after commands_each g))

commands_in_all : (n : ℕ) (g : Progress) → sum_by length (threads_from n g) ≡ n * commands_each
unfolding threads_from
commands_in_all zero g = refl
commands_in_all (suc n) g = let more = commands_in_all n (progress_after commands_each g) in let own = commands_made commands_each g in
    sum_by-cons length (commands_from commands_each g) (threads_from n (progress_after commands_each g)) ∙ omega (arith, more, own)

-- the `gc` of commands are those by which the progress grew, and there are never more than the most
gcs_grow : (n : ℕ) (g : Progress) → count_by is_gc (commands_from n g) + g.gcs ≡ (progress_after n g).gcs
unfolding commands_from progress_after progressed
gcs_grow zero g = zero-add g.gcs
gcs_grow (suc n) g =
    let more = gcs_grow n (progressed g) in
    let own = sum_by-cons (λ (x : Command). cond (is_gc x) 1 0) (next_drawn g).command (commands_from n (progressed g)) in
    omega (arith, more, own)

gcs_within : (n : ℕ) (g : Progress) → g.gcs ≤ most_generated_gcs → (progress_after n g).gcs ≤ most_generated_gcs
unfolding progress_after progressed
gcs_within zero g less = less
gcs_within (suc n) g less = gcs_within n (progressed g) (bounded g.gcs (next_state g.state) (draw g.state 1 20) less)

gcs_in_all : (n : ℕ) (g : Progress) → g.gcs ≤ most_generated_gcs → sum_by (count_by is_gc) (threads_from n g) + g.gcs ≤ most_generated_gcs
unfolding threads_from
gcs_in_all zero g less = omega arith
gcs_in_all (suc n) g less =
    let own = gcs_grow commands_each g in
    let more = gcs_in_all n (progress_after commands_each g) (gcs_within commands_each g less) in
    rw (sum_by-cons (count_by is_gc) (commands_from commands_each g) (threads_from n (progress_after commands_each g))) (omega (arith, own, more))

pub is_valid : (seed : ℕ) → IsValid (generated seed)
unfolding generated
is_valid seed =
    let start : Progress = record { state = seed; gcs = 0 } in
    let threads : length (threads_from 4 start) ≡ 4 = threads_made 4 start in
    let commands : sum_by length (threads_from 4 start) ≡ 4 * commands_each = commands_in_all 4 start in
    let gcs : sum_by (count_by is_gc) (threads_from 4 start) + 0 ≤ most_generated_gcs = gcs_in_all 4 start (omega arith) in
    record {
      pages_least = omega arith;
      pages_most = omega arith;
      auto = inr ((omega arith), (omega arith));
      threads_least = omega arith;
      threads_most = omega arith;
      commands = are_threads 4 start;
      commands_most = omega arith;
      gcs_most = omega arith;
      schedule = All-nil _;
      schedule_most = omega arith;
    }
