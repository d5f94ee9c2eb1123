-- One command more, and one thread more.
use Rattle.std.proofs.Common.{◌≡◌, ℕ, ◌+◌, ◌-◌, ◌<◌, ◌≤◌, suc, false, List, [], ◌∷◌, ◌++◌, refl, ap, sym, ◌∙◌, arith, append_assoc, append-nil, subst, if◌then◌else◌}
use Rattle.heap_terms.specs.declared.commands.Command.{Command}
use Rattle.heap_terms.specs.declared.commands.Command.TheVariants as commands
use Rattle.heap_terms.specs.Generated.{Progress, command_of, commands_each, commands_from, draw, next_drawn, next_state, progress_after, progressed, threads_from}
use Rattle.heap_terms.specs.Valid.{is_gc}
use Rattle.script_gen.specs.Drawing.{IsDrawn}
use Rattle.script_gen.proofs.ByRow.{bounded}

-- one step more than the rest
one_more : (k c : ℕ) → c < k → k - c ≡ suc (k - (c + 1))
one_more k c below = omega arith

pub pushed_command : (k c : ℕ) (g next : Progress) (xs ys all : List Command) (command : Command) → c < k → xs ++ commands_from (k - c) g ≡ all
    → command ≡ (next_drawn g).command → next ≡ progressed g → ys ≡ xs ++ command ∷ [] → ys ++ commands_from (k - (c + 1)) next ≡ all
unfolding commands_from
pushed_command k c g next xs ys all command below so_far is goes pushed =
    rw (pushed, goes, is)
    (append_assoc xs ((next_drawn g).command ∷ []) (commands_from (k - (c + 1)) (progressed g)) ∙ ap (λ m. xs ++ commands_from m g) (sym (one_more k c below)) ∙ so_far)

pub progressed_on : (k c : ℕ) (g next end : Progress) → c < k → progress_after (k - c) g ≡ end → next ≡ progressed g → progress_after (k - (c + 1)) next ≡ end
unfolding progress_after
progressed_on k c g next end below so_far goes =
    rw goes (ap (λ m. progress_after m g) (sym (one_more k c below)) ∙ so_far)

pub pushed_thread : (k c : ℕ) (g next : Progress) (xs ys all : List (List Command)) (thread : List Command) → c < k → xs ++ threads_from (k - c) g ≡ all
    → thread ≡ commands_from commands_each g → next ≡ progress_after commands_each g → ys ≡ xs ++ thread ∷ [] → ys ++ threads_from (k - (c + 1)) next ≡ all
unfolding threads_from
pushed_thread k c g next xs ys all thread below so_far is goes pushed =
    rw (pushed, goes, is)
    (append_assoc xs (commands_from commands_each g ∷ []) (threads_from (k - (c + 1)) (progress_after commands_each g)) ∙ ap (λ m. xs ++ threads_from m g) (sym (one_more k c below)) ∙ so_far)

-- at the end nothing is left to make
pub all_commands : (k c : ℕ) (g : Progress) (xs all : List Command) → k ≤ c → xs ++ commands_from (k - c) g ≡ all → xs ≡ all
unfolding commands_from
all_commands k c g xs all above so_far =
    let none : k - c ≡ 0 = omega arith in
    sym (append-nil xs) ∙ ap (λ m. xs ++ commands_from m g) (sym none) ∙ so_far

pub all_progress : (k c : ℕ) (g end : Progress) → k ≤ c → progress_after (k - c) g ≡ end → g ≡ end
unfolding progress_after
all_progress k c g end above so_far = let none : k - c ≡ 0 = omega arith in ap (λ m. progress_after m g) (sym none) ∙ so_far

pub all_threads : (k c : ℕ) (g : Progress) (xs all : List (List Command)) → k ≤ c → xs ++ threads_from (k - c) g ≡ all → xs ≡ all
unfolding threads_from
all_threads k c g xs all above so_far =
    let none : k - c ≡ 0 = omega arith in
    sym (append-nil xs) ∙ ap (λ m. xs ++ threads_from m g) (sym none) ∙ so_far

-- what the drawing of one command leaves
pub drawn_command : (g : Progress) (s q y : ℕ) (command : Command) → q ≡ draw g.state 1 20 → s ≡ next_state g.state → IsDrawn (command_of g.gcs s q) command s y
    → command ≡ (next_drawn g).command
drawn_command g s q y command is_number is_state is = is.is ∙ ap (λ z. (command_of g.gcs z q).command) is_state ∙ ap (λ n. (command_of g.gcs (next_state g.state) n).command) is_number

pub drawn_progress : (g : Progress) (s q y n : ℕ) (command : Command) → q ≡ draw g.state 1 20 → s ≡ next_state g.state → IsDrawn (command_of g.gcs s q) command s y
    → n ≡ g.gcs + (if is_gc command then 1 else 0) → record { state = y; gcs = n } ≡ progressed g
unfolding progressed
drawn_progress g s q y n command is_number is_state is count =
    rw (is.state, count, is.is, is_number, is_state) refl

-- a command that is no `gc` is none
pub no_gc : (c : Command) → ((g : ℕ) → c ≡ commands.Collect g → ⊥) → is_gc c ≡ false
no_gc (commands.Collect g) not = absurd (not g refl)
no_gc c not = refl

-- where a `gc` was drawn there are fewer before it than there may be
pub one_gc_more : (g : Progress) (s q y last : ℕ) (command : Command) → g.gcs ≤ 16 → IsDrawn (command_of g.gcs s q) command s y → command ≡ commands.Collect last
    → g.gcs + 1 ≤ 16
one_gc_more g s q y last command within is gc =
    subst (λ b. g.gcs + (if b then 1 else 0) ≤ 16) (ap is_gc (sym is.is ∙ gc)) (bounded g.gcs s q within)
