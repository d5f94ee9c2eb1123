-- What every turn of the word machine keeps.
use Rattle.std.specs.Prelude.{◌≡◌, ℕ, ◌<◌, length, slice_index}
use Rattle.heap_terms.specs.declared.programs.Program.{Program}
use Rattle.heap_terms.specs.Heap.{thread_at}
use Rattle.heap_terms.specs.Histories.{Lawful, replay}
use Rattle.heap_terms.specs.MachineTurns.{Configuration, phase_of, is_due, has_ended}
use Rattle.machine_laws.specs.Fitting.{Fits}
use Rattle.machine_laws.specs.Order.{InOrder}

-- the word of thread t
abbrev pub word_in : Configuration → ℕ → ℕ
word_in c t = slice_index c.words t

-- how many sections of thread t ask that no collection comes
abbrev pub inhibits_in : Program → Configuration → ℕ → ℕ
inhibits_in p c t = (thread_at (replay p c.history) t).inhibits

-- The history is lawful, there is a word and a phase for each thread, the turn and the words are those of the phases, and
-- each thread's phase is one that it may be at.
pub record IsOrderly (p : Program) (c : Configuration) : Type 0 where
  pub lawful : Lawful p c.history
  pub words_count : length c.words ≡ length p.threads
  pub phases_count : length c.phases ≡ length p.threads
  pub order : InOrder (length p.threads) c.turn (word_in c) (phase_of c)
  pub fits : (t : ℕ) → t < length p.threads → Fits (phase_of c t) (is_due p c.history t) (has_ended p c.history t) (inhibits_in p c t)
