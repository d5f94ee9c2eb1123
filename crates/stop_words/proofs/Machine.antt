-- The words of the rule are those of the word machine: from the word that the rule has before a step, the machine's
-- step makes the word that the rule has after it.
use Rattle.std.proofs.Common.{◌≡◌, ◌≢◌, ℕ, suc, Bool, true, false, refl}
use Rattle.std.specs.Prelude.{if◌then◌else◌}
use Rattle.heap_terms.specs.declared.steps.WordStep.TheVariants.{Resume, Enter, Leave, Park, Claim, Post, Release}
use Rattle.heap_terms.specs.WordMachine.{becomes}
use Rattle.stop_words.specs.declared.view.Place.{Place}
use Rattle.stop_words.specs.declared.view.Place.TheVariants.{Parked, Outside, Inside, Holding}
use Rattle.stop_words.specs.Places.{word_of}
use Rattle.stop_words.proofs.Basics.{if_same, if_other}

-- a stop keeps a parked thread parked, and a thread outside a section outside
pub resume_becomes : (t : ℕ) (stop : Bool) → becomes t Resume (word_of Parked stop) ≡ word_of (if stop then Parked else Outside) stop
resume_becomes t true = refl
resume_becomes t false = refl

pub enter_becomes : (t : ℕ) (stop : Bool) → becomes t Enter (word_of Outside stop) ≡ word_of (if stop then Outside else Inside) stop
enter_becomes t true = refl
enter_becomes t false = refl

pub leave_becomes : (t : ℕ) (stop : Bool) → becomes t Leave (word_of Inside stop) ≡ word_of Outside stop
leave_becomes t true = refl
leave_becomes t false = refl

pub park_becomes : (t : ℕ) (stop : Bool) → becomes t Park (word_of Outside stop) ≡ word_of Parked stop
park_becomes t true = refl
park_becomes t false = refl

pub post_becomes : (t u : ℕ) (p : Place) (stop : Bool) → becomes t (Post u) (word_of p stop) ≡ word_of p true
post_becomes t u Parked true = refl
post_becomes t u Parked false = refl
post_becomes t u Outside true = refl
post_becomes t u Outside false = refl
post_becomes t u Inside true = refl
post_becomes t u Inside false = refl
post_becomes t u Holding true = refl
post_becomes t u Holding false = refl

pub release_becomes : (t u : ℕ) → becomes t (Release u) (word_of Parked true) ≡ word_of Parked false
release_becomes t u = refl

-- the turn
pub claim_becomes : (t turn : ℕ) → turn ≡ 0 → becomes t Claim turn ≡ suc t
claim_becomes t turn e = if_same turn 0 (suc t) turn e

pub taken_becomes : (t turn : ℕ) → turn ≢ 0 → becomes t Claim turn ≡ turn
taken_becomes t turn ne = if_other turn 0 (suc t) turn ne
