-- What each kind of step tells: of the step, the seat before, the word found and the seat after. This project's own.
use Rattle.std.specs.Prelude.{◌≡◌, ◌≢◌, ◌≤◌, ℕ, suc, Bool, false, Option, Some, [], ◌∷◌}
use Rattle.atomic_table.specs.Table.{Me, Step, rest}
use Rattle.heap_terms.specs.declared.steps.WordStep.{WordStep}
use Rattle.heap_terms.specs.declared.steps.WordStep.TheVariants.{Resume, Park, Claim, Post, Look, Release, Return}
use Rattle.stop_words.specs.declared.view.Place.{Place}
use Rattle.stop_words.specs.declared.view.Place.TheVariants.{Parked, Outside}
use Rattle.stop_words.specs.declared.view.View.{View}
use Rattle.stop_words.specs.Places.{word_of}
use Rattle.stop_words.specs.Views.{view_after}
use Rattle.stop_words.specs.Hands.{labels, picked, lying}

-- a word that a thread at this place can have
abbrev pub IsWordAt : Place → ℕ → Type 0
IsWordAt p n = (b : Bool) × (n ≡ word_of p b)

-- a word that a thread can have
abbrev pub IsWord : ℕ → Type 0
IsWord n = (p : Place) × IsWordAt p n

module _ {P : Type 0} (owner : P → ℕ) where
  abbrev pub Play : Type 1
  Play = Step (Option P) → Me (Option P) View → ℕ → Me (Option P) View → Type 0

  -- a step on the own word that leaves the slots
  abbrev pub Walked : WordStep → Play
  Walked step st m r n = (n.0 ≡ view_after step r m.0) × (n.1 ≡ m.1) × IsWordAt m.0.place r

  -- the own slot came from home, where no stop stood
  abbrev pub Resumed : Play
  Resumed st m r n = (n.0 ≡ view_after Resume r m.0) × (r ≡ 4 → labels owner n.1 ≡ (m.0.thread, Some m.0.thread) ∷ []) × (r ≢ 4 → n.1 ≡ m.1) × IsWordAt Parked r

  -- the own slot went home
  abbrev pub ParkedIn : Play
  ParkedIn st m r n = (n.0 ≡ view_after Park r m.0) × (n.1 ≡ rest m.1) × IsWordAt Outside r

  -- the holder, if there was one, is another thread
  abbrev pub Claimed : Play
  Claimed st m r n = (n.0 ≡ view_after Claim r m.0) × (n.1 ≡ m.1) × (r ≤ st.slots) × (r ≢ suc m.0.thread)

  abbrev pub Posted : Play
  Posted st m r n = (u : ℕ) → st.word ≡ suc u → (n.0 ≡ view_after (Post u) r m.0) × (n.1 ≡ m.1) × IsWord r

  -- the slot of a thread that was found parked, and not before, came from home
  abbrev pub Looked : Play
  Looked st m r n =
      (u : ℕ) → st.word ≡ suc u
      → (n.0 ≡ view_after (Look u) r m.0) × IsWord r × (u ≢ m.0.thread)
      × (n.0.seen ≡ m.0.seen → n.1 ≡ m.1)
      × ((own : Option ℕ) → labels owner m.1 ≡ (m.0.thread, own) ∷ picked m.0.seen (lying false) 0 st.slots → labels owner n.1 ≡ (m.0.thread, own) ∷ picked n.0.seen (lying false) 0 st.slots)

  abbrev pub Released : Play
  Released st m r n = (u : ℕ) → st.word ≡ suc u → (n.0 ≡ view_after (Release u) r m.0) × (n.1 ≡ rest m.1) × (r ≡ 6)

  abbrev pub Returned : Play
  Returned st m r n = (n.0 ≡ view_after Return r m.0) × (n.1 ≡ m.1) × (r ≡ suc m.0.thread)
