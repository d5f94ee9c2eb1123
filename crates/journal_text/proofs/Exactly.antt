-- A journal is read as the events that it tells.
use Rattle.std.proofs.Common.{◌≡◌, ℕ, List, refl, sym, ◌∙◌, Result, Ok, Err, Vec, Global, append_assoc}
use Rattle.std.specs.Prelude.{IfOk, IfErr, MatchResult}
use Rattle.heap_terms.specs.declared.events.Event.{Event}
use Rattle.heap_terms.specs.declared.faults.Why.{Why}
use Rattle.heap_terms.specs.declared.faults.Why.TheVariants.{Word, Order, Fields, Form, Range, Missing}
use Rattle.heap_terms.specs.Text.{line}
use Rattle.journal_text.specs.declared.faults.JournalFault.{JournalFault}
use Rattle.journal_text.specs.declared.faults.JournalFault.TheVariants as faults
use Rattle.journal_text.specs.Journals.{IsBad, IsFault, IsFirstBad, IsJournal}
use Rattle.journal_text.proofs.Distinct.{texts_distinct}

first_bad : (bytes : List ℕ) (number : ℕ) (h : List Event) → IsJournal bytes h → IsFirstBad number bytes → ⊥
first_bad bytes number h j b =
    b.bad (record { events = h; rest = b.after; within = j.within; text = sym j.text ∙ b.whole ∙ sym (append_assoc b.before (line b.content) b.after) })

bad_line : (why : Why) (bytes : List ℕ) (number : ℕ) (h : List Event) → IsJournal bytes h → IsBad why number bytes → ⊥
bad_line Form bytes number h j b = first_bad bytes number h j b
bad_line Missing bytes number h j b = b.bad h j
bad_line Word bytes number h j b = b
bad_line Order bytes number h j b = b
bad_line Fields bytes number h j b = b
bad_line Range bytes number h j b = b

pub exactly : (bytes : List ℕ) (r : Result (Vec Event Global) JournalFault) (h : List Event) → IsJournal bytes h → IfOk r (λ v. IsJournal bytes v.items) → IfErr r (λ f. IsFault f bytes) →
    MatchResult r (λ v. v.items ≡ h) (λ f. f ≡ faults.Memory)
exactly bytes (Ok v) h j told fault = texts_distinct v.items h told.within j.within (sym told.text ∙ j.text)
exactly bytes (Err (faults.Line number why)) h j told fault = absurd (bad_line why bytes number h j fault)
exactly bytes (Err faults.Memory) h j told fault = refl
