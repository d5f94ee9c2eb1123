-- Lines of commands in their usual spelling.
use Rattle.std.proofs.Common.{◌≡◌, ℕ, ℤ, pos, negsuc, SFits, w64, ◌<◌, true, List, [], ◌∷◌, ◌++◌, Option, Some, None, sym, ap, ◌∙◌, subst, arith, append_assoc}
use Rattle.std.specs.Prelude.{Err, IfSome, codes, decimal}
use Rattle.std.proofs.lemmas.Int.{ints}
use Rattle.heap_terms.specs.declared.answers.Answer.{Answer}
use Rattle.heap_terms.specs.declared.commands.Command.{Command}
use Rattle.heap_terms.specs.declared.events.Event.{Event}
use Rattle.heap_terms.specs.declared.events.Event.TheVariants.{Did, Opened, Collected, Ended}
use Rattle.heap_terms.specs.Text.{answer_text, command_text, event_text}
use Rattle.heap_terms.specs.Valid.{IsFixnum, IsInRange}
use Rattle.journal_text.specs.declared.parsing.faults.LineFault.{LineFault}
use Rattle.journal_text.specs.declared.parsing.pieces.Piece.{Piece}
use Rattle.journal_text.specs.declared.parsing.pieces.Piece.TheVariants as pieces
use Rattle.journal_text.specs.Builder.{Adds, AddsLine, State, StopsAt, TakesLine, add}
use Rattle.journal_text.proofs.Distinct.{content, content_no_lf, content_read, text_content}
use Rattle.journal_text.proofs.Pieces.{IsPiece}
use Rattle.journal_text.specs.Lines.{piece_text}
use Rattle.journal_text.specs.Plain.{Acts, Answers, IsDeed}
use Rattle.journal_text.specs.Rows.{may_answer}

did_text : (t : ℕ) (c : Command) (answer : Answer) (bytes rest after : List ℕ) → bytes ≡ 32 ∷ (command_text c ++ rest) → Answers rest answer after → decimal t ++ bytes ≡ event_text (Did t c answer) ++ after
unfolding event_text
did_text t c answer bytes rest after text told =
    let front : List ℕ = decimal t ++ codes " " ++ command_text c in
    let told_text : List ℕ = codes " -> " ++ answer_text answer in
    ap (λ (xs : List ℕ). decimal t ++ xs) (text ∙ ap (λ (xs : List ℕ). 32 ∷ (command_text c ++ xs)) told.text)
    ∙ sym (append_assoc (decimal t) (32 ∷ []) (command_text c ++ (told_text ++ codes "\n" ++ after)))
    ∙ sym (append_assoc (decimal t ++ codes " ") (command_text c) (told_text ++ codes "\n" ++ after))
    ∙ sym (append_assoc front (told_text ++ codes "\n") after)
    ∙ ap (λ (xs : List ℕ). xs ++ after) (sym (append_assoc front told_text (codes "\n")) ∙ ap (λ (xs : List ℕ). xs ++ codes "\n") (sym (append_assoc front (codes " -> ") (answer_text answer))))

-- a command and its answer, which it may have
pub acts : (t : ℕ) (c : Command) (answer : Answer) (bytes rest after : List ℕ) (e : Event) → t < 8 → bytes ≡ 32 ∷ (command_text c ++ rest) → IsInRange c → Answers rest answer after →
    (e ≡ Did t c answer) × (may_answer c answer ≡ true) → Acts t bytes e after
acts t c answer bytes rest after e small text within told is =
    subst (λ (x : Event). Acts t bytes x after) (sym is.0) (record { text = did_text t c answer bytes rest after text told; within = (small, within, told.within, is.1) })

-- what holds of a line that was read
pub some_weaker : {X : Type 0} (P Q : X → Type 0) → ((x : X) → P x → Q x) → (found : Option X) → IfSome found P → IfSome found Q
some_weaker P Q weaker None h = tt
some_weaker P Q weaker (Some x) h = weaker x h

-- 64 bits hold a fixnum
pub fixnum_fits : (z : ℤ) → IsFixnum z → SFits w64 z
fixnum_fits (pos n) h = omega (arith, ints, h)
fixnum_fits (negsuc n) h = omega (arith, ints, h)

-- what was read is a line, and what the line says
pub deed_piece : (e : Event) → IsDeed e → IsPiece (pieces.Event e)
deed_piece (Did t c answer) h = h
deed_piece (Opened t ty first k) h = absurd h
deed_piece (Collected t last passes) h = absurd h
deed_piece (Ended t) h = absurd h

pub piece_took : (s t : State) (bytes after : List ℕ) (p : Piece) → bytes ≡ piece_text p ++ after → IsPiece p → add s p ≡ Some t → TakesLine s bytes after t
piece_took s t bytes after p text ok added = record { content = content p; text = text ∙ text_content p after ok; adds = rw (content_read p ok) added }

pub piece_stops : (s t : State) (bytes after : List ℕ) (p : Piece) (fault : LineFault) → bytes ≡ piece_text p ++ after → IsPiece p → Adds (add s p) t (Err fault) → StopsAt s bytes t fault
piece_stops s t bytes after p fault text ok added = record {
  content = content p;
  after = after;
  text = text ∙ text_content p after ok;
  plain = content_no_lf p ok;
  adds = subst (λ (told : Option Piece). AddsLine s told t (Err fault)) (sym (content_read p ok)) added;
}
