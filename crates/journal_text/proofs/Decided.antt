-- Each line is decided by itself and by what is still open.
use Rattle.std.proofs.Common.{◌≡◌, ℕ, ◌+◌, ◌^◌, ◌<◌, Bool, true, false, List, [], ◌∷◌, ◌++◌, length, Option, Some, None, refl, inl, inr, ap, sym, ◌∙◌, subst, arith, append_assoc, append-nil, length-append}
use Rattle.std.specs.Prelude.{◌⊎◌, flat_map, IsSome, if◌then◌else◌, ◌==◌}
use Rattle.std.specs.List.{AllByRecursion, slice_split}
use Rattle.std.proofs.lemmas.Bool.{false≢true}
use Rattle.std.proofs.lemmas.Grind.{flat_map-append}
use Rattle.std.proofs.lemmas.Option.{same_Some}
use Rattle.heap_terms.specs.Text.{line}
use Rattle.heap_terms.specs.declared.events.Event.{Event}
use Rattle.heap_terms.specs.declared.events.Event.TheVariants.{Collected}
use Rattle.journal_text.specs.declared.parsing.pieces.Piece.{Piece}
use Rattle.journal_text.specs.declared.parsing.pieces.Piece.TheVariants as pieces
use Rattle.journal_text.specs.declared.parsing.stages.Stage.{Stage}
use Rattle.journal_text.specs.declared.parsing.stages.Stage.TheVariants as stages
use Rattle.journal_text.specs.Builder.{State, add, closed, closed_by, done, is_open, opened_pass, start}
use Rattle.journal_text.specs.Cursors.{is_space}
use Rattle.journal_text.specs.Journals.{BeginsJournal, HasNoLf}
use Rattle.journal_text.specs.Lines.{piece_text}
use Rattle.journal_text.specs.LineLaws.{SameOpen, PrefixesAreRead, OpenLinesDecide, OpenIsEnough, LinesAreDecided, line_added, lines_added}
use Rattle.journal_text.specs.LineReading.{◌>>=◌}
use Rattle.journal_text.specs.PieceReading.{read_line}
use Rattle.journal_text.proofs.Binding.{bind_some}
use Rattle.journal_text.proofs.Prefixes.{Reading, reading_start, reading_more, reading_begins, refused}

-- ---- what the lines so far have left open is where the reader stands

-- the first of several lines, with its LF
line_first : (content : List ℕ) (more : List (List ℕ)) (rest : List ℕ) → flat_map line (content ∷ more) ++ rest ≡ content ++ (10 ∷ (flat_map line more ++ rest))
line_first content more rest = append_assoc (line content) (flat_map line more) rest ∙ append_assoc content (10 ∷ []) (flat_map line more ++ rest)

reading_lines : (bytes rest : List ℕ) (lines : List (List ℕ)) (number : ℕ) (s t : State) → lines_added s lines ≡ Some t → Reading bytes (flat_map line lines ++ rest) number s → Reading bytes rest (number + length lines) t
reading_lines bytes rest [] number s t e r =
    let same : s ≡ t = same_Some s t e in
    subst (λ (u : State). Reading bytes rest (number + 0) u) same (subst (λ (n : ℕ). Reading bytes rest n s) (omega arith) r)
reading_lines bytes rest (content ∷ more) number s t e r =
    let b = bind_some (line_added s content) (λ u. lines_added u more) t e in
    let next = reading_more bytes (flat_map line (content ∷ more) ++ rest) content (flat_map line more ++ rest) number (number + 1) s b.0 (line_first content more rest) b.1 refl r in
    subst (λ (n : ℕ). Reading bytes rest n t) (omega arith) (reading_lines bytes rest more (number + 1) b.0 t b.2 next)

-- the reader behind these lines, with some bytes to come
reading_at : (lines : List (List ℕ)) (rest : List ℕ) (s : State) → lines_added start lines ≡ Some s → Reading (flat_map line lines ++ rest) rest (1 + length lines) s
reading_at lines rest s e = reading_lines (flat_map line lines ++ rest) rest lines 1 start s e (reading_start (flat_map line lines ++ rest))

-- lines that are taken begin a journal
taken_begins : (lines : List (List ℕ)) (s : State) → length (flat_map line lines) < 2 ^ 32 → lines_added start lines ≡ Some s → BeginsJournal (flat_map line lines)
taken_begins lines s small e =
    let r = reading_at lines [] s e in
    let whole : flat_map piece_text r.lines ≡ flat_map line lines = sym (append-nil (flat_map piece_text r.lines)) ∙ sym r.whole ∙ append-nil (flat_map line lines) in
    subst BeginsJournal whole (reading_begins (flat_map line lines ++ []) [] (1 + length lines) s (rw (append-nil (flat_map line lines)) small) r)

-- a line that is not taken begins none
refused_line : (before : List (List ℕ)) (content : List ℕ) (s : State) → HasNoLf content → lines_added start before ≡ Some s → line_added s content ≡ None →
    BeginsJournal (flat_map line before ++ line content) → ⊥
refused_line before content s plain e told b =
    let r = reading_at before [] s e in
    let whole : flat_map piece_text r.lines ≡ flat_map line before = sym (append-nil (flat_map piece_text r.lines)) ∙ sym r.whole ∙ append-nil (flat_map line before) in
    refused s r.lines content r.good r.goes plain told (subst (λ (xs : List ℕ). BeginsJournal (xs ++ line content)) (sym whole) b)

-- ---- lines one after the other

then_the_same : {A : Type 0} (told : Option State) (f g : State → Option A) → ((t : State) → f t ≡ g t) → (told >>= f) ≡ (told >>= g)
then_the_same None f g same = refl
then_the_same (Some t) f g same = same t

then_again : {A : Type 0} (told : Option State) (f : State → Option State) (g : State → Option A) → (told >>= λ t. f t >>= g) ≡ ((told >>= f) >>= g)
then_again None f g = refl
then_again (Some t) f g = refl

added_last : (s : State) (before : List (List ℕ)) (content : List ℕ) → lines_added s (before ++ content ∷ []) ≡ (lines_added s before >>= λ t. line_added t content)
added_last s [] content = whole (line_added s content)
  where
    whole : (told : Option State) → (told >>= λ t. Some t) ≡ told
    whole None = refl
    whole (Some t) = refl
added_last s (first ∷ before) content =
    then_the_same (line_added s first) (λ t. lines_added t (before ++ content ∷ [])) (λ t. lines_added t before >>= λ u. line_added u content) (λ t. added_last t before content)
    ∙ then_again (line_added s first) (λ t. lines_added t before) (λ u. line_added u content)

flat_last : (before : List (List ℕ)) (content : List ℕ) → flat_map line (before ++ content ∷ []) ≡ flat_map line before ++ line content
flat_last before content = flat_map-append line before (content ∷ []) ∙ ap (λ (xs : List ℕ). flat_map line before ++ xs) (append-nil (line content))

open_decides : OpenLinesDecide
open_decides before content s plain small e = (λ b. there (line_added s content) refl b, λ some. here (line_added s content) refl some)
  where
    there : (told : Option State) → line_added s content ≡ told → BeginsJournal (flat_map line before ++ line content) → IsSome told
    there None is b = absurd (refused_line before content s plain e is b)
    there (Some t) is b = refl

    here : (told : Option State) → line_added s content ≡ told → IsSome told → BeginsJournal (flat_map line before ++ line content)
    here None is some = absurd (false≢true some)
    here (Some t) is some =
        let all : lines_added start (before ++ content ∷ []) ≡ Some t = added_last start before content ∙ ap (λ (o : Option State). o >>= λ u. line_added u content) e ∙ is in
        let text = flat_last before content in
        subst BeginsJournal text (taken_begins (before ++ content ∷ []) t (rw text small) all)

-- what begins with more begins with less
begins_less : (a b : List ℕ) → BeginsJournal (a ++ b) → BeginsJournal a
begins_less a b h = record { events = h.events; rest = b ++ h.rest; within = h.within; text = h.text ∙ append_assoc a b h.rest }

found_or_none : (told : Option State) → (told ≡ None) ⊎ ((t : State) × (told ≡ Some t))
found_or_none None = inl refl
found_or_none (Some t) = inr (t, refl)

all_taken : (before more : List (List ℕ)) (s : State) → lines_added start before ≡ Some s → AllByRecursion HasNoLf more → BeginsJournal (flat_map line before ++ flat_map line more) → IsSome (lines_added s more)
all_taken before [] s e plain b = refl
all_taken before (content ∷ more) s e plain b =
    let text : flat_map line before ++ flat_map line (content ∷ more) ≡ (flat_map line before ++ line content) ++ flat_map line more = sym (append_assoc (flat_map line before) (line content) (flat_map line more)) in
    let less = begins_less (flat_map line before ++ line content) (flat_map line more) (subst BeginsJournal text b) in
    elim (found_or_none (line_added s content)) [
      | inl is ↦ absurd (refused_line before content s plain.0 e is less)
      | inr found ↦
          let all : lines_added start (before ++ content ∷ []) ≡ Some found.0 = added_last start before content ∙ ap (λ (o : Option State). o >>= λ u. line_added u content) e ∙ found.1 in
          let same : flat_map line before ++ flat_map line (content ∷ more) ≡ flat_map line (before ++ content ∷ []) ++ flat_map line more = text ∙ ap (λ (xs : List ℕ). xs ++ flat_map line more) (sym (flat_last before content)) in
          let rest = all_taken (before ++ content ∷ []) more found.0 all plain.1 (subst BeginsJournal same b) in
          subst (λ (o : Option State). IsSome (o >>= λ t. lines_added t more)) (sym found.1) rest
    ]

prefixes_read : PrefixesAreRead
prefixes_read lines plain small = (λ b. all_taken [] lines start refl plain b, λ some. here (lines_added start lines) refl some)
  where
    here : (told : Option State) → lines_added start lines ≡ told → IsSome told → BeginsJournal (flat_map line lines)
    here None is some = absurd (false≢true some)
    here (Some s) is some = taken_begins lines s small is

-- ---- only what is open counts

some_if : (b : Bool) (x y : State) → IsSome (if b then Some x else None) → IsSome (if b then Some y else None)
some_if true x y some = refl
some_if false x y some = absurd (false≢true some)

-- what may be done with as many events may be done where the same is open
closed_moves : (s t : State) (f g : List Event → Option State) (st : Stage) → length s.events ≡ length t.events → ((es fs : List Event) → length es ≡ length fs → IsSome (f es) → IsSome (g fs)) →
    IsSome (closed_by st s >>= f) → IsSome (closed_by st t >>= g)
closed_moves s t f g stages.Between count same some = same s.events t.events count some
closed_moves s t f g stages.Collecting count same some = same _ _ (omega (arith, count, length-append s.events (Collected s.thread s.last s.passes ∷ []), length-append t.events (Collected t.thread t.last t.passes ∷ []))) some
closed_moves s t f g stages.Moves count same some = absurd (false≢true some)
closed_moves s t f g stages.Pins count same some = absurd (false≢true some)
closed_moves s t f g stages.Culls count same some = absurd (false≢true some)
closed_moves s t f g stages.Breaks count same some = absurd (false≢true some)
closed_moves s t f g stages.Queued count same some = absurd (false≢true some)
closed_moves s t f g stages.Freed count same some = absurd (false≢true some)
closed_moves s t f g stages.Done count same some = absurd (false≢true some)

opens_too : (s t : State) (g target : ℕ) (st : Stage) → IsSome (opened_pass st g target s) → IsSome (opened_pass st g target t)
opens_too s t g target stages.Collecting some = refl
opens_too s t g target stages.Between some = absurd (false≢true some)
opens_too s t g target stages.Moves some = absurd (false≢true some)
opens_too s t g target stages.Pins some = absurd (false≢true some)
opens_too s t g target stages.Culls some = absurd (false≢true some)
opens_too s t g target stages.Breaks some = absurd (false≢true some)
opens_too s t g target stages.Queued some = absurd (false≢true some)
opens_too s t g target stages.Freed some = absurd (false≢true some)
opens_too s t g target stages.Done some = absurd (false≢true some)

-- the same with the stage of the other
moves_too : (s t : State) (f g : List Event → Option State) → SameOpen s t → ((es fs : List Event) → length es ≡ length fs → IsSome (f es) → IsSome (g fs)) →
    IsSome (closed s >>= f) → IsSome (closed t >>= g)
moves_too s t f g alike same some = subst (λ (st : Stage). IsSome (closed_by st t >>= g)) alike.stage (closed_moves s t f g s.stage alike.count same some)

entry_too : (s t u v : State) (last : Stage) → SameOpen s t → IsSome (if is_open s.stage last then Some u else None) → IsSome (if is_open t.stage last then Some v else None)
entry_too s t u v last alike some = subst (λ (st : Stage). IsSome (if is_open st last then Some v else None)) alike.stage (some_if (is_open s.stage last) u v some)

added_too : (s t : State) (p : Piece) → SameOpen s t → IsSome (add s p) → IsSome (add t p)
added_too s t (pieces.Event e) alike some = moves_too s t _ _ alike (λ es fs count h. refl) some
added_too s t (pieces.Collect thread last) alike some = moves_too s t _ _ alike (λ es fs count h. refl) some
added_too s t (pieces.Pass g target) alike some = subst (λ (st : Stage). IsSome (opened_pass st g target t)) alike.stage (opens_too s t g target s.stage some)
added_too s t (pieces.Move m) alike some = entry_too s t _ _ stages.Moves alike some
added_too s t (pieces.Pin q) alike some = entry_too s t _ _ stages.Pins alike some
added_too s t (pieces.Cull k) alike some = entry_too s t _ _ stages.Culls alike some
added_too s t (pieces.Break name) alike some = entry_too s t _ _ stages.Breaks alike some
added_too s t (pieces.Queue id) alike some = entry_too s t _ _ stages.Queued alike some
added_too s t (pieces.Free page) alike some = entry_too s t _ _ stages.Freed alike some
added_too s t (pieces.Swept dead kept) alike some = entry_too s t _ _ stages.Freed alike some
added_too s t (pieces.Done n) alike some = moves_too s t _ _ alike (λ es fs count h. subst (λ (k : ℕ). IsSome (if k == n then Some (done fs t) else None)) count (some_if (length es == n) (done es s) (done fs t) h)) some

open_enough : OpenIsEnough
open_enough s t content alike some = at (read_line (slice_split is_space content)) some
  where
    at : (told : Option Piece) → IsSome (told >>= λ piece. add s piece) → IsSome (told >>= λ piece. add t piece)
    at None some = absurd (false≢true some)
    at (Some p) some = added_too s t p alike some

pub lines_decided : LinesAreDecided
lines_decided = (prefixes_read, open_decides, open_enough)
