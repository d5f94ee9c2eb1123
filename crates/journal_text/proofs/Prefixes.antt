-- Where the lines so far begin a journal, and where the next one does not go on with it.
use Rattle.std.proofs.Common.{◌≡◌, ℕ, suc, ◌+◌, ◌^◌, ◌<◌, ◌≤◌, List, [], ◌∷◌, ◌++◌, length, map, Option, Some, None, refl, ap, sym, ◌∙◌, subst, arith, append_assoc, append-nil, length-append}
use Rattle.std.specs.List.{AllByRecursion, flat_map, slice_split}
use Rattle.std.proofs.lemmas.Grind.{flat_map-append}
use Rattle.std.proofs.lemmas.Option.{same_Some}
use Rattle.heap_terms.specs.declared.events.Event.{Event}
use Rattle.heap_terms.specs.declared.events.Event.TheVariants as events
use Rattle.heap_terms.specs.declared.events.PassRecord.{PassRecord}
use Rattle.heap_terms.specs.Text.{line}
use Rattle.journal_text.specs.declared.parsing.pieces.Piece.{Piece}
use Rattle.journal_text.specs.declared.parsing.pieces.Piece.TheVariants as pieces
use Rattle.journal_text.specs.declared.parsing.stages.Stage.{Stage}
use Rattle.journal_text.specs.declared.parsing.stages.Stage.TheVariants as stages
use Rattle.journal_text.specs.Builder.{State, add, done, run, start, with_swept}
use Rattle.journal_text.specs.LineReading.{◌>>=◌}
use Rattle.journal_text.specs.Cursors.{is_space}
use Rattle.journal_text.specs.Journals.{AreLines, BeginsJournal, HasNoLf, IsCutOff, IsFirstBad, IsJournal}
use Rattle.journal_text.specs.Lines.{piece_text}
use Rattle.journal_text.specs.PieceReading.{read_line}
use Rattle.journal_text.specs.Ranges.{AreEvents, IsEvent, IsMove, IsPin, IsCull, IsName, IsNumber32, IsPageNumber, IsPass}
use Rattle.journal_text.proofs.Joined.{joined, joined_split}
use Rattle.journal_text.proofs.LineTexts.{text_joined}
use Rattle.journal_text.proofs.Machine.{event_pieces, journal_pieces, journal_run, pass_pieces}
use Rattle.journal_text.proofs.Pieces.{IsPiece, line_sound}
use Rattle.journal_text.proofs.Binding.{bind_some}
use Rattle.journal_text.proofs.Distinct.{content, content_no_lf, content_read, cut_lf, journal_good, journal_lines, text_content}
use Rattle.journal_text.proofs.States.{Tidy, front, open_pieces, swept_pieces, taken, taken_at, took, within}

-- ---- the ranges, back from the lines

all_split : (ps qs : List Piece) → AllByRecursion IsPiece (ps ++ qs) → AllByRecursion IsPiece ps × AllByRecursion IsPiece qs
all_split [] qs all = (tt, all)
all_split (p ∷ ps) qs all = let k = all_split ps qs all.1 in ((all.0, k.0), k.1)

maps_back : {X : Type 0} (make : X → Piece) (ok : X → Type 0) → ((x : X) → IsPiece (make x) → ok x) → (xs : List X) → AllByRecursion IsPiece (map make xs) → AllByRecursion ok xs
maps_back make ok good [] all = tt
maps_back make ok good (x ∷ xs) all = (good x all.0, maps_back make ok good xs all.1)

pass_back : (r : PassRecord) → AllByRecursion IsPiece (pass_pieces r) → IsPass r
pass_back r all =
    let a = all_split (map pieces.Move r.moves) _ all.1 in
    let b = all_split (map pieces.Pin r.pins) _ a.1 in
    let c = all_split (map pieces.Cull r.culls) _ b.1 in
    let d = all_split (map pieces.Break r.breaks) _ c.1 in
    let f = all_split (map pieces.Queue r.queued) _ d.1 in
    let g = all_split (map pieces.Free r.freed) _ f.1 in
    record {
      generation = all.0.0;
      target = all.0.1;
      moves = maps_back pieces.Move IsMove (λ x h. h) r.moves a.0;
      pins = maps_back pieces.Pin IsPin (λ x h. h) r.pins b.0;
      culls = maps_back pieces.Cull IsCull (λ x h. h) r.culls c.0;
      breaks = maps_back pieces.Break IsName (λ x h. h) r.breaks d.0;
      queued = maps_back pieces.Queue IsNumber32 (λ x h. h) r.queued f.0;
      freed = maps_back pieces.Free IsPageNumber (λ x h. h) r.freed g.0;
      dead = g.1.0.0;
      kept = g.1.0.1;
    }

passes_back : (rs : List PassRecord) → AllByRecursion IsPiece (flat_map pass_pieces rs) → AllByRecursion IsPass rs
passes_back [] all = tt
passes_back (r ∷ rs) all = let k = all_split (pass_pieces r) (flat_map pass_pieces rs) all in (pass_back r k.0, passes_back rs k.1)

event_back : (e : Event) → AllByRecursion IsPiece (event_pieces e) → IsEvent e
event_back (events.Did t c a) all = all.0
event_back (events.Opened t ty f k) all = all.0
event_back (events.Collected t last passes) all = (all.0.0, all.0.1, passes_back passes all.1)
event_back (events.Ended t) all = all.0

events_back : (h : List Event) → AllByRecursion IsPiece (flat_map event_pieces h) → AllByRecursion IsEvent h
events_back [] all = tt
events_back (e ∷ h) all = let k = all_split (event_pieces e) (flat_map event_pieces h) all in (event_back e k.0, events_back h k.1)

event_long : (e : Event) → 1 ≤ length (event_pieces e)
event_long (events.Did t c a) = omega arith
event_long (events.Opened t ty f k) = omega arith
event_long (events.Collected t last passes) = omega arith
event_long (events.Ended t) = omega arith

events_long : (h : List Event) → length h ≤ length (flat_map event_pieces h)
events_long [] = omega arith
events_long (e ∷ h) = omega (arith, event_long e, events_long h, length-append (event_pieces e) (flat_map event_pieces h))

journal_long : (h : List Event) → length h + 1 ≤ length (journal_pieces h)
journal_long h = omega (arith, events_long h, length-append (flat_map event_pieces h) (pieces.Done (length h) ∷ []))

-- lines that are those of a journal are of events within the ranges
pub journal_back : (h : List Event) → length h < 2 ^ 64 → AllByRecursion IsPiece (journal_pieces h) → AreEvents h
journal_back h small all = record { number = small; events = events_back h (all_split (flat_map event_pieces h) (pieces.Done (length h) ∷ []) all).0 }

-- ---- what is open can be closed

record Completion (ps : List Piece) : Type 0 where
  h : List Event
  more : List Piece
  same : ps ++ more ≡ journal_pieces h
  short : length more ≤ 2
  good : length h < 2 ^ 64 → AllByRecursion IsPiece more

with_collection : (es : List Event) (t last : ℕ) (rs : List PassRecord) → flat_map event_pieces es ++ (pieces.Collect t last ∷ flat_map pass_pieces rs) ≡ flat_map event_pieces (es ++ (events.Collected t last rs ∷ []))
with_collection es t last rs =
    ap (λ (xs : List Piece). flat_map event_pieces es ++ xs) (sym (append-nil (pieces.Collect t last ∷ flat_map pass_pieces rs)))
    ∙ sym (flat_map-append event_pieces es (events.Collected t last rs ∷ []))

after_pass : (s : State) → Completion (within s ++ open_pieces s.pass)
after_pass s =
    let r = with_swept 0 0 s.pass in
    let h = s.events ++ (events.Collected s.thread s.last (s.passes ++ (r ∷ [])) ∷ []) in
    let c = pieces.Collect s.thread s.last in
    let end = pieces.Done (length h) in
    let inner : flat_map pass_pieces (s.passes ++ (r ∷ [])) ≡ flat_map pass_pieces s.passes ++ (open_pieces s.pass ++ (pieces.Swept 0 0 ∷ [])) =
    flat_map-append pass_pieces s.passes (r ∷ []) ∙ ap (λ (xs : List Piece). flat_map pass_pieces s.passes ++ xs) (append-nil (pass_pieces r) ∙ swept_pieces s.pass 0 0) in
    record {
      h = h;
      more = pieces.Swept 0 0 ∷ end ∷ [];
      same = regroup (front s) (c ∷ flat_map pass_pieces s.passes) (open_pieces s.pass) (pieces.Swept 0 0 ∷ []) (end ∷ [])
          ∙ ap (λ (xs : List Piece). (front s ++ (c ∷ xs)) ++ (end ∷ [])) (sym inner)
          ∙ ap (λ (xs : List Piece). xs ++ (end ∷ [])) (with_collection s.events s.thread s.last (s.passes ++ (r ∷ [])));
      short = omega arith;
      good = λ small. ((omega arith, omega arith), (small, tt));
    }
  where
    regroup : (a b c x y : List Piece) → ((a ++ b) ++ c) ++ (x ++ y) ≡ (a ++ (b ++ (c ++ x))) ++ y
    regroup a b c x y = simp append_assoc

completion : (s : State) → Completion (taken s)
completion s = at s.stage
  where
    at : (st : Stage) → Completion (taken_at st s)
    at stages.Between = record { h = s.events; more = pieces.Done (length s.events) ∷ []; same = refl; short = omega arith; good = λ small. (small, tt) }
    at stages.Collecting =
        let h = s.events ++ (events.Collected s.thread s.last s.passes ∷ []) in
        record {
          h = h;
          more = pieces.Done (length h) ∷ [];
          same = ap (λ (xs : List Piece). xs ++ (pieces.Done (length h) ∷ [])) (with_collection s.events s.thread s.last s.passes);
          short = omega arith;
          good = λ small. (small, tt);
        }
    at stages.Moves = after_pass s
    at stages.Pins = after_pass s
    at stages.Culls = after_pass s
    at stages.Breaks = after_pass s
    at stages.Queued = after_pass s
    at stages.Freed = after_pass s
    at stages.Done = record { h = s.events; more = []; same = append-nil (journal_pieces s.events); short = omega arith; good = λ small. tt }

all_join : (ps qs : List Piece) → AllByRecursion IsPiece ps → AllByRecursion IsPiece qs → AllByRecursion IsPiece (ps ++ qs)
all_join [] qs x y = y
all_join (p ∷ ps) qs x y = (x.0, all_join ps qs x.1 y)

pub begins : (s : State) (ps : List Piece) → AllByRecursion IsPiece ps → taken s ≡ ps → length ps + 2 < 2 ^ 64 → BeginsJournal (flat_map piece_text ps)
begins s ps good is small =
    let c = subst Completion is (completion s) in
    let count : length c.h < 2 ^ 64 = omega (arith, journal_long c.h, ap length c.same, length-append ps c.more, c.short) in
    let all : AllByRecursion IsPiece (journal_pieces c.h) = subst (λ (xs : List Piece). AllByRecursion IsPiece xs) c.same (all_join ps c.more good (c.good count)) in
    record {
      events = c.h;
      rest = flat_map piece_text c.more;
      within = journal_back c.h count all;
      text = sym (journal_lines c.h) ∙ ap (flat_map piece_text) (sym c.same) ∙ flat_map-append piece_text ps c.more;
    }

-- ---- a journal that begins with these lines goes on with one of its own

record Next (ps qs : List Piece) (l : List ℕ) : Type 0 where
  q : Piece
  more : List Piece
  same : qs ≡ ps ++ (q ∷ more)
  good : IsPiece q
  is : content q ≡ l

next_piece : (ps qs : List Piece) (l rest : List ℕ) → AllByRecursion IsPiece ps → AllByRecursion IsPiece qs → HasNoLf l → flat_map piece_text qs ≡ flat_map piece_text ps ++ (l ++ (10 ∷ rest)) → Next ps qs l
next_piece [] [] l rest x y plain e = absurd (omega (arith, ap length e, length-append l (10 ∷ rest)))
next_piece [] (q ∷ qs) l rest x y plain e =
    let k = cut_lf (content q) l (flat_map piece_text qs) rest (content_no_lf q y.0) plain (sym (text_content q (flat_map piece_text qs) y.0) ∙ e) in
    record { q = q; more = qs; same = refl; good = y.0; is = k.0 }
next_piece (p ∷ ps) [] l rest x y plain e =
    let k : [] ≡ content p ++ (10 ∷ (flat_map piece_text ps ++ (l ++ (10 ∷ rest)))) = e ∙ append_assoc (piece_text p) (flat_map piece_text ps) (l ++ (10 ∷ rest)) ∙ text_content p _ x.0 in
    absurd (omega (arith, ap length k, length-append (content p) (10 ∷ (flat_map piece_text ps ++ (l ++ (10 ∷ rest))))))
next_piece (p ∷ ps) (q ∷ qs) l rest x y plain e =
    let k = cut_lf (content q) (content p) (flat_map piece_text qs) (flat_map piece_text ps ++ (l ++ (10 ∷ rest))) (content_no_lf q y.0) (content_no_lf p x.0)
    (sym (text_content q (flat_map piece_text qs) y.0) ∙ e ∙ append_assoc (piece_text p) (flat_map piece_text ps) (l ++ (10 ∷ rest)) ∙ text_content p _ x.0) in
    let one : q ≡ p = same_Some q p (sym (content_read q y.0) ∙ ap (λ (xs : List ℕ). read_line (slice_split is_space xs)) k.0 ∙ content_read p x.0) in
    let n = next_piece ps qs l rest x.1 y.1 plain k.1 in
    record { q = n.q; more = n.more; same = λ i. one i ∷ n.same i; good = n.good; is = n.is }

lf_inside : (a r : List ℕ) → HasNoLf (a ++ (10 ∷ r)) → ⊥
lf_inside [] r plain = plain.0 refl
lf_inside (b ∷ a) r plain = lf_inside a r plain.1

tail_same : (ps qs : List Piece) (tail : List ℕ) → AllByRecursion IsPiece ps → AllByRecursion IsPiece qs → HasNoLf tail → flat_map piece_text qs ≡ flat_map piece_text ps ++ tail → (qs ≡ ps) × (tail ≡ [])
tail_same [] [] tail x y plain e = (refl, sym e)
tail_same [] (q ∷ qs) tail x y plain e = absurd (lf_inside (content q) (flat_map piece_text qs) (subst HasNoLf (sym e ∙ text_content q (flat_map piece_text qs) y.0) plain))
tail_same (p ∷ ps) [] tail x y plain e =
    let k : [] ≡ content p ++ (10 ∷ (flat_map piece_text ps ++ tail)) = e ∙ append_assoc (piece_text p) (flat_map piece_text ps) tail ∙ text_content p _ x.0 in
    absurd (omega (arith, ap length k, length-append (content p) (10 ∷ (flat_map piece_text ps ++ tail))))
tail_same (p ∷ ps) (q ∷ qs) tail x y plain e =
    let k = cut_lf (content q) (content p) (flat_map piece_text qs) (flat_map piece_text ps ++ tail) (content_no_lf q y.0) (content_no_lf p x.0)
    (sym (text_content q (flat_map piece_text qs) y.0) ∙ e ∙ append_assoc (piece_text p) (flat_map piece_text ps) tail ∙ text_content p _ x.0) in
    let one : q ≡ p = same_Some q p (sym (content_read q y.0) ∙ ap (λ (xs : List ℕ). read_line (slice_split is_space xs)) k.0 ∙ content_read p x.0) in
    let n = tail_same ps qs tail x.1 y.1 plain k.1 in
    ((λ i. one i ∷ n.0 i), n.1)

-- ---- the machine takes the lines of every journal

run_more : (s : State) (ps qs : List Piece) → run s (ps ++ qs) ≡ (run s ps >>= λ t. run t qs)
run_more s [] qs = refl
run_more s (p ∷ ps) qs = at (λ t. run_more t ps qs) (add s p)
  where
    at : ((t : State) → run t (ps ++ qs) ≡ (run t ps >>= λ u. run u qs)) → (told : Option State) → (told >>= λ t. run t (ps ++ qs)) ≡ ((told >>= λ t. run t ps) >>= λ t. run t qs)
    at more None = refl
    at more (Some t) = more t

pub refused : (s : State) (ps : List Piece) (l : List ℕ) → AllByRecursion IsPiece ps → run start ps ≡ Some s → HasNoLf l → (read_line (slice_split is_space l) >>= λ piece. add s piece) ≡ None →
    BeginsJournal (flat_map piece_text ps ++ line l) → ⊥
refused s ps l good goes plain told b =
    let n = next_piece ps (journal_pieces b.events) l b.rest good (journal_good b.events b.within) plain
    (journal_lines b.events ∙ b.text ∙ append_assoc (flat_map piece_text ps) (line l) b.rest ∙ ap (λ (xs : List ℕ). flat_map piece_text ps ++ xs) (append_assoc l (10 ∷ []) b.rest)) in
    let r = journal_run b.events in
    let read : read_line (slice_split is_space l) ≡ Some n.q = ap (λ (xs : List ℕ). read_line (slice_split is_space xs)) (sym n.is) ∙ content_read n.q n.good in
    let stops : add s n.q ≡ None = ap (λ (o : Option Piece). o >>= λ piece. add s piece) (sym read) ∙ told in
    let ends : run start (journal_pieces b.events) ≡ None =
    ap (run start) n.same ∙ run_more start ps (n.q ∷ n.more) ∙ ap (λ (o : Option State). o >>= λ t. run t (n.q ∷ n.more)) goes ∙ ap (λ (o : Option State). o >>= λ t. run t n.more) stops in
    let no : Some (done b.events r.0) ≡ None = sym r.1 ∙ ends in
    absurd cc

-- ---- where the reader stands

pub record Reading (bytes rest : List ℕ) (number : ℕ) (s : State) : Type 0 where
  pub lines : List Piece
  pub good : AllByRecursion IsPiece lines
  pub goes : run start lines ≡ Some s
  pub tidy : Tidy s
  pub takes : taken s ≡ lines
  pub whole : bytes ≡ flat_map piece_text lines ++ rest
  pub count : number ≡ suc (length lines)

pub reading_start : (bytes : List ℕ) → Reading bytes bytes 1 start
reading_start bytes = record {
  lines = [];
  good = tt;
  goes = refl;
  tidy = record { pins = λ low high. refl; culls = λ low high. refl; breaks = λ low high. refl; queued = λ low high. refl; freed = λ low high. refl };
  takes = refl;
  whole = refl;
  count = refl;
}

pub reading_more : (bytes rest content after : List ℕ) (number next : ℕ) (s t : State) → rest ≡ content ++ (10 ∷ after) → (read_line (slice_split is_space content) >>= λ piece. add s piece) ≡ Some t → next ≡ number + 1 →
    Reading bytes rest number s → Reading bytes after next t
reading_more bytes rest content after number next s t e told more r =
    let b = bind_some (read_line (slice_split is_space content)) (λ piece. add s piece) t told in
    let says = line_sound (slice_split is_space content) b.0 b.1 in
    let k = took s t b.0 says.1 r.tidy b.2 in
    let text : line content ≡ piece_text b.0 = ap line (sym (joined_split content) ∙ ap joined says.0) ∙ sym (text_joined b.0 says.1) in
    record {
      lines = r.lines ++ (b.0 ∷ []);
      good = all_join r.lines (b.0 ∷ []) r.good (says.1, tt);
      goes = run_more start r.lines (b.0 ∷ []) ∙ ap (λ (o : Option State). o >>= λ u. run u (b.0 ∷ [])) r.goes ∙ ap (λ (o : Option State). o >>= λ u. run u []) b.2;
      tidy = k.tidy;
      takes = k.lines ∙ ap (λ (xs : List Piece). xs ++ (b.0 ∷ [])) r.takes;
      whole = r.whole ∙ ap (λ (xs : List ℕ). flat_map piece_text r.lines ++ xs) (e ∙ sym (append_assoc content (10 ∷ []) after) ∙ ap (λ (xs : List ℕ). xs ++ after) text)
          ∙ sym (append_assoc (flat_map piece_text r.lines) (piece_text b.0) after)
          ∙ ap (λ (xs : List ℕ). xs ++ after) (ap (λ (xs : List ℕ). flat_map piece_text r.lines ++ xs) (sym (append-nil (piece_text b.0))) ∙ sym (flat_map-append piece_text r.lines (b.0 ∷ [])));
      count = omega (arith, more, r.count, length-append r.lines (b.0 ∷ []));
    }

lines_long : (ps : List Piece) → AllByRecursion IsPiece ps → length ps ≤ length (flat_map piece_text ps)
lines_long [] good = omega arith
lines_long (p ∷ ps) good =
    let k = text_content p (flat_map piece_text ps) good.0 in
    omega (arith, ap length k, length-append (content p) (10 ∷ flat_map piece_text ps), lines_long ps good.1)

pub reading_short : (bytes rest : List ℕ) (number : ℕ) (s : State) → Reading bytes rest number s → number + length rest ≤ length bytes + 1
reading_short bytes rest number s r = omega (arith, r.count, lines_long r.lines r.good, ap length r.whole, length-append (flat_map piece_text r.lines) rest)

contents_are : (ps : List Piece) → AllByRecursion IsPiece ps → AreLines (length ps) (flat_map piece_text ps)
contents_are ps good = record { contents = map content ps; plain = plain ps good; count = counted ps; whole = whole ps good }
  where
    plain : (ps : List Piece) → AllByRecursion IsPiece ps → AllByRecursion HasNoLf (map content ps)
    plain [] good = tt
    plain (p ∷ ps) good = (content_no_lf p good.0, plain ps good.1)

    counted : (ps : List Piece) → length (map content ps) ≡ length ps
    counted [] = refl
    counted (p ∷ ps) = ap suc (counted ps)

    whole : (ps : List Piece) → AllByRecursion IsPiece ps → flat_map piece_text ps ≡ flat_map line (map content ps)
    whole [] good = refl
    whole (p ∷ ps) good = λ i. text_joined p good.0 i ++ whole ps good.1 i

pub reading_begins : (bytes rest : List ℕ) (number : ℕ) (s : State) → length bytes < 2 ^ 32 → (r : Reading bytes rest number s) → BeginsJournal (flat_map piece_text r.lines)
reading_begins bytes rest number s small r = begins s r.lines r.good r.takes (omega (arith, lines_long r.lines r.good, ap length r.whole, length-append (flat_map piece_text r.lines) rest))

pub reading_bad : (bytes rest content after : List ℕ) (number : ℕ) (s : State) → length bytes < 2 ^ 32 → rest ≡ content ++ (10 ∷ after) → HasNoLf content →
    (read_line (slice_split is_space content) >>= λ piece. add s piece) ≡ None → Reading bytes rest number s → IsFirstBad number bytes
reading_bad bytes rest content after number s small e plain told r =
    record {
      before = flat_map piece_text r.lines;
      content = content;
      after = after;
      earlier = length r.lines;
      whole = r.whole ∙ ap (λ (xs : List ℕ). flat_map piece_text r.lines ++ xs) (e ∙ sym (append_assoc content (10 ∷ []) after));
      lines = contents_are r.lines r.good;
      plain = plain;
      numbered = r.count;
      good = reading_begins bytes rest number s small r;
      bad = refused s r.lines content r.good r.goes plain told;
    }

journal_tail : (bytes rest : List ℕ) (number : ℕ) (s : State) → HasNoLf rest → (r : Reading bytes rest number s) → (h : List Event) → IsJournal bytes h → (rest ≡ []) × (s.stage ≡ stages.Done)
journal_tail bytes rest number s plain r h j =
    let k = tail_same r.lines (journal_pieces h) rest r.good (journal_good h j.within) plain (journal_lines h ∙ sym j.text ∙ r.whole) in
    let d = journal_run h in
    let same : done h d.0 ≡ s = same_Some (done h d.0) s (sym d.1 ∙ ap (run start) k.0 ∙ r.goes) in
    (k.1, ap (λ (u : State). u.stage) (sym same))

pub reading_cut : (bytes rest : List ℕ) (number : ℕ) (s : State) → length bytes < 2 ^ 32 → HasNoLf rest → (rest ≡ [] → s.stage ≡ stages.Done → ⊥) → Reading bytes rest number s → IsCutOff number bytes
reading_cut bytes rest number s small plain open_still r =
    record {
      before = flat_map piece_text r.lines;
      tail = rest;
      earlier = length r.lines;
      whole = r.whole;
      lines = contents_are r.lines r.good;
      plain = plain;
      numbered = r.count;
      good = reading_begins bytes rest number s small r;
      bad = λ h j. let k = journal_tail bytes rest number s plain r h j in open_still k.0 k.1;
    }

pub reading_done : (bytes rest : List ℕ) (number : ℕ) (s : State) → length bytes < 2 ^ 32 → rest ≡ [] → s.stage ≡ stages.Done → Reading bytes rest number s → IsJournal bytes s.events
reading_done bytes rest number s small none is r =
    let same : journal_pieces s.events ≡ r.lines = ap (λ st. taken_at st s) (sym is) ∙ r.takes in
    let count : length s.events < 2 ^ 64 = omega (arith, journal_long s.events, ap length same, lines_long r.lines r.good, ap length r.whole, length-append (flat_map piece_text r.lines) rest) in
    record {
      within = journal_back s.events count (subst (λ (xs : List Piece). AllByRecursion IsPiece xs) (sym same) r.good);
      text = r.whole ∙ ap (λ (xs : List ℕ). flat_map piece_text r.lines ++ xs) none ∙ append-nil (flat_map piece_text r.lines) ∙ ap (flat_map piece_text) (sym same) ∙ journal_lines s.events;
    }
