-- Lines are cut at their ends in one way, and the lines of events tell them.
use Rattle.std.proofs.Common.{◌≡◌, ℕ, ◌<◌, true, List, [], ◌∷◌, ◌++◌, length, map, Option, Some, None, refl, ap, sym, ◌∙◌, arith, append_assoc, append-nil, length-append}
use Rattle.std.specs.List.{AllByRecursion, flat_map, list_all, slice_split}
use Rattle.std.proofs.lemmas.Bool.{leb-true, and_parts}
use Rattle.std.proofs.lemmas.Grind.{flat_map-append}
use Rattle.std.proofs.lemmas.Option.{same_Some}
use Rattle.heap_terms.specs.declared.events.Event.{Event}
use Rattle.heap_terms.specs.declared.events.Event.TheVariants as events
use Rattle.heap_terms.specs.declared.events.PassRecord.{PassRecord}
use Rattle.heap_terms.specs.Text.{event_text, journal_text, pass_text}
use Rattle.journal_text.specs.declared.parsing.pieces.Piece.{Piece}
use Rattle.journal_text.specs.declared.parsing.pieces.Piece.TheVariants as pieces
use Rattle.journal_text.specs.Builder.{State, done, run, start}
use Rattle.journal_text.specs.Cursors.{is_space}
use Rattle.journal_text.specs.Journals.{HasNoLf, TextsAreDistinct}
use Rattle.journal_text.specs.Lines.{piece_text}
use Rattle.journal_text.specs.PieceReading.{read_line}
use Rattle.journal_text.specs.Ranges.{AreEvents, IsEvent, IsMove, IsPin, IsCull, IsName, IsNumber32, IsPageNumber, IsPass}
use Rattle.journal_text.proofs.Joined.{Solid, inside, joined, joined_inside, split_joined}
use Rattle.journal_text.proofs.LineTexts.{text_joined}
use Rattle.journal_text.proofs.Machine.{event_pieces, journal_pieces, journal_run, pass_pieces}
use Rattle.journal_text.proofs.Pieces.{IsPiece, piece_fields}
use Rattle.journal_text.proofs.PiecesAgain.{line_again}
use Rattle.journal_text.proofs.Solids.{piece_solid}

-- ---- the ends of lines

pub cut_lf : (a b r s : List ℕ) → HasNoLf a → HasNoLf b → a ++ (10 ∷ r) ≡ b ++ (10 ∷ s) → (a ≡ b) × (r ≡ s)
cut_lf [] [] r s x y e = (refl, cc)
cut_lf [] (c ∷ b) r s x y e = absurd (y.0 (let h : 10 ≡ c = cc in sym h))
cut_lf (c ∷ a) [] r s x y e = absurd (x.0 (let h : c ≡ 10 = cc in h))
cut_lf (c ∷ a) (d ∷ b) r s x y e =
    let h : c ≡ d = cc in
    let t : a ++ (10 ∷ r) ≡ b ++ (10 ∷ s) = cc in
    let k = cut_lf a b r s x.1 y.1 t in
    ((λ i. h i ∷ k.0 i), k.1)

no_lf : (xs : List ℕ) → list_all inside xs ≡ true → HasNoLf xs
no_lf [] all = tt
no_lf (b ∷ xs) all =
    let both = and_parts (inside b) (list_all inside xs) all in
    let low = leb-true 32 b both.0 in
    ((λ e. omega arith), no_lf xs both.1)

-- what stands in a line before its LF
abbrev pub content : Piece → List ℕ
content p = joined (piece_fields p)

pub content_no_lf : (p : Piece) → IsPiece p → HasNoLf (content p)
content_no_lf p ok = no_lf (content p) (joined_inside (piece_fields p) (piece_solid p ok))

pub text_content : (p : Piece) (rest : List ℕ) → IsPiece p → piece_text p ++ rest ≡ content p ++ (10 ∷ rest)
text_content p rest ok = ap (λ (xs : List ℕ). xs ++ rest) (text_joined p ok) ∙ append_assoc (content p) (10 ∷ []) rest

some_field : (p : Piece) → IsPiece p → 0 < length (piece_fields p)
some_field (pieces.Event (events.Did t c a)) ok = omega arith
some_field (pieces.Event (events.Opened t ty f k)) ok = omega arith
some_field (pieces.Event (events.Collected t last passes)) ok = absurd ok
some_field (pieces.Event (events.Ended t)) ok = omega arith
some_field (pieces.Collect t last) ok = omega arith
some_field (pieces.Pass g target) ok = omega arith
some_field (pieces.Move m) ok = at m.new
  where
    at : (new : Option ℕ) → 0 < length (piece_fields (pieces.Move (record { name = m.name; old = m.old; new = new })))
    at (Some new) = omega arith
    at None = omega arith
some_field (pieces.Pin q) ok = omega arith
some_field (pieces.Cull k) ok = omega arith
some_field (pieces.Break name) ok = omega arith
some_field (pieces.Queue id) ok = omega arith
some_field (pieces.Free page) ok = omega arith
some_field (pieces.Swept dead kept) ok = omega arith
some_field (pieces.Done n) ok = omega arith

fields_back : (fields : List (List ℕ)) → 0 < length fields → AllByRecursion Solid fields → slice_split is_space (joined fields) ≡ fields
fields_back [] some good = absurd (omega arith)
fields_back (f ∷ fields) some good = split_joined f fields good

-- the reader of lines reads this line
pub content_read : (p : Piece) → IsPiece p → read_line (slice_split is_space (content p)) ≡ Some p
content_read p ok = ap read_line (fields_back (piece_fields p) (some_field p ok) (piece_solid p ok)) ∙ line_again p ok

pub pieces_same : (ps qs : List Piece) → AllByRecursion IsPiece ps → AllByRecursion IsPiece qs → flat_map piece_text ps ≡ flat_map piece_text qs → ps ≡ qs
pieces_same [] [] x y e = refl
pieces_same [] (q ∷ qs) x y e =
    let k : [] ≡ content q ++ (10 ∷ flat_map piece_text qs) = e ∙ text_content q (flat_map piece_text qs) y.0 in
    absurd (omega (arith, ap length k, length-append (content q) (10 ∷ flat_map piece_text qs)))
pieces_same (p ∷ ps) [] x y e =
    let k : [] ≡ content p ++ (10 ∷ flat_map piece_text ps) = sym e ∙ text_content p (flat_map piece_text ps) x.0 in
    absurd (omega (arith, ap length k, length-append (content p) (10 ∷ flat_map piece_text ps)))
pieces_same (p ∷ ps) (q ∷ qs) x y e =
    let k = cut_lf (content p) (content q) (flat_map piece_text ps) (flat_map piece_text qs) (content_no_lf p x.0) (content_no_lf q y.0)
    (sym (text_content p (flat_map piece_text ps) x.0) ∙ e ∙ text_content q (flat_map piece_text qs) y.0) in
    let same : p ≡ q = same_Some p q (sym (content_read p x.0) ∙ ap (λ (xs : List ℕ). read_line (slice_split is_space xs)) k.0 ∙ content_read q y.0) in
    let more = pieces_same ps qs x.1 y.1 k.1 in
    (λ i. same i ∷ more i)

-- ---- the lines of a journal

mapped : {X : Type 0} (make : X → Piece) (xs : List X) → flat_map piece_text (map make xs) ≡ flat_map (λ x. piece_text (make x)) xs
mapped make [] = refl
mapped make (x ∷ xs) = ap (λ (ys : List ℕ). piece_text (make x) ++ ys) (mapped make xs)

eight : (a b c d f g h k : List ℕ) → ((((((a ++ b) ++ c) ++ d) ++ f) ++ g) ++ h) ++ k ≡ a ++ (b ++ (c ++ (d ++ (f ++ (g ++ (h ++ (k ++ [])))))))
eight a b c d f g h k = simp (append_assoc, append-nil)

step : {X : Type 0} (make : X → Piece) (xs : List X) (rest : List Piece) (more : List ℕ) → flat_map piece_text rest ≡ more → flat_map piece_text (map make xs ++ rest) ≡ flat_map (λ x. piece_text (make x)) xs ++ more
step make xs rest more e = flat_map-append piece_text (map make xs) rest ∙ (λ i. mapped make xs i ++ e i)

pass_lines : (r : PassRecord) → flat_map piece_text (pass_pieces r) ≡ pass_text r
pass_lines r =
    ap (λ (xs : List ℕ). piece_text (pieces.Pass r.generation r.target) ++ xs)
    (step pieces.Move r.moves _ _ (step pieces.Pin r.pins _ _ (step pieces.Cull r.culls _ _ (step pieces.Break r.breaks _ _ (step pieces.Queue r.queued _ _ (step pieces.Free r.freed _ _ refl))))))
    ∙ sym (eight (piece_text (pieces.Pass r.generation r.target)) (flat_map (λ m. piece_text (pieces.Move m)) r.moves) (flat_map (λ q. piece_text (pieces.Pin q)) r.pins) (flat_map (λ k. piece_text (pieces.Cull k)) r.culls)
    (flat_map (λ name. piece_text (pieces.Break name)) r.breaks) (flat_map (λ id. piece_text (pieces.Queue id)) r.queued) (flat_map (λ page. piece_text (pieces.Free page)) r.freed) (piece_text (pieces.Swept r.dead r.kept)))

passes_lines : (rs : List PassRecord) → flat_map piece_text (flat_map pass_pieces rs) ≡ flat_map pass_text rs
passes_lines [] = refl
passes_lines (r ∷ rs) = flat_map-append piece_text (pass_pieces r) (flat_map pass_pieces rs) ∙ (λ i. pass_lines r i ++ passes_lines rs i)

event_lines : (e : Event) → flat_map piece_text (event_pieces e) ≡ event_text e
unfolding event_text
event_lines (events.Did t c a) = append-nil _
event_lines (events.Opened t ty f k) = append-nil _
event_lines (events.Collected t last passes) = ap (λ (xs : List ℕ). piece_text (pieces.Collect t last) ++ xs) (passes_lines passes)
event_lines (events.Ended t) = append-nil _

events_lines : (h : List Event) → flat_map piece_text (flat_map event_pieces h) ≡ flat_map event_text h
events_lines [] = refl
events_lines (e ∷ h) = flat_map-append piece_text (event_pieces e) (flat_map event_pieces h) ∙ (λ i. event_lines e i ++ events_lines h i)

pub journal_lines : (h : List Event) → flat_map piece_text (journal_pieces h) ≡ journal_text h
journal_lines h = flat_map-append piece_text (flat_map event_pieces h) (pieces.Done (length h) ∷ []) ∙ (λ i. events_lines h i ++ append-nil (piece_text (pieces.Done (length h))) i)

-- ---- they are in their ranges

all_both : (ps qs : List Piece) → AllByRecursion IsPiece ps → AllByRecursion IsPiece qs → AllByRecursion IsPiece (ps ++ qs)
all_both [] qs x y = y
all_both (p ∷ ps) qs x y = (x.0, all_both ps qs x.1 y)

all_mapped : {X : Type 0} (make : X → Piece) (ok : X → Type 0) → ((x : X) → ok x → IsPiece (make x)) → (xs : List X) → AllByRecursion ok xs → AllByRecursion IsPiece (map make xs)
all_mapped make ok good [] all = tt
all_mapped make ok good (x ∷ xs) all = (good x all.0, all_mapped make ok good xs all.1)

pass_good : (r : PassRecord) → IsPass r → AllByRecursion IsPiece (pass_pieces r)
pass_good r ok = (
  (ok.generation, ok.target),
  all_both _ _ (all_mapped pieces.Move IsMove (λ x h. h) r.moves ok.moves) (all_both _ _ (all_mapped pieces.Pin IsPin (λ x h. h) r.pins ok.pins)
      (all_both _ _ (all_mapped pieces.Cull IsCull (λ x h. h) r.culls ok.culls) (all_both _ _ (all_mapped pieces.Break IsName (λ x h. h) r.breaks ok.breaks)
      (all_both _ _ (all_mapped pieces.Queue IsNumber32 (λ x h. h) r.queued ok.queued) (all_both _ _ (all_mapped pieces.Free IsPageNumber (λ x h. h) r.freed ok.freed) ((ok.dead, ok.kept), tt)))))),
)

passes_good : (rs : List PassRecord) → AllByRecursion IsPass rs → AllByRecursion IsPiece (flat_map pass_pieces rs)
passes_good [] all = tt
passes_good (r ∷ rs) all = all_both (pass_pieces r) (flat_map pass_pieces rs) (pass_good r all.0) (passes_good rs all.1)

event_good : (e : Event) → IsEvent e → AllByRecursion IsPiece (event_pieces e)
event_good (events.Did t c a) ok = (ok, tt)
event_good (events.Opened t ty f k) ok = (ok, tt)
event_good (events.Collected t last passes) ok = ((ok.0, ok.1), passes_good passes ok.2)
event_good (events.Ended t) ok = (ok, tt)

events_good : (h : List Event) → AllByRecursion IsEvent h → AllByRecursion IsPiece (flat_map event_pieces h)
events_good [] all = tt
events_good (e ∷ h) all = all_both (event_pieces e) (flat_map event_pieces h) (event_good e all.0) (events_good h all.1)

pub journal_good : (h : List Event) → AreEvents h → AllByRecursion IsPiece (journal_pieces h)
journal_good h ok = all_both (flat_map event_pieces h) (pieces.Done (length h) ∷ []) (events_good h ok.events) (ok.number, tt)

-- ---- the law

pub texts_distinct : TextsAreDistinct
texts_distinct g h x y e =
    let same : journal_pieces g ≡ journal_pieces h = pieces_same (journal_pieces g) (journal_pieces h) (journal_good g x) (journal_good h y) (journal_lines g ∙ e ∙ sym (journal_lines h)) in
    let a = journal_run g in
    let b = journal_run h in
    let ends : done g a.0 ≡ done h b.0 = same_Some (done g a.0) (done h b.0) (sym a.1 ∙ ap (run start) same ∙ b.1) in
    ap (λ (s : State). s.events) ends
