-- Going over a list of registrations, one after the other.
use Rattle.std.proofs.Common.{◌≡◌, ℕ, ◌+◌, ◌<◌, ◌≤◌, not, List, [], ◌∷◌, ◌++◌, length, map, filter, take, Bool, true, false, cond, inl, inr, refl, sym, ◌∙◌, ap, subst, arith, append_assoc, length-append}
use Rattle.std.specs.Prelude.{Option, Some, None}
use Rattle.std.proofs.lemmas.Bool.{cases_Bool}
use Rattle.std.proofs.lemmas.List.{append-nil, map-append, take_more_set, get_or-set_other, length-set}
use Rattle.std.proofs.lemmas.List.Elements.{filter_more}
use Rattle.heap_terms.specs.declared.cells.Value.TheVariants.{Ref}
use Rattle.heap_terms.specs.Heap.{NamedHeap}
use Rattle.copy_space.specs.declared.copier.Copier.{Copier}
use Rattle.copy_space.specs.declared.notes.PassNotes.{PassNotes}
use Rattle.copy_space.specs.Copying.{settled_word}
use Rattle.copy_space.specs.Notes.{SameButQueued}
use Rattle.copy_space.specs.Settled.{is_settled, word_now}
use Rattle.copy_space.specs.State.{CopyState}
use Rattle.finalizers.specs.declared.lists.Registration.{Registration}
use Rattle.finalizers.specs.Lists.{registration_at, no_registration}
use Rattle.finalizers.specs.Standing.{registrations, registration_of}
use Rattle.finalizers.specs.Sweeping.{AreWordsOf, IsSweptAt, HasSameParts, living, dead_ids, pair_at}

pub queued-on : (x y z : PassNotes) → SameButQueued x y → SameButQueued y z → SameButQueued x z
queued-on x y z h k = record {
  rest = record {
    generation = k.rest.generation ∙ h.rest.generation;
    target = k.rest.target ∙ h.rest.target;
    pins = k.rest.pins ∙ h.rest.pins;
    freed = k.rest.freed ∙ h.rest.freed;
    dead = k.rest.dead ∙ h.rest.dead;
    kept = k.rest.kept ∙ h.rest.kept;
  };
  moves = k.moves ∙ h.moves;
  culls = k.culls ∙ h.culls;
  breaks = k.breaks ∙ h.breaks;
}

pub queued-same : (x : PassNotes) → SameButQueued x x
queued-same x = record {
  rest = record { generation = refl; target = refl; pins = refl; freed = refl; dead = refl; kept = refl };
  moves = refl;
  culls = refl;
  breaks = refl;
}

pub parts-on : (x y z : Copier) → HasSameParts x y → HasSameParts y z → HasSameParts x z
parts-on x y z h k = record {
  same_space = k.same_space ∙ h.same_space;
  same_pages = k.same_pages ∙ h.same_pages;
  same_marks = k.same_marks ∙ h.same_marks;
  same_notes = k.same_notes ∙ h.same_notes;
}

pub parts-same : (x : Copier) → HasSameParts x x
parts-same x = record { same_space = refl; same_pages = refl; same_marks = refl; same_notes = refl }

-- After i of the registrations: those of settled names stand at the front, up to `kept`, with their words from now on; the
-- others are queued and noted; and from i on the list is as it was.
pub record Progress (a : NamedHeap) (s : CopyState) (list : List (ℕ × ℕ)) (i kept : ℕ) (old now : List Registration) (queue_old queue noted_old noted : List ℕ) : Type 0 where
  pub front : take kept now ≡ registrations (λ name. word_now a s (Ref name)) (living (is_settled a s) (take i list))
  pub rest : (k : ℕ) → i ≤ k → registration_at now k ≡ registration_at old k
  pub queue_is : queue ≡ queue_old ++ dead_ids (is_settled a s) (take i list)
  pub noted_is : noted ≡ noted_old ++ dead_ids (is_settled a s) (take i list)

-- how many were kept and how many queued
pub record Counts (i kept : ℕ) (old now : List Registration) (queue_old queue noted_old noted : List ℕ) : Type 0 where
  pub long : length now ≡ length old
  pub behind : kept ≤ i
  pub queue_long : length queue + kept ≡ length queue_old + i
  pub noted_long : length noted + kept ≡ length noted_old + i

pub progress-none : (a : NamedHeap) (s : CopyState) (list : List (ℕ × ℕ)) (old : List Registration) (queue noted : List ℕ) → Progress a s list 0 0 old old queue queue noted noted
progress-none a s list old queue noted = record {
  front = refl;
  rest = λ k h. refl;
  queue_is = sym (append-nil queue);
  noted_is = sym (append-nil noted);
}

-- one more name is settled
living-yes : (live : ℕ → Bool) (list : List (ℕ × ℕ)) (i : ℕ) → i < length list → live (pair_at list i).0 ≡ true → living live (take (i + 1) list) ≡ living live (take i list) ++ pair_at list i ∷ []
living-yes live list i h l = filter_more (λ (entry : ℕ × ℕ). live entry.0) list i (0, 0) h ∙ ap (λ (b : Bool). living live (take i list) ++ cond b (pair_at list i ∷ []) []) l

living-no : (live : ℕ → Bool) (list : List (ℕ × ℕ)) (i : ℕ) → i < length list → live (pair_at list i).0 ≡ false → living live (take (i + 1) list) ≡ living live (take i list)
living-no live list i h l =
    filter_more (λ (entry : ℕ × ℕ). live entry.0) list i (0, 0) h ∙ ap (λ (b : Bool). living live (take i list) ++ cond b (pair_at list i ∷ []) []) l ∙ append-nil (living live (take i list))

dead-yes : (live : ℕ → Bool) (list : List (ℕ × ℕ)) (i : ℕ) → i < length list → live (pair_at list i).0 ≡ true → dead_ids live (take (i + 1) list) ≡ dead_ids live (take i list)
dead-yes live list i h l =
    ap (map (λ (entry : ℕ × ℕ). entry.1)) (filter_more (λ (entry : ℕ × ℕ). not (live entry.0)) list i (0, 0) h
    ∙ ap (λ (b : Bool). filter (λ (entry : ℕ × ℕ). not (live entry.0)) (take i list) ++ cond (not b) (pair_at list i ∷ []) []) l
    ∙ append-nil (filter (λ (entry : ℕ × ℕ). not (live entry.0)) (take i list)))

dead-no : (live : ℕ → Bool) (list : List (ℕ × ℕ)) (i : ℕ) → i < length list → live (pair_at list i).0 ≡ false → dead_ids live (take (i + 1) list) ≡ dead_ids live (take i list) ++ (pair_at list i).1 ∷ []
dead-no live list i h l =
    ap (map (λ (entry : ℕ × ℕ). entry.1)) (filter_more (λ (entry : ℕ × ℕ). not (live entry.0)) list i (0, 0) h
    ∙ ap (λ (b : Bool). filter (λ (entry : ℕ × ℕ). not (live entry.0)) (take i list) ++ cond (not b) (pair_at list i ∷ []) []) l)
    ∙ map-append (λ (entry : ℕ × ℕ). entry.1) (filter (λ (entry : ℕ × ℕ). not (live entry.0)) (take i list)) (pair_at list i ∷ [])

-- what one registration more does
module _ (a : NamedHeap) (s : CopyState) (list : List (ℕ × ℕ)) (i kept : ℕ) (old now later : List Registration) (queue_old queue queue_later noted_old noted noted_later : List ℕ) (end : ℕ) where
  pub progress-next : AreWordsOf a s list old → i < length list → Counts i kept old now queue_old queue noted_old noted →
      Progress a s list i kept old now queue_old queue noted_old noted →
      IsSweptAt (settled_word a s (Ref (pair_at list i).0)) (registration_at now i).id kept now later queue queue_later noted noted_later end →
      Progress a s list (i + 1) end old later queue_old queue_later noted_old noted_later
  progress-next named inside counts p step = elim (cases_Bool (is_settled a s (pair_at list i).0)) [
    | inl live ↦ kept_on live (rw live at step)
    | inr dead ↦ queued_on dead (rw dead at step)
  ]
    where
      id_is : (registration_at now i).id ≡ (pair_at list i).1
      id_is = ap (λ (r : Registration). r.id) (p.rest i (omega arith)) ∙ named.ids i inside

      kept_on : is_settled a s (pair_at list i).0 ≡ true →
          IsSweptAt (Some (word_now a s (Ref (pair_at list i).0))) (registration_at now i).id kept now later queue queue_later noted noted_later end →
          Progress a s list (i + 1) end old later queue_old queue_later noted_old noted_later
      kept_on live (now_is, queue_same, noted_same, end_is) =
          let w = λ (name : ℕ). word_now a s (Ref name) in
          let r : Registration = record { object = word_now a s (Ref (pair_at list i).0); id = (registration_at now i).id } in
          let long = named.long in
          let short = counts.long in
          let behind = counts.behind in
          let more = living-yes (is_settled a s) list i inside live in
          let none = dead-yes (is_settled a s) list i inside live in
          let r_is : r ≡ registration_of w (pair_at list i) = ap (λ (id : ℕ). record { object = word_now a s (Ref (pair_at list i).0); id = id }) id_is in
          record {
            front = subst (λ (n : ℕ). take n later ≡ registrations w (living (is_settled a s) (take (i + 1) list))) (sym end_is)
                (ap (take (kept + 1)) now_is ∙ take_more_set now kept r (omega arith) ∙ ap (λ (xs : List Registration). xs ++ r ∷ []) p.front
                ∙ ap (λ (x : Registration). registrations w (living (is_settled a s) (take i list)) ++ x ∷ []) r_is
                ∙ sym (map-append (registration_of w) (living (is_settled a s) (take i list)) (pair_at list i ∷ []))
                ∙ sym (ap (registrations w) more));
            rest = λ k above. (ap (λ (xs : List Registration). registration_at xs k) now_is ∙ get_or-set_other now kept k r no_registration (omega arith) ∙ p.rest k (omega arith));
            queue_is = queue_same ∙ p.queue_is ∙ sym (ap (λ (xs : List ℕ). queue_old ++ xs) none);
            noted_is = noted_same ∙ p.noted_is ∙ sym (ap (λ (xs : List ℕ). noted_old ++ xs) none);
          }

      queued_on : is_settled a s (pair_at list i).0 ≡ false → IsSweptAt None (registration_at now i).id kept now later queue queue_later noted noted_later end →
          Progress a s list (i + 1) end old later queue_old queue_later noted_old noted_later
      queued_on dead (now_is, queue_more, noted_more, end_is) =
          let w = λ (name : ℕ). word_now a s (Ref name) in
          let same = living-no (is_settled a s) list i inside dead in
          let more = dead-no (is_settled a s) list i inside dead in
          record {
            front = subst (λ (n : ℕ). take n later ≡ registrations w (living (is_settled a s) (take (i + 1) list))) (sym end_is)
                (ap (take kept) now_is ∙ p.front ∙ sym (ap (registrations w) same));
            rest = λ k above. (ap (λ (xs : List Registration). registration_at xs k) now_is ∙ p.rest k (omega arith));
            queue_is = queue_more ∙ added queue_old queue p.queue_is more;
            noted_is = noted_more ∙ added noted_old noted p.noted_is more;
          }
        where
          added : (before so_far : List ℕ) → so_far ≡ before ++ dead_ids (is_settled a s) (take i list) →
              dead_ids (is_settled a s) (take (i + 1) list) ≡ dead_ids (is_settled a s) (take i list) ++ (pair_at list i).1 ∷ [] →
              so_far ++ (registration_at now i).id ∷ [] ≡ before ++ dead_ids (is_settled a s) (take (i + 1) list)
          added before so_far is more =
              ap (λ (id : ℕ). so_far ++ id ∷ []) id_is ∙ ap (λ (xs : List ℕ). xs ++ (pair_at list i).1 ∷ []) is
              ∙ append_assoc before (dead_ids (is_settled a s) (take i list)) ((pair_at list i).1 ∷ []) ∙ sym (ap (λ (xs : List ℕ). before ++ xs) more)

  pub counts-next : (v : Option ℕ) (id : ℕ) → i < length old → Counts i kept old now queue_old queue noted_old noted → IsSweptAt v id kept now later queue queue_later noted noted_later end →
      Counts (i + 1) end old later queue_old queue_later noted_old noted_later
  counts-next (Some word) id inside c (now_is, queue_same, noted_same, end_is) =
      let long = ap length now_is ∙ length-set now kept (record { object = word; id = id }) in
      let was = c.long in
      let behind = c.behind in
      let in_queue = c.queue_long in
      let in_notes = c.noted_long in
      let queue_long = ap length queue_same in
      let noted_long = ap length noted_same in
      record { long = omega arith; behind = omega arith; queue_long = omega arith; noted_long = omega arith }
  counts-next None id inside c (now_is, queue_more, noted_more, end_is) =
      let long = ap length now_is in
      let was = c.long in
      let behind = c.behind in
      let in_queue = c.queue_long in
      let in_notes = c.noted_long in
      let queue_long = ap length queue_more ∙ length-append queue (id ∷ []) in
      let noted_long = ap length noted_more ∙ length-append noted (id ∷ []) in
      record { long = omega arith; behind = omega arith; queue_long = omega arith; noted_long = omega arith }
