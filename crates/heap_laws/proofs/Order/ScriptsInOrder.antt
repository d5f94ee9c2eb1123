-- In a complete history each thread does its commands once and in order, and then ends.
use Rattle.std.proofs.Common.{◌≡◌, ◌≢◌, ℕ, ◌<◌, ◌≤◌, List, [], ◌∷◌, ◌++◌, length, Option, Some, None, true, false, inl, inr, refl, sym, ◌∙◌, subst, ap, drop}
use Rattle.std.proofs.lemmas.Bool.{cases_eq, cases_Bool, false≢true, eq-eqb, ne_eqb}
use Rattle.std.proofs.lemmas.List.{drop_all, append-nil}
use Rattle.std.specs.List.{filter, filter_map, cons_option}
use Rattle.heap_terms.specs.declared.commands.Command.{Command}
use Rattle.heap_terms.specs.declared.events.Event.{Event}
use Rattle.heap_terms.specs.declared.events.Event.TheVariants.{Did, Opened, Collected, Ended}
use Rattle.heap_terms.specs.declared.programs.Program.{Program}
use Rattle.heap_terms.specs.Complete.{IsComplete}
use Rattle.heap_terms.specs.Heap.{NamedHeap, Thread, start, thread_at}
use Rattle.heap_terms.specs.Histories.{after, LawfulFrom, replay_from, replay, script_of, thread_of}
use Rattle.heap_laws.specs.Order.{events_of, command_in, commands_of, is_end, EndsOnce}
use Rattle.heap_laws.specs.Limited.{IsLimited}
use Rattle.heap_terms.specs.WellFormed.{IsWellFormed}
use Rattle.heap_laws.proofs.Ranges.ObjectCount.{start_done, start_thread_is, replay-counted}
use Rattle.heap_laws.proofs.Events.OwnThread.{moves}
use Rattle.heap_laws.proofs.Events.ScriptSteps.{script_step}
use Rattle.heap_laws.proofs.WellFormed.Replayed.{event-kept}
use Rattle.heap_laws.proofs.WellFormed.Threads.{start-well_formed}

-- an event of thread t, and one of another
pub events_own : (t : ℕ) (e : Event) (es : List Event) → thread_of e ≡ t → events_of t (e ∷ es) ≡ e ∷ events_of t es
events_own t e es same = rw (eq-eqb (thread_of e) t same) refl

pub events_other : (t : ℕ) (e : Event) (es : List Event) → thread_of e ≢ t → events_of t (e ∷ es) ≡ events_of t es
events_other t e es other = rw (ne_eqb (thread_of e) t other) refl

pub cons_option-append : {X : Type 0} (o : Option X) (xs ys : List X) → cons_option o (xs ++ ys) ≡ cons_option o xs ++ ys
cons_option-append None xs ys = refl
cons_option-append (Some x) xs ys = refl

-- what is left of a script is what is done from there on and what is left then
pub script_rest : (p : Program) (a : NamedHeap) (h : List Event) (t : ℕ) → IsLimited p → IsWellFormed p a → LawfulFrom p a h →
    drop (thread_at a t).done (script_of p t) ≡ commands_of t h ++ drop (thread_at (replay_from p a h) t).done (script_of p t)
script_rest p a [] t limits w lawful = refl
script_rest p a (e ∷ es) t limits w lawful =
    let b = after p a e in
    let m = moves p a e limits w lawful.0 in
    let end = drop (thread_at (replay_from p b es) t).done (script_of p t) in
    let rest = script_rest p b es t limits (event-kept p limits a e lawful.0 w) lawful.1 in
    elim (cases_eq (thread_of e) t) [
      | inr other ↦ (
          let done : (thread_at b t).done ≡ (thread_at a t).done = (m.others t (λ same. other (sym same))).done in
          ap (λ (i : ℕ). drop i (script_of p t)) (sym done) ∙ rest
          ∙ ap (λ (xs : List Event). filter_map command_in xs ++ end) (sym (events_other t e es other)))
      | inl same ↦ (
          let step : drop (thread_at a t).done (script_of p t) ≡ cons_option (command_in e) (drop (thread_at b t).done (script_of p t)) =
          subst (λ (x : ℕ). drop (thread_at a x).done (script_of p x) ≡ cons_option (command_in e) (drop (thread_at b x).done (script_of p x))) same
          (script_step p a e limits w lawful.0) in
          step ∙ ap (λ (xs : List Command). cons_option (command_in e) xs) rest
          ∙ cons_option-append (command_in e) (commands_of t es) end
          ∙ ap (λ (xs : List Event). filter_map command_in xs ++ end) (sym (events_own t e es same)))
    ]

-- a thread of a complete history did its script
pub once_in_order : (p : Program) (h : List Event) (t : ℕ) → IsLimited p → IsComplete p h → t < length p.threads → commands_of t h ≡ script_of p t
once_in_order p h t limits complete l =
    let b = replay p h in
    let rest = script_rest p (start p) h t limits (start-well_formed p) complete.lawful in
    let over : length (script_of p t) ≤ (thread_at b t).done = (replay-counted p h limits complete.lawful).over t l (complete.ended t) in
    let nothing : drop (thread_at b t).done (script_of p t) ≡ [] = drop_all (thread_at b t).done (script_of p t) over in
    sym (ap (λ (i : ℕ). drop i (script_of p t)) (sym (start_done p t)) ∙ rest ∙ ap (λ (xs : List Command). commands_of t h ++ xs) nothing ∙ append-nil (commands_of t h))

-- a thread that has ended has no more events
pub silent : (p : Program) (a : NamedHeap) (h : List Event) (t : ℕ) → IsLimited p → IsWellFormed p a → LawfulFrom p a h → (thread_at a t).ended ≡ true → events_of t h ≡ []
silent p a [] t limits w lawful ended = refl
silent p a (e ∷ es) t limits w lawful ended =
    let m = moves p a e limits w lawful.0 in
    elim (cases_eq (thread_of e) t) [
      | inr other ↦ events_other t e es other
          ∙ silent p (after p a e) es t limits (event-kept p limits a e lawful.0 w) lawful.1 ((m.others t (λ same. other (sym same))).ended ∙ ended)
      | inl same ↦ absurd (false≢true (sym (subst (λ (x : ℕ). (thread_at a x).ended ≡ false) same m.alive) ∙ ended))
    ]

pub no_end : (e : Event) (es : List Event) → is_end e ≡ false → filter is_end es ≡ [] → filter is_end (e ∷ es) ≡ []
no_end e es more rest = rw more rest

-- a thread that has not ended and then has, ended once and then did no more
pub ends_once : (p : Program) (a : NamedHeap) (h : List Event) (t : ℕ) → IsLimited p → IsWellFormed p a → LawfulFrom p a h → (thread_at a t).ended ≡ false →
    (thread_at (replay_from p a h) t).ended ≡ true → EndsOnce t (events_of t h)
ends_once p a [] t limits w lawful alive ended = absurd (false≢true (sym alive ∙ ended))
ends_once p a (e ∷ es) t limits w lawful alive ended =
    let b = after p a e in
    let m = moves p a e limits w lawful.0 in
    let wb = event-kept p limits a e lawful.0 w in
    elim (cases_eq (thread_of e) t) [
      | inr other ↦ (
          let rest = ends_once p b es t limits wb lawful.1 ((m.others t (λ same. other (sym same))).ended ∙ alive) ended in
          (rest.0, events_other t e es other ∙ rest.1, rest.2))
      | inl same ↦ (
          let now : (thread_at b t).ended ≡ is_end e = subst (λ (x : ℕ). (thread_at b x).ended ≡ is_end e) same m.ended in
          elim (cases_Bool (is_end e)) [
            | inl last ↦ (
                let none = silent p b es t limits wb lawful.1 (now ∙ last) in
                ([], events_own t e es same ∙ ap (λ (xs : List Event). e ∷ xs) none ∙ ap (λ (x : Event). x ∷ []) (end_is e t same last), refl))
            | inr more ↦ (
                let rest = ends_once p b es t limits wb lawful.1 (now ∙ more) ended in
                (e ∷ rest.0, events_own t e es same ∙ ap (λ (xs : List Event). e ∷ xs) rest.1, no_end e rest.0 more rest.2))
          ])
    ]
  where
    end_is : (e : Event) (t : ℕ) → thread_of e ≡ t → is_end e ≡ true → e ≡ Ended t
    end_is (Did u c answer) t same last = absurd (false≢true last)
    end_is (Opened u ty first k) t same last = absurd (false≢true last)
    end_is (Collected u last' passes) t same last = absurd (false≢true last)
    end_is (Ended u) t same last = ap (λ (x : ℕ). Ended x) same

-- a thread of a complete history ends once, and then does no more
pub last_is_end : (p : Program) (h : List Event) (t : ℕ) → IsLimited p → IsComplete p h → t < length p.threads → EndsOnce t (events_of t h)
last_is_end p h t limits complete l =
    ends_once p (start p) h t limits (start-well_formed p) complete.lawful (ap (λ (th : Thread). th.ended) (start_thread_is p t l)) (complete.ended t)
