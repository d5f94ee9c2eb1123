-- What an event leaves of its thread's script.
use Rattle.std.proofs.Common.{◌≡◌, ℕ, ◌+◌, ◌∷◌, Some, sym, ◌∙◌, ap, arith, drop}
use Rattle.std.proofs.lemmas.List.{drop_more}
use Rattle.std.proofs.lemmas.Option.{get_or_from_slice_get}
use Rattle.std.specs.List.{cons_option}
use Rattle.heap_terms.specs.declared.answers.Answer.{Answer}
use Rattle.heap_terms.specs.declared.commands.Command.{Command}
use Rattle.heap_terms.specs.declared.events.Event.{Event}
use Rattle.heap_terms.specs.declared.events.Event.TheVariants.{Did, Opened, Collected, Ended}
use Rattle.heap_terms.specs.declared.programs.Program.{Program}
use Rattle.heap_terms.specs.Heap.{NamedHeap, thread_at}
use Rattle.heap_terms.specs.Histories.{IsNext, after, script_of, command_at, thread_of}
use Rattle.heap_laws.specs.Order.{command_in}
use Rattle.heap_laws.specs.Limited.{IsLimited}
use Rattle.heap_terms.specs.WellFormed.{IsWellFormed}
use Rattle.heap_laws.proofs.Events.OwnThread.{moves}
use Rattle.heap_laws.proofs.Programs.ScriptCommands.{script_place}

pub did_command : (p : Program) (a : NamedHeap) (t : ℕ) (c : Command) (answer : Answer) → IsNext p a (Did t c answer) → command_at p a t ≡ Some c
unfolding IsNext
did_command p a t c answer h = h.0

-- what is left of its thread's script before an event: the command that it does, and what is left after it
pub script_step : (p : Program) (a : NamedHeap) (e : Event) → IsLimited p → IsWellFormed p a → IsNext p a e →
    drop (thread_at a (thread_of e)).done (script_of p (thread_of e))
    ≡ cons_option (command_in e) (drop (thread_at (after p a e) (thread_of e)).done (script_of p (thread_of e)))
script_step p a (Did t c answer) limits w next =
    let m = moves p a (Did t c answer) limits w next in
    let at = did_command p a t c answer next in
    let l = script_place p t (thread_at a t).done c at in
    drop_more (script_of p t) (thread_at a t).done c l
    ∙ ap (λ (x : Command). x ∷ drop ((thread_at a t).done + 1) (script_of p t)) (get_or_from_slice_get (script_of p t) (thread_at a t).done c c at)
    ∙ ap (λ (i : ℕ). c ∷ drop i (script_of p t)) (sym m.done)
script_step p a (Opened t ty first k) limits w next =
    let m = moves p a (Opened t ty first k) limits w next in
    let same : (thread_at a t).done ≡ (thread_at (after p a (Opened t ty first k)) t).done = (let done = m.done in omega arith) in
    ap (λ (i : ℕ). drop i (script_of p t)) same
script_step p a (Collected t last passes) limits w next =
    let m = moves p a (Collected t last passes) limits w next in
    let same : (thread_at a t).done ≡ (thread_at (after p a (Collected t last passes)) t).done = (let done = m.done in omega arith) in
    ap (λ (i : ℕ). drop i (script_of p t)) same
script_step p a (Ended t) limits w next =
    let m = moves p a (Ended t) limits w next in
    let same : (thread_at a t).done ≡ (thread_at (after p a (Ended t)) t).done = (let done = m.done in omega arith) in
    ap (λ (i : ℕ). drop i (script_of p t)) same
