-- A thread that opens a region or builds an object has a command.
use Rattle.std.proofs.Common.{◌≡◌, ◌≢◌, ℕ, sym, refl, Option, Some, None}
use Rattle.std.specs.Prelude.{IsSome}
use Rattle.heap_terms.specs.declared.commands.Command.{Command}
use Rattle.heap_terms.specs.declared.kinds.Kind.{Kind}
use Rattle.heap_terms.specs.declared.pages.Next.{Next}
use Rattle.heap_terms.specs.declared.pages.Next.TheVariants as nexts
use Rattle.heap_terms.specs.declared.programs.Program.{Program}
use Rattle.heap_terms.specs.Heap.{NamedHeap}
use Rattle.heap_terms.specs.Histories.{command_at, next, next_command}
use Rattle.heap_laws.proofs.NextEvents.{next_parts}

-- a thread that allocates has a command
some_command : (a : NamedHeap) (t : ℕ) (o : Option Command) (n : Next) → next_command a t o ≡ n → n ≢ nexts.End → IsSome o
some_command a t None n e other = absurd (other (sym e))
some_command a t (Some c) n e other = refl

pub open_command : (p : Program) (a : NamedHeap) (t : ℕ) → next p a t ≡ nexts.Open → IsSome (command_at p a t)
open_command p a t e =
    let parts = next_parts p a t nexts.Open e (λ d. cc) (λ last d. cc) in
    some_command a t (command_at p a t) nexts.Open parts.1 (λ d. cc)

pub build_command : (p : Program) (a : NamedHeap) (t : ℕ) (kind : Kind) (n seed : ℕ) → next p a t ≡ nexts.Build kind n seed → IsSome (command_at p a t)
build_command p a t kind n seed e =
    let parts = next_parts p a t (nexts.Build kind n seed) e (λ d. cc) (λ last d. cc) in
    some_command a t (command_at p a t) (nexts.Build kind n seed) parts.1 (λ d. cc)
