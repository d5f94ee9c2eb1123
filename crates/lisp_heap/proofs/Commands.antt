-- Which commands a valid program has at a thread's place.
use Rattle.std.proofs.Common.{◌≡◌, ℕ, Some}
use Rattle.heap_terms.specs.declared.commands.Command.{Command}
use Rattle.heap_terms.specs.declared.commands.Command.TheVariants as commands
use Rattle.heap_terms.specs.declared.pages.Next.TheVariants as nexts
use Rattle.heap_terms.specs.declared.programs.Program.{Program}
use Rattle.heap_terms.specs.Heap.{NamedHeap}
use Rattle.heap_terms.specs.Histories.{command_at, next}
use Rattle.heap_terms.specs.Regions.{wish_of, Nothing}
use Rattle.heap_terms.specs.Valid.{IsValid}
use Rattle.heap_laws.proofs.NextEvents.{next_parts, next_with_command, simple_for}

-- a command that allocates nothing wishes for nothing
pub simple_wish : (p : Program) (a : NamedHeap) (t : ℕ) (c : Command) → command_at p a t ≡ Some c → next p a t ≡ nexts.Simple → wish_of c ≡ Nothing
simple_wish p a t c at e =
    let parts = next_parts p a t nexts.Simple e (λ d. cc) (λ last d. cc) in
    simple_for a t (wish_of c) (next_with_command a t (command_at p a t) c nexts.Simple at parts.1)

-- the commands that allocate nothing
abbrev pub IsSimple : Command → Type 0
IsSimple (commands.Fix d n) = Unit {0}
IsSimple (commands.MakeNil d) = Unit {0}
IsSimple (commands.Move d c) = Unit {0}
IsSimple (commands.Get d c i) = Unit {0}
IsSimple (commands.Put c i b) = Unit {0}
IsSimple (commands.RawGet r c i) = Unit {0}
IsSimple (commands.RawPut c i r) = Unit {0}
IsSimple (commands.Same x y) = Unit {0}
IsSimple (commands.Show c) = Unit {0}
IsSimple (commands.Addr r c) = Unit {0}
IsSimple (commands.SetRaw r w) = Unit {0}
IsSimple (commands.AddRaw r k) = Unit {0}
IsSimple (commands.Pin c) = Unit {0}
IsSimple commands.Unpin = Unit {0}
IsSimple (commands.WeakVal d c) = Unit {0}
IsSimple (commands.TablePut c k v) = Unit {0}
IsSimple (commands.TableGet d c k) = Unit {0}
IsSimple (commands.TableRem c k) = Unit {0}
IsSimple (commands.TableCount c) = Unit {0}
IsSimple (commands.Collect g) = Unit {0}
IsSimple commands.Inhibit = Unit {0}
IsSimple commands.Allow = Unit {0}
IsSimple (commands.ShowPage p) = Unit {0}
IsSimple (commands.Stat g) = Unit {0}
IsSimple (commands.Finalize c id) = Unit {0}
IsSimple (commands.Cancel c) = Unit {0}
IsSimple commands.RunFinalizers = Unit {0}
IsSimple _ = ⊥

simple : (c : Command) → wish_of c ≡ Nothing → IsSimple c
simple (commands.Fix d n) wish = tt
simple (commands.MakeNil d) wish = tt
simple (commands.Move d c) wish = tt
simple (commands.NewCons d a b) wish = cc
simple (commands.NewVector d n) wish = cc
simple (commands.NewInstance d n) wish = cc
simple (commands.NewClosure d n) wish = cc
simple (commands.NewWords d n w) wish = cc
simple (commands.NewWeak d c) wish = cc
simple (commands.NewTable d w b) wish = cc
simple (commands.Get d c i) wish = tt
simple (commands.Put c i b) wish = tt
simple (commands.RawGet r c i) wish = tt
simple (commands.RawPut c i r) wish = tt
simple (commands.Same x y) wish = tt
simple (commands.Show c) wish = tt
simple (commands.Addr r c) wish = tt
simple (commands.SetRaw r w) wish = tt
simple (commands.AddRaw r k) wish = tt
simple (commands.Pin c) wish = tt
simple commands.Unpin wish = tt
simple (commands.WeakVal d c) wish = tt
simple (commands.TablePut c k v) wish = tt
simple (commands.TableGet d c k) wish = tt
simple (commands.TableRem c k) wish = tt
simple (commands.TableCount c) wish = tt
simple (commands.Collect g) wish = tt
simple commands.Inhibit wish = tt
simple commands.Allow wish = tt
simple (commands.ShowPage p) wish = tt
simple (commands.Stat g) wish = tt
simple (commands.Finalize c id) wish = tt
simple (commands.Cancel c) wish = tt
simple commands.RunFinalizers wish = tt

-- what a thread does that allocates nothing is one of these
pub is_simple : (p : Program) (a : NamedHeap) (t : ℕ) (c : Command) → IsValid p → command_at p a t ≡ Some c → next p a t ≡ nexts.Simple → IsSimple c
is_simple p a t c valid at e = simple c (simple_wish p a t c at e)
