-- What the command of a thread that opens a region or builds an object wants made.
use Rattle.std.proofs.Common.{◌≡◌, ℕ, ◌+◌, ◌*◌, ◌≤◌, refl, subst, arith, Some, true}
use Rattle.heap_terms.specs.declared.commands.Command.{Command}
use Rattle.heap_terms.specs.declared.commands.Command.TheVariants as commands
use Rattle.heap_terms.specs.declared.kinds.Kind.{Kind}
use Rattle.heap_terms.specs.declared.kinds.Kind.TheVariants as kinds
use Rattle.heap_terms.specs.declared.kinds.Weakness.{Weakness}
use Rattle.heap_terms.specs.declared.kinds.Weakness.TheVariants as weaknesses
use Rattle.heap_terms.specs.declared.pages.Next.TheVariants as nexts
use Rattle.heap_terms.specs.declared.programs.Program.{Program}
use Rattle.heap_terms.specs.Heap.{NamedHeap}
use Rattle.heap_terms.specs.Histories.{command_at, next}
use Rattle.heap_terms.specs.Layout.{size_of, weakness_number}
use Rattle.heap_terms.specs.Regions.{wish_of, Make, has_room}
use Rattle.heap_terms.specs.Valid.{IsInRange}
use Rattle.heap_laws.proofs.NextEvents.{next_parts, next_with_command, builds_for, opens_for}
use Rattle.lisp_heap.specs.ParcelView.{IsMaking}

-- a thread that opens a region wants an object
pub opens_wish : (p : Program) (a : NamedHeap) (t : ℕ) (c : Command) → command_at p a t ≡ Some c → next p a t ≡ nexts.Open →
    (kind : Kind) × (n : ℕ) × (seed : ℕ) × (wish_of c ≡ Make kind n seed)
opens_wish p a t c at e =
    let parts = next_parts p a t nexts.Open e (λ d. cc) (λ last d. cc) in
    let found = opens_for a t (wish_of c) (next_with_command a t (command_at p a t) c nexts.Open at parts.1) in
    (found.0, found.1, found.2, found.3)

-- and so does one that builds, which has room for it
pub builds_wish : (p : Program) (a : NamedHeap) (t : ℕ) (c : Command) (kind : Kind) (n seed : ℕ) → command_at p a t ≡ Some c →
    next p a t ≡ nexts.Build kind n seed → (wish_of c ≡ Make kind n seed) × (has_room a t kind (size_of kind n) ≡ true)
builds_wish p a t c kind n seed at e =
    let parts = next_parts p a t (nexts.Build kind n seed) e (λ d. cc) (λ last d. cc) in
    builds_for a t (wish_of c) kind n seed (next_with_command a t (command_at p a t) c (nexts.Build kind n seed) at parts.1)

-- the number of a weakness is at most 4
weakness_most : (w : Weakness) → weakness_number w ≤ 4
weakness_most weaknesses.Strong = omega arith
weakness_most weaknesses.Key = omega arith
weakness_most weaknesses.Value = omega arith
weakness_most weaknesses.KeyAndValue = omega arith
weakness_most weaknesses.KeyOrValue = omega arith

-- a wish that says the same can be built too
same_making : (k : Kind) (m s : ℕ) → IsMaking k m s → (kind : Kind) (n seed : ℕ) → Make k m s ≡ Make kind n seed → IsMaking kind n seed
same_making k m s h kind n seed e =
    let same_kind : k ≡ kind = cc in
    let same_n : m ≡ n = cc in
    let same_seed : s ≡ seed = cc in
    subst (λ (x : Kind). IsMaking x n seed) same_kind (subst (λ (x : ℕ). IsMaking k x seed) same_n (subst (λ (x : ℕ). IsMaking k m x) same_seed h))

-- what a command in range wants made can be built
pub wish_making : (c : Command) (kind : Kind) (n seed : ℕ) → IsInRange c → wish_of c ≡ Make kind n seed → IsMaking kind n seed
wish_making (commands.NewCons d x y) kind n seed r e = same_making kinds.Cons 2 0 (refl, refl) kind n seed e
wish_making (commands.NewVector d m) kind n seed r e = same_making kinds.Vector m 0 (r.1, refl) kind n seed e
wish_making (commands.NewInstance d m) kind n seed r e = same_making kinds.Instance m 0 (r.1, refl) kind n seed e
wish_making (commands.NewClosure d m) kind n seed r e = same_making kinds.Closure m 0 (r.1, refl) kind n seed e
wish_making (commands.NewWords d m w) kind n seed r e = same_making kinds.Words m w (r.1, r.2) kind n seed e
wish_making (commands.NewWeak d x) kind n seed r e = same_making kinds.Weak 1 0 (refl, refl) kind n seed e
wish_making (commands.NewTable d w b) kind n seed r e =
    same_making kinds.Table (3 + 4 * b) (weakness_number w) ((b, r.1, r.2, refl), weakness_most w) kind n seed e
wish_making _ kind n seed r e = cc

-- and has at most 65,535 words of payload
pub making_most : (kind : Kind) (n seed : ℕ) → IsMaking kind n seed → n ≤ 65535
making_most kinds.Cons n seed h = omega (arith, h.0)
making_most kinds.Vector n seed h = h.0
making_most kinds.Instance n seed h = h.0
making_most kinds.Closure n seed h = h.0
making_most kinds.Words n seed h = h.0
making_most kinds.Weak n seed h = omega (arith, h.0)
making_most kinds.Table n seed h = (let table = h.0 in omega (arith, table.2, table.3))

-- so it takes at most 65,536 words
pub size_most : (kind : Kind) (n : ℕ) → n ≤ 65535 → size_of kind n ≤ 65536
size_most kinds.Cons n h = omega arith
size_most kinds.Vector n h = omega arith
size_most kinds.Instance n h = omega arith
size_most kinds.Closure n h = omega arith
size_most kinds.Words n h = omega arith
size_most kinds.Weak n h = omega arith
size_most kinds.Table n h = omega arith
