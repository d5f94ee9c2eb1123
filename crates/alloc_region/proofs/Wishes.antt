-- What a command asks a region for can be built there, and is what the new object holds at first: for a cons and
-- a weak pointer but for the cells that are written into it afterwards.
use Rattle.std.proofs.Common.{◌≡◌, ℕ, ◌+◌, ◌-◌, ◌*◌, ◌/◌, ◌≤◌, refl, ap, sym, ◌∙◌, [], arith}
use Rattle.heap_terms.specs.declared.commands.Command.{Command}
use Rattle.heap_terms.specs.declared.commands.Command.TheVariants as commands
use Rattle.heap_terms.specs.declared.kinds.Kind.TheVariants as kinds
use Rattle.heap_terms.specs.declared.kinds.Weakness.{Weakness}
use Rattle.heap_terms.specs.declared.kinds.Weakness.TheVariants as weaknesses
use Rattle.heap_terms.specs.Fresh.{weakness_of, fresh_contents, IsBuildable}
use Rattle.heap_terms.specs.Heap.{NamedHeap}
use Rattle.heap_terms.specs.Layout.{weakness_number}
use Rattle.heap_terms.specs.Objects.{Contents, TableOf}
use Rattle.heap_terms.specs.Regions.{Wish, Nothing, Make, wish_of, initial_contents}
use Rattle.heap_terms.specs.Valid.{IsInRange}

-- a wish for an object that a region can build
abbrev pub IsBuildableWish : Wish → Type 0
IsBuildableWish Nothing = Unit {0}
IsBuildableWish (Make kind n seed) = IsBuildable kind n seed

weakness_number-most : (w : Weakness) → weakness_number w ≤ 4
weakness_number-most weaknesses.Strong = omega arith
weakness_number-most weaknesses.Key = omega arith
weakness_number-most weaknesses.Value = omega arith
weakness_number-most weaknesses.KeyAndValue = omega arith
weakness_number-most weaknesses.KeyOrValue = omega arith

weakness_of-number : (w : Weakness) → weakness_of (weakness_number w) ≡ w
weakness_of-number weaknesses.Strong = refl
weakness_of-number weaknesses.Key = refl
weakness_of-number weaknesses.Value = refl
weakness_of-number weaknesses.KeyAndValue = refl
weakness_of-number weaknesses.KeyOrValue = refl

capacity : (b : ℕ) → (3 + 4 * b - 3) / 4 ≡ b
capacity b = omega arith

pub IsBuildableWish-in_range : (c : Command) → IsInRange c → IsBuildableWish (wish_of c)
IsBuildableWish-in_range (commands.NewCons d a b) h = (refl, refl)
IsBuildableWish-in_range (commands.NewVector d n) h = (h.1, refl)
IsBuildableWish-in_range (commands.NewInstance d n) h = (h.1, refl)
IsBuildableWish-in_range (commands.NewClosure d n) h = (h.1, refl)
IsBuildableWish-in_range (commands.NewWords d n w) h = h.1
IsBuildableWish-in_range (commands.NewWeak d c) h = (refl, refl)
IsBuildableWish-in_range (commands.NewTable d w b) h = (b, h.1, h.2, refl, weakness_number-most w)
IsBuildableWish-in_range _ h = tt

-- what an object holds is what its wish says
abbrev pub IsFreshFor : Contents → Wish → Type 0
IsFreshFor contents Nothing = Unit {0}
IsFreshFor contents (Make kinds.Cons n seed) = Unit {0}
IsFreshFor contents (Make kinds.Vector n seed) = contents ≡ fresh_contents kinds.Vector n seed
IsFreshFor contents (Make kinds.Instance n seed) = contents ≡ fresh_contents kinds.Instance n seed
IsFreshFor contents (Make kinds.Closure n seed) = contents ≡ fresh_contents kinds.Closure n seed
IsFreshFor contents (Make kinds.Words n seed) = contents ≡ fresh_contents kinds.Words n seed
IsFreshFor contents (Make kinds.Weak n seed) = Unit {0}
IsFreshFor contents (Make kinds.Table n seed) = contents ≡ fresh_contents kinds.Table n seed

pub IsFreshFor-initial_contents : (a : NamedHeap) (t : ℕ) (c : Command) → IsFreshFor (initial_contents a t c) (wish_of c)
IsFreshFor-initial_contents a t (commands.NewCons d x y) = tt
IsFreshFor-initial_contents a t (commands.NewVector d n) = refl
IsFreshFor-initial_contents a t (commands.NewInstance d n) = refl
IsFreshFor-initial_contents a t (commands.NewClosure d n) = refl
IsFreshFor-initial_contents a t (commands.NewWords d n w) = refl
IsFreshFor-initial_contents a t (commands.NewWeak d c) = tt
IsFreshFor-initial_contents a t (commands.NewTable d w b) =
    ap (λ v. TableOf v b []) (sym (weakness_of-number w)) ∙ ap (λ m. TableOf (weakness_of (weakness_number w)) m []) (sym (capacity b))
IsFreshFor-initial_contents a t _ = tt
