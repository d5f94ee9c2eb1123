-- What a parcel's owner wants made, and where it goes.
use Rattle.std.proofs.Common.{◌≡◌, ◌≢◌, ℕ, subst, List, ap, ◌∙◌, sym, refl, Option, Some, None, IsSome}
use Rattle.heap_terms.specs.declared.commands.Command.{Command}
use Rattle.heap_terms.specs.declared.pages.Entry.{Entry}
use Rattle.heap_terms.specs.declared.pages.Next.TheVariants as nexts
use Rattle.heap_terms.specs.Histories.{command_at, next, wished_size}
use Rattle.heap_terms.specs.Layout.{size_of}
use Rattle.heap_terms.specs.Regions.{HasNoRun, Wish, Nothing, Make, pages_needed, wish_of}
use Rattle.lisp_heap.specs.Wishes.{wish_for}
use Rattle.lisp_heap.specs.WorldSound.{IsSound, view_of}
use Rattle.lisp_heap.specs.View.{View, heap_of}
use Rattle.lisp_heap.specs.declared.parcels.Making.{Making}
use Rattle.lisp_heap.specs.declared.world.World.TheInside.{Inside}
use Rattle.lisp_heap.proofs.Soundness.{heap}
use Rattle.lisp_heap.proofs.Wanted.{opens_wish}

-- a wish that is told as an object
pub wished_some : (o : Option Making) (w : Wish) → wish_for o ≡ w → w ≢ Nothing → IsSome o
wished_some None w e other = absurd (other (sym e))
wished_some (Some m) w e other = refl

pub opens_some : (s : Inside) (t : ℕ) (c : Command) (o : Option Making) → command_at s.program (heap s) t ≡ Some c → next s.program (heap s) t ≡ nexts.Open →
    wish_for o ≡ wish_of c → IsSome o
opens_some s t c o at opens e =
    let wish = opens_wish s.program (heap s) t c at opens in
    wished_some o (wish_of c) e (λ nothing. (let made = wish.3 in cc))

-- how many pages that needs
pub needed_is : (k size : ℕ) (m : Making) (w : Wish) → k ≡ pages_needed size → size ≡ size_of m.kind m.n → w ≡ Make m.kind m.n m.seed →
    k ≡ pages_needed (wished_size w)
needed_is k size m w pages is wish = pages ∙ ap (λ (n : ℕ). pages_needed n) is ∙ ap (λ (x : Wish). pages_needed (wished_size x)) (sym wish)

-- where the page table has no run of so many pages, the heap has none
pub no_run_there : (s : Inside) (w : View) → IsSound s → view_of s ≡ w → (k : ℕ) → HasNoRun s.pages k → HasNoRun (heap_of w).pages k
no_run_there s w h e k none =
    subst (λ (v : View). HasNoRun (heap_of v).pages k) e (subst (λ (ps : List Entry). HasNoRun ps k) h.holds.pages none)
