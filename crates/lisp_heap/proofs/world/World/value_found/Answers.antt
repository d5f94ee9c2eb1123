-- What `tget` answers of what was found.
use Rattle.std.proofs.Common.{ℕ, Option, subst}
use Rattle.lisp_heap.specs.LookUps.{IsFound}
use Rattle.lisp_heap.specs.View.{heap_of}
use Rattle.lisp_heap.proofs.TablePlans.{value_is, absent_is}
use Rattle.lisp_heap.proofs.world.World.value_found.Goals as goal

pub returns-in-Some : goal.returns-in-Some
returns-in-Some c =
    value_is (heap_of c.args.self.now) c.args.t c.args.d c.args.c c.args.k c.value_of.result c.in-Some.word c.requires.d
    (subst (λ (x : Option ℕ). IsFound (heap_of c.args.self.now) c.args.t c.args.c c.args.k x) c.in-Some.is c.requires.found) (λ u living is. c.value_of.ensures u living is)

pub returns-in-None : goal.returns-in-None
returns-in-None c =
    absent_is (heap_of c.args.self.now) c.args.t c.args.d c.args.c c.args.k c.requires.d
    (subst (λ (x : Option ℕ). IsFound (heap_of c.args.self.now) c.args.t c.args.c c.args.k x) c.in-None.is c.requires.found)
