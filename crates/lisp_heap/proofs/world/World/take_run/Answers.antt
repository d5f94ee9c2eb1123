-- An open run is opened again.
use Rattle.std.proofs.Common.{◌≡◌, sym, ◌∙◌, ap, List, arith}
use Rattle.heap_terms.specs.declared.pages.Entry.{Entry}
use Rattle.heap_terms.specs.declared.pages.Entry.TheVariants.{Used}
use Rattle.heap_terms.specs.Heap.{entry_at}
use Rattle.lisp_heap.specs.View.{heap_of}
use Rattle.lisp_heap.proofs.ReopenedRegions.{adopted_run, run_entry, run_there}
use Rattle.lisp_heap.proofs.world.World.take_run.Goals as goal

pub entry-requires : goal.entry-requires
entry-requires c = (run_there c.self.inside c.args.self.now c.in-Some.first c.self.invariant c.self.view_is (c.requires.run c.in-Some.first c.in-Some.is)).below

pub overflow_mul-first : goal.overflow_mul-first
overflow_mul-first c =
    let small = (run_there c.self.inside c.args.self.now c.in-Some.first c.self.invariant c.self.view_is (c.requires.run c.in-Some.first c.in-Some.is)).small in
    omega arith

pub reopen-requires-clause-least : goal.reopen-requires-clause-least
reopen-requires-clause-least c =
    let w = c.args.self.now in
    let first = c.in-Some.first in
    let run = c.requires.run first c.in-Some.is in
    let there = run_there c.self.inside w first c.self.invariant c.self.view_is run in
    let entry : entry_at (heap_of w).pages first ≡ Used c.in-Used.ty c.in-Used.generation c.in-Used.fill c.in-Used.run_first c.in-Used.run_pages =
    ap (λ (ps : List Entry). entry_at ps first) (sym there.pages) ∙ sym c.entry.ensures ∙ c.in-Used.is in
    let long = (run_entry (heap_of w).pages first run c.in-Used.ty c.in-Used.generation c.in-Used.fill c.in-Used.run_first c.in-Used.run_pages entry).0 in
    omega arith

pub reopen-requires-clause-most : goal.reopen-requires-clause-most
reopen-requires-clause-most c =
    let w = c.args.self.now in
    let first = c.in-Some.first in
    let run = c.requires.run first c.in-Some.is in
    let there = run_there c.self.inside w first c.self.invariant c.self.view_is run in
    let entry : entry_at (heap_of w).pages first ≡ Used c.in-Used.ty c.in-Used.generation c.in-Used.fill c.in-Used.run_first c.in-Used.run_pages =
    ap (λ (ps : List Entry). entry_at ps first) (sym there.pages) ∙ sym c.entry.ensures ∙ c.in-Used.is in
    let inside = (run_entry (heap_of w).pages first run c.in-Used.ty c.in-Used.generation c.in-Used.fill c.in-Used.run_first c.in-Used.run_pages entry).1 in
    let count = there.count in
    omega arith

pub returns-in_ok-region-in-Used : goal.returns-in_ok-region-in-Used
returns-in_ok-region-in-Used c =
    let w = c.args.self.now in
    let first = c.in-Some.first in
    let run = c.requires.run first c.in-Some.is in
    let there = run_there c.self.inside w first c.self.invariant c.self.view_is run in
    let entry : entry_at (heap_of w).pages first ≡ Used c.in-Used.ty c.in-Used.generation c.in-Used.fill c.in-Used.run_first c.in-Used.run_pages =
    ap (λ (ps : List Entry). entry_at ps first) (sym there.pages) ∙ sym c.entry.ensures ∙ c.in-Used.is in
    let long = (run_entry (heap_of w).pages first run c.in-Used.ty c.in-Used.generation c.in-Used.fill c.in-Used.run_first c.in-Used.run_pages entry).0 in
    adopted_run (heap_of w).pages c.args.parcel.now c.adopt.new.self c.args.run c.in_ok-region-in-Used.region c.in-Used.ty c.in-Used.generation c.in-Used.fill c.in-Used.run_first first c.in-Used.run_pages
    c.in-Some.is entry long c.in_ok-region-in-Used.ensures c.adopt.ensures.lease
