use Rattle.std.proofs.Common.{arith}
use Rattle.heap_terms.specs.Generated.{command_of}
use Rattle.script_gen.proofs.ByRow.{first_row, last_row}
use Rattle.script_gen.proofs.draws.Draws.command.Goals as goal

pub returns-in-6 : goal.returns-in-6
unfolding command_of
returns-in-6 c = rw c.in-6.is c.vector.ensures

pub returns-in-7 : goal.returns-in-7
unfolding command_of
returns-in-7 c = rw c.in-7.is c.instance.ensures

pub returns-in-8 : goal.returns-in-8
unfolding command_of
returns-in-8 c = rw c.in-8.is c.words.ensures

pub returns-in-9 : goal.returns-in-9
unfolding command_of
returns-in-9 c = rw c.in-9.is c.weak.ensures

pub returns-in-10 : goal.returns-in-10
unfolding command_of
returns-in-10 c = rw c.in-10.is c.table.ensures

pub returns-in-11 : goal.returns-in-11
unfolding command_of
returns-in-11 c = rw c.in-11.is c.get.ensures

pub returns-in-12 : goal.returns-in-12
unfolding command_of
returns-in-12 c = rw c.in-12.is c.put.ensures

pub returns-in-13 : goal.returns-in-13
unfolding command_of
returns-in-13 c = rw c.in-13.is c.move_cell.ensures

pub returns-in-14 : goal.returns-in-14
unfolding command_of
returns-in-14 c = rw c.in-14.is c.nil.ensures

pub returns-in-15 : goal.returns-in-15
unfolding command_of
returns-in-15 c = rw c.in-15.is c.table_put.ensures

pub returns-in-16 : goal.returns-in-16
unfolding command_of
returns-in-16 c = rw c.in-16.is c.table_get.ensures

pub returns-in-17 : goal.returns-in-17
unfolding command_of
returns-in-17 c = rw c.in-17.is c.addr.ensures

pub returns-in-18 : goal.returns-in-18
unfolding command_of
returns-in-18 c = rw c.in-18.is c.finalize.ensures

pub returns-in-0-to-5 : goal.returns-in-0-to-5
returns-in-0-to-5 c = rw (first_row c.args.gcs c.args.self.now.state c.args.number (omega arith)) c.cons.ensures

pub returns-in_default : goal.returns-in_default
returns-in_default c = rw (last_row c.args.gcs c.args.self.now.state c.args.number (omega arith)) c.collect_or_compare.ensures
