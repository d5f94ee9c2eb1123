-- The statuses with which the program ends, and the line that it says for each. Both are this project's own.
use Rattle.std.specs.Prelude.{ℕ, List, ◌++◌, Option, Some, None, codes, decimal}
use Rattle.heap_terms.specs.declared.faults.LimitKind.{LimitKind}
use Rattle.heap_terms.specs.declared.faults.LimitKind.TheVariants.{Pages, Threads, Commands, Gcs, Schedule}
use Rattle.heap_terms.specs.declared.faults.Why.{Why}
use Rattle.heap_terms.specs.declared.faults.Why.TheVariants.{Word, Order, Fields, Form, Range, Missing}
use Rattle.lispheap.specs.declared.faults.Fault.{Fault}
use Rattle.lispheap.specs.declared.faults.Fault.TheVariants as faults

-- the status by what went wrong, if anything
abbrev pub status_of : Option Fault → ℕ
status_of None = 0
status_of (Some faults.Usage) = 2
status_of (Some (faults.Line n why)) = 3
status_of (Some faults.Read) = 4
status_of (Some faults.Write) = 5
status_of (Some faults.TooLong) = 6
status_of (Some (faults.Limit kind)) = 6
status_of (Some faults.Memory) = 7

-- why a line is bad
abbrev pub why_text : Why → List ℕ
why_text Word = codes "word"
why_text Order = codes "order"
why_text Fields = codes "fields"
why_text Form = codes "form"
why_text Range = codes "range"
why_text Missing = codes "missing"

-- a limit of a script, and its number
abbrev pub limit_text : LimitKind → List ℕ
limit_text Pages = codes "pages 1024"
limit_text Threads = codes "threads 8"
limit_text Commands = codes "commands 20000"
limit_text Gcs = codes "gcs 64"
limit_text Schedule = codes "schedule 1000000"

-- what the program says of a fault: one line
abbrev pub fault_text : Fault → List ℕ
fault_text faults.Usage = codes "lispheap: usage\n"
fault_text (faults.Line n why) = codes "lispheap: line " ++ (decimal n ++ (codes ": " ++ why_text why ++ codes "\n"))
fault_text faults.Read = codes "lispheap: read fault\n"
fault_text faults.Write = codes "lispheap: write fault\n"
fault_text faults.TooLong = codes "lispheap: limit bytes 4194304\n"
fault_text (faults.Limit kind) = codes "lispheap: limit " ++ limit_text kind ++ codes "\n"
fault_text faults.Memory = codes "lispheap: out of memory\n"
