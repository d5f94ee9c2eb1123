-- The words that the reader knows, and the places that it tells apart, as the definition of reading has them.
use Rattle.std.specs.Prelude.{ℕ, List, codes}
use Rattle.heap_terms.specs.ScriptReading.{Place as DefinedPlace, AtStart, AfterVersion, AfterHeap, AfterAuto, InThread, InSchedule, AfterEnd}
use Rattle.script_text.specs.declared.words.Keyword.{Keyword}
use Rattle.script_text.specs.declared.words.Keyword.TheVariants as keywords
use Rattle.script_text.specs.declared.words.Name.{Name}
use Rattle.script_text.specs.declared.words.Name.TheVariants as names
use Rattle.script_text.specs.declared.words.Place.{Place}
use Rattle.script_text.specs.declared.words.Place.TheVariants as places

-- the word as it is written
abbrev pub text_of_name : Name → List ℕ
text_of_name names.Fix = codes "fix"
text_of_name names.Nil = codes "nil"
text_of_name names.Move = codes "move"
text_of_name names.Cons = codes "cons"
text_of_name names.Vector = codes "vector"
text_of_name names.Instance = codes "instance"
text_of_name names.Closure = codes "closure"
text_of_name names.Words = codes "words"
text_of_name names.Weak = codes "weak"
text_of_name names.Table = codes "table"
text_of_name names.Get = codes "get"
text_of_name names.Put = codes "put"
text_of_name names.RawGet = codes "rawget"
text_of_name names.RawPut = codes "rawput"
text_of_name names.Eq = codes "eq"
text_of_name names.Show = codes "show"
text_of_name names.Addr = codes "addr"
text_of_name names.Raw = codes "raw"
text_of_name names.Add = codes "add"
text_of_name names.Pin = codes "pin"
text_of_name names.Unpin = codes "unpin"
text_of_name names.WeakVal = codes "weakval"
text_of_name names.TablePut = codes "tput"
text_of_name names.TableGet = codes "tget"
text_of_name names.TableRem = codes "trem"
text_of_name names.TableCount = codes "tcount"
text_of_name names.Gc = codes "gc"
text_of_name names.Page = codes "page"
text_of_name names.Stat = codes "stat"
text_of_name names.Nogc = codes "nogc"
text_of_name names.Gcok = codes "gcok"
text_of_name names.Finalize = codes "finalize"
text_of_name names.Cancel = codes "cancel"
text_of_name names.Runfin = codes "runfin"

abbrev pub text_of : Keyword → List ℕ
text_of keywords.Lispheap = codes "lispheap"
text_of keywords.Heap = codes "heap"
text_of keywords.Auto = codes "auto"
text_of keywords.Thread = codes "thread"
text_of keywords.Schedule = codes "schedule"
text_of keywords.End = codes "end"
text_of (keywords.Command name) = text_of_name name

abbrev pub place_of : Place → DefinedPlace
place_of places.Start = AtStart
place_of places.Version = AfterVersion
place_of places.Heap = AfterHeap
place_of places.Auto = AfterAuto
place_of places.Thread = InThread
place_of places.Schedule = InSchedule
place_of places.End = AfterEnd
