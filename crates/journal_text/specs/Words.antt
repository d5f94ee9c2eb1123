-- The words of commands.
use Rattle.std.specs.Prelude.{ℕ, List, Option, Some, None, if◌then◌else◌, bytes_eq, codes}
use Rattle.heap_terms.specs.declared.commands.Command.{Command}
use Rattle.heap_terms.specs.declared.commands.Command.TheVariants.{Fix, MakeNil, Move, NewCons, NewVector, NewInstance, NewClosure, NewWords, NewWeak, NewTable, Get, Put, RawGet, RawPut, Same, Show, Addr, SetRaw, AddRaw, Pin, Unpin, WeakVal, TablePut, TableGet, TableRem, TableCount, Finalize, Cancel, RunFinalizers, Collect, Inhibit, Allow, ShowPage, Stat}
use Rattle.journal_text.specs.declared.parsing.words.Name.{Name}
use Rattle.journal_text.specs.declared.parsing.words.Name.TheVariants as names

-- the name that a word is
unfoldable pub command_word : List ℕ → Option Name
command_word word =
    if bytes_eq word (codes "fix") then Some names.Fix
    else if bytes_eq word (codes "cons") then Some names.Cons
    else if bytes_eq word (codes "get") then Some names.Get
    else if bytes_eq word (codes "put") then Some names.Put
    else if bytes_eq word (codes "show") then Some names.Show
    else if bytes_eq word (codes "nil") then Some names.Nil
    else if bytes_eq word (codes "move") then Some names.Move
    else if bytes_eq word (codes "vector") then Some names.Vector
    else if bytes_eq word (codes "instance") then Some names.Instance
    else if bytes_eq word (codes "closure") then Some names.Closure
    else if bytes_eq word (codes "words") then Some names.Words
    else if bytes_eq word (codes "weak") then Some names.Weak
    else if bytes_eq word (codes "table") then Some names.Table
    else if bytes_eq word (codes "rawget") then Some names.RawGet
    else if bytes_eq word (codes "rawput") then Some names.RawPut
    else if bytes_eq word (codes "eq") then Some names.Eq
    else if bytes_eq word (codes "addr") then Some names.Addr
    else if bytes_eq word (codes "raw") then Some names.Raw
    else if bytes_eq word (codes "add") then Some names.Add
    else if bytes_eq word (codes "pin") then Some names.Pin
    else if bytes_eq word (codes "unpin") then Some names.Unpin
    else if bytes_eq word (codes "weakval") then Some names.WeakVal
    else if bytes_eq word (codes "tput") then Some names.Tput
    else if bytes_eq word (codes "tget") then Some names.Tget
    else if bytes_eq word (codes "trem") then Some names.Trem
    else if bytes_eq word (codes "tcount") then Some names.Tcount
    else if bytes_eq word (codes "finalize") then Some names.Finalize
    else if bytes_eq word (codes "cancel") then Some names.Cancel
    else if bytes_eq word (codes "runfin") then Some names.RunFin
    else if bytes_eq word (codes "gc") then Some names.Gc
    else if bytes_eq word (codes "nogc") then Some names.NoGc
    else if bytes_eq word (codes "gcok") then Some names.GcOk
    else if bytes_eq word (codes "page") then Some names.Page
    else if bytes_eq word (codes "stat") then Some names.Stat
    else None

-- the name of a command
abbrev pub name_in : Command → Name
name_in (Fix d n) = names.Fix
name_in (MakeNil d) = names.Nil
name_in (Move d c) = names.Move
name_in (NewCons d a b) = names.Cons
name_in (NewVector d n) = names.Vector
name_in (NewInstance d n) = names.Instance
name_in (NewClosure d n) = names.Closure
name_in (NewWords d n w) = names.Words
name_in (NewWeak d c) = names.Weak
name_in (NewTable d w b) = names.Table
name_in (Get d c i) = names.Get
name_in (Put c i a) = names.Put
name_in (RawGet r c i) = names.RawGet
name_in (RawPut c i r) = names.RawPut
name_in (Same a b) = names.Eq
name_in (Show c) = names.Show
name_in (Addr r c) = names.Addr
name_in (SetRaw r w) = names.Raw
name_in (AddRaw r k) = names.Add
name_in (Pin c) = names.Pin
name_in Unpin = names.Unpin
name_in (WeakVal d c) = names.WeakVal
name_in (TablePut c k v) = names.Tput
name_in (TableGet d c k) = names.Tget
name_in (TableRem c k) = names.Trem
name_in (TableCount c) = names.Tcount
name_in (Finalize c id) = names.Finalize
name_in (Cancel c) = names.Cancel
name_in RunFinalizers = names.RunFin
name_in (Collect g) = names.Gc
name_in Inhibit = names.NoGc
name_in Allow = names.GcOk
name_in (ShowPage p) = names.Page
name_in (Stat g) = names.Stat

-- the word of a name
abbrev pub word_of : Name → List ℕ
word_of names.Fix = codes "fix"
word_of names.Cons = codes "cons"
word_of names.Get = codes "get"
word_of names.Put = codes "put"
word_of names.Show = codes "show"
word_of names.Nil = codes "nil"
word_of names.Move = codes "move"
word_of names.Vector = codes "vector"
word_of names.Instance = codes "instance"
word_of names.Closure = codes "closure"
word_of names.Words = codes "words"
word_of names.Weak = codes "weak"
word_of names.Table = codes "table"
word_of names.RawGet = codes "rawget"
word_of names.RawPut = codes "rawput"
word_of names.Eq = codes "eq"
word_of names.Addr = codes "addr"
word_of names.Raw = codes "raw"
word_of names.Add = codes "add"
word_of names.Pin = codes "pin"
word_of names.Unpin = codes "unpin"
word_of names.WeakVal = codes "weakval"
word_of names.Tput = codes "tput"
word_of names.Tget = codes "tget"
word_of names.Trem = codes "trem"
word_of names.Tcount = codes "tcount"
word_of names.Finalize = codes "finalize"
word_of names.Cancel = codes "cancel"
word_of names.RunFin = codes "runfin"
word_of names.Gc = codes "gc"
word_of names.NoGc = codes "nogc"
word_of names.GcOk = codes "gcok"
word_of names.Page = codes "page"
word_of names.Stat = codes "stat"
