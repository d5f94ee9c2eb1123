-- Allocation: which object a command makes, when a region has room for it, which run of pages is opened, and
-- the commit of the object. That threads allocate from regions of their own, opened under a lock, is SBCL's;
-- that a region is one page, opened on the lowest free run, is this project's own.
use Rattle.std.specs.Prelude.{◌≡◌, ℕ, ◌+◌, ◌-◌, ◌*◌, ◌/◌, ◌<◌, ◌≤◌, List, [], ◌∷◌, ◌++◌, length, take, drop, replicate, Option, Some, None, Bool, true, false, if◌then◌else◌, nat_lt, nat_le, ◌==◌, ◌&&◌, slice_set, unwrap_or}
use Rattle.heap_terms.specs.declared.cells.Cell.{Cell}
use Rattle.heap_terms.specs.declared.cells.Value.{Value}
use Rattle.heap_terms.specs.declared.cells.Value.TheVariants as values
use Rattle.heap_terms.specs.declared.commands.Command.{Command}
use Rattle.heap_terms.specs.declared.commands.Command.TheVariants as commands
use Rattle.heap_terms.specs.declared.kinds.Kind.{Kind}
use Rattle.heap_terms.specs.declared.kinds.Kind.TheVariants as kinds
use Rattle.heap_terms.specs.declared.kinds.PageType.{PageType}
use Rattle.heap_terms.specs.declared.kinds.PageType.TheVariants as types
use Rattle.heap_terms.specs.declared.pages.Entry.{Entry}
use Rattle.heap_terms.specs.declared.pages.Entry.TheVariants as entries
use Rattle.heap_terms.specs.declared.programs.Program.{Program}
use Rattle.heap_terms.specs.declared.limits.TheConstants.{MOST_TRIGGERS}
use Rattle.heap_terms.specs.Cells.{cell_value, with_cell}
use Rattle.heap_terms.specs.Heap.{NamedHeap, Thread, thread_at, with_thread, entry_at, fill_of, open_page, with_open_page, zero_value}
use Rattle.heap_terms.specs.Layout.{page_words, page_type_of, size_of, weakness_number}
use Rattle.heap_terms.specs.Objects.{Object, Contents, ConsOf, VectorOf, InstanceOf, ClosureOf, WordsOf, WeakTo, TableOf}

-- what a command wants made: nothing, or an object of a kind with n words of payload and a seed (the raw word
-- of each element, or the number of a table's weakness, else 0)
pub data Wish : Type 0 where
  Nothing : Wish
  Make : Kind → ℕ → ℕ → Wish

-- what a command wants made, with the payload and the seed that this project gives it
abbrev pub wish_of : Command → Wish
wish_of (commands.NewCons d a b) = Make kinds.Cons 2 0
wish_of (commands.NewVector d n) = Make kinds.Vector n 0
wish_of (commands.NewInstance d n) = Make kinds.Instance n 0
wish_of (commands.NewClosure d n) = Make kinds.Closure n 0
wish_of (commands.NewWords d n w) = Make kinds.Words n w
wish_of (commands.NewWeak d c) = Make kinds.Weak 1 0
wish_of (commands.NewTable d w b) = Make kinds.Table (3 + 4 * b) (weakness_number w)
wish_of (commands.Fix d n) = Nothing
wish_of (commands.MakeNil d) = Nothing
wish_of (commands.Move d c) = Nothing
wish_of (commands.Get d c i) = Nothing
wish_of (commands.Put c i a) = Nothing
wish_of (commands.RawGet r c i) = Nothing
wish_of (commands.RawPut c i r) = Nothing
wish_of (commands.Same a b) = Nothing
wish_of (commands.Show c) = Nothing
wish_of (commands.Addr r c) = Nothing
wish_of (commands.SetRaw r w) = Nothing
wish_of (commands.AddRaw r k) = Nothing
wish_of (commands.Pin c) = Nothing
wish_of commands.Unpin = Nothing
wish_of (commands.WeakVal d c) = Nothing
wish_of (commands.TablePut c k v) = Nothing
wish_of (commands.TableGet d c k) = Nothing
wish_of (commands.TableRem c k) = Nothing
wish_of (commands.TableCount c) = Nothing
wish_of (commands.Finalize c id) = Nothing
wish_of (commands.Cancel c) = Nothing
wish_of commands.RunFinalizers = Nothing
wish_of (commands.Collect g) = Nothing
wish_of commands.Inhibit = Nothing
wish_of commands.Allow = Nothing
wish_of (commands.ShowPage p) = Nothing
wish_of (commands.Stat g) = Nothing

-- the cell in which a command puts its new object; a command that allocates nothing has none
abbrev pub destination_of : Command → Option Cell
destination_of (commands.NewCons d a b) = Some d
destination_of (commands.NewVector d n) = Some d
destination_of (commands.NewInstance d n) = Some d
destination_of (commands.NewClosure d n) = Some d
destination_of (commands.NewWords d n w) = Some d
destination_of (commands.NewWeak d c) = Some d
destination_of (commands.NewTable d w b) = Some d
destination_of (commands.Fix d n) = None
destination_of (commands.MakeNil d) = None
destination_of (commands.Move d c) = None
destination_of (commands.Get d c i) = None
destination_of (commands.Put c i a) = None
destination_of (commands.RawGet r c i) = None
destination_of (commands.RawPut c i r) = None
destination_of (commands.Same a b) = None
destination_of (commands.Show c) = None
destination_of (commands.Addr r c) = None
destination_of (commands.SetRaw r w) = None
destination_of (commands.AddRaw r k) = None
destination_of (commands.Pin c) = None
destination_of commands.Unpin = None
destination_of (commands.WeakVal d c) = None
destination_of (commands.TablePut c k v) = None
destination_of (commands.TableGet d c k) = None
destination_of (commands.TableRem c k) = None
destination_of (commands.TableCount c) = None
destination_of (commands.Finalize c id) = None
destination_of (commands.Cancel c) = None
destination_of commands.RunFinalizers = None
destination_of (commands.Collect g) = None
destination_of commands.Inhibit = None
destination_of commands.Allow = None
destination_of (commands.ShowPage p) = None
destination_of (commands.Stat g) = None

-- the heap after a value was put where a command wants it
abbrev pub with_destination : NamedHeap → ℕ → Option Cell → Value → NamedHeap
with_destination a t None v = a
with_destination a t (Some d) v = with_cell a t d v

-- What the new object holds at first; its cells are read before the destination changes. A command that allocates
-- nothing is never asked, and its row is an object of no words.
abbrev pub initial_contents : NamedHeap → ℕ → Command → Contents
initial_contents a t (commands.NewCons d x y) = ConsOf (cell_value a t x) (cell_value a t y)
initial_contents a t (commands.NewVector d n) = VectorOf (replicate n zero_value)
initial_contents a t (commands.NewInstance d n) = InstanceOf (replicate n zero_value)
initial_contents a t (commands.NewClosure d n) = ClosureOf (replicate n zero_value)
initial_contents a t (commands.NewWords d n w) = WordsOf (replicate n w)
initial_contents a t (commands.NewWeak d c) = WeakTo (cell_value a t c)
initial_contents a t (commands.NewTable d w b) = TableOf w b []
initial_contents a t (commands.Fix d n) = WordsOf []
initial_contents a t (commands.MakeNil d) = WordsOf []
initial_contents a t (commands.Move d c) = WordsOf []
initial_contents a t (commands.Get d c i) = WordsOf []
initial_contents a t (commands.Put c i x) = WordsOf []
initial_contents a t (commands.RawGet r c i) = WordsOf []
initial_contents a t (commands.RawPut c i r) = WordsOf []
initial_contents a t (commands.Same x y) = WordsOf []
initial_contents a t (commands.Show c) = WordsOf []
initial_contents a t (commands.Addr r c) = WordsOf []
initial_contents a t (commands.SetRaw r w) = WordsOf []
initial_contents a t (commands.AddRaw r k) = WordsOf []
initial_contents a t (commands.Pin c) = WordsOf []
initial_contents a t commands.Unpin = WordsOf []
initial_contents a t (commands.WeakVal d c) = WordsOf []
initial_contents a t (commands.TablePut c k v) = WordsOf []
initial_contents a t (commands.TableGet d c k) = WordsOf []
initial_contents a t (commands.TableRem c k) = WordsOf []
initial_contents a t (commands.TableCount c) = WordsOf []
initial_contents a t (commands.Finalize c id) = WordsOf []
initial_contents a t (commands.Cancel c) = WordsOf []
initial_contents a t commands.RunFinalizers = WordsOf []
initial_contents a t (commands.Collect g) = WordsOf []
initial_contents a t commands.Inhibit = WordsOf []
initial_contents a t commands.Allow = WordsOf []
initial_contents a t (commands.ShowPage p) = WordsOf []
initial_contents a t (commands.Stat g) = WordsOf []

-- an object of at most one page's words is small
abbrev pub is_small : ℕ → Bool
is_small size = nat_le size page_words

-- a small object needs one page, a large one a run of its own
abbrev pub pages_needed : ℕ → ℕ
pages_needed size = if is_small size then 1 else (size + (page_words - 1)) / page_words

-- whether a page has room for that many words more; a free page has none
abbrev pub entry_has_room : Entry → ℕ → Bool
entry_has_room entries.Free size = false
entry_has_room (entries.Used ty g fill first pages) size = nat_le (fill + size) page_words

-- whether a thread's open page of a type has room for that many words more
abbrev pub page_has_room : List Entry → Option ℕ → ℕ → Bool
page_has_room pages None size = false
page_has_room pages (Some page) size = entry_has_room (entry_at pages page) size

-- whether two page types are the same
abbrev pub same_type : PageType → PageType → Bool
same_type types.Cons types.Cons = true
same_type types.Cons types.Boxed = false
same_type types.Cons types.Unboxed = false
same_type types.Boxed types.Cons = false
same_type types.Boxed types.Boxed = true
same_type types.Boxed types.Unboxed = false
same_type types.Unboxed types.Cons = false
same_type types.Unboxed types.Boxed = false
same_type types.Unboxed types.Unboxed = true

-- whether a page begins a run of a type and of just k pages
abbrev pub entry_is_run : Entry → PageType → ℕ → Bool
entry_is_run entries.Free ty k = false
entry_is_run (entries.Used other g fill first pages) ty k = same_type other ty && pages == k

-- whether a thread's open run was opened for a large object of that type and size
abbrev pub run_has_room : List Entry → Option ℕ → PageType → ℕ → Bool
run_has_room pages None ty size = false
run_has_room pages (Some first) ty size = entry_is_run (entry_at pages first) ty (pages_needed size)

-- Whether thread t has room for an object of a kind and a size: a small one in its open page of that type, a
-- large one in its open run, which was opened for it.
abbrev pub has_room : NamedHeap → ℕ → Kind → ℕ → Bool
has_room a t kind size =
    if is_small size
    then page_has_room a.pages (open_page (thread_at a t) (page_type_of kind)) size
    else run_has_room a.pages (thread_at a t).open_run (page_type_of kind) size

-- a page is free
abbrev pub is_free : Entry → Bool
is_free entries.Free = true
is_free (entries.Used ty g fill first pages) = false

-- from page `first` on, k pages are there and free
pub record IsFreeRun (pages : List Entry) (first k : ℕ) : Type 0 where
  pub inside : first + k ≤ length pages
  pub free : (i : ℕ) → first ≤ i → i < first + k → is_free (entry_at pages i) ≡ true

-- the lowest run of k free pages begins at `first`
pub record IsLowestRun (pages : List Entry) (first k : ℕ) : Type 0 where
  pub run : IsFreeRun pages first k
  pub lowest : (lower : ℕ) → lower < first → ¬ IsFreeRun pages lower k

-- there are no k free pages side by side
abbrev pub HasNoRun : List Entry → ℕ → Type 0
HasNoRun pages k = (first : ℕ) → ¬ IsFreeRun pages first k

-- the pages after k of them, from `first` on, were taken as one empty run of generation 0
abbrev pub with_run : List Entry → ℕ → ℕ → PageType → List Entry
with_run pages first k ty = take first pages ++ replicate k (entries.Used ty 0 0 first k) ++ drop (first + k) pages

-- the heap after thread t opened a run of k pages: one page is its open page of the type from now on, a longer
-- run (which a small object never needs) waits for the one large object for which it was opened
unfoldable pub opened : NamedHeap → ℕ → PageType → ℕ → ℕ → NamedHeap
opened a t ty first k =
    let th = thread_at a t in
    record (with_thread a t (if k == 1 then with_open_page th ty first else record th { open_run = Some first }))
    { pages = with_run a.pages first k ty }

-- the entry of a page with another fill; a free page stays free
abbrev pub with_fill : Entry → ℕ → Entry
with_fill entries.Free fill = entries.Free
with_fill (entries.Used ty g old first pages) fill = entries.Used ty g fill first pages

-- the page on which thread t's small object of a kind goes
abbrev pub small_page : NamedHeap → ℕ → Kind → ℕ
small_page a t kind = unwrap_or (open_page (thread_at a t) (page_type_of kind)) 0

-- the first page of the run into which thread t's large object goes
abbrev pub large_page : NamedHeap → ℕ → ℕ
large_page a t = unwrap_or (thread_at a t).open_run 0

-- the index at which thread t's next object of a kind and a size begins
abbrev pub place_for : NamedHeap → ℕ → Kind → ℕ → ℕ
place_for a t kind size =
    if is_small size
    then page_words * small_page a t kind + fill_of (entry_at a.pages (small_page a t kind))
    else page_words * large_page a t

-- the pages after a large object of a size was put into its run: each page is full but the last, which has the rest
abbrev pub with_large : List Entry → ℕ → ℕ → List Entry
with_large pages first size =
    let k = pages_needed size in
    let entry = entry_at pages first in
    take first pages ++ replicate (k - 1) (with_fill entry page_words)
    ++ with_fill entry (size - page_words * (k - 1)) ∷ drop (first + k) pages

-- the pages after thread t's object of a kind and a size was put in its place
abbrev pub pages_after : NamedHeap → ℕ → Kind → ℕ → List Entry
pages_after a t kind size =
    if is_small size
    then (let page = small_page a t kind in let entry = entry_at a.pages page in
    slice_set a.pages page (with_fill entry (fill_of entry + size)))
    else with_large a.pages (large_page a t) size

-- a large object uses its run up
abbrev pub run_used : Thread → ℕ → Thread
run_used th size = if is_small size then th else record th { open_run = None }

-- whether a commit of that size lets `auto` ask for a collection: its words reach W, and fewer than 64 did before
abbrev pub triggers : Program → NamedHeap → ℕ → Bool
triggers p a size = if p.auto == 0 then false else (if nat_le p.auto (a.counted + size) then nat_lt a.triggered MOST_TRIGGERS else false)

-- the heap with the words of a commit counted; the thread that reaches W owes at least a collection of generation 0
abbrev pub counting : Program → NamedHeap → ℕ → ℕ → NamedHeap
counting p a t size =
    if triggers p a size
    then record (with_thread a t (record (thread_at a t) { owed = Some (unwrap_or (thread_at a t).owed 0) }))
    { counted = 0; triggered = a.triggered + 1 }
    else record a { counted = (if p.auto == 0 then a.counted else a.counted + size) }

-- the heap after thread t's object of a kind with n words of payload was committed: it has the next name,
-- generation 0 and its place, the command's destination refers to it, and its words are counted
unfoldable pub committed : Program → NamedHeap → ℕ → Command → Kind → ℕ → NamedHeap
committed p a t c kind n =
    let size = size_of kind n in
    let object : Object = record { generation = 0; place = place_for a t kind size; contents = initial_contents a t c } in
    let placed = record (with_thread a t (run_used (thread_at a t) size))
    { objects = a.objects ++ Some object ∷ []; pages = pages_after a t kind size } in
    counting p (with_destination placed t (destination_of c) (values.Ref (length a.objects))) t size
