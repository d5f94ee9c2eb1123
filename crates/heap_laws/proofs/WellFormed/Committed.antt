-- The commit of a small object, in plain terms, and that it keeps a heap well-formed.
use Rattle.std.proofs.Common.{◌≡◌, ℕ, ◌+◌, ◌*◌, ◌^◌, ◌<◌, ◌≤◌, List, [], ◌∷◌, ◌++◌, length, Option, Some, None, true, false, inl, inr, refl, sym, ◌∙◌, subst, ap, arith, set}
use Rattle.std.proofs.lemmas.Bool.{cases_Bool, leb-true, false≢true}
use Rattle.std.proofs.lemmas.List.{length-replicate, set-get_or, get_or_push}
use Rattle.heap_terms.specs.declared.cells.Cell.{Cell}
use Rattle.heap_terms.specs.declared.cells.Value.{Value}
use Rattle.heap_terms.specs.declared.cells.Value.TheVariants as values
use Rattle.heap_terms.specs.declared.commands.Command.{Command}
use Rattle.heap_terms.specs.declared.commands.Command.TheVariants as commands
use Rattle.heap_terms.specs.declared.kinds.Kind.{Kind}
use Rattle.heap_terms.specs.declared.kinds.PageType.{PageType}
use Rattle.heap_terms.specs.declared.pages.Entry.{Entry}
use Rattle.heap_terms.specs.declared.pages.Entry.TheVariants.{Free, Used}
use Rattle.heap_terms.specs.declared.programs.Program.{Program}
use Rattle.heap_terms.specs.Cells.{cell_value}
use Rattle.heap_terms.specs.Heap.{NamedHeap, Thread, entry_at, thread_at, open_page, fill_of, ended_thread, fresh_thread, zero_value}
use Rattle.heap_terms.specs.Layout.{page_words, page_type_of, size_of}
use Rattle.heap_terms.specs.Objects.{Object, kind_of, payload_of, words_of_object}
use Rattle.heap_terms.specs.Regions.{Make, wish_of, is_small, pages_needed, run_has_room, large_page, with_large, entry_has_room, page_has_room, has_room, place_for, pages_after, run_used, counting, committed, destination_of, with_destination, initial_contents}
use Rattle.heap_terms.specs.Living.{IsLiving, HoldsLiving, IsShaped}
use Rattle.heap_terms.specs.Valid.{IsInRange}
use Rattle.heap_terms.specs.WellFormed.{IsWellFormed, IsOpenPage}
use Rattle.heap_laws.proofs.WellFormed.LivingValues.{cell_living, AreLiving-zeros, AreLiving-nil, AreBelow-all, AreBelow-nil, IsLivingOrUnbound-living}
use Rattle.heap_laws.proofs.WellFormed.LargeAdded.{HasRun, has_run, GoesInto, without_run, heap_put, put-kept}
use Rattle.heap_laws.proofs.WellFormed.Counting.{counting-off, counting-kept}
use Rattle.heap_laws.proofs.WellFormed.ObjectAdded.{GoesOn, pages_with, pushed-kept}
use Rattle.heap_laws.proofs.WellFormed.Threads.{with_cell-kept, open_page_used}

-- the new object is of the kind and the size that were wished for
pub initial_kind : (a : NamedHeap) (t : ℕ) (c : Command) (kind : Kind) (n seed : ℕ) → wish_of c ≡ Make kind n seed → kind_of (initial_contents a t c) ≡ kind
initial_kind a t (commands.NewCons d x y) kind n seed e = cc
initial_kind a t (commands.NewVector d m) kind n seed e = cc
initial_kind a t (commands.NewInstance d m) kind n seed e = cc
initial_kind a t (commands.NewClosure d m) kind n seed e = cc
initial_kind a t (commands.NewWords d m w) kind n seed e = cc
initial_kind a t (commands.NewWeak d x) kind n seed e = cc
initial_kind a t (commands.NewTable d w b) kind n seed e = cc
initial_kind a t _ kind n seed e = cc

pub initial_payload : (a : NamedHeap) (t : ℕ) (c : Command) (kind : Kind) (n seed : ℕ) → wish_of c ≡ Make kind n seed → payload_of (initial_contents a t c) ≡ n
initial_payload a t (commands.NewCons d x y) kind n seed e = cc
initial_payload a t (commands.NewVector d m) kind n seed e = length-replicate m zero_value ∙ (let same : m ≡ n = cc in same)
initial_payload a t (commands.NewInstance d m) kind n seed e = length-replicate m zero_value ∙ (let same : m ≡ n = cc in same)
initial_payload a t (commands.NewClosure d m) kind n seed e = length-replicate m zero_value ∙ (let same : m ≡ n = cc in same)
initial_payload a t (commands.NewWords d m w) kind n seed e = length-replicate m w ∙ (let same : m ≡ n = cc in same)
initial_payload a t (commands.NewWeak d x) kind n seed e = cc
initial_payload a t (commands.NewTable d w b) kind n seed e = (let same : 3 + 4 * b ≡ n = cc in same)
initial_payload a t _ kind n seed e = cc

-- and holds living values
pub initial_living : (p : Program) (a : NamedHeap) (t : ℕ) (c : Command) → IsWellFormed p a → t < length p.threads → HoldsLiving a.objects (initial_contents a t c)
initial_living p a t (commands.NewCons d x y) w l = (cell_living p a t x w l, cell_living p a t y w l)
initial_living p a t (commands.NewVector d m) w l = AreLiving-zeros a.objects m
initial_living p a t (commands.NewInstance d m) w l = AreLiving-zeros a.objects m
initial_living p a t (commands.NewClosure d m) w l = AreLiving-zeros a.objects m
initial_living p a t (commands.NewWords d m v) w l = tt
initial_living p a t (commands.NewWeak d x) w l = IsLivingOrUnbound-living a.objects (cell_value a t x) (cell_living p a t x w l)
initial_living p a t (commands.NewTable d v b) w l = (AreLiving-nil a.objects, AreLiving-nil a.objects)
initial_living p a t _ w l = tt

-- and has the shape of its kind
pub initial_shape : (a : NamedHeap) (t : ℕ) (c : Command) → IsInRange c → IsShaped (initial_contents a t c)
initial_shape a t (commands.NewCons d x y) r = tt
initial_shape a t (commands.NewVector d m) r = omega (arith, length-replicate m zero_value, r.1)
initial_shape a t (commands.NewInstance d m) r = omega (arith, length-replicate m zero_value, r.1)
initial_shape a t (commands.NewClosure d m) r = omega (arith, length-replicate m zero_value, r.1)
initial_shape a t (commands.NewWords d m w) r = (omega (arith, length-replicate m w, r.1), AreBelow-all (2 ^ 64) m w (omega arith) r.2)
initial_shape a t (commands.NewWeak d x) r = tt
initial_shape a t (commands.NewTable d w b) r = (r.1, r.2, omega arith, λ i j d below inside. absurd (omega arith))
initial_shape a t _ r = (omega arith, AreBelow-nil (2 ^ 64) (omega arith))

-- a thread's open page with room for an object of a type and a size
pub record HasPage (a : NamedHeap) (t : ℕ) (ty : PageType) (size : ℕ) : Type 0 where
  pub page : ℕ
  pub fill : ℕ
  pub open_is : open_page (thread_at a t) ty ≡ Some page
  pub entry : entry_at a.pages page ≡ Used ty 0 fill page 1
  pub room : fill + size ≤ page_words

pub open_entry : (ty : PageType) (page : ℕ) (e : Entry) → IsOpenPage ty page e → e ≡ Used ty 0 (fill_of e) page 1
open_entry ty page Free h = absurd h
open_entry ty page (Used other g fill first n) h = rw (h.0, h.1, h.2, h.3) refl

pub entry_room : (e : Entry) (size : ℕ) → entry_has_room e size ≡ true → fill_of e + size ≤ page_words
entry_room Free size e = absurd (false≢true e)
entry_room (Used ty g fill first n) size e = leb-true (fill + size) page_words e

pub room_page : (pages : List Entry) (o : Option ℕ) (size : ℕ) → page_has_room pages o size ≡ true → (page : ℕ) × (o ≡ Some page) × (fill_of (entry_at pages page) + size ≤ page_words)
room_page pages None size e = absurd (false≢true e)
room_page pages (Some page) size e = (page, refl, entry_room (entry_at pages page) size e)

-- a small object has room on its thread's open page
pub has_page : (p : Program) (a : NamedHeap) (t : ℕ) (kind : Kind) (size : ℕ) → IsWellFormed p a → is_small size ≡ true → has_room a t kind size ≡ true →
    HasPage a t (page_type_of kind) size
has_page p a t kind size w small room =
    let ty = page_type_of kind in
    let in_page : page_has_room a.pages (open_page (thread_at a t) ty) size ≡ true = rw small at room in
    let found = room_page a.pages (open_page (thread_at a t) ty) size in_page in
    record {
      page = found.0;
      fill = fill_of (entry_at a.pages found.0);
      open_is = found.1;
      entry = open_entry ty found.0 (entry_at a.pages found.0) (open_page_used p a t ty found.0 w found.1);
      room = found.2;
    }

-- the heap with other objects, threads and pages
abbrev pub heap_with : NamedHeap → List (Option Object) → List Thread → List Entry → NamedHeap
heap_with a objects threads pages = record a { objects = objects; threads = threads; pages = pages }

-- where a small object goes, and the pages after it
pub place_small : (a : NamedHeap) (t : ℕ) (kind : Kind) (size : ℕ) → is_small size ≡ true → (h : HasPage a t (page_type_of kind) size) →
    place_for a t kind size ≡ page_words * h.page + h.fill
place_small a t kind size small h = rw (small, h.open_is, h.entry) refl

pub pages_small : (a : NamedHeap) (t : ℕ) (kind : Kind) (size : ℕ) → is_small size ≡ true → (h : HasPage a t (page_type_of kind) size) →
    pages_after a t kind size ≡ set a.pages h.page (Used (page_type_of kind) 0 (h.fill + size) h.page 1)
pages_small a t kind size small h = rw (small, h.open_is, h.entry) refl

pub threads_small : (a : NamedHeap) (t : ℕ) (size : ℕ) → is_small size ≡ true → set a.threads t (run_used (thread_at a t) size) ≡ a.threads
threads_small a t size small = rw small (set-get_or a.threads t (ended_thread fresh_thread))

-- the object that a commit makes, when it begins at a place
abbrev pub new_object : NamedHeap → ℕ → Command → ℕ → Object
new_object a t c place = record { generation = 0; place = place; contents = initial_contents a t c }

-- the heap with the object, before the destination refers to it
abbrev pub heap_built : (a : NamedHeap) (t : ℕ) (c : Command) (kind : Kind) (n : ℕ) → HasPage a t (page_type_of kind) (size_of kind n) → NamedHeap
heap_built a t c kind n h = heap_with a (a.objects ++ Some (new_object a t c (page_words * h.page + h.fill)) ∷ []) a.threads
    (set a.pages h.page (Used (page_type_of kind) 0 (h.fill + size_of kind n) h.page 1))

-- The heap after the commit of a small object: the object has the next name and begins at the fill of its
-- thread's open page, which rises by its size, the destination refers to it, and its words are counted.
pub committed-counting : (p : Program) (a : NamedHeap) (t : ℕ) (c : Command) (kind : Kind) (n : ℕ) → is_small (size_of kind n) ≡ true →
    (h : HasPage a t (page_type_of kind) (size_of kind n)) →
    committed p a t c kind n ≡ counting p (with_destination (heap_built a t c kind n h) t (destination_of c) (values.Ref (length a.objects))) t (size_of kind n)
unfolding committed
committed-counting p a t c kind n small h =
    let size = size_of kind n in
    let objects : ℕ → List (Option Object) = λ place. a.objects ++ Some (new_object a t c place) ∷ [] in
    let cell : NamedHeap → NamedHeap = λ b. counting p (with_destination b t (destination_of c) (values.Ref (length a.objects))) t size in
    ap (λ (place : ℕ). cell (heap_with a (objects place) (set a.threads t (run_used (thread_at a t) size)) (pages_after a t kind size))) (place_small a t kind size small h)
    ∙ ap (λ (threads : List Thread). cell (heap_with a (objects (page_words * h.page + h.fill)) threads (pages_after a t kind size))) (threads_small a t size small)
    ∙ ap (λ (pages : List Entry). cell (heap_with a (objects (page_words * h.page + h.fill)) a.threads pages)) (pages_small a t kind size small h)

-- where `auto` is 0
pub committed-small : (p : Program) (a : NamedHeap) (t : ℕ) (c : Command) (kind : Kind) (n : ℕ) → p.auto ≡ 0 → is_small (size_of kind n) ≡ true →
    (h : HasPage a t (page_type_of kind) (size_of kind n)) →
    committed p a t c kind n ≡ with_destination (heap_built a t c kind n h) t (destination_of c) (values.Ref (length a.objects))
committed-small p a t c kind n auto small h =
    committed-counting p a t c kind n small h
    ∙ counting-off p (with_destination (heap_built a t c kind n h) t (destination_of c) (values.Ref (length a.objects))) t (size_of kind n) auto

-- its object goes on that page
pub goes_on : (a : NamedHeap) (t : ℕ) (c : Command) (kind : Kind) (n seed : ℕ) → wish_of c ≡ Make kind n seed → is_small (size_of kind n) ≡ true →
    (h : HasPage a t (page_type_of kind) (size_of kind n)) → GoesOn a.pages (new_object a t c (page_words * h.page + h.fill)) h.page h.fill
goes_on a t c kind n seed wish small h =
    let k = initial_kind a t c kind n seed wish in
    let m = initial_payload a t c kind n seed wish in
    record {
      small = rw (k, m) small;
      young = refl;
      entry = rw k h.entry;
      place = refl;
      room = rw (k, m) h.room;
    }

-- the heap with the object is well-formed
pub built-kept : (p : Program) (a : NamedHeap) (t : ℕ) (c : Command) (kind : Kind) (n seed : ℕ) → IsWellFormed p a → t < length p.threads → IsInRange c →
    wish_of c ≡ Make kind n seed → is_small (size_of kind n) ≡ true → (h : HasPage a t (page_type_of kind) (size_of kind n)) →
    IsWellFormed p (heap_built a t c kind n h)
built-kept p a t c kind n seed w l in_range wish small h =
    let o = new_object a t c (page_words * h.page + h.fill) in
    let k = initial_kind a t c kind n seed wish in
    let m = initial_payload a t c kind n seed wish in
    let kept = pushed-kept p a o h.page h.fill w (goes_on a t c kind n seed wish small h) (initial_living p a t c w l) (initial_shape a t c in_range) in
    let type_is : page_type_of (kind_of o.contents) ≡ page_type_of kind = ap (λ (x : Kind). page_type_of x) k in
    let size_is : words_of_object o ≡ size_of kind n = rw (k, m) refl in
    let same : pages_with a.pages o h.page h.fill ≡ set a.pages h.page (Used (page_type_of kind) 0 (h.fill + size_of kind n) h.page 1) =
    ap (λ (ty : PageType). set a.pages h.page (Used ty 0 (h.fill + words_of_object o) h.page 1)) type_is
    ∙ ap (λ (size : ℕ). set a.pages h.page (Used (page_type_of kind) 0 (h.fill + size) h.page 1)) size_is in
    subst (λ (pages : List Entry). IsWellFormed p (heap_with a (a.objects ++ Some o ∷ []) a.threads pages)) same kept

-- a value that is put where a command wants it keeps a heap well-formed
pub with_destination-kept : (p : Program) (b : NamedHeap) (t : ℕ) (o : Option Cell) (v : Value) → IsWellFormed p b → IsLiving b.objects v →
    IsWellFormed p (with_destination b t o v)
with_destination-kept p b t None v w living = w
with_destination-kept p b t (Some d) v w living = with_cell-kept p b t d v w living

-- the commit of a small object
pub committed_small-kept : (p : Program) (a : NamedHeap) (t : ℕ) (c : Command) (kind : Kind) (n seed : ℕ) → IsWellFormed p a → t < length p.threads → IsInRange c →
    wish_of c ≡ Make kind n seed → is_small (size_of kind n) ≡ true → has_room a t kind (size_of kind n) ≡ true → IsWellFormed p (committed p a t c kind n)
committed_small-kept p a t c kind n seed w l in_range wish small room =
    let h = has_page p a t kind (size_of kind n) w small room in
    let b = heap_built a t c kind n h in
    let o = new_object a t c (page_words * h.page + h.fill) in
    let living : IsLiving b.objects (values.Ref (length a.objects)) = rw (get_or_push a.objects (Some o) None (length a.objects) refl) refl in
    let kept = with_destination-kept p b t (destination_of c) (values.Ref (length a.objects)) (built-kept p a t c kind n seed w l in_range wish small h) living in
    subst (λ (x : NamedHeap). IsWellFormed p x) (sym (committed-counting p a t c kind n small h))
    (counting-kept p (with_destination b t (destination_of c) (values.Ref (length a.objects))) t (size_of kind n) kept)

-- a large object has room in its thread's open run
pub large_run : (p : Program) (a : NamedHeap) (t : ℕ) (kind : Kind) (size : ℕ) → IsWellFormed p a → is_small size ≡ false → has_room a t kind size ≡ true →
    HasRun a t (page_type_of kind) (pages_needed size)
large_run p a t kind size w large room =
    let in_run : run_has_room a.pages (thread_at a t).open_run (page_type_of kind) size ≡ true = rw large at room in
    has_run p a t (page_type_of kind) size w in_run

-- the pages after a large object was put into its run
pub pages_large : (a : NamedHeap) (t : ℕ) (kind : Kind) (size first : ℕ) → is_small size ≡ false → (thread_at a t).open_run ≡ Some first →
    pages_after a t kind size ≡ with_large a.pages first size
pages_large a t kind size first large open_is = rw (large, open_is) refl

-- the heap after the commit of a large object, which uses the run up
pub committed_large-counting : (p : Program) (a : NamedHeap) (t : ℕ) (c : Command) (kind : Kind) (n seed first : ℕ) → wish_of c ≡ Make kind n seed →
    is_small (size_of kind n) ≡ false → (thread_at a t).open_run ≡ Some first →
    committed p a t c kind n
    ≡ counting p (with_destination (heap_put a t (new_object a t c (page_words * first)) first) t (destination_of c) (values.Ref (length a.objects))) t (size_of kind n)
unfolding committed
committed_large-counting p a t c kind n seed first wish large open_is =
    let size = size_of kind n in
    let o = new_object a t c (page_words * first) in
    let cell : NamedHeap → NamedHeap = λ b. counting p (with_destination b t (destination_of c) (values.Ref (length a.objects))) t size in
    let heap : ℕ → Thread → List Entry → NamedHeap = λ place th pages. cell (heap_with a (a.objects ++ Some (new_object a t c place) ∷ []) (set a.threads t th) pages) in
    let size_is : size ≡ words_of_object o = rw (initial_kind a t c kind n seed wish, initial_payload a t c kind n seed wish) refl in
    let at : large_page a t ≡ first = rw open_is refl in
    let place_is : place_for a t kind size ≡ page_words * first = rw large (ap (λ (x : ℕ). page_words * x) at) in
    let thread_is : run_used (thread_at a t) size ≡ without_run (thread_at a t) = rw large refl in
    let pages_are : pages_after a t kind size ≡ with_large a.pages first (words_of_object o) =
    pages_large a t kind size first large open_is ∙ ap (λ (x : ℕ). with_large a.pages first x) size_is in
    ap (λ (x : ℕ). heap x (run_used (thread_at a t) size) (pages_after a t kind size)) place_is
    ∙ ap (λ (x : Thread). heap (page_words * first) x (pages_after a t kind size)) thread_is
    ∙ ap (λ (x : List Entry). heap (page_words * first) (without_run (thread_at a t)) x) pages_are

-- its object goes into that run
pub goes_into : (a : NamedHeap) (t : ℕ) (c : Command) (kind : Kind) (n seed : ℕ) → wish_of c ≡ Make kind n seed → is_small (size_of kind n) ≡ false →
    (h : HasRun a t (page_type_of kind) (pages_needed (size_of kind n))) → GoesInto a.pages (new_object a t c (page_words * h.first)) h.first
goes_into a t c kind n seed wish large h =
    let o = new_object a t c (page_words * h.first) in
    let kind_is = initial_kind a t c kind n seed wish in
    let size_is : words_of_object o ≡ size_of kind n = rw (kind_is, initial_payload a t c kind n seed wish) refl in
    record {
      large = rw size_is large;
      young = refl;
      place = refl;
      inside = rw size_is h.inside;
      each = (let each : (i : ℕ) → i < pages_needed (size_of kind n) → entry_at a.pages (h.first + i) ≡ Used (page_type_of (kind_of o.contents)) 0 0 h.first (pages_needed (size_of kind n)) =
          λ i l. h.each i l ∙ ap (λ (x : Kind). Used (page_type_of x) 0 0 h.first (pages_needed (size_of kind n))) (sym kind_is) in
          rw size_is each);
    }

pub committed_large-kept : (p : Program) (a : NamedHeap) (t : ℕ) (c : Command) (kind : Kind) (n seed : ℕ) → IsWellFormed p a → t < length p.threads → IsInRange c →
    wish_of c ≡ Make kind n seed → is_small (size_of kind n) ≡ false → has_room a t kind (size_of kind n) ≡ true → IsWellFormed p (committed p a t c kind n)
committed_large-kept p a t c kind n seed w l in_range wish large room =
    let h = large_run p a t kind (size_of kind n) w large room in
    let o = new_object a t c (page_words * h.first) in
    let b = heap_put a t o h.first in
    let living : IsLiving b.objects (values.Ref (length a.objects)) = rw (get_or_push a.objects (Some o) None (length a.objects) refl) refl in
    let kept = with_destination-kept p b t (destination_of c) (values.Ref (length a.objects))
    (put-kept p a t o h.first w (goes_into a t c kind n seed wish large h) h.open_is (initial_living p a t c w l) (initial_shape a t c in_range)) living in
    subst (λ (x : NamedHeap). IsWellFormed p x) (sym (committed_large-counting p a t c kind n seed h.first wish large h.open_is))
    (counting-kept p (with_destination b t (destination_of c) (values.Ref (length a.objects))) t (size_of kind n) kept)

-- every commit
pub committed-kept : (p : Program) (a : NamedHeap) (t : ℕ) (c : Command) (kind : Kind) (n seed : ℕ) → IsWellFormed p a → t < length p.threads → IsInRange c →
    wish_of c ≡ Make kind n seed → has_room a t kind (size_of kind n) ≡ true → IsWellFormed p (committed p a t c kind n)
committed-kept p a t c kind n seed w l in_range wish room = elim (cases_Bool (is_small (size_of kind n))) [
  | inl small ↦ committed_small-kept p a t c kind n seed w l in_range wish small room
  | inr large ↦ committed_large-kept p a t c kind n seed w l in_range wish large room
]
