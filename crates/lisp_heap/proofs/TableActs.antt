-- The commands on tables carried out on the words of a sound World.
use Rattle.std.proofs.Common.{◌≡◌, ℕ, ◌<◌, List, [], ◌∷◌, ◌++◌, length, map, refl, sym, ◌∙◌, ap, subst, Option, Some, Bool}
use Rattle.std.specs.Option.{ForSome}
use Rattle.heap_terms.specs.declared.answers.Answer.{Answer}
use Rattle.heap_terms.specs.declared.cells.Cell.{Cell}
use Rattle.heap_terms.specs.declared.commands.Command.{Command}
use Rattle.heap_terms.specs.declared.commands.Command.TheVariants as commands
use Rattle.heap_terms.specs.declared.events.Event.{Event}
use Rattle.heap_terms.specs.declared.events.Event.TheVariants.{Did}
use Rattle.heap_terms.specs.declared.kinds.Kind.TheVariants as kinds
use Rattle.heap_terms.specs.declared.pages.Next.TheVariants as nexts
use Rattle.heap_terms.specs.declared.programs.Program.{Program}
use Rattle.heap_terms.specs.Cells.{cell_value}
use Rattle.heap_terms.specs.Histories.{Lawful, after, command_at, next, replay}
use Rattle.heap_terms.specs.Valid.{IsValid}
use Rattle.heap_terms.specs.Spelling.{word_of}
use Rattle.eq_index.specs.Answers.{Inserts, LooksUp, Removes}
use Rattle.eq_index.specs.Tables.{PairWords, IsTable, HasTable, Becomes}
use Rattle.eq_index.specs.declared.inserting.Inserted.{Inserted}
use Rattle.lisp_heap.specs.Agreement.{Agrees}
use Rattle.lisp_heap.specs.Events.{Happens}
use Rattle.lisp_heap.specs.LivingWords.{IsOfKind}
use Rattle.lisp_heap.specs.LookUps.{IsFound, answer_after_insert, answer_after_remove}
use Rattle.lisp_heap.specs.ParcelView.{ParcelView}
use Rattle.lisp_heap.specs.Parts.{Parts}
use Rattle.lisp_heap.specs.Plan.{IsPlan, states_after}
use Rattle.lisp_heap.specs.Standing.{Holds}
use Rattle.lisp_heap.specs.State.{advanced}
use Rattle.lisp_heap.specs.View.{View, heap_of, next_of}
use Rattle.lisp_heap.specs.WorldSound.{IsSound, IsRoomFor, parts_of, view_of}
use Rattle.lisp_heap.specs.declared.plan.Change.{Change}
use Rattle.lisp_heap.specs.declared.world.World.TheInside.{Inside}
use Rattle.lisp_heap.proofs.PerformLemmas.{parts_after}
use Rattle.lisp_heap.proofs.Soundness.{heap}
use Rattle.lisp_heap.proofs.Stepping.{did_next, did_holds, did_agrees, sound_after, happens_after, agrees_after}
use Rattle.lisp_heap.proofs.TablePlans.{put_done, remove_done, found_is, looked_up}
use Rattle.lisp_heap.proofs.TableReading.{stands_in, stands_table}
use Rattle.lisp_heap.proofs.TablesHere.{in_words}
use Rattle.lisp_heap.proofs.TableSteps.{IsDoneInSpace, space_next, space_holds, space_agrees}
use Rattle.lisp_heap.proofs.WordReading.{cell_living_in, thread_in}

-- the cell refers to a table at an index
abbrev pub RefersToTable : View → ℕ → Cell → ℕ → Type 0
RefersToTable w t c index = IsOfKind (heap_of w).objects (cell_value (heap_of w) t c) kinds.Table (Some index)

-- a word is that of a cell
abbrev pub IsInCell : View → ℕ → Cell → ℕ → Type 0
IsInCell w t c word = word ≡ word_of (heap_of w).objects (cell_value (heap_of w) t c)

pub table_there : (s : Inside) (w : View) → IsSound s → view_of s ≡ w → (t : ℕ) (c : Cell) (index : ℕ) → RefersToTable w t c index → HasTable s.space index
table_there s w h e t c index f =
    let st = stands_table s w h e (cell_value (heap_of w) t c) index f in
    record { b = st.b; pairs = map (in_words (heap s).objects) st.pairs; is = st.words }

-- ---- `tput`

abbrev pub InsertsThere : Inside → ℕ → ℕ → ℕ → Inserted → List ℕ → Type 0
InsertsThere s index key value result new = (b : ℕ) (pairs : List PairWords) → IsTable s.space index b pairs →
    (after : List PairWords) × Inserts b pairs (record { key = key; value = value }) result after × Becomes s.space new index b after

put_in : (s : Inside) → IsSound s → (t : ℕ) (c k v : Cell) (index key value : ℕ) (result : Inserted) (new : List ℕ) → t < length s.program.threads →
    command_at s.program (heap s) t ≡ Some (commands.TablePut c k v) → next s.program (heap s) t ≡ nexts.Simple → RefersToTable (view_of s) t c index →
    IsInCell (view_of s) t k key → IsInCell (view_of s) t v value → InsertsThere s index key value result new → IsDoneInSpace s t (commands.TablePut c k v) (answer_after_insert result) new
put_in s h t c k v index key value result new lt at simple f key_is value_is act =
    let st = stands_in s h (cell_value (heap s) t c) index f in
    let objects = (heap s).objects in
    let did = act st.b (map (in_words objects) st.pairs) st.words in
    let pair : PairWords = record { key = key; value = value } in
    let pair_is : pair ≡ in_words objects (cell_value (heap s) t k, cell_value (heap s) t v) =
    ap (λ (x : ℕ). record { key = x; value = value }) key_is ∙ ap (λ (x : ℕ). record { key = word_of objects (cell_value (heap s) t k); value = x }) value_is in
    put_done s h t c st.object st.w st.b st.pairs st.refers st.contents new lt k v result did.0 at simple (cell_living_in s h t k lt)
    (subst (λ (p : PairWords). Inserts st.b (map (in_words objects) st.pairs) p result did.0) pair_is did.1)
    (subst (λ (n : ℕ). Becomes s.space new n st.b did.0) st.place did.2)

pub put_there : (s : Inside) (w : View) → IsSound s → view_of s ≡ w → (t : ℕ) (c k v : Cell) (index key value : ℕ) (result : Inserted) (new : List ℕ) → t < length w.program.threads →
    command_at w.program (heap_of w) t ≡ Some (commands.TablePut c k v) → next_of w t ≡ nexts.Simple → RefersToTable w t c index →
    IsInCell w t k key → IsInCell w t v value → InsertsThere s index key value result new → IsDoneInSpace s t (commands.TablePut c k v) (answer_after_insert result) new
put_there s w h e t c k v index key value result new =
    subst (λ (x : View). t < length x.program.threads → command_at x.program (heap_of x) t ≡ Some (commands.TablePut c k v) → next_of x t ≡ nexts.Simple → RefersToTable x t c index →
    IsInCell x t k key → IsInCell x t v value → InsertsThere s index key value result new → IsDoneInSpace s t (commands.TablePut c k v) (answer_after_insert result) new) e
    (put_in s h t c k v index key value result new)

-- ---- `trem`

abbrev pub RemovesThere : Inside → ℕ → ℕ → Bool → List ℕ → Type 0
RemovesThere s index key result new = (b : ℕ) (pairs : List PairWords) → IsTable s.space index b pairs →
    (after : List PairWords) × Removes pairs key result after × Becomes s.space new index b after

remove_in : (s : Inside) → IsSound s → (t : ℕ) (c k : Cell) (index key : ℕ) (result : Bool) (new : List ℕ) → t < length s.program.threads →
    command_at s.program (heap s) t ≡ Some (commands.TableRem c k) → next s.program (heap s) t ≡ nexts.Simple → RefersToTable (view_of s) t c index →
    IsInCell (view_of s) t k key → RemovesThere s index key result new → IsDoneInSpace s t (commands.TableRem c k) (answer_after_remove result) new
remove_in s h t c k index key result new lt at simple f key_is act =
    let st = stands_in s h (cell_value (heap s) t c) index f in
    let objects = (heap s).objects in
    let did = act st.b (map (in_words objects) st.pairs) st.words in
    remove_done s h t c st.object st.w st.b st.pairs st.refers st.contents new lt k result did.0 at simple (cell_living_in s h t k lt)
    (subst (λ (x : ℕ). Removes (map (in_words objects) st.pairs) x result did.0) key_is did.1)
    (subst (λ (n : ℕ). Becomes s.space new n st.b did.0) st.place did.2)

pub remove_there : (s : Inside) (w : View) → IsSound s → view_of s ≡ w → (t : ℕ) (c k : Cell) (index key : ℕ) (result : Bool) (new : List ℕ) → t < length w.program.threads →
    command_at w.program (heap_of w) t ≡ Some (commands.TableRem c k) → next_of w t ≡ nexts.Simple → RefersToTable w t c index →
    IsInCell w t k key → RemovesThere s index key result new → IsDoneInSpace s t (commands.TableRem c k) (answer_after_remove result) new
remove_there s w h e t c k index key result new =
    subst (λ (x : View). t < length x.program.threads → command_at x.program (heap_of x) t ≡ Some (commands.TableRem c k) → next_of x t ≡ nexts.Simple → RefersToTable x t c index →
    IsInCell x t k key → RemovesThere s index key result new → IsDoneInSpace s t (commands.TableRem c k) (answer_after_remove result) new) e
    (remove_in s h t c k index key result new)

-- the command of a view is that of its fields
pub command_in : (s : Inside) (w : View) → view_of s ≡ w → (t : ℕ) (c : Command) → command_at w.program (heap_of w) t ≡ Some c → command_at s.program (heap s) t ≡ Some c
command_in s w e t c at = subst (λ (x : View). command_at x.program (heap_of x) t ≡ Some c) (sym e) at

pub simple_in : (s : Inside) (w : View) → view_of s ≡ w → (t : ℕ) → next_of w t ≡ nexts.Simple → next s.program (heap s) t ≡ nexts.Simple
simple_in s w e t is = subst (λ (x : View). next_of x t ≡ nexts.Simple) (sym e) is

pub plan_in : (s : Inside) (w : View) → view_of s ≡ w → (t : ℕ) (c : Command) (answer : Answer) (change : Change) → IsPlan (heap_of w) t c answer change → IsPlan (heap s) t c answer change
plan_in s w e t c answer change is = subst (λ (x : View). IsPlan (heap_of x) t c answer change) (sym e) is

-- ---- the end of both

-- what the fields are after the call
pub record Ends (s r : Inside) (t : ℕ) (c : Command) (answer : Answer) (words : List ℕ) : Type 0 where
  pub program : r.program ≡ s.program
  pub history : r.history.items ≡ s.history.items ++ Did t c answer ∷ []
  pub parts : parts_of r ≡ record (parts_of s) { words = words; states = advanced s.states t }
  pub scratch : ForSome r.scratch (IsRoomFor r.program)

module _ (s : Inside) (w : View) (h : IsSound s) (e : view_of s ≡ w) (t : ℕ) (c : Command) (answer : Answer) (words : List ℕ) (lt : t < length w.program.threads)
    (at : command_at w.program (heap_of w) t ≡ Some c) (simple : next_of w t ≡ nexts.Simple) (is : IsDoneInSpace s t c answer words) (r : Inside) (ends : Ends s r t c answer words) where
  pub ends_sound : IsSound r
  ends_sound = sound_after s r (Did t c answer) h ends.program ends.history (space_next s h t c answer words (thread_in s w e t lt) (command_in s w e t c at) (simple_in s w e t simple) is) ends.scratch
      (subst (λ (v : Parts). Holds (after s.program (heap s) (Did t c answer)) v) (sym ends.parts) (space_holds s h t c answer words (thread_in s w e t lt) (command_in s w e t c at) (simple_in s w e t simple) is))

  pub ends_happens : Happens t w (view_of r)
  ends_happens = happens_after s r w t (Did t c answer) e ends.program ends.history refl (space_next s h t c answer words (thread_in s w e t lt) (command_in s w e t c at) (simple_in s w e t simple) is) ends_sound

  pub ends_agrees : (q : ParcelView) → Agrees (heap_of w) q → Agrees (heap_of (view_of r)) q
  ends_agrees q = agrees_after s r w (Did t c answer) q q e ends.program ends.history (space_agrees s h t c answer words (thread_in s w e t lt) (command_in s w e t c at) (simple_in s w e t simple) is q)

-- ---- `tget`

abbrev pub LooksUpThere : Inside → ℕ → ℕ → Option ℕ → Type 0
LooksUpThere s index key found = (b : ℕ) (pairs : List PairWords) → IsTable s.space index b pairs → LooksUp pairs key found

abbrev pub StaysThere : Inside → ℕ → List ℕ → Type 0
StaysThere s index new = (b : ℕ) (pairs : List PairWords) → IsTable s.space index b pairs → Becomes s.space new index b pairs

found_in : (s : Inside) → IsSound s → (t : ℕ) (c k : Cell) (index key : ℕ) (found : Option ℕ) → t < length s.program.threads → RefersToTable (view_of s) t c index →
    IsInCell (view_of s) t k key → LooksUpThere s index key found → IsFound (heap s) t c k found
found_in s h t c k index key found lt f key_is act =
    let st = stands_in s h (cell_value (heap s) t c) index f in
    let objects = (heap s).objects in
    found_is s h t c st.object st.w st.b st.pairs st.refers st.contents k found (cell_living_in s h t k lt)
    (subst (λ (x : ℕ). LooksUp (map (in_words objects) st.pairs) x found) key_is (act st.b (map (in_words objects) st.pairs) st.words))

pub found_there : (s : Inside) (w : View) → IsSound s → view_of s ≡ w → (t : ℕ) (c k : Cell) (index key : ℕ) (found : Option ℕ) → t < length w.program.threads → RefersToTable w t c index →
    IsInCell w t k key → LooksUpThere s index key found → IsFound (heap_of w) t c k found
found_there s w h e t c k index key found =
    subst (λ (x : View). t < length x.program.threads → RefersToTable x t c index → IsInCell x t k key → LooksUpThere s index key found → IsFound (heap_of x) t c k found) e
    (found_in s h t c k index key found)

stays_in : (s : Inside) → IsSound s → (t : ℕ) (c : Cell) (index : ℕ) (new : List ℕ) → RefersToTable (view_of s) t c index → StaysThere s index new → Holds (heap s) (record (parts_of s) { words = new })
stays_in s h t c index new f act =
    let st = stands_in s h (cell_value (heap s) t c) index f in
    looked_up s h t c st.object st.w st.b st.pairs st.refers st.contents new
    (subst (λ (n : ℕ). Becomes s.space new n st.b (map (in_words (heap s).objects) st.pairs)) st.place (act st.b (map (in_words (heap s).objects) st.pairs) st.words))

pub stays_there : (s : Inside) (w : View) → IsSound s → view_of s ≡ w → (t : ℕ) (c : Cell) (index : ℕ) (new : List ℕ) → RefersToTable w t c index → StaysThere s index new →
    Holds (heap s) (record (parts_of s) { words = new })
stays_there s w h e t c index new f = stays_in s h t c index new (subst (λ (x : View). RefersToTable x t c index) (sym e) f)

-- the same World with other words that stand for the same heap
abbrev pub with_words : Inside → List ℕ → Inside
with_words s new = record s { space = new }

pub still_sound : (s : Inside) (new : List ℕ) → IsSound s → Holds (heap s) (record (parts_of s) { words = new }) → IsSound (with_words s new)
still_sound s new h holds = record { valid = h.valid; lawful = h.lawful; holds = holds; scratch = h.scratch }

record IsSoundAt (p : Program) (es : List Event) (v : Parts) : Type 0 where
  lawful : Lawful p es
  holds : Holds (replay p es) v

-- fields whose history has the same events
pub same_sound : (s r : Inside) → IsSound s → r.program ≡ s.program → r.history.items ≡ s.history.items → parts_of r ≡ parts_of s → ForSome r.scratch (IsRoomFor r.program) → IsSound r
same_sound s r h program history parts scratch =
    let on : IsSoundAt s.program s.history.items (parts_of s) = record { lawful = h.lawful; holds = h.holds } in
    let two : IsSoundAt s.program r.history.items (parts_of s) = subst (λ (es : List Event). IsSoundAt s.program es (parts_of s)) (sym history) on in
    let three : IsSoundAt r.program r.history.items (parts_of s) = subst (λ (p : Program). IsSoundAt p r.history.items (parts_of s)) (sym program) two in
    let all : IsSoundAt r.program r.history.items (parts_of r) = subst (λ (v : Parts). IsSoundAt r.program r.history.items v) (sym parts) three in
    record { valid = subst IsValid (sym program) h.valid; lawful = all.lawful; holds = all.holds; scratch = scratch }

-- a plan, as it is made where the history has the same events
pub plan_of : (s : Inside) (w : View) → view_of s ≡ w → (es : List Event) → es ≡ s.history.items → (t : ℕ) (c : Command) (answer : Answer) (change : Change) →
    IsPlan (replay s.program es) t c answer change → IsPlan (heap_of w) t c answer change
plan_of s w e es same t c answer change is =
    subst (λ (x : View). IsPlan (heap_of x) t c answer change) e (subst (λ (xs : List Event). IsPlan (replay s.program xs) t c answer change) same is)

-- what the fields are after a `tget`
pub record EndsPlan (s r : Inside) (new : List ℕ) (t : ℕ) (c : Command) (answer : Answer) (change : Change) : Type 0 where
  pub program : r.program ≡ s.program
  pub history : r.history.items ≡ s.history.items ++ Did t c answer ∷ []
  pub parts : parts_of r ≡ record (parts_after (parts_of (with_words s new)) t change) { states = advanced (states_after s.states t change) t }
  pub scratch : ForSome r.scratch (IsRoomFor r.program)

module _ (s : Inside) (w : View) (h : IsSound s) (e : view_of s ≡ w) (new : List ℕ) (holds : Holds (heap s) (record (parts_of s) { words = new })) (t : ℕ) (c : Command) (answer : Answer) (change : Change)
    (lt : t < length w.program.threads) (at : command_at w.program (heap_of w) t ≡ Some c) (simple : next_of w t ≡ nexts.Simple) (is : IsPlan (heap_of w) t c answer change) (r : Inside) (ends : EndsPlan s r new t c answer change) where
  pub plan_sound : IsSound r
  plan_sound = sound_after s r (Did t c answer) h ends.program ends.history (did_next (with_words s new) (still_sound s new h holds) t c answer change (thread_in s w e t lt) (command_in s w e t c at) (simple_in s w e t simple) (plan_in s w e t c answer change is)) ends.scratch
      (subst (λ (v : Parts). Holds (after s.program (heap s) (Did t c answer)) v) (sym ends.parts) (did_holds (with_words s new) (still_sound s new h holds) t c answer change (thread_in s w e t lt) (command_in s w e t c at) (simple_in s w e t simple) (plan_in s w e t c answer change is)))

  pub plan_happens : Happens t w (view_of r)
  plan_happens = happens_after s r w t (Did t c answer) e ends.program ends.history refl (did_next (with_words s new) (still_sound s new h holds) t c answer change (thread_in s w e t lt) (command_in s w e t c at) (simple_in s w e t simple) (plan_in s w e t c answer change is)) plan_sound

  pub plan_agrees : (q : ParcelView) → Agrees (heap_of w) q → Agrees (heap_of (view_of r)) q
  plan_agrees q = agrees_after s r w (Did t c answer) q q e ends.program ends.history (did_agrees (with_words s new) (still_sound s new h holds) t c answer change (thread_in s w e t lt) (command_in s w e t c at) (simple_in s w e t simple) (plan_in s w e t c answer change is) q)
