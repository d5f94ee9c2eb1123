-- What is built in a parcel for its owner's command, where it goes, and how it is spelled.
use Rattle.std.proofs.Common.{◌≡◌, ◌≢◌, ℕ, ◌+◌, ◌-◌, ◌*◌, ◌/◌, List, [], map, replicate, subst, ap, ◌∙◌, sym, refl, arith, Option, Some, None, IsSome, Bool, true, false, option_map, inl, inr}
use Rattle.std.proofs.lemmas.Bool.{cases_Bool}
use Rattle.std.specs.Prelude.{IsSomeAnd, if◌then◌else◌}
use Rattle.heap_terms.specs.declared.cells.Cell.{Cell}
use Rattle.heap_terms.specs.declared.commands.Command.{Command}
use Rattle.heap_terms.specs.declared.commands.Command.TheVariants as commands
use Rattle.heap_terms.specs.declared.kinds.Kind.{Kind}
use Rattle.heap_terms.specs.declared.kinds.Kind.TheVariants as kinds
use Rattle.heap_terms.specs.declared.kinds.Weakness.{Weakness}
use Rattle.heap_terms.specs.declared.kinds.Weakness.TheVariants as weaknesses
use Rattle.heap_terms.specs.declared.pages.Entry.{Entry}
use Rattle.heap_terms.specs.declared.pages.Next.{Next}
use Rattle.heap_terms.specs.declared.pages.Next.TheVariants as nexts
use Rattle.heap_terms.specs.declared.programs.Program.{Program}
use Rattle.heap_terms.specs.Fresh.{fresh_contents, weakness_of}
use Rattle.heap_terms.specs.Heap.{NamedHeap, fill_of, zero_value}
use Rattle.heap_terms.specs.Histories.{command_at, next}
use Rattle.heap_terms.specs.Layout.{page_words, page_type_of, size_of, weakness_number}
use Rattle.heap_terms.specs.Objects.{Object, TableOf}
use Rattle.heap_terms.specs.Regions.{Make, has_room, initial_contents, is_small, place_for, wish_of, destination_of}
use Rattle.heap_terms.specs.Spelling.{spelling, with_header, word_of}
use Rattle.heap_terms.specs.WellFormed.{IsWellFormed}
use Rattle.heap_laws.proofs.Allocating.{has_page, large_run, place_small}
use Rattle.heap_laws.proofs.Reading.{map-replicate}
use Rattle.lisp_heap.specs.Agreement.{Agrees, IsBuiltFor, accepted_for, run_out}
use Rattle.lisp_heap.specs.Commits.{IsCommit}
use Rattle.lisp_heap.specs.ParcelView.{ParcelView, LeaseView, HasBuilt, region_for, small_region, with_accepted}
use Rattle.lisp_heap.specs.View.{View, heap_of, next_of}
use Rattle.lisp_heap.specs.Wishes.{wish_for}
use Rattle.lisp_heap.specs.WorldSound.{IsSound, view_of}
use Rattle.lisp_heap.specs.declared.parcels.Making.{Making}
use Rattle.lisp_heap.specs.declared.parcels.RegionPlace.{RegionPlace}
use Rattle.lisp_heap.specs.declared.world.World.TheInside.{Inside}
use Rattle.lisp_heap.proofs.Lending.{wished_some}
use Rattle.lisp_heap.proofs.Nexts.{small_on}
use Rattle.lisp_heap.proofs.Rooms.{some_place}
use Rattle.lisp_heap.proofs.Soundness.{heap, well_formed}
use Rattle.lisp_heap.proofs.Wanted.{builds_wish}
use Rattle.lisp_heap.proofs.Wishing.{build_command}

-- what is built for the owner's command is what the command wants made
pub record IsMadeFor (s : Inside) (q : ParcelView) (m : Making) : Type 0 where
  pub builds : next s.program (heap s) q.owner ≡ nexts.Build m.kind m.n m.seed
  pub built : HasBuilt q m.kind m.n m.seed
  pub room : has_room (heap s) q.owner m.kind (size_of m.kind m.n) ≡ true

made_by : (s : Inside) (q : ParcelView) (c : Command) (m : Making) (x : Next) → next s.program (heap s) q.owner ≡ x → IsBuiltFor x q →
    command_at s.program (heap s) q.owner ≡ Some c → wish_of c ≡ Make m.kind m.n m.seed → IsMadeFor s q m
made_by s q c m (nexts.Build kind n seed) e built at wish =
    let found = builds_wish s.program (heap s) q.owner c kind n seed at e in
    let same : Make kind n seed ≡ Make m.kind m.n m.seed = sym found.0 ∙ wish in
    let same_kind : kind ≡ m.kind = cc in
    let same_n : n ≡ m.n = cc in
    let same_seed : seed ≡ m.seed = cc in
    record {
      builds = e ∙ ap (λ (k : Kind). nexts.Build k n seed) same_kind ∙ ap (λ (k : ℕ). nexts.Build m.kind k seed) same_n ∙ ap (λ (k : ℕ). nexts.Build m.kind m.n k) same_seed;
      built = subst (λ (k : ℕ). HasBuilt q m.kind m.n k) same_seed (subst (λ (k : ℕ). HasBuilt q m.kind k seed) same_n (subst (λ (k : Kind). HasBuilt q k n seed) same_kind built));
      room = subst (λ (k : ℕ). has_room (heap s) q.owner m.kind (size_of m.kind k) ≡ true) same_n
          (subst (λ (k : Kind). has_room (heap s) q.owner k (size_of k n) ≡ true) same_kind found.1);
    }
made_by s q c m nexts.Simple e built at wish = absurd built
made_by s q c m nexts.Open e built at wish = absurd built
made_by s q c m (nexts.Collect last) e built at wish = absurd built
made_by s q c m nexts.End e built at wish = absurd built
made_by s q c m nexts.Done e built at wish = absurd built

pub made_for : (s : Inside) (w : View) → view_of s ≡ w → (q : ParcelView) (c : Command) (m : Making) → IsBuiltFor (next_of w q.owner) q →
    command_at w.program (heap_of w) q.owner ≡ Some c → wish_of c ≡ Make m.kind m.n m.seed → IsMadeFor s q m
made_for s w e q c m built at wish =
    made_by s q c m (next s.program (heap s) q.owner) refl (subst (λ (v : View). IsBuiltFor (next_of v q.owner) q) (sym e) built)
    (subst (λ (v : View). command_at v.program (heap_of v) q.owner ≡ Some c) (sym e) at) wish

-- the owner has a command, which wants an object
built_by : (s : Inside) (q : ParcelView) (x : Next) → next s.program (heap s) q.owner ≡ x → IsBuiltFor x q → IsSome (command_at s.program (heap s) q.owner)
built_by s q (nexts.Build kind n seed) e built = build_command s.program (heap s) q.owner kind n seed e
built_by s q nexts.Simple e built = absurd built
built_by s q nexts.Open e built = absurd built
built_by s q (nexts.Collect last) e built = absurd built
built_by s q nexts.End e built = absurd built
built_by s q nexts.Done e built = absurd built

pub built_command : (s : Inside) (w : View) → view_of s ≡ w → (q : ParcelView) (t : ℕ) → t ≡ q.owner → IsBuiltFor (next_of w q.owner) q →
    IsSome (command_at w.program (heap_of w) t)
built_command s w e q t owner built =
    subst (λ (u : ℕ). IsSome (command_at w.program (heap_of w) u)) (sym owner)
    (subst (λ (v : View). IsSome (command_at v.program (heap_of v) q.owner)) e
    (built_by s q (next s.program (heap s) q.owner) refl (subst (λ (v : View). IsBuiltFor (next_of v q.owner) q) (sym e) built)))

wished_by : (s : Inside) (q : ParcelView) (c : Command) (o : Option Making) (x : Next) → next s.program (heap s) q.owner ≡ x → IsBuiltFor x q →
    command_at s.program (heap s) q.owner ≡ Some c → wish_for o ≡ wish_of c → IsSome o
wished_by s q c o (nexts.Build kind n seed) e built at told =
    let found = builds_wish s.program (heap s) q.owner c kind n seed at e in
    wished_some o (wish_of c) told (λ nothing. (let made = found.0 in cc))
wished_by s q c o nexts.Simple e built at told = absurd built
wished_by s q c o nexts.Open e built at told = absurd built
wished_by s q c o (nexts.Collect last) e built at told = absurd built
wished_by s q c o nexts.End e built at told = absurd built
wished_by s q c o nexts.Done e built at told = absurd built

pub built_wish : (s : Inside) (w : View) → view_of s ≡ w → (q : ParcelView) (c : Command) (o : Option Making) → IsBuiltFor (next_of w q.owner) q →
    command_at w.program (heap_of w) q.owner ≡ Some c → wish_for o ≡ wish_of c → IsSome o
built_wish s w e q c o built at told =
    wished_by s q c o (next s.program (heap s) q.owner) refl (subst (λ (v : View). IsBuiltFor (next_of v q.owner) q) (sym e) built)
    (subst (λ (v : View). command_at v.program (heap_of v) q.owner ≡ Some c) (sym e) at) told

some_region : (o : Option LeaseView) (P : LeaseView → Type 0) → IsSomeAnd o P → IsSome o
some_region None P h = absurd h
some_region (Some r) P h = refl

pub region_there : (q : ParcelView) (m : Making) → HasBuilt q m.kind m.n m.seed → IsSome (region_for q m.kind m.n)
region_there q m h = some_region (region_for q m.kind m.n) (λ r. r.built ≡ Some m) h

-- it goes where its region is filled to
small_place : (p : Program) (a : NamedHeap) (q : ParcelView) (kind : Kind) (n index : ℕ) → IsWellFormed p a → Agrees a q → is_small (size_of kind n) ≡ true →
    has_room a q.owner kind (size_of kind n) ≡ true → ((r : LeaseView) → small_region q (page_type_of kind) ≡ Some r → index ≡ r.next) →
    index ≡ place_for a q.owner kind (size_of kind n)
small_place p a q kind n index wf agrees small room said =
    let page = has_page p a q.owner kind (size_of kind n) wf small room in
    let region = small_on a q (page_type_of kind) page.page agrees page.open_is in
    said (region.0) region.1 ∙ ap (λ (z : RegionPlace). z.next) region.2 ∙ ap (λ (e : Entry). page_words * page.page + fill_of e) page.entry
    ∙ sym (place_small a q.owner kind (size_of kind n) small page)

large_place : (p : Program) (a : NamedHeap) (q : ParcelView) (kind : Kind) (n index : ℕ) → IsWellFormed p a → Agrees a q → is_small (size_of kind n) ≡ false →
    has_room a q.owner kind (size_of kind n) ≡ true → ((r : LeaseView) → q.run ≡ Some r → index ≡ r.next) → index ≡ place_for a q.owner kind (size_of kind n)
large_place p a q kind n index wf agrees large room said =
    let run = large_run p a q.owner kind (size_of kind n) wf large room in
    let region = some_place q.run (run_out a.pages run.first) (agrees.run ∙ ap (option_map (run_out a.pages)) run.open_is) in
    let place : place_for a q.owner kind (size_of kind n) ≡ page_words * run.first = rw (large, run.open_is) refl in
    said (region.0) region.1 ∙ ap (λ (z : RegionPlace). z.next) region.2 ∙ sym place

pub made_place : (s : Inside) (w : View) → IsSound s → view_of s ≡ w → (q : ParcelView) (m : Making) (index : ℕ) → IsMadeFor s q m → Agrees (heap_of w) q →
    ((r : LeaseView) → region_for q m.kind m.n ≡ Some r → index ≡ r.next) → index ≡ place_for (heap_of w) q.owner m.kind (size_of m.kind m.n)
made_place s w h e q m index f agrees said =
    let here = subst (λ (v : View). Agrees (heap_of v) q) (sym e) agrees in
    subst (λ (v : View). index ≡ place_for (heap_of v) q.owner m.kind (size_of m.kind m.n)) e (elim (cases_Bool (is_small (size_of m.kind m.n))) [
      | inl small ↦ small_place s.program (heap s) q m.kind m.n index (well_formed s h) here small f.room (λ r at. said r (chosen small at))
      | inr large ↦ large_place s.program (heap s) q m.kind m.n index (well_formed s h) here large f.room (λ r at. said r (chosen large at))
    ])
  where
    chosen : {b : Bool} {r : LeaseView} → is_small (size_of m.kind m.n) ≡ b →
        (if b then small_region q (page_type_of m.kind) else q.run) ≡ Some r → region_for q m.kind m.n ≡ Some r
    chosen is at = rw is at

-- so it can be committed
pub made_commit : (s : Inside) (w : View) → IsSound s → view_of s ≡ w → (q : ParcelView) (c : Command) (d : Cell) (m : Making) (t index : ℕ) → IsMadeFor s q m → Agrees (heap_of w) q →
    t ≡ q.owner → command_at w.program (heap_of w) q.owner ≡ Some c → wish_of c ≡ Make m.kind m.n m.seed → destination_of c ≡ Some d →
    ((r : LeaseView) → region_for q m.kind m.n ≡ Some r → index ≡ r.next) → IsCommit w t c d index m.kind m.n
made_commit s w h e q c d m t index f agrees owner at wish destination said =
    subst (λ (u : ℕ). IsCommit w u c d index m.kind m.n) (sym owner) (record {
      seed = m.seed;
      command = at;
      wish = wish;
      builds = subst (λ (v : View). next_of v q.owner ≡ nexts.Build m.kind m.n m.seed) e f.builds;
      destination = destination;
      place = made_place s w h e q m index f agrees said;
    })

-- and the parcel accepts it
pub made_accepted : (s : Inside) (w : View) → view_of s ≡ w → (q : ParcelView) (m : Making) → IsMadeFor s q m →
    with_accepted q m.kind m.n ≡ accepted_for (next_of w q.owner) q
made_accepted s w e q m f =
    ap (λ (x : Next). accepted_for x q) (sym (subst (λ (v : View). next_of v q.owner ≡ nexts.Build m.kind m.n m.seed) e f.builds))

-- what a command wants made, as code tells it
pub wish_told : (o : Option Making) (c : Command) (m : Making) → wish_for o ≡ wish_of c → o ≡ Some m → wish_of c ≡ Make m.kind m.n m.seed
wish_told o c m e is = sym e ∙ ap wish_for is

-- ---- a region builds the words that an object without references of its own begins with

zeros_same : (objects : List (Option Object)) (n : ℕ) → map (word_of []) (replicate n zero_value) ≡ map (word_of objects) (replicate n zero_value)
zeros_same objects n = map-replicate (word_of []) n zero_value ∙ sym (map-replicate (word_of objects) n zero_value)

weakness_back : (w : Weakness) → weakness_of (weakness_number w) ≡ w
weakness_back weaknesses.Strong = refl
weakness_back weaknesses.Key = refl
weakness_back weaknesses.Value = refl
weakness_back weaknesses.KeyAndValue = refl
weakness_back weaknesses.KeyOrValue = refl

-- the contents by the wish that says the same
same_wish : (k : Kind) (m x : ℕ) (kind : Kind) (n seed : ℕ) → Make k m x ≡ Make kind n seed → fresh_contents kind n seed ≡ fresh_contents k m x
same_wish k m x kind n seed e =
    let same_kind : kind ≡ k = cc in
    let same_n : n ≡ m = cc in
    let same_seed : seed ≡ x = cc in
    ap (λ (z : Kind). fresh_contents z n seed) same_kind ∙ ap (λ (z : ℕ). fresh_contents k z seed) same_n ∙ ap (λ (z : ℕ). fresh_contents k m z) same_seed

pub fresh_spelled : (objects : List (Option Object)) (a : NamedHeap) (t : ℕ) (c : Command) (kind : Kind) (n seed : ℕ) → wish_of c ≡ Make kind n seed →
    kind ≢ kinds.Cons → ((x y : Cell) → c ≡ commands.NewWeak x y → ⊥) →
    spelling [] (fresh_contents kind n seed) ≡ spelling objects (initial_contents a t c)
fresh_spelled objects a t (commands.NewCons x y z) kind n seed e no_cons no_weak = absurd (no_cons cc)
fresh_spelled objects a t (commands.NewVector x m) kind n seed e no_cons no_weak =
    ap (spelling []) (same_wish kinds.Vector m 0 kind n seed e) ∙ ap (with_header kinds.Vector) (zeros_same objects m)
fresh_spelled objects a t (commands.NewInstance x m) kind n seed e no_cons no_weak =
    ap (spelling []) (same_wish kinds.Instance m 0 kind n seed e) ∙ ap (with_header kinds.Instance) (zeros_same objects m)
fresh_spelled objects a t (commands.NewClosure x m) kind n seed e no_cons no_weak =
    ap (spelling []) (same_wish kinds.Closure m 0 kind n seed e) ∙ ap (with_header kinds.Closure) (zeros_same objects m)
fresh_spelled objects a t (commands.NewWords x m w) kind n seed e no_cons no_weak =
    ap (spelling []) (same_wish kinds.Words m w kind n seed e)
fresh_spelled objects a t (commands.NewWeak x y) kind n seed e no_cons no_weak = absurd (no_weak x y refl)
fresh_spelled objects a t (commands.NewTable x w b) kind n seed e no_cons no_weak =
    let half : (3 + 4 * b - 3) / 4 ≡ b = omega arith in
    ap (spelling []) (same_wish kinds.Table (3 + 4 * b) (weakness_number w) kind n seed e)
    ∙ ap (λ (k : ℕ). spelling [] (TableOf (weakness_of (weakness_number w)) k [])) half
    ∙ ap (λ (k : Weakness). spelling [] (TableOf k b [])) (weakness_back w)
fresh_spelled objects a t _ kind n seed e no_cons no_weak = cc
