-- A pass keeps a heap well-formed: what cells hold is live, and stays.
use Rattle.std.proofs.Common.{◌≡◌, ℕ, ◌≤◌, ◌++◌, length, get_or, map, Option, Some, None, Bool, true, false, inl, inr, refl, sym, ◌∙◌, subst, ap, arith}
use Rattle.std.proofs.lemmas.Bool.{cases_lt, false≢true, eq-eqb}
use Rattle.std.proofs.lemmas.List.Folds.{list_any_at}
use Rattle.std.proofs.lemmas.List.{get_or-map, length-map, get_or_past}
use Rattle.std.specs.List.{list_any}
use Rattle.std.specs.Prelude.{◌||◌, ◌==◌, if◌then◌else◌, IsSome}
use Rattle.heap_terms.specs.declared.cells.Value.{Value}
use Rattle.heap_terms.specs.declared.cells.Value.TheVariants as values
use Rattle.heap_terms.specs.declared.events.PassRecord.{PassRecord}
use Rattle.heap_terms.specs.declared.kinds.PageType.{PageType}
use Rattle.heap_terms.specs.declared.pages.Entry.{Entry}
use Rattle.heap_terms.specs.declared.pages.Entry.TheVariants.{Free, Used}
use Rattle.heap_terms.specs.declared.programs.Program.{Program}
use Rattle.heap_terms.specs.Heap.{NamedHeap, Thread, object_at, entry_at, thread_at, open_page, ended_thread, fresh_thread, zero_value}
use Rattle.heap_terms.specs.Layout.{reference_word}
use Rattle.heap_terms.specs.Live.{is_live, AreLive}
use Rattle.heap_terms.specs.Objects.{Object, kind_of}
use Rattle.heap_terms.specs.Passes.{IsPass, remains, order_of, entry_after, after_pass}
use Rattle.heap_terms.specs.Placement.{scratch, placement}
use Rattle.heap_terms.specs.Roots.{thread_words, hits, is_hit}
use Rattle.heap_terms.specs.WellFormed.{IsWellFormed, IsThread, IsLiving, AreLiving, IsCollected}
use Rattle.heap_terms.specs.Spelling.{word_of}
use Rattle.pass_laws.specs.NoRegions.{HasNoRegions}
use Rattle.pass_laws.proofs.AfterPages.{new_generation, spread, entry_is, pages_long}
use Rattle.pass_laws.proofs.AfterPass.{remaining, list_living_after, pass_sound}
use Rattle.pass_laws.proofs.Lookups.{any_left, any-flat_map, all_zero}
use Rattle.pass_laws.proofs.Spreading.{IsPlacing}

-- a name in a cell s is hit
pub stack_hits : (a : NamedHeap) (t i x : ℕ) → IsSome (object_at a.objects x) → get_or (thread_at a t).stack i zero_value ≡ values.Ref x → is_hit a x ≡ true
stack_hits a t i x there e = elim (cases_lt t (length a.threads)) [
  | inr l ↦ absurd (no_cell (subst (λ (th : Thread). get_or th.stack i zero_value ≡ values.Ref x) (get_or_past a.threads t (ended_thread fresh_thread) l) e))
  | inl l ↦ elim (cases_lt i (length (thread_at a t).stack)) [
    | inr m ↦ (let never : zero_value ≡ values.Ref x = sym (get_or_past (thread_at a t).stack i zero_value m) ∙ e in cc)
    | inl m ↦ (let th = thread_at a t in
        let word : get_or (map (word_of a.objects) th.stack) i 0 ≡ word_of a.objects (values.Ref x) = get_or-map (word_of a.objects) th.stack i zero_value 0 m ∙ ap (word_of a.objects) e in
        any-flat_map (hits (object_at a.objects x)) (thread_words a.objects) a.threads t (ended_thread fresh_thread) l
        (any_left (hits (object_at a.objects x)) (map (word_of a.objects) th.stack ++ th.raws) th.pins
        (any_left (hits (object_at a.objects x)) (map (word_of a.objects) th.stack) th.raws
        (list_any_at (hits (object_at a.objects x)) (map (word_of a.objects) th.stack) i 0 (let same = length-map th.stack (word_of a.objects) in omega arith)
        (rw word (hit_by (object_at a.objects x) refl there))))))
  ]
]
  where
    no_cell : get_or (ended_thread fresh_thread).stack i zero_value ≡ values.Ref x → ⊥
    no_cell f = (let never : zero_value ≡ values.Ref x = sym (all_zero 16 i) ∙ f in cc)

    hit_by : (q : Option Object) → object_at a.objects x ≡ q → IsSome q → hits q (word_of a.objects (values.Ref x)) ≡ true
    hit_by None at some = absurd (false≢true some)
    hit_by (Some o) at some = rw at (eq-eqb (reference_word o.place (kind_of o.contents)) (reference_word o.place (kind_of o.contents)) refl)

module _ (p : Program) (a : NamedHeap) (g h : ℕ) (r : PassRecord) (formed : IsWellFormed p a) (pass : IsPass a g h r) where
  -- the cells of a thread are live
  stack_live : (t : ℕ) → AreLiving a.objects (thread_at a t).stack → AreLive (remains a r) (thread_at a t).stack
  stack_live t living i = go (get_or (thread_at a t).stack i zero_value) refl (living i)
    where
      go : (v : Value) → get_or (thread_at a t).stack i zero_value ≡ v → IsLiving a.objects v → is_live (remains a r) v ≡ true
      go (values.Fix n) at living = refl
      go values.Nil at living = refl
      go values.Unbound at living = refl
      go (values.Ref x) at living = pass.live.closed.hit x (stack_hits a t i x living at)

  thread_after : (t : ℕ) → IsThread a.objects a.pages (thread_at a t) → ((ty : PageType) → open_page (thread_at a t) ty ≡ None) → (thread_at a t).open_run ≡ None →
      IsThread (after_pass a r).objects (after_pass a r).pages (thread_at a t)
  thread_after t old closed closed_run = record {
    stack_length = old.stack_length;
    exact_length = old.exact_length;
    raws_length = old.raws_length;
    stack = list_living_after a g h r formed.sound pass (thread_at a t).stack old.stack (stack_live t old.stack);
    exact = list_living_after a g h r formed.sound pass (thread_at a t).exact old.exact (pass.live.closed.exact t);
    raws = old.raws;
    pins = old.pins;
    pins_most = old.pins_most;
    owed = old.owed;
    open_pages = λ ty. rw (closed ty) tt;
    open_run = rw closed_run tt;
    inhibits = old.inhibits;
  }

  collected_after : r.target ≤ 5 → (page : ℕ) → IsCollected (entry_at (after_pass a r).pages page)
  collected_after low page = rw (entry_is a g h r formed.sound pass page) (elim (keeps.fresh page) [
    | inl same ↦ rw same (old_entry (entry_at a.pages page) (formed.pages_collected page))
    | inr taken ↦ rw taken.1.entry (by_freed (list_any (λ freed. freed == page) r.freed) taken.1.ty scratch taken.1.fill taken.1.first taken.1.count (scratch_low (scratch == r.generation)))
  ])
    where
      keeps : IsPlacing a (placement a (order_of r))
      keeps = spread a g h r formed.sound pass

      scratch_low : (b : Bool) → (if b || true then r.target else scratch) ≤ 5
      scratch_low true = low
      scratch_low false = low

      by_target : (b : Bool) (n : ℕ) → n ≤ 5 → (if b then r.target else n) ≤ 5
      by_target true n bound = low
      by_target false n bound = bound

      by_freed : (b : Bool) (ty : PageType) (n fill first k : ℕ) → new_generation r n ≤ 5 → IsCollected (if b then Free else Used ty (new_generation r n) fill first k)
      by_freed true ty n fill first k bound = tt
      by_freed false ty n fill first k bound = bound

      old_entry : (e : Entry) → IsCollected e → IsCollected (entry_after r page e)
      old_entry Free bound = tt
      old_entry (Used ty n fill first k) bound = by_freed (list_any (λ freed. freed == page) r.freed) ty n fill first k (by_target (n == r.generation || n == scratch) n bound)

  -- what a pass leaves beside objects and pages
  pub same_threads : (after_pass a r).threads ≡ a.threads
  unfolding after_pass
  same_threads = refl

  pub same_shared : (after_pass a r).shared ≡ a.shared
  unfolding after_pass
  same_shared = refl

  same_rest : ((after_pass a r).cum ≡ a.cum) × ((after_pass a r).num ≡ a.num) × ((after_pass a r).triggered ≡ a.triggered)
  unfolding after_pass
  same_rest = (refl, refl, refl)

  thread_same : (t : ℕ) → thread_at (after_pass a r) t ≡ thread_at a t
  unfolding after_pass
  thread_same t = refl

  -- the heap after a pass is well-formed, and nobody has a region open
  pub pass_well_formed : HasNoRegions a → r.target ≤ 5 → IsWellFormed p (after_pass a r)
  pass_well_formed closed low =
      let none : (t : ℕ) (ty : PageType) (page : ℕ) → open_page (thread_at (after_pass a r) t) ty ≡ Some page → ⊥ =
      λ t ty page e. (let open_is : open_page (thread_at a t) ty ≡ Some page = rw (thread_same t) at e in
      let never : None ≡ Some page = sym ((closed t).0 ty) ∙ open_is in cc) in
      let none_run : (t : ℕ) (page : ℕ) → (thread_at (after_pass a r) t).open_run ≡ Some page → ⊥ =
      λ t page e. (let open_is : (thread_at a t).open_run ≡ Some page = rw (thread_same t) at e in
      let never : None ≡ Some page = sym (closed t).1 ∙ open_is in cc) in
      record {
        sound = pass_sound a g h r formed.sound pass (omega arith);
        pages_length = pages_long a g h r formed.sound pass ∙ formed.pages_length;
        threads_length = rw same_threads formed.threads_length;
        shared_length = rw same_shared formed.shared_length;
        cum_length = rw same_rest.0 formed.cum_length;
        num_length = rw same_rest.1 formed.num_length;
        threads = λ t l. rw (thread_same t) (thread_after t (formed.threads t l) (closed t).0 (closed t).1);
        shared = rw same_shared (list_living_after a g h r formed.sound pass a.shared formed.shared pass.live.closed.shared);
        objects_collected = λ x new e. (let was = remaining a g h r formed.sound pass x new e in
            rw was.is (by_target (was.object.generation == r.generation) was.object.generation (formed.objects_collected x was.object was.there)));
        pages_collected = collected_after low;
        triggered = rw same_rest.2 formed.triggered;
        own_pages = λ t u ty other page e f. absurd (none t ty page e);
        own_runs = λ t u page e f. absurd (none_run t page e);
      }
    where
      by_target : (b : Bool) (n : ℕ) → n ≤ 5 → (if b then r.target else n) ≤ 5
      by_target true n bound = low
      by_target false n bound = bound
