-- A collection keeps a heap well-formed, and one exists for every heap.
use Rattle.std.proofs.Common.{◌≡◌, ℕ, zero, suc, ◌+◌, ◌<◌, ◌≤◌, List, [], ◌∷◌, ◌++◌, length, get_or, map, Option, Some, None, Bool, true, false, ◌⊎◌, inl, inr, refl, sym, ◌∙◌, subst, ap, arith}
use Rattle.std.proofs.lemmas.Bool.{cases_lt, cases_eq, cases_Bool, or_cases, or_left, and_parts, and_from, ltb-true, lt-ltb, leb-true, false≢true, eq-eqb}
use Rattle.std.proofs.lemmas.List.{get_or-map, length-map, length-set, get_or_past, get_or-set_same, get_or-set_other, set_past}
use Rattle.std.specs.Prelude.{◌==◌, nat_lt, nat_le}
use Rattle.heap_terms.specs.declared.events.PassRecord.{PassRecord}
use Rattle.heap_terms.specs.declared.kinds.PageType.{PageType}
use Rattle.heap_terms.specs.declared.kinds.PageType.TheVariants as types
use Rattle.heap_terms.specs.declared.pages.Entry.{Entry}
use Rattle.heap_terms.specs.declared.programs.Program.{Program}
use Rattle.heap_terms.specs.Collections.{closed_thread, closed, after_pass_of, IsPassOf, goes_on_after, ArePasses, after_passes, IsCollection, collected}
use Rattle.heap_terms.specs.Heap.{NamedHeap, Thread, thread_at, with_thread, open_page, ended_thread, fresh_thread}
use Rattle.heap_terms.specs.Objects.{Object}
use Rattle.heap_terms.specs.Passes.{after_pass}
use Rattle.heap_terms.specs.Policy.{is_raised, is_continued, target_of, cum_after}
use Rattle.heap_terms.specs.WellFormed.{IsWellFormed, IsThread, IsSound}
use Rattle.pass_laws.specs.NoRegions.{HasNoRegions, IsEmptyBelow}
use Rattle.pass_laws.proofs.AfterPass.{remaining}
use Rattle.pass_laws.proofs.AfterRoots.{pass_well_formed}
use Rattle.pass_laws.proofs.PassExists.{pass_exists}

-- what a raise and a going on say of the generation
pub is_raised-low : (a : NamedHeap) (last g : ℕ) → is_raised a last g ≡ true → g < 5
unfolding is_raised
is_raised-low a last g e = ltb-true g 5 (and_parts (nat_lt g 5) _ e).0

pub is_continued-low : (a : NamedHeap) (last g : ℕ) (raised : Bool) → is_continued a last g raised ≡ true → g < 5
unfolding is_continued
is_continued-low a last g raised e = ltb-true g 5 (and_parts (nat_lt g 5) _ e).0

-- a collection goes on only after a raise
pub is_continued-raised : (a b : NamedHeap) (last g : ℕ) → is_continued b last g (is_raised a last g) ≡ true → is_raised a last g ≡ true
unfolding is_raised is_continued
is_continued-raised a b last g e =
    let parts = and_parts (nat_lt g 5) _ e in
    elim (or_cases (nat_le (g + 1) last) _ parts.1) [
      | inl asked ↦ (let l = leb-true (g + 1) last asked in and_from (nat_lt g 5) _ parts.0 (or_left (nat_lt g last) _ (lt-ltb g last (omega arith))))
      | inr grown ↦ (and_parts (is_raised a last g) _ grown).0
    ]

-- the target of a pass is a generation that is collected
pub target-most : (a : NamedHeap) (last g : ℕ) → g ≤ 5 → target_of g (is_raised a last g) ≤ 5
target-most a last g low = go (is_raised a last g) refl
  where
    go : (b : Bool) → is_raised a last g ≡ b → target_of g b ≤ 5
    go true e = (let l = is_raised-low a last g e in omega arith)
    go false e = low

-- a pass leaves the threads as they were
same_regions : (a : NamedHeap) (last g : ℕ) (r : PassRecord) (t : ℕ) → HasNoRegions a →
    ((ty : PageType) → open_page (thread_at (after_pass_of a last g r) t) ty ≡ None) × ((thread_at (after_pass_of a last g r) t).open_run ≡ None)
unfolding after_pass
same_regions a last g r t none = none t

module _ (p : Program) where
  -- a pass of a collection, with the policy's numbers after it
  pub pass_of-well_formed : (a : NamedHeap) (last g : ℕ) (r : PassRecord) → g ≤ 5 → IsWellFormed p a → HasNoRegions a → IsPassOf a last g r →
      IsWellFormed p (after_pass_of a last g r) × HasNoRegions (after_pass_of a last g r)
  pass_of-well_formed a last g r low w none pass =
      let h = target_of g (is_raised a last g) in
      let target : r.target ≤ 5 = subst (λ (x : ℕ). x ≤ 5) (sym pass.target) (target-most a last g low) in
      let b = pass_well_formed p a g h r w pass none target in (
        record {
          sound = record {
            objects = b.sound.objects;
            apart = b.sound.apart;
            entries = b.sound.entries;
            runs = b.sound.runs;
            finalizers = b.sound.finalizers;
            queue = b.sound.queue;
          };
          pages_length = b.pages_length;
          threads_length = b.threads_length;
          shared_length = b.shared_length;
          cum_length = cum_long (is_raised a last g) w.cum_length;
          num_length = length-set a.num g _ ∙ w.num_length;
          threads = b.threads;
          shared = b.shared;
          objects_collected = b.objects_collected;
          pages_collected = b.pages_collected;
          triggered = b.triggered;
          own_pages = b.own_pages;
          own_runs = b.own_runs;
        },
        no_regions_after a r none,
      )
    where
      cum_long : (raised : Bool) → length a.cum ≡ 7 → length (cum_after a g raised) ≡ 7
      cum_long true long = length-set _ g 0 ∙ length-set a.cum (g + 1) _ ∙ long
      cum_long false long = length-set a.cum g 0 ∙ long

      no_regions_after : (a : NamedHeap) (r : PassRecord) → HasNoRegions a → HasNoRegions (after_pass_of a last g r)
      no_regions_after a r none t = same_regions a last g r t none

  -- all passes
  pub passes-well_formed : (a : NamedHeap) (last g : ℕ) (records : List PassRecord) → g ≤ 5 → IsWellFormed p a → HasNoRegions a → ArePasses a last g records →
      IsWellFormed p (after_passes a last g records) × HasNoRegions (after_passes a last g records)
  passes-well_formed a last g [] low w none are = absurd are
  passes-well_formed a last g (r ∷ []) low w none are = pass_of-well_formed a last g r low w none are.0
  passes-well_formed a last g (r ∷ s ∷ rest) low w none are =
      let first = pass_of-well_formed a last g r low w none are.0 in
      let more = is_continued-low (after_pass_of a last g r) last g (is_raised a last g) are.1 in
      passes-well_formed (after_pass_of a last g r) last (g + 1) (s ∷ rest) (omega arith) first.0 first.1 are.2

  joined : (a : NamedHeap) (last g : ℕ) (r : PassRecord) → IsPassOf a last g r → goes_on_after a last g r ≡ true → (records : List PassRecord) →
      ArePasses (after_pass_of a last g r) last (g + 1) records → (all : List PassRecord) × ArePasses a last g all
  joined a last g r pass more [] are = absurd are
  joined a last g r pass more (s ∷ rest) are = (r ∷ s ∷ rest, (pass, more, are))

  -- passes exist from any generation on
  pub passes_exist : (fuel : ℕ) (a : NamedHeap) (last g : ℕ) → g + fuel ≡ 5 → IsWellFormed p a → HasNoRegions a → (records : List PassRecord) × ArePasses a last g records
  passes_exist zero a last g enough w none =
      let r = pass_exists p a g (target_of g (is_raised a last g)) w in
      elim (cases_Bool (goes_on_after a last g r.0)) [
        | inl more ↦ (let low = is_continued-low (after_pass_of a last g r.0) last g (is_raised a last g) more in absurd (omega arith))
        | inr end ↦ (r.0 ∷ [], (r.1, end))
      ]
  passes_exist (suc fuel) a last g enough w none =
      let r = pass_exists p a g (target_of g (is_raised a last g)) w in
      elim (cases_Bool (goes_on_after a last g r.0)) [
        | inl more ↦ (let first = pass_of-well_formed a last g r.0 (omega arith) w none r.1 in
            let rest = passes_exist fuel (after_pass_of a last g r.0) last (g + 1) (omega arith) first.0 first.1 in
            joined a last g r.0 r.1 more rest.0 rest.1)
        | inr end ↦ (r.0 ∷ [], (r.1, end))
      ]

add_zero : (n : ℕ) → n + 0 ≡ n
add_zero n = omega arith

-- a pass that raises empties its generation
raised-empty : (a : NamedHeap) (last g : ℕ) (r : PassRecord) → IsSound a → IsPassOf a last g r → is_raised a last g ≡ true → IsEmptyBelow a g → IsEmptyBelow (after_pass_of a last g r) (g + 1)
raised-empty a last g r sound pass raised empty x new e =
    let was = remaining a g (target_of g (is_raised a last g)) r sound pass x new e in
    let old = empty x was.object was.there in
    let target : r.target ≡ g + 1 = pass.target ∙ rw raised refl in
    rw was.is (elim (cases_Bool (was.object.generation == r.generation)) [
      | inl young ↦ rw young (omega arith)
      | inr other ↦ rw other (let apart : was.object.generation ≡ g → ⊥ = λ same. false≢true (sym other ∙ eq-eqb was.object.generation r.generation (same ∙ sym pass.generation)) in above was.object.generation g old apart)
    ])
  where
    above : (n g : ℕ) → g ≤ n → (n ≡ g → ⊥) → g + 1 ≤ n
    above n g l apart = elim (cases_eq n g) [
      | inl same ↦ absurd (apart same)
      | inr other ↦ omega arith
    ]

-- so after the passes below a generation every generation below it is empty when it is collected
pub below-empty : (p : Program) (a : NamedHeap) (last g : ℕ) (front : List PassRecord) (r : PassRecord) (rest : List PassRecord) → g ≤ 5 → IsWellFormed p a → HasNoRegions a →
    IsEmptyBelow a g → ArePasses a last g (front ++ r ∷ rest) →
    IsEmptyBelow (after_passes a last g front) (g + length front) × IsPassOf (after_passes a last g front) last (g + length front) r
below-empty p a last g [] r [] low w none empty are = rw (add_zero g) (empty, are.0)
below-empty p a last g [] r (s ∷ rest) low w none empty are = rw (add_zero g) (empty, are.0)
below-empty p a last g (q ∷ []) r rest low w none empty are = next are
  where
    next : ArePasses a last g (q ∷ r ∷ rest) → IsEmptyBelow (after_pass_of a last g q) (g + 1) × IsPassOf (after_pass_of a last g q) last (g + 1) r
    next are =
        let raised = is_continued-raised a (after_pass_of a last g q) last g are.1 in
        (raised-empty a last g q w.sound are.0 raised empty, first_of rest are.2)
      where
        first_of : (rest : List PassRecord) → ArePasses (after_pass_of a last g q) last (g + 1) (r ∷ rest) → IsPassOf (after_pass_of a last g q) last (g + 1) r
        first_of [] are = are.0
        first_of (s ∷ more) are = are.0
below-empty p a last g (q ∷ s ∷ front) r rest low w none empty are =
    let first = pass_of-well_formed p a last g q low w none are.0 in
    let raised = is_continued-raised a (after_pass_of a last g q) last g are.1 in
    let more = is_continued-low (after_pass_of a last g q) last g (is_raised a last g) are.1 in
    let b = below-empty p (after_pass_of a last g q) last (g + 1) (s ∷ front) r rest (omega arith) first.0 first.1 (raised-empty a last g q w.sound are.0 raised empty) are.2 in
    let same : (g + 1) + length (s ∷ front) ≡ g + length (q ∷ s ∷ front) = omega arith in
    subst (λ (n : ℕ). IsEmptyBelow (after_passes a last g (q ∷ s ∷ front)) n × IsPassOf (after_passes a last g (q ∷ s ∷ front)) last n r) same b

pub younger-empty : (p : Program) (a : NamedHeap) (last : ℕ) (front : List PassRecord) (r : PassRecord) (rest : List PassRecord) → IsWellFormed p a → HasNoRegions a →
    ArePasses a last 0 (front ++ r ∷ rest) → IsEmptyBelow (after_passes a last 0 front) (length front) × IsPassOf (after_passes a last 0 front) last (length front) r
younger-empty p a last front r rest w none are =
    let b = below-empty p a last 0 front r rest (omega arith) w none (λ x o e. omega arith) are in
    let same : 0 + length front ≡ length front = omega arith in
    subst (λ (n : ℕ). IsEmptyBelow (after_passes a last 0 front) n × IsPassOf (after_passes a last 0 front) last n r) same b

-- all threads after their regions were closed
closed_at : (a : NamedHeap) (t : ℕ) → thread_at (closed a) t ≡ closed_thread (thread_at a t)
closed_at a t = elim (cases_lt t (length a.threads)) [
  | inl l ↦ get_or-map closed_thread a.threads t (ended_thread fresh_thread) (ended_thread fresh_thread) l
  | inr l ↦ get_or_past (map closed_thread a.threads) t (ended_thread fresh_thread) (let same = length-map a.threads closed_thread in omega arith)
      ∙ ap closed_thread (sym (get_or_past a.threads t (ended_thread fresh_thread) l))
]

closed_regions : (th : Thread) (ty : PageType) → open_page (closed_thread th) ty ≡ None
closed_regions th types.Cons = refl
closed_regions th types.Boxed = refl
closed_regions th types.Unboxed = refl

pub closed_none : (a : NamedHeap) → HasNoRegions (closed a)
closed_none a t = rw (closed_at a t) (closed_regions (thread_at a t), refl)

closed-thread : (objects : List (Option Object)) (pages : List Entry) (th : Thread) → IsThread objects pages th → IsThread objects pages (closed_thread th)
closed-thread objects pages th h = record {
  stack_length = h.stack_length;
  exact_length = h.exact_length;
  raws_length = h.raws_length;
  stack = h.stack;
  exact = h.exact;
  raws = h.raws;
  pins = h.pins;
  pins_most = h.pins_most;
  owed = h.owed;
  open_pages = λ ty. rw (closed_regions th ty) tt;
  open_run = tt;
  inhibits = h.inhibits;
}

same_sound : (a b : NamedHeap) → b.objects ≡ a.objects → b.pages ≡ a.pages → b.finalizers ≡ a.finalizers → b.queue ≡ a.queue → IsSound a → IsSound b
same_sound a b objects pages finalizers queue h = record {
  objects = rw (objects, pages) h.objects;
  apart = rw objects h.apart;
  entries = rw pages h.entries;
  runs = rw pages h.runs;
  finalizers = rw (objects, finalizers) h.finalizers;
  queue = rw queue h.queue;
}

-- a heap without regions whose threads were changed
threads-well_formed : (p : Program) (a b : NamedHeap) → b.objects ≡ a.objects → b.pages ≡ a.pages → b.finalizers ≡ a.finalizers → b.queue ≡ a.queue →
    b.shared ≡ a.shared → b.cum ≡ a.cum → b.num ≡ a.num → b.triggered ≡ a.triggered → length b.threads ≡ length a.threads → HasNoRegions b →
    ((t : ℕ) → t < length p.threads → IsThread b.objects b.pages (thread_at b t)) → IsWellFormed p a → IsWellFormed p b
threads-well_formed p a b objects pages finalizers queue shared cum num triggered threads none each w = record {
  sound = same_sound a b objects pages finalizers queue w.sound;
  pages_length = rw pages w.pages_length;
  threads_length = threads ∙ w.threads_length;
  shared_length = rw shared w.shared_length;
  cum_length = rw cum w.cum_length;
  num_length = rw num w.num_length;
  threads = each;
  shared = rw (objects, shared) w.shared;
  objects_collected = rw objects w.objects_collected;
  pages_collected = rw pages w.pages_collected;
  triggered = rw triggered w.triggered;
  own_pages = λ t u ty other page e f. (let never : None ≡ Some page = sym ((none t).0 ty) ∙ e in cc);
  own_runs = λ t u page e f. (let never : None ≡ Some page = sym (none t).1 ∙ e in cc);
}

pub closed-well_formed : (p : Program) (a : NamedHeap) → IsWellFormed p a → IsWellFormed p (closed a)
closed-well_formed p a w = threads-well_formed p a (closed a) refl refl refl refl refl refl refl refl (length-map a.threads closed_thread) (closed_none a)
    (λ t l. rw (closed_at a t) (closed-thread a.objects a.pages (thread_at a t) (w.threads t l))) w

-- a thread after a change of one
quit_cases : (b : NamedHeap) (t u : ℕ) (th : Thread) → (thread_at (with_thread b t th) u ≡ thread_at b u) ⊎ ((u ≡ t) × (thread_at (with_thread b t th) u ≡ th))
quit_cases b t u th = elim (cases_eq u t) [
  | inr apart ↦ inl (get_or-set_other b.threads t u th (ended_thread fresh_thread) apart)
  | inl same ↦ elim (cases_lt t (length b.threads)) [
    | inl l ↦ inr (same, rw same (get_or-set_same b.threads t th (ended_thread fresh_thread) l))
    | inr l ↦ inl (ap (λ (ths : List Thread). get_or ths u (ended_thread fresh_thread)) (set_past b.threads t th l))
  ]
]

-- the heap after a collection
pub collected-well_formed : (p : Program) (a : NamedHeap) (t last : ℕ) (records : List PassRecord) → IsWellFormed p a → IsCollection a last records → IsWellFormed p (collected a t last records)
unfolding collected
collected-well_formed p a t last records w h =
    let b = passes-well_formed p (closed a) last 0 records (omega arith) (closed-well_formed p a w) (closed_none a) h.passes in
    let heap = after_passes (closed a) last 0 records in
    let new : Thread = record (thread_at heap t) { owed = None } in
    threads-well_formed p heap (with_thread heap t new) refl refl refl refl refl refl refl refl (length-set heap.threads t new)
    (λ u. elim (quit_cases heap t u new) [
      | inl same ↦ rw same (b.1 u)
      | inr here ↦ rw here.1 (b.1 t)
    ])
    (λ u l. elim (quit_cases heap t u new) [
      | inl same ↦ rw same (b.0.threads u l)
      | inr here ↦ rw here.1 (quit heap (thread_at heap t) (subst (λ (x : ℕ). IsThread heap.objects heap.pages (thread_at heap x)) here.0 (b.0.threads u l)))
    ]) b.0
  where
    quit : (heap : NamedHeap) (th : Thread) → IsThread heap.objects heap.pages th → IsThread heap.objects heap.pages (record th { owed = None })
    quit heap th h = record {
      stack_length = h.stack_length;
      exact_length = h.exact_length;
      raws_length = h.raws_length;
      stack = h.stack;
      exact = h.exact;
      raws = h.raws;
      pins = h.pins;
      pins_most = h.pins_most;
      owed = tt;
      open_pages = h.open_pages;
      open_run = h.open_run;
      inhibits = h.inhibits;
    }

-- a collection exists where nobody inhibits
pub collection_exists : (p : Program) (a : NamedHeap) (last : ℕ) → IsWellFormed p a → ((t : ℕ) → (thread_at a t).inhibits ≡ 0) → (records : List PassRecord) × IsCollection a last records
collection_exists p a last w allowed =
    let found = passes_exist p 5 (closed a) last 0 (omega arith) (closed-well_formed p a w) (closed_none a) in
    (found.0, record { allowed = allowed; passes = found.1 })
