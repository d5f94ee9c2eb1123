-- Noting weak pointers and tables: what is noted stays noted, and there is room for each one more.
use Rattle.std.proofs.Common.{◌≡◌, ◌≢◌, ℕ, zero, suc, ◌-◌, ◌^◌, ◌<◌, ◌≤◌, ◌⊎◌, List, [], ◌∷◌, length, get_or, Some, None, Bool, true, false, nat_eq, inl, inr, refl, sym, ◌∙◌, ap, subst, arith}
use Rattle.std.proofs.lemmas.Bool.{cases_lt, cases_Bool, eq-eqb, false≢true, or_right}
use Rattle.std.proofs.lemmas.List.{get_or_default, get_or_past}
use Rattle.std.proofs.lemmas.List.Elements.{All-append, All-cons, All-head, All-nil, All-tail}
use Rattle.std.proofs.lemmas.List.Folds.{list_any-append}
use Rattle.std.proofs.lemmas.Option.{same_Some}
use Rattle.std.specs.List.{list_any}
use Rattle.std.specs.Prelude.{All, AllPairs, ◌||◌, slice_index}
use Rattle.indexmap.specs.IndexSet.{insert_key}
use Rattle.heap_terms.specs.declared.kinds.Kind.TheVariants as kinds
use Rattle.heap_terms.specs.Heap.{NamedHeap, object_at}
use Rattle.heap_terms.specs.Objects.{Object, Contents, ConsOf, VectorOf, InstanceOf, ClosureOf, WordsOf, WeakTo, TableOf, kind_of}
use Rattle.pass_laws.proofs.Counting.{distinct-cons, distinct-behind, distinct-few, listed-few}
use Rattle.pass_laws.proofs.Sizes.{words_least}
use Rattle.pin_set.specs.Starts.{Starts}
use Rattle.copy_space.specs.Frames.{Follows, Grows}
use Rattle.copy_space.specs.Midway.{Midway}
use Rattle.copy_space.specs.Moved.{new_of}
use Rattle.copy_space.specs.Settled.{is_settled}
use Rattle.copy_space.specs.State.{CopyState}
use Rattle.copy_space.specs.WeakNames.{AreNamed, HasWeakAt, IsWeakAt, is_weak, is_weak_object, weak_count}
use Rattle.copy_space.proofs.FrameLaws.{scanned-stays, settled-stays}
use Rattle.scavenge.specs.Fields.{is_weak_kind}
use Rattle.scavenge.specs.Noting.{CanNote, HasAll, IsDone, Notes}
use Rattle.scavenge.proofs.FirstWord.{object-inside}

-- weak pointers and tables by their kind
pub kind-weak : (c : Contents) → is_weak_kind (kind_of c) ≡ is_weak c
kind-weak (ConsOf a b) = refl
kind-weak (VectorOf vs) = refl
kind-weak (InstanceOf vs) = refl
kind-weak (ClosureOf vs) = refl
kind-weak (WordsOf ws) = refl
kind-weak (WeakTo v) = refl
kind-weak (TableOf w b pairs) = refl

pub weak-by_kind : (c : Contents) → (kind_of c ≡ kinds.Weak) ⊎ (kind_of c ≡ kinds.Table) → is_weak c ≡ true
weak-by_kind c (inl weak) = sym (kind-weak c) ∙ ap is_weak_kind weak
weak-by_kind c (inr table) = sym (kind-weak c) ∙ ap is_weak_kind table

pub kind-by_weak : (c : Contents) → is_weak c ≡ true → (kind_of c ≡ kinds.Weak) ⊎ (kind_of c ≡ kinds.Table)
kind-by_weak (ConsOf a b) e = absurd (false≢true e)
kind-by_weak (VectorOf vs) e = absurd (false≢true e)
kind-by_weak (InstanceOf vs) e = absurd (false≢true e)
kind-by_weak (ClosureOf vs) e = absurd (false≢true e)
kind-by_weak (WordsOf ws) e = absurd (false≢true e)
kind-by_weak (WeakTo v) e = inl refl
kind-by_weak (TableOf w b pairs) e = inr refl

-- what stands at a start stands there later
pub weak-later : (a : NamedHeap) (s t : CopyState) → Grows a s t → (name start : ℕ) → IsWeakAt a s name start → IsWeakAt a t name start
weak-later a s t g name start at = record {
  o = at.o;
  there = at.there;
  settled = settled-stays a s t g name at.settled;
  here = g.places name at.o at.there at.settled ∙ at.here;
  weak = at.weak;
}

pub can-later : (a : NamedHeap) (s t : CopyState) (weak : Starts) → Grows a s t → CanNote a s weak → CanNote a t weak
can-later a s t weak g can = record {
  each = λ i d l. (let at = can.each i d l in (at.0, weak-later a s t g at.0 (get_or weak.listed i d) at.1));
  once = can.once;
  room = can.room;
}

-- frames of noting
pub notes-none : (a : NamedHeap) (t : CopyState) (weak : Starts) → CanNote a t weak → Notes a t weak weak
notes-none a t weak can = record { can = can; stays = λ start e. e; most = refl }

pub notes-later : (a : NamedHeap) (s t : CopyState) (weak : Starts) → Grows a s t → CanNote a s weak → Notes a t weak weak
notes-later a s t weak g can = notes-none a t weak (can-later a s t weak g can)

pub notes-over : (a : NamedHeap) (t u : CopyState) (x y z : Starts) → Notes a t x y → Notes a u y z → Notes a u x z
notes-over a t u x y z h k = record { can = k.can; stays = λ start e. k.stays start (h.stays start e); most = k.most ∙ h.most }

-- what is done with an object stays done
pub done-later : (a : NamedHeap) (s t : CopyState) (old new : List ℕ) → Follows a s t → HasAll old new → (name : ℕ) (o : Object) → object_at a.objects name ≡ Some o → is_settled a s name ≡ true →
    IsDone a s old o → IsDone a t new o
done-later a s t old new f all name o there settled d = record {
  scanned = scanned-stays a s t f name o there settled d.scanned;
  noted = λ weak. subst (λ (i : ℕ). list_any (nat_eq i) new ≡ true) (sym (f.grows.places name o there settled)) (all (new_of s.moves o.place) (d.noted weak));
}

-- the names of the weak pointers and tables at some starts
pub record NamedStarts (a : NamedHeap) (s : CopyState) (starts : List ℕ) : Type 0 where
  pub names : List ℕ
  pub named : AreNamed a s starts names

pub named-starts : (a : NamedHeap) (s : CopyState) (starts : List ℕ) → All (HasWeakAt a s) starts → NamedStarts a s starts
named-starts a s [] all = record { names = []; named = record { long = refl; each = λ k l. absurd (omega (arith, l)) } }
named-starts a s (x ∷ xs) all =
    let first = All-head (HasWeakAt a s) x xs all in
    let more = named-starts a s xs (All-tail (HasWeakAt a s) x xs all) in
    record { names = first.0 ∷ more.names; named = record { long = (let long = more.named.long in omega arith); each = go first more } }
  where
    go : (first : HasWeakAt a s x) (more : NamedStarts a s xs) (k : ℕ) → k < length (x ∷ xs) → IsWeakAt a s (slice_index (first.0 ∷ more.names) k) (slice_index (x ∷ xs) k)
    go first more zero l = first.1
    go first more (suc k) l = more.named.each k (omega (arith, l))

module _ (a : NamedHeap) (s : CopyState) (starts : List ℕ) (n : NamedStarts a s starts) (once : AllPairs (λ (x y : ℕ). x ≢ y) starts) where
  -- they are distinct, since the starts are
  pub names-once : AllPairs (λ (x y : ℕ). x ≢ y) n.names
  names-once i j d l m = λ same.
      (let long = n.named.long in
      let one = n.named.each i (omega arith) in
      let two = n.named.each j (omega arith) in
      let at_i = get_or_default n.names i d 0 (omega arith) in
      let at_j = get_or_default n.names j d 0 m in
      let both : get_or n.names i 0 ≡ get_or n.names j 0 = sym at_i ∙ same ∙ at_j in
      let objects : one.o ≡ two.o = same_Some one.o two.o (sym one.there ∙ ap (object_at a.objects) both ∙ two.there) in
      once i j 0 l (omega arith) (sym one.here ∙ ap (λ (o : Object). new_of s.moves o.place) objects ∙ two.here))

  names-weak : All (λ (x : ℕ). is_weak_object (object_at a.objects x) ≡ true) n.names
  names-weak i d l =
      let long = n.named.long in
      let at = n.named.each i (omega arith) in
      let same = get_or_default n.names i d 0 l in
      ap (λ (x : ℕ). is_weak_object (object_at a.objects x)) same ∙ ap is_weak_object at.there ∙ weak-by_kind at.o.contents at.weak

  names-below : All (λ (x : ℕ). x < length a.objects) n.names
  names-below i d l = elim (cases_lt (get_or n.names i d) (length a.objects)) [
    | inl inside ↦ inside
    | inr past ↦ (let none = get_or_past a.objects (get_or n.names i d) None past in
        absurd (false≢true (sym (ap is_weak_object none) ∙ names-weak i d l)))
  ]

  -- so there are no more than the heap has
  pub starts-few : length starts ≤ weak_count a
  starts-few =
      let few = listed-few n.names (length a.objects) (λ x. is_weak_object (object_at a.objects x)) names-once names-below names-weak in
      let long = n.named.long in
      omega arith

module _ (a : NamedHeap) (s : CopyState) (weak : Starts) (h : Midway a s) (can : CanNote a s weak) (start : ℕ) (at : HasWeakAt a s start) where
  -- there is room for one more
  pub room-for : (list_any (nat_eq start) weak.listed ≡ true) ⊎ (length weak.listed < weak.most)
  room-for = elim (cases_Bool (list_any (nat_eq start) weak.listed)) [
    | inl there ↦ inl there
    | inr new ↦ (let all = All-cons (HasWeakAt a s) start weak.listed at can.each in
        let few = starts-few a s (start ∷ weak.listed) (named-starts a s (start ∷ weak.listed) all) (distinct-cons start weak.listed new can.once) in
        let room = can.room in
        inr (omega arith))
  ]

  pub room-small : length weak.listed < 2 ^ 32 - 1
  room-small =
      let few = distinct-few weak.listed (length s.words) can.once
      (λ i d l. (let one = can.each i d l in
      let inside = object-inside a s h one.0 one.1.o one.1.there in
      let least = words_least one.1.o in
      let here = one.1.here in
      omega arith)) in
      let long = h.places.long in
      let most = h.places.most in
      omega arith

  -- after it was put in
  module _ (new : Starts) (listed : new.listed ≡ insert_key nat_eq weak.listed start) (most : new.most ≡ weak.most) where
    record IsPut (xs : List ℕ) : Type 0 where
      each : All (HasWeakAt a s) xs
      once : AllPairs (λ (x y : ℕ). x ≢ y) xs
      here : list_any (nat_eq start) xs ≡ true
      stays : HasAll weak.listed xs

    put : IsPut (insert_key nat_eq weak.listed start)
    put = elim (cases_Bool (list_any (nat_eq start) weak.listed)) [
      | inl there ↦ rw there (record { each = can.each; once = can.once; here = there; stays = λ i e. e })
      | inr none ↦ rw none (record {
        each = All-append (HasWeakAt a s) weak.listed (start ∷ []) can.each (All-cons (HasWeakAt a s) start [] at (All-nil (HasWeakAt a s)));
        once = distinct-behind start weak.listed none can.once;
        here = list_any-append (nat_eq start) weak.listed (start ∷ []) ∙ or_right (list_any (nat_eq start) weak.listed) _ (ap (λ (b : Bool). b || false) (eq-eqb start start refl));
        stays = λ i e. list_any-append (nat_eq i) weak.listed (start ∷ []) ∙ ap (λ (b : Bool). b || list_any (nat_eq i) (start ∷ [])) e;
      })
    ]

    pub put-in : Notes a s weak new
    put-in = record {
      can = record {
        each = subst (λ (xs : List ℕ). All (HasWeakAt a s) xs) (sym listed) put.each;
        once = subst (λ (xs : List ℕ). AllPairs (λ (x y : ℕ). x ≢ y) xs) (sym listed) put.once;
        room = (let room = can.room in omega arith);
      };
      stays = subst (λ (xs : List ℕ). HasAll weak.listed xs) (sym listed) put.stays;
      most = most;
    }

    pub put-there : list_any (nat_eq start) new.listed ≡ true
    put-there = ap (list_any (nat_eq start)) listed ∙ put.here
