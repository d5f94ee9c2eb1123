-- A well-formed heap stays well-formed when an object is replaced by one of the same words and kind.
use Rattle.std.proofs.Common.{◌≡◌, ℕ, ◌^◌, ◌≤◌, List, Option, Some, None, inl, inr, refl, sym, ◌∙◌, subst, set}
use Rattle.std.specs.List.{All}
use Rattle.heap_terms.specs.declared.programs.Program.{Program}
use Rattle.heap_terms.specs.Heap.{NamedHeap, object_at, thread_at}
use Rattle.heap_terms.specs.Living.{HoldsLiving, IsShaped, AreBelow}
use Rattle.heap_terms.specs.Objects.{Object}
use Rattle.heap_terms.specs.Sound.{IsSound, IsObject, IsFinalizer}
use Rattle.heap_terms.specs.WellFormed.{IsWellFormed}
use Rattle.heap_laws.proofs.Lists.Places.{set_cases}
use Rattle.heap_laws.proofs.WellFormed.LivingValues.{AllStay, AreLiving-stays, HoldsLiving-stays, write_stays}
use Rattle.heap_laws.proofs.WellFormed.ObjectAdded.{finalizers_stay, thread_stays}
use Rattle.heap_laws.proofs.WellFormed.PagesStay.{IsSameShape, IsPlaced-shape, AreApart-shape}

pub same_shape : (o : Object) → IsSameShape o o
same_shape o = record { place = refl; generation = refl; kind = refl; payload = refl }

-- where the objects are the same but for one that keeps its shape, each new object has the shape of the old one of its name
pub old_shape : (objects : List (Option Object)) (name : ℕ) (o q : Object) → object_at objects name ≡ Some o → IsSameShape o q →
    (x : ℕ) (r : Object) → object_at (set objects name (Some q)) x ≡ Some r → (s : Object) × (object_at objects x ≡ Some s) × IsSameShape s r
old_shape objects name o q e shape x r f = elim (set_cases objects name x (Some q) None) [
  | inl same ↦ (r, sym same ∙ f, same_shape r)
  | inr same ↦ (
      let here : q ≡ r = (let g = sym same.2 ∙ f in cc) in
      (o, rw same.0 e, subst (λ (z : Object). IsSameShape o z) here shape))
]

-- a list of objects in which one was replaced has old ones at other names, and the new one
pub by_written : (objects : List (Option Object)) (name : ℕ) (q : Object) (P : Object → Type 0) → ((x : ℕ) (r : Object) → object_at objects x ≡ Some r → P r) → P q →
    (x : ℕ) (r : Object) → object_at (set objects name (Some q)) x ≡ Some r → P r
by_written objects name q P old new x r e = elim (set_cases objects name x (Some q) None) [
  | inl same ↦ old x r (sym same ∙ e)
  | inr here ↦ (let f : Some q ≡ Some r = sym here.2 ∙ e in let is : q ≡ r = cc in subst P is new)
]

-- an object is replaced by one of its words that has the shape of its kind and holds living values
pub written-sound : (a : NamedHeap) (name : ℕ) (o q : Object) → IsSound a → object_at a.objects name ≡ Some o → IsSameShape o q →
    HoldsLiving a.objects q.contents → IsShaped q.contents → IsSound (record a { objects = set a.objects name (Some q) })
written-sound a name o q w e same living shape =
    let new = set a.objects name (Some q) in
    let stay : AllStay a.objects new = write_stays a.objects name q in
    let before = w.objects name o e in
    record {
      objects = by_written a.objects name q (λ r. IsObject new a.pages r)
          (λ x r f. let h = w.objects x r f in record {
            generation = h.generation;
            shape = h.shape;
            contents = HoldsLiving-stays a.objects new stay r.contents h.contents;
            placed = h.placed;
          })
          (record {
            generation = rw same.generation before.generation;
            shape = shape;
            contents = HoldsLiving-stays a.objects new stay q.contents living;
            placed = IsPlaced-shape a.pages o q same before.placed;
          });
      apart = λ x y r r' differ f f'.
          let s = old_shape a.objects name o q e same x r f in
          let s' = old_shape a.objects name o q e same y r' f' in
          AreApart-shape s.0 s'.0 r r' s.2 s'.2 (w.apart x y s.0 s'.0 differ s.1 s'.1);
      entries = w.entries;
      runs = w.runs;
      finalizers = finalizers_stay a.objects new a.finalizers stay w.finalizers;
      queue = w.queue;
    }

pub written-kept : (p : Program) (a : NamedHeap) (name : ℕ) (o q : Object) → IsWellFormed p a → object_at a.objects name ≡ Some o → IsSameShape o q →
    HoldsLiving a.objects q.contents → IsShaped q.contents → IsWellFormed p (record a { objects = set a.objects name (Some q) })
written-kept p a name o q w e same living shape =
    let new = set a.objects name (Some q) in
    let stay : AllStay a.objects new = write_stays a.objects name q in
    record {
      sound = written-sound a name o q w.sound e same living shape;
      pages_length = w.pages_length;
      threads_length = w.threads_length;
      shared_length = w.shared_length;
      cum_length = w.cum_length;
      num_length = w.num_length;
      threads = λ t l. thread_stays a.objects new a.pages (thread_at a t) stay (w.threads t l);
      shared = AreLiving-stays a.objects new stay a.shared w.shared;
      objects_collected = by_written a.objects name q (λ r. r.generation ≤ 5) w.objects_collected (rw same.generation (w.objects_collected name o e));
      pages_collected = w.pages_collected;
      triggered = w.triggered;
      own_pages = w.own_pages;
      own_runs = w.own_runs;
    }

-- the finalizers and the queue change
pub queued-kept : (p : Program) (a : NamedHeap) (fs : List (ℕ × ℕ)) (queue : List ℕ) → IsWellFormed p a → All (IsFinalizer a.objects) fs → AreBelow (2 ^ 32) queue →
    IsWellFormed p (record a { finalizers = fs; queue = queue })
queued-kept p a fs queue w all below = record {
  sound = record {
    objects = w.sound.objects;
    apart = w.sound.apart;
    entries = w.sound.entries;
    runs = w.sound.runs;
    finalizers = all;
    queue = below;
  };
  pages_length = w.pages_length;
  threads_length = w.threads_length;
  shared_length = w.shared_length;
  cum_length = w.cum_length;
  num_length = w.num_length;
  threads = w.threads;
  shared = w.shared;
  objects_collected = w.objects_collected;
  pages_collected = w.pages_collected;
  triggered = w.triggered;
  own_pages = w.own_pages;
  own_runs = w.own_runs;
}
