-- Pages of conses on which no word refers to the generation that is collected: their objects are done as they are.
use Rattle.std.proofs.Common.{◌≡◌, ℕ, ◌+◌, ◌-◌, ◌*◌, ◌/◌, ◌%◌, ◌<◌, ◌≤◌, inl, inr, List, Option, Some, None, IsSome, true, false, refl, sym, ◌∙◌, ap, subst, arith}
use Rattle.std.proofs.lemmas.Bool.{false≢true, ne_eqb}
use Rattle.std.specs.Prelude.{slice_index, ◌==◌}
use Rattle.heap_terms.specs.declared.cells.Value.{Value}
use Rattle.heap_terms.specs.declared.cells.Value.TheVariants.{Fix, Nil, Unbound, Ref}
use Rattle.heap_terms.specs.declared.kinds.Kind.{Kind}
use Rattle.heap_terms.specs.declared.kinds.Kind.TheVariants as kinds
use Rattle.heap_terms.specs.declared.pages.Entry.{Entry}
use Rattle.heap_terms.specs.declared.pages.Entry.TheVariants.{Used}
use Rattle.heap_terms.specs.Heap.{NamedHeap, object_at, entry_at, fill_of}
use Rattle.heap_terms.specs.Layout.{page_type_of, size_of}
use Rattle.heap_terms.specs.Objects.{Object, kind_of, payload_of}
use Rattle.heap_terms.specs.Placement.{scratch}
use Rattle.heap_terms.specs.Slots.{Val, slot_at}
use Rattle.heap_terms.specs.Sound.{IsObject}
use Rattle.object_walk.proofs.Places.{laid_even}
use Rattle.copy_space.specs.Midway.{Midway}
use Rattle.copy_space.specs.Moved.{new_of}
use Rattle.copy_space.specs.Pages.{is_page_of}
use Rattle.copy_space.specs.Settled.{IsNewWord, IsWordOf, word_before}
use Rattle.copy_space.specs.State.{CopyState}
use Rattle.copy_space.proofs.Referents.{its, same_word, out_of_generation, untagged}
use Rattle.copy_space.proofs.Shapes.{slot-below}
use Rattle.scavenge.specs.declared.clear.Reach.{Reach}
use Rattle.scavenge.specs.Clear.{is_cons_page, has_conses, HasNoPage, IsReach, IsElsewhere, NeedsNoScan}
use Rattle.scavenge.specs.Fields.{is_weak_kind}
use Rattle.scavenge.specs.Noting.{IsDone}
use Rattle.scavenge.specs.Older.{AreObjectsScanned, CanScanPage}
use Rattle.scavenge.specs.Scanning.{Scans}
use Rattle.scavenge.proofs.NotedStarts.{kind-weak}
use Rattle.scavenge.proofs.OlderPages.{HasRoots, rooted_page, words-most, begins_on}
use Rattle.scavenge.proofs.QueueLaws.{IsQueued}
use Rattle.scavenge.proofs.OlderPieces.{older, other-on_page}
use Rattle.scavenge.proofs.OneField.{field-word}

-- the page of an entry midway is that of the heap before the pass, or was free then and has been taken
scratch-other : (g : ℕ) → g ≤ 5 → (scratch == g) ≡ false
scratch-other g most = ne_eqb scratch g (λ same. omega (arith, same))

other-before : (a : NamedHeap) (s : CopyState) → Midway a s → (page : ℕ) → is_page_of (entry_at s.pages page) s.pass.generation ≡ false →
    is_page_of (entry_at a.pages page) s.pass.generation ≡ false
other-before a s h page other = elim ((its a s h.places).placing.fresh page) [
  | inl same ↦ ap (λ (e : Entry). is_page_of e s.pass.generation) (sym same) ∙ other
  | inr taken ↦ ap (λ (e : Entry). is_page_of e s.pass.generation) taken.0
]

other-now : (a : NamedHeap) (s : CopyState) → Midway a s → (page : ℕ) → is_page_of (entry_at a.pages page) s.pass.generation ≡ false →
    is_page_of (entry_at s.pages page) s.pass.generation ≡ false
other-now a s h page other = elim ((its a s h.places).placing.fresh page) [
  | inl same ↦ ap (λ (e : Entry). is_page_of e s.pass.generation) same ∙ other
  | inr taken ↦ ap (λ (e : Entry). is_page_of e s.pass.generation) taken.1.entry ∙ scratch-other s.pass.generation h.places.generation
]

-- a page that is not of the generation does not become one
other-stays : (a : NamedHeap) (s t : CopyState) → Midway a s → Scans a s t → (page : ℕ) → is_page_of (entry_at s.pages page) s.pass.generation ≡ false →
    is_page_of (entry_at t.pages page) t.pass.generation ≡ false
other-stays a s t h k page other =
    let same : t.pass.generation ≡ s.pass.generation = ap (λ p. p.generation) k.follows.grows.pass in
    other-now a t k.midway page (subst (λ (g : ℕ). is_page_of (entry_at a.pages page) g ≡ false) (sym same) (other-before a s h page other))

pub none-stays : (a : NamedHeap) (s t : CopyState) → Midway a s → Scans a s t → HasNoPage s.pages s.pass.generation → HasNoPage t.pages t.pass.generation
none-stays a s t h k none page = other-stays a s t h k page (none page)

pub reach-stays : (a : NamedHeap) (s t : CopyState) (reach : Reach) → Midway a s → Scans a s t → IsReach s.pages s.pass.generation reach → IsReach t.pages t.pass.generation reach
reach-stays a s t reach h k all = record {
  low = all.low;
  others = λ word index tag tagged out. other-stays a s t h k (index / 512) (all.others word index tag tagged out);
}

-- then each value is settled, and its word is what it was
idle-word : (a : NamedHeap) (s : CopyState) → Midway a s → HasNoPage a.pages s.pass.generation → (v : Value) (word : ℕ) → IsWordOf a s v word → IsNewWord a s v word
idle-word a s h none v word w = elim w.either [
  | inr new ↦ new
  | inl before ↦ go v word w before
]
  where
    go : (v : Value) (word : ℕ) → IsWordOf a s v word → word ≡ word_before a v → IsNewWord a s v word
    go (Fix n) word w before = record { settled = refl; is = before }
    go Nil word w before = record { settled = refl; is = before }
    go Unbound word w before = record { settled = refl; is = before }
    go (Ref x) word w before = there (object_at a.objects x) refl
      where
        there : (q : Option Object) → object_at a.objects x ≡ q → IsNewWord a s (Ref x) word
        there None e = absurd (false≢true (subst (λ (q : Option Object). IsSome q) e w.living))
        there (Some o) e =
            let apart = other-on_page a s h (o.place / 512) (none (o.place / 512)) x o e refl in
            let it = older a s h x o e apart in
            record { settled = it.settled; is = before ∙ sym (same_word a s h.places x o e it.here) }

-- a page of conses: what begins on it is a cons
cons-kind : (kind : Kind) → is_cons_page (page_type_of kind) ≡ true → kind ≡ kinds.Cons
cons-kind kinds.Cons e = refl
cons-kind kinds.Vector e = absurd (false≢true e)
cons-kind kinds.Instance e = absurd (false≢true e)
cons-kind kinds.Closure e = absurd (false≢true e)
cons-kind kinds.Words e = absurd (false≢true e)
cons-kind kinds.Weak e = absurd (false≢true e)
cons-kind kinds.Table e = absurd (false≢true e)

-- a page on which something begins is the one that it was before the pass
same-page : (a : NamedHeap) (s : CopyState) → Midway a s → (page : ℕ) → 0 < fill_of (entry_at a.pages page) → entry_at s.pages page ≡ entry_at a.pages page
same-page a s h page some = elim ((its a s h.places).placing.fresh page) [
  | inl same ↦ same
  | inr taken ↦ absurd (let none : fill_of (entry_at a.pages page) ≡ 0 = ap fill_of taken.0 in omega (arith, none, some))
]

module _ (a : NamedHeap) (s : CopyState) (page words : ℕ) (can : CanScanPage a s page words) (needs : NeedsNoScan s page words) (name : ℕ) (o : Object)
    (there : object_at a.objects name ≡ Some o) (from : 512 * page ≤ o.place) (below : o.place < 512 * page + words) where
  has_words : 0 < words
  has_words = omega arith

  page_is : HasRoots (entry_at a.pages page) page s.pass.generation words
  page_is = rooted_page a s page words can has_words

  its_page : o.place / 512 ≡ page
  its_page = (let most = words-most a s page words can in omega arith)

  object : IsObject a.objects a.pages o
  object = can.midway.places.sound.objects name o there

  cons : kind_of o.contents ≡ kinds.Cons
  cons =
      let b = begins_on a.pages o object.placed in
      let same = same-page a s can.midway page (let all = page_is.all in omega (arith, all, has_words)) in
      let entry : entry_at s.pages page ≡ Used b.ty o.generation b.fill (o.place / 512) b.n = same ∙ ap (λ (p : ℕ). entry_at a.pages p) (sym its_page) ∙ b.entry in
      let conses : is_cons_page b.ty ≡ true = sym (ap has_conses entry) ∙ needs.conses has_words in
      cons-kind (kind_of o.contents) (ap is_cons_page (sym b.type) ∙ conses)

  it : IsQueued a s name o o.place
  it = older a s can.midway name o there (other-on_page a s can.midway page page_is.rooted.other name o there its_page)

  word_at : (i : ℕ) (v : Value) → slot_at o.contents i ≡ Some (Val v) → IsNewWord a s v (slice_index s.words (new_of s.moves o.place + i))
  word_at i v f =
      let w = field-word a s can.midway name o there i v f in
      let size : i < 2 = subst (λ (kind : Kind). i < size_of kind (payload_of o.contents)) cons (slot-below o.contents object.shape i (Val v) f) in
      let even = object.placed.even in
      let all : words % 2 ≡ 0 = (let e = laid_even page (entry_at a.pages page) (can.midway.places.sound.entries page) in let laid = page_is.rooted.laid in let is = page_is.all in omega (arith, e, laid, is)) in
      let k = o.place - 512 * page + i in
      let inside : k < words = omega (arith, size, even, all, from, below) in
      let here = it.here in
      let at : 512 * page + k ≡ new_of s.moves o.place + i = omega (arith, here, from) in
      elim needs.elsewhere [
        | inl idle ↦ idle-word a s can.midway (λ page. other-before a s can.midway page (idle page)) v (slice_index s.words (new_of s.moves o.place + i)) w
        | inr apart ↦ go i v w (subst (λ (index : ℕ). IsElsewhere s.pages s.pass.generation (slice_index s.words index)) at (apart k inside))
      ]
    where
      go : (i : ℕ) (v : Value) → IsWordOf a s v (slice_index s.words (new_of s.moves o.place + i)) → IsElsewhere s.pages s.pass.generation (slice_index s.words (new_of s.moves o.place + i)) →
          IsNewWord a s v (slice_index s.words (new_of s.moves o.place + i))
      go i v w (inl none) = untagged a s can.midway.places v (slice_index s.words (new_of s.moves o.place + i)) w none
      go i v w (inr r) = out_of_generation a s can.midway.places v (slice_index s.words (new_of s.moves o.place + i)) r.index r.tag w r.tagged r.other

  pub cons-done : (listed : List ℕ) → IsDone a s listed o
  cons-done listed = record {
    scanned = word_at;
    noted = λ weak. absurd (false≢true (sym (ap is_weak_kind cons) ∙ kind-weak o.contents ∙ weak));
  }

-- all that begins on the page
pub clear-done : (a : NamedHeap) (s : CopyState) (page words : ℕ) → CanScanPage a s page words → NeedsNoScan s page words → (listed : List ℕ) →
    AreObjectsScanned a s listed (512 * page) (512 * page + words)
clear-done a s page words can needs listed = λ name o there from below. cons-done a s page words can needs name o there from below listed
