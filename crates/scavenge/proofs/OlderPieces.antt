-- One piece of a page of another generation: what its first word tells, and that it is scanned.
use Rattle.std.proofs.Common.{◌≡◌, ◌≢◌, ℕ, ◌+◌, ◌-◌, ◌*◌, ◌/◌, ◌%◌, ◌<◌, ◌≤◌, inl, inr, List, length, Some, true, false, refl, sym, ◌∙◌, ap, subst, arith}
use Rattle.std.proofs.lemmas.Bool.{cases_lt, ne_eqb, false≢true}
use Rattle.std.proofs.lemmas.List.{get_or_past}
use Rattle.std.specs.Prelude.{slice_index, ◌==◌}
use Rattle.heap_terms.specs.declared.kinds.Kind.{Kind}
use Rattle.heap_terms.specs.declared.kinds.Kind.TheVariants as kinds
use Rattle.heap_terms.specs.declared.pages.Entry.{Entry}
use Rattle.heap_terms.specs.declared.pages.Entry.TheVariants.{Free}
use Rattle.heap_terms.specs.Heap.{NamedHeap, object_at, entry_at, fill_of}
use Rattle.heap_terms.specs.Layout.{filler_word, header_of, kind_byte_of, size_of}
use Rattle.heap_terms.specs.Objects.{Object, kind_of, payload_of, words_of_object}
use Rattle.heap_terms.specs.OnPages.{IsOwned}
use Rattle.lisp_words.specs.Tagged.{IsHeader}
use Rattle.object_walk.proofs.HeapWalks.{BeginsHere, BeginsNone, begins_or_not}
use Rattle.pass_laws.proofs.Sizes.{words_least}
use Rattle.copy_space.specs.Midway.{Midway}
use Rattle.copy_space.specs.Moved.{new_of}
use Rattle.copy_space.specs.Pages.{is_page_of}
use Rattle.copy_space.specs.State.{CopyState}
use Rattle.copy_space.proofs.Places.{placed_page}
use Rattle.copy_space.proofs.Referents.{its, other_unmoved, settles-not}
use Rattle.copy_space.proofs.Shapes.{payload-most}
use Rattle.scavenge.specs.Fields.{CanScanObject, IsObjectScanned}
use Rattle.scavenge.specs.Older.{IsEdge, IsSized, CanScanPiece, IsPieceScanned}
use Rattle.scavenge.proofs.Edges.{same_or_before, edge-behind, edge-over, not-owned, none-over}
use Rattle.scavenge.proofs.FirstWord.{is_cons, header_one, header-word, headed-by_word, object-inside}
use Rattle.scavenge.proofs.QueueLaws.{IsQueued}

-- headers tell their kind and payload, and none is the filler
byte_below : (kind : Kind) → kind_byte_of kind < 256
byte_below kinds.Cons = omega arith
byte_below kinds.Vector = omega arith
byte_below kinds.Instance = omega arith
byte_below kinds.Closure = omega arith
byte_below kinds.Words = omega arith
byte_below kinds.Weak = omega arith
byte_below kinds.Table = omega arith

same_payload : (kind other : Kind) (n m : ℕ) → header_of kind n ≡ header_of other m → n ≡ m
same_payload kind other n m e = omega (arith, e, byte_below kind, byte_below other)

no_filler : (kind : Kind) (n : ℕ) → header_of kind n ≢ filler_word
no_filler kinds.Cons n e = omega (arith, e)
no_filler kinds.Vector n e = omega (arith, e)
no_filler kinds.Instance n e = omega (arith, e)
no_filler kinds.Closure n e = omega (arith, e)
no_filler kinds.Words n e = omega (arith, e)
no_filler kinds.Weak n e = omega (arith, e)
no_filler kinds.Table n e = omega (arith, e)

-- an object of another generation is settled, and is where it was
pub older : (a : NamedHeap) (s : CopyState) → Midway a s → (name : ℕ) (o : Object) → object_at a.objects name ≡ Some o → o.generation ≢ s.pass.generation →
    IsQueued a s name o o.place
older a s h name o there apart =
    let other : (o.generation == s.pass.generation) ≡ false = ne_eqb o.generation s.pass.generation apart in
    record {
      settled = settles-not a s h.places name o there ∙ rw other refl;
      here = other_unmoved a s h.places name o there apart;
    }

-- an object that begins on a page of another generation is of another generation
pub other-on_page : (a : NamedHeap) (s : CopyState) → Midway a s → (page : ℕ) → is_page_of (entry_at a.pages page) s.pass.generation ≡ false → (name : ℕ) (o : Object) →
    object_at a.objects name ≡ Some o → o.place / 512 ≡ page → o.generation ≢ s.pass.generation
other-on_page a s h page other name o there on same =
    let least = words_least o in
    let its_page = placed_page a.pages o (its a s h.places).most_before (h.places.sound.objects name o there).placed o.place (omega arith) (omega arith) in
    let same_page : is_page_of (entry_at a.pages page) s.pass.generation ≡ true =
    subst (λ (g : ℕ). is_page_of (entry_at a.pages page) g ≡ true) same (subst (λ (p : ℕ). is_page_of (entry_at a.pages p) o.generation ≡ true) on its_page) in
    false≢true (sym other ∙ same_page)

-- a page with words is one of the heap's
pub page-inside : (a : NamedHeap) (page i : ℕ) → i < fill_of (entry_at a.pages page) → page < length a.pages
page-inside a page i l = elim (cases_lt page (length a.pages)) [
  | inl inside ↦ inside
  | inr past ↦ (let none : i < 0 = subst (λ (e : Entry). i < fill_of e) (get_or_past a.pages page Free past) l in absurd (omega (arith, none)))
]

module _ (a : NamedHeap) (s : CopyState) (index first : ℕ) (can : CanScanPiece a s index) (is : first ≡ slice_index s.words index) where
  on_page : index / 512 ≡ can.page
  on_page = (let most = (its a s can.midway.places).most_before can.page in let low = can.from in let high = can.below in omega arith)

  -- an object that begins here
  begins : (name : ℕ) (o : Object) → object_at a.objects name ≡ Some o → o.place ≡ index → IsQueued a s name o index
  begins name o there here =
      let apart = other-on_page a s can.midway can.page can.other name o there (ap (λ (i : ℕ). i / 512) here ∙ on_page) in
      let it = older a s can.midway name o there apart in
      record { settled = it.settled; here = it.here ∙ here }

  first_there : (name : ℕ) (o : Object) → object_at a.objects name ≡ Some o → o.place ≡ index → slice_index s.words (new_of s.moves o.place) ≡ first
  first_there name o there here = ap (λ (i : ℕ). slice_index s.words i) (begins name o there here).here ∙ sym is

  -- two fillers
  no_object : first ≡ filler_word → BeginsNone a.objects index
  no_object filler name o there here =
      let word = first_there name o there here in
      elim (is_cons (kind_of o.contents)) [
        | inl cons ↦ headed-by_word a s can.midway name o there (ap (λ (w : ℕ). w % 4) (word ∙ filler)) cons
        | inr headed ↦ no_filler (kind_of o.contents) (payload_of o.contents) (sym (header-word a s can.midway name o there headed).word_is ∙ word ∙ filler)
      ]

  pub fillers-scanned : (listed : List ℕ) → first ≡ filler_word → IsPieceScanned a s listed index (index + 2)
  fillers-scanned listed filler =
      let sound = can.midway.places.sound in
      let none = no_object filler in
      record {
        edge = edge-over a index sound can.edge none;
        more = omega arith;
        scanned = λ name o there low high. absurd (none-over a index sound can.edge none name o there low high);
      }

  -- an object
  pub object-here : first ≢ filler_word → BeginsHere a.objects index
  object-here other = elim (begins_or_not a.objects index) [
    | inl k ↦ k
    | inr none ↦ (let free = not-owned a index can.midway.places.sound can.edge none in
        let at : 512 * can.page + (index - 512 * can.page) ≡ index = (let low = can.from in omega arith) in
        let word = can.midway.places.fillers can.page (index - 512 * can.page) (let low = can.from in let high = can.below in omega arith) in
        let said : ¬ IsOwned a.objects index → slice_index s.words index ≡ filler_word = subst (λ (i : ℕ). ¬ IsOwned a.objects i → slice_index s.words i ≡ filler_word) at word in
        absurd (other (is ∙ said free)))
  ]

  pub piece-can : first ≢ filler_word → CanScanObject a s index
  piece-can other =
      let k = object-here other in
      let it = begins k.name k.o k.there k.here in
      record { midway = can.midway; at = record { name = k.name; o = k.o; there = k.there; settled = it.settled; here = it.here } }

  pub piece-sized : first ≢ filler_word → IsSized first
  piece-sized other = λ kind n header.
      (let k = object-here other in
      let word = first_there k.name k.o k.there k.here in
      let one : slice_index s.words (new_of s.moves k.o.place) % 4 ≡ 1 = ap (λ (w : ℕ). w % 4) (word ∙ header.word_is) ∙ header_one kind n header.headed in
      let headed = headed-by_word a s can.midway k.name k.o k.there one in
      let its_header = header-word a s can.midway k.name k.o k.there headed in
      let most = payload-most k.o.contents (can.midway.places.sound.objects k.name k.o k.there).shape in
      let same = same_payload (kind_of k.o.contents) kind (payload_of k.o.contents) n (sym its_header.word_is ∙ word ∙ header.word_is) in
      omega (arith, same, most))

  -- its size is read off its first word
  pub piece-size : (other : first ≢ filler_word) (size : ℕ) → ((kind : Kind) (n : ℕ) → IsHeader first kind n → size ≡ size_of kind n) → (first % 4 ≢ 1 → size ≡ 2) →
      size ≡ words_of_object (object-here other).o
  piece-size other size headed_size cons_size =
      let k = object-here other in
      let word = first_there k.name k.o k.there k.here in
      elim (is_cons (kind_of k.o.contents)) [
        | inl cons ↦ (let small : size ≡ 2 = cons_size (λ one. headed-by_word a s can.midway k.name k.o k.there (ap (λ (w : ℕ). w % 4) word ∙ one) cons) in
            small ∙ sym (ap (λ (kind : Kind). size_of kind (payload_of k.o.contents)) cons))
        | inr headed ↦ headed_size (kind_of k.o.contents) (payload_of k.o.contents)
            (subst (λ (w : ℕ). IsHeader w (kind_of k.o.contents) (payload_of k.o.contents)) word (header-word a s can.midway k.name k.o k.there headed))
      ]

  pub piece-inside : (other : first ≢ filler_word) → index + words_of_object (object-here other).o ≤ length s.words
  piece-inside other =
      let k = object-here other in
      let inside = object-inside a s can.midway k.name k.o k.there in
      let here = (begins k.name k.o k.there k.here).here in
      omega arith

  pub object-scanned : (t : CopyState) (listed : List ℕ) (size : ℕ) (other : first ≢ filler_word) → size ≡ words_of_object (object-here other).o → IsObjectScanned a s t listed index →
      IsPieceScanned a t listed index (index + size)
  object-scanned t listed size other size_is one =
      let sound = can.midway.places.sound in
      let k = object-here other in
      let least = words_least k.o in
      record {
        edge = subst (λ (n : ℕ). IsEdge a (index + n)) (sym size_is) (edge-behind a index sound can.edge k.name k.o k.there k.here);
        more = omega arith;
        scanned = λ name o there low high.
            (let here = k.here in
            let least_o = words_least o in
            elim (same_or_before a sound k.name name k.o o k.there there (omega arith)) [
              | inl same ↦ (let at = begins name o there (ap (λ (q : Object). q.place) same.1 ∙ here) in one name o there at.settled at.here)
              | inr before ↦ absurd (omega arith)
            ]);
      }
