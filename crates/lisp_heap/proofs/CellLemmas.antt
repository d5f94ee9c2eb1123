-- The words of the cells go on standing for the heap.
use Rattle.std.proofs.Common.{◌≡◌, ◌≢◌, ℕ, ◌*◌, ◌<◌, List, length, refl, sym, ◌∙◌, subst, ap, arith, get_or, set, length-set, get_or-set_same, get_or-set_other, inl, inr, Option}
use Rattle.std.proofs.lemmas.Bool.{cases_eq}
use Rattle.std.specs.Prelude.{slice_index, slice_index_or}
use Rattle.heap_terms.specs.declared.cells.Cell.{Cell}
use Rattle.heap_terms.specs.declared.cells.Cell.TheVariants.{Stack, Exact, Shared}
use Rattle.heap_terms.specs.declared.cells.Raw.{Raw}
use Rattle.heap_terms.specs.declared.cells.Value.{Value}
use Rattle.heap_terms.specs.Cells.{with_cell, cell_value}
use Rattle.heap_terms.specs.Heap.{NamedHeap, Thread, thread_at, with_thread, zero_value}
use Rattle.heap_terms.specs.Objects.{Object}
use Rattle.heap_terms.specs.RawCells.{raw_value, with_raw}
use Rattle.heap_terms.specs.Valid.{IsCell, IsRaw}
use Rattle.heap_terms.specs.Spelling.{word_of}
use Rattle.lisp_heap.specs.CellsView.{CellsView, spot, raw_spot, with_cell_word, cell_word, raw_word, with_raw_word}
use Rattle.lisp_heap.specs.Standing.{CellsStand}
use Rattle.lisp_heap.proofs.Threads.{thread_at-same, thread_at-other, thread_part}

-- a change of a thread that leaves its cells alone
pub CellsStand-with_thread : (a : NamedHeap) (t : ℕ) (th : Thread) (v : CellsView) → th.stack ≡ (thread_at a t).stack →
    th.exact ≡ (thread_at a t).exact → th.raws ≡ (thread_at a t).raws → CellsStand a v → CellsStand (with_thread a t th) v
CellsStand-with_thread a t th v stack exact raws s = record {
  stack_length = s.stack_length ∙ ap (λ n. 16 * n) (sym (length-set a.threads t th));
  exact_length = s.exact_length ∙ ap (λ n. 16 * n) (sym (length-set a.threads t th));
  raws_length = s.raws_length ∙ ap (λ n. 8 * n) (sym (length-set a.threads t th));
  shared_length = s.shared_length;
  stack = λ u i hu hi. (
      let lt : u < length a.threads = subst (λ (n : ℕ). u < n) (length-set a.threads t th) hu in
      s.stack u i lt hi ∙ ap (λ (xs : List Value). word_of a.objects (get_or xs i zero_value)) (sym (thread_part (λ (x : Thread). x.stack) a t u th stack lt)));
  exact = λ u i hu hi. (
      let lt : u < length a.threads = subst (λ (n : ℕ). u < n) (length-set a.threads t th) hu in
      s.exact u i lt hi ∙ ap (λ (xs : List Value). word_of a.objects (get_or xs i zero_value)) (sym (thread_part (λ (x : Thread). x.exact) a t u th exact lt)));
  raws = λ u i hu hi. (
      let lt : u < length a.threads = subst (λ (n : ℕ). u < n) (length-set a.threads t th) hu in
      s.raws u i lt hi ∙ ap (λ (xs : List ℕ). get_or xs i 0) (sym (thread_part (λ (x : Thread). x.raws) a t u th raws lt)));
  shared = s.shared;
}

-- a change of objects under which the words of the values in cells stay
pub record KeepsWords (a : NamedHeap) (objects : List (Option Object)) : Type 0 where
  pub stack : (t i : ℕ) → t < length a.threads → i < 16 →
      word_of objects (slice_index_or (thread_at a t).stack i zero_value) ≡ word_of a.objects (slice_index_or (thread_at a t).stack i zero_value)
  pub exact : (t i : ℕ) → t < length a.threads → i < 16 →
      word_of objects (slice_index_or (thread_at a t).exact i zero_value) ≡ word_of a.objects (slice_index_or (thread_at a t).exact i zero_value)
  pub shared : (i : ℕ) → i < 16 →
      word_of objects (slice_index_or a.shared i zero_value) ≡ word_of a.objects (slice_index_or a.shared i zero_value)

pub CellsStand-objects : (a : NamedHeap) (objects : List (Option Object)) (v : CellsView) → KeepsWords a objects →
    CellsStand a v → CellsStand (record a { objects = objects }) v
CellsStand-objects a objects v keeps s = record {
  stack_length = s.stack_length;
  exact_length = s.exact_length;
  raws_length = s.raws_length;
  shared_length = s.shared_length;
  stack = λ t i ht hi. s.stack t i ht hi ∙ sym (keeps.stack t i ht hi);
  exact = λ t i ht hi. s.exact t i ht hi ∙ sym (keeps.exact t i ht hi);
  raws = s.raws;
  shared = λ i hi. s.shared i hi ∙ sym (keeps.shared i hi);
}

-- what one list of cells says after a write, where cell i of thread t got a value
at_spot : (objects : List (Option Object)) (words : List ℕ) (values : List Value) (t i u j word : ℕ) (v : Value) → i < 16 → j < 16 →
    spot t i < length words → i < length values → word ≡ word_of objects v →
    (slice_index words (spot u j) ≡ word_of objects (slice_index_or values j zero_value)) → u ≡ t →
    slice_index (set words (spot t i) word) (spot u j) ≡ word_of objects (slice_index_or (set values i v) j zero_value)
at_spot objects words values t i u j word v hi hj inside below is before same = elim (cases_eq j i) [
  | inl e ↦ (
      let where_it_is : spot u j ≡ spot t i = omega arith in
      subst (λ (k : ℕ). get_or (set words (spot t i) word) k 0 ≡ word_of objects (get_or (set values i v) j zero_value)) (sym where_it_is)
      (get_or-set_same words (spot t i) word 0 inside ∙ is
      ∙ ap (word_of objects) (sym (subst (λ (k : ℕ). get_or (set values i v) k zero_value ≡ v) (sym e) (get_or-set_same values i v zero_value below)))))
  | inr n ↦ (
      let apart : spot u j ≢ spot t i = λ h. n (omega arith) in
      get_or-set_other words (spot t i) (spot u j) word 0 apart ∙ before
      ∙ ap (word_of objects) (sym (get_or-set_other values i j v zero_value n)))
]

-- a value is put into a cell, and its word into the words
pub CellsStand-with_cell : (a : NamedHeap) (t : ℕ) (cell : Cell) (value : Value) (word : ℕ) (v : CellsView) → IsCell cell →
    t < length a.threads → length (thread_at a t).stack ≡ 16 → length (thread_at a t).exact ≡ 16 → length a.shared ≡ 16 →
    word ≡ word_of a.objects value → CellsStand a v → CellsStand (with_cell a t cell value) (with_cell_word v t cell word)
CellsStand-with_cell a t (Stack i) value word v hi ht stack_long exact_long shared_long is s =
    let th : Thread = record (thread_at a t) { stack = set (thread_at a t).stack i value } in
    record {
      stack_length = length-set v.stack (spot t i) word ∙ s.stack_length ∙ ap (λ n. 16 * n) (sym (length-set a.threads t th));
      exact_length = s.exact_length ∙ ap (λ n. 16 * n) (sym (length-set a.threads t th));
      raws_length = s.raws_length ∙ ap (λ n. 8 * n) (sym (length-set a.threads t th));
      shared_length = s.shared_length;
      stack = λ u j hu hj. (
          let lu : u < length a.threads = subst (λ (n : ℕ). u < n) (length-set a.threads t th) hu in
          elim (cases_eq u t) [
            | inl e ↦ (
                let inside : spot t i < length v.stack = omega (arith, s.stack_length) in
                let below : i < length (thread_at a t).stack = omega arith in
                let before : slice_index v.stack (spot u j) ≡ word_of a.objects (slice_index_or (thread_at a t).stack j zero_value) =
                subst (λ (k : ℕ). slice_index v.stack (spot u j) ≡ word_of a.objects (slice_index_or (thread_at a k).stack j zero_value)) e (s.stack u j lu hj) in
                at_spot a.objects v.stack (thread_at a t).stack t i u j word value hi hj inside below is before e
                ∙ ap (λ (x : Thread). word_of a.objects (get_or x.stack j zero_value))
                (sym (subst (λ (k : ℕ). thread_at (with_thread a t th) k ≡ th) (sym e) (thread_at-same a t th ht))))
            | inr n ↦ (
                let apart : spot u j ≢ spot t i = λ h. n (omega arith) in
                get_or-set_other v.stack (spot t i) (spot u j) word 0 apart ∙ s.stack u j lu hj
                ∙ ap (λ (x : Thread). word_of a.objects (get_or x.stack j zero_value)) (sym (thread_at-other a t u th n)))
          ]);
      exact = λ u j hu hj. (
          let lu : u < length a.threads = subst (λ (n : ℕ). u < n) (length-set a.threads t th) hu in
          s.exact u j lu hj ∙ ap (λ (xs : List Value). word_of a.objects (get_or xs j zero_value)) (sym (thread_part (λ (x : Thread). x.exact) a t u th refl lu)));
      raws = λ u j hu hj. (
          let lu : u < length a.threads = subst (λ (n : ℕ). u < n) (length-set a.threads t th) hu in
          s.raws u j lu hj ∙ ap (λ (xs : List ℕ). get_or xs j 0) (sym (thread_part (λ (x : Thread). x.raws) a t u th refl lu)));
      shared = s.shared;
    }
CellsStand-with_cell a t (Exact i) value word v hi ht stack_long exact_long shared_long is s =
    let th : Thread = record (thread_at a t) { exact = set (thread_at a t).exact i value } in
    record {
      stack_length = s.stack_length ∙ ap (λ n. 16 * n) (sym (length-set a.threads t th));
      exact_length = length-set v.exact (spot t i) word ∙ s.exact_length ∙ ap (λ n. 16 * n) (sym (length-set a.threads t th));
      raws_length = s.raws_length ∙ ap (λ n. 8 * n) (sym (length-set a.threads t th));
      shared_length = s.shared_length;
      stack = λ u j hu hj. (
          let lu : u < length a.threads = subst (λ (n : ℕ). u < n) (length-set a.threads t th) hu in
          s.stack u j lu hj ∙ ap (λ (xs : List Value). word_of a.objects (get_or xs j zero_value)) (sym (thread_part (λ (x : Thread). x.stack) a t u th refl lu)));
      exact = λ u j hu hj. (
          let lu : u < length a.threads = subst (λ (n : ℕ). u < n) (length-set a.threads t th) hu in
          elim (cases_eq u t) [
            | inl e ↦ (
                let inside : spot t i < length v.exact = omega (arith, s.exact_length) in
                let below : i < length (thread_at a t).exact = omega arith in
                let before : slice_index v.exact (spot u j) ≡ word_of a.objects (slice_index_or (thread_at a t).exact j zero_value) =
                subst (λ (k : ℕ). slice_index v.exact (spot u j) ≡ word_of a.objects (slice_index_or (thread_at a k).exact j zero_value)) e (s.exact u j lu hj) in
                at_spot a.objects v.exact (thread_at a t).exact t i u j word value hi hj inside below is before e
                ∙ ap (λ (x : Thread). word_of a.objects (get_or x.exact j zero_value))
                (sym (subst (λ (k : ℕ). thread_at (with_thread a t th) k ≡ th) (sym e) (thread_at-same a t th ht))))
            | inr n ↦ (
                let apart : spot u j ≢ spot t i = λ h. n (omega arith) in
                get_or-set_other v.exact (spot t i) (spot u j) word 0 apart ∙ s.exact u j lu hj
                ∙ ap (λ (x : Thread). word_of a.objects (get_or x.exact j zero_value)) (sym (thread_at-other a t u th n)))
          ]);
      raws = λ u j hu hj. (
          let lu : u < length a.threads = subst (λ (n : ℕ). u < n) (length-set a.threads t th) hu in
          s.raws u j lu hj ∙ ap (λ (xs : List ℕ). get_or xs j 0) (sym (thread_part (λ (x : Thread). x.raws) a t u th refl lu)));
      shared = s.shared;
    }
CellsStand-with_cell a t (Shared i) value word v hi ht stack_long exact_long shared_long is s = record {
  stack_length = s.stack_length;
  exact_length = s.exact_length;
  raws_length = s.raws_length;
  shared_length = length-set v.shared i word ∙ s.shared_length;
  stack = s.stack;
  exact = s.exact;
  raws = s.raws;
  shared = λ j hj. elim (cases_eq j i) [
    | inl e ↦ (
        let inside : i < length v.shared = omega (arith, s.shared_length) in
        let below : i < length a.shared = omega arith in
        subst (λ (k : ℕ). get_or (set v.shared i word) k 0 ≡ word_of a.objects (get_or (set a.shared i value) k zero_value)) (sym e)
        (get_or-set_same v.shared i word 0 inside ∙ is ∙ ap (word_of a.objects) (sym (get_or-set_same a.shared i value zero_value below))))
    | inr n ↦ get_or-set_other v.shared i j word 0 n ∙ s.shared j hj ∙ ap (word_of a.objects) (sym (get_or-set_other a.shared i j value zero_value n))
  ];
}

-- the word in a cell is that of its value
pub CellsStand-read : (a : NamedHeap) (t : ℕ) (cell : Cell) (v : CellsView) → IsCell cell → t < length a.threads → CellsStand a v →
    cell_word v t cell ≡ word_of a.objects (cell_value a t cell)
CellsStand-read a t (Stack i) v hi ht s = s.stack t i ht hi
CellsStand-read a t (Exact i) v hi ht s = s.exact t i ht hi
CellsStand-read a t (Shared i) v hi ht s = s.shared i hi

-- a word is put into a raw cell
pub CellsStand-with_raw : (a : NamedHeap) (t : ℕ) (r : Raw) (word : ℕ) (v : CellsView) → IsRaw r → t < length a.threads →
    length (thread_at a t).raws ≡ 8 → CellsStand a v → CellsStand (with_raw a t r word) (with_raw_word v t r word)
CellsStand-with_raw a t r word v hi ht long s =
    let th : Thread = record (thread_at a t) { raws = set (thread_at a t).raws r.0 word } in
    record {
      stack_length = s.stack_length ∙ ap (λ n. 16 * n) (sym (length-set a.threads t th));
      exact_length = s.exact_length ∙ ap (λ n. 16 * n) (sym (length-set a.threads t th));
      raws_length = length-set v.raws (raw_spot t r.0) word ∙ s.raws_length ∙ ap (λ n. 8 * n) (sym (length-set a.threads t th));
      shared_length = s.shared_length;
      stack = λ u j hu hj. (
          let lu : u < length a.threads = subst (λ (n : ℕ). u < n) (length-set a.threads t th) hu in
          s.stack u j lu hj ∙ ap (λ (xs : List Value). word_of a.objects (get_or xs j zero_value)) (sym (thread_part (λ (x : Thread). x.stack) a t u th refl lu)));
      exact = λ u j hu hj. (
          let lu : u < length a.threads = subst (λ (n : ℕ). u < n) (length-set a.threads t th) hu in
          s.exact u j lu hj ∙ ap (λ (xs : List Value). word_of a.objects (get_or xs j zero_value)) (sym (thread_part (λ (x : Thread). x.exact) a t u th refl lu)));
      raws = λ u j hu hj. (
          let lu : u < length a.threads = subst (λ (n : ℕ). u < n) (length-set a.threads t th) hu in
          elim (cases_eq u t) [
            | inl e ↦ (
                let own : (thread_at (with_thread a t th) u).raws ≡ set (thread_at a t).raws r.0 word =
                ap (λ (x : Thread). x.raws) (subst (λ (k : ℕ). thread_at (with_thread a t th) k ≡ th) (sym e) (thread_at-same a t th ht)) in
                let before : slice_index v.raws (raw_spot u j) ≡ get_or (thread_at a t).raws j 0 =
                subst (λ (k : ℕ). slice_index v.raws (raw_spot u j) ≡ get_or (thread_at a k).raws j 0) e (s.raws u j lu hj) in
                raw_written v.raws (thread_at a t).raws t r.0 u j word (omega arith) (omega (arith, s.raws_length, hi)) (omega (arith, long, hi)) before e hj
                ∙ ap (λ (xs : List ℕ). get_or xs j 0) (sym own))
            | inr n ↦ (
                let apart : raw_spot u j ≢ raw_spot t r.0 = λ h. n (omega (arith, h, hi, hj)) in
                get_or-set_other v.raws (raw_spot t r.0) (raw_spot u j) word 0 apart ∙ s.raws u j lu hj
                ∙ ap (λ (x : Thread). get_or x.raws j 0) (sym (thread_at-other a t u th n)))
          ]);
      shared = s.shared;
    }
  where
    raw_written : (words values : List ℕ) (t i u j word : ℕ) → i < 8 → raw_spot t i < length words → i < length values →
        slice_index words (raw_spot u j) ≡ get_or values j 0 → u ≡ t → j < 8 →
        slice_index (set words (raw_spot t i) word) (raw_spot u j) ≡ get_or (set values i word) j 0
    raw_written words values t i u j word hi inside below before same hj = elim (cases_eq j i) [
      | inl e ↦ (
          let here : raw_spot u j ≡ raw_spot t i = omega arith in
          subst (λ (k : ℕ). get_or (set words (raw_spot t i) word) k 0 ≡ get_or (set values i word) j 0) (sym here)
          (get_or-set_same words (raw_spot t i) word 0 inside
          ∙ sym (subst (λ (k : ℕ). get_or (set values i word) k 0 ≡ word) (sym e) (get_or-set_same values i word 0 below))))
      | inr n ↦ (
          let apart : raw_spot u j ≢ raw_spot t i = λ h. n (omega arith) in
          get_or-set_other words (raw_spot t i) (raw_spot u j) word 0 apart ∙ before ∙ sym (get_or-set_other values i j word 0 n))
    ]

-- the word in a raw cell is that of the thread
pub CellsStand-raw : (a : NamedHeap) (t : ℕ) (r : Raw) (v : CellsView) → IsRaw r → t < length a.threads → CellsStand a v →
    raw_word v t r ≡ raw_value a t r
CellsStand-raw a t r v hi ht s = s.raws t r.0 ht hi
