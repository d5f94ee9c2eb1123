-- Where regions lie whose pages' entries stayed.
use Rattle.std.proofs.Common.{◌≡◌, ℕ, ◌+◌, ◌*◌, List, ap, sym, refl, Option, Some, None, option_map}
use Rattle.heap_terms.specs.declared.pages.Entry.{Entry}
use Rattle.heap_terms.specs.Heap.{entry_at, fill_of}
use Rattle.lisp_heap.specs.Agreement.{small_out, run_out, run_pages_of, run_type_of, type_of}

pub small_out_same : (old new : List Entry) (o : Option ℕ) → ((page : ℕ) → o ≡ Some page → entry_at new page ≡ entry_at old page) →
    option_map (small_out old) o ≡ option_map (small_out new) o
small_out_same old new None h = refl
small_out_same old new (Some page) h = ap (λ (e : Entry). Some (record { first = page; pages = 1; next = 512 * page + fill_of e })) (sym (h page refl))

pub run_out_same : (old new : List Entry) (o : Option ℕ) → ((page : ℕ) → o ≡ Some page → entry_at new page ≡ entry_at old page) →
    option_map (run_out old) o ≡ option_map (run_out new) o
run_out_same old new None h = refl
run_out_same old new (Some page) h = ap (λ (e : Entry). Some (record { first = page; pages = run_pages_of e; next = 512 * page })) (sym (h page refl))

pub run_type_same : (old new : List Entry) (o : Option ℕ) → ((page : ℕ) → o ≡ Some page → entry_at new page ≡ entry_at old page) →
    run_type_of old o ≡ run_type_of new o
run_type_same old new None h = refl
run_type_same old new (Some page) h = ap (λ (e : Entry). type_of e) (sym (h page refl))
