-- What the line of a word says may come where the word may stand.
use Rattle.std.proofs.Common.{◌≡◌, ℕ, ℤ, pos, negsuc, ◌≤◌, ◌<◌, ◌^◌, Bool, true, false, cond, eqb, leb, List, [], ◌∷◌, Option, Some, None, Result, Ok, Err, refl, sym, ◌∙◌, subst, arith, inl, inr}
use Rattle.std.specs.Prelude.{codes, bytes_eq, find}
use Rattle.std.specs.List.{All}
use Rattle.std.proofs.lemmas.Bool.{and_parts, or_cases, eqb-true, ltb-true, leb-true, false≢true}
use Rattle.std.proofs.lemmas.Slice.Eq.{bytes_eq-Decides}
use Rattle.heap_terms.specs.declared.commands.Command.{Command}
use Rattle.heap_terms.specs.declared.commands.Command.TheVariants as commands
use Rattle.heap_terms.specs.declared.faults.Why.{Why}
use Rattle.heap_terms.specs.Fields.{◌>>=◌, between, at_least, at_most, is_auto, is_fixnum, is_i64}
use Rattle.heap_terms.specs.Grammar.{LispCell, RawCell, RawWord, WeaknessWord, Number, Signed, Wide, Statement, Version, HeapOf, AutoOf, NewThread, Does, Turns, EndOfScript, Row, Small, row, said_by_row_of, schedule_of, statement_of, turns_of_all, rows}
use Rattle.heap_terms.specs.ScriptReading.{Place, AtStart, AfterVersion, AfterHeap, AfterAuto, InThread, InSchedule, AfterEnd, may_follow}
use Rattle.heap_terms.specs.Valid.{IsCommand, IsFixnum, IsInRange, IsSigned, IsAuto, is_built, name_of}
use Rattle.script_text.proofs.Fitting.{EachSaid, row_said, turns_below}

-- a place after a `heap` line, and one after a `thread` line
unfoldable pub HasHeap : Place → Type 0
HasHeap AtStart = ⊥
HasHeap AfterVersion = ⊥
HasHeap _ = Unit {0}

unfoldable pub HasThread : Place → Type 0
HasThread InThread = Unit {0}
HasThread InSchedule = Unit {0}
HasThread AfterEnd = Unit {0}
HasThread _ = ⊥

-- a statement that may come at a place, in a script with so many threads before it
unfoldable pub May : Place → ℕ → Statement → Type 0
May place threads Version = Unit {0}
May place threads (HeapOf n) = 1 ≤ n
May place threads (AutoOf n) = IsAuto n × HasHeap place
May place threads NewThread = HasHeap place
May place threads (Does c) = IsCommand c × HasThread place
May place threads (Turns ts) = All (λ t. t < threads) ts × HasThread place
May place threads EndOfScript = HasThread place

heap_before : (place : Place) → may_follow place (codes "thread") ≡ true → HasHeap place
unfolding HasHeap
heap_before AtStart e = false≢true e
heap_before AfterVersion e = false≢true e
heap_before AfterHeap e = tt
heap_before AfterAuto e = tt
heap_before InThread e = tt
heap_before InSchedule e = tt
heap_before AfterEnd e = tt

auto_before : (place : Place) → may_follow place (codes "auto") ≡ true → HasHeap place
unfolding HasHeap
auto_before AtStart e = false≢true e
auto_before AfterVersion e = false≢true e
auto_before AfterHeap e = tt
auto_before AfterAuto e = tt
auto_before InThread e = tt
auto_before InSchedule e = tt
auto_before AfterEnd e = tt

-- a word that may stand at no place before the first thread
record IsLate (word : List ℕ) : Type 0 where
  start : may_follow AtStart word ≡ false
  version : may_follow AfterVersion word ≡ false
  heap : may_follow AfterHeap word ≡ false
  auto : may_follow AfterAuto word ≡ false

thread_before : (word : List ℕ) (place : Place) → IsLate word → may_follow place word ≡ true → HasThread place
unfolding HasThread
thread_before word AtStart late e = false≢true (sym late.start ∙ e)
thread_before word AfterVersion late e = false≢true (sym late.version ∙ e)
thread_before word AfterHeap late e = false≢true (sym late.heap ∙ e)
thread_before word AfterAuto late e = false≢true (sym late.auto ∙ e)
thread_before word InThread late e = tt
thread_before word InSchedule late e = tt
thread_before word AfterEnd late e = tt

fixnum_is : (n : ℤ) → is_fixnum n ≡ true → IsFixnum n
fixnum_is (pos n) e = ltb-true n (2 ^ 62) e
fixnum_is (negsuc n) e = ltb-true n (2 ^ 62) e

signed_is : (n : ℤ) → is_i64 n ≡ true → IsSigned n
signed_is (pos n) e = ltb-true n (2 ^ 63) e
signed_is (negsuc n) e = ltb-true n (2 ^ 63) e

narrow : (n : ℕ) → leb n 4294967295 ≡ true → n < 2 ^ 32
narrow n e = let most : n ≤ 4294967295 = leb-true n 4294967295 e in omega arith

auto_is : (n : ℕ) → is_auto n ≡ true → IsAuto n
auto_is n e = elim (or_cases (eqb n 0) (between 512 524288 n) e) [
  | inl none ↦ inl (eqb-true n 0 none)
  | inr some ↦ (let parts = and_parts (leb 512 n) (leb n 524288) some in inr (leb-true 512 n parts.0, leb-true n 524288 parts.1))
]

some_same : (x r : Row) → Some x ≡ Some r → x ≡ r
some_same x r e = cc

-- a command with its fields in range may stand in a program
sound : {c : Command} → is_built (name_of c) ≡ true → IsInRange c → IsCommand c
sound built in_range = record { built = built; in_range = in_range }

late : {word : List ℕ} → may_follow AtStart word ≡ false → may_follow AfterVersion word ≡ false → may_follow AfterHeap word ≡ false → may_follow AfterAuto word ≡ false → IsLate word
late a b c d = record { start = a; version = b; heap = c; auto = d }

schedule_may : (place : Place) (threads : ℕ) (fs : List (List ℕ)) (said : Statement) → HasThread place → schedule_of threads fs ≡ Ok said → May place threads said
unfolding May
schedule_may place threads [] said h e = absurd cc
schedule_may place threads (f ∷ fs) said h e = at (turns_of_all threads (f ∷ fs)) (λ ts g. turns_below threads (f ∷ fs) ts g) e
  where
    at : (r : Result (List ℕ) Why) → ((ts : List ℕ) → r ≡ Ok ts → All (λ t. t < threads) ts) → (r >>= λ ts. Ok (Turns ts)) ≡ Ok said → May place threads said
    at (Ok ts) g k = let same : Turns ts ≡ said = cc in subst (May place threads) same (g ts refl, h)
    at (Err why) g k = absurd cc

-- Whatever the line of a row says may come where the word may stand. Which words are built is no matter here.
record IsGood (r : Row) : Type 0 where
  says : (place : Place) (threads : ℕ) → is_built r.word ≡ true → may_follow place r.word ≡ true → EachSaid r.forms r.says (May place threads)

good_lispheap : IsGood (row (codes "lispheap") (Number (between 1 1) ∷ []) (λ v. Version))
unfolding May
good_lispheap = record { says = λ place threads built e v h. tt }

good_heap : IsGood (row (codes "heap") (Number (at_least 1) ∷ []) (λ n. HeapOf n))
unfolding May
good_heap = record { says = λ place threads built e n h. leb-true _ _ h }

good_auto : IsGood (row (codes "auto") (Number is_auto ∷ []) (λ n. AutoOf n))
unfolding May
good_auto = record { says = λ place threads built e n h. (auto_is n h, auto_before place e) }

good_thread : IsGood (row (codes "thread") [] NewThread)
unfolding May
good_thread = record { says = λ place threads built e. heap_before place e }

good_end : IsGood (row (codes "end") [] EndOfScript)
unfolding May
good_end = record { says = λ place threads built e. thread_before (codes "end") place (late refl refl refl refl) e }

good_fix : IsGood (row (codes "fix") (LispCell ∷ Signed is_fixnum ∷ []) (λ d n. Does (commands.Fix d n)))
unfolding May
good_fix = record { says = λ place threads built e d hd n hn. (sound built (hd, fixnum_is n hn), thread_before (codes "fix") place (late refl refl refl refl) e) }

good_nil : IsGood (row (codes "nil") (LispCell ∷ []) (λ d. Does (commands.MakeNil d)))
unfolding May
good_nil = record { says = λ place threads built e d hd. (sound built (hd), thread_before (codes "nil") place (late refl refl refl refl) e) }

good_move : IsGood (row (codes "move") (LispCell ∷ LispCell ∷ []) (λ d c. Does (commands.Move d c)))
unfolding May
good_move = record { says = λ place threads built e d hd c hc. (sound built (hd, hc), thread_before (codes "move") place (late refl refl refl refl) e) }

good_cons : IsGood (row (codes "cons") (LispCell ∷ LispCell ∷ LispCell ∷ []) (λ d a b. Does (commands.NewCons d a b)))
unfolding May
good_cons = record { says = λ place threads built e d hd a ha b hb. (sound built (hd, ha, hb), thread_before (codes "cons") place (late refl refl refl refl) e) }

good_vector : IsGood (row (codes "vector") (LispCell ∷ Small ∷ []) (λ d n. Does (commands.NewVector d n)))
unfolding May
good_vector = record { says = λ place threads built e d hd n hn. (sound built (hd, leb-true _ _ hn), thread_before (codes "vector") place (late refl refl refl refl) e) }

good_instance : IsGood (row (codes "instance") (LispCell ∷ Small ∷ []) (λ d n. Does (commands.NewInstance d n)))
unfolding May
good_instance = record { says = λ place threads built e d hd n hn. (sound built (hd, leb-true _ _ hn), thread_before (codes "instance") place (late refl refl refl refl) e) }

good_closure : IsGood (row (codes "closure") (LispCell ∷ Small ∷ []) (λ d n. Does (commands.NewClosure d n)))
unfolding May
good_closure = record { says = λ place threads built e d hd n hn. (sound built (hd, leb-true _ _ hn), thread_before (codes "closure") place (late refl refl refl refl) e) }

good_words : IsGood (row (codes "words") (LispCell ∷ Small ∷ RawWord ∷ []) (λ d n w. Does (commands.NewWords d n w)))
unfolding May
good_words = record { says = λ place threads built e d hd n hn w hw. (sound built (hd, leb-true _ _ hn, hw), thread_before (codes "words") place (late refl refl refl refl) e) }

good_weak : IsGood (row (codes "weak") (LispCell ∷ LispCell ∷ []) (λ d c. Does (commands.NewWeak d c)))
unfolding May
good_weak = record { says = λ place threads built e d hd c hc. (sound built (hd, hc), thread_before (codes "weak") place (late refl refl refl refl) e) }

good_table : IsGood (row (codes "table") (LispCell ∷ WeaknessWord ∷ Number (between 1 64) ∷ []) (λ d w b. Does (commands.NewTable d w b)))
unfolding May
good_table = record { says = λ place threads built e d hd w hw b hb. (sound built (hd, leb-true _ _ (and_parts (leb 1 b) (leb b 64) hb).0, leb-true _ _ (and_parts (leb 1 b) (leb b 64) hb).1), thread_before (codes "table") place (late refl refl refl refl) e) }

good_get : IsGood (row (codes "get") (LispCell ∷ LispCell ∷ Small ∷ []) (λ d c i. Does (commands.Get d c i)))
unfolding May
good_get = record { says = λ place threads built e d hd c hc i hi. (sound built (hd, hc, leb-true _ _ hi), thread_before (codes "get") place (late refl refl refl refl) e) }

good_put : IsGood (row (codes "put") (LispCell ∷ Small ∷ LispCell ∷ []) (λ c i a. Does (commands.Put c i a)))
unfolding May
good_put = record { says = λ place threads built e c hc i hi a ha. (sound built (hc, leb-true _ _ hi, ha), thread_before (codes "put") place (late refl refl refl refl) e) }

good_rawget : IsGood (row (codes "rawget") (RawCell ∷ LispCell ∷ Small ∷ []) (λ r c i. Does (commands.RawGet r c i)))
unfolding May
good_rawget = record { says = λ place threads built e r hr c hc i hi. (sound built (hr, hc, leb-true _ _ hi), thread_before (codes "rawget") place (late refl refl refl refl) e) }

good_rawput : IsGood (row (codes "rawput") (LispCell ∷ Small ∷ RawCell ∷ []) (λ c i r. Does (commands.RawPut c i r)))
unfolding May
good_rawput = record { says = λ place threads built e c hc i hi r hr. (sound built (hc, leb-true _ _ hi, hr), thread_before (codes "rawput") place (late refl refl refl refl) e) }

good_eq : IsGood (row (codes "eq") (LispCell ∷ LispCell ∷ []) (λ a b. Does (commands.Same a b)))
unfolding May
good_eq = record { says = λ place threads built e a ha b hb. (sound built (ha, hb), thread_before (codes "eq") place (late refl refl refl refl) e) }

good_show : IsGood (row (codes "show") (LispCell ∷ []) (λ c. Does (commands.Show c)))
unfolding May
good_show = record { says = λ place threads built e c hc. (sound built (hc), thread_before (codes "show") place (late refl refl refl refl) e) }

good_addr : IsGood (row (codes "addr") (RawCell ∷ LispCell ∷ []) (λ r c. Does (commands.Addr r c)))
unfolding May
good_addr = record { says = λ place threads built e r hr c hc. (sound built (hr, hc), thread_before (codes "addr") place (late refl refl refl refl) e) }

good_raw : IsGood (row (codes "raw") (RawCell ∷ RawWord ∷ []) (λ r w. Does (commands.SetRaw r w)))
unfolding May
good_raw = record { says = λ place threads built e r hr w hw. (sound built (hr, hw), thread_before (codes "raw") place (late refl refl refl refl) e) }

good_add : IsGood (row (codes "add") (RawCell ∷ Signed is_i64 ∷ []) (λ r k. Does (commands.AddRaw r k)))
unfolding May
good_add = record { says = λ place threads built e r hr k hk. (sound built (hr, signed_is k hk), thread_before (codes "add") place (late refl refl refl refl) e) }

good_pin : IsGood (row (codes "pin") (LispCell ∷ []) (λ c. Does (commands.Pin c)))
unfolding May
good_pin = record { says = λ place threads built e c hc. (sound built (hc), thread_before (codes "pin") place (late refl refl refl refl) e) }

good_unpin : IsGood (row (codes "unpin") [] (Does commands.Unpin))
unfolding May
good_unpin = record { says = λ place threads built e. (sound built tt, thread_before (codes "unpin") place (late refl refl refl refl) e) }

good_weakval : IsGood (row (codes "weakval") (LispCell ∷ LispCell ∷ []) (λ d c. Does (commands.WeakVal d c)))
unfolding May
good_weakval = record { says = λ place threads built e d hd c hc. (sound built (hd, hc), thread_before (codes "weakval") place (late refl refl refl refl) e) }

good_tput : IsGood (row (codes "tput") (LispCell ∷ LispCell ∷ LispCell ∷ []) (λ c k v. Does (commands.TablePut c k v)))
unfolding May
good_tput = record { says = λ place threads built e c hc k hk v hv. (sound built (hc, hk, hv), thread_before (codes "tput") place (late refl refl refl refl) e) }

good_tget : IsGood (row (codes "tget") (LispCell ∷ LispCell ∷ LispCell ∷ []) (λ d c k. Does (commands.TableGet d c k)))
unfolding May
good_tget = record { says = λ place threads built e d hd c hc k hk. (sound built (hd, hc, hk), thread_before (codes "tget") place (late refl refl refl refl) e) }

good_trem : IsGood (row (codes "trem") (LispCell ∷ LispCell ∷ []) (λ c k. Does (commands.TableRem c k)))
unfolding May
good_trem = record { says = λ place threads built e c hc k hk. (sound built (hc, hk), thread_before (codes "trem") place (late refl refl refl refl) e) }

good_tcount : IsGood (row (codes "tcount") (LispCell ∷ []) (λ c. Does (commands.TableCount c)))
unfolding May
good_tcount = record { says = λ place threads built e c hc. (sound built (hc), thread_before (codes "tcount") place (late refl refl refl refl) e) }

good_finalize : IsGood (row (codes "finalize") (LispCell ∷ Wide ∷ []) (λ c id. Does (commands.Finalize c id)))
unfolding May
good_finalize = record { says = λ place threads built e c hc id hid. (sound built (hc, narrow id hid), thread_before (codes "finalize") place (late refl refl refl refl) e) }

good_cancel : IsGood (row (codes "cancel") (LispCell ∷ []) (λ c. Does (commands.Cancel c)))
unfolding May
good_cancel = record { says = λ place threads built e c hc. (sound built (hc), thread_before (codes "cancel") place (late refl refl refl refl) e) }

good_runfin : IsGood (row (codes "runfin") [] (Does commands.RunFinalizers))
unfolding May
good_runfin = record { says = λ place threads built e. (sound built tt, thread_before (codes "runfin") place (late refl refl refl refl) e) }

good_gc : IsGood (row (codes "gc") (Number (at_most 5) ∷ []) (λ g. Does (commands.Collect g)))
unfolding May
good_gc = record { says = λ place threads built e g hg. (sound built (leb-true _ _ hg), thread_before (codes "gc") place (late refl refl refl refl) e) }

good_nogc : IsGood (row (codes "nogc") [] (Does commands.Inhibit))
unfolding May
good_nogc = record { says = λ place threads built e. (sound built tt, thread_before (codes "nogc") place (late refl refl refl refl) e) }

good_gcok : IsGood (row (codes "gcok") [] (Does commands.Allow))
unfolding May
good_gcok = record { says = λ place threads built e. (sound built tt, thread_before (codes "gcok") place (late refl refl refl refl) e) }

good_page : IsGood (row (codes "page") (Wide ∷ []) (λ p. Does (commands.ShowPage p)))
unfolding May
good_page = record { says = λ place threads built e p hp. (sound built (narrow p hp), thread_before (codes "page") place (late refl refl refl refl) e) }

good_stat : IsGood (row (codes "stat") (Number (at_most 6) ∷ []) (λ g. Does (commands.Stat g)))
unfolding May
good_stat = record { says = λ place threads built e g hg. (sound built (leb-true _ _ hg), thread_before (codes "stat") place (late refl refl refl refl) e) }

abbrev AreGood : List Row → Type 0
AreGood [] = Unit {0}
AreGood (r ∷ rs) = IsGood r × AreGood rs

all_good : AreGood rows
unfolding rows
all_good = (
  good_lispheap,
  (
    good_heap,
    (
      good_auto,
      (
        good_thread,
        (
          good_end,
          (
            good_fix,
            (
              good_nil,
              (
                good_move,
                (
                  good_cons,
                  (
                    good_vector,
                    (
                      good_instance,
                      (
                        good_closure,
                        (
                          good_words,
                          (
                            good_weak,
                            (
                              good_table,
                              (
                                good_get,
                                (
                                  good_put,
                                  (
                                    good_rawget,
                                    (
                                      good_rawput,
                                      (
                                        good_eq,
                                        (
                                          good_show,
                                          (
                                            good_addr,
                                            (
                                              good_raw,
                                              (
                                                good_add,
                                                (
                                                  good_pin,
                                                  (
                                                    good_unpin,
                                                    (
                                                      good_weakval,
                                                      (
                                                        good_tput,
                                                        (
                                                          good_tget,
                                                          (
                                                            good_trem,
                                                            (
                                                              good_tcount,
                                                              (
                                                                good_finalize,
                                                                (
                                                                  good_cancel,
                                                                  (
                                                                    good_runfin,
                                                                    (
                                                                      good_gc,
                                                                      (
                                                                        good_nogc,
                                                                        (
                                                                          good_gcok,
                                                                          (
                                                                            good_page,
                                                                            (
                                                                              good_stat,
                                                                              tt,
                                                                            ),
                                                                          ),
                                                                        ),
                                                                      ),
                                                                    ),
                                                                  ),
                                                                ),
                                                              ),
                                                            ),
                                                          ),
                                                        ),
                                                      ),
                                                    ),
                                                  ),
                                                ),
                                              ),
                                            ),
                                          ),
                                        ),
                                      ),
                                    ),
                                  ),
                                ),
                              ),
                            ),
                          ),
                        ),
                      ),
                    ),
                  ),
                ),
              ),
            ),
          ),
        ),
      ),
    ),
  ),
)

-- the row that is found is the word's
found : (word : List ℕ) (rs : List Row) (r : Row) → AreGood rs → find (λ (x : Row). bytes_eq word x.word) rs ≡ Some r → IsGood r × (word ≡ r.word)
found word [] r all e = absurd cc
found word (x ∷ rs) r all e = at (bytes_eq word x.word) refl (λ later. found word rs r all.1 later) e
  where
    at : (b : Bool) → bytes_eq word x.word ≡ b → (find (λ (y : Row). bytes_eq word y.word) rs ≡ Some r → IsGood r × (word ≡ r.word)) →
        cond b (Some x) (find (λ (y : Row). bytes_eq word y.word) rs) ≡ Some r → IsGood r × (word ≡ r.word)
    at true same more e =
        let here : x ≡ r = some_same x r e in
        subst (λ (y : Row). IsGood y × (word ≡ y.word)) here (all.0, (bytes_eq-Decides word x.word).0 same)
    at false same more e = more e

by_row : (place : Place) (threads : ℕ) (word : List ℕ) (fs : List (List ℕ)) (said : Statement) → is_built word ≡ true → may_follow place word ≡ true →
    said_by_row_of (find (λ (r : Row). bytes_eq word r.word) rows) fs ≡ Ok said → May place threads said
by_row place threads word fs said built e h = at (find (λ (r : Row). bytes_eq word r.word) rows) (λ r g. found word rows r all_good g) h
  where
    at : (o : Option Row) → ((r : Row) → o ≡ Some r → IsGood r × (word ≡ r.word)) → said_by_row_of o fs ≡ Ok said → May place threads said
    at None good h = absurd cc
    at (Some r) good h =
        let g = good r refl in
        row_said r (May place threads) fs said
        (g.0.says place threads (subst (λ (w : List ℕ). is_built w ≡ true) g.1 built) (subst (λ (w : List ℕ). may_follow place w ≡ true) g.1 e)) h

schedule_late : IsLate (codes "schedule")
schedule_late = late refl refl refl refl

-- what the line of a built word says may come where the word may stand
pub says : (place : Place) (threads : ℕ) (word : List ℕ) → is_built word ≡ true → may_follow place word ≡ true → (fs : List (List ℕ)) (said : Statement) → statement_of threads word fs ≡ Ok said → May place threads said
unfolding statement_of
says place threads word built e fs said h = at (bytes_eq word (codes "schedule")) refl h
  where
    at : (b : Bool) → bytes_eq word (codes "schedule") ≡ b → cond b (schedule_of threads fs) (said_by_row_of (find (λ (r : Row). bytes_eq word r.word) rows) fs) ≡ Ok said → May place threads said
    at true same h =
        let is : word ≡ codes "schedule" = (bytes_eq-Decides word (codes "schedule")).0 same in
        schedule_may place threads fs said (thread_before (codes "schedule") place schedule_late (subst (λ (w : List ℕ). may_follow place w ≡ true) is e)) h
    at false same h = by_row place threads word fs said built e h
