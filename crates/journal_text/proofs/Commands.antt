-- Each command is read from the fields that it is spelled by, and from no others.
use Rattle.std.proofs.Common.{◌≡◌, ℕ, List, [], ◌∷◌, ◌++◌, Some, refl, subst, arith}
use Rattle.std.specs.Fmt.{decimal, signed_decimal}
use Rattle.std.proofs.lemmas.Option.{some_pair_parts}
use Rattle.heap_terms.specs.declared.commands.Command.{Command}
use Rattle.heap_terms.specs.declared.commands.Command.TheVariants as commands
use Rattle.heap_terms.specs.Text.{cell_text, word_text, weakness_text}
use Rattle.heap_terms.specs.Valid.{IsInRange}
use Rattle.journal_text.specs.declared.parsing.words.Name.{Name}
use Rattle.journal_text.specs.declared.parsing.words.Name.TheVariants as names
use Rattle.journal_text.specs.FieldReading.{a_cell, a_raw, a_fixnum, a_word, a_weakness}
use Rattle.journal_text.specs.LineReading.{a_long, an_element, a_capacity, a_number_32, a_collected, a_generation_number, read_command}
use Rattle.journal_text.specs.Words.{name_in}
use Rattle.journal_text.proofs.Exact.{lettered, cell_exact, raw_exact, fixnum_exact, long_exact, element_exact, word_exact, weakness_exact, capacity_exact, number_32_exact, collected_exact, generation_number_exact}
use Rattle.journal_text.proofs.Sequences.{one_sound, two_sound, three_sound}

-- the fields of a command after its word
abbrev pub spelled : Command → List (List ℕ)
spelled (commands.Fix d n) = cell_text d ∷ signed_decimal n ∷ []
spelled (commands.MakeNil d) = cell_text d ∷ []
spelled (commands.Move d c) = cell_text d ∷ cell_text c ∷ []
spelled (commands.NewCons d a b) = cell_text d ∷ cell_text a ∷ cell_text b ∷ []
spelled (commands.NewVector d n) = cell_text d ∷ decimal n ∷ []
spelled (commands.NewInstance d n) = cell_text d ∷ decimal n ∷ []
spelled (commands.NewClosure d n) = cell_text d ∷ decimal n ∷ []
spelled (commands.NewWords d n w) = cell_text d ∷ decimal n ∷ word_text w ∷ []
spelled (commands.NewWeak d c) = cell_text d ∷ cell_text c ∷ []
spelled (commands.NewTable d w b) = cell_text d ∷ weakness_text w ∷ decimal b ∷ []
spelled (commands.Get d c i) = cell_text d ∷ cell_text c ∷ decimal i ∷ []
spelled (commands.Put c i a) = cell_text c ∷ decimal i ∷ cell_text a ∷ []
spelled (commands.RawGet r c i) = lettered 114 r.0 ∷ cell_text c ∷ decimal i ∷ []
spelled (commands.RawPut c i r) = cell_text c ∷ decimal i ∷ lettered 114 r.0 ∷ []
spelled (commands.Same a b) = cell_text a ∷ cell_text b ∷ []
spelled (commands.Show c) = cell_text c ∷ []
spelled (commands.Addr r c) = lettered 114 r.0 ∷ cell_text c ∷ []
spelled (commands.SetRaw r w) = lettered 114 r.0 ∷ word_text w ∷ []
spelled (commands.AddRaw r k) = lettered 114 r.0 ∷ signed_decimal k ∷ []
spelled (commands.Pin c) = cell_text c ∷ []
spelled commands.Unpin = []
spelled (commands.WeakVal d c) = cell_text d ∷ cell_text c ∷ []
spelled (commands.TablePut c k v) = cell_text c ∷ cell_text k ∷ cell_text v ∷ []
spelled (commands.TableGet d c k) = cell_text d ∷ cell_text c ∷ cell_text k ∷ []
spelled (commands.TableRem c k) = cell_text c ∷ cell_text k ∷ []
spelled (commands.TableCount c) = cell_text c ∷ []
spelled (commands.Finalize c id) = cell_text c ∷ decimal id ∷ []
spelled (commands.Cancel c) = cell_text c ∷ []
spelled commands.RunFinalizers = []
spelled (commands.Collect g) = decimal g ∷ []
spelled commands.Inhibit = []
spelled commands.Allow = []
spelled (commands.ShowPage p) = decimal p ∷ []
spelled (commands.Stat g) = decimal g ∷ []

-- the fields at the front say this command
pub record Spells (name : Name) (fields : List (List ℕ)) (c : Command) (more : List (List ℕ)) : Type 0 where
  pub named : name_in c ≡ name
  pub said : fields ≡ spelled c ++ more
  pub good : IsInRange c

pub command_sound : (name : Name) (fields : List (List ℕ)) (c : Command) (more : List (List ℕ)) → read_command name fields ≡ Some (c, more) → Spells name fields c more
unfolding read_command
command_sound names.Fix fields c more e =
    let t = two_sound cell_exact fixnum_exact commands.Fix fields c more e in
    subst (λ (x : Command). Spells names.Fix fields x more) t.is (record { named = refl; said = t.spelled; good = (t.first, t.second) })
command_sound names.Nil fields c more e =
    let t = one_sound cell_exact commands.MakeNil fields c more e in
    subst (λ (x : Command). Spells names.Nil fields x more) t.is (record { named = refl; said = t.spelled; good = t.first })
command_sound names.Move fields c more e =
    let t = two_sound cell_exact cell_exact commands.Move fields c more e in
    subst (λ (x : Command). Spells names.Move fields x more) t.is (record { named = refl; said = t.spelled; good = (t.first, t.second) })
command_sound names.Cons fields c more e =
    let t = three_sound cell_exact cell_exact cell_exact commands.NewCons fields c more e in
    subst (λ (x : Command). Spells names.Cons fields x more) t.is (record { named = refl; said = t.spelled; good = (t.first, t.second, t.third) })
command_sound names.Vector fields c more e =
    let t = two_sound cell_exact element_exact commands.NewVector fields c more e in
    subst (λ (x : Command). Spells names.Vector fields x more) t.is (record { named = refl; said = t.spelled; good = (t.first, t.second) })
command_sound names.Instance fields c more e =
    let t = two_sound cell_exact element_exact commands.NewInstance fields c more e in
    subst (λ (x : Command). Spells names.Instance fields x more) t.is (record { named = refl; said = t.spelled; good = (t.first, t.second) })
command_sound names.Closure fields c more e =
    let t = two_sound cell_exact element_exact commands.NewClosure fields c more e in
    subst (λ (x : Command). Spells names.Closure fields x more) t.is (record { named = refl; said = t.spelled; good = (t.first, t.second) })
command_sound names.Words fields c more e =
    let t = three_sound cell_exact element_exact word_exact commands.NewWords fields c more e in
    subst (λ (x : Command). Spells names.Words fields x more) t.is (record { named = refl; said = t.spelled; good = (t.first, t.second, t.third) })
command_sound names.Weak fields c more e =
    let t = two_sound cell_exact cell_exact commands.NewWeak fields c more e in
    subst (λ (x : Command). Spells names.Weak fields x more) t.is (record { named = refl; said = t.spelled; good = (t.first, t.second) })
command_sound names.Table fields c more e =
    let t = three_sound cell_exact weakness_exact capacity_exact commands.NewTable fields c more e in
    subst (λ (x : Command). Spells names.Table fields x more) t.is (record { named = refl; said = t.spelled; good = (t.first, t.third.0, t.third.1) })
command_sound names.Get fields c more e =
    let t = three_sound cell_exact cell_exact element_exact commands.Get fields c more e in
    subst (λ (x : Command). Spells names.Get fields x more) t.is (record { named = refl; said = t.spelled; good = (t.first, t.second, t.third) })
command_sound names.Put fields c more e =
    let t = three_sound cell_exact element_exact cell_exact commands.Put fields c more e in
    subst (λ (x : Command). Spells names.Put fields x more) t.is (record { named = refl; said = t.spelled; good = (t.first, t.second, t.third) })
command_sound names.RawGet fields c more e =
    let t = three_sound raw_exact cell_exact element_exact commands.RawGet fields c more e in
    subst (λ (x : Command). Spells names.RawGet fields x more) t.is (record { named = refl; said = t.spelled; good = (t.first, t.second, t.third) })
command_sound names.RawPut fields c more e =
    let t = three_sound cell_exact element_exact raw_exact commands.RawPut fields c more e in
    subst (λ (x : Command). Spells names.RawPut fields x more) t.is (record { named = refl; said = t.spelled; good = (t.first, t.second, t.third) })
command_sound names.Eq fields c more e =
    let t = two_sound cell_exact cell_exact commands.Same fields c more e in
    subst (λ (x : Command). Spells names.Eq fields x more) t.is (record { named = refl; said = t.spelled; good = (t.first, t.second) })
command_sound names.Show fields c more e =
    let t = one_sound cell_exact commands.Show fields c more e in
    subst (λ (x : Command). Spells names.Show fields x more) t.is (record { named = refl; said = t.spelled; good = t.first })
command_sound names.Addr fields c more e =
    let t = two_sound raw_exact cell_exact commands.Addr fields c more e in
    subst (λ (x : Command). Spells names.Addr fields x more) t.is (record { named = refl; said = t.spelled; good = (t.first, t.second) })
command_sound names.Raw fields c more e =
    let t = two_sound raw_exact word_exact commands.SetRaw fields c more e in
    subst (λ (x : Command). Spells names.Raw fields x more) t.is (record { named = refl; said = t.spelled; good = (t.first, t.second) })
command_sound names.Add fields c more e =
    let t = two_sound raw_exact long_exact commands.AddRaw fields c more e in
    subst (λ (x : Command). Spells names.Add fields x more) t.is (record { named = refl; said = t.spelled; good = (t.first, t.second) })
command_sound names.Pin fields c more e =
    let t = one_sound cell_exact commands.Pin fields c more e in
    subst (λ (x : Command). Spells names.Pin fields x more) t.is (record { named = refl; said = t.spelled; good = t.first })
command_sound names.Unpin fields c more e =
    let t = some_pair_parts commands.Unpin c fields more e in
    subst (λ (x : Command). Spells names.Unpin fields x more) t.0 (record { named = refl; said = t.1; good = tt })
command_sound names.WeakVal fields c more e =
    let t = two_sound cell_exact cell_exact commands.WeakVal fields c more e in
    subst (λ (x : Command). Spells names.WeakVal fields x more) t.is (record { named = refl; said = t.spelled; good = (t.first, t.second) })
command_sound names.Tput fields c more e =
    let t = three_sound cell_exact cell_exact cell_exact commands.TablePut fields c more e in
    subst (λ (x : Command). Spells names.Tput fields x more) t.is (record { named = refl; said = t.spelled; good = (t.first, t.second, t.third) })
command_sound names.Tget fields c more e =
    let t = three_sound cell_exact cell_exact cell_exact commands.TableGet fields c more e in
    subst (λ (x : Command). Spells names.Tget fields x more) t.is (record { named = refl; said = t.spelled; good = (t.first, t.second, t.third) })
command_sound names.Trem fields c more e =
    let t = two_sound cell_exact cell_exact commands.TableRem fields c more e in
    subst (λ (x : Command). Spells names.Trem fields x more) t.is (record { named = refl; said = t.spelled; good = (t.first, t.second) })
command_sound names.Tcount fields c more e =
    let t = one_sound cell_exact commands.TableCount fields c more e in
    subst (λ (x : Command). Spells names.Tcount fields x more) t.is (record { named = refl; said = t.spelled; good = t.first })
command_sound names.Finalize fields c more e =
    let t = two_sound cell_exact number_32_exact commands.Finalize fields c more e in
    subst (λ (x : Command). Spells names.Finalize fields x more) t.is (record { named = refl; said = t.spelled; good = (t.first, omega (arith, t.second)) })
command_sound names.Cancel fields c more e =
    let t = one_sound cell_exact commands.Cancel fields c more e in
    subst (λ (x : Command). Spells names.Cancel fields x more) t.is (record { named = refl; said = t.spelled; good = t.first })
command_sound names.RunFin fields c more e =
    let t = some_pair_parts commands.RunFinalizers c fields more e in
    subst (λ (x : Command). Spells names.RunFin fields x more) t.0 (record { named = refl; said = t.1; good = tt })
command_sound names.Gc fields c more e =
    let t = one_sound collected_exact commands.Collect fields c more e in
    subst (λ (x : Command). Spells names.Gc fields x more) t.is (record { named = refl; said = t.spelled; good = t.first })
command_sound names.NoGc fields c more e =
    let t = some_pair_parts commands.Inhibit c fields more e in
    subst (λ (x : Command). Spells names.NoGc fields x more) t.0 (record { named = refl; said = t.1; good = tt })
command_sound names.GcOk fields c more e =
    let t = some_pair_parts commands.Allow c fields more e in
    subst (λ (x : Command). Spells names.GcOk fields x more) t.0 (record { named = refl; said = t.1; good = tt })
command_sound names.Page fields c more e =
    let t = one_sound number_32_exact commands.ShowPage fields c more e in
    subst (λ (x : Command). Spells names.Page fields x more) t.is (record { named = refl; said = t.spelled; good = omega (arith, t.first) })
command_sound names.Stat fields c more e =
    let t = one_sound generation_number_exact commands.Stat fields c more e in
    subst (λ (x : Command). Spells names.Stat fields x more) t.is (record { named = refl; said = t.spelled; good = t.first })

pub command_again : (c : Command) (more : List (List ℕ)) → IsInRange c → read_command (name_in c) (spelled c ++ more) ≡ Some (c, more)
unfolding read_command
command_again (commands.Fix d n) more ok =
    let e0 : a_cell (cell_text d) ≡ Some d = cell_exact.again d ok.0 in
    let e1 : a_fixnum (signed_decimal n) ≡ Some n = fixnum_exact.again n ok.1 in
    rw (e0, e1) refl
command_again (commands.MakeNil d) more ok =
    let e0 : a_cell (cell_text d) ≡ Some d = cell_exact.again d ok in
    rw e0 refl
command_again (commands.Move d c) more ok =
    let e0 : a_cell (cell_text d) ≡ Some d = cell_exact.again d ok.0 in
    let e1 : a_cell (cell_text c) ≡ Some c = cell_exact.again c ok.1 in
    rw (e0, e1) refl
command_again (commands.NewCons d a b) more ok =
    let e0 : a_cell (cell_text d) ≡ Some d = cell_exact.again d ok.0 in
    let e1 : a_cell (cell_text a) ≡ Some a = cell_exact.again a ok.1 in
    let e2 : a_cell (cell_text b) ≡ Some b = cell_exact.again b ok.2 in
    rw (e0, e1, e2) refl
command_again (commands.NewVector d n) more ok =
    let e0 : a_cell (cell_text d) ≡ Some d = cell_exact.again d ok.0 in
    let e1 : an_element (decimal n) ≡ Some n = element_exact.again n ok.1 in
    rw (e0, e1) refl
command_again (commands.NewInstance d n) more ok =
    let e0 : a_cell (cell_text d) ≡ Some d = cell_exact.again d ok.0 in
    let e1 : an_element (decimal n) ≡ Some n = element_exact.again n ok.1 in
    rw (e0, e1) refl
command_again (commands.NewClosure d n) more ok =
    let e0 : a_cell (cell_text d) ≡ Some d = cell_exact.again d ok.0 in
    let e1 : an_element (decimal n) ≡ Some n = element_exact.again n ok.1 in
    rw (e0, e1) refl
command_again (commands.NewWords d n w) more ok =
    let e0 : a_cell (cell_text d) ≡ Some d = cell_exact.again d ok.0 in
    let e1 : an_element (decimal n) ≡ Some n = element_exact.again n ok.1 in
    let e2 : a_word (word_text w) ≡ Some w = word_exact.again w ok.2 in
    rw (e0, e1, e2) refl
command_again (commands.NewWeak d c) more ok =
    let e0 : a_cell (cell_text d) ≡ Some d = cell_exact.again d ok.0 in
    let e1 : a_cell (cell_text c) ≡ Some c = cell_exact.again c ok.1 in
    rw (e0, e1) refl
command_again (commands.NewTable d w b) more ok =
    let e0 : a_cell (cell_text d) ≡ Some d = cell_exact.again d ok.0 in
    let e1 : a_weakness (weakness_text w) ≡ Some w = weakness_exact.again w tt in
    let e2 : a_capacity (decimal b) ≡ Some b = capacity_exact.again b (ok.1, ok.2) in
    rw (e0, e1, e2) refl
command_again (commands.Get d c i) more ok =
    let e0 : a_cell (cell_text d) ≡ Some d = cell_exact.again d ok.0 in
    let e1 : a_cell (cell_text c) ≡ Some c = cell_exact.again c ok.1 in
    let e2 : an_element (decimal i) ≡ Some i = element_exact.again i ok.2 in
    rw (e0, e1, e2) refl
command_again (commands.Put c i a) more ok =
    let e0 : a_cell (cell_text c) ≡ Some c = cell_exact.again c ok.0 in
    let e1 : an_element (decimal i) ≡ Some i = element_exact.again i ok.1 in
    let e2 : a_cell (cell_text a) ≡ Some a = cell_exact.again a ok.2 in
    rw (e0, e1, e2) refl
command_again (commands.RawGet r c i) more ok =
    let e0 : a_raw (lettered 114 r.0) ≡ Some r = raw_exact.again r ok.0 in
    let e1 : a_cell (cell_text c) ≡ Some c = cell_exact.again c ok.1 in
    let e2 : an_element (decimal i) ≡ Some i = element_exact.again i ok.2 in
    rw (e0, e1, e2) refl
command_again (commands.RawPut c i r) more ok =
    let e0 : a_cell (cell_text c) ≡ Some c = cell_exact.again c ok.0 in
    let e1 : an_element (decimal i) ≡ Some i = element_exact.again i ok.1 in
    let e2 : a_raw (lettered 114 r.0) ≡ Some r = raw_exact.again r ok.2 in
    rw (e0, e1, e2) refl
command_again (commands.Same a b) more ok =
    let e0 : a_cell (cell_text a) ≡ Some a = cell_exact.again a ok.0 in
    let e1 : a_cell (cell_text b) ≡ Some b = cell_exact.again b ok.1 in
    rw (e0, e1) refl
command_again (commands.Show c) more ok =
    let e0 : a_cell (cell_text c) ≡ Some c = cell_exact.again c ok in
    rw e0 refl
command_again (commands.Addr r c) more ok =
    let e0 : a_raw (lettered 114 r.0) ≡ Some r = raw_exact.again r ok.0 in
    let e1 : a_cell (cell_text c) ≡ Some c = cell_exact.again c ok.1 in
    rw (e0, e1) refl
command_again (commands.SetRaw r w) more ok =
    let e0 : a_raw (lettered 114 r.0) ≡ Some r = raw_exact.again r ok.0 in
    let e1 : a_word (word_text w) ≡ Some w = word_exact.again w ok.1 in
    rw (e0, e1) refl
command_again (commands.AddRaw r k) more ok =
    let e0 : a_raw (lettered 114 r.0) ≡ Some r = raw_exact.again r ok.0 in
    let e1 : a_long (signed_decimal k) ≡ Some k = long_exact.again k ok.1 in
    rw (e0, e1) refl
command_again (commands.Pin c) more ok =
    let e0 : a_cell (cell_text c) ≡ Some c = cell_exact.again c ok in
    rw e0 refl
command_again commands.Unpin more ok = refl
command_again (commands.WeakVal d c) more ok =
    let e0 : a_cell (cell_text d) ≡ Some d = cell_exact.again d ok.0 in
    let e1 : a_cell (cell_text c) ≡ Some c = cell_exact.again c ok.1 in
    rw (e0, e1) refl
command_again (commands.TablePut c k v) more ok =
    let e0 : a_cell (cell_text c) ≡ Some c = cell_exact.again c ok.0 in
    let e1 : a_cell (cell_text k) ≡ Some k = cell_exact.again k ok.1 in
    let e2 : a_cell (cell_text v) ≡ Some v = cell_exact.again v ok.2 in
    rw (e0, e1, e2) refl
command_again (commands.TableGet d c k) more ok =
    let e0 : a_cell (cell_text d) ≡ Some d = cell_exact.again d ok.0 in
    let e1 : a_cell (cell_text c) ≡ Some c = cell_exact.again c ok.1 in
    let e2 : a_cell (cell_text k) ≡ Some k = cell_exact.again k ok.2 in
    rw (e0, e1, e2) refl
command_again (commands.TableRem c k) more ok =
    let e0 : a_cell (cell_text c) ≡ Some c = cell_exact.again c ok.0 in
    let e1 : a_cell (cell_text k) ≡ Some k = cell_exact.again k ok.1 in
    rw (e0, e1) refl
command_again (commands.TableCount c) more ok =
    let e0 : a_cell (cell_text c) ≡ Some c = cell_exact.again c ok in
    rw e0 refl
command_again (commands.Finalize c id) more ok =
    let e0 : a_cell (cell_text c) ≡ Some c = cell_exact.again c ok.0 in
    let e1 : a_number_32 (decimal id) ≡ Some id = number_32_exact.again id (omega (arith, ok.1)) in
    rw (e0, e1) refl
command_again (commands.Cancel c) more ok =
    let e0 : a_cell (cell_text c) ≡ Some c = cell_exact.again c ok in
    rw e0 refl
command_again commands.RunFinalizers more ok = refl
command_again (commands.Collect g) more ok =
    let e0 : a_collected (decimal g) ≡ Some g = collected_exact.again g ok in
    rw e0 refl
command_again commands.Inhibit more ok = refl
command_again commands.Allow more ok = refl
command_again (commands.ShowPage p) more ok =
    let e0 : a_number_32 (decimal p) ≡ Some p = number_32_exact.again p (omega (arith, ok)) in
    rw e0 refl
command_again (commands.Stat g) more ok =
    let e0 : a_generation_number (decimal g) ≡ Some g = generation_number_exact.again g ok in
    rw e0 refl
