-- Commands are equal exactly where they are the same.
use Rattle.std.proofs.Common.{◌≡◌, ℕ, ℤ, true, ◌&&◌, refl, rules, subst, Decides}
use Rattle.std.proofs.lemmas.Bool.{and_parts, false≢true}
use Rattle.heap_terms.specs.declared.cells.Cell.{Cell}
use Rattle.heap_terms.specs.declared.cells.Raw.{Raw}
use Rattle.heap_terms.specs.declared.commands.Command.{Command}
use Rattle.heap_terms.specs.declared.commands.Command.TheVariants as commands
use Rattle.heap_terms.specs.declared.kinds.Weakness.{Weakness}
use Rattle.heap_terms.specs.contracts.cells.CellPartialEq.TheImpl as cell_eqs
use Rattle.heap_terms.specs.contracts.cells.RawPartialEq.TheImpl as raw_eqs
use Rattle.heap_terms.specs.contracts.commands.CommandPartialEq.TheImpl as command_eqs
use Rattle.heap_terms.specs.contracts.kinds.WeaknessPartialEq.TheImpl as weakness_eqs

pub cell_decides : (x y : Cell) → Decides ((cell_eqs.ghosts).eq x y) (x ≡ y)
cell_decides x y = search rules

pub raw_decides : (x y : Raw) → Decides ((raw_eqs.ghosts).eq x y) (x ≡ y)
raw_decides x y = search rules

pub weakness_decides : (x y : Weakness) → Decides ((weakness_eqs.ghosts).eq x y) (x ≡ y)
weakness_decides x y = search rules

-- three cells
three : (x y z x2 y2 z2 : Cell) → ((cell_eqs.ghosts).eq x x2 && ((cell_eqs.ghosts).eq y y2 && (cell_eqs.ghosts).eq z z2)) ≡ true → (x ≡ x2) × (y ≡ y2) × (z ≡ z2)
three x y z x2 y2 z2 e =
    let first = and_parts ((cell_eqs.ghosts).eq x x2) ((cell_eqs.ghosts).eq y y2 && (cell_eqs.ghosts).eq z z2) e in
    let others = and_parts ((cell_eqs.ghosts).eq y y2) ((cell_eqs.ghosts).eq z z2) first.1 in
    ((cell_decides x x2).0 first.0, (cell_decides y y2).0 others.0, (cell_decides z z2).0 others.1)

at_Fix : (d : Cell) (n : ℤ) (y : Command) → (command_eqs.ghosts).eq (commands.Fix d n) y ≡ true → commands.Fix d n ≡ y
at_Fix d n (commands.Fix d2 n2) e = search rules
at_Fix d n _ e = absurd (false≢true e)

at_MakeNil : (d : Cell) (y : Command) → (command_eqs.ghosts).eq (commands.MakeNil d) y ≡ true → commands.MakeNil d ≡ y
at_MakeNil d (commands.MakeNil d2) e = search rules
at_MakeNil d _ e = absurd (false≢true e)

at_Move : (d : Cell) (c : Cell) (y : Command) → (command_eqs.ghosts).eq (commands.Move d c) y ≡ true → commands.Move d c ≡ y
at_Move d c (commands.Move d2 c2) e = search rules
at_Move d c _ e = absurd (false≢true e)

at_NewCons : (d : Cell) (a : Cell) (b : Cell) (y : Command) → (command_eqs.ghosts).eq (commands.NewCons d a b) y ≡ true → commands.NewCons d a b ≡ y
at_NewCons d a b (commands.NewCons d2 a2 b2) e = let t = three d a b d2 a2 b2 e in rw (t.0, t.1, t.2) refl
at_NewCons d a b _ e = absurd (false≢true e)

at_NewVector : (d : Cell) (n : ℕ) (y : Command) → (command_eqs.ghosts).eq (commands.NewVector d n) y ≡ true → commands.NewVector d n ≡ y
at_NewVector d n (commands.NewVector d2 n2) e = search rules
at_NewVector d n _ e = absurd (false≢true e)

at_NewInstance : (d : Cell) (n : ℕ) (y : Command) → (command_eqs.ghosts).eq (commands.NewInstance d n) y ≡ true → commands.NewInstance d n ≡ y
at_NewInstance d n (commands.NewInstance d2 n2) e = search rules
at_NewInstance d n _ e = absurd (false≢true e)

at_NewClosure : (d : Cell) (n : ℕ) (y : Command) → (command_eqs.ghosts).eq (commands.NewClosure d n) y ≡ true → commands.NewClosure d n ≡ y
at_NewClosure d n (commands.NewClosure d2 n2) e = search rules
at_NewClosure d n _ e = absurd (false≢true e)

at_NewWords : (d : Cell) (n : ℕ) (w : ℕ) (y : Command) → (command_eqs.ghosts).eq (commands.NewWords d n w) y ≡ true → commands.NewWords d n w ≡ y
at_NewWords d n w (commands.NewWords d2 n2 w2) e = search rules
at_NewWords d n w _ e = absurd (false≢true e)

at_NewWeak : (d : Cell) (c : Cell) (y : Command) → (command_eqs.ghosts).eq (commands.NewWeak d c) y ≡ true → commands.NewWeak d c ≡ y
at_NewWeak d c (commands.NewWeak d2 c2) e = search rules
at_NewWeak d c _ e = absurd (false≢true e)

at_NewTable : (d : Cell) (w : Weakness) (b : ℕ) (y : Command) → (command_eqs.ghosts).eq (commands.NewTable d w b) y ≡ true → commands.NewTable d w b ≡ y
at_NewTable d w b (commands.NewTable d2 w2 b2) e = search rules
at_NewTable d w b _ e = absurd (false≢true e)

at_Get : (d : Cell) (c : Cell) (i : ℕ) (y : Command) → (command_eqs.ghosts).eq (commands.Get d c i) y ≡ true → commands.Get d c i ≡ y
at_Get d c i (commands.Get d2 c2 i2) e = search rules
at_Get d c i _ e = absurd (false≢true e)

at_Put : (c : Cell) (i : ℕ) (a : Cell) (y : Command) → (command_eqs.ghosts).eq (commands.Put c i a) y ≡ true → commands.Put c i a ≡ y
at_Put c i a (commands.Put c2 i2 a2) e = search rules
at_Put c i a _ e = absurd (false≢true e)

at_RawGet : (r : Raw) (c : Cell) (i : ℕ) (y : Command) → (command_eqs.ghosts).eq (commands.RawGet r c i) y ≡ true → commands.RawGet r c i ≡ y
at_RawGet r c i (commands.RawGet r2 c2 i2) e = search rules
at_RawGet r c i _ e = absurd (false≢true e)

at_RawPut : (c : Cell) (i : ℕ) (r : Raw) (y : Command) → (command_eqs.ghosts).eq (commands.RawPut c i r) y ≡ true → commands.RawPut c i r ≡ y
at_RawPut c i r (commands.RawPut c2 i2 r2) e = search rules
at_RawPut c i r _ e = absurd (false≢true e)

at_Same : (a : Cell) (b : Cell) (y : Command) → (command_eqs.ghosts).eq (commands.Same a b) y ≡ true → commands.Same a b ≡ y
at_Same a b (commands.Same a2 b2) e = search rules
at_Same a b _ e = absurd (false≢true e)

at_Show : (c : Cell) (y : Command) → (command_eqs.ghosts).eq (commands.Show c) y ≡ true → commands.Show c ≡ y
at_Show c (commands.Show c2) e = search rules
at_Show c _ e = absurd (false≢true e)

at_Addr : (r : Raw) (c : Cell) (y : Command) → (command_eqs.ghosts).eq (commands.Addr r c) y ≡ true → commands.Addr r c ≡ y
at_Addr r c (commands.Addr r2 c2) e = search rules
at_Addr r c _ e = absurd (false≢true e)

at_SetRaw : (r : Raw) (w : ℕ) (y : Command) → (command_eqs.ghosts).eq (commands.SetRaw r w) y ≡ true → commands.SetRaw r w ≡ y
at_SetRaw r w (commands.SetRaw r2 w2) e = search rules
at_SetRaw r w _ e = absurd (false≢true e)

at_AddRaw : (r : Raw) (k : ℤ) (y : Command) → (command_eqs.ghosts).eq (commands.AddRaw r k) y ≡ true → commands.AddRaw r k ≡ y
at_AddRaw r k (commands.AddRaw r2 k2) e = search rules
at_AddRaw r k _ e = absurd (false≢true e)

at_Pin : (c : Cell) (y : Command) → (command_eqs.ghosts).eq (commands.Pin c) y ≡ true → commands.Pin c ≡ y
at_Pin c (commands.Pin c2) e = search rules
at_Pin c _ e = absurd (false≢true e)

at_Unpin : (y : Command) → (command_eqs.ghosts).eq commands.Unpin y ≡ true → commands.Unpin ≡ y
at_Unpin commands.Unpin e = refl
at_Unpin _ e = absurd (false≢true e)

at_WeakVal : (d : Cell) (c : Cell) (y : Command) → (command_eqs.ghosts).eq (commands.WeakVal d c) y ≡ true → commands.WeakVal d c ≡ y
at_WeakVal d c (commands.WeakVal d2 c2) e = search rules
at_WeakVal d c _ e = absurd (false≢true e)

at_TablePut : (c : Cell) (k : Cell) (v : Cell) (y : Command) → (command_eqs.ghosts).eq (commands.TablePut c k v) y ≡ true → commands.TablePut c k v ≡ y
at_TablePut c k v (commands.TablePut c2 k2 v2) e = let t = three c k v c2 k2 v2 e in rw (t.0, t.1, t.2) refl
at_TablePut c k v _ e = absurd (false≢true e)

at_TableGet : (d : Cell) (c : Cell) (k : Cell) (y : Command) → (command_eqs.ghosts).eq (commands.TableGet d c k) y ≡ true → commands.TableGet d c k ≡ y
at_TableGet d c k (commands.TableGet d2 c2 k2) e = let t = three d c k d2 c2 k2 e in rw (t.0, t.1, t.2) refl
at_TableGet d c k _ e = absurd (false≢true e)

at_TableRem : (c : Cell) (k : Cell) (y : Command) → (command_eqs.ghosts).eq (commands.TableRem c k) y ≡ true → commands.TableRem c k ≡ y
at_TableRem c k (commands.TableRem c2 k2) e = search rules
at_TableRem c k _ e = absurd (false≢true e)

at_TableCount : (c : Cell) (y : Command) → (command_eqs.ghosts).eq (commands.TableCount c) y ≡ true → commands.TableCount c ≡ y
at_TableCount c (commands.TableCount c2) e = search rules
at_TableCount c _ e = absurd (false≢true e)

at_Finalize : (c : Cell) (id : ℕ) (y : Command) → (command_eqs.ghosts).eq (commands.Finalize c id) y ≡ true → commands.Finalize c id ≡ y
at_Finalize c id (commands.Finalize c2 id2) e = search rules
at_Finalize c id _ e = absurd (false≢true e)

at_Cancel : (c : Cell) (y : Command) → (command_eqs.ghosts).eq (commands.Cancel c) y ≡ true → commands.Cancel c ≡ y
at_Cancel c (commands.Cancel c2) e = search rules
at_Cancel c _ e = absurd (false≢true e)

at_RunFinalizers : (y : Command) → (command_eqs.ghosts).eq commands.RunFinalizers y ≡ true → commands.RunFinalizers ≡ y
at_RunFinalizers commands.RunFinalizers e = refl
at_RunFinalizers _ e = absurd (false≢true e)

at_Collect : (g : ℕ) (y : Command) → (command_eqs.ghosts).eq (commands.Collect g) y ≡ true → commands.Collect g ≡ y
at_Collect g (commands.Collect g2) e = search rules
at_Collect g _ e = absurd (false≢true e)

at_Inhibit : (y : Command) → (command_eqs.ghosts).eq commands.Inhibit y ≡ true → commands.Inhibit ≡ y
at_Inhibit commands.Inhibit e = refl
at_Inhibit _ e = absurd (false≢true e)

at_Allow : (y : Command) → (command_eqs.ghosts).eq commands.Allow y ≡ true → commands.Allow ≡ y
at_Allow commands.Allow e = refl
at_Allow _ e = absurd (false≢true e)

at_ShowPage : (p : ℕ) (y : Command) → (command_eqs.ghosts).eq (commands.ShowPage p) y ≡ true → commands.ShowPage p ≡ y
at_ShowPage p (commands.ShowPage p2) e = search rules
at_ShowPage p _ e = absurd (false≢true e)

at_Stat : (g : ℕ) (y : Command) → (command_eqs.ghosts).eq (commands.Stat g) y ≡ true → commands.Stat g ≡ y
at_Stat g (commands.Stat g2) e = search rules
at_Stat g _ e = absurd (false≢true e)

same : (x y : Command) → (command_eqs.ghosts).eq x y ≡ true → x ≡ y
same (commands.Fix d1 n1) y e = at_Fix d1 n1 y e
same (commands.MakeNil d1) y e = at_MakeNil d1 y e
same (commands.Move d1 c1) y e = at_Move d1 c1 y e
same (commands.NewCons d1 a1 b1) y e = at_NewCons d1 a1 b1 y e
same (commands.NewVector d1 n1) y e = at_NewVector d1 n1 y e
same (commands.NewInstance d1 n1) y e = at_NewInstance d1 n1 y e
same (commands.NewClosure d1 n1) y e = at_NewClosure d1 n1 y e
same (commands.NewWords d1 n1 w1) y e = at_NewWords d1 n1 w1 y e
same (commands.NewWeak d1 c1) y e = at_NewWeak d1 c1 y e
same (commands.NewTable d1 w1 b1) y e = at_NewTable d1 w1 b1 y e
same (commands.Get d1 c1 i1) y e = at_Get d1 c1 i1 y e
same (commands.Put c1 i1 a1) y e = at_Put c1 i1 a1 y e
same (commands.RawGet r1 c1 i1) y e = at_RawGet r1 c1 i1 y e
same (commands.RawPut c1 i1 r1) y e = at_RawPut c1 i1 r1 y e
same (commands.Same a1 b1) y e = at_Same a1 b1 y e
same (commands.Show c1) y e = at_Show c1 y e
same (commands.Addr r1 c1) y e = at_Addr r1 c1 y e
same (commands.SetRaw r1 w1) y e = at_SetRaw r1 w1 y e
same (commands.AddRaw r1 k1) y e = at_AddRaw r1 k1 y e
same (commands.Pin c1) y e = at_Pin c1 y e
same commands.Unpin y e = at_Unpin y e
same (commands.WeakVal d1 c1) y e = at_WeakVal d1 c1 y e
same (commands.TablePut c1 k1 v1) y e = at_TablePut c1 k1 v1 y e
same (commands.TableGet d1 c1 k1) y e = at_TableGet d1 c1 k1 y e
same (commands.TableRem c1 k1) y e = at_TableRem c1 k1 y e
same (commands.TableCount c1) y e = at_TableCount c1 y e
same (commands.Finalize c1 id1) y e = at_Finalize c1 id1 y e
same (commands.Cancel c1) y e = at_Cancel c1 y e
same commands.RunFinalizers y e = at_RunFinalizers y e
same (commands.Collect g1) y e = at_Collect g1 y e
same commands.Inhibit y e = at_Inhibit y e
same commands.Allow y e = at_Allow y e
same (commands.ShowPage p1) y e = at_ShowPage p1 y e
same (commands.Stat g1) y e = at_Stat g1 y e

itself : (x : Command) → (command_eqs.ghosts).eq x x ≡ true
itself (commands.Fix d1 n1) = search rules
itself (commands.MakeNil d1) = search rules
itself (commands.Move d1 c1) = search rules
itself (commands.NewCons d1 a1 b1) = search rules
itself (commands.NewVector d1 n1) = search rules
itself (commands.NewInstance d1 n1) = search rules
itself (commands.NewClosure d1 n1) = search rules
itself (commands.NewWords d1 n1 w1) = search rules
itself (commands.NewWeak d1 c1) = search rules
itself (commands.NewTable d1 w1 b1) = search rules
itself (commands.Get d1 c1 i1) = search rules
itself (commands.Put c1 i1 a1) = search rules
itself (commands.RawGet r1 c1 i1) = search rules
itself (commands.RawPut c1 i1 r1) = search rules
itself (commands.Same a1 b1) = search rules
itself (commands.Show c1) = search rules
itself (commands.Addr r1 c1) = search rules
itself (commands.SetRaw r1 w1) = search rules
itself (commands.AddRaw r1 k1) = search rules
itself (commands.Pin c1) = search rules
itself commands.Unpin = refl
itself (commands.WeakVal d1 c1) = search rules
itself (commands.TablePut c1 k1 v1) = search rules
itself (commands.TableGet d1 c1 k1) = search rules
itself (commands.TableRem c1 k1) = search rules
itself (commands.TableCount c1) = search rules
itself (commands.Finalize c1 id1) = search rules
itself (commands.Cancel c1) = search rules
itself commands.RunFinalizers = refl
itself (commands.Collect g1) = search rules
itself commands.Inhibit = refl
itself commands.Allow = refl
itself (commands.ShowPage p1) = search rules
itself (commands.Stat g1) = search rules

pub command_decides : (x y : Command) → Decides ((command_eqs.ghosts).eq x y) (x ≡ y)
command_decides x y = (same x y, λ e. subst (λ z. (command_eqs.ghosts).eq x z ≡ true) e (itself x))
