-- Turns one after the other.
use Rattle.std.proofs.Common.{◌≡◌, ℕ, zero, suc, ◌+◌, List, [], ◌∷◌, ◌++◌, length, Option, Some, None, refl, sym, ◌∙◌, subst, ap, arith, add-one, add-zero, zero-add, append_assoc, append-nil}
use Rattle.std.proofs.lemmas.List.{take-append-drop}
use Rattle.std.specs.List.{range_with_len}
use Rattle.std.specs.Prelude.{take, drop}
use Rattle.heap_terms.specs.declared.phases.Phase.{Phase}
use Rattle.heap_terms.specs.declared.phases.Phase.TheVariants.{Ended}
use Rattle.heap_terms.specs.declared.programs.Program.{Program}
use Rattle.heap_terms.specs.declared.steps.ReplayLine.{ReplayLine}
use Rattle.heap_terms.specs.MachineTurns.{Configuration, phase_of, is_due, Does, IsTurn}
use Rattle.heap_terms.specs.Phases.{task_at}
use Rattle.heap_terms.specs.Runs.{AreTurns, rounds_of}
use Rattle.replay_core.specs.MachineView.{MachineView, program_of, configuration_of}
use Rattle.replay_core.specs.Runs.{Turned, Keeps, TurnedKept, MoreRounds}
use Rattle.replay_core.specs.Stepping.{AllEnded, TurnDone}

-- the turns of two lists one after the other
AreTurns-append : (p : Program) (xs ys : List ℕ) (old between new : Configuration) (front back : List ReplayLine) → AreTurns p xs old front between →
    AreTurns p ys between back new → AreTurns p (xs ++ ys) old (front ++ back) new
AreTurns-append p [] ys old between new front back first second =
    subst (λ (ls : List ReplayLine). AreTurns p ys old (ls ++ back) new) (sym first.0) (subst (λ (c : Configuration). AreTurns p ys c back new) first.1 second)
AreTurns-append p (x ∷ xs) ys old between new front back first second =
    let head = first.2 in (
      first.0,
      first.1 ++ back,
      record {
        own = head.own;
        turn = head.turn;
        joined = ap (λ (ls : List ReplayLine). ls ++ back) head.joined ∙ append_assoc head.own first.1 back;
      },
      AreTurns-append p xs ys first.0 between new first.1 back first.3 second,
    )

Turned-append : (xs ys : List ℕ) (front back : List ReplayLine) (a b c : MachineView) → Turned xs front a b → Turned ys back b c → Turned (xs ++ ys) (front ++ back) a c
Turned-append xs ys front back a b c first second = record {
  program = second.program ∙ first.program;
  turns = AreTurns-append (program_of a) xs ys (configuration_of a) (configuration_of b) (configuration_of c) front back first.turns
      (subst (λ (p : Program). AreTurns p ys (configuration_of b) back (configuration_of c)) first.program second.turns);
}

Keeps-append : (kept : Option (List ReplayLine)) (front back : List ReplayLine) (between new : Option (List ReplayLine)) → Keeps kept front between → Keeps between back new →
    Keeps kept (front ++ back) new
Keeps-append None front back between new first second = subst (λ (k : Option (List ReplayLine)). Keeps k back new) first second
Keeps-append (Some ls) front back between new first second =
    subst (λ (k : Option (List ReplayLine)). Keeps k back new) first second ∙ ap {B = Option (List ReplayLine)} (λ (xs : List ReplayLine). Some xs) (append_assoc ls front back)

pub TurnedKept-append : (xs ys : List ℕ) (a b c : MachineView) (k l m : Option (List ReplayLine)) → TurnedKept xs a b k l → TurnedKept ys b c l m → TurnedKept (xs ++ ys) a c k m
TurnedKept-append xs ys a b c k l m first second = record {
  lines = first.lines ++ second.lines;
  turned = Turned-append xs ys first.lines second.lines a b c first.turned second.turned;
  keeps = Keeps-append k first.lines second.lines l m first.keeps second.keeps;
}

Keeps-none : (k : Option (List ReplayLine)) → Keeps k [] k
Keeps-none None = refl
Keeps-none (Some ls) = ap {B = Option (List ReplayLine)} (λ (xs : List ReplayLine). Some xs) (sym (append-nil ls))

pub TurnedKept-none : (a : MachineView) (k : Option (List ReplayLine)) → TurnedKept [] a a k k
TurnedKept-none a k = record { lines = []; turned = record { program = refl; turns = (refl, refl) }; keeps = Keeps-none k }

-- one turn
pub Turned-one : (t : ℕ) (lines : List ReplayLine) (a b : MachineView) → TurnDone t lines a b → Turned (t ∷ []) lines a b
Turned-one t lines a b d = record {
  program = d.program;
  turns = (configuration_of b, [], record { own = lines; turn = d.turn; joined = sym (append-nil lines) }, (refl, refl));
}

range-suc : (a n m : ℕ) → a + n ≡ m → range_with_len a (suc n) ≡ range_with_len a n ++ m ∷ []
range-suc a zero m e = ap (λ (x : ℕ). x ∷ []) (sym (add-zero a) ∙ e)
range-suc a (suc n) m e = ap (λ (xs : List ℕ). a ∷ xs) (range-suc (a + 1) n m (omega arith))

pub range-more : (n : ℕ) → range_with_len 0 (n + 1) ≡ range_with_len 0 n ++ n ∷ []
range-more n = rw add-one (range-suc 0 n n (zero-add n))

-- one round more
pub TurnedKept-round : (k : ℕ) (a b c : MachineView) (x y z : Option (List ReplayLine)) → TurnedKept (rounds_of (length (program_of a).threads) k) a b x y →
    TurnedKept (range_with_len 0 (length (program_of b).threads)) b c y z → TurnedKept (rounds_of (length (program_of a).threads) (k + 1)) a c x z
TurnedKept-round k a b c x y z front round =
    let n = length (program_of a).threads in
    let same : length (program_of b).threads ≡ n = ap (λ (p : Program). length p.threads) front.turned.program in
    rw add-one (TurnedKept-append (rounds_of n k) (range_with_len 0 n) a b c x y z front
    (subst (λ (m : ℕ). TurnedKept (range_with_len 0 m) b c y z) same round))

-- and many more
rounds-append : (n k m : ℕ) → rounds_of n k ++ rounds_of n m ≡ rounds_of n (k + m)
rounds-append n k zero = append-nil (rounds_of n k) ∙ ap (rounds_of n) (sym (add-zero k))
rounds-append n k (suc m) =
    sym (append_assoc (rounds_of n k) (rounds_of n m) (range_with_len 0 n)) ∙ ap (λ (xs : List ℕ). xs ++ range_with_len 0 n) (rounds-append n k m)
    ∙ ap (rounds_of n) (let e : suc (k + m) ≡ k + suc m = omega arith in e)

pub TurnedKept-rounds : (k : ℕ) (a b c : MachineView) (x y z : Option (List ReplayLine)) → TurnedKept (rounds_of (length (program_of a).threads) k) a b x y →
    (more : MoreRounds b c y z) → TurnedKept (rounds_of (length (program_of a).threads) (k + more.rounds)) a c x z
TurnedKept-rounds k a b c x y z front more =
    let n = length (program_of a).threads in
    let same : length (program_of b).threads ≡ n = ap (λ (p : Program). length p.threads) front.turned.program in
    subst (λ (ts : List ℕ). TurnedKept ts a c x z) (rounds-append n k more.rounds)
    (TurnedKept-append (rounds_of n k) (rounds_of n more.rounds) a b c x y z front
    (subst (λ (m : ℕ). TurnedKept (rounds_of m more.rounds) b c y z) same more.turned))

-- one turn of a thread that is alone is a round
pub MoreRounds-alone : (a b c : MachineView) (x y z : Option (List ReplayLine)) → length (program_of a).threads ≡ 1 → MoreRounds a b x y → TurnedKept (0 ∷ []) b c y z → MoreRounds a c x z
MoreRounds-alone a b c x y z alone h one =
    let same : length (program_of b).threads ≡ 1 = ap (λ (p : Program). length p.threads) h.turned.turned.program ∙ alone in
    record {
      rounds = h.rounds + 1;
      turned = TurnedKept-round h.rounds a b c x y z h.turned (subst (λ (n : ℕ). TurnedKept (range_with_len 0 n) b c y z) (sym same) one);
    }

pub MoreRounds-none : (a : MachineView) (x : Option (List ReplayLine)) → MoreRounds a a x x
MoreRounds-none a x = record { rounds = 0; turned = TurnedKept-none a x }

-- turns of threads of which each is at its end
still_turns : (p : Program) (ts : List ℕ) (c : Configuration) → ((t : ℕ) → phase_of c t ≡ Ended) → AreTurns p ts c [] c
still_turns p [] c ended = (refl, refl)
still_turns p (t ∷ ts) c ended =
    let rests : IsTurn p t c [] c = subst (λ (ph : Phase). Does p t (task_at ph (is_due p c.history t)) c [] c) (sym (ended t)) (record { same = refl; none = refl }) in
    (c, [], record { own = []; turn = rests; joined = refl }, still_turns p ts c ended)

-- where all threads have ended after a front of some turns all the turns were done
pub TurnedKept-whole : (ts : List ℕ) (i : ℕ) (a b : MachineView) (k l : Option (List ReplayLine)) → TurnedKept (take i ts) a b k l → AllEnded b → TurnedKept ts a b k l
TurnedKept-whole ts i a b k l front done =
    let rest : TurnedKept (drop i ts) b b l l = record {
      lines = [];
      turned = record { program = refl; turns = still_turns (program_of b) (drop i ts) (configuration_of b) done };
      keeps = Keeps-none l;
    } in
    subst (λ (us : List ℕ). TurnedKept us a b k l) (take-append-drop i ts) (TurnedKept-append (take i ts) (drop i ts) a b b k l l front rest)
