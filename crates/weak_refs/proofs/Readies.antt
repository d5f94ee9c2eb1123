-- Frames of readying: from one state over another to a third; where no move was added the same is settled.
use Rattle.std.proofs.Common.{◌≡◌, ℕ, ◌≤◌, List, length, Bool, true, inl, inr, refl, sym, ap, subst, arith, length-append}
use Rattle.std.specs.Prelude.{slice_index}
use Rattle.heap_terms.specs.declared.cells.Value.{Value}
use Rattle.heap_terms.specs.declared.cells.Value.TheVariants.{Fix, Nil, Unbound, Ref}
use Rattle.heap_terms.specs.declared.kinds.Weakness.{Weakness}
use Rattle.heap_terms.specs.declared.kinds.Weakness.TheVariants as weaknesses
use Rattle.heap_terms.specs.Heap.{NamedHeap}
use Rattle.heap_terms.specs.Live.{is_live, KeepsSides}
use Rattle.copy_space.specs.Copying.{CanLookUp, Evacuates}
use Rattle.copy_space.specs.Frames.{Grows}
use Rattle.copy_space.specs.Midway.{Midway}
use Rattle.copy_space.specs.Settled.{is_settled}
use Rattle.copy_space.specs.State.{CopyState}
use Rattle.copy_space.proofs.FrameLaws.{Goes-same, Goes-on, settled-stays, word-of-stays}
use Rattle.copy_space.proofs.Listed.{same-settled}
use Rattle.scavenge.proofs.NotedStarts.{weak-later}
use Rattle.weak_refs.specs.Readying.{CanReady, Readies, HasSameMoves, IsHeld, IsHeldWith, AreHeldBy, CanSettleSide, CanFollow, CanReadyPair}

pub readies-same : (a : NamedHeap) (s : CopyState) → Midway a s → Readies a s s
readies-same a s h = record { midway = h; goes = Goes-same a s; kept = λ set pairs has name settled. has name settled }

pub readies-on : (a : NamedHeap) (s t u : CopyState) → Readies a s t → Readies a t u → Readies a s u
readies-on a s t u h k = record {
  midway = k.midway;
  goes = Goes-on a s t u h.goes k.goes;
  kept = λ set pairs has name settled. k.kept set pairs (h.kept set pairs has) name settled;
}

-- what is held stays held
pub held-by-stays : (a : NamedHeap) (s t : CopyState) → Readies a s t → (w : Weakness) (u v : Value) → AreHeldBy a s w u v → AreHeldBy a t w u v
held-by-stays a s t h w u v held = λ set pairs has. held set pairs (λ name settled. has name (settled-stays a s t h.goes.grows name settled))

pub held-with-stays : (a : NamedHeap) (s t : CopyState) → Readies a s t → (u v : Value) → IsHeldWith a s u v → IsHeldWith a t u v
held-with-stays a s t h u v held = λ set pairs has. held set pairs (λ name settled. has name (settled-stays a s t h.goes.grows name settled))

pub held-stays : (a : NamedHeap) (s t : CopyState) → Readies a s t → (v : Value) → IsHeld a s v → IsHeld a t v
held-stays a s t h v held = λ set pairs has. held set pairs (λ name settled. has name (settled-stays a s t h.goes.grows name settled))

-- where no move was added over two steps, none was over each
grows-longer : (a : NamedHeap) (s t : CopyState) → Grows a s t → length s.moves ≤ length t.moves
grows-longer a s t g = (let long = ap length g.moves in let both = length-append s.moves g.more in omega arith)

pub same-first : (a : NamedHeap) (s t u : CopyState) → Readies a s t → Readies a t u → HasSameMoves s u → HasSameMoves s t
same-first a s t u h k same = (let one = grows-longer a s t h.goes.grows in let two = grows-longer a t u k.goes.grows in omega arith)

pub same-second : (a : NamedHeap) (s t u : CopyState) → Readies a s t → Readies a t u → HasSameMoves s u → HasSameMoves t u
same-second a s t u h k same = (let one = grows-longer a s t h.goes.grows in let two = grows-longer a t u k.goes.grows in omega arith)

pub moves-longer : (a : NamedHeap) (s t : CopyState) → Readies a s t → length s.moves ≤ length t.moves
moves-longer a s t h = grows-longer a s t h.goes.grows

-- and the same is settled
pub same-set : (a : NamedHeap) (s t : CopyState) → Midway a s → Readies a s t → HasSameMoves s t → is_settled a t ≡ is_settled a s
same-set a s t m h same = λ i name. same-settled a s t m.places h.midway.places h.goes.grows same name i

-- what is live where a set has what is settled
pub live-within : (a : NamedHeap) (s : CopyState) (set : ℕ → Bool) → ((name : ℕ) → is_settled a s name ≡ true → set name ≡ true) → (v : Value) → is_live (is_settled a s) v ≡ true → is_live set v ≡ true
live-within a s set has (Fix n) e = refl
live-within a s set has Nil e = refl
live-within a s set has Unbound e = refl
live-within a s set has (Ref name) e = has name e

-- a side was evacuated
pub side-readies : (a : NamedHeap) (s t : CopyState) (side result : ℕ) → CanSettleSide a s side → Evacuates a s t side result → Readies a s t
side-readies a s t side result can e = record {
  midway = e.midway;
  goes = e.goes;
  kept = λ set pairs has name settled. (elim ((e.each can.v can.is_word).only name settled) [
    | inl before ↦ has name before
    | inr same ↦ subst (λ (v : Value). is_live set v ≡ true) same (can.held set pairs has)
  ]);
}

-- a side that follows another one
pub side-follows : (a : NamedHeap) (s : CopyState) (other side : ℕ) → (can : CanFollow a s other side) → is_live (is_settled a s) can.u ≡ true → CanSettleSide a s side
side-follows a s other side can live = record {
  midway = can.midway;
  v = can.v;
  is_word = can.side_is;
  held = λ set pairs has. can.held set pairs has (live-within a s set has can.u live);
}

-- the sides of a pair
module _ (a : NamedHeap) (s : CopyState) (w : Weakness) (key value : ℕ) (can : CanReadyPair a s w key value) where
  held_as : (known : Weakness) → w ≡ known → AreHeldBy a s known can.u can.v
  held_as known is = subst (λ (x : Weakness). AreHeldBy a s x can.u can.v) is can.held

  pub strong-key : w ≡ weaknesses.Strong → CanSettleSide a s key
  strong-key is = record { midway = can.midway; v = can.u; is_word = can.key_is; held = λ set pairs has. (held_as weaknesses.Strong is set pairs has).0 }

  pub strong-value : w ≡ weaknesses.Strong → (t : CopyState) → Readies a s t → CanSettleSide a t value
  strong-value is t h = record {
    midway = h.midway;
    v = can.v;
    is_word = word-of-stays a s t h.goes.grows can.v value can.value_is;
    held = held-stays a s t h can.v (λ set pairs has. (held_as weaknesses.Strong is set pairs has).1);
  }

  pub value-follows : w ≡ weaknesses.Key → CanFollow a s key value
  value-follows is = record { midway = can.midway; u = can.u; v = can.v; other_is = can.key_is; side_is = can.value_is; held = λ set pairs has. held_as weaknesses.Key is set pairs has }

  pub key-follows : w ≡ weaknesses.Value → CanFollow a s value key
  key-follows is = record { midway = can.midway; u = can.v; v = can.u; other_is = can.value_is; side_is = can.key_is; held = λ set pairs has. held_as weaknesses.Value is set pairs has }

  pub or-first : w ≡ weaknesses.KeyOrValue → CanFollow a s key value
  or-first is = record { midway = can.midway; u = can.u; v = can.v; other_is = can.key_is; side_is = can.value_is; held = λ set pairs has. (held_as weaknesses.KeyOrValue is set pairs has).0 }

  pub or-second : w ≡ weaknesses.KeyOrValue → (t : CopyState) → Readies a s t → CanFollow a t value key
  or-second is t h = record {
    midway = h.midway;
    u = can.v;
    v = can.u;
    other_is = word-of-stays a s t h.goes.grows can.v value can.value_is;
    side_is = word-of-stays a s t h.goes.grows can.u key can.key_is;
    held = held-with-stays a s t h can.v can.u (λ set pairs has. (held_as weaknesses.KeyOrValue is set pairs has).1);
  }

-- what is ready by a weakness that is known
pub ready-as : (w known : Weakness) (k v : Bool) → w ≡ known → KeepsSides known k v → KeepsSides w k v
ready-as w known k v is h = subst (λ (x : Weakness). KeepsSides x k v) (sym is) h

-- the sides of a pair are its sides after more was settled
pub pair-later : (a : NamedHeap) (s t : CopyState) (w : Weakness) (key value : ℕ) → Readies a s t → CanReadyPair a s w key value → CanReadyPair a t w key value
pair-later a s t w key value h can = record {
  midway = h.midway;
  u = can.u;
  v = can.v;
  key_is = word-of-stays a s t h.goes.grows can.u key can.key_is;
  value_is = word-of-stays a s t h.goes.grows can.v value can.value_is;
  held = held-by-stays a s t h w can.u can.v can.held;
}

-- and can be looked up
pub key-looked : (a : NamedHeap) (s : CopyState) (w : Weakness) (key value : ℕ) → CanReadyPair a s w key value → CanLookUp a s key
key-looked a s w key value can = record { places = can.midway.places; value = can.u; is_word = can.key_is }

pub value-looked : (a : NamedHeap) (s : CopyState) (w : Weakness) (key value : ℕ) → CanReadyPair a s w key value → CanLookUp a s value
value-looked a s w key value can = record { places = can.midway.places; value = can.v; is_word = can.value_is }

-- what can be readied can be later
pub ready-later : (a : NamedHeap) (s t : CopyState) (starts : List ℕ) → Readies a s t → CanReady a s starts → CanReady a t starts
ready-later a s t starts h can = record {
  midway = h.midway;
  names = can.names;
  named = record { long = can.named.long; each = λ k l. weak-later a s t h.goes.grows (slice_index can.names k) (slice_index starts k) (can.named.each k l) };
}
