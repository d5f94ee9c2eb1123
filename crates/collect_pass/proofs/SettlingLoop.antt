-- The loop that settles all that is live: where it stands after so many rounds, and at its end.
use Rattle.std.proofs.Common.{◌≡◌, ℕ, ◌≤◌, length, Some, Bool, true, sym, ◌∙◌, ap, subst, arith, length-append}
use Rattle.heap_terms.specs.Heap.{NamedHeap, object_at}
use Rattle.heap_terms.specs.Live.{IsClosed, Keeps}
use Rattle.heap_terms.specs.Objects.{Object, Contents}
use Rattle.copy_space.specs.declared.notes.Pass.{Pass}
use Rattle.copy_space.specs.Frames.{Grows}
use Rattle.copy_space.specs.Midway.{Midway}
use Rattle.copy_space.specs.Settled.{is_settled}
use Rattle.copy_space.specs.State.{CopyState}
use Rattle.copy_space.proofs.FrameLaws.{Follows-from_Goes, Follows-on}
use Rattle.pin_set.specs.Starts.{Starts}
use Rattle.scavenge.specs.declared.queue.Scanned.{Scanned}
use Rattle.scavenge.specs.Noting.{Notes}
use Rattle.scavenge.specs.Scanning.{AreScanned, CanScan, HasItsFields, IsAllScanned, OthersScanned, Scans}
use Rattle.scavenge.proofs.Carried.{every-scanned, nothing-scanned, others-on}
use Rattle.scavenge.proofs.NotedStarts.{can-later, named-starts, notes-over}
use Rattle.scavenge.proofs.QueueLaws.{all-scanned, scanned-on}
use Rattle.scavenge.proofs.Shapes.{field_kept}
use Rattle.weak_refs.specs.Readying.{AreReady, CanReady, HasItsPairs, HasSameMoves, Readies}
use Rattle.collect_pass.specs.Settling.{AreAllSettled, CanSettleAll, Settles}
use Rattle.collect_pass.proofs.Keeping.{keeps-all}

-- a closed set has what the fields of its objects refer to, and what the pairs of its tables keep
pub closed-fields : (a : NamedHeap) (g : ℕ) (set : ℕ → Bool) → IsClosed a g set → HasItsFields a set
closed-fields a g set closed = λ name o there has i v field. field_kept set o.contents i v field (closed.members name o there has)

pub closed-pairs : (a : NamedHeap) (g : ℕ) (set : ℕ → Bool) → IsClosed a g set → HasItsPairs a set
closed-pairs a g set closed = λ name o there has w b pairs is. subst (λ (c : Contents). Keeps set c) is (closed.members name o there has)

-- so both scanning and readying settle
pub scans-settle : (a : NamedHeap) (s t : CopyState) → Scans a s t → Settles a s t
scans-settle a s t h = record {
  midway = h.midway;
  follows = h.follows;
  within = λ set closed has name settled. h.reached set (closed-fields a s.pass.generation set closed) has name settled;
}

pub readies-settle : (a : NamedHeap) (s t : CopyState) → Midway a s → Readies a s t → Settles a s t
readies-settle a s t m h = record {
  midway = h.midway;
  follows = Follows-from_Goes a s t m h.goes;
  within = λ set closed has name settled. h.kept set (closed-pairs a s.pass.generation set closed) has name settled;
}

pub settles-on : (a : NamedHeap) (s t u : CopyState) → Settles a s t → Settles a t u → Settles a s u
settles-on a s t u h k = record {
  midway = k.midway;
  follows = Follows-on a s t u h.follows k.follows;
  within = λ set closed has name settled.
      (let closed_t : IsClosed a t.pass.generation set = subst (λ (p : Pass). IsClosed a p.generation set) (sym h.follows.grows.pass) closed in
      k.within set closed_t (h.within set closed has) name settled);
}

-- after some rounds: all is scanned, and what is older too
pub record IsRound (a : NamedHeap) (s t : CopyState) (old weak : Starts) (done : Scanned) : Type 0 where
  pub settles : Settles a s t
  pub noting : Notes a t old weak
  pub scanned : AreScanned a t weak.listed done
  pub whole : IsAllScanned t done
  pub others : OthersScanned a t weak.listed

pub first-can : (a : NamedHeap) (s : CopyState) (weak : Starts) → CanSettleAll a s weak → CanScan a s weak (record { pins = 0; moves = 0 })
first-can a s weak can = record { midway = can.midway; scanned = nothing-scanned a s weak.listed; note = can.note }

pub first-round : (a : NamedHeap) (s t : CopyState) (old weak : Starts) (done : Scanned) → CanSettleAll a s old → Scans a s t → Notes a t old weak → AreScanned a t weak.listed done →
    IsAllScanned t done → IsRound a s t old weak done
first-round a s t old weak done can scans noting scanned whole = record {
  settles = scans-settle a s t scans;
  noting = noting;
  scanned = scanned;
  whole = whole;
  others = others-on a s t old.listed weak.listed can.midway scans.follows noting.stays can.others;
}

module _ (a : NamedHeap) (s t : CopyState) (old weak : Starts) (done : Scanned) (round : IsRound a s t old weak done) where
  pub round-ready : CanReady a t weak.listed
  round-ready = (let n = named-starts a t weak.listed round.noting.can.each in record { midway = round.settles.midway; names = n.names; named = n.named })

  module _ (u : CopyState) (readies : Readies a t u) where
    step : Settles a t u
    step = readies-settle a t u round.settles.midway readies

    pub round-can : CanScan a u weak done
    round-can = record {
      midway = readies.midway;
      scanned = scanned-on a t u weak.listed weak.listed done round.settles.midway step.follows (λ start e. e) round.scanned;
      note = can-later a t u weak readies.goes.grows round.noting.can;
    }

    -- one round more
    pub next-round : (v : CopyState) (more : Starts) (next : Scanned) → Scans a u v → Notes a v weak more → AreScanned a v more.listed next → IsAllScanned v next → IsRound a s v old more next
    next-round v more next scans noting scanned whole =
        let both = settles-on a t u v step (scans-settle a u v scans) in
        record {
          settles = settles-on a s t v round.settles both;
          noting = notes-over a t v old weak more round.noting noting;
          scanned = scanned;
          whole = whole;
          others = others-on a t v weak.listed more.listed round.settles.midway both.follows noting.stays round.others;
        }

    -- the last one
    module _ (same : HasSameMoves t u) (ready : AreReady a u weak.listed (length weak.listed)) where
      pub last-settles : Settles a s u
      last-settles = settles-on a s t u round.settles step

      pub last-noting : Notes a u old weak
      last-noting = (let can = can-later a t u weak readies.goes.grows round.noting.can in record { can = can; stays = round.noting.stays; most = round.noting.most })

      whole-still : IsAllScanned u done
      whole-still = record {
        pins = round.whole.pins ∙ ap length (sym readies.goes.grows.pins);
        moves = round.whole.moves ∙ sym same;
      }

      pub last-settled : AreAllSettled a u weak.listed
      last-settled =
          let others = others-on a t u weak.listed weak.listed round.settles.midway step.follows (λ start e. e) round.others in
          let own = all-scanned a u weak.listed done readies.midway round-can.scanned whole-still in
          let done_all : (name : ℕ) (o : Object) → object_at a.objects name ≡ Some o → is_settled a u name ≡ true → _ = every-scanned a u weak.listed others own in
          record { done = done_all; ready = ready; keeps = keeps-all a u weak.listed done_all ready }

-- the moves are bounded, and grow
pub moves-grow : (a : NamedHeap) (s t : CopyState) → Grows a s t → length s.moves ≤ length t.moves
moves-grow a s t g = (let long = ap length g.moves in let both = length-append s.moves g.more in omega arith)
