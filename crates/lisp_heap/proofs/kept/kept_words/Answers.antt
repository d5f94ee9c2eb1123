-- The objects that the record lists lie where it says.
use Rattle.std.proofs.Common.{ℕ, ◌+◌, ◌≤◌, List, length, sym, ◌∙◌, ap, subst, get_or}
use Rattle.std.proofs.lemmas.List.Elements.{All-same}
use Rattle.std.specs.List.{sum_by}
use Rattle.heap_terms.specs.declared.events.PinAt.{PinAt}
use Rattle.heap_terms.specs.declared.events.Placing.{Placing}
use Rattle.heap_terms.specs.declared.limits.TheConstants.{MOST_COMMANDS}
use Rattle.lisp_heap.specs.Kept.{HasSizeAt, IsSizeAt, moved_size, pinned_size, place_then}
use Rattle.lisp_heap.proofs.kept.kept_words.Goals as goal

pub moved_words-requires-clause-sized : goal.moved_words-requires-clause-sized
moved_words-requires-clause-sized c =
    let k = c.requires.1 in
    All-same (λ (m : Placing). HasSizeAt c.args.space.now (place_then m)) c.as_slice.result.now c.args.made.now.moves c.as_slice.ensures
    (λ i d l. (moved_size c.requires.0 (get_or c.args.made.now.moves i d), k.moves i d l))

pub moved_words-requires-clause-few : goal.moved_words-requires-clause-few
moved_words-requires-clause-few c = subst (λ (ms : List Placing). length ms ≤ MOST_COMMANDS) (sym c.as_slice.ensures) c.requires.1.few_moves

pub pinned_words-requires-clause-sized : goal.pinned_words-requires-clause-sized
pinned_words-requires-clause-sized c =
    let k = c.requires.1 in
    All-same (λ (q : PinAt). HasSizeAt c.args.space.now q.index) c.as_slice-2.result.now c.args.made.now.pins c.as_slice-2.ensures
    (λ i d l. (pinned_size c.requires.0 (get_or c.args.made.now.pins i d), k.pins i d l))

pub pinned_words-requires-clause-few : goal.pinned_words-requires-clause-few
pinned_words-requires-clause-few c = subst (λ (qs : List PinAt). length qs ≤ MOST_COMMANDS) (sym c.as_slice-2.ensures) c.requires.1.few_pins

pub returns-clause-words : goal.returns-clause-words
returns-clause-words c a k =
    let moves = c.moved_words.ensures.sum (moved_size a) (All-same (λ (m : Placing). IsSizeAt c.args.space.now (place_then m) (moved_size a m)) c.as_slice.result.now c.args.made.now.moves c.as_slice.ensures k.moves) in
    let pins = c.pinned_words.ensures.sum (pinned_size a) (All-same (λ (q : PinAt). IsSizeAt c.args.space.now q.index (pinned_size a q)) c.as_slice-2.result.now c.args.made.now.pins c.as_slice-2.ensures k.pins) in
    ap (λ (n : ℕ). n + c.pinned_words.result) moves ∙ ap (λ (n : ℕ). sum_by (moved_size a) c.as_slice.result.now + n) pins
    ∙ ap (λ (ms : List Placing). sum_by (moved_size a) ms + sum_by (pinned_size a) c.as_slice-2.result.now) c.as_slice.ensures
    ∙ ap (λ (qs : List PinAt). sum_by (moved_size a) c.args.made.now.moves + sum_by (pinned_size a) qs) c.as_slice-2.ensures
