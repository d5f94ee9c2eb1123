-- Hints on, all pages, hints off.
use Rattle.std.proofs.Common.{◌≡◌, ℕ, ◌*◌, length, ◌∙◌, ap, arith}
use Rattle.ambiguous_roots.proofs.Finding.{all-hit, all-counted, hints-cleared}
use Rattle.ambiguous_roots.proofs.pins.find_pins.Goals as goal

pub pin_pages-count-requires : goal.pin_pages-count-requires
pin_pages-count-requires g c =
    let long : length c.set_all.new.self ≡ length c.args.hints.now = c.set_all.ensures.long in
    record {
      sound = c.requires.sound;
      stand = c.requires.stand;
      pages_are = c.requires.pages_are;
      empty = c.requires.empty;
      room = c.requires.room;
      hints_long = ap (λ (n : ℕ). 2 * n) long ∙ c.requires.hints_long;
      hinted = λ k p l. c.set_all.ensures.set k p (omega (arith, l, long));
    }

pub returns-clause-pins : goal.returns-clause-pins
returns-clause-pins g c = all-hit g.a c.requires.sound c.args.pages.now c.requires.pages_are c.args.generation c.args.ambiguous.now c.pin_pages-count.new.pins.listed c.pin_pages-count.ensures.pins

pub returns-clause-hints : goal.returns-clause-hints
returns-clause-hints g c = hints-cleared c.args.ambiguous.now c.args.hints.now c.set_all.new.self c.set_all-2.new.self c.requires.unhinted
    c.set_all.ensures.others c.set_all.ensures.long c.set_all-2.ensures.set c.set_all-2.ensures.others c.set_all-2.ensures.long

pub returns-clause-count : goal.returns-clause-count
returns-clause-count g c = c.pin_pages-count.ensures.count ∙ all-counted g.a c.requires.sound c.args.pages.now c.requires.pages_are c.args.generation
