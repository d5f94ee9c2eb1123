use Rattle.std.proofs.Common.{◌≡◌, ◌++◌, ◌-◌, length, ap, ◌∙◌, option_to_list, vec_len, arith}
use Rattle.stop_words.proofs.Seating.{fresh_rest, fresh_last}
use Rattle.stop_words.proofs.tests.last_seat.Goals as goal

pub returns-clause-rest : goal.returns-clause-rest
returns-clause-rest c =
    let items = c.pop.ensures.items ∙ ap (λ o. c.pop.new.self.items ++ option_to_list o) c.unwrap.ensures in
    (let k = c.pop.ensures.len in let u = ap (λ o. length (option_to_list o)) c.unwrap.ensures in omega arith, fresh_rest c.args.words.now c.args.seats.now.items c.pop.new.self.items c.unwrap.result items c.requires.1)

pub returns-clause-seat : goal.returns-clause-seat
returns-clause-seat c =
    let items = c.pop.ensures.items ∙ ap (λ o. c.pop.new.self.items ++ option_to_list o) c.unwrap.ensures in
    let count : length c.pop.new.self.items ≡ vec_len c.args.seats.now - 1 = let k = c.pop.ensures.len in let u = ap (λ o. length (option_to_list o)) c.unwrap.ensures in let v = c.pop.new.self.ok.0 in omega arith in
    fresh_last c.args.words.now c.args.seats.now.items c.pop.new.self.items c.unwrap.result _ items count c.requires.1
