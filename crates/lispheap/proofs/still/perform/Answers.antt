use Rattle.std.proofs.Common.{◌≡◌, ◌∙◌, ap, sym, refl, map, nat_lt}
use Rattle.std.proofs.lemmas.List.{length-map}
use Rattle.std.specs.String.{string_bytes}
use Rattle.lispheap.specs.Answers.{change}
use Rattle.lispheap.proofs.Ending.{generator_answers, generator_refuses, no_form, replay_answers, replay_refuses}
use Rattle.lispheap.proofs.still.perform.Goals as goal

pub returns-then-is_replay : goal.returns-then-is_replay
returns-then-is_replay g c =
    let form = c.is_replay.ensures.0 c.if-is_replay.true in
    record {
      done = replay_answers c.replay.result _ (map string_bytes c.args.words.now) _ _ form (ap (nat_lt 1) (sym (length-map c.args.words.now string_bytes))) c.replay.ensures.done;
      failed = replay_refuses c.replay.result _ (map string_bytes c.args.words.now) _ _ form (ap (nat_lt 1) (sym (length-map c.args.words.now string_bytes))) c.replay.ensures.failed;
    }

pub returns-then-is_generate : goal.returns-then-is_generate
returns-then-is_generate g c = record {
  done = generator_answers c.write_generated.result (map string_bytes c.args.words.now) _ _ (record { bytes = refl; faults = refl }) c.write_generated.ensures.done;
  failed = generator_refuses c.write_generated.result (map string_bytes c.args.words.now) _ _ (record { bytes = refl; faults = refl }) c.write_generated.ensures.failed;
}

pub returns : goal.returns
returns g c = record {
  done = tt;
  failed = (
    no_form (map string_bytes c.args.words.now) c.is_replay.result c.is_generate.result c.is_replay.ensures.1 c.if-is_replay.false c.is_generate.ensures c.if-is_generate.false,
    record { bytes = refl; faults = refl },
    record { bytes = refl; faults = refl },
  );
}
