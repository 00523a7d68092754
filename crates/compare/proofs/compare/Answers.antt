-- `compare` meets its contract.
use Rattle.compare.proofs.Answers.{found}
use Rattle.compare.proofs.compare.Goals as goal

pub returns : goal.returns
returns c =
    found
    (record {
      valid_a = c.valid.ensures.0 c.if-not-valid.false;
      valid_b = c.valid-2.ensures.0 c.if-not-valid-2.false;
      same_propositions = c.if-first-second.false;
      prefix_room_fits = c.if-prefix-lt-PREFIX.false;
      loop_room_fits = c.if-cycle-lt-LOOP.false;
    })
    c.difference.result c.difference.ensures c.answer.ensures
