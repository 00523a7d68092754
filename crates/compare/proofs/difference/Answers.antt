-- `difference` meets its contract.
use Rattle.bits.specs.Powers.{power_is}
use Rattle.compare.specs.Searched.{searched}
use Rattle.compare.proofs.difference.Goals as goal

pub returns : goal.returns
returns c =
    searched
    (record {
      valid_a = c.requires.valid_a;
      valid_b = c.requires.valid_b;
      same_propositions = c.requires.same_propositions;
      judged = c.judge_all.ensures;
    })
    c.args.prefix.now c.difference.new.prefix c.args.cycle.now c.difference.new.cycle c.requires.prefix_room_fits c.requires.loop_room_fits c.power_of_two.result
    (power_is c.requires.valid_a.propositions_le c.power_of_two.ensures.is) c.difference.result c.difference.ensures
