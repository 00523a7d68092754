-- `counting` meets its contract.
use Rattle.clause_sizes.proofs.Tested.{counting_test}
use Rattle.clause_sizes.proofs.counting.Goals as goal

pub returns : goal.returns
returns c = counting_test c.args.c c.args.most c.power_of_two.ensures.is
