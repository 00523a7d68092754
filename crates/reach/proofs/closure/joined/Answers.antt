-- `closure::joined` meets its contract.
use Rattle.reach.proofs.Stores.{joined_yes}
use Rattle.reach.proofs.closure.joined.Goals as goal

pub returns-then-test : goal.returns-then-test
returns-then-test c = joined_yes _ _ c.if-test.true
