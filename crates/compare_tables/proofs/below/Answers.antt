-- `below` meets its contract.
use Rattle.std.proofs.Common.{rules}
use Rattle.compare_tables.specs.Entries.{below_each}
use Rattle.compare_tables.proofs.below.Goals as goal

pub returns : goal.returns
returns c = below_each c.args.table.now (search rules) (search rules)
