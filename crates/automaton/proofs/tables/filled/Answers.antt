-- `tables::filled` meets its contract.
use Rattle.std.proofs.Common.{rules, get_or}
use Rattle.automaton.specs.Tests.{entry_fits}
use Rattle.automaton.specs.Passes.{passes_each}
use Rattle.automaton.proofs.tables.filled.Goals as goal

pub returns : goal.returns
returns c = passes_each 256 (λ i. entry_fits c.args.states c.args.letters c.args.bound i (get_or c.args.table.now i 0)) c.args.table.now (search rules) (search rules)
