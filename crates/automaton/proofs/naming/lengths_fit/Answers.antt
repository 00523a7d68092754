-- `naming::lengths_fit` meets its contract.
use Rattle.std.proofs.Common.{rules, get_or}
use Rattle.automaton.specs.Tests.{length_fits}
use Rattle.automaton.specs.Passes.{passes_each}
use Rattle.automaton.proofs.naming.lengths_fit.Goals as goal

pub returns : goal.returns
returns c = passes_each 4 (λ i. length_fits c.args.count i (get_or c.args.lengths.now i 0)) c.args.lengths.now (search rules) (search rules)
