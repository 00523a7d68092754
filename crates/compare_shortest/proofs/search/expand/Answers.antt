-- `search::expand` meets its contract.
use mathlib.Core.Path.{ap, ◌∙◌}
use native.Mathlib.Omega.{arith}
use Rattle.compare_shortest.specs.Graph.{succ, Nodes}
use Rattle.compare_shortest.specs.State.{depth_lt}
use Rattle.compare_shortest.proofs.Expanding.{place_small, expand_one, expanded}
use Rattle.compare_shortest.proofs.search.expand.Goals as goal

pub enter-n-requires-clause-edge_bound : goal.enter-n-requires-clause-edge_bound
enter-n-requires-clause-edge_bound c = (
  omega (arith, place_small c.loop-letter.invariant, c.loop-letter.invariant.state.letters),
  omega (arith, c.depth-depth.ensures, depth_lt c.requires.state c.requires.here_lt_count),
  omega (arith, c.loop-letter.invariant.state.limit),
)

pub loop-letter-preserved : goal.loop-letter-preserved
loop-letter-preserved c =
    let leads = c.successor-next.ensures ∙ ap (λ q. succ c.args.table.now q c.loop-letter.letter) c.node-node.ensures in
    let nodes : Nodes c.args.table.now = (λ i. omega (arith, c.type_inv.table i)) in
    expand_one c.loop-letter.invariant (omega arith) nodes leads c.depth-depth.ensures c.enter-n.ensures.0 c.enter-n.ensures.1 c.enter-n.ensures.2

pub returns : goal.returns
returns c = record { state_2 = expanded c.loop-letter.invariant (omega (arith, c.loop-letter.invariant.upto)); lower_bound = (c.loop-letter.invariant.grown, c.loop-letter.invariant.old) }
