-- `edge_line` meets its contract.
use mathlib.Core.Path.{ap}
use native.Mathlib.Omega.{arith}
use lib.ListN.{length}
use Rattle.decimal.specs.Writing.{roomy_then}
use Rattle.hoa_write.proofs.Cases.{edge_is, edge_length}
use Rattle.hoa_write.proofs.Values.{cell_lt}
use Rattle.hoa_write.proofs.Writing.{named}
use Rattle.hoa_write.proofs.edges.edge_line.Goals as goal

pub overflow_add-cell : goal.overflow_add-cell
overflow_add-cell c =
    omega (arith, cell_lt c.requires.0 c.args.q c.args.l c.requires.1 c.requires.2)

pub overflow_cast-l : goal.overflow_cast-l
overflow_cast-l c =
    omega (arith, cell_lt c.requires.0 c.args.q c.args.l c.requires.1 c.requires.2)

pub bounds-a-cell : goal.bounds-a-cell
bounds-a-cell c =
    omega (arith, cell_lt c.requires.0 c.args.q c.args.l c.requires.1 c.requires.2)

pub bounds-a-cell-2 : goal.bounds-a-cell-2
bounds-a-cell-2 c =
    omega (arith, cell_lt c.requires.0 c.args.q c.args.l c.requires.1 c.requires.2)

pub bracketed-at-requires : goal.bracketed-at-requires
bracketed-at-requires c =
    (c.requires.0.propositions_le, omega (arith, c.requires.3, edge_length c.args.a c.args.q c.args.l c.from-destination.ensures c.from-marked.ensures))

pub number-at-requires : goal.number-at-requires
number-at-requires c =
    (omega (arith, c.from-destination.ensures, c.requires.0.destination_lt c.args.q c.args.l c.requires.1 c.requires.2, c.requires.0.states_le), omega (arith, c.requires.3, edge_length c.args.a c.args.q c.args.l c.from-destination.ensures c.from-marked.ensures))

pub marks-at-requires : goal.marks-at-requires
marks-at-requires c =
    (c.requires.0.sets_le, omega (arith, c.requires.3, edge_length c.args.a c.args.q c.args.l c.from-destination.ensures c.from-marked.ensures))

pub returns : goal.returns
returns c =
    let e = edge_is c.args.a c.args.q c.args.l c.from-destination.ensures c.from-marked.ensures in
    named e (roomy_then (λ h. c.bracketed-at.ensures) (roomy_then (λ h. c.number-at.ensures) (roomy_then (λ h. c.marks-at.ensures) c.byte.ensures.roomy)) (omega (arith, c.requires.3, ap length e)))
