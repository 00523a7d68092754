-- `state_lines` meets its contract.
use native.Mathlib.Omega.{arith}
use lib.ListN.{length, length-append}
use Rattle.meaning.specs.Counting.{each}
use Rattle.automaton.specs.Value.{letters}
use Rattle.hoa_text.specs.Written.{state_line, edge_line}
use Rattle.hoa_write.proofs.Writing.{wrote_rest, rest_room}
use Rattle.hoa_write.proofs.edges.state_lines.Goals as goal

pub number_line-at-requires : goal.number_line-at-requires
number_line-at-requires c =
    (omega (arith, c.requires.0.states_le, c.requires.1), omega (arith, c.requires.2, length-append (state_line c.args.q) (each (letters c.args.a) (edge_line c.args.a c.args.q))))

pub edge_lines-requires : goal.edge_lines-requires
edge_lines-requires c =
    let lines = each (letters c.args.a) (edge_line c.args.a c.args.q) in
    (c.requires.0, c.requires.1, rest_room c.number_line-at.ensures (length lines) (omega (arith, c.requires.2, length-append (state_line c.args.q) lines)))

pub returns : goal.returns
returns c = wrote_rest c.number_line-at.ensures c.edge_lines.ensures
