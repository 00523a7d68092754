-- `edge_lines` meets its contract: what is written is the lines of the first l letters.
use mathlib.Core.Path.{refl}
use Prim.Native.Nat.{◌-◌}
use native.Mathlib.Omega.{arith}
use lib.ListN.{length}
use Rattle.automaton.specs.Value.{letters}
use Rattle.bits.specs.Powers.{power_is}
use Rattle.decimal.specs.Writing.{wrote_none, wrote_length, wrote_part}
use Rattle.hoa_text.specs.Written.{edge_line}
use Rattle.hoa_write.proofs.Writing.{each_more, each_room, each_whole, part_room, part_le}
use Rattle.hoa_write.proofs.edges.edge_lines.Goals as goal

pub loop-l-init : goal.loop-l-init
loop-l-init c = wrote_none _ _ (omega arith)

pub slice_bounds-edge_line-count : goal.slice_bounds-edge_line-count
slice_bounds-edge_line-count c =
    omega (arith, c.loop-l.invariant.room, wrote_length c.loop-l.invariant)

pub slice_bounds-edge_line-start : goal.slice_bounds-edge_line-start
slice_bounds-edge_line-start c =
    omega (arith, c.loop-l.invariant.room, wrote_length c.loop-l.invariant)

pub edge_line-at-requires : goal.edge_line-at-requires
edge_line-at-requires c =
    let e = power_is c.requires.0.propositions_le c.power_of_two-count.ensures.is in
    (c.requires.0, c.requires.1, omega (arith, e), part_room c.loop-l.out c.loop-l.at _ (each_room (edge_line c.args.a c.args.q) c.loop-l.l (letters c.args.a) c.loop-l.invariant (omega (arith, e)) (omega (arith, c.requires.2))))

pub overflow_add-at : goal.overflow_add-at
overflow_add-at c =
    omega (arith, c.edge_line-at.ensures.room, part_le c.loop-l.out c.loop-l.at, c.loop-l.invariant.room, wrote_length c.loop-l.invariant, c.well_formed)

pub loop-l-preserved : goal.loop-l-preserved
loop-l-preserved c =
    each_more (edge_line c.args.a c.args.q) c.loop-l.l c.loop-l.invariant (wrote_part c.loop-l.out c.loop-l.at (length c.loop-l.out - c.loop-l.at) (omega (arith, c.loop-l.invariant.room, wrote_length c.loop-l.invariant)) refl c.edge_line-at.ensures)

pub returns : goal.returns
returns c =
    let e = power_is c.requires.0.propositions_le c.power_of_two-count.ensures.is in
    each_whole (edge_line c.args.a c.args.q) c.loop-l.l (letters c.args.a) (omega (arith, e)) c.loop-l.invariant
