-- `states` meets its contract: what is written is the lines of the first q states.
use mathlib.Core.Path.{refl}
use Prim.Native.Nat.{◌-◌}
use native.Mathlib.Omega.{arith}
use lib.ListN.{length}
use Rattle.decimal.specs.Writing.{wrote_none, wrote_length, wrote_part}
use Rattle.hoa_text.specs.Written.{state_lines}
use Rattle.hoa_write.proofs.Writing.{each_more, each_room, each_whole, part_room, part_le}
use Rattle.hoa_write.proofs.states.Goals as goal

pub loop-q-init : goal.loop-q-init
loop-q-init c = wrote_none _ _ (omega arith)

pub slice_bounds-state_lines-count : goal.slice_bounds-state_lines-count
slice_bounds-state_lines-count c =
    omega (arith, c.loop-q.invariant.room, wrote_length c.loop-q.invariant)

pub slice_bounds-state_lines-start : goal.slice_bounds-state_lines-start
slice_bounds-state_lines-start c =
    omega (arith, c.loop-q.invariant.room, wrote_length c.loop-q.invariant)

pub state_lines-at-requires : goal.state_lines-at-requires
state_lines-at-requires c =
    (c.requires.0, c.loop-q-test.true, part_room c.loop-q.out c.loop-q.at _ (each_room (state_lines c.args.a) c.loop-q.q c.args.a.states c.loop-q.invariant c.loop-q-test.true (omega (arith, c.requires.1))))

pub overflow_add-at : goal.overflow_add-at
overflow_add-at c =
    omega (arith, c.state_lines-at.ensures.room, part_le c.loop-q.out c.loop-q.at, c.loop-q.invariant.room, wrote_length c.loop-q.invariant, c.well_formed)

pub loop-q-preserved : goal.loop-q-preserved
loop-q-preserved c =
    each_more (state_lines c.args.a) c.loop-q.q c.loop-q.invariant (wrote_part c.loop-q.out c.loop-q.at (length c.loop-q.out - c.loop-q.at) (omega (arith, c.loop-q.invariant.room, wrote_length c.loop-q.invariant)) refl c.state_lines-at.ensures)

pub returns : goal.returns
returns c =
    each_whole (state_lines c.args.a) c.loop-q.q c.args.a.states (omega arith) c.loop-q.invariant
