-- `more_lines` meets its contract.
use mathlib.Core.Path.{refl}
use Prim.Native.Nat.{◌+◌, ◌-◌}
use native.Mathlib.Omega.{arith}
use lib.ListN.{length}
use Rattle.clause_text.proofs.Batches.{line_further}
use Rattle.clause_text.proofs.Blocks.{in_group, extensions_short, extensions_further}
use Rattle.clause_text.proofs.batch.more_lines.Goals as goal

pub returns-then-room-from : goal.returns-then-room-from
returns-then-room-from c = record { texts_2 = c.requires.texts; further = line_further _ _ _ c.requires.extent_of.1 c.next_line.ensures }

pub overflow_sub-from : goal.overflow_sub-from
overflow_sub-from c =
    (in_group (length c.args.text.now - c.args.at) c.args.from (c.args.g.first + c.args.g.second) c.args.g.third c.if-room-from.false).1

pub block_lines-filled-requires : goal.block_lines-filled-requires
block_lines-filled-requires c = let (room, from, to) = in_group (length c.args.text.now - c.args.at) c.args.from (c.args.g.first + c.args.g.second) c.args.g.third c.if-room-from.false in
    record {
      tables = c.requires.tables.0;
      extensions_short = extensions_short c.args.z c.args.start.0 _ _ c.requires.tables.0 c.requires.extent_of.0 c.requires.tables.1;
      from_bound = (omega (arith, from, to, c.requires.extent_of.0.third_is), omega (arith, c.requires.extent_of.1, room));
      texts = c.requires.texts;
    }

pub overflow_add-result : goal.overflow_add-result
overflow_add-result c =
    let lines = c.block_lines-filled.ensures.extensions in
    omega (arith, lines.next, lines.within, c.requires.extent_of.0.third_is, c.requires.extent_of.0.all_is, c.requires.extent_of.0.all_le)

pub returns : goal.returns
returns c = let (room, from, to) = in_group (length c.args.text.now - c.args.at) c.args.from (c.args.g.first + c.args.g.second) c.args.g.third c.if-room-from.false in
    let lines = c.block_lines-filled.ensures.extensions in
    let some = c.block_lines-filled.ensures.from_lt_position in
    record { texts_2 = c.block_lines-filled.ensures.texts_2; further = extensions_further c.args.z c.args.start.0 _ _ c.requires.tables.0 c.requires.extent_of.0 lines c.args.from _ (omega (arith, from)) refl some }
