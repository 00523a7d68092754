-- `fill` meets its contract. The invariant: so many lines are written, and the next clause is looked for at x.
use mathlib.Core.Path.{◌∙◌}
use native.Mathlib.Omega.{arith}
use Rattle.decimal.specs.Writing.{wrote_length}
use Rattle.clause_text.proofs.Slots.{kept_none}
use Rattle.clause_text.proofs.Batches.{lines_none, lines_then, lines_room, lines_filled, both_same, further_less}
use Rattle.clause_text.proofs.batch.fill.Goals as goal

pub loop-at-init : goal.loop-at-init
loop-at-init c = (lines_none _ _ _ _ _ (omega arith), record { heads_kept = kept_none c.new-heads.ensures; middles_kept = kept_none c.new-middles.ensures; lasts_kept = kept_none c.new-lasts.ensures })

pub more_lines-next-requires : goal.more_lines-next-requires
more_lines-next-requires c = record { tables = c.requires.tables; extent_of = (c.requires.extent_of, lines_room c.loop-at.invariant.0); texts = c.loop-at.invariant.1 }

pub shape_of-text-then-next-at : goal.shape_of-text-then-next-at
shape_of-text-then-next-at c = wrote_length c.more_lines-next.ensures.further.lines.text ∙ wrote_length c.loop-at.invariant.0.text

pub returns-then-next-at : goal.returns-then-next-at
returns-then-next-at c =
    let (end, position) = both_same c.if-next-at.true in
    let (lines, stop) = lines_filled c.loop-at.invariant.0 c.more_lines-next.ensures.further end position in
    record { lines = lines; stop = stop }

pub loop-at-smaller : goal.loop-at-smaller
loop-at-smaller c =
    omega (arith, further_less c.loop-at.invariant.0 c.more_lines-next.ensures.further c.if-next-at.false, c.requires.extent_of.all_is, c.requires.extent_of.first_is, c.requires.extent_of.second_is, c.requires.extent_of.third_is)

pub loop-at-preserved : goal.loop-at-preserved
loop-at-preserved c = (lines_then c.loop-at.invariant.0 c.more_lines-next.ensures.further.lines, c.more_lines-next.ensures.texts_2)
