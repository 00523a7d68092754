-- `many_lines` meets its contract.
use Rattle.decimal.specs.Writing.{wrote_length}
use Rattle.clause_list.specs.Measured.{measured_tables, measured_start}
use Rattle.clause_text.proofs.Answering.{batch_ended, batch_handed}
use Rattle.clause_text.proofs.many_lines.Goals as goal

pub fill-filled-requires : goal.fill-filled-requires
fill-filled-requires c = let t = measured_tables c.requires.measured in
    record { tables = (t, measured_start c.requires.measured); extent_of = c.extent_of-g.ensures.there t.fits }

pub shape_of-text-then-filled-eq0 : goal.shape_of-text-then-filled-eq0
shape_of-text-then-filled-eq0 c = wrote_length c.fill-filled.ensures.lines.text

pub returns-then-filled-eq0 : goal.returns-then-filled-eq0
returns-then-filled-eq0 c = batch_ended c.requires.measured _ c.fill-filled.ensures c.if-filled-eq0.true

pub shape_of-text : goal.shape_of-text
shape_of-text c = wrote_length c.fill-filled.ensures.lines.text

pub returns : goal.returns
returns c = batch_handed c.requires.measured _ c.fill-filled.ensures c.if-filled-eq0.false
