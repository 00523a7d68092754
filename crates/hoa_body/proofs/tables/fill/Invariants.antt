-- `tables::fill` meets its contract.
use Rattle.hoa_body.specs.Tables.{Filled}
use Rattle.hoa_body.proofs.tables.fill.Given as goal

abbrev pub invariant-loop-letter : goal.invariant-loop-letter
invariant-loop-letter l = Filled l.state l.set l.letter l.value l.initial.cells l.cells
