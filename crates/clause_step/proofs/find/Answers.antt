-- `find` meets its contract.
use Rattle.clause_list.specs.Measured.{measured_tables, measured_start}
use Rattle.clause_step.proofs.Laws.{step_found, hands_length}
use Rattle.clause_step.proofs.find.Goals as goal

pub next_clause-next-requires : goal.next_clause-next-requires
next_clause-next-requires c = let t = measured_tables c.requires.measured in
    record { tables = (t, measured_start c.requires.measured); extent_of = (c.extent_of-g.ensures.there t.fits, c.requires.clause_room_in_bounds) }

pub shape_of-clause : goal.shape_of-clause
shape_of-clause c = hands_length c.requires.measured _ _ _ _ _ c.next_clause-next.ensures

pub returns : goal.returns
returns c = step_found c.requires.measured _ _ _ _ _ c.next_clause-next.ensures
