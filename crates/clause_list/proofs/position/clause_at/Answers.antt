-- `clause_at` meets its contract: it goes to the group that the position lies in.
use mathlib.Core.Path.{refl}
use Rattle.clause_list.specs.Position.{stands_same}
use Rattle.clause_list.specs.Rows.{node_paths}
use Rattle.clause_list.specs.Standing.{at_first, at_initial, at_successor, at_extension, at_closure}
use Rattle.clause_list.proofs.Standing.{stands, totality_some}
use native.Mathlib.Omega.{arith}
use Rattle.clause_list.proofs.position.clause_at.Goals as goal

pub returns-then-x-g : goal.returns-then-x-g
returns-then-x-g c = stands (at_first _ _ _ _ c.requires.tables.0 c.requires.extent_of.0 c.if-x-g.true) (totality_some _ _ _ c.requires.tables.0.fits) c.totality.ensures

pub returns-then-y-lt1 : goal.returns-then-y-lt1
returns-then-y-lt1 c = stands (at_initial _ _ _ _ c.requires.tables.0 c.requires.extent_of.0 (omega arith) refl c.if-y-g.true c.if-y-lt1.true) (omega arith) c.initial.ensures

pub returns-then-y-g : goal.returns-then-y-g
returns-then-y-g c = stands (at_successor _ _ _ _ c.requires.tables.0 c.requires.extent_of.0 (omega arith) refl c.if-y-g.true (omega arith)) (omega arith) c.successor_at.ensures

pub returns-then-t-g : goal.returns-then-t-g
returns-then-t-g c = stands_same _ _ _ (at_extension _ _ _ _ c.requires.tables.0 c.requires.extent_of.0 (omega arith) refl (omega arith) refl c.if-t-g.true) c.extension_at.ensures

pub returns : goal.returns
returns c = stands_same _ _ _ (at_closure _ _ _ _ c.requires.tables.0 c.requires.extent_of.0 (omega arith) refl (omega arith) refl (omega arith) refl (omega (arith, c.requires.extent_of.0.all_is, c.requires.extent_of.1))) c.closure_at.ensures

pub initial-requires : goal.initial-requires
initial-requires c = record { fitting = c.requires.tables.0.fits; in_file = (node_paths c.requires.tables.0 0 _ c.requires.tables.0.fits.n_some c.requires.tables.1, c.requires.extent_of.2) }

pub successor_at-requires : goal.successor_at-requires
successor_at-requires c = record { fitting = (c.requires.tables.0.fits, c.requires.tables.0.step_lt, node_paths c.requires.tables.0); x_bound = (omega (arith, c.requires.extent_of.0.second_is), c.requires.extent_of.2) }
