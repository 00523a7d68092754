-- `reading::feed` meets its contract.
use mathlib.Core.Path.{◌≡◌}
use lib.ListN.{drop}
use Rattle.solver_text.specs.Machine.{run, at_rest}
use Rattle.solver_text.proofs.reading.feed.Given as goal

abbrev pub invariant-loop-b : goal.invariant-loop-b
invariant-loop-b l = run l.last l.kept (at_rest l.initial.u l.initial.named) l.piece ≡ run l.last l.kept (at_rest l.u l.named) (drop l.b-index l.piece)
