-- `parts_from` meets its contract.
use Prim.Native.Nat.{◌-◌}
use lib.ListN.{length}
use Rattle.hoa_text.specs.Header.{Header}
use Rattle.hoa_body.specs.Answers.{Opens, CurrentFits}
use Rattle.hoa_body.proofs.BodyLaws.{Turned}
use Rattle.hoa_body.proofs.parts_from.Given as goal

abbrev pub invariant-loop-state : goal.invariant-loop-state
invariant-loop-state l = CurrentFits l.table.current × ((h : Header) → Opens l.opened h → Turned h l.text l.at l.table l.i)

abbrev pub decreases-loop-state : goal.decreases-loop-state
decreases-loop-state l = length l.text - l.i
