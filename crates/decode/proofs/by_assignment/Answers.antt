-- `by_assignment` meets its contract.
use Rattle.decode.proofs.Tabling.{sizing_not, assigned_answer}
use Rattle.decode.specs.Answers.{said}
use Rattle.decode.proofs.by_assignment.Goals as goal

pub returns-in_err-measurement : goal.returns-in_err-measurement
returns-in_err-measurement c = λ v d. absurd (sizing_not c.measure.ensures c.in_err-measurement.was v d)

pub returns : goal.returns
returns c = λ v d. assigned_answer (said c.args.held) c.in_ok-measurement.ensures.2 c.by_table.ensures
