-- `first_paths` meets its contract.
use Rattle.meaning.specs.CountingLaws.{each_at}
use Rattle.clause_variables.proofs.FirstLaws.{row_numbers, no_numbers}
use Rattle.clause_variables.proofs.first_paths.Goals as goal

pub returns-in-Some : goal.returns-in-Some
returns-in-Some c = row_numbers _ _ _ c.in-Some.ensures c.fill.ensures

pub returns-in-None : goal.returns-in-None
returns-in-None c = no_numbers _ _ _ c.in-None.ensures (each_at 0 16 (λ v. 0))
