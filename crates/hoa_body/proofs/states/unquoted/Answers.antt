-- `states::unquoted` meets its contract.
use native.Mathlib.Omega.{arith}
use Rattle.hoa_body.proofs.StateLaws.{behind_quoted}
use Rattle.hoa_body.proofs.states.unquoted.Goals as goal

pub overflow_add-result : goal.overflow_add-result
overflow_add-result c = let k = c.in-Quoted.ensures in omega (arith, k.lies.to)

pub returns-in-Quoted : goal.returns-in-Quoted
returns-in-Quoted c = behind_quoted _ _ _ _ c.in-Quoted.ensures
