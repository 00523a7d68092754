-- `expected::behind_plain` meets its contract.
use native.Mathlib.Omega.{arith}
use Rattle.hoa_header.proofs.Tokens.{plain_word, plain_number, plain_quoted}
use Rattle.hoa_header.proofs.expected.behind_plain.Goals as goal

pub overflow_add-result : goal.overflow_add-result
overflow_add-result c =
    let h = c.in-Quoted.ensures in
    omega (arith, h.lies.to)

pub returns-in-Word : goal.returns-in-Word
returns-in-Word c = plain_word _ _ _ _ c.in-Word.ensures

pub returns-in-Number : goal.returns-in-Number
returns-in-Number c = plain_number _ _ _ _ _ c.in-Number.ensures

pub returns-in-Quoted : goal.returns-in-Quoted
returns-in-Quoted c = plain_quoted _ _ _ _ c.in-Quoted.ensures
