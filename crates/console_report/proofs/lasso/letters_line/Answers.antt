-- `lasso::letters_line` meets its contract.
use native.Mathlib.Omega.{arith}
use lib.ListN.{take}
use Rattle.decimal.specs.Writing.{wrote_then}
use Rattle.console_report.proofs.Spacing.{wrote_row}
use Rattle.console_report.proofs.lasso.letters_line.Goals as goal

pub numbers-next-requires : goal.numbers-next-requires
numbers-next-requires c =
    let w = c.word-next.ensures.roomy (omega arith) in
    omega arith

pub returns : goal.returns
returns c = let w = c.word-next.ensures.roomy (omega arith) in
    let b = c.byte.ensures.roomy (omega (arith, c.numbers-next.ensures.most)) in
    record { is = wrote_then w (wrote_row (take c.args.count c.args.letters.now) c.numbers-next.ensures.is b); most = omega (arith, c.numbers-next.ensures.most) }
