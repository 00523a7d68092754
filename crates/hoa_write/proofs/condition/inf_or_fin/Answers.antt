-- `inf_or_fin` meets its contract.
use mathlib.Core.Bool.{cond}
use mathlib.Core.Path.{ap, sym}
use native.Mathlib.Omega.{arith}
use lib.ListN.{length}
use Rattle.automaton.specs.Bytes.{bytes}
use Rattle.hoa_write.proofs.Writing.{named}
use Rattle.hoa_write.proofs.condition.inf_or_fin.Goals as goal

pub returns-then-inf : goal.returns-then-inf
returns-then-inf c =
    named (sym (ap (λ b. cond b (bytes "Inf") (bytes "Fin")) c.if-inf.true)) (c.word.ensures.roomy (omega (arith, c.requires, ap (λ b. length (cond b (bytes "Inf") (bytes "Fin"))) c.if-inf.true)))

pub returns : goal.returns
returns c =
    named (sym (ap (λ b. cond b (bytes "Inf") (bytes "Fin")) c.if-inf.false)) (c.word-2.ensures.roomy (omega (arith, c.requires, ap (λ b. length (cond b (bytes "Inf") (bytes "Fin"))) c.if-inf.false)))
