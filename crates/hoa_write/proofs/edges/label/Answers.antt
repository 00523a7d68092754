-- `label` meets its contract.
use mathlib.Core.Path.{ap, sym}
use native.Mathlib.Omega.{arith}
use lib.ListN.{length}
use Rattle.hoa_text.specs.Written.{label_of}
use Rattle.hoa_write.proofs.Cases.{label_some}
use Rattle.hoa_write.proofs.Writing.{named}
use Rattle.hoa_write.proofs.edges.label.Goals as goal

pub returns-then-k-eq0 : goal.returns-then-k-eq0
returns-then-k-eq0 c =
    named (sym (ap (λ k. label_of k c.args.l) c.if-k-eq0.true)) (c.word.ensures.roomy (omega (arith, c.requires.1, ap (λ k. length (label_of k c.args.l)) c.if-k-eq0.true)))

pub literals-requires : goal.literals-requires
literals-requires c =
    (c.requires.0, omega (arith, c.requires.1, ap length (label_some c.args.k c.args.l c.if-k-eq0.false)))

pub returns : goal.returns
returns c =
    named (label_some c.args.k c.args.l c.if-k-eq0.false) c.literals.ensures
