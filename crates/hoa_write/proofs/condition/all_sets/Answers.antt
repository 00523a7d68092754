-- `all_sets` meets its contract.
use mathlib.Core.Path.{ap, sym}
use native.Mathlib.Omega.{arith}
use lib.ListN.{length}
use Rattle.hoa_text.specs.Written.{condition_of}
use Rattle.hoa_write.proofs.Cases.{all_is}
use Rattle.hoa_write.proofs.Writing.{named}
use Rattle.hoa_write.proofs.condition.all_sets.Goals as goal

pub returns-then-sets-eq0 : goal.returns-then-sets-eq0
returns-then-sets-eq0 c =
    named (sym (ap condition_of c.if-sets-eq0.true)) (c.word.ensures.roomy (omega (arith, c.requires.1, ap (λ m. length (condition_of m)) c.if-sets-eq0.true)))

pub product-requires : goal.product-requires
product-requires c =
    (c.requires.0, omega (arith, c.requires.1, ap length (all_is c.requires.0 c.power_of_two-all.ensures.is c.if-sets-eq0.false)))

pub returns : goal.returns
returns c = named (all_is c.requires.0 c.power_of_two-all.ensures.is c.if-sets-eq0.false) c.product.ensures
