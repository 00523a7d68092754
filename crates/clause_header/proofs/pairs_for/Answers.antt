-- `pairs_for` meets its contract.
use mathlib.Core.Path.{sym, ◌∙◌}
use native.Mathlib.Omega.{arith}
use Rattle.clause_header.proofs.Counting.{pairs_le, pairs_no, pairs_yes}
use Rattle.clause_header.proofs.pairs_for.Goals as goal

pub returns-then-has : goal.returns-then-has
returns-then-has c = (pairs_no c.requires.0 _ _ (sym c.has.ensures ∙ c.if-has.true), omega (arith, pairs_le c.requires.0))

pub returns : goal.returns
returns c = (pairs_yes c.requires.0 _ _ (sym c.has.ensures ∙ c.if-has.false), omega (arith, pairs_le c.requires.0, c.requires.1))
