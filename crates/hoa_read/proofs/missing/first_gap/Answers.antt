-- `missing::first_gap` meets its contract.
use native.Mathlib.Omega.{arith}
use borrow.Author.Count.{below_more}
use Rattle.hoa_read.proofs.EndLaws.{row_full, gap_at, gap_nowhere}
use Rattle.hoa_read.proofs.missing.first_gap.Goals as goal

pub returns-then-letter-letters : goal.returns-then-letter-letters
returns-then-letter-letters c = gap_at c.args.given.now _ _ c.requires.1 _ _ c.loop-state-test.true c.loop-state.invariant c.lowest-letter.ensures c.if-letter-letters.true

pub loop-state-preserved : goal.loop-state-preserved
loop-state-preserved c = below_more _ _ c.loop-state.invariant (row_full _ _ _ c.requires.1 c.lowest-letter.ensures c.if-letter-letters.false)

pub returns : goal.returns
returns c = gap_nowhere c.args.given.now _ _ c.requires.1 _ (omega arith) c.loop-state.invariant
