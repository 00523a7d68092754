-- `difference` meets its contract.
-- the tables are those of two automata
use mathlib.Core.Path.{ap}
use mathlib.Core.Bool.{not}
use native.Mathlib.Omega.{arith}
use Rattle.meaning.specs.TestLaws.{fails_not}
use Rattle.compare_shortest.specs.Difference.{Fit}
use Rattle.compare_shortest.specs.AnswerLaws.{answered_unfit, answered_fit}
use Rattle.compare_shortest.proofs.difference.Goals as goal

pub returns-then-letters-gt-LETTERS : goal.returns-then-letters-gt-LETTERS
returns-then-letters-gt-LETTERS c = answered_unfit (λ f. omega (arith, f.letters, c.if-letters-gt-LETTERS.true))

pub returns-then-not-in_range : goal.returns-then-not-in_range
returns-then-not-in_range c = answered_unfit (λ f. fails_not c.in_range.ensures (ap not c.if-not-in_range.true) f.first)

pub returns-then-not-in_range-2 : goal.returns-then-not-in_range-2
returns-then-not-in_range-2 c = answered_unfit (λ f. fails_not c.in_range-2.ensures (ap not c.if-not-in_range-2.true) f.second)

pub returns : goal.returns
returns c =
    let fit : Fit c.args.next_a.now c.args.marks_a.now c.args.next_b.now c.args.marks_b.now c.args.letters c.args.start_a c.args.start_b = record {
      first = c.in_range.ensures.0 c.if-not-in_range.false;
      second = c.in_range-2.ensures.0 c.if-not-in_range-2.false;
      letters = c.if-letters-gt-LETTERS.false;
    } in
    answered_fit fit c.first_word.ensures
