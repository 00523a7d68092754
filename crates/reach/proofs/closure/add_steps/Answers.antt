-- `closure::add_steps` meets its contract.
use mathlib.Core.Path.{sym, ap, ◌∙◌}
use Prim.Native.Nat.{◌/◌, ◌%◌}
use native.Mathlib.Omega.{arith}
use lib.Dec.{ltb}
use lib.ListN.{get_or}
use Rattle.bits.specs.Powers.{power_is}
use Rattle.bits.specs.Sets.{single}
use Rattle.automaton.specs.Rows.{place}
use Rattle.automaton.specs.Letters.{letters_le}
use Rattle.automaton.specs.ViewLaws.{view_formed}
use Rattle.reach.proofs.Stores.{grown}
use Rattle.reach.proofs.Closures.{steps_more}
use Rattle.reach.proofs.closure.add_steps.Goals as goal

pub loop-i-init : goal.loop-i-init
loop-i-init c = c.requires.1

pub loop-i-preserved : goal.loop-i-preserved
loop-i-preserved c =
    steps_more c.requires.0.states_le (letters_le c.requires.0) (view_formed c.requires.0) c.loop-i.invariant
    (grown c.loop-i.rows (c.loop-i.i / 16) _ _ _ c.loop-i.invariant.size (omega arith) (omega arith) c.joined.ensures)
    (ap (ltb (c.loop-i.i % 16)) (power_is c.requires.0.propositions_le c.power_of_two-letters.ensures.is))
    (c.single-to.ensures ∙ ap (λ j. single (get_or c.args.a.destinations j 0)) (sym (place c.loop-i.i)))
