-- `closure::add_steps` meets its contract.
use Rattle.automaton.specs.View.{view}
use Rattle.reach.specs.Closing.{Reached}
use Rattle.reach.proofs.closure.add_steps.Given as goal

abbrev pub invariant-loop-i : goal.invariant-loop-i
invariant-loop-i l = Reached (view l.fn.a) l.i 0 l.rows
