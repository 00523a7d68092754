-- `components` meets its contract.
use mathlib.Core.Path.{refl}
use Rattle.automaton.specs.View.{view}
use Rattle.reach.proofs.Rows.{alone_reached, rows_are}
use Rattle.reach.proofs.components.Goals as goal

pub add_steps-requires : goal.add_steps-requires
add_steps-requires c = let v = c.valid.ensures.0 c.if-not-valid.false in (v, alone_reached _ v.states_le)

pub returns : goal.returns
returns c =
    record {
      there = λ v. rows_are v (c.close.ensures.reached (view c.args.a) refl c.add_steps.ensures) c.add_mutual.ensures;
      none = λ n. absurd (n (c.valid.ensures.0 c.if-not-valid.false));
    }
