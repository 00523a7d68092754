-- `Place::within` meets its contract.
use mathlib.Core.Path.{ap, ◌∙◌}
use borrow.Author.Tests.{lt-ltb, le-ltb}
use Rattle.console_places.specs.Places.{after}
use Rattle.console_places.proofs.Place.within.Goals as goal

pub returns-then-offset-self : goal.returns-then-offset-self
returns-then-offset-self c = rw (lt-ltb _ _ c.if-offset-self.true) c.back.ensures

pub returns : goal.returns
returns c = rw (le-ltb _ _ c.if-offset-self.false) (c.after.ensures ∙ ap (after c.args.self) c.first.ensures)
