-- `Place::after` meets its contract.
use mathlib.Core.Path.{refl, sym, ap, ◌∙◌}
use Prim.Native.Nat.{◌+◌}
use native.Mathlib.Omega.{arith}
use lib.ListN.{drop}
use Rattle.console_places.specs.Places.{after}
use Rattle.console_places.proofs.Placing.{one_more, all_read}
use Rattle.console_places.proofs.Place.after.Goals as goal

pub loop-b-init : goal.loop-b-init
loop-b-init c = refl

pub loop-b-preserved : goal.loop-b-preserved
loop-b-preserved c = c.loop-b.invariant ∙ one_more c.args.text.now c.loop-b.place c.loop-b.b-index c.loop-b-test.true ∙ ap (λ p. after p (drop (c.loop-b.b-index + 1) c.args.text.now)) (sym c.next-place.ensures)

pub returns : goal.returns
returns c = sym (c.loop-b.invariant ∙ all_read c.args.text.now c.loop-b.place c.loop-b.b-index c.loop-b-test.false)
