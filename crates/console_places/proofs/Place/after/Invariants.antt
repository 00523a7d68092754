-- `Place::after` meets its contract.
use mathlib.Core.Path.{◌≡◌}
use Prim.Native.Nat.{◌-◌, ◌≤◌}
use lib.ListN.{length, drop}
use Rattle.console_places.specs.Places.{after}
use Rattle.console_places.proofs.Place.after.Given as goal

abbrev pub invariant-loop-b : goal.invariant-loop-b
invariant-loop-b l = (after l.initial.place l.text ≡ after l.place (drop l.b-index l.text))
