-- Places byte by byte.
use mathlib.Core.Path.{◌≡◌, ap}
use mathlib.Core.List.{List, ◌∷◌}
use Prim.Native.Nat.{ℕ, ◌+◌, ◌≤◌, ◌<◌}
use native.Mathlib.Numerals.{add-one}
use lib.ListN.{length, get_or, drop, drop_of_length-le}
use lib.Seq.{drop-cons}
use Rattle.console_places.specs.declared.Place.{Place}
use Rattle.console_places.specs.Places.{next, after}

module _ (s : List ℕ) (p : Place) (i : ℕ) where
  pub one_more : i < length s → after p (drop i s) ≡ after (next p (get_or s i 0)) (drop (i + 1) s)
  one_more h =
      let more : drop i s ≡ get_or s i 0 ∷ drop (i + 1) s = rw (add-one, drop-cons s i 0 h) in
      ap (after p) more

  pub all_read : length s ≤ i → after p (drop i s) ≡ p
  all_read h = ap (after p) (drop_of_length-le s {i = i} h)
