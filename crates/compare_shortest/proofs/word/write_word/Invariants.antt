-- `word::write_word` meets its contract.
use mathlib.Core.Path.{◌≡◌}
use mathlib.Core.List.{◌++◌}
use lib.ListN.{length, drop}
use Rattle.compare_shortest.specs.SearchWords.{back}
use Rattle.compare_shortest.specs.ReadBack.{Reading}
use Rattle.compare_shortest.specs.Packing.{view}
use Rattle.compare_shortest.proofs.word.write_word.Given as goal

abbrev pub invariant-loop-left : goal.invariant-loop-left
invariant-loop-left l =
    Reading (view l.places).edge (length l.places) (back (view l.places).edge l.depth l.place ++ drop l.depth l.initial.out) l.out l.left l.k × (length l.out ≡ length l.initial.out)
