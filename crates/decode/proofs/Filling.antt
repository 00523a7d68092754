-- The entries of the table, one after another.
use mathlib.Core.Path.{◌∙◌}
use mathlib.Core.List.{List}
use Prim.Native.Nat.{ℕ, ◌+◌, ◌<◌}
use native.Mathlib.Omega.{arith}
use borrow.Author.Count.{below_more}
use lib.ListN.{set, length-set}
use Rattle.meaning.specs.Automata.{Aut}
use Rattle.meaning.specs.CountingLaws.{filled_next}
use Rattle.decode.specs.declared.cells.Cell.{Cell}
use Rattle.decode.specs.Cells.{InUse, Leads, destination_at, marks_at, CellOf, Filled}

module _ (C : Aut) where
  pub filled_more : {d s : List ℕ} {k : ℕ} (x : Cell) → Filled C d s k → k < 256 → CellOf C k x → Filled C (set d k x.destination) (set s k x.marks) (k + 1)
  filled_more {d} {s} {k} x F h c = record {
    reached = omega arith;
    destinations_size = length-set d k x.destination ∙ F.destinations_size;
    marks_size = length-set s k x.marks ∙ F.marks_size;
    leads = below_more (λ i. InUse C i → Leads C i) k F.leads c.leads;
    destinations_at = filled_next d (destination_at C) k x.destination (omega (arith, F.destinations_size)) F.destinations_at c.destination_is;
    marks_at_lem = filled_next s (marks_at C) k x.marks (omega (arith, F.marks_size)) F.marks_at_lem c.marks_is;
  }
