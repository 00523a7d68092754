-- `edge_lines` meets its contract: what is written is the lines of the first l letters.
use Rattle.meaning.specs.Counting.{each}
use Rattle.decimal.specs.Wrote.{Wrote}
use Rattle.hoa_text.specs.Written.{edge_line}
use Rattle.hoa_write.proofs.edges.edge_lines.Given as goal

abbrev pub invariant-loop-l : goal.invariant-loop-l
invariant-loop-l l = Wrote l.initial.out 0 (each l.l (edge_line l.a l.q)) l.out l.at
