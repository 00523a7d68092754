-- The text that is left falls; at the same offset `or` stands above `and`, and `and` above `unary`.
use Rattle.std.proofs.Common.{◌+◌, ◌-◌, ◌*◌, length}
use Rattle.hoa_text.specs.Formulas.{conjunction, disjunction, conjunctions, disjunctions, unary}
use Rattle.hoa_text.specs.Tokens.{left}
use Rattle.hoa_formulas.specs.Parts.{atoms_of}
use Rattle.hoa_formulas.proofs.Laws.{Joined}
use Rattle.hoa_formulas.proofs.+and_or_unary.Given as goal

abbrev pub decreases-and : goal.decreases-and
decreases-and l = (length l.text.now - l.at) * 3 + 1

abbrev pub decreases-or : goal.decreases-or
decreases-or l = (length l.text.now - l.at) * 3 + 2

abbrev pub decreases-unary : goal.decreases-unary
decreases-unary l = (length l.text.now - l.at) * 3

abbrev pub invariant-and-loop-sign : goal.invariant-and-loop-sign
invariant-and-loop-sign l =
    let one = unary l.depth (atoms_of l.over) in
    Joined "&" conjunction one l.text l.at (conjunctions one (left l.text l.at)) l.read.members l.read.end

abbrev pub decreases-and-loop-sign : goal.decreases-and-loop-sign
decreases-and-loop-sign l = length l.text - l.read.end

abbrev pub invariant-or-loop-sign : goal.invariant-or-loop-sign
invariant-or-loop-sign l =
    let one = unary l.depth (atoms_of l.over) in
    Joined "|" disjunction (conjunctions one) l.text l.at (disjunctions one (left l.text l.at)) l.read.members l.read.end

abbrev pub decreases-or-loop-sign : goal.decreases-or-loop-sign
decreases-or-loop-sign l = length l.text - l.read.end
