-- `keep_middle` meets its contract.
use Prim.Native.Nat.{◌-◌, ◌≤◌}
use native.Mathlib.Omega.{arith}
use lib.ListN.{length, take, drop, length-drop}
use lib.Seq.{length-take-le}
use Rattle.clause_text.proofs.Literals.{middle_read, literals_kept}
use borrow.Author.Rules.{rules}
use Rattle.clause_text.proofs.keeping.keep_middle.Goals as goal

pub returns : goal.returns
returns c =
    let e = c.premise-count.new.out in
    let (some, room, read) = middle_read c.args.z c.args.x (c.premise-count.ensures.there c.requires.fitting.0 c.requires.fitting.1 c.requires.fitting.2 (search rules)) in
    let size : length (take (c.premise-count.result - 1) (drop 1 e)) ≤ 7 = omega (arith, length-take-le (c.premise-count.result - 1) (drop 1 e) (omega (arith, length-drop 1 e)), room, c.premise-count.auto.out) in
    let (l, most, w) = literals_kept (take (c.premise-count.result - 1) (drop 1 e)) _ read c.write_literals-end.ensures (omega (arith, size, c.requires.at_bound, c.told-kept)) in
    (w, omega (arith, most, size))
