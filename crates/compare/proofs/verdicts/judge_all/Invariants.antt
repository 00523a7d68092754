-- `verdicts::judge_all` meets its contract.
use Prim.Native.Nat.{◌/◌, ◌%◌}
use Rattle.meaning.specs.BitSet.{has}
use Rattle.compare.specs.Verdicts.{unlike}
use Rattle.meaning.specs.CountingLaws.{Filled}
use Rattle.compare.proofs.verdicts.judge_all.Given as goal

abbrev pub invariant-loop-m : goal.invariant-loop-m
invariant-loop-m l = Filled (λ k. unlike (has l.first (k / 16)) (has l.second (k % 16))) 256 l.hits l.m
