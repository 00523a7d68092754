-- `choice::choose` meets its contract.
use Rattle.std.proofs.Common.{◌≡◌, arith, subst}
use Rattle.compare_shortest.specs.Chosen.{Best, best_kept, best_taken}
use Rattle.compare_shortest.proofs.choice.choose.Goals as goal
use Rattle.compare_shortest.proofs.choice.choose.Goals.{in-Some, in_default}

pub loop-i-preserved : goal.loop-i-preserved
loop-i-preserved c = (
  elim c.match-least.branch [
    | in-Some w ↦ rw w.best-is (best_taken c.args.outer.now c.args.bound (omega arith) c.node.ensures c.depth-depth.ensures c.loop-i.best c.loop-i.invariant.0 c.room-most.ensures w.in-Some.ensures.some.0 w.in-Some.ensures.loop_length)
    | in_default w ↦ rw w.best-is (best_kept c.args.outer.now c.args.bound (omega arith) c.node.ensures c.depth-depth.ensures c.loop-i.best c.loop-i.invariant.0 c.room-most.ensures w.in_default.ensures.loop_length)
  ],
  c.loop_length-least.ensures.ready,
)

pub returns : goal.returns
returns c =
    let e : c.loop-i.i ≡ c.args.count = omega arith in
    record {
      best = subst (λ i. Best c.args.table.now c.args.hits.now c.args.outer.now c.args.letters c.args.bound c.args.count i c.loop-i.best) e c.loop-i.invariant.0;
      ready = c.loop-i.invariant.1;
    }
