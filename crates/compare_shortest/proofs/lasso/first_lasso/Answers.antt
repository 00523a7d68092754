-- `lasso::first_lasso` meets its contract.
use Rattle.std.proofs.Common.{refl, length, arith}
use Rattle.compare_shortest.proofs.FirstLasso.{answer_none, answer_found, loop_found, prefix_chain, prefix_fits, written_some, is_there}
use Rattle.compare_shortest.proofs.lasso.first_lasso.Goals as goal

pub returns-in_default : goal.returns-in_default
returns-in_default c = answer_none c.search-reached.ensures.searched c.args.table.now (length c.args.cycle.now) c.args.prefix.now c.args.cycle.now c.in_default.ensures.best

pub unwrap-l-requires : goal.unwrap-l-requires
unwrap-l-requires c =
    let (g, C) = c.in-Some.ensures.best in
    is_there _ (loop_found c.search-reached.ensures.searched c.args.table.now (length c.args.cycle.now) g C c.node.ensures refl c.write_loop-written.ensures.written)

pub write_word-requires : goal.write_word-requires
write_word-requires c =
    let (g, C) = c.in-Some.ensures.best in
    let W = c.write_loop-written.ensures.written in (
      prefix_chain c.search-reached.ensures.searched c.args.table.now (length c.args.cycle.now) g C c.node.ensures refl W c.depth-p.result c.depth-p.ensures,
      omega (arith, prefix_fits c.search-reached.ensures.searched c.args.table.now (length c.args.cycle.now) g C c.node.ensures refl W, c.depth-p.ensures),
    )

pub returns : goal.returns
returns c =
    let (g, C) = c.in-Some.ensures.best in
    answer_found c.search-reached.ensures.searched c.args.table.now (length c.args.cycle.now) g C c.node.ensures refl (written_some c.unwrap-l.ensures c.write_loop-written.ensures.written)
    c.depth-p.ensures c.write_word.ensures
