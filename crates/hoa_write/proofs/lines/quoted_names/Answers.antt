-- `quoted_names` meets its contract: what is written is the first i names.
use native.Mathlib.Omega.{arith}
use Rattle.decimal.specs.Writing.{wrote_none}
use Rattle.hoa_text.specs.Written.{quoted_name}
use Rattle.hoa_write.proofs.Writing.{each_more, each_room, each_whole}
use Rattle.hoa_write.proofs.lines.quoted_names.Goals as goal

pub loop-i-init : goal.loop-i-init
loop-i-init c = wrote_none _ _ (omega arith)

pub quoted_name-next-requires : goal.quoted_name-next-requires
quoted_name-next-requires c =
    (c.requires.0, c.loop-i-test.true, each_room (quoted_name c.args.a) c.loop-i.i c.args.a.propositions c.loop-i.invariant c.loop-i-test.true c.requires.1)

pub loop-i-preserved : goal.loop-i-preserved
loop-i-preserved c =
    each_more (quoted_name c.args.a) c.loop-i.i c.loop-i.invariant c.quoted_name-next.ensures

pub returns : goal.returns
returns c = each_whole (quoted_name c.args.a) c.loop-i.i c.args.a.propositions (omega arith) c.loop-i.invariant
