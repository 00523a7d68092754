-- `quoted_name` meets its contract.
use mathlib.Core.Path.{ap}
use native.Mathlib.Omega.{arith}
use lib.ListN.{length}
use Rattle.decimal.specs.Writing.{roomy_then}
use Rattle.hoa_write.proofs.Values.{quoted_is}
use Rattle.hoa_write.proofs.Writing.{named}
use Rattle.hoa_write.proofs.lines.quoted_name.Goals as goal

pub overflow_add-to : goal.overflow_add-to
overflow_add-to c =
    omega (arith, c.requires.0.name_le c.args.i c.requires.1, c.requires.0.propositions_le)

pub slice_bounds-word-end : goal.slice_bounds-word-end
slice_bounds-word-end c =
    omega (arith, c.requires.0.name_le c.args.i c.requires.1, c.requires.0.propositions_le, c.requires.0.names_size)

pub returns : goal.returns
returns c =
    let e = quoted_is c.args.a c.args.i c.from.ensures in
    named e (roomy_then c.byte-next.ensures.roomy (roomy_then c.byte-next-2.ensures.roomy (roomy_then c.word-next.ensures.roomy c.byte.ensures.roomy)) (omega (arith, c.requires.2, ap length e)))
