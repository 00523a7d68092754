-- `own` meets its contract.
use mathlib.Core.Path.{ap, ◌∙◌}
use Prim.Native.Nat.{◌^◌, min}
use lib.Bits.{bit_and}
use Rattle.hoa_acceptance.proofs.AcceptanceLaws.{own_members}
use Rattle.hoa_acceptance.proofs.own.Goals as goal

pub returns : goal.returns
returns c =
    ap (bit_and c.args.members) c.all_true.ensures ∙ own_members (2 ^ min c.args.sets 4) c.args.members
