-- `names_and_acceptance` meets its contract.
use native.Mathlib.Omega.{arith}
use lib.ListN.{length, length-append}
use Rattle.hoa_text.specs.Written.{names_part, acceptance_line}
use Rattle.hoa_write.proofs.Writing.{wrote_rest, rest_room}
use Rattle.hoa_write.proofs.names_and_acceptance.Goals as goal

pub names_part-at-requires : goal.names_part-at-requires
names_part-at-requires c =
    (c.requires.0, omega (arith, c.requires.1, length-append (names_part c.args.a) (acceptance_line c.args.a)))

pub acceptance_line-requires : goal.acceptance_line-requires
acceptance_line-requires c =
    (c.requires.0, rest_room c.names_part-at.ensures (length (acceptance_line c.args.a)) (omega (arith, c.requires.1, length-append (names_part c.args.a) (acceptance_line c.args.a))))

pub returns : goal.returns
returns c = wrote_rest c.names_part-at.ensures c.acceptance_line.ensures
