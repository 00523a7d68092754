-- `sizes` meets its contract.
use native.Mathlib.Omega.{arith}
use lib.ListN.{length, length-append}
use Rattle.hoa_text.specs.Written.{states_line, start_line}
use Rattle.hoa_write.proofs.Writing.{wrote_rest, rest_room}
use Rattle.hoa_write.proofs.sizes.Goals as goal

pub number_line-at-requires : goal.number_line-at-requires
number_line-at-requires c =
    (omega (arith, c.requires.0.states_le), rest_room c.hoa_line-at.ensures (length (states_line c.args.a)) (omega (arith, c.requires.1, length-append (states_line c.args.a) (start_line c.args.a))))

pub number_line-requires : goal.number_line-requires
number_line-requires c =
    (omega (arith, c.requires.0.start_lt, c.requires.0.states_le), rest_room (wrote_rest c.hoa_line-at.ensures c.number_line-at.ensures) (length (start_line c.args.a)) (omega (arith, c.requires.1, length-append (states_line c.args.a) (start_line c.args.a))))

pub returns : goal.returns
returns c = wrote_rest (wrote_rest c.hoa_line-at.ensures c.number_line-at.ensures) c.number_line.ensures
