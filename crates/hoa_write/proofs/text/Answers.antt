-- `text` meets its contract.
use native.Mathlib.Omega.{arith}
use lib.ListN.{length, length-append}
use Rattle.hoa_write.proofs.Answers.{sizes_text, names_text, body_text, text_is, text_length}
use Rattle.hoa_write.proofs.Writing.{wrote_rest, rest_room, named}
use Rattle.hoa_write.proofs.text.Goals as goal

pub sizes-at-requires : goal.sizes-at-requires
sizes-at-requires c =
    (c.requires.0, omega (arith, c.requires.1, text_length c.args.a))

pub names_and_acceptance-at-requires : goal.names_and_acceptance-at-requires
names_and_acceptance-at-requires c =
    (c.requires.0, rest_room c.sizes-at.ensures (length (names_text c.args.a)) (omega (arith, c.requires.1, text_length c.args.a)))

pub body-requires : goal.body-requires
body-requires c =
    (c.requires.0, rest_room (wrote_rest c.sizes-at.ensures c.names_and_acceptance-at.ensures) (length (body_text c.args.a)) (omega (arith, c.requires.1, text_length c.args.a, length-append (sizes_text c.args.a) (names_text c.args.a))))

pub returns : goal.returns
returns c = named (text_is c.args.a) (wrote_rest (wrote_rest c.sizes-at.ensures c.names_and_acceptance-at.ensures) c.body.ensures)
