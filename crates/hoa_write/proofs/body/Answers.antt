-- `body` meets its contract.
use native.Mathlib.Omega.{arith}
use lib.ListN.{length, length-append}
use Rattle.meaning.specs.Counting.{each}
use Rattle.hoa_text.specs.Written.{state_lines, end_line}
use Rattle.hoa_write.proofs.Writing.{wrote_rest, rest_room}
use Rattle.hoa_write.proofs.body.Goals as goal

pub states-at-requires : goal.states-at-requires
states-at-requires c =
    (c.requires.0, rest_room c.word_line-at.ensures (length (each c.args.a.states (state_lines c.args.a))) (omega (arith, c.requires.1, length-append (each c.args.a.states (state_lines c.args.a)) end_line)))

pub word_line-requires : goal.word_line-requires
word_line-requires c =
    rest_room (wrote_rest c.word_line-at.ensures c.states-at.ensures) (length end_line) (omega (arith, c.requires.1, length-append (each c.args.a.states (state_lines c.args.a)) end_line))

pub returns : goal.returns
returns c = wrote_rest (wrote_rest c.word_line-at.ensures c.states-at.ensures) c.word_line.ensures
