-- `byte_if` meets its contract.
use Rattle.hoa_write.proofs.Cases.{byte_there, byte_none}
use Rattle.hoa_write.proofs.parts.byte_if.Goals as goal

pub returns-then-test : goal.returns-then-test
returns-then-test c =
    byte_there c.args.b c.args.at c.if-test.true c.byte.ensures c.requires

pub returns : goal.returns
returns c = byte_none c.args.b c.args.at c.if-test.false c.requires
