-- `sentence` meets its contract.
use Rattle.console_sentences.proofs.Room.{room, said}
use Rattle.console_sentences.proofs.sentence.Goals as goal

pub fill-requires : goal.fill-requires
fill-requires c = room c.args.x c.args.place c.pattern.ensures c.told-out

pub returns : goal.returns
returns c = said c.args.x c.args.place c.pattern.ensures c.code.ensures c.fill.ensures
