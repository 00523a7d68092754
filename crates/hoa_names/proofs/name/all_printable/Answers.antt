-- `name::all_printable` meets its contract.
use Rattle.std.proofs.Common.{◌∙◌, rules}
use borrow.Author.Tests.{tests}
use Rattle.std.proofs.lemmas.Iterator.{YieldsList-from_slice}
use Rattle.std.proofs.lemmas.Iterator.Search.{all_from_yields_List}
use Rattle.automaton.specs.Value.{printable}
use Rattle.hoa_names.proofs.Judged.{all_bytes_are}
use Rattle.hoa_names.proofs.name.all_printable.Goals as goal

pub returns : goal.returns
returns c =
    all_from_yields_List printable _ _ _ c.all.ensures.ran (YieldsList-from_slice c.args.word.now cc) (λ x b q k. search (rules, tests)) ∙ all_bytes_are printable c.args.word.now
