-- `tables::with_edge` meets its contract.
use mathlib.Core.Path.{◌≡◌}
use borrow.Author.Rules.{rules}
use lib.ListN.{length}
use Rattle.hoa_body.proofs.TableLaws.{holds_edge}
use Rattle.hoa_body.proofs.tables.with_edge.Goals as goal

pub returns : goal.returns
returns c =
    let size : length c.args.table.given ≡ 16 = search rules in
    (holds_edge c.args.table c.args.counted _ _ _ _ _ _ c.requires.0 c.requires.1 size c.fill.ensures c.fill-2.ensures, c.requires.0)
