-- `propositions` meets its contract.
use Rattle.hoa_names.proofs.Text.{count_ends, count_over, count_read}
use Rattle.hoa_names.proofs.propositions.Goals as goal

pub returns-then-count-gt-PROPOSITIONS : goal.returns-then-count-gt-PROPOSITIONS
returns-then-count-gt-PROPOSITIONS c =
    count_over c.args.text.now c.args.at _ _ _ c.in-Number.ensures c.if-count-gt-PROPOSITIONS.true

pub names_from-requires : goal.names_from-requires
names_from-requires c =
    let h = c.in-Number.ensures in
    (h.lies.to, c.if-count-gt-PROPOSITIONS.false, count_ends _ _ _ _ _ h)

pub returns-else-count-gt-PROPOSITIONS : goal.returns-else-count-gt-PROPOSITIONS
returns-else-count-gt-PROPOSITIONS c =
    count_read c.args.text.now c.args.at _ _ _ c.in-Number.ensures c.if-count-gt-PROPOSITIONS.false c.names_from.result c.names_from.ensures
