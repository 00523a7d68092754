-- `terms::named` meets its contract.
use Rattle.hoa_formulas.proofs.AtomLaws.{name_in_label, name_set}
use Rattle.hoa_formulas.proofs.terms.named.Goals as goal

pub returns-in-Propositions : goal.returns-in-Propositions
returns-in-Propositions c =
    name_in_label c.args.text.now c.args.at c.requires _ _ c.in-Propositions.is _ c.offset.ensures

pub returns-in-Sets : goal.returns-in-Sets
returns-in-Sets c =
    name_set c.args.text.now c.args.at c.requires _ _ c.in-Sets.is c.set.result c.set.ensures
