-- `terms::numbered` meets its contract.
use Rattle.hoa_formulas.proofs.AtomLaws.{digit_proposition, digit_in_condition}
use Rattle.hoa_formulas.proofs.terms.numbered.Goals as goal

pub returns-in-Propositions : goal.returns-in-Propositions
returns-in-Propositions c =
    digit_proposition c.args.text.now c.args.at c.requires _ _ c.in-Propositions.is c.proposition.result c.proposition.ensures

pub returns-in-Sets : goal.returns-in-Sets
returns-in-Sets c =
    digit_in_condition c.args.text.now c.args.at c.requires _ _ c.in-Sets.is _ c.offset.ensures
