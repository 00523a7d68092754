-- `kept_sets` meets its contract.
use mathlib.Core.Path.{◌≡◌, sym, ◌∙◌, subst}
use Rattle.clause_sizes.specs.Sizes.{kept_sets}
use Rattle.clause_sizes.proofs.KeptSets.{first_sets}
use Rattle.clause_sizes.proofs.kept_sets.Goals as goal

pub returns-in-First : goal.returns-in-First
returns-in-First c = subst (λ w. c.everywhere.result ≡ kept_sets c.args.reference w) (sym c.in-First.is) (c.everywhere.ensures ∙ first_sets c.requires)

pub returns-in-Second : goal.returns-in-Second
returns-in-Second c = subst (λ w. c.components.result ≡ kept_sets c.args.reference w) (sym c.in-Second.is) (c.components.ensures.there c.requires)
