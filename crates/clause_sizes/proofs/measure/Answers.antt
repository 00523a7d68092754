-- `measure` meets its contract.
use mathlib.Core.Path.{sym, ◌∙◌}
use Rattle.automaton.specs.Value.{Valid}
use Rattle.acceptance.specs.Laws.{own_means}
use Rattle.clause_sizes.specs.Sizes.{outside, dimensions, past_sets}
use Rattle.clause_sizes.specs.Targets.{Dimensioned, Proper}
use Rattle.clause_sizes.specs.Conjunctions.{false_not}
use Rattle.clause_sizes.proofs.Laws.{fits_so}
use Rattle.clause_sizes.proofs.measure.Goals as goal

pub returns-then-not-valid : goal.returns-then-not-valid
returns-then-not-valid c = outside (λ v. false_not _ c.if-not-valid.true (c.valid.ensures.1 v))

pub returns : goal.returns
returns c =
    let valid : Valid c.args.reference = c.valid.ensures.0 c.if-not-valid.false in
    let dimensioned : Dimensioned c.args.target = c.dimensioned.ensures.0 c.if-not-dimensioned.false in
    let proper : Proper c.args.target = record { dimensioned = dimensioned; sets_owned = (own_means dimensioned.m_le _).0 (sym c.own_sets.ensures ∙ c.if-not-own_sets.false) } in
    fits_so valid proper c.kept_sets.ensures c.rows_with-paths.ensures c.measured-sizes.ensures c.last_variable.ensures

pub returns-then-not-own_sets : goal.returns-then-not-own_sets
returns-then-not-own_sets c =
    let valid : Valid c.args.reference = c.valid.ensures.0 c.if-not-valid.false in
    let dimensioned : Dimensioned c.args.target = c.dimensioned.ensures.0 c.if-not-dimensioned.false in
    past_sets valid dimensioned (λ o. false_not _ (sym c.own_sets.ensures ∙ c.if-not-own_sets.true) ((own_means dimensioned.m_le _).1 o))

pub returns-then-not-dimensioned : goal.returns-then-not-dimensioned
returns-then-not-dimensioned c =
    let valid : Valid c.args.reference = c.valid.ensures.0 c.if-not-valid.false in
    dimensions valid (λ d. false_not _ c.if-not-dimensioned.true (c.dimensioned.ensures.1 d))
