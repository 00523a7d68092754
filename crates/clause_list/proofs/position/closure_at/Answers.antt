-- `closure_at` meets its contract.
use mathlib.Core.Path.{◌≡◌, sym, ap, ◌∙◌, subst}
use mathlib.Core.Bool.{◌&&◌}
use Rattle.meaning.specs.TestLaws.{and_left}
use Rattle.clause_sizes.specs.Numbers.{kept_among, InFile}
use Rattle.clause_indices.specs.Indices.{Within, path_at}
use Rattle.clause_list.specs.Digits.{closure_within}
use Rattle.clause_list.specs.Rows.{kept_path}
use Rattle.clause_list.proofs.Places.{kept_is, indices_lt, entry_is, closure_none, closure_written}
use Rattle.clause_list.proofs.position.closure_at.Goals as goal

pub returns-then-not-kept-disagree : goal.returns-then-not-kept-disagree
returns-then-not-kept-disagree c =
    let within : Within c.args.z c.closure_indices-indices.result = subst (Within c.args.z) (sym c.closure_indices-indices.ensures) (closure_within c.args.z _ _ c.requires.tables c.args.x c.requires.x_bound.0) in
    let row_is : c.kept.result ≡ kept_among c.args.z c.closure_indices-indices.result.u.0 c.closure_indices-indices.result.v.0 = kept_is c.requires.tables.fits within.u_lt c.kept.ensures in
    closure_none c.args.z c.args.destinations.now c.args.marks.now _ c.closure_indices-indices.ensures
    (entry_is (indices_lt c.requires.tables.fits within) c.entry-f.ensures) row_is
    (sym (ap (λ t. c.kept.result && t) c.disagree.ensures) ∙ c.if-not-kept-disagree.true)

pub returns : goal.returns
returns c =
    let within : Within c.args.z c.closure_indices-indices.result = subst (Within c.args.z) (sym c.closure_indices-indices.ensures) (closure_within c.args.z _ _ c.requires.tables c.args.x c.requires.x_bound.0) in
    let row_is : c.kept.result ≡ kept_among c.args.z c.closure_indices-indices.result.u.0 c.closure_indices-indices.result.v.0 = kept_is c.requires.tables.fits within.u_lt c.kept.ensures in
    let in-file : InFile c.args.z (path_at c.closure_indices-indices.result) = let w = within in
    kept_path c.requires.tables w.q_lt w.u_lt w.p_lt w.v_lt w.i_lt w.j_lt (sym row_is ∙ and_left c.kept.result _ c.if-not-kept-disagree.false) in
    closure_written c.args.z c.args.destinations.now c.args.marks.now _ c.closure_indices-indices.ensures
    (entry_is (indices_lt c.requires.tables.fits within) c.entry-f.ensures) row_is
    (sym (ap (λ t. c.kept.result && t) c.disagree.ensures) ∙ c.if-not-kept-disagree.false)
    (c.premise.ensures.there c.requires.tables.fits within in-file c.requires.x_bound.1)
