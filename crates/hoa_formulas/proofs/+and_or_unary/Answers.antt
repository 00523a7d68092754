-- `or`, `and` and `unary`, which call one another, meet their contracts.
use mathlib.Core.Path.{refl, sym, ◌∙◌}
use Rattle.std.proofs.lemmas.Result.{err_from_is_err_and}
use Rattle.hoa_text.specs.Formulas.{conjunction, disjunction, conjunctions, unary}
use Rattle.hoa_text.specs.FormulaProgress.{and_shrinks, or_shrinks}
use Rattle.hoa_formulas.specs.Parts.{atoms_of}
use Rattle.hoa_formulas.proofs.Choices.{other_byte, no_sign, behind_and, behind_or, nothing_read, not_in_condition, constant_read}
use Rattle.hoa_formulas.proofs.MemberSets.{members_and, members_or}
use Rattle.hoa_formulas.proofs.Laws.{joined_done, joined_again, not_read, not_refused, open_read, open_refused, atom_read}
use Rattle.hoa_formulas.proofs.+and_or_unary.Goals as goal

pub and-loop-sign-preserved : goal.and-loop-sign-preserved
and-loop-sign-preserved t c =
    let one = unary c.args.depth (atoms_of c.args.over) in
    let k = c.in-And.ensures in
    let j = c.loop-sign.invariant in
    let m = c.in_ok-next.ensures in
    joined_again "&" 38 refl conjunction one (and_shrinks c.args.depth (atoms_of c.args.over)) c.args.text.now c.args.at _ _ _ j _ (behind_and _ _ _ k) _ _ _ m
    (members_and _ _ j.formula m.formula j.members m.members)

pub and-returns : goal.and-returns
and-returns t c =
    let one = unary c.args.depth (atoms_of c.args.over) in
    joined_done "&" 38 refl conjunction one (and_shrinks c.args.depth (atoms_of c.args.over)) c.args.text.now c.args.at _ _ _ c.loop-sign.invariant (no_sign _ _ _ c.formula_token.ensures 38 (c.in_default.not-And _))

pub or-loop-sign-preserved : goal.or-loop-sign-preserved
or-loop-sign-preserved t c =
    let one = conjunctions (unary c.args.depth (atoms_of c.args.over)) in
    let k = c.in-Or.ensures in
    let j = c.loop-sign.invariant in
    let m = c.in_ok-next.ensures in
    joined_again "|" 124 refl disjunction one (or_shrinks c.args.depth (atoms_of c.args.over)) c.args.text.now c.args.at _ _ _ j _ (behind_or _ _ _ k) _ _ _ m
    (members_or _ _ j.formula m.formula j.members m.members)

pub or-returns : goal.or-returns
or-returns t c =
    let one = conjunctions (unary c.args.depth (atoms_of c.args.over)) in
    joined_done "|" 124 refl disjunction one (or_shrinks c.args.depth (atoms_of c.args.over)) c.args.text.now c.args.at _ _ _ c.loop-sign.invariant (no_sign _ _ _ c.formula_token.ensures 124 (c.in_default.not-Or _))

pub unary-returns-then-not-negates : goal.unary-returns-then-not-negates
unary-returns-then-not-negates t c = not_in_condition (atoms_of c.args.over) c.args.text.now c.args.at _ c.args.depth (sym c.negates.ensures ∙ c.if-not-negates.true) c.in-Not.ensures

pub unary-returns-in_err-read-in-Not : goal.unary-returns-in_err-read-in-Not
unary-returns-in_err-read-in-Not t c =
    let k = c.in-Not.ensures in
    let p = err_from_is_err_and c.from_residual.result c.from_residual.ensures.1 in
    rw (p.1, p.2)
    (not_refused (atoms_of c.args.over) c.args.text.now c.args.at _ c.args.depth k.skipped k.opens (sym c.negates.ensures ∙ c.if-not-negates.false) c.if-depth-eq0.false _ c.in_err-read-in-Not.ensures)

pub unary-returns-in_ok-read-in-Not : goal.unary-returns-in_ok-read-in-Not
unary-returns-in_ok-read-in-Not t c =
    let k = c.in-Not.ensures in
    not_read (atoms_of c.args.over) c.args.text.now c.args.at _ c.args.depth k.skipped k.opens (sym c.negates.ensures ∙ c.if-not-negates.false) c.if-depth-eq0.false _ c.complement.result c.in_ok-read-in-Not.ensures c.complement.ensures

pub unary-returns-in_err-read-in-Open : goal.unary-returns-in_err-read-in-Open
unary-returns-in_err-read-in-Open t c =
    let k = c.in-Open.ensures in
    let p = err_from_is_err_and c.from_residual-in_err-read-in-Open.result c.from_residual-in_err-read-in-Open.ensures.1 in
    rw (p.1, p.2)
    (open_refused (atoms_of c.args.over) c.args.text.now c.args.at _ c.args.depth k.skipped k.opens c.if-depth-eq0-2.false _ c.in_err-read-in-Open.ensures)

pub unary-returns-in_ok-read-in-Open : goal.unary-returns-in_ok-read-in-Open
unary-returns-in_ok-read-in-Open t c =
    let k = c.in-Open.ensures in
    open_read (atoms_of c.args.over) c.args.text.now c.args.at _ c.args.depth k.skipped k.opens c.if-depth-eq0-2.false _ c.closed.result c.in_ok-read-in-Open.ensures c.closed.ensures

pub unary-returns-in-Number : goal.unary-returns-in-Number
unary-returns-in-Number t c =
    let k = c.in-Number.ensures in
    atom_read (atoms_of c.args.over) c.args.text.now c.args.at _ c.args.depth k.skipped (other_byte _ _ _ k 33 (λ e. cc)) (other_byte _ _ _ k 40 (λ e. cc)) c.numbered.result c.numbered.ensures

pub unary-returns-in-Constant : goal.unary-returns-in-Constant
unary-returns-in-Constant t c = constant_read (atoms_of c.args.over) c.args.text.now c.args.at _ c.args.depth c.in-Constant.ensures c.constant.result c.constant.ensures

pub unary-returns-in-Name : goal.unary-returns-in-Name
unary-returns-in-Name t c =
    let k = c.in-Name.ensures in
    atom_read (atoms_of c.args.over) c.args.text.now c.args.at _ c.args.depth k.skipped (other_byte _ _ _ k 33 (λ e. cc)) (other_byte _ _ _ k 40 (λ e. cc)) c.named.result c.named.ensures

pub unary-returns-in_default : goal.unary-returns-in_default
unary-returns-in_default t c =
    let n = c.in_default in
    nothing_read (atoms_of c.args.over) c.args.text.now c.args.at c.args.depth _ c.formula_token.ensures (n.not-Not _) (n.not-Open _) (n.not-Constant _) (n.not-Number _) (n.not-Name _) _ c.offset.ensures
