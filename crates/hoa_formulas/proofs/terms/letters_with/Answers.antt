-- `terms::letters_with` meets its contract.
use mathlib.Core.Path.{sym, subst}
use native.Mathlib.Omega.{arith}
use Rattle.hoa_text.specs.Formulas.{proposition}
use Rattle.hoa_formulas.specs.Answers.{Satisfy}
use Rattle.hoa_formulas.proofs.MemberSets.{letters_with_lem, letters_past}
use Rattle.hoa_formulas.proofs.terms.letters_with.Goals as goal

pub returns-in-0 : goal.returns-in-0
returns-in-0 c = subst (λ i. Satisfy 43690 (proposition i)) (sym c.in-0.is) (letters_with_lem 0)

pub returns-in-1 : goal.returns-in-1
returns-in-1 c = subst (λ i. Satisfy 52428 (proposition i)) (sym c.in-1.is) (letters_with_lem 1)

pub returns-in-2 : goal.returns-in-2
returns-in-2 c = subst (λ i. Satisfy 61680 (proposition i)) (sym c.in-2.is) (letters_with_lem 2)

pub returns-in-3 : goal.returns-in-3
returns-in-3 c = subst (λ i. Satisfy 65280 (proposition i)) (sym c.in-3.is) (letters_with_lem 3)

pub returns-in_default : goal.returns-in_default
returns-in_default c = letters_past _ (omega arith)
