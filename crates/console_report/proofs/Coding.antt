-- The line of a refusal is that of its code.
use mathlib.Core.Path.{◌≡◌, subst}
use mathlib.Core.List.{List, [], ◌∷◌, ◌++◌}
use Prim.Native.Nat.{ℕ}
use Rattle.refusals.specs.declared.Refusal.{Refusal}
use Rattle.refusals.specs.declared.Code.{Code}
use Rattle.refusals.specs.Refused.{code_of}
use Rattle.decimal.specs.Wrote.{Wrote}
use Rattle.automaton.specs.Bytes.{bytes}
use Rattle.console_report.specs.Lines.{row, refused_line}

pub coded : (x : Refusal) {k : Code} {d e : List ℕ} {r : ℕ} → k ≡ code_of x → Wrote d 0 (bytes "refused" ++ row (k.number ∷ k.first ∷ k.second ∷ [])) e r
    → Wrote d 0 (refused_line x) e r
coded x {k} {d} {e} {r} q w = subst (λ j. Wrote d 0 (bytes "refused" ++ row (j.number ∷ j.first ∷ j.second ∷ [])) e r) q w
