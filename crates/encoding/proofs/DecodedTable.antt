-- An assignment that says what a table does decodes to that table.
use Rattle.std.specs.Prelude.{◌≡◌, refl, Bool, ℕ, ◌<◌}
use Rattle.std.proofs.Math.Path.{sym}
use Rattle.std.proofs.Common.{◌∙◌, eq-eqb, eqb-true}
use Rattle.std.proofs.Math.Dec.{eqb}
use Rattle.meaning.specs.Automata.{WellFormed}
use Rattle.encoding.specs.Variables.{Task, Var, step, mark, Present}
use Rattle.encoding.specs.Clauses.{Assignment, destination, decoded, SameTable}
use Rattle.encoding.specs.Lowest.{lowest_true, lowest_same}
use Rattle.encoding.specs.Decoding.{table, valuation}

module _ (T : Task) {δ : ℕ → ℕ → ℕ} {μ : ℕ → ℕ → ℕ → Bool} (F : WellFormed (table T δ μ)) (num : Var → ℕ) (ν : Assignment) (π : (q u p v I J : ℕ) → Bool)
    (same : (x : Var) → Present T x → ν (num x) ≡ valuation δ μ π x) where
  decoded_step : (q l : ℕ) → q < T.n → l < T.reference.letters → destination T num ν q l ≡ δ q l
  unfolding destination
  decoded_step q l hq hl =
      lowest_same T.n _ _ (λ p hp. same (step q l p) (hq, hl, hp))
      ∙ sym (eqb-true _ _ (lowest_true T.n (λ p. eqb (δ q l) p) (δ q l) (F.step_lt q l hq hl) (eq-eqb (δ q l) _ refl)).1)

  pub decoded_same : SameTable (decoded T num ν) (table T δ μ)
  decoded_same = record {
    states = refl;
    letters = refl;
    sets = refl;
    start = refl;
    step = decoded_step;
    marks = λ q l i hq hl hi. same (mark q l i (destination T num ν q l)) (hq, hl, hi, rw (decoded_step q l hq hl) (F.step_lt q l hq hl));
    accept = λ S. refl;
  }
