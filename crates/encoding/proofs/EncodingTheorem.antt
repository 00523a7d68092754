-- THE ENCODING THEOREM, for every well-posed task and every numbering.
use Rattle.std.specs.Prelude.{◌≡◌, Bool, ℕ}
use Rattle.std.proofs.Common.{sym, subst}
use Rattle.meaning.specs.Automata.{Aut, WellFormed}
use Rattle.meaning.specs.Agreement.{Agree}
use Rattle.encoding.specs.Variables.{Task, Var, Present}
use Rattle.encoding.specs.Clauses.{Assignment, Satisfies, file, decoded, Equivalent, SameTable}
use Rattle.encoding.specs.WellPosed.{WellPosed}
use Rattle.encoding.proofs.ConstraintLaws.{constraints}
use Rattle.encoding.proofs.LiteralLaws.{within}
use Rattle.encoding.specs.Decoding.{table, is_table, valuation}
use Rattle.encoding.proofs.DecodedTable.{decoded_same}
use Rattle.encoding.proofs.Sound.{decoded_equivalent}
use Rattle.encoding.specs.Complete.{linked, constraints_met}
use Rattle.encoding.specs.Numbering.{Numbering}
use Rattle.encoding.specs.Theorem.{Encodes}

module _ {T : Task} (W : WellPosed T) {num : Var → ℕ} {last : ℕ} {Kind : (ℕ → ℕ → ℕ → Bool) → Type 0} (N : Numbering T num last Kind) where
  sound : (ν : Assignment) → Satisfies ν (file T num) → Equivalent T (decoded T num ν) × Kind (decoded T num ν).marks
  sound ν s = (decoded_equivalent W num ν ((constraints T num N.from_1 ν W).0 s), N.decoded_kind ν)

  complete_table : (δ : ℕ → ℕ → ℕ) (μ : ℕ → ℕ → ℕ → Bool) → WellFormed (table T δ μ) → Agree (table T δ μ) T.reference → Kind μ
      → (ν : Assignment) × Satisfies ν (file T num) × SameTable (decoded T num ν) (table T δ μ)
  complete_table δ μ F agree kind =
      let π = linked W F in
      let ν : Assignment = λ k. valuation δ μ π (N.variable k) in
      let same : (x : Var) → Present T x → ν (num x) ≡ valuation δ μ π x = N.variable_number δ μ π kind in
      (ν, (constraints T num N.from_1 ν W).1 (constraints_met W F agree (λ x. ν (num x)) same), decoded_same T F num ν π same)

  complete : (C : Aut) → Equivalent T C → Kind C.marks → (ν : Assignment) × Satisfies ν (file T num) × SameTable (decoded T num ν) C
  complete C e kind =
      let t = is_table e.candidate in
      let (ν, s, d) = complete_table C.step C.marks (subst WellFormed t e.candidate.formed) (subst (λ A. Agree A T.reference) t e.agrees) kind in
      (ν, s, subst (SameTable (decoded T num ν)) (sym t) d)

  pub encodes : Encodes T num last Kind
  encodes = record {
    sound = sound;
    complete = complete;
    satisfiable = (λ (ν, s). (let t = sound ν s in (decoded T num ν, t.0, t.1)), λ (C, e, kind). (let t = complete C e kind in (t.0, t.1)));
    within = within W num last N.from_1 N.to_last;
  }
