-- THE LAWS OF A NUMBERING, and that the steps, a block of marks and a block of paths make one if each block has its laws.
use Rattle.std.specs.Prelude.{◌≡◌, refl, Bool, cond, ℕ, zero, suc, ◌+◌, ◌-◌, ◌*◌, ◌/◌, ◌%◌, ◌≤◌, ◌<◌, ltb}
use Rattle.std.proofs.Common.{ap, ◌∙◌, not-suc-le-zero, div-add-mod', mod-lt, div-lt_iff_lt-mul, mul-zero, zero-lt-suc}
use Rattle.std.proofs.Math.Nat.{add-sub_cancel_left}
use Rattle.std.proofs.Math.Decide.{dec_lt}
use native.Mathlib.Omega.{arith}
use Rattle.std.proofs.Math.Arith.{digits_div, digits_mod, digits_lt}
use borrow.Author.Tests.{lt-ltb, le-ltb}
use Rattle.encoding.specs.Variables.{Task, Var, step, mark, path, Present, MarkBlock, PathBlock, number, variables}
use Rattle.encoding.specs.Clauses.{Assignment, decoded}
use Rattle.encoding.specs.Decoding.{valuation}

-- The numbers of the variables that there are run from 1 to the last, without a gap. `Kind` tells which marks a table of this file can have: those
-- that are decoded are of the kind, and such a table says the same of a variable and of the one that its number leads back to.
pub record Numbering (T : Task) (num : Var → ℕ) (last : ℕ) (Kind : (ℕ → ℕ → ℕ → Bool) → Type 0) : Type 0 where
  pub from_1 : (x : Var) → 0 < num x
  pub to_last : (x : Var) → Present T x → num x ≤ last
  pub onto : (k : ℕ) → k < last → (x : Var) × Present T x × (num x ≡ suc k)
  pub decoded_kind : (ν : Assignment) → Kind (decoded T num ν).marks
  pub variable : ℕ → Var
  pub variable_number : (δ : ℕ → ℕ → ℕ) (μ : ℕ → ℕ → ℕ → Bool) (π : (q u p v I J : ℕ) → Bool) → Kind μ
      → (x : Var) → Present T x → valuation δ μ π (variable (num x)) ≡ valuation δ μ π x

-- the same of a block: the places of its variables are the numbers below its size
pub record MarkLaws (T : Task) (M : MarkBlock) (Kind : (ℕ → ℕ → ℕ → Bool) → Type 0) : Type 0 where
  pub place_lt : (q l i p : ℕ) → Present T (mark q l i p) → M.place q l i p < M.size
  pub onto : (k : ℕ) → k < M.size → (q l i p : ℕ) × Present T (mark q l i p) × (M.place q l i p ≡ k)
  pub decoded_kind : (f : ℕ → Bool) (δ : ℕ → ℕ → ℕ) → Kind (λ q l i. f (M.place q l i (δ q l)))
  pub variable : ℕ → Var
  pub variable_place : (δ : ℕ → ℕ → ℕ) (μ : ℕ → ℕ → ℕ → Bool) (π : (q u p v I J : ℕ) → Bool) → Kind μ
      → (q l i p : ℕ) → Present T (mark q l i p) → valuation δ μ π (variable (M.place q l i p)) ≡ μ q l i

pub record PathLaws (T : Task) (P : PathBlock) : Type 0 where
  pub place_lt : (q u p v I J : ℕ) → Present T (path q u p v I J) → P.place q u p v I J < P.size
  pub onto : (k : ℕ) → k < P.size → (q u p v I J : ℕ) × Present T (path q u p v I J) × (P.place q u p v I J ≡ k)
  pub variable : ℕ → Var
  pub variable_place : (q u p v I J : ℕ) → Present T (path q u p v I J) → variable (P.place q u p v I J) ≡ path q u p v I J

-- the last digit of x to the base b, and what is left
pub split : (x c b : ℕ) → x < c * b → (x / b < c) × (x % b < b) × (x / b * b + x % b ≡ x)
split x c zero h = absurd (not-suc-le-zero (rw mul-zero at h))
split x c (suc b) h = ((div-lt_iff_lt-mul (zero-lt-suc b)).1 h, mod-lt x (zero-lt-suc b), div-add-mod' x (suc b))

module _ (T : Task) (M : MarkBlock) (P : PathBlock) where
  abbrev n : ℕ
  n = T.n

  abbrev L : ℕ
  L = T.reference.letters

  abbrev steps : ℕ
  steps = n * n * L

  step_lt : (q l p : ℕ) → Present T (step q l p) → (q * L + l) * n + p < steps
  step_lt q l p h = omega (arith, digits_lt (digits_lt h.0 h.1) h.2)

  module _ {Kind : (ℕ → ℕ → ℕ → Bool) → Type 0} (ML : MarkLaws T M Kind) (PL : PathLaws T P) where
    -- the variable with the number 1 + k
    pub variable : ℕ → Var
    variable k =
        cond (ltb k steps) (step (k / n / L) (k / n % L) (k % n)) (cond (ltb (k - steps) M.size) (ML.variable (k - steps)) (PL.variable (k - (steps + M.size))))

    variable_step : (q l p : ℕ) → Present T (step q l p) → variable ((q * L + l) * n + p) ≡ step q l p
    unfolding variable
    variable_step q l p (hq, hl, hp) = rw (lt-ltb _ _ (step_lt q l p (hq, hl, hp))) (simp (digits_div, digits_mod))

    variable_mark : (k : ℕ) → k < M.size → variable (steps + k) ≡ ML.variable k
    unfolding variable
    variable_mark k h =
        let no : steps ≤ steps + k = omega arith in
        rw (le-ltb _ _ no, add-sub_cancel_left, lt-ltb _ _ h)

    variable_path : (k : ℕ) → variable (steps + M.size + k) ≡ PL.variable k
    unfolding variable
    variable_path k =
        let no₁ : steps ≤ steps + M.size + k = omega arith in
        let no₂ : M.size ≤ steps + M.size + k - steps = omega arith in
        rw (le-ltb _ _ no₁, le-ltb _ _ no₂, add-sub_cancel_left)

    -- THE INVERSE of `number`. Where several marks share a number, it names one of them.
    abbrev pub representative : Var → Var
    representative (step q l p) = step q l p
    representative (mark q l i p) = ML.variable (M.place q l i p)
    representative (path q u p v I J) = path q u p v I J

    pub variable_number : (x : Var) → Present T x → variable (number T M P x - 1) ≡ representative x
    variable_number (step q l p) h =
        let e : 1 + (q * L + l) * n + p - 1 ≡ (q * L + l) * n + p = omega arith in
        ap variable e ∙ variable_step q l p h
    variable_number (mark q l i p) h =
        let e : steps + (1 + M.place q l i p) - 1 ≡ steps + M.place q l i p = omega arith in
        ap variable e ∙ variable_mark (M.place q l i p) (ML.place_lt q l i p h)
    variable_number (path q u p v I J) h =
        let e : steps + M.size + (1 + P.place q u p v I J) - 1 ≡ steps + M.size + P.place q u p v I J = omega arith in
        ap variable e ∙ variable_path (P.place q u p v I J) ∙ PL.variable_place q u p v I J h

    from_1 : (x : Var) → 0 < number T M P x
    from_1 (step q l p) = omega arith
    from_1 (mark q l i p) = omega arith
    from_1 (path q u p v I J) = omega arith

    to_last : (x : Var) → Present T x → number T M P x ≤ variables T M P
    to_last (step q l p) h = omega (arith, step_lt q l p h)
    to_last (mark q l i p) h = omega (arith, ML.place_lt q l i p h)
    to_last (path q u p v I J) h = omega (arith, PL.place_lt q u p v I J h)

    onto : (k : ℕ) → k < variables T M P → (x : Var) × Present T x × (number T M P x ≡ suc k)
    onto k h = go (dec_lt k steps) (dec_lt (k - steps) M.size)
      where
        go : Dec (k < steps) → Dec (k - steps < M.size) → (x : Var) × Present T x × (number T M P x ≡ suc k)
        go (yes a) d =
            let b = split k (n * L) n (omega arith) in
            let c = split (k / n) n L b.0 in
            (step (k / n / L) (k / n % L) (k % n), (c.0, c.1, b.1), rw c.2 (omega arith))
        go (no a) (yes b) = let (q, l, i, p, here, e) = ML.onto (k - steps) b in (mark q l i p, here, omega arith)
        go (no a) (no b) = let (q, u, p, v, I, J, here, e) = PL.onto (k - (steps + M.size)) (omega arith) in (path q u p v I J, here, omega arith)

    pub numbering : Numbering T (number T M P) (variables T M P) Kind
    numbering = record {
      from_1 = from_1;
      to_last = to_last;
      onto = onto;
      decoded_kind = λ ν. ML.decoded_kind (λ k. ν (steps + (1 + k))) _;
      variable = λ k. variable (k - 1);
      variable_number = λ δ μ π kind x h. ap (valuation δ μ π) (variable_number x h) ∙ said δ μ π kind x h;
    }
      where
        said : (δ : ℕ → ℕ → ℕ) (μ : ℕ → ℕ → ℕ → Bool) (π : (q u p v I J : ℕ) → Bool) → Kind μ → (x : Var) → Present T x
            → valuation δ μ π (representative x) ≡ valuation δ μ π x
        said δ μ π kind (step q l p) h = refl
        said δ μ π kind (mark q l i p) h = ML.variable_place δ μ π kind q l i p h
        said δ μ π kind (path q u p v I J) h = refl
