-- Tables that are the same accept the same words, and agree with the same automata.
use Rattle.std.specs.Prelude.{◌≡◌, Bool, ◌&&◌, ℕ, zero, suc, ◌<◌}
use Rattle.std.proofs.Common.{sym, ap, ap₂, ◌∙◌, arith}
use Rattle.std.proofs.Math.Path.{subst}
use Rattle.std.proofs.Math.Logic.{inl, inr}
use mathlib.Core.List.{List}
use Rattle.meaning.specs.Tests.{any}
use Rattle.meaning.specs.TestLaws.{any_same}
use Rattle.meaning.specs.Automata.{Aut, WellFormed, Word, Accepts, state, union}
use Rattle.meaning.specs.Agreement.{Over, Agree, AgreeOn, lasso}
use Rattle.meaning.specs.LassoWord.{lasso_over}
use Rattle.meaning.specs.Run.{state_lt}
use Rattle.encoding.specs.Clauses.{SameTable}

pub same_turned : {A B : Aut} → SameTable A B → SameTable B A
same_turned s = record {
  states = sym s.states;
  letters = sym s.letters;
  sets = sym s.sets;
  start = sym s.start;
  step = λ q l hq hl. sym (s.step q l (omega (arith, s.states)) (omega (arith, s.letters)));
  marks = λ q l i hq hl hi. sym (s.marks q l i (omega (arith, s.states)) (omega (arith, s.letters)) (omega (arith, s.sets)));
  accept = λ S. sym (s.accept S);
}

module _ {A B : Aut} (s : SameTable A B) (F : WellFormed A) (w : Word) (over : (i : ℕ) → w i < A.letters) where
  state_same : (i : ℕ) → state A w i ≡ state B w i
  state_same zero = s.start
  state_same (suc i) = s.step (state A w i) (w i) (state_lt F w over i) (over i) ∙ ap (λ q. B.step q (w i)) (state_same i)

  union_same : (often : ℕ → ℕ → Bool) (i : ℕ) → i < A.sets → union A often i ≡ union B often i
  union_same often i hi =
      any_same A.states _ _ (λ q hq. any_same A.letters _ _ (λ l hl. ap (λ b. often q l && b) (s.marks q l i hq hl hi)))
      ∙ ap₂ (λ (n k : ℕ). any n (λ q. any k (λ l. often q l && B.marks q l i))) s.states s.letters

  accepts_same : Accepts A w → Accepts B w
  accepts_same a =
      let I = a.inf in
      record {
        inf = record {
          often = I.often;
          inside = λ q l hq hl e n.
              let (j, h, t) = I.inside q l (omega (arith, s.states)) (omega (arith, s.letters)) e n in
              (j, h, (sym (state_same j) ∙ t.0, t.1));
          outside = λ q l hq hl e.
              let (n, h) = I.outside q l (omega (arith, s.states)) (omega (arith, s.letters)) e in
              (n, λ j k (t, u). h j k (state_same j ∙ t, u));
        };
        accepted = sym (s.accept (union B I.often)) ∙ sym (F.sets_owned (union A I.often) (union B I.often) (union_same I.often)) ∙ a.accepted;
      }

module _ {A B : Aut} (R : Aut) (s : SameTable A B) (F : WellFormed A) (G : WellFormed B) where
  pub same_agree : Agree B R → Agree A R
  unfolding Agree
  same_agree agree x y ox oy some =
      let over = lasso_over A.letters x y ox oy some in
      let turn : (w : List ℕ) → Over A.letters w → Over B.letters w = λ w o. subst (λ n. Over n w) s.letters o in
      let over_B : (i : ℕ) → lasso x y i < B.letters = λ i. omega (arith, over i, s.letters) in
      go (accepts_same s F (lasso x y) over) (accepts_same (same_turned s) G (lasso x y) over_B) (agree x y (turn x ox) (turn y oy) some)
    where
      go : {w : Word} → (Accepts A w → Accepts B w) → (Accepts B w → Accepts A w) → AgreeOn B R w → AgreeOn A R w
      go f g (inl (b, r)) = inl (g b, r)
      go f g (inr (b, r)) = inr (λ a. b (f a), r)
