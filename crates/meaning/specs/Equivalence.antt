-- Agreement is symmetric and transitive, among automata over the same letters.
use Rattle.std.specs.Prelude.{◌≡◌, List, ℕ}
use Rattle.std.proofs.Common.{sym, subst, inl, inr}
use Rattle.meaning.specs.Automata.{Aut}
use Rattle.meaning.specs.Agreement.{Agree, AgreeOn, Over, lasso}

over_same : {n k : ℕ} → n ≡ k → (u : List ℕ) → Over n u → Over k u
over_same e u o = subst (λ n. Over n u) e o

pub agree_turned : (A B : Aut) → A.letters ≡ B.letters → Agree A B → Agree B A
unfolding Agree
agree_turned A B e p x y ox oy ne = go (p x y (over_same (sym e) x ox) (over_same (sym e) y oy) ne)
  where
    go : AgreeOn A B (lasso x y) → AgreeOn B A (lasso x y)
    go (inl (a, b)) = inl (b, a)
    go (inr (a, b)) = inr (b, a)

pub agree_then : (A B C : Aut) → A.letters ≡ B.letters → Agree A B → Agree B C → Agree A C
unfolding Agree
agree_then A B C e p q x y ox oy ne = go (p x y ox oy ne) (q x y (over_same e x ox) (over_same e y oy) ne)
  where
    go : AgreeOn A B (lasso x y) → AgreeOn B C (lasso x y) → AgreeOn A C (lasso x y)
    go (inl (a, b)) (inl (c, d)) = inl (a, d)
    go (inl (a, b)) (inr (c, d)) = absurd (c b)
    go (inr (a, b)) (inl (c, d)) = absurd (b c)
    go (inr (a, b)) (inr (c, d)) = inr (a, d)
