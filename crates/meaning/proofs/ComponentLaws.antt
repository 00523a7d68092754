-- Laws of components: what the tests say, that a closed walk stays in one component, and that to lie in one is an equivalence.
use Rattle.std.specs.Prelude.{◌≡◌, refl, ◌↔◌, true, List, [], ◌++◌, ℕ, ◌<◌}
use Rattle.std.proofs.Common.{ap, ◌∙◌, subst}
use Rattle.std.proofs.Math.Dec.{eqb}
use borrow.Author.Tests.{eq-eqb, eqb-true}
use Rattle.meaning.specs.Automata.{Aut, WellFormed}
use Rattle.meaning.specs.Agreement.{Over}
use Rattle.meaning.specs.TestLaws.{and_true, and_left, and_right}
use Rattle.meaning.specs.Walk.{run}
use Rattle.meaning.specs.WalkLaws.{run_append, walk_map}
use Rattle.meaning.specs.ShortWalk.{Numbered}
use Rattle.meaning.specs.Reachability.{Step, reach_exact}
use Rattle.meaning.specs.LassoWord.{over_append}
use Rattle.meaning.specs.Run.{run_lt}
use Rattle.meaning.specs.Product.{over_walk, walk_over}
use Rattle.meaning.specs.Components.{Leads, reaches, together}

pub leads_then : (A : Aut) (u v w : ℕ) → Leads A u v → Leads A v w → Leads A u w
leads_then A u v w (x, ox, ex) (y, oy, ey) = (x ++ y, over_append A.letters x y ox oy, run_append A.step u x y ∙ ap (λ q. run A.step q y) ex ∙ ey)

module _ (A : Aut) (F : WellFormed A) where
  nodes : Numbered A.step (Step A.letters (λ q l. true)) A.states
  nodes = record {
    Ok = λ q. q < A.states;
    code = λ q. q;
    closed = λ q l o e. F.step_lt q l o e.0;
    small = λ q o. o;
    same = λ p q op oq e. e;
  }

  pub reaches_exact : (u v : ℕ) → u < A.states → (reaches A u v ≡ true) ↔ Leads A u v
  unfolding reaches nodes
  reaches_exact u v h =
      let t = reach_exact A.step A.letters (λ q l. true) (λ q. eqb q v) nodes u h in (
        λ e. (let (w, a, g) = t.0 e in (w, walk_over A.step _ A.letters (λ q l k. k.0) u w a, eqb-true _ _ g)),
        λ (w, o, e). t.1 (w, walk_map A.step _ _ (λ q l k. (k, refl)) u w (over_walk A.step A.letters u w o), eq-eqb _ _ e),
      )

  pub together_exact : (u v : ℕ) → u < A.states → v < A.states → (together A u v ≡ true) ↔ (Leads A u v × Leads A v u)
  unfolding together
  together_exact u v hu hv = (
    λ e. ((reaches_exact u v hu).0 (and_left _ _ e), (reaches_exact v u hv).0 (and_right (reaches A u v) _ e)),
    λ (x, y). and_true ((reaches_exact u v hu).1 x) ((reaches_exact v u hv).1 y),
  )

  -- a closed walk stays in one component
  pub closed_together : (u v : ℕ) (x y : List ℕ) → u < A.states → Over A.letters x → Over A.letters y → run A.step u x ≡ v → run A.step v y ≡ u
      → together A u v ≡ true
  closed_together u v x y hu ox oy ex ey = (together_exact u v hu (subst (λ z. z < A.states) ex (run_lt F u x hu ox))).1 ((x, ox, ex), (y, oy, ey))

  -- a lone state is a component of its own
  pub together_refl : (u : ℕ) → u < A.states → together A u u ≡ true
  together_refl u hu = closed_together u u [] [] hu tt tt refl refl

  pub together_sym : (u v : ℕ) → u < A.states → v < A.states → together A u v ≡ true → together A v u ≡ true
  together_sym u v hu hv e = let t = (together_exact u v hu hv).0 e in (together_exact v u hv hu).1 (t.1, t.0)

  pub together_trans : (u v w : ℕ) → u < A.states → v < A.states → w < A.states → together A u v ≡ true → together A v w ≡ true → together A u w ≡ true
  together_trans u v w hu hv hw e f =
      let (a, b) = (together_exact u v hu hv).0 e in
      let (c, d) = (together_exact v w hv hw).0 f in
      (together_exact u w hu hw).1 (leads_then A u v w a c, leads_then A w v u d b)
