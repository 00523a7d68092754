-- What every state of a search keeps, and how far each verdict that is taken brings it to its end.
use Rattle.std.specs.Prelude.{◌≡◌, refl, ◌⊎◌, Bool, true, false, cond, ℕ, ◌+◌, ◌-◌, ◌≤◌, ◌<◌, ltb, eqb}
use Rattle.std.proofs.Common.{ap, ◌∙◌, subst, inl, inr, true≢false, arith, ltb-true, ltb-false}
use Rattle.std.proofs.lemmas.Bool.{eqb-false}
use Rattle.meaning.specs.Agreement.{Agree}
use Rattle.meaning.proofs.Decided.{agree_self}
use Rattle.automaton.specs.declared.Automaton.{Automaton}
use Rattle.automaton.specs.Value.{Valid}
use Rattle.automaton.specs.View.{view}
use Rattle.automaton.specs.ViewLaws.{view_formed}
use Rattle.search_rule.specs.declared.Search.{Search}
use Rattle.search_rule.specs.Rule.{below, fresh, found, risen, ended, none}
use Rattle.search.specs.Replies.{InfOfAll}
use Rattle.search.specs.Calls.{Verdict}
use Rattle.search.specs.Moves.{Fitting, Moves, by_table, by_none, by_unknown}

-- ---- what is kept

pub record Kept (a : Automaton) (s : Search) : Type 0 where
  pub reference : s.reference ≡ a
  pub valid : Valid s.best
  pub agrees : Agree (view s.best) (view a)
  pub states_le : s.best.states ≤ a.states
  pub same_propositions : s.best.propositions ≡ a.propositions
  pub inf_of_all : (s.best ≡ a) ⊎ InfOfAll s.best
  pub n_is : s.n ≡ below s.best.states
  pub m_from : a.sets ≤ s.m
  pub m_le : s.m ≤ 4
  pub n_some : s.finished ≡ false → 1 ≤ s.n
  pub not_open : s.finished ≡ false → s.open ≡ false

pub kept_fresh : {a : Automaton} → Valid a → Kept a (fresh a)
kept_fresh {a} v = record {
  reference = refl;
  valid = v;
  agrees = agree_self (view_formed v);
  states_le = omega arith;
  same_propositions = refl;
  inf_of_all = inl refl;
  n_is = refl;
  m_from = omega arith;
  m_le = v.sets_le;
  n_some = λ e. omega (arith, v.start_lt, eqb-false a.states 1 e);
  not_open = λ e. refl;
}

module _ {a : Automaton} {s : Search} (k : Kept a s) (u : s.finished ≡ false) where
  -- a table that is taken has fewer states than the best
  pub found_fewer : {t : Automaton} → Fitting s t → t.states < s.best.states
  found_fewer f = omega (arith, f.asked_for.states, k.n_is, k.n_some u)

  kept_found : {t : Automaton} → Fitting s t → Kept a (found t s)
  kept_found {t} f = record {
    reference = k.reference;
    valid = f.valid;
    agrees = subst (λ b. Agree (view t) (view b)) k.reference f.agrees;
    states_le = omega (arith, found_fewer f, k.states_le);
    same_propositions = f.same_propositions ∙ ap (λ b. b.propositions) k.reference;
    inf_of_all = inr f.inf_of_all;
    n_is = omega (arith, f.asked_for.states, k.n_is);
    m_from = k.m_from;
    m_le = k.m_le;
    n_some = λ e. omega (arith, eqb-false (s.n - 1) 0 e);
    not_open = λ e. k.not_open u;
  }

  kept_risen : s.m < 4 → Kept a (risen s)
  kept_risen h = record {
    reference = k.reference;
    valid = k.valid;
    agrees = k.agrees;
    states_le = k.states_le;
    same_propositions = k.same_propositions;
    inf_of_all = k.inf_of_all;
    n_is = refl;
    m_from = omega (arith, k.m_from);
    m_le = omega arith;
    n_some = λ f. omega (arith, k.n_is, k.n_some u);
    not_open = λ f. k.not_open u;
  }

  kept_ended : (marked : Bool) → Kept a (ended marked s)
  kept_ended marked = record {
    reference = k.reference;
    valid = k.valid;
    agrees = k.agrees;
    states_le = k.states_le;
    same_propositions = k.same_propositions;
    inf_of_all = k.inf_of_all;
    n_is = k.n_is;
    m_from = k.m_from;
    m_le = k.m_le;
    n_some = λ f. absurd (true≢false f);
    not_open = λ f. absurd (true≢false f);
  }

  -- "none", by its two cases
  pub none_cases : (P : Search → Type 0) → (s.m < 4 → P (risen s)) → (s.m ≡ 4 → P (ended s.open s)) → P (none s)
  none_cases P f g = go (ltb s.m 4) refl
    where
      go : (b : Bool) → ltb s.m 4 ≡ b → P (cond b (risen s) (ended s.open s))
      go true e = f (ltb-true s.m 4 e)
      go false e = g (omega (arith, ltb-false s.m 4 e, k.m_le))

  pub kept_moves : {v : Verdict} {t : Search} → Moves s v t → Kept a t
  kept_moves (by_table f) = kept_found f
  kept_moves by_none = none_cases (Kept a) kept_risen (λ e. kept_ended s.open)
  kept_moves by_unknown = kept_ended true

-- ---- how much is left

-- so many verdicts can still be taken
abbrev pub remaining : Bool → ℕ → ℕ → ℕ
remaining true n m = 0
remaining false n m = n + (4 - m)

abbrev pub left : Search → ℕ
left s = remaining s.finished s.n s.m

pub remaining_le : (b : Bool) (n m : ℕ) → remaining b n m ≤ n + (4 - m)
remaining_le true n m = omega arith
remaining_le false n m = omega arith

module _ {a : Automaton} {s : Search} (k : Kept a s) (u : s.finished ≡ false) where
  -- each verdict that is taken brings the end nearer
  fewer : (b : Bool) (n m : ℕ) → n + (4 - m) < s.n + (4 - s.m) → remaining b n m < left s
  fewer b n m h = rw u (omega (arith, remaining_le b n m))

  over : 0 < left s
  over = rw u (omega (arith, k.n_some u))

  pub left_falls : {v : Verdict} {t : Search} → Moves s v t → left t < left s
  left_falls (by_table f) = fewer (eqb (s.n - 1) 0) (s.n - 1) s.m (omega (arith, k.n_some u))
  left_falls by_none =
      none_cases k u (λ t. left t < left s)
      (λ h. fewer (eqb (below s.best.states) 0) (below s.best.states) (s.m + 1) (omega (arith, k.n_is)))
      (λ e. over)
  left_falls by_unknown = over
