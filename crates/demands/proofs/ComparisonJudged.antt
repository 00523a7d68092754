-- The comparison is judged by its conditions.
use Rattle.std.specs.Prelude.{◌≡◌, refl, ◌≢◌, ◌⊎◌, Result, Ok, Err, List, [], ℕ, length}
use Rattle.std.proofs.Common.{sym, ap, ◌∙◌, inl, inr, arith}
use Rattle.std.proofs.Math.Logic.Dec.{and as dec_and}
use Rattle.std.proofs.Math.Option.{some, some_inj}
use Rattle.std.proofs.Math.Decide.{ℕ_discrete, dec_le}
use Rattle.automaton.specs.declared.Automaton.{Automaton}
use Rattle.refusals.specs.declared.Code.{Code}
use Rattle.refusals.specs.declared.Refusal.{Refusal}
use Rattle.compare.specs.Compared.{Compared, Untouched, returned as comparison-said, prefix_room, loop_room}
use Rattle.demands.specs.Judgement.{TurnedDown, Accepted}
use Rattle.demands.specs.Conditions.{to_compare, JudgesComparison}
use Rattle.demands.proofs.Decisions.{Decided, decision, some_none, other_number, judged_refused, judged_accepted, valid_decided, agree_decided}

module _ {a b : Automaton} {prefix prefix-after loop loop-after : List ℕ} {answer : Result (Unit {0}) Refusal} (c : Compared a b prefix prefix-after loop loop-after answer) where
  -- without a word
  abbrev Fails : Code → Type 0
  Fails = TurnedDown (to_compare a b (length prefix) (length loop) 0 0)

  abbrev Passes : Type 0
  Passes = Accepted (to_compare a b (length prefix) (length loop) 0 0)

  decided : Decided (to_compare a b (length prefix) (length loop) 0 0)
  decided = (
    dec_le prefix_room (length prefix),
    λ h. (
      dec_le loop_room (length loop),
      λ g. (
        dec_and (valid_decided a) (valid_decided b),
        λ v. (ℕ_discrete a.propositions b.propositions, λ e. (agree_decided a b v.0 v.1 e, λ s. tt)),
      ),
    ),
  )

  refused_same : {P : Type 0} {k : Code} → comparison-said answer ≡ some k → answer ≡ Ok tt → P
  refused_same e s = some_none (sym e ∙ ap comparison-said s)

  -- a refusal that leaves both buffers as they were
  refusal : {f : Refusal} {k r : Code} → Fails k → Untouched a b prefix prefix-after loop loop-after answer (Err f) (some r) → k ≡ r → r.number ≢ 12
      → JudgesComparison a b prefix prefix-after loop loop-after answer
  refusal {k = k} t (e, p, l, n) g other =
      let said : comparison-said answer ≡ some k = n ∙ ap some (sym g) in
      record {
        x = [];
        y = [];
        judged = judged_refused t said (p, l);
        empty = λ k s n. (refl, refl);
        shown = λ k. other_number n other;
        same = refused_same said;
      }

  pub comparison_judged : JudgesComparison a b prefix prefix-after loop loop-after answer
  comparison_judged = go (decision (to_compare a b (length prefix) (length loop) 0 0) decided)
    where
      go : ((k : Code) × Fails k) ⊎ Passes → JudgesComparison a b prefix prefix-after loop loop-after answer
      go (inl (k, inl (h, e))) = refusal (inl (h, e)) (c.short_prefix (omega arith)) e (λ is. omega arith)
      go (inl (k, inr (h, inl (g, e)))) = refusal (inr (h, inl (g, e))) (c.short_loop h (omega arith)) e (λ is. omega arith)
      go (inl (k, inr (h, inr (g, inl (v, e))))) = refusal (inr (h, inr (g, inl (v, e)))) (c.outside h g v) e (λ is. omega arith)
      go (inl (k, inr (h, inr (g, inr (v, inl (p, e)))))) = refusal (inr (h, inr (g, inr (v, inl (p, e))))) (c.letters h g v.0 v.1 p) e (λ is. omega arith)
      go (inl (k, inr (h, inr (g, inr (v, inr (p, inl (n, e))))))) =
          let s = c.differ h g v.0 v.1 p n in
          let said = s.number in
          record {
            x = s.x;
            y = s.y;
            judged = judged_refused (inr (h, inr (g, inr (v, inr (p, inl (n, refl)))))) said (s.prefix_is, s.loop_is);
            empty = λ k e other. absurd (other (ap (λ (k : Code). k.number) (some_inj.0 (sym e ∙ said))));
            shown = λ k e is. s.word;
            same = refused_same said;
          }
      go (inl (k, inr (h, inr (g, inr (v, inr (p, inr (s, t))))))) = absurd t
      go (inr (h, (g, (v, (p, (s, t)))))) =
          let (e, p₁, l₁, said) = c.same h g v.0 v.1 p s in
          record {
            x = [];
            y = [];
            judged = judged_accepted (h, (g, (v, (p, (s, t))))) said;
            empty = λ k e other. (refl, refl);
            shown = λ k e is. some_none (sym e ∙ said);
            same = λ e. (p₁, l₁);
          }
