-- The decoder has one outcome: two that its promise allows are the same.
use Rattle.std.specs.Prelude.{◌≡◌, refl, ◌⊎◌, Result, Ok, Err, List, ℕ, ◌≤◌, length}
use Rattle.std.proofs.Common.{inl, inr, arith}
use Rattle.std.proofs.Math.Decide.{dec_le}
use Rattle.meaning.specs.Agreement.{Agree}
use Rattle.acceptance.specs.Masks.{OwnSets}
use Rattle.automaton.specs.declared.Automaton.{Automaton}
use Rattle.refusals.specs.declared.Refusal.{Refusal}
use Rattle.refusals.specs.declared.Refusal.TheVariants.{Differ}
use Rattle.automaton.specs.Value.{Valid}
use Rattle.automaton.specs.View.{view}
use Rattle.encoding.specs.Clauses.{Assignment}
use Rattle.clause_sizes.specs.declared.Target.{Target}
use Rattle.clause_sizes.specs.Targets.{Dimensioned, Proper}
use Rattle.compare.specs.Compared.{prefix_room, loop_room}
use Rattle.solver_text.specs.declared.Reader.{Reader}
use Rattle.solver_scan.specs.declared.Verdict.{Verdict}
use Rattle.solver_scan.specs.declared.Verdict.TheVariants.{Unstated, Satisfiable, Unsatisfiable, Unknown}
use Rattle.solver_text.specs.Calls.{InRange}
use Rattle.decode.specs.declared.Decoded.{Decoded}
use Rattle.decode.specs.Answers.{whole, said, Differs, ByComparison, ByAssignment, ByVerdict, Admitted, Decodes}
use Rattle.decode.specs.Table.{decoded_value, AllStep, LowestWithout}
use Rattle.decode.specs.Value.{decoded_valid}
use Rattle.decode.specs.Missing.{all_or_lowest}
use Rattle.demands.proofs.Decisions.{valid_decided, in_range_decided, dimensioned_decided, own_sets_decided, agree_decided}
use Rattle.demands.proofs.ComparisonOnce.{Alike, alike, alike_word}

module _ {prefix p q loop l m : List ℕ} {x y : Result Decoded Refusal} {a : Automaton} where
  differs : {C : Automaton} → Differs prefix p loop l x a C → Differs prefix q loop m y a C → Alike x y p q l m
  differs D E = alike_word D.shown E.shown (λ u v. Err (Differ u v)) D.says E.says

  by_agreement : {C : Automaton} → ByComparison prefix p loop l x a C → ByComparison prefix q loop m y a C → Dec (Agree (view C) (view a)) → Alike x y p q l m
  by_agreement D E (yes s) = alike (D.same s) (E.same s)
  by_agreement D E (no s) = differs (D.differ s) (E.differ s)

  module _ {τ : Target} (v : Valid a) (z : Proper τ) where
    by_steps : {ν : Assignment} → ByAssignment prefix p loop l x a τ ν → ByAssignment prefix q loop m y a τ ν
        → AllStep a τ ν ⊎ ((s j : ℕ) × LowestWithout a τ ν s j) → Alike x y p q l m
    by_steps {ν} D E (inl t) = by_agreement (D.table t) (E.table t) (agree_decided (decoded_value a τ ν) a (decoded_valid v z ν t) v refl)
    by_steps D E (inr (s, j, w)) = alike (D.no_step s j w) (E.no_step s j w)

    by_verdict : {r : Reader} → ByVerdict prefix p loop l x a τ r → ByVerdict prefix q loop m y a τ r → (w : Verdict) → r.scan.verdict ≡ w → Alike x y p q l m
    by_verdict D E Unstated e = alike (D.unstated e) (E.unstated e)
    by_verdict {r} D E Satisfiable e = by_steps (D.satisfiable e) (E.satisfiable e) (all_or_lowest a τ (said r))
    by_verdict D E Unsatisfiable e = alike (D.none e) (E.none e)
    by_verdict D E Unknown e = alike (D.unknown e) (E.unknown e)

module _ {prefix p q loop l m : List ℕ} {x y : Result Decoded Refusal} {a : Automaton} {τ : Target} {r : Reader} (D : Decodes prefix p loop l x a τ r) (E : Decodes prefix q loop m y a τ r) where
  by_text : Valid a → Proper τ → Admitted prefix p loop l x a τ r → Admitted prefix q loop m y a τ r
      → (w : Result (Unit {0}) Refusal) → (whole a τ r).answer ≡ w → Alike x y p q l m
  by_text v z A B (Err f) e = alike (D.text A f e) (E.text B f e)
  by_text v z A B (Ok u) e = by_verdict v z (D.accepted A e) (E.accepted B e) (whole a τ r).reader.scan.verdict refl

  module _ (h : prefix_room ≤ length prefix) (g : loop_room ≤ length loop) where
    by_values : Dec (Valid a) → Dec (InRange r) → Dec (Dimensioned τ) → Dec (OwnSets τ.acceptance τ.sets) → Alike x y p q l m
    by_values (no v) i d o = alike (D.automaton h g v) (E.automaton h g v)
    by_values (yes v) (no i) d o = alike (D.state h g i) (E.state h g i)
    by_values (yes v) (yes i) (no d) o = alike (D.dimensions h g v i d) (E.dimensions h g v i d)
    by_values (yes v) (yes i) (yes d) (no o) = alike (D.acceptance h g v i d o) (E.acceptance h g v i d o)
    by_values (yes v) (yes i) (yes d) (yes o) =
        let z : Proper τ = record { dimensioned = d; sets_owned = o } in
        by_text v z (record { prefix_room_fits = h; loop_room_fits = g; valid = v; in_range = i; sizes = z }) (record { prefix_room_fits = h; loop_room_fits = g; valid = v; in_range = i; sizes = z })
        (whole a τ r).answer refl

  by_room : Dec (prefix_room ≤ length prefix) → Dec (loop_room ≤ length loop) → Alike x y p q l m
  by_room (no h) g = alike (D.short_prefix (omega arith)) (E.short_prefix (omega arith))
  by_room (yes h) (no g) = alike (D.short_loop h (omega arith)) (E.short_loop h (omega arith))
  by_room (yes h) (yes g) = by_values h g (valid_decided a) (in_range_decided r) (dimensioned_decided τ) (own_sets_decided τ)

  pub decoding_once : Alike x y p q l m
  decoding_once = by_room (dec_le prefix_room (length prefix)) (dec_le loop_room (length loop))
