-- Where the decoder answers 9 or 10, the call was admitted, and the offset is the one that the reader carries at the end of the text.
use mathlib.Core.Path.{◌≡◌, refl, sym, ap, ◌∙◌}
use mathlib.Core.Logic.{◌⊎◌, inl, inr}
use mathlib.Core.List.{List}
use Prim.Native.Nat.{ℕ, ◌≤◌, ◌<◌}
use native.Mathlib.Decide.{dec_le}
use native.Mathlib.Omega.{arith}
use lib.ListN.{length}
use Rattle.automaton.specs.declared.Automaton.{Automaton}
use Rattle.refusals.specs.declared.Refusal.{Refusal}
use Rattle.refusals.specs.Refused.{code_of}
use Rattle.automaton.specs.Value.{Valid}
use Rattle.compare.specs.Compared.{prefix_room, loop_room}
use Rattle.encoding.specs.Clauses.{Assignment}
use Rattle.clause_sizes.specs.declared.Target.{Target}
use Rattle.clause_sizes.specs.Targets.{Proper}
use Rattle.solver_text.specs.declared.Reader.{Reader}
use Rattle.solver_scan.specs.declared.Verdict.{Verdict}
use Rattle.solver_scan.specs.declared.Verdict.TheVariants.{Unstated, Satisfiable, Unsatisfiable, Unknown as NotKnown}
use Rattle.solver_text.specs.Calls.{InRange}
use Rattle.std.specs.Prelude.{Result, Ok, Err}
use Rattle.decode.specs.declared.Decoded.{Decoded}
use Rattle.decode.specs.Answers.{whole, Admitted, ByAssignment, ByVerdict, Decodes}
use Rattle.decode.specs.Table.{AllStep, LowestWithout}
use Rattle.decode.specs.Missing.{all_or_lowest}
use Rattle.console_answers.proofs.Replies.{offset_refused}

abbrev number : Result Decoded Refusal → ℕ
number (Ok d) = 0
number (Err x) = (code_of x).number

abbrev first : Result Decoded Refusal → ℕ
first (Ok d) = 0
first (Err x) = (code_of x).first

pub record ByText (a : Automaton) (τ : Target) (r : Reader) (f : Refusal) : Type 0 where
  pub valid : Valid a
  pub in_range : InRange r
  pub sizes : Proper τ
  pub offset : (code_of f).first ≡ (whole a τ r).reader.scan.at

module _ {p p' l l' : List ℕ} {x : Result Decoded Refusal} {a : Automaton} {τ : Target} {r : Reader} (d : Decodes p p' l l' x a τ r)
    (f : Refusal) (is : x ≡ Err f) (low : 9 ≤ (code_of f).number) (high : (code_of f).number ≤ 10) where
  -- no answer with another number
  other : (y : Result Decoded Refusal) → x ≡ y → (number y < 9) ⊎ (10 < number y) → ⊥
  other y e (inl h) = let z : number y ≡ (code_of f).number = ap number (sym e) ∙ ap number is in omega arith
  other y e (inr h) = let z : number y ≡ (code_of f).number = ap number (sym e) ∙ ap number is in omega arith

  same : (g : Refusal) (y : Result Decoded Refusal) → x ≡ y → y ≡ Err g → (code_of f).first ≡ (code_of g).first
  same g y e h = ap first (sym is ∙ e ∙ h)

  no_table : (ν : Assignment) → ByAssignment p p' l l' x a τ ν → ⊥
  no_table ν b = go (all_or_lowest a τ ν)
    where
      go : AllStep a τ ν ⊎ ((q i : ℕ) × LowestWithout a τ ν q i) → ⊥
      go (inl t) = other _ ((b.table t).differ (λ s. other _ ((b.table t).same s).0 (inl (omega arith)))).says (inr (omega arith))
      go (inr (q, i, w)) = other _ (b.no_step q i w).0 (inr (omega arith))

  module _ (never : ¬ ByText a τ r f) where
    by_verdict : Admitted p p' l l' x a τ r → (v : Verdict) → (whole a τ r).reader.scan.verdict ≡ v → ByVerdict p p' l l' x a τ (whole a τ r).reader → ⊥
    by_verdict t Unstated e b = never (record { valid = t.valid; in_range = t.in_range; sizes = t.sizes; offset = same _ _ (b.unstated e).0 refl })
    by_verdict t Satisfiable e b = no_table _ (b.satisfiable e)
    by_verdict t Unsatisfiable e b = other _ (b.none e).0 (inl (omega arith))
    by_verdict t NotKnown e b = other _ (b.unknown e).0 (inl (omega arith))

    by_reply : Admitted p p' l l' x a τ r → (w : Result (Unit {0}) Refusal) → (whole a τ r).answer ≡ w → ⊥
    by_reply t (Ok _) e = by_verdict t _ refl (d.accepted t e)
    by_reply t (Err g) e = never (record {
      valid = t.valid;
      in_range = t.in_range;
      sizes = t.sizes;
      offset = same g _ (d.text t g e).0 refl ∙ (offset_refused _ _ g e).1;
    })

    by_call : prefix_room ≤ length p → loop_room ≤ length l → ⊥
    by_call h g =
        other _ (d.automaton h g (λ v.
        other _ (d.state h g (λ i.
        other _ (d.dimensions h g v i (λ z.
        other _ (d.acceptance h g v i z (λ o.
        by_reply (record { prefix_room_fits = h; loop_room_fits = g; valid = v; in_range = i; sizes = record { dimensioned = z; sets_owned = o } }) _ refl)).0
        (inl (omega arith)))).0
        (inl (omega arith)))).0
        (inl (omega arith)))).0
        (inl (omega arith))

    by_room : Dec (prefix_room ≤ length p) → Dec (loop_room ≤ length l) → ⊥
    by_room (no h) g = other _ (d.short_prefix (omega arith)).0 (inr (omega arith))
    by_room (yes h) (no g) = other _ (d.short_loop h (omega arith)).0 (inr (omega arith))
    by_room (yes h) (yes g) = by_call h g

  pub by_text : ¬ ¬ ByText a τ r f
  by_text never = by_room never (dec_le prefix_room (length p)) (dec_le loop_room (length l))
