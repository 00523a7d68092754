-- The decoder's answer to an assignment, by the table that was filled.
use Rattle.std.specs.Prelude.{Result, Ok, Err}
use mathlib.Core.Path.{◌≡◌, refl, sym, ap, ap₂, ◌∙◌, subst}
use mathlib.Core.Logic.{◌⊎◌, inl, inr}
use mathlib.Core.List.{List}
use mathlib.Core.Option.{Option}
use Prim.Native.Nat.{ℕ, ◌+◌, ◌*◌, ◌/◌, ◌%◌, ◌≤◌, ◌<◌}
use native.Mathlib.Decide.{dec_lt}
use native.Mathlib.Omega.{arith}
use lib.Arith.{digits_div, digits_mod}
use lib.Dec.{eqb}
use lib.ListN.{get_or}
use Rattle.automaton.specs.declared.Automaton.{Automaton}
use Rattle.refusals.specs.declared.Code.{Code}
use Rattle.refusals.specs.declared.Refusal.{Refusal}
use Rattle.refusals.specs.declared.Refusal.TheVariants.{NoStep}
use Rattle.automaton.specs.Value.{Valid, letters}
use Rattle.automaton.specs.Letters.{letters_le}
use Rattle.automaton.specs.Rows.{rows_same}
use Rattle.encoding.specs.Clauses.{Assignment, destination, marks_on}
use Rattle.clause_sizes.specs.declared.Target.{Target}
use Rattle.clause_sizes.specs.Targets.{Proper}
use Rattle.clause_sizes.specs.declared.Sizes.{Sizes}
use Rattle.clause_sizes.specs.declared.Measurement.{Measurement}
use Rattle.clause_sizes.specs.Sizes.{Refuses, outside, dimensions, past_sets, Sizing, Fitting, sizes_of, target_of}
use Rattle.clause_sizes.specs.Limits.{sizes_fit}
use Rattle.compare.specs.Compared.{Compared, Room}
use Rattle.decode.specs.declared.Decoded.{Decoded}
use Rattle.decode.specs.declared.Decoded.TheVariants.{Table}
use Rattle.decode.specs.Table.{entry, decoded_table, decoded_value, Steps, AllStep, LowestWithout}
use Rattle.decode.specs.Answers.{ByComparison, ByAssignment}
use Rattle.decode.specs.Value.{steps_lead, lead_steps, decoded_valid}
use Rattle.decode.specs.Cells.{table_by, NoCell, Filled}
use Rattle.clause_sizes.specs.Measured.{Measured, sizing_refused}
use Rattle.decode.specs.Ready.{Comparable, candidate}
use Rattle.decode.proofs.Comparing.{same_found, differ_refused}
use Rattle.decode.proofs.Answering.{untouched}

by_sizes : (a : Automaton) (τ : Target) (values : List ℕ) → table_by (sizes_of a τ) values ≡ decoded_table a τ (λ v. eqb (get_or values v 0) 1)
unfolding destination
by_sizes a τ values = refl

module _ {a : Automaton} {z : Sizes} (M : Measured a z) where
  pub fitting : Fitting z
  fitting = subst Fitting (sym M.sized) (sizes_fit M.valid M.proper)

  table_is : (named : List ℕ) → table_by z named ≡ decoded_table a (target_of z) (λ v. eqb (get_or named v 0) 1)
  table_is named = ap (λ x. table_by x named) M.sized ∙ by_sizes a (target_of z) named

-- what was filled, for the file of a and τ
module _ (a : Automaton) (τ : Target) (v : Valid a) (ν : Assignment) {d s : List ℕ} where
  -- a state and a letter before k have a true step
  steps_before : {k : ℕ} → Filled (decoded_table a τ ν) d s k → (q l : ℕ) → q < τ.states → l < letters a → q * 16 + l < k → Steps a τ ν q l
  steps_before {k} F q l hq hl h =
      let hl₁₆ : l < 16 = omega (arith, letters_le v) in
      let eq : (q * 16 + l) / 16 ≡ q = digits_div q hl₁₆ in
      let el : (q * 16 + l) % 16 ≡ l = digits_mod q hl₁₆ in
      lead_steps a τ ν q l (subst (λ p. p < τ.states) (ap₂ (decoded_table a τ ν).step eq el) (F.leads (q * 16 + l) h (omega (arith, eq), omega (arith, el))))

  -- all of them
  module _ (F : Filled (decoded_table a τ ν) d s 256) (few : τ.states ≤ 16) where
    all_step : AllStep a τ ν
    all_step q l hq hl = steps_before F q l hq hl (omega (arith, letters_le v))

    no_lowest : (q l : ℕ) → LowestWithout a τ ν q l → ⊥
    no_lowest q l w = w.no_step (all_step q l w.state_lt w.letter_lt)

    destinations_filled : d ≡ (decoded_value a τ ν).destinations
    destinations_filled = rows_same 16 (entry (decoded_table a τ ν) (decoded_table a τ ν).step) d F.destinations_size (λ i h. F.destinations_at i (omega arith))

    marks_filled : s ≡ (decoded_value a τ ν).marks
    marks_filled = rows_same 16 (entry (decoded_table a τ ν) (marks_on (decoded_table a τ ν))) s F.marks_size (λ i h. F.marks_at_lem i (omega arith))

  -- up to one that has none
  module _ {k : ℕ} (F : Filled (decoded_table a τ ν) d s k) (n : NoCell (decoded_table a τ ν) k) where
    none_here : ¬ Steps a τ ν (k / 16) (k % 16)
    none_here t = n.1 (steps_lead a τ ν (k / 16) (k % 16) t)

    not_all : ¬ AllStep a τ ν
    not_all t = none_here (t (k / 16) (k % 16) n.0.0 n.0.1)

    -- which is the lowest
    lowest_here : (q l : ℕ) → LowestWithout a τ ν q l → (k / 16 ≡ q) × (k % 16 ≡ l)
    lowest_here q l w =
        let hl : l < 16 = omega (arith, letters_le v, w.letter_lt) in
        let from : k ≤ q * 16 + l = least (dec_lt (q * 16 + l) k) in
        let to : q * 16 + l ≤ k = most hl (dec_lt k (q * 16 + l)) in
        (omega arith, omega arith)
      where
        least : Dec (q * 16 + l < k) → k ≤ q * 16 + l
        least (yes g) = absurd (w.no_step (steps_before F q l w.state_lt w.letter_lt g))
        least (no g) = omega arith

        earlier : l < 16 → k < q * 16 + l → Dec (k / 16 < q) → (k / 16 < q) ⊎ ((k / 16 ≡ q) × (k % 16 < l))
        earlier hl g (yes e) = inl e
        earlier hl g (no e) = inr (omega arith, omega arith)

        most : l < 16 → Dec (k < q * 16 + l) → q * 16 + l ≤ k
        most hl (no g) = omega arith
        most hl (yes g) = absurd (none_here (w.before (k / 16) (k % 16) n.0.1 (earlier hl g (dec_lt (k / 16) q))))

-- ---- the answer

module _ {a : Automaton} {z : Sizes} (M : Measured a z) (named : List ℕ) where
  abbrev τ : Target
  τ = target_of z

  abbrev ν : Assignment
  ν v = eqb (get_or named v 0) 1

  few : z.candidate.states ≤ 16
  few = omega (arith, M.proper.dimensioned.n_le)

  filled : {d s : List ℕ} {k : ℕ} → Filled (table_by z named) d s k → Filled (decoded_table a τ ν) d s k
  filled {d} {s} {k} F = subst (λ C. Filled C d s k) (table_is M named) F

  pub stopped_answer : {d s : List ℕ} {k : ℕ} → Filled (table_by z named) d s k → NoCell (table_by z named) k → {p l : List ℕ} {x : Result Decoded Refusal}
      → x ≡ Err (NoStep (k / 16) (k % 16)) → ByAssignment p p l l x a τ ν
  stopped_answer {d} {s} {k} F n e = record {
    no_step = λ q l w.
        let (eq, el) = lowest_here a τ M.valid ν (filled F) there q l w in
        untouched (e ∙ ap₂ (λ (i j : ℕ). Err (NoStep i j)) eq el);
    table = λ t. absurd (not_all a τ M.valid ν (filled F) there t);
  }
    where
      there : NoCell (decoded_table a τ ν) k
      there = subst (λ C. NoCell C k) (table_is M named) n

  module _ {d s : List ℕ} (F : Filled (table_by z named) d s 256) where
    value_is : candidate a z d s ≡ decoded_value a τ ν
    value_is =
        let ed = destinations_filled a τ M.valid ν (filled F) few in
        let es = marks_filled a τ M.valid ν (filled F) few in
        λ i. record {
          states = z.candidate.states;
          start = 0;
          propositions = a.propositions;
          sets = z.candidate.sets;
          acceptance = z.candidate.acceptance;
          lengths = a.lengths;
          names = a.names;
          destinations = ed i;
          marks = es i;
        }

    comparable : {C : Automaton} → C ≡ candidate a z d s → Comparable C a
    comparable e = subst (λ C. Comparable C a) (sym (e ∙ value_is)) (record {
      valid_a = decoded_valid M.valid M.proper ν (all_step a τ M.valid ν (filled F) few);
      valid_b = M.valid;
      same_propositions = refl;
    })

    table_answer : {C : Automaton} {p p' l l' : List ℕ} {x : Result Decoded Refusal} → C ≡ candidate a z d s → ByComparison p p' l l' x a C
        → ByAssignment p p' l l' x a τ ν
    table_answer {p} {p'} {l} {l'} {x} e b = record {
      no_step = λ q i w. absurd (no_lowest a τ M.valid ν (filled F) few q i w);
      table = λ t. subst (λ C. ByComparison p p' l l' x a C) (e ∙ value_is) b;
    }

    module _ {C : Automaton} (e : C ≡ candidate a z d s) {p p' l l' : List ℕ} (r : Room p l) {y : Result (Unit {0}) Refusal} (c : Compared C a p p' l l' y) where
      pub agreed_answer : {u : Unit {0}} → y ≡ Ok u → ByAssignment p p' l l' (Ok (Table C)) a τ ν
      agreed_answer g = table_answer e (same_found (comparable e) r c g refl)

      pub refused_answer : {x : Result Decoded Refusal} (f : Refusal) → y ≡ Err f → x ≡ Err f → ByAssignment p p' l l' x a τ ν
      refused_answer f g h = table_answer e (differ_refused (comparable e) r c f g h)

-- ---- the sizes of the file

pub sizing_not : {a : Automaton} {τ : Target} {y : Result Measurement Refusal} {f : Refusal} → Sizing a τ y → y ≡ Err f → Valid a → Proper τ → ⊥
sizing_not {a} {τ} s e v p = go (sizing_refused s e)
  where
    go : {f : Refusal} {c : Option Code} → Refuses a τ f c → ⊥
    go (outside h) = h v
    go (dimensions w h) = h p.dimensioned
    go (past_sets w d h) = h p.sets_owned

pub assigned_answer : {a : Automaton} {τ : Target} {z : Sizes} {p p' l l' : List ℕ} {x : Result Decoded Refusal} (ν : Assignment) → z ≡ sizes_of a τ
    → ByAssignment p p' l l' x a (target_of z) ν → ByAssignment p p' l l' x a τ ν
assigned_answer {a} {p} {p'} {l} {l'} {x} ν e b = subst (λ z. ByAssignment p p' l l' x a (target_of z) ν) e b
