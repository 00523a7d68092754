-- WHAT IS DECODED AND THE CANDIDATES: an assignment that satisfies the file decodes to a candidate that agrees with the reference, and every
-- such candidate is decoded from one, as a value.
use Rattle.std.specs.Prelude.{◌≡◌, refl, ◌↔◌, ℕ, ◌^◌}
use Rattle.std.proofs.Common.{sym, ap, ap₂, ◌∙◌}
use Rattle.meaning.specs.BitSet.{has, set_of}
use Rattle.automaton.specs.declared.Automaton.{Automaton}
use Rattle.automaton.specs.Value.{Valid}
use Rattle.automaton.specs.View.{view}
use Rattle.automaton.specs.ViewLaws.{view_formed}
use Rattle.automaton.specs.Equality.{Same, equal_values}
use Rattle.encoding.specs.Clauses.{Assignment, Satisfies, Equivalent, SameTable}
use Rattle.encoding.proofs.ConstraintLaws.{constraints}
use Rattle.encoding.specs.NamedFile.{named_numbering}
use Rattle.encoding.proofs.NamedTheorem.{named_well_posed, named_encodes}
use Rattle.encoding.specs.SameTables.{same_agree}
use Rattle.clause_sizes.specs.declared.Target.{Target}
use Rattle.clause_sizes.specs.Targets.{Proper, task, numbers, file, named}
use Rattle.decode.specs.Table.{decoded_table, decoded_value, AllStep}
use Rattle.decode.specs.Found.{Candidate, Found}
use Rattle.decode.specs.Value.{decoded_valid, decoded_view}

module _ {a : Automaton} {τ : Target} (v : Valid a) (z : Proper τ) where
  pub decoded_candidate : (ν : Assignment) → AllStep a τ ν → Candidate a τ (decoded_value a τ ν)
  decoded_candidate ν t = record {
    valid = decoded_valid v z ν t;
    states = refl;
    sets = refl;
    acceptance = refl;
    start = refl;
    kind = tt;
    propositions = refl;
    names = λ i h. refl;
  }

  -- SOUND

  pub satisfying_steps : (ν : Assignment) → Satisfies ν (file a τ) → AllStep a τ ν
  satisfying_steps ν s =
      ((constraints (task a τ) (numbers a τ) (named_numbering (view a) (named τ)).from_1 ν (named_well_posed (view a) (named τ) (view_formed v) z.dimensioned.n_some)).0 s).total

  pub satisfying_found : (ν : Assignment) → Satisfies ν (file a τ) → Found a τ (decoded_value a τ ν)
  satisfying_found ν s =
      let t = satisfying_steps ν s in
      let E = ((named_encodes (view a) (named τ) (view_formed v) z.dimensioned.n_some).sound ν s).0 in
      record {
        candidate = decoded_candidate ν t;
        agrees = same_agree (view a) (decoded_view v z ν t) (view_formed (decoded_valid v z ν t)) E.candidate.formed E.agrees;
      }

  -- COMPLETE

  equivalent : {C : Automaton} → Found a τ C → Equivalent (task a τ) (view C)
  equivalent {C} f =
      let c = f.candidate in
      record {
        candidate = record {
          formed = view_formed c.valid;
          states = c.states;
          letters = ap (λ k. 2 ^ k) c.propositions;
          sets = c.sets;
          start = c.start;
          accept = λ S. ap₂ (λ (x k : ℕ). has x (set_of k S)) c.acceptance c.sets;
        };
        agrees = f.agrees;
      }

  same_value : {C : Automaton} → Candidate a τ C → (ν : Assignment) → AllStep a τ ν → SameTable (decoded_table a τ ν) (view C) → decoded_value a τ ν ≡ C
  same_value {C} c ν t s =
      let d = decoded_view v z ν t in
      let same : Same (decoded_value a τ ν) C = record {
        states = sym c.states;
        start = sym c.start;
        propositions = sym c.propositions;
        sets = sym c.sets;
        acceptance = sym c.acceptance;
        steps = λ q l hq hl. d.step q l hq hl ∙ s.step q l hq hl;
        marks = λ q l i hq hl hi. d.marks q l i hq hl hi ∙ s.marks q l i hq hl hi;
        names = λ i h. sym (c.names i h);
      } in
      equal_values (decoded_valid v z ν t) c.valid same

  pub found_decoded : (C : Automaton) → Found a τ C → (ν : Assignment) × Satisfies ν (file a τ) × (decoded_value a τ ν ≡ C)
  found_decoded C f =
      let (ν, s, same) = (named_encodes (view a) (named τ) (view_formed v) z.dimensioned.n_some).complete (view C) (equivalent f) f.candidate.kind in
      (ν, s, same_value f.candidate ν (satisfying_steps ν s) same)

  -- so the file can be satisfied if and only if there is such a candidate
  pub satisfiable : ((ν : Assignment) × Satisfies ν (file a τ)) ↔ ((C : Automaton) × Found a τ C)
  satisfiable = (λ (ν, s). (decoded_value a τ ν, satisfying_found ν s), λ (C, f). (let (ν, s, e) = found_decoded C f in (ν, s)))
