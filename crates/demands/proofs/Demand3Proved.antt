-- The proof of `Demand3`.
use Rattle.std.specs.Prelude.{◌≡◌, refl, ◌↔◌, Result, Ok, List, ℕ, ◌≤◌, length}
use Rattle.std.proofs.Common.{sym, ap, subst, arith}
use Rattle.std.proofs.Math.Option.{none}
use Rattle.automaton.specs.declared.Automaton.{Automaton}
use Rattle.refusals.specs.declared.Refusal.{Refusal}
use Rattle.automaton.specs.Value.{Valid}
use Rattle.automaton.specs.View.{view}
use Rattle.automaton.specs.ViewLaws.{view_formed}
use Rattle.encoding.specs.Clauses.{Assignment, Satisfies}
use Rattle.encoding.specs.NamedFile.{step_number, mark_number, path_number, named_length, first_sharing}
use Rattle.encoding.proofs.NamedTheorem.{named_encodes}
use Rattle.compare.specs.Compared.{prefix_room, loop_room}
use Rattle.clause_sizes.specs.declared.Listing.{Listing}
use Rattle.clause_sizes.specs.declared.Target.{Target}
use Rattle.clause_sizes.specs.Targets.{which, listed, Proper, last, kept, file, named}
use Rattle.clause_header.proofs.Heading.{header_is}
use Rattle.clause_step.specs.HandsOut.{hands_out}
use Rattle.clause_text.specs.LinesOut.{lines_out}
use Rattle.solver_text.specs.declared.Reader.{Reader}
use Rattle.solver_agreement.specs.Assignment.{States}
use Rattle.solver_text.specs.Calls.{joined}
use Rattle.decode.specs.declared.Decoded.{Decoded}
use Rattle.decode.specs.declared.Decoded.TheVariants.{Table}
use Rattle.decode.specs.Answers.{Untouched, Decodes}
use Rattle.decode.specs.Found.{Found}
use Rattle.decode.specs.Candidates.{satisfying_steps, satisfying_found, found_decoded, satisfiable as can-be-satisfied}
use Rattle.decode.specs.Texts.{satisfying_text, satisfying_ended}
use Rattle.decode.specs.Table.{decoded_value}
use Rattle.decode.specs.Value.{decoded_same_value}
use Rattle.demands.specs.Demand3.{Held, Delivers, Demand3, read, ended}

module _ {reference : Automaton} {τ : Target} (v : Valid reference) (d : Proper τ) where
  delivered : (ν : Assignment) → Satisfies ν (file reference τ) → (pieces : List (List ℕ)) → States (last reference τ) (kept reference τ) (joined pieces) ν
      → (r : Reader) → Held reference τ pieces r → (prefix prefix-after loop loop-after : List ℕ) (answer : Result Decoded Refusal)
      → Decodes prefix prefix-after loop loop-after answer reference τ r → Delivers (decoded_value reference τ ν) prefix prefix-after loop loop-after answer
  delivered ν s pieces t r h prefix prefix-after loop loop-after answer c = record {
    table = by_held h c;
    short_prefix = c.short_prefix;
    short_loop = c.short_loop;
  }
    where
      by_held : {r : Reader} → Held reference τ pieces r → Decodes prefix prefix-after loop loop-after answer reference τ r → prefix_room ≤ length prefix → loop_room ≤ length loop
          → Untouched prefix prefix-after loop loop-after answer (Ok (Table (decoded_value reference τ ν))) none
      by_held (read k) c p l = satisfying_text v d p l ν s k t c
      by_held (ended k e) c p l = satisfying_ended v d p l ν s k t e c

  every_field : Demand3 reference τ
  every_field = record {
    clauses = hands_out v d;
    lines = lines_out v d;
    header = header_is v d;
    count = named_length (view reference) (named τ);
    count_first = λ e. first_sharing (view reference) (named τ) (ap which e);
    first_numbers = λ e. path_number (view reference) (named τ) (ap which e);
    step_numbers = step_number (view reference) (named τ);
    mark_numbers = mark_number (view reference) (named τ);
    satisfiable = can-be-satisfied v d;
    within = λ ν ξ same s. (
      (named_encodes (view reference) (named τ) (view_formed v) d.dimensioned.n_some).within ν ξ same s,
      decoded_same_value reference τ ν ξ (λ k i j. same k i (omega arith)) (satisfying_steps v d ν s),
    );
    decodes = satisfying_found v d;
    delivers = λ ν s text t pieces e. delivered ν s pieces (subst (λ t. States (last reference τ) (kept reference τ) t ν) (sym e) t);
    complete = found_decoded v d;
  }

-- for every reference in "The automaton", "n states (1 to 8), m sets (0 to 4)", and every acceptance of the candidate without "a yes past m"
pub demand_3 : {reference : Automaton} {τ : Target} → Valid reference → Proper τ → Demand3 reference τ
demand_3 v d = every_field v d

-- ---- either list

-- "For each reference, size and acceptance one list can be satisfied exactly if the other can, and the facts about decoding are proved over either choice": w and w₂ name lists, one or both
pub record EitherList (reference : Automaton) (τ : Target) (w w₂ : Listing) : Type 0 where
  pub satisfiable : ((ν : Assignment) × Satisfies ν (file reference (listed τ w))) ↔ ((ν : Assignment) × Satisfies ν (file reference (listed τ w₂)))
  -- what satisfies the one decodes to the same automata as what satisfies the other
  pub decoded : (C : Automaton) → ((ν : Assignment) × Satisfies ν (file reference (listed τ w)) × (decoded_value reference (listed τ w) ν ≡ C))
      ↔ ((ν : Assignment) × Satisfies ν (file reference (listed τ w₂)) × (decoded_value reference (listed τ w₂) ν ≡ C))

module _ {reference : Automaton} {τ : Target} (v : Valid reference) (d : Proper τ) where
  -- a target with another list has the same sizes and acceptance
  listed_proper : (w : Listing) → Proper (listed τ w)
  listed_proper w = record { dimensioned = record { n_some = d.dimensioned.n_some; n_le = d.dimensioned.n_le; m_le = d.dimensioned.m_le }; sets_owned = d.sets_owned }

  -- the automata that are looked for are the same
  same_found : (w w₂ : Listing) (C : Automaton) → Found reference (listed τ w) C → Found reference (listed τ w₂) C
  same_found w w₂ C f =
      let c = f.candidate in
      record {
        candidate = record {
          valid = c.valid;
          states = c.states;
          sets = c.sets;
          acceptance = c.acceptance;
          start = c.start;
          kind = c.kind;
          propositions = c.propositions;
          names = c.names;
        };
        agrees = f.agrees;
      }

  one_way : (w w₂ : Listing) (C : Automaton) → (ν : Assignment) × Satisfies ν (file reference (listed τ w)) × (decoded_value reference (listed τ w) ν ≡ C)
      → (ν : Assignment) × Satisfies ν (file reference (listed τ w₂)) × (decoded_value reference (listed τ w₂) ν ≡ C)
  one_way w w₂ C (ν, s, e) =
      found_decoded v (listed_proper w₂) C (same_found w w₂ C (subst (Found reference (listed τ w)) e (satisfying_found v (listed_proper w) ν s)))

  pub either_list : (w w₂ : Listing) → EitherList reference τ w w₂
  either_list w w₂ = record {
    satisfiable = (to w w₂, to w₂ w);
    decoded = λ C. (one_way w w₂ C, one_way w₂ w C);
  }
    where
      to : (w w₂ : Listing) → (ν : Assignment) × Satisfies ν (file reference (listed τ w)) → (ν : Assignment) × Satisfies ν (file reference (listed τ w₂))
      to w w₂ (ν, s) = let t = one_way w w₂ (decoded_value reference (listed τ w) ν) (ν, s, refl) in (t.0, t.1)
