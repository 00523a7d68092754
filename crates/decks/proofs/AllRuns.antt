-- Acceptance `0 t`, one state, k = 0: its file for n = 1 and m = 0, and what four solver texts give.
use Rattle.std.specs.Prelude.{◌≡◌, refl, Ok, true, List, [], ◌∷◌, ◌+◌, eqb, ℤ, pos, negsuc, get_or, replicate}
use Rattle.std.proofs.Common.{sym, ap, subst, ◌∙◌, ⊎_elim, arith}
use Rattle.std.proofs.Math.Bool.{xor}
use Rattle.std.proofs.lemmas.Bool.{false≢true}
use Rattle.std.proofs.Math.Option.{none}
use Rattle.std.proofs.Math.Arith.{lt-one}
use Rattle.meaning.specs.Agreement.{Agree}
use Rattle.meaning.specs.BitSet.{set_of}
use Rattle.meaning.specs.ClosedLoop.{CyclesAgree}
use Rattle.meaning.proofs.CycleLemma.{cycles→agree}
use Rattle.automaton.specs.declared.Automaton.{Automaton}
use Rattle.refusals.specs.declared.Refusal.TheVariants.{Literal, NoStep}
use Rattle.refusals.specs.Refused.{row}
use Rattle.automaton.specs.Value.{Valid}
use Rattle.automaton.specs.View.{view}
use Rattle.automaton.specs.ViewLaws.{view_formed}
use Rattle.encoding.specs.Clauses.{each, only, not_marks, totality, initial, successor, extension, closure, exactly_one, group₁, group₂, group₃, group₄, file as task-file, Assignment, Satisfies, destination}
use Rattle.solver_scan.specs.declared.Verdict.TheVariants.{Satisfiable}
use Rattle.solver_scan.specs.SolverText.{Seen, gives, blank, digit, digit19, settled, judged, outcome}
use Rattle.solver_agreement.specs.Assignment.{asserted}
use Rattle.solver_agreement.specs.Table.{table}
use Rattle.decode.specs.Table.{decoded_value, AllStep, LowestWithout}
use Rattle.decode.specs.Answers.{ByComparison}
use Rattle.decode.specs.declared.Decoded.TheVariants.{Table}
use Rattle.automaton.specs.Bytes.{bytes}
use Rattle.clause_sizes.specs.Limits.{every_proper}
use Rattle.clause_sizes.specs.Targets.{every, Proper, task, numbers, file}
use Rattle.hoa_text.specs.Grammar as grammar
use Rattle.hoa_text.specs.Formulas.{deepest}
use Rattle.hoa_text.specs.Header.{item_read}
use Rattle.hoa_text.specs.Body.{body_read}
use Rattle.hoa_text.specs.Reading.{read}
use Rattle.hoa_text.specs.Accepted.{accepted_valid}
use Rattle.decks.specs.Words as words
use Rattle.decks.specs.Words.{Counts, Stating, DecodedAs, DecoderRefuses, SolverTextRefused}
use Rattle.decks.proofs.Solver.{by_assignment, text_refused, stating}
use Rattle.decks.proofs.TestedLaws.{tested_satisfies}

abbrev pub all_runs : Automaton
all_runs = record {
  states = 1;
  start = 0;
  propositions = 0;
  sets = 0;
  acceptance = 1;
  lengths = replicate 4 0;
  names = replicate 64 0;
  destinations = replicate 256 0;
  marks = replicate 256 0;
}

pub all_runs_read : read (bytes "HOA: v1 States: 1 Start: 0 Acceptance: 0 t --BODY-- State: 0 [t] 0 --END--") ≡ grammar.gives all_runs
unfolding read item_read body_read deepest set_of
all_runs_read = refl

pub all_runs_counts : Counts all_runs (every 1 0) 2 4
unfolding each only set_of not_marks totality initial successor extension closure exactly_one group₁ group₂ group₃ group₄ task-file xor
all_runs_counts = record { last_variable_lem = refl; count = refl }

-- ---- solver texts

valid : Valid all_runs
valid = accepted_valid _ all_runs_read

sizes : Proper (every 1 0)
sizes = every_proper (record { n_some = omega arith; n_le = omega arith; m_le = omega arith })

-- the literals named, the last one first
abbrev naming : List ℤ → Seen
naming ls = record { verdict = Satisfiable; listed = true; closed = true; literals = ls }

-- what a reader keeps of them
abbrev keeping : List ℤ → Assignment
keeping ls k = eqb (get_or (table 1 ls) k 0) 1

one_two : outcome 2 1 (bytes "s SATISFIABLE\nv 1 2 0") ≡ gives (naming (pos 2 ∷ pos 1 ∷ []))
unfolding outcome blank digit digit19 settled judged
one_two = refl

pub states_satisfying : Stating all_runs (every 1 0) (bytes "s SATISFIABLE\nv 1 2 0") (λ ν. Satisfies ν (file all_runs (every 1 0)))
unfolding each only set_of not_marks totality initial successor extension closure exactly_one group₁ group₂ group₃ group₄ task-file xor
states_satisfying = let ν : Assignment = λ k. asserted k (pos 2 ∷ pos 1 ∷ []) in (ν, stating one_two refl, tested_satisfies ν (file all_runs (every 1 0)) refl)

pub all_runs_some : words.Satisfiable all_runs (every 1 0)
all_runs_some = let (ν, t, s) = states_satisfying in (ν, s)

-- the one step is true, and the table is the reference
one_two_steps : AllStep all_runs (every 1 0) (keeping (pos 2 ∷ pos 1 ∷ []))
unfolding table
one_two_steps q l hq hl = rw (lt-one hq, lt-one hl) (0, omega arith, refl)

one_two_table : decoded_value all_runs (every 1 0) (keeping (pos 2 ∷ pos 1 ∷ [])) ≡ all_runs
unfolding table each set_of destination
one_two_table = refl

itself : Agree (view all_runs) (view all_runs)
unfolding CyclesAgree
itself = let F = view_formed valid in cycles→agree (record { formed_A = F; formed_B = F; same_letters = refl }) (λ x y ox oy ne ca cb. refl)

pub one_two_decoded : DecodedAs all_runs (every 1 0) (bytes "s SATISFIABLE\nv 1 2 0") (Ok (Table all_runs)) none
one_two_decoded q h prefix prefix-after loop loop-after hp hl x d =
    let t = (by_assignment valid sizes h hp hl d one_two refl).table one_two_steps in
    (subst (λ C. ByComparison prefix prefix-after loop loop-after x all_runs C) one_two_table t).same itself

minus_one : outcome 2 1 (bytes "s SATISFIABLE\nv -1 2 0") ≡ gives (naming (pos 2 ∷ negsuc 0 ∷ []))
unfolding outcome blank digit digit19 settled judged
minus_one = refl

pub states_no_step : Stating all_runs (every 1 0) (bytes "s SATISFIABLE\nv -1 2 0") (λ ν. destination (task all_runs (every 1 0)) (numbers all_runs (every 1 0)) ν 0 0 ≡ 1)
unfolding destination
states_no_step = (λ k. asserted k (pos 2 ∷ negsuc 0 ∷ []), stating minus_one refl, refl)

minus_one_lowest : LowestWithout all_runs (every 1 0) (keeping (pos 2 ∷ negsuc 0 ∷ [])) 0 0
unfolding table
minus_one_lowest = record {
  state_lt = omega arith;
  letter_lt = omega arith;
  no_step = λ (p, hp, e). false≢true (ap (λ p. keeping (pos 2 ∷ negsuc 0 ∷ []) (1 + p)) (sym (lt-one hp)) ∙ e);
  before = λ p j hj. ⊎_elim (λ h. absurd (omega arith)) (λ h. absurd (omega arith));
}

pub minus_one_decoded : DecoderRefuses all_runs (every 1 0) (bytes "s SATISFIABLE\nv -1 2 0") (row 11 0 0)
minus_one_decoded =
    (NoStep 0 0, refl, λ q h prefix prefix-after loop loop-after hp hl x d. (by_assignment valid sizes h hp hl d minus_one refl).no_step 0 0 minus_one_lowest)

pub one_three_refused : SolverTextRefused all_runs (every 1 0) (bytes "s SATISFIABLE\nv 1 3 0") (row 10 18 0)
unfolding outcome blank digit digit19 settled judged
one_three_refused = text_refused valid sizes {f = Literal 18} refl

pub one_one_refused : SolverTextRefused all_runs (every 1 0) (bytes "s SATISFIABLE\nv 1 1 0") (row 10 18 0)
unfolding outcome blank digit digit19 settled judged
one_one_refused = text_refused valid sizes {f = Literal 18} refl
