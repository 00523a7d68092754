-- The text that is written of an automaton has at most 8,192 bytes.
use Rattle.std.specs.Prelude.{Bool, true, false, cond, List, [], ◌∷◌, ◌++◌, ℕ, zero, suc, ◌+◌, ◌*◌, ◌≤◌, ◌<◌, eqb}
use native.Mathlib.Omega.{arith}
use Rattle.std.proofs.Math.ListN.{length, length-append}
use Rattle.meaning.specs.BitSet.{has}
use Rattle.meaning.specs.Counting.{each}
use Rattle.automaton.specs.declared.Automaton.{Automaton}
use Rattle.automaton.specs.Value.{Valid, letters, destination, mark_set, name}
use Rattle.automaton.specs.Letters.{letters_le}
use Rattle.automaton.specs.Bytes.{bytes}
use Rattle.hoa_text.specs.Written.{decimal, separated, line, states_line, start_line, quoted_name, names_line, names_part, condition_text, acceptance_line, body_line, state_line, literal_of, label_of, members, marks_of, edge_line, state_lines, end_line, text}
use Rattle.hoa_text.specs.Names.{name_length_lem}
use Rattle.hoa_text.specs.Lengths.{cond_le, each_le, decimal_le, digit_le, total, total_each, separated_le}
use Rattle.hoa_text.proofs.ConditionLength.{condition_length}

-- ---- labels and marks

literal_le : (l i : ℕ) → i < 10 → length (literal_of l i) ≤ 2
literal_le l i h = cond_le (has l i) _ _ 2 (omega (arith, digit_le i h)) (omega (arith, digit_le i h))

label_le : (k l : ℕ) → k ≤ 4 → length (label_of k l) ≤ 12
unfolding total
label_le zero l h = omega arith
label_le (suc k) l h =
    let literals : ℕ → List (List ℕ) = λ i. literal_of l i ∷ [] in
    omega (arith, separated_le "&" (each (suc k) literals), total_each 1 3 (suc k) literals (λ i g. omega (arith, literal_le l i (omega arith))))

marks_le : (n m : ℕ) → n ≤ 4 → length (marks_of n m) ≤ 11
unfolding total
marks_le n m h =
    cond_le (eqb m 0) [] (bytes " {" ++ (separated " " us ++ bytes "}")) 11 (omega arith)
    (omega (arith, length-append (separated " " us) (bytes "}"), separated_le " " us, all_le))
  where
    us : List (List ℕ)
    us = members n m

    one : (i : ℕ) (b : Bool) → i < 10 → total 1 (cond b (decimal i ∷ []) []) ≤ 2
    one i true h = omega (arith, digit_le i h)
    one i false h = omega arith

    all_le : total 1 us ≤ 2 * n
    all_le = total_each 1 2 n (λ i. cond (has m i) (decimal i ∷ []) []) (λ i g. one i (has m i) (omega arith))

-- ---- lines

line_le : (u : List ℕ) (c : ℕ) → length u ≤ c → length (line u) ≤ c + 1
line_le u c h = omega (arith, length-append u (10 ∷ []))

module _ (a : Automaton) (v : Valid a) where
  edge_le : (q l : ℕ) → length (edge_line a q l) ≤ 29
  edge_le q l =
      let w = label_of a.propositions l in
      let d = decimal (destination a q l) in
      let m = marks_of a.sets (mark_set a q l) in
      line_le (bytes "[" ++ (w ++ (bytes "] " ++ (d ++ m)))) 28
      (omega (
        arith,
        length-append w (bytes "] " ++ (d ++ m)),
        length-append d m,
        label_le a.propositions l v.propositions_le,
        decimal_le (destination a q l),
        marks_le a.sets (mark_set a q l) v.sets_le,
      ))

  state_le : (q : ℕ) → length (state_lines a q) ≤ 474
  state_le q =
      let few : letters a ≤ 16 = letters_le v in
      let first : length (state_line q) ≤ 10 = line_le (bytes "State: " ++ decimal q) 9 (omega (arith, decimal_le q)) in
      omega (arith, length-append (state_line q) (each (letters a) (edge_line a q)), each_le (letters a) 29 (edge_line a q) (λ l g. edge_le q l))

  quoted_le : (i : ℕ) → i < a.propositions → length (quoted_name a i) ≤ 19
  quoted_le i h = omega (arith, length-append (name a i) (bytes "\""), name_length_lem a v i h, v.name_le i h)

  names_le : length (names_part a) ≤ 83
  names_le =
      let k = a.propositions in
      let ns = each k (quoted_name a) in
      cond_le (eqb k 0) [] (names_line a) 83 (omega arith) (line_le (bytes "AP: " ++ (decimal k ++ ns)) 82
      (omega (arith, length-append (decimal k) ns, decimal_le k, each_le k 19 (quoted_name a) quoted_le, v.propositions_le)))

  acceptance_le : length (acceptance_line a) ≤ 463
  acceptance_le =
      let c = bytes " " ++ condition_text a.sets a.acceptance in
      line_le (bytes "Acceptance: " ++ (decimal a.sets ++ c)) 462
      (omega (arith, length-append (decimal a.sets) c, decimal_le a.sets, condition_length a.sets a.acceptance v.sets_le))

  -- ---- the text

  pub text_le : length (text a) ≤ 8192
  unfolding text
  text_le =
      let b = each a.states (state_lines a) in
      let r₅ = body_line ++ (b ++ end_line) in
      let r₄ = acceptance_line a ++ r₅ in
      let r₃ = names_part a ++ r₄ in
      let r₂ = start_line a ++ r₃ in
      let states : length (states_line a) ≤ 11 = line_le (bytes "States: " ++ decimal a.states) 10 (omega (arith, decimal_le a.states)) in
      let start : length (start_line a) ≤ 10 = line_le (bytes "Start: " ++ decimal a.start) 9 (omega (arith, decimal_le a.start)) in
      omega (
        arith,
        length-append (states_line a) r₂,
        length-append (start_line a) r₃,
        length-append (names_part a) r₄,
        length-append (acceptance_line a) r₅,
        length-append b end_line,
        names_le,
        acceptance_le,
        each_le a.states 474 (state_lines a) (λ q g. state_le q),
        v.states_le,
      )
