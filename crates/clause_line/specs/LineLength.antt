-- 80 BYTES SUFFICE for a line: a clause has at most 8 literals, and a literal at most 7 digits and a minus.
use Rattle.std.specs.Prelude.{◌≡◌, refl, ℕ, zero, suc, ◌+◌, ◌*◌, ◌≤◌, ◌<◌, ℤ, negsuc, neg_ℤ, nat_abs}
use Rattle.std.proofs.Common.{sym, ◌∙◌, subst, ⊎_elim, arith}
use Rattle.std.proofs.Math.Path.{ap}
use mathlib.Core.List.{List, [], ◌∷◌, Memᴰ}
use Rattle.std.proofs.Math.Nat.{mul-one}
use Rattle.std.proofs.Math.IntN.{pos}
use Rattle.std.proofs.Math.ListN.{length, length-append}
use Rattle.meaning.specs.Automata.{Aut, WellFormed}
use Rattle.automaton.specs.declared.Automaton.{Automaton}
use Rattle.automaton.specs.Value.{Valid}
use Rattle.automaton.specs.View.{view}
use Rattle.automaton.specs.ViewLaws.{view_formed}
use Rattle.encoding.specs.Variables.{Task, Var}
use Rattle.encoding.specs.Clauses.{not_marks, totality, initial, successor, extension, closure}
use Rattle.encoding.specs.Loops.{each_length}
use Rattle.encoding.specs.Membership.{Listed, a_totality, the_initial, a_successor, an_extension, a_closure, listed}
use Rattle.encoding.specs.Literals.{IsLiteral}
use Rattle.encoding.proofs.LiteralLaws.{literals}
use Rattle.encoding.specs.NamedFile.{named_numbering}
use Rattle.encoding.proofs.NamedTheorem.{named_well_posed}
use Rattle.encoding.specs.Named.{task_for, number_for, variables_for, file_for, Named}
use Rattle.decimal.specs.Digits.{decimal_at_most}
use Rattle.clause_sizes.specs.declared.Target.{Target}
use Rattle.clause_sizes.specs.Targets.{named, Proper, task, numbers, file}
use Rattle.clause_sizes.specs.declared.Sizes.{Sizes}
use Rattle.clause_sizes.specs.Numbers.{number_of}
use Rattle.clause_sizes.specs.Sizes.{target_of}
use Rattle.clause_sizes.specs.Limits.{sizes_fit, last_le, file_variables}
use Rattle.clause_list.specs.Tables.{tabled, task_of, Tables}
use Rattle.clause_list.specs.Next.{handed, next_clause, clauses_from}
use Rattle.clause_list.specs.Following.{from_in_file, found_in_file, same_next}
use Rattle.clause_list.specs.Rows.{tables_formed, tables_posed, numbers_tabled, variables_tabled}
use Rattle.clause_step.specs.Step.{found_from}
use Rattle.clause_words.specs.Text.{literal_text, line_text}

-- ---- the text of a literal, and of a line

literal_le : (x : ℤ) → nat_abs x ≤ 4_199_424 → length (literal_text x) ≤ 8
literal_le (pos k) h = omega (arith, decimal_at_most k 7 (omega arith) (omega arith))
literal_le (negsuc k) h = omega (arith, decimal_at_most (k + 1) 7 (omega arith) (omega arith))

line_le : (c : List ℤ) → ((x : ℤ) → Memᴰ x c → nat_abs x ≤ 4_199_424) → length (line_text c) ≤ 9 * length c + 2
line_le [] h = omega arith
line_le (x ∷ c) h =
    let ih : length (line_text c) ≤ 9 * length c + 2 = line_le c (λ y k. h y (Memᴰ.tail k)) in
    simp length-append (omega (arith, literal_le x (h x (Memᴰ.head refl))))

-- ---- the clauses

module _ (T : Task) (num : Var → ℕ) where
  marks_length : (p l t K : ℕ) → length (not_marks T num p l t K) ≡ T.m
  unfolding not_marks
  marks_length p l t K = each_length T.m 1 _ (λ i h. refl) ∙ mul-one T.m

  clause_length : (c : List ℤ) → T.n ≤ 8 → T.m ≤ 4 → Listed T num c → length c ≤ 8
  unfolding totality initial successor extension closure
  clause_length c hn hm (a_totality q l hq hl e) =
      omega (arith, ap length e ∙ each_length T.n 1 (λ p. pos (num (Var.step q l p)) ∷ []) (λ i h. refl))
  clause_length c hn hm (the_initial e) = omega (arith, ap length e)
  clause_length c hn hm (a_successor q p u l h hu e) = omega (arith, ap length e)
  clause_length c hn hm (an_extension q p t u v l I J K h₁ h₂ hK k e) = omega (arith, simp length-append at (ap length e), marks_length p l t K)
  clause_length c hn hm (a_closure q p v l I J K h hv hI hJ hK k x e) = omega (arith, ap length e, marks_length p l q K)

abs_negated : (k : ℕ) → nat_abs (neg_ℤ (pos k)) ≡ k
abs_negated zero = refl
abs_negated (suc k) = refl

literal_variable : (num : Var → ℕ) (x : ℤ) (y : Var) → IsLiteral num x y → nat_abs x ≡ num y
literal_variable num x y = ⊎_elim (λ e. ap nat_abs e) (λ e. ap nat_abs e ∙ abs_negated (num y))

-- a line of the file
file_line_le : (R : Aut) (t : Named) → WellFormed R → 0 < t.n → t.n ≤ 8 → t.m ≤ 4 → variables_for R t ≤ 4_199_424
    → (c : List ℤ) → Memᴰ c (file_for R t) → length (line_text c) ≤ 80
file_line_le R t F some hn hm hV c k =
    let num = number_for R t in
    omega (
      arith,
      clause_length (task_for R t) num c hn hm ((listed (task_for R t) num c).0 k),
      line_le c (λ x i.
          let (y, here, e) = literals (named_well_posed R t F some) num c k x i in
          omega (arith, literal_variable num x y e, (named_numbering R t).to_last y here, hV)),
    )

pub found_line_le : (z : Sizes) (start : ℕ) (destinations marks : List ℕ) → Tables z destinations marks → start < z.reference.states
    → {c : List ℤ} {y : ℕ} (x : ℕ) → next_clause (task_of z start destinations marks) (number_of z) x ≡ handed c y → length (line_text c) ≤ 80
found_line_le z start destinations marks tables h {c} x e =
    let f = tables.fits in
    let T = task_of z start destinations marks in
    let R = tabled z start destinations marks in
    let t = named (target_of z) in
    let same = same_next (tables_posed tables h) (number_of z) (number_for R t) (numbers_tabled tables start) x in
    file_line_le R t (tables_formed tables h) f.n_some f.n_le f.m_le (subst (λ k. k ≤ 4_199_424) (variables_tabled tables start) (last_le f)) c
    (found_in_file T (number_for R t) x (sym same ∙ e))

module _ {a : Automaton} {τ : Target} (v : Valid a) (t : Proper τ) where
  reference_line_le : (c : List ℤ) → Memᴰ c (file a τ) → length (line_text c) ≤ 80
  reference_line_le = let f = sizes_fit v t in file_line_le (view a) (named τ) (view_formed v) f.n_some f.n_le f.m_le (subst (λ k. k ≤ 4_199_424) (file_variables τ v) (last_le f))

  -- the line of a clause that is handed out, or is left, of the file for a reference
  pub step_line_le : (x : ℕ) {c : List ℤ} {y : ℕ} → found_from a τ x ≡ handed c y → length (line_text c) ≤ 80
  step_line_le x {c} e = reference_line_le c (found_in_file (task a τ) (numbers a τ) x e)

  pub left_line_le : (y : ℕ) {c : List ℤ} {cs : List (List ℤ)} → clauses_from (task a τ) (numbers a τ) y ≡ c ∷ cs → length (line_text c) ≤ 80
  left_line_le y {c} e = reference_line_le c (from_in_file (task a τ) (numbers a τ) y (subst (Memᴰ c) (sym e) (Memᴰ.head refl)))
