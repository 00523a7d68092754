-- THE FILE THAT THE CALLER NAMES: the numbers and the counts for it.
use Rattle.std.specs.Prelude.{◌≡◌, ℕ, ◌+◌, ◌-◌, ◌*◌, ◌^◌, ◌≤◌, length}
use Rattle.std.proofs.Math.Path.{refl}
use Rattle.std.proofs.Common.{sym, ap, ap₂, ◌∙◌, arith}
use Rattle.std.proofs.Math.Arith.{digits_lt}
use Rattle.meaning.specs.Automata.{Aut}
use Rattle.meaning.specs.Counting.{total}
use Rattle.encoding.specs.Variables.{Task, Var, step, mark, path, Present, sharing}
use Rattle.encoding.specs.Clauses.{group₄}
use Rattle.encoding.specs.Named.{Named, Listing, first, second, kept_by, paths_by, KindFor, task_for, marks_for, paths_for, number_for, table_variables_for, variables_for, file_for}
use Rattle.encoding.specs.Numbering.{Numbering, MarkLaws, PathLaws, numbering, variable, representative, variable_number}
use Rattle.encoding.specs.Blocks.{transition_marks_laws, mark_at_place, all_paths_laws}
use Rattle.encoding.specs.KeptPaths.{row, rank, kept_paths_laws, kept_place, kept_size}
use Rattle.meaning.specs.Totals.{total_same, total_const, how_many_all}
use Rattle.encoding.specs.Counts.{length_file, sharing_all}

-- ---- what depends on the list

module _ (R : Aut) (n m acceptance : ℕ) where
  abbrev of : Listing → Named
  of w = record { n = n; m = m; acceptance = acceptance; listing = w }

  path_laws : (w : Listing) → PathLaws (task_for R (of w)) (paths_for R (of w))
  path_laws first = all_paths_laws (task_for R (of first)) (λ u v. refl)
  path_laws second = kept_paths_laws (task_for R (of second))

  -- all states are in every row of the first list
  all_rows : (u : ℕ) → total u (row (task_for R (of first))) ≡ u * R.states
  all_rows u = total_same u _ (λ i. R.states) (λ i h. how_many_all R.states _ (λ v g. refl)) ∙ total_const u R.states

  place_by_rows : (w : Listing) (q u p v I J : ℕ) → Present (task_for R (of w)) (path q u p v I J)
      → (paths_for R (of w)).place q u p v I J
      ≡ ((n * (q * total R.states (row (task_for R (of w))) + total u (row (task_for R (of w)))) + p * row (task_for R (of w)) u + rank (task_for R (of w)) u v) * 2 ^ m + I) * 2 ^ R.sets + J
  place_by_rows first q u p v I J h =
      let r = R.states in
      let pair : ((q * r + u) * n + p) * r + v ≡ n * (q * (r * r) + u * r) + p * r + v = omega arith in
      ap (λ x. (x * 2 ^ m + I) * 2 ^ R.sets + J)
      (pair ∙ ap₂ (λ x y. x + y) (ap₂ (λ x y. n * x + p * y) (ap₂ (λ x y. q * x + y) (sym (all_rows r)) (sym (all_rows u))) (sym (how_many_all r _ (λ v g. refl)))) (sym (how_many_all v _ (λ i g. refl))))
  place_by_rows second q u p v I J h = kept_place (task_for R (of second)) q u p v I J h

  size_by_rows : (w : Listing) → (paths_for R (of w)).size ≡ n * n * total R.states (row (task_for R (of w))) * 2 ^ m * 2 ^ R.sets
  size_by_rows first =
      let r = R.states in
      let squares : n * r * n * r ≡ n * n * (r * r) = omega arith in
      ap (λ x. x * 2 ^ m * 2 ^ R.sets) (squares ∙ ap (λ x. n * n * x) (sym (all_rows r)))
  size_by_rows second = kept_size (task_for R (of second))

-- ---- the named file

module _ (R : Aut) (t : Named) where
  abbrev n : ℕ
  n = t.n

  abbrev m : ℕ
  m = t.m

  abbrev T : Task
  T = task_for R t

  -- THE NUMBERS, as document 01 writes them
  pub step_number : (q l p : ℕ) → number_for R t (step q l p) ≡ 1 + (q * R.letters + l) * n + p
  step_number q l p = refl

  pub mark_number : (q l i p : ℕ) → number_for R t (mark q l i p) ≡ n * n * R.letters + (1 + ((q * R.letters + l) * m + i) * n + p)
  mark_number q l i p = omega arith

  -- "Stored solver answers belong to the first list": its paths have the numbers of document 01
  pub path_number : t.listing ≡ first → (q u p v I J : ℕ) → number_for R t (path q u p v I J)
      ≡ n * n * R.letters + n * n * R.letters * m + (1 + ((((q * R.states + u) * n + p) * R.states + v) * 2 ^ m + I) * 2 ^ R.sets + J)
  path_number e q u p v I J = ap (λ w. n * n * R.letters + n * n * R.letters * m + (1 + (paths_by w T).place q u p v I J)) e ∙ omega arith

  abbrev marks : MarkLaws T (marks_for R t) (KindFor t)
  marks = transition_marks_laws T

  pub paths : PathLaws T (paths_for R t)
  paths = path_laws R n m t.acceptance t.listing

  -- the place of a path in either list, and how many there are: by the rows of the states that u has paths to
  pub path_place : (q u p v I J : ℕ) → Present (task_for R t) (path q u p v I J)
      → (paths_for R t).place q u p v I J ≡ ((n * (q * total R.states (row (task_for R t)) + total u (row (task_for R t))) + p * row (task_for R t) u + rank (task_for R t) u v) * 2 ^ m + I) * 2 ^ R.sets + J
  path_place = place_by_rows R n m t.acceptance t.listing

  pub path_count : (paths_for R t).size ≡ n * n * total R.states (row (task_for R t)) * 2 ^ m * 2 ^ R.sets
  path_count = size_by_rows R n m t.acceptance t.listing

  -- they run from 1 to V
  pub named_numbering : Numbering (task_for R t) (number_for R t) (variables_for R t) (KindFor t)
  named_numbering = numbering T (marks_for R t) (paths_for R t) marks paths

  -- and back: the variable with the number k
  pub named_variable : ℕ → Var
  named_variable k = variable T (marks_for R t) (paths_for R t) marks paths (k - 1)

  pub named_inverse : (x : Var) → Present (task_for R t) x → named_variable (number_for R t x) ≡ x
  unfolding named_variable transition_marks_laws
  named_inverse x h = variable_number T (marks_for R t) (paths_for R t) marks paths x h ∙ itself x h
    where
      itself : (x : Var) → Present T x → representative T (marks_for R t) (paths_for R t) marks paths x ≡ x
      itself (step q l p) h = refl
      itself (mark q l i p) h = mark_at_place T q l i p h
      itself (path q u p v I J) h = refl

  -- steps and marks come first
  pub step_first : (q l p : ℕ) → Present (task_for R t) (step q l p) → number_for R t (step q l p) ≤ table_variables_for R t
  step_first q l p h = omega (arith, digits_lt (digits_lt h.0 h.1) h.2)

  -- C of the header
  pub named_length : length (file_for R t)
      ≡ n * R.letters + (1 + n * n * R.states * R.letters) + n * n * n * sharing (task_for R t) * 2 ^ m * 2 ^ R.sets * 2 ^ m + length (group₄ (task_for R t) (number_for R t))
  named_length = length_file T (number_for R t)

  -- and of the first list: "n³rrL·2^m·2^s·2^m"
  pub first_sharing : t.listing ≡ first → sharing (task_for R t) ≡ R.states * R.states * R.letters
  first_sharing e = sharing_all T (λ u v. ap (λ w. kept_by w R u v) e)
