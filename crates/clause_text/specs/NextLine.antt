-- What the functions that write the next line leave in the buffer and return.
use Rattle.std.specs.Prelude.{◌≡◌, ◌⊎◌, List, [], ℕ, ◌+◌, ◌≤◌, ◌<◌, ℤ, length}
use Rattle.encoding.specs.Variables.{Task, Var}
use Rattle.decimal.specs.Wrote.{Wrote}
use Rattle.clause_list.specs.Next.{Found, handed, ended, clauses_from}
use Rattle.clause_text.specs.declared.batch.Filled.{Filled}
use Rattle.clause_words.specs.Text.{line_text}
use Rattle.clause_text.specs.Filling.{Lines, Longer}

-- one line at the place `at`, or none: no clause is left, or the line does not fit, and then the position stays that from which it was looked for
pub data NextLine (f : Found) (from : ℕ) (d : List ℕ) (at : ℕ) (e : List ℕ) (r : Filled) : Type 0 where
  written : (c : List ℤ) → f ≡ handed c r.position → Wrote d at (line_text c) e r.end → NextLine f from d at e r
  nothing : f ≡ ended r.position → e ≡ d → r.end ≡ at → NextLine f from d at e r
  long : (c : List ℤ) (y : ℕ) → f ≡ handed c y → length d < at + length (line_text c) → e ≡ d → r.end ≡ at → r.position ≡ from → NextLine f from d at e r

-- one line more or several, or none: positions without a clause were passed; or the position stays, and no clause is left or the next line does not fit
pub record Further (T : Task) (num : Var → ℕ) (x : ℕ) (d : List ℕ) (at : ℕ) (e : List ℕ) (k y : ℕ) : Type 0 where
  pub lines : Lines T num x d at e k y
  pub onward : x ≤ y
  pub still : y ≡ x → k ≡ at
  pub stop : k ≡ at → y ≡ x → (clauses_from T num y ≡ []) ⊎ Longer T num (length d) at y
