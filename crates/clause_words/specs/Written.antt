-- DEFINITIONS: the text of literals and of a line, written where there is room.
use Rattle.std.specs.Prelude.{◌≡◌, List, ℕ, ◌+◌, ◌*◌, ◌≤◌, ◌<◌, ℤ, length}
use Rattle.decimal.specs.Wrote.{Wrote, WroteIfRoom}
use Rattle.clause_words.specs.Text.{spaced_text, line_text}

-- where there are 12 bytes for each literal, and otherwise nothing: the place stays
pub record LiteralsIfRoom (d : List ℕ) (at : ℕ) (c : List ℤ) (e : List ℕ) (r : ℕ) : Type 0 where
  pub roomy : at + length c * 12 ≤ length d → Wrote d at (spaced_text c) e r × (r ≤ at + length c * 12)
  pub short : length d < at + length c * 12 → (e ≡ d) × (r ≡ at)

-- of at most 8 literals, and otherwise nothing
pub record LineIfRoom (d : List ℕ) (at : ℕ) (c : List ℤ) (e : List ℕ) (r : ℕ) : Type 0 where
  pub line : length c ≤ 8 → WroteIfRoom d at (line_text c) e r
  pub long : 8 < length c → (e ≡ d) × (r ≡ at)
