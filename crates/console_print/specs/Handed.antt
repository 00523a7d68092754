-- DEFINITION: what is handed over to standard output and standard error. Which bytes reach a file no contract can say: std's `write_all` promises nothing of them. So each
-- function that prints returns how many bytes it handed over, and names the text that has so many.
use Rattle.std.specs.Prelude.{◌≡◌, List, [], ◌∷◌, ◌++◌, ℕ, length, Result, Ok, Err}
use Rattle.automaton.specs.Bytes.{bytes}

-- how many bytes, also where the output did not take them, which is told as an error
abbrev pub handed : Result ℕ ℕ → ℕ
handed (Ok k) = k
handed (Err k) = k

-- the bytes s
abbrev pub Hands : List ℕ → Result ℕ ℕ → Type 0
Hands s r = handed r ≡ length s

-- how a program is called
abbrev pub usage_line : List ℕ → List ℕ
usage_line call = bytes "usage: " ++ (call ++ (10 ∷ []))
