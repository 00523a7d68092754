-- The word behind the line of 12, as the function that prints it promises it.
use Rattle.std.specs.Prelude.{◌≡◌, List, ℕ, length, take, Some, Result, Ok, Err}
use Rattle.console_report.specs.Lines.{word_lines}
use Rattle.console_decoded.specs.declared.Output.{Output}
use Rattle.console_decoded.specs.Printed.{unworded}

-- the line, and the word exactly if the output took it
abbrev pub HandsBehind : Result ℕ ℕ → (p l : ℕ) → (prefix loop : List ℕ) → Output → Type 0
HandsBehind (Ok k) p l prefix loop r = r ≡ record { answer = k; word = Some (length (word_lines (take p prefix) (take l loop))) }
HandsBehind (Err k) p l prefix loop r = r ≡ unworded k
