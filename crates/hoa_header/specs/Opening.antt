-- Contracts of the functions that read the items up to `--BODY--`.
use Rattle.std.specs.Prelude.{◌≡◌, Result, true, List, ℕ, ◌-◌, ◌≤◌, length, drop}
use Rattle.automaton.specs.Bytes.{bytes}
use Rattle.refusals.specs.declared.Refusal.{Refusal}
use Rattle.hoa_text.specs.Basics.{begins}
use Rattle.hoa_text.specs.Grammar.{repeat}
use Rattle.hoa_text.specs.Header.{Items, opening, item_read, no_items}
use Rattle.hoa_text.specs.Tokens.{left}
use Rattle.hoa_header.specs.declared.HeaderRead.{HeaderRead}
use Rattle.hoa_header.specs.declared.items.Items as Code
use Rattle.hoa_header.specs.Answers.{Answered}
use Rattle.hoa_header.specs.Kept.{kept}

-- the items from i on
abbrev pub ReadsItems : List ℕ → ℕ → Result HeaderRead Refusal → Type 0
ReadsItems s i r = Answered s (repeat item_read no_items (left s i)) r

-- `--BODY--` at o, up to e
abbrev pub Opens : Code.Items → ℕ → ℕ → Result HeaderRead Refusal → Type 0
Opens c o e r =
    (h : Items) → c ≡ kept h → (s : List ℕ) → e ≤ length s → begins (bytes "--BODY--") (drop (e - 8) s) ≡ true → Answered s (opening h o (left s e)) r
