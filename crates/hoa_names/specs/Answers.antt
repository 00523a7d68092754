-- DEFINITIONS: the value that holds a list of names (`held`), and what the answer of `propositions` says (`ReadsNames`).
use Rattle.std.specs.Prelude.{◌≡◌, Result, Ok, Err, false, List, [], ℕ, ◌-◌, ◌≤◌, ◌<◌, length, get_or}
use Rattle.automaton.specs.Value.{table, rows}
use Rattle.refusals.specs.declared.Refusal.{Refusal}
use Rattle.hoa_text.specs.Tokens.{blank, left}
use Rattle.hoa_text.specs.Grammar.{refuses}
use Rattle.hoa_text.specs.Header.{Items, names_read, names_item}
use Rattle.hoa_names.specs.declared.Names.{Names}
use Rattle.hoa_names.specs.declared.NamesRead.{NamesRead}

-- slots that are not in use are 0
abbrev pub held : List (List ℕ) → Names
held ws = record {
  count = length ws;
  lengths = table 4 (λ i. length (get_or ws i []));
  bytes = rows 4 (λ i j. get_or (get_or ws i []) j 0);
}

-- From i on stand the names that n holds; h are the items before. e is directly behind the last token of them: the byte before it is no blank.
pub record Named (s : List ℕ) (i : ℕ) (h : Items) (n : Names) (e : ℕ) : Type 0 where
  pub words : List (List ℕ)
  pub is : names_item h (left s i) ≡ names_read h words (left s e)
  pub holds : n ≡ held words
  pub from : i < e
  pub to : e ≤ length s
  pub behind : blank (get_or s (e - 1) 0) ≡ false

abbrev pub NamesAnswered : List ℕ → ℕ → Items → Result NamesRead Refusal → Type 0
NamesAnswered s i h (Ok r) = Named s i h r.names r.end
NamesAnswered s i h (Err z) = names_item h (left s i) ≡ refuses z

-- whatever the items before
abbrev pub ReadsNames : List ℕ → ℕ → Result NamesRead Refusal → Type 0
ReadsNames s i r = (h : Items) → NamesAnswered s i h r
