-- Contracts of the functions that read the names, one by one.
use Rattle.std.specs.Prelude.{◌≡◌, Result, Ok, Err, false, List, [], ◌∷◌, ◌++◌, ℕ, suc, ◌-◌, ◌≤◌, ◌<◌, length, get_or}
use Rattle.refusals.specs.declared.Refusal.{Refusal}
use Rattle.hoa_text.specs.Tokens.{blank, left}
use Rattle.hoa_text.specs.Grammar.{gives, refuses, Parsed}
use Rattle.hoa_text.specs.Header.{name_given, naming}
use Rattle.hoa_names.specs.declared.Names.{Names}
use Rattle.hoa_names.specs.declared.NamesRead.{NamesRead}
use Rattle.hoa_names.specs.Answers.{held}

-- x gives the names that n holds, and e is directly behind the last token of them
pub record Read (s : List ℕ) (i : ℕ) (x : Parsed (List (List ℕ))) (n : Names) (e : ℕ) : Type 0 where
  pub words : List (List ℕ)
  pub is : x ≡ gives (words, left s e)
  pub holds : n ≡ held words
  pub from : i ≤ e
  pub to : e ≤ length s
  pub behind : blank (get_or s (e - 1) 0) ≡ false

abbrev pub Answers : List ℕ → ℕ → Parsed (List (List ℕ)) → Result NamesRead Refusal → Type 0
Answers s i x (Ok r) = Read s i x r.names r.end
Answers s i x (Err z) = x ≡ refuses z

-- no name is longer than its slot
abbrev pub Short : List ℕ → Type 0
Short lengths = (i : ℕ) → get_or lengths i 0 ≤ 16

-- there is room for one more name
pub record Roomy (n : Names) : Type 0 where
  pub few : n.count < 4
  pub short : Short n.lengths

pub record Slots (ws : List (List ℕ)) (lengths bytes : List ℕ) : Type 0 where
  pub lengths_are : lengths ≡ (held ws).lengths
  pub bytes_are : bytes ≡ (held ws).bytes
  pub short : (i : ℕ) → length (get_or ws i []) ≤ 16

-- n holds the names ws, and there is room for one more
pub record Holds (ws : List (List ℕ)) (n : Names) : Type 0 where
  pub is : n ≡ held ws
  pub few : length ws < 4
  pub short : (i : ℕ) → length (get_or ws i []) ≤ 16

-- one more name, of the bytes w
pub record More (s : List ℕ) (i : ℕ) (ws : List (List ℕ)) (n : Names) (e : ℕ) : Type 0 where
  pub word : List ℕ
  pub is : (k : ℕ) → naming (suc k) ws (left s i) ≡ naming k (ws ++ (word ∷ [])) (left s e)
  pub holds : n ≡ held (ws ++ (word ∷ []))
  pub short : length word ≤ 16
  pub from : i < e
  pub to : e ≤ length s
  pub behind : blank (get_or s (e - 1) 0) ≡ false

abbrev pub MoreAnswered : List ℕ → ℕ → List (List ℕ) → Result NamesRead Refusal → Type 0
MoreAnswered s i ws (Ok r) = More s i ws r.names r.end
MoreAnswered s i ws (Err z) = (k : ℕ) → naming (suc k) ws (left s i) ≡ refuses z

abbrev pub OneMore : List ℕ → ℕ → Names → Result NamesRead Refusal → Type 0
OneMore s i n r = (ws : List (List ℕ)) → Holds ws n → MoreAnswered s i ws r

-- the name w, with its quote at o, after the names ws
pub record Taken (w : List ℕ) (o next : ℕ) (ws : List (List ℕ)) (n : Names) (e : ℕ) : Type 0 where
  pub is : (x : Parsed (List (List ℕ))) → name_given ws o w x ≡ x
  pub holds : n ≡ held (ws ++ (w ∷ []))
  pub short : length w ≤ 16
  pub end : e ≡ next

abbrev pub GivenAnswered : List ℕ → ℕ → ℕ → List (List ℕ) → Result NamesRead Refusal → Type 0
GivenAnswered w o next ws (Ok r) = Taken w o next ws r.names r.end
GivenAnswered w o next ws (Err z) = (x : Parsed (List (List ℕ))) → name_given ws o w x ≡ refuses z

abbrev pub Given : List ℕ → ℕ → ℕ → Names → Result NamesRead Refusal → Type 0
Given w o next n r = (ws : List (List ℕ)) → Holds ws n → GivenAnswered w o next ws r

abbrev pub Added : Names → List ℕ → Names → Type 0
Added n w r = (ws : List (List ℕ)) → Holds ws n → r ≡ held (ws ++ (w ∷ []))
