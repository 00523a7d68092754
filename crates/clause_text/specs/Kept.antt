-- Texts that are kept in slots, so that they are spelled once. A slot has the text of one of several names, and its entry among the sizes is the name times 128
-- with the length of the text; 0 where it has none.
use Rattle.std.specs.Prelude.{◌≡◌, ◌⊎◌, ◌≢◌, List, ℕ, ◌*◌, ◌/◌, ◌%◌, ◌≤◌, ◌<◌, length, get_or, take, drop, Option, Some, None}
use Rattle.clause_text.specs.declared.keeping.Store.{Store}

-- what is found in slot k where the name's text is looked for: its length
abbrev pub Looked : (sizes : List ℕ) (k name : ℕ) → Option ℕ → Type 0
Looked sizes k name (Some r) = (get_or sizes k 0 / 128 ≡ name) × (r ≡ get_or sizes k 0 % 128)
Looked sizes k name None = get_or sizes k 0 / 128 ≢ name

module _ (text_of : ℕ → ℕ → List ℕ) (width : ℕ) {count total : ℕ} (s : Store count total) where
  -- the text of slot k for the name stands in it, and so many bytes it has
  pub record Slot (k name : ℕ) : Type 0 where
    pub named : get_or s.sizes k 0 / 128 ≡ name
    pub size : get_or s.sizes k 0 % 128 ≡ length (text_of k name)
    pub fits : length (text_of k name) ≤ width
    pub text : take (length (text_of k name)) (drop (k * width) s.bytes) ≡ text_of k name

  -- each slot has a text, or none
  pub record Kept : Type 0 where
    pub slots : length s.sizes ≡ count
    pub each : (k : ℕ) → k < count → (get_or s.sizes k 0 ≡ 0) ⊎ Slot k (get_or s.sizes k 0 / 128)

  -- slot k has the name's text, of r bytes
  pub record Found (k name r : ℕ) : Type 0 where
    pub all : Kept
    pub slot : Slot k name
    pub size : r ≡ length (text_of k name)
