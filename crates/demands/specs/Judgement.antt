-- DEFINITIONS: how a call is judged by document 01's table "What is turned down": in order, and the first condition that is not met decides.
use Rattle.std.specs.Prelude.{◌≡◌, ◌⊎◌, ◌↔◌, List, [], ◌∷◌, ℕ}
use Rattle.std.proofs.Math.Option.{Option, none, some}
use Rattle.refusals.specs.declared.Code.{Code}
use Rattle.refusals.specs.Refused.{row}

-- what a call must meet, and the number and two values that are returned otherwise
pub record Condition : Type 1 where
  pub met : Type 0
  pub otherwise : Code

abbrev pub asks : Type 0 → (number first second : ℕ) → Condition
asks met number first second = record { met = met; otherwise = row number first second }

-- c is returned: the conditions before some one are met, that one is not, and c is what it gives
abbrev pub TurnedDown : List Condition → Code → Type 0
TurnedDown [] c = ⊥
TurnedDown (x ∷ xs) c = (¬ x.met × (c ≡ x.otherwise)) ⊎ (x.met × TurnedDown xs c)

-- all conditions are met
abbrev pub Accepted : List Condition → Type 0
Accepted [] = Unit {0}
Accepted (x ∷ xs) = x.met × Accepted xs

-- Exactly the calls that do not meet the conditions are turned down, each with its number and values, and then all that was lent or carried is `kept`;
-- "all else accepted". `said` is what is returned, or none where a call is accepted.
pub record Judged (conditions : List Condition) (said : Option Code) (kept : Type 0) : Type 0 where
  pub refused : (c : Code) → (said ≡ some c) ↔ TurnedDown conditions c
  pub accepted : (said ≡ none) ↔ Accepted conditions
  pub untouched : (c : Code) → said ≡ some c → kept
