-- Positions of groups 3 and 4 at which no clause stands, since the list has not the paths that it would name; and stretches of them.
use Rattle.std.specs.Prelude.{◌≡◌, Bool, false, ◌&&◌, List, [], ℕ, ◌+◌, ◌*◌, ◌/◌, ◌≤◌, ◌<◌, get_or}
use Rattle.std.proofs.Common.{ap, ◌∙◌, arith}
use Rattle.encoding.specs.Clauses.{◌∪◌, only}
use Rattle.encoding.specs.Positions.{at_position}
use Rattle.clause_sizes.specs.declared.Sizes.{Sizes}
use Rattle.clause_sizes.specs.Numbers.{number_of}
use Rattle.clause_indices.specs.declared.extent.Extent.{Extent}
use Rattle.clause_indices.specs.Indices.{premise_of, extensions, closures, ExtentOf}
use Rattle.clause_list.specs.Tables.{task_of, Tables}
use Rattle.clause_list.specs.Digits.{closure_indices}
use Rattle.clause_list.specs.Position.{shared_at, extension_at, closes_at, disagree}
use Rattle.clause_list.specs.Standing.{at_extension, at_closure}

-- ---- stretches

-- y is the first multiple of w past x, so that all from x on to it lie in one stretch of w positions
pub record Stretch (x w y : ℕ) : Type 0 where
  pub is : y ≡ (x / w + 1) * w
  pub past : x < y
  pub same : (i : ℕ) → x ≤ i → i < y → i / w ≡ x / w

-- of `count` positions, a whole number of stretches, those past x in its stretch fail the test
pub record Failing (count : ℕ) (test : ℕ → Bool) (x w : ℕ) : Type 0 where
  pub some : 0 < w
  pub width_le : w ≤ 65536
  pub stretches : ℕ
  pub divided : count ≡ stretches * w
  pub fails : (i : ℕ) → x < i → i / w ≡ x / w → test i ≡ false

module _ (z : Sizes) (destinations : List ℕ) where
  abbrev pub ThirdStretch : ℕ → ℕ → Type 0
  ThirdStretch = Failing (extensions z) (shared_at z destinations)

  abbrev pub FourthStretch : ℕ → ℕ → Type 0
  FourthStretch = Failing (closures z) (closes_at z destinations)

-- ---- nothing stands there

pub data Absent (z : Sizes) (g : Extent) (destinations : List ℕ) (i : ℕ) : Type 0 where
  third : (t : ℕ) → i ≡ g.first + (g.second + t) → t < g.third → shared_at z destinations t ≡ false → Absent z g destinations i
  fourth : (t : ℕ) → i ≡ g.first + (g.second + (g.third + t)) → t < closures z → closes_at z destinations t ≡ false → Absent z g destinations i

abbrev pub AbsentBetween : Sizes → Extent → List ℕ → (x y : ℕ) → Type 0
AbsentBetween z g destinations x y = (i : ℕ) → x < i → i < y → Absent z g destinations i

pub absent_empty : {z : Sizes} {g : Extent} {destinations marks : List ℕ} (start : ℕ) → Tables z destinations marks → ExtentOf z g → {i : ℕ} → Absent z g destinations i
    → at_position (task_of z start destinations marks) (number_of z) i ≡ []
unfolding only
absent_empty {z} {g} {destinations} {marks} start tables k (third t e h n) =
    at_extension z start destinations marks tables k {y = g.second + t} {t = t} (omega arith) (omega arith) (omega arith) (omega arith) h
    ∙ ap (λ b. only b (extension_at z destinations marks t)) n
absent_empty {z} {g} {destinations} {marks} start tables k (fourth t e h n) =
    let i = closure_indices z destinations t in
    at_closure z start destinations marks tables k {y = g.second + (g.third + t)} {t = g.third + t} {s = t} (omega arith) (omega arith) (omega arith) (omega arith) (omega arith) (omega arith) h
    ∙ ap (λ b. only (b && disagree z (i.i ∪ i.k) (i.j ∪ get_or marks (i.v.0 * 16 + i.l) 0)) (premise_of z i)) n
