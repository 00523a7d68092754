-- Laws of the calls that bring a text: one piece more, the end, and how many bytes.
use Rattle.std.specs.Prelude.{◌≡◌, refl, Bool, true, false, List, [], ◌∷◌, ◌++◌, ℕ, ◌+◌, ◌≤◌, ◌<◌, ℤ, pos, negsuc, length, Some, None}
use Rattle.std.proofs.Common.{arith, length-append}
use Rattle.solver_text.specs.Calls.{joined}
use Rattle.console_read.specs.Counts.{told, ReadOnce}
use Rattle.console_answers.specs.FromPieces.{Brings, ends, fails, early, brings}

-- the calls so far, each of which brought a piece
pub data Brought : List ℤ → List (List ℕ) → Type 0 where
  none : Brought [] []
  some : (u : List ℕ) {answers : List ℤ} {us : List (List ℕ)} → 0 < length u → length u ≤ 65536 → Brought answers us → Brought (pos (length u) ∷ answers) (u ∷ us)

pub brought_more : {answers : List ℤ} {us : List (List ℕ)} (u : List ℕ) → 0 < length u → length u ≤ 65536 → Brought answers us
    → Brought (answers ++ (pos (length u) ∷ [])) (us ++ (u ∷ []))
brought_more u h l none = some u h l none
brought_more u h l (some w k j b) = some w k j (brought_more u h l b)

-- how the reading ended, after a last call or without one
pub record Last (refused : Type 0) (whole : Bool) : Type 0 where
  pub answers : List ℤ
  pub brings : Brings refused answers [] whole

pub brought_all : {refused : Type 0} {answers : List ℤ} {us : List (List ℕ)} {w : Bool} → Brought answers us → (e : Last refused w)
    → Brings refused (answers ++ e.answers) us w
brought_all none e = e.brings
brought_all (some u h l b) e = brings u h l (brought_all b e)

-- a call that brought nothing is the last
pub last_call : {refused : Type 0} {room k : ℕ} → ReadOnce room (Some k) → k ≡ 0 → Last refused true
last_call o e = record { answers = pos 0 ∷ []; brings = ends }

-- and so is one that failed
pub failed_call : {refused : Type 0} {room : ℕ} → ReadOnce room None → Last refused false
failed_call {refused} o = go o.answer o.is
  where
    go : (z : ℤ) → None ≡ told z → Last refused false
    go (pos k) e = cc
    go (negsuc k) e = record { answers = negsuc k ∷ []; brings = fails k }

pub last_refused : {R S : Type 0} {w : Bool} → (R → S) → Last R w → Last S w
last_refused {R} {S} {w} f e = record { answers = e.answers; brings = go e.brings }
  where
    go : {answers : List ℤ} {us : List (List ℕ)} {w : Bool} → Brings R answers us w → Brings S answers us w
    go ends = ends
    go (fails k) = fails k
    go (early r) = early (f r)
    go (brings u h l b) = brings u h l (go b)

-- ---- no byte is lost: the pieces have as many bytes as the calls said

abbrev pub counted : List ℤ → ℕ
counted [] = 0
counted (pos k ∷ answers) = k + counted answers
counted (negsuc k ∷ answers) = counted answers

pub all_counted : {refused : Type 0} {answers : List ℤ} {us : List (List ℕ)} {w : Bool} → Brings refused answers us w → length (joined us) ≡ counted answers
all_counted ends = refl
all_counted (fails k) = refl
all_counted (early r) = refl
all_counted (brings u {us} h l b) = omega (arith, length-append u (joined us), all_counted b)
