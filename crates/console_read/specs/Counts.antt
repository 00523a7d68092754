-- DEFINITION: how much was read into a lent buffer, by what the system's calls answered. Which bytes a file or an argument has, and so which answers come, no
-- contract can say; what is told of them is fixed here.
use Rattle.std.specs.Prelude.{◌≡◌, List, [], ◌∷◌, ℕ, ◌+◌, ◌-◌, ◌≤◌, ◌<◌, ℤ, pos, negsuc, Option, Some, None, Result, Ok, Err}

-- what a call that is handed n bytes may answer: -1, which stands for an error, or how many bytes it moved, at most n
abbrev pub Moved : ℕ → ℤ → Type 0
Moved n (pos k) = k ≤ n
Moved n (negsuc k) = k ≡ 0

-- of one call of std's `read`: an error, or how many bytes it put at the start of the buffer, 0 at the end of the input
abbrev pub told : ℤ → Option ℕ
told (pos k) = Some k
told (negsuc k) = None

-- one call, for `room` bytes
pub record ReadOnce (room : ℕ) (r : Option ℕ) : Type 0 where
  pub answer : ℤ
  pub moved : Moved room answer
  pub is : r ≡ told answer

-- Calls one after another, each for the rest of a buffer of `size` bytes: what each answered, and what is told where `filled` bytes stand in the buffer before them.
-- They go on until the buffer is full, the input ends or a call fails, and no sooner. Where a call fails, the bytes before it are told as an error.
pub data Fills (size : ℕ) : (filled : ℕ) → List ℤ → Result ℕ ℕ → Type 0 where
  full : {filled : ℕ} → size ≤ filled → Fills size filled [] (Ok filled)
  ends : {filled : ℕ} → filled < size → Fills size filled (pos 0 ∷ []) (Ok filled)
  fails : {filled : ℕ} (k : ℕ) → filled < size → Fills size filled (negsuc k ∷ []) (Err filled)
  more : {filled : ℕ} (k : ℕ) {answers : List ℤ} {r : Result ℕ ℕ} → filled < size → 0 < k → k ≤ size - filled → Fills size (filled + k) answers r
      → Fills size filled (pos k ∷ answers) r

-- what is told of calls for the rest of a buffer, in which `filled` bytes stand
pub record InputRead (size filled : ℕ) (r : Result ℕ ℕ) : Type 0 where
  pub answers : List ℤ
  pub fills : Fills size filled answers r

-- a file, or none that could be opened
pub data FileRead (size : ℕ) (r : Result ℕ ℕ) : Type 0 where
  unopened : r ≡ Err 0 → FileRead size r
  opened : InputRead size 0 r → FileRead size r

-- an argument: so many bytes of it, and an error's number, 0 where the whole argument is in the buffer
pub record ArgumentRead (size : ℕ) (r : Option ℕ) : Type 0 where
  pub count : ℕ
  pub there : count ≤ size
  pub error : ℕ
  pub taken : error ≡ 0 → r ≡ Some count
  pub failed : ¬ (error ≡ 0) → r ≡ None
