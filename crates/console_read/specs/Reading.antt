-- Laws of what was read: how many bytes, and one call more.
use Rattle.std.specs.Prelude.{◌≡◌, refl, true, false, List, [], ◌∷◌, ℕ, ◌+◌, ◌-◌, ◌≤◌, ◌<◌, min, ℤ, pos, negsuc, Some, None, Result, Ok, Err}
use Rattle.std.proofs.Common.{ap, true≢false, arith, ltb-true}
use Rattle.std.specs.Int.Signed.{lt_z}
use Rattle.console_read.specs.Counts.{told, Moved, ReadOnce, Fills, full, ends, fails, more, InputRead, FileRead, unopened, opened}

-- what a call of C's returned, brought into `0..=most`
abbrev pub clamp_len : ℤ → ℕ → ℕ
clamp_len (pos k) most = min k most
clamp_len (negsuc k) most = 0

-- ---- one call

pub told_failed : (z : ℤ) → lt_z z (pos 0) ≡ true → None ≡ told z
told_failed (pos k) e = absurd (omega (arith, ltb-true k 0 e))
told_failed (negsuc k) e = refl

pub told_count : (n : ℕ) (z : ℤ) (k : ℕ) → Moved n z → lt_z z (pos 0) ≡ false → k ≡ clamp_len z n → Some k ≡ told z
told_count n (pos j) k h e q = let f : k ≡ j = omega (arith, q, h) in ap Some f
told_count n (negsuc j) k h e q = absurd (true≢false e)

module _ {room k : ℕ} where
  pub once_le : ReadOnce room (Some k) → k ≤ room
  once_le o = go o.answer o.moved o.is
    where
      go : (z : ℤ) → Moved room z → Some k ≡ told z → k ≤ room
      go (pos j) h e = let f : k ≡ j = cc in omega arith
      go (negsuc j) h e = cc

-- ---- calls one after another

module _ {size filled : ℕ} (h : filled < size) where
  pub read_fails : ReadOnce (size - filled) None → InputRead size filled (Err filled)
  read_fails o = go o.answer o.is
    where
      go : (z : ℤ) → None ≡ told z → InputRead size filled (Err filled)
      go (pos k) e = cc
      go (negsuc k) e = record { answers = negsuc k ∷ []; fills = fails k h }

  pub read_ends : ReadOnce (size - filled) (Some 0) → InputRead size filled (Ok filled)
  read_ends o = record { answers = pos 0 ∷ []; fills = ends h }

  pub read_more : {k : ℕ} {r : Result ℕ ℕ} → ReadOnce (size - filled) (Some k) → ¬ (k ≡ 0) → InputRead size (filled + k) r → InputRead size filled r
  read_more {k} o n i = record { answers = pos k ∷ i.answers; fills = more k h (omega arith) (once_le o) i.fills }

-- ---- the length lies in the buffer

-- the bytes that were read, also those before a call that failed
abbrev pub length_of : Result ℕ ℕ → ℕ
length_of (Ok k) = k
length_of (Err k) = k

fills_le : {size filled : ℕ} {answers : List ℤ} {r : Result ℕ ℕ} → filled ≤ size → Fills size filled answers r → length_of r ≤ size
fills_le h (full k) = h
fills_le h (ends k) = h
fills_le h (fails j k) = h
fills_le h (more j k p l f) = fills_le (omega (arith, k, p, l)) f

module _ {size : ℕ} {r : Result ℕ ℕ} where
  pub input_le : InputRead size 0 r → length_of r ≤ size
  input_le i = fills_le (omega arith) i.fills

  pub file_le : FileRead size r → length_of r ≤ size
  file_le (unopened e) = omega (arith, ap length_of e)
  file_le (opened i) = input_le i
