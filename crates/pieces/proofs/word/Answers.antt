-- `word` meets its contract.
use mathlib.Core.Path.{◌≡◌, refl, ap, ap₂, ◌∙◌}
use mathlib.Core.List.{List, ◌++◌}
use Prim.Native.Nat.{ℕ, ◌+◌, ◌-◌, ◌≤◌}
use native.Mathlib.Omega.{arith}
use lib.ListN.{length, take, drop}
use Rattle.std.proofs.Common.{drop-drop}
use Rattle.decimal.specs.Wrote.{WroteIfRoom}
use Rattle.decimal.specs.Writing.{wrote_roomy, wrote_short}
use Rattle.pieces.proofs.word.Goals as goal

-- the word stands in the part of the buffer from the place on
wrote_part : (d w : List ℕ) (at n : ℕ) {p : List ℕ} → p ≡ w → n ≡ at + length w → n ≤ length d
    → WroteIfRoom d at w (take at d ++ (p ++ drop (n - at) (drop at d))) n
wrote_part d w at n e m h =
    let whole : at + (n - at) ≡ n = omega arith in
    wrote_roomy (record { next = m; room = h; is = ap₂ (λ p r. take at d ++ (p ++ r)) e (drop-drop (n - at) at d ∙ ap (λ k. drop k d) whole) })

pub returns-then-size-at : goal.returns-then-size-at
returns-then-size-at c = wrote_short _ _ _ (omega arith)

pub returns-then-size-at-2 : goal.returns-then-size-at-2
returns-then-size-at-2 c = wrote_short _ _ _ (omega arith)

pub returns : goal.returns
returns c = wrote_part _ _ c.args.at _ c.copy_from_slice.ensures.after refl (omega arith)
