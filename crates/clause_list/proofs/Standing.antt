-- A clause that stands at a position.
use mathlib.Core.Path.{◌≡◌, refl, ap, subst}
use mathlib.Core.List.{List, [], ◌∷◌}
use Prim.Native.Nat.{ℕ, ◌/◌, ◌%◌, ◌<◌}
use native.Mathlib.Omega.{arith}
use lib.IntN.{pos}
use Rattle.std.specs.Prelude.{Option, Some, None}
use Rattle.encoding.specs.Variables.{step}
use lib.ListN.{length}
use Rattle.encoding.specs.Numbering.{split}
use Rattle.encoding.specs.Loops.{each_length}
use Rattle.decimal.specs.Wrote.{Wrote}
use Rattle.decimal.specs.Writing.{wrote_length}
use Rattle.clause_sizes.specs.declared.Sizes.{Sizes}
use Rattle.clause_sizes.specs.Sizes.{Fitting}
use Rattle.clause_sizes.specs.Numbers.{number_of}
use Rattle.clause_indices.specs.declared.extent.Extent.{Extent}
use Rattle.clause_list.specs.Groups.{totality_of}
use Rattle.clause_list.specs.Position.{Alone, Stands}
use Rattle.clause_indices.specs.Indices.{ExtentOf}

-- a clause that is written, and has a literal
pub stands : {A : Type 0} {d e c : List A} {cs : List (List A)} {k : ℕ} → cs ≡ c ∷ [] → 0 < length c → Wrote d 0 c e k → Alone d cs e k
stands {c} q h w = record { clause = c; alone = q; wrote = w; some = omega (arith, w.next) }

pub stands_length : {A : Type 0} (d e : List A) (cs : List (List A)) (r : Option ℕ) → Stands d cs e r → length e ≡ length d
stands_length d e cs (Some k) a = wrote_length a.wrote
stands_length d e cs None (q, s) = ap length s

pub first_place : {z : Sizes} {g : Extent} {x : ℕ} → ExtentOf z g → x < g.first → (x / z.letters < z.candidate.states) × (x % z.letters < z.letters)
first_place {z} {x} k h = let s = split x z.candidate.states z.letters (subst (λ a. x < a) k.first_is h) in (s.0, s.1)

pub totality_some : (z : Sizes) (q l : ℕ) → Fitting z → 0 < length (totality_of z q l z.candidate.states)
totality_some z q l f = omega (arith, each_length z.candidate.states 1 (λ p. pos (number_of z (step q l p)) ∷ []) (λ i h. refl), f.n_some)
