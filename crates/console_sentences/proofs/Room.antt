-- Each pattern, filled, has room.
use mathlib.Core.Path.{◌≡◌, refl, ap, ap₂, subst}
use mathlib.Core.Bool.{Bool, true, false, cond}
use mathlib.Core.List.{List}
use Prim.Native.Nat.{ℕ, ◌≤◌}
use Prim.Native.String.{String}
use native.Mathlib.Omega.{arith}
use borrow.Author.Tests.{leb-true}
use lib.Dec.{eqb, leb}
use Rattle.refusals.specs.declared.Code.{Code}
use Rattle.refusals.specs.declared.Refusal.{Refusal}
use Rattle.refusals.specs.declared.Refusal.TheVariants.{Form, Size, Item, OtherAcceptance, Undeclared, Outside, Body, SecondEdge, NoEdge, Dimensions, SolverForm, Literal, NoStep, Differ, Short, Propositions}
use Rattle.refusals.specs.Refused.{code_of}
use Rattle.automaton.specs.Bytes.{bytes}
use Rattle.decimal.specs.Wrote.{Wrote}
use Rattle.console_places.specs.declared.Place.{Place}
use Rattle.console_sentences.specs.Sentences.{ends, digit, stands, filled, pattern, sentence}
use Rattle.console_sentences.specs.Patterns.{most}

record Small (w : String) : Type 0 where
  is : leb (most (bytes w)) 256 ≡ true

small : {w : String} → leb (most (bytes w)) 256 ≡ true → Small w
small h = record { is = h }

either : {v w : String} (t : Bool) → Small v → Small w → Small (cond t v w)
either true h g = h
either false h g = g

fits : (x : Refusal) (p : Place) → Small (pattern x p)
fits (Form o) p = either (ends p) (small refl) (either (digit p) (small refl) (either (stands "[" p) (small refl) (small refl)))
fits (Size o) p = either (eqb o 65536) (small refl) (either (digit p) (small refl) (either (stands "\"" p) (small refl) (small refl)))
fits (Item o) p = either (eqb o 0) (small refl) (either (stands "-" p) (small refl) (either (stands "\"" p) (small refl) (small refl)))
fits OtherAcceptance p = small refl
fits (Undeclared o) p = either (eqb o 0) (small refl) (small refl)
fits Outside p = small refl
fits (Body o q) p = either (ends p) (small refl) (small refl)
fits (SecondEdge q l) p = small refl
fits (NoEdge q l) p = small refl
fits (Dimensions n m) p = small refl
fits (SolverForm o) p = small refl
fits (Literal o) p = small refl
fits (NoStep q l) p = small refl
fits (Differ x y) p = small refl
fits (Short needed given) p = small refl
fits (Propositions k j) p = small refl

within : {k j m n : ℕ} → k ≡ j → j ≤ m → n ≡ m → k ≤ n
within e h g = omega arith

module _ (x : Refusal) (p : Place) {s : List ℕ} (l : s ≡ bytes (pattern x p)) where
  pub room : {n : ℕ} → n ≡ 256 → most s ≤ n
  room h = within (ap most l) (leb-true _ 256 (fits x p).is) h

  pub said : {c : Code} {d f : List ℕ} {r : ℕ} → c ≡ code_of x → Wrote d 0 (filled c p s) f r → Wrote d 0 (sentence x p) f r
  said {c} {d} {f} {r} e w = subst (λ u. Wrote d 0 u f r) (ap₂ (λ c w. filled c p w) e l) w
