-- What is read of a value: names, cells of the tables.
use mathlib.Core.Path.{◌≡◌, sym, ap, subst}
use mathlib.Core.Logic.{◌≢◌}
use mathlib.Core.Bool.{cond}
use mathlib.Core.List.{List, [], ◌∷◌, ◌++◌}
use Prim.Native.Nat.{ℕ, ◌+◌, ◌-◌, ◌*◌, ◌<◌}
use native.Mathlib.Omega.{arith}
use borrow.Author.Tests.{eq-eqb, ne_eqb}
use lib.ListN.{take, drop}
use Rattle.automaton.specs.declared.Automaton.{Automaton}
use Rattle.automaton.specs.Value.{Valid, letters, name_length}
use Rattle.automaton.specs.Letters.{letters_le}
use Rattle.decimal.specs.Wrote.{Wrote}
use Rattle.decimal.specs.Writing.{wrote_none}
use Rattle.hoa_text.specs.Written.{quoted_name, names_line, names_part}

pub quoted_is : (a : Automaton) (i : ℕ) {n : ℕ} → n ≡ name_length a i → 32 ∷ 34 ∷ (take (i * 16 + n - i * 16) (drop (i * 16) a.names) ++ (34 ∷ [])) ≡ quoted_name a i
quoted_is a i {n} h =
    let e : i * 16 + n - i * 16 ≡ name_length a i = omega arith in
    ap (λ n. 32 ∷ 34 ∷ (take n (drop (i * 16) a.names) ++ (34 ∷ []))) e

pub names_none : (a : Automaton) (d : List ℕ) → a.propositions ≡ 0 → Wrote d 0 (names_part a) d 0
names_none a d e = subst (λ b. Wrote d 0 (cond b [] (names_line a)) d 0) (sym (eq-eqb a.propositions 0 e)) (wrote_none d 0 (omega arith))

pub names_some : (a : Automaton) → a.propositions ≢ 0 → names_line a ≡ names_part a
names_some a h = ap (λ b. cond b [] (names_line a)) (sym (ne_eqb a.propositions 0 h))

module _ {a : Automaton} (v : Valid a) where
  pub cell_lt : (q l : ℕ) → q < a.states → l < letters a → q * 16 + l < 256
  cell_lt q l h g = omega (arith, v.states_le, letters_le v)
