-- Words that differ in one respect, and which of the two comes first; and a loop that must be read twice.
use Rattle.std.specs.Prelude.{◌≡◌, refl, true, false, ℕ, suc, ◌+◌, ◌-◌, ◌≤◌, length}
use Rattle.std.proofs.Common.{ap₂, subst, inl, inr, arith}
use mathlib.Core.List.{List, [], ◌∷◌, cons≢nil}
use Rattle.meaning.specs.Automata.{Aut, state}
use Rattle.meaning.specs.Agreement.{Comparable, Over, lasso}
use Rattle.meaning.specs.FirstWord.{Shows, Precedes, FirstWord}
use Rattle.meaning.proofs.FirstWordLaws.{difference_shows}
use Rattle.meaning.proofs.WordOrder.{precedes_by}

-- "the least prefix plus loop length"
pub shorter_first : Precedes (3 ∷ []) (3 ∷ []) [] (0 ∷ 0 ∷ 0 ∷ [])
shorter_first = inl (omega arith)

-- "between equals the shorter prefix is given"
pub shorter_prefix_first : Precedes [] (3 ∷ 3 ∷ []) (0 ∷ []) (0 ∷ [])
shorter_prefix_first = inr (refl, inl (omega arith))

-- "then the one whose letters .. are smaller at the first difference"
pub smaller_letter_first : Precedes (2 ∷ []) (0 ∷ 3 ∷ []) (2 ∷ []) (1 ∷ 0 ∷ [])
smaller_letter_first = inr (refl, inr (refl, inl (inr (refl, inl (omega arith)))))

-- "prefix first"
pub prefix_letters_first : Precedes (0 ∷ []) (3 ∷ []) (1 ∷ []) (0 ∷ [])
prefix_letters_first = inr (refl, inr (refl, inl (inl (omega arith))))

-- ---- "whose loop, read once, brings both automata back to where it began"

-- over one letter: two states that take turns and meet the one set, and one state that does not
abbrev pub turns : Aut
turns = record { states = 2; letters = 1; sets = 1; start = 0; step = λ q l. 1 - q; marks = λ q l i. true; accept = λ S. S 0 }

abbrev pub never : Aut
never = record { states = 1; letters = 1; sets = 1; start = 0; step = λ q l. 0; marks = λ q l i. false; accept = λ S. S 0 }

-- the loop 0 tells them apart, but one reading of it leaves the first in its other state
pub read_once : ¬ Shows turns never [] (0 ∷ [])
read_once S = omega (arith, S.back_A)

pub read_once_in_the_second : ¬ Shows never turns [] (0 ∷ [])
read_once_in_the_second S = omega (arith, S.back_B)

-- read twice it is the word

twice : (u v : List ℕ) → Shows turns never u v → 2 ≤ length v
twice u [] S = absurd (S.apart.some refl)
twice u (l ∷ []) S = absurd (omega (arith, subst (λ n. state turns (lasso u (l ∷ [])) n ≡ state turns (lasso u (l ∷ [])) (length u)) one S.back_A))
  where
    one : length u + length (l ∷ []) ≡ suc (length u)
    one = omega arith
twice u (l ∷ k ∷ v) S = omega arith

pub read_twice : FirstWord turns never [] (0 ∷ 0 ∷ [])
read_twice = record {
  shows = difference_shows comparable [] (0 ∷ 0 ∷ [])
      (inl (record { over_x = tt; over_y = (omega arith, (omega arith, tt)); some = cons≢nil; closed_A = refl; closed_B = refl; yes_A = refl; no_B = refl }));
  first = λ u v S. precedes_by [] (0 ∷ 0 ∷ []) u v (omega (arith, twice u v S)) (λ e. omega arith) (λ e f. inr (none u e, inr (zeros v f S.apart.over_y)));
}
  where
    comparable : Comparable turns never
    comparable = record {
      formed_A = record { start_lt = omega arith; step_lt = λ q l h g. omega arith; sets_owned = λ S T e. e 0 (omega arith) };
      formed_B = record { start_lt = omega arith; step_lt = λ q l h g. omega arith; sets_owned = λ S T e. e 0 (omega arith) };
      same_letters = refl;
    }

    none : (u : List ℕ) → 0 ≡ length u → [] ≡ u
    none [] e = refl
    none (l ∷ u) e = absurd (omega arith)

    zeros : (v : List ℕ) → 2 ≡ length v → Over 1 v → 0 ∷ 0 ∷ [] ≡ v
    zeros [] e o = absurd (omega arith)
    zeros (l ∷ []) e o = absurd (omega arith)
    zeros (l ∷ k ∷ []) e o = ap₂ (λ l k. l ∷ k ∷ []) (omega (arith, o.0)) (omega (arith, o.1.0))
    zeros (l ∷ k ∷ j ∷ v) e o = absurd (omega arith)
