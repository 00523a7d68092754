-- The history of acceptance sets that a path has visited, as the source calls it: for one automaton, and for the product of two.
use Rattle.std.specs.Prelude.{◌≡◌, refl, Bool, ◌||◌, List, [], ◌∷◌, ℕ, ◌<◌}
use Rattle.std.proofs.Common.{sym, ap, ◌∙◌}
use Rattle.std.proofs.Math.Bool.{or-false, or_assoc}
use Rattle.meaning.specs.Automata.{Aut, WellFormed}
use Rattle.meaning.specs.BitSet.{has}
use Rattle.meaning.specs.BitSetLaws.{has_or, has_zero}
use Rattle.meaning.specs.Walk.{run}
use Rattle.meaning.specs.Run.{seen}
use Rattle.meaning.specs.MarkSets.{has_set_of}
use Rattle.encoding.specs.Clauses.{marks_on, ◌∪◌}

-- the sets of I, and those that A sees as it reads y from the state q
abbrev pub history : Aut → ℕ → ℕ → List ℕ → ℕ
history A q I [] = I
history A q I (l ∷ y) = history A (A.step q l) (I ∪ marks_on A q l) y

history_has : (A : Aut) (q I : ℕ) (y : List ℕ) (i : ℕ) → i < A.sets → has (history A q I y) i ≡ (has I i || seen A q y i)
history_has A q I [] i h = sym (or-false (has I i))
history_has A q I (l ∷ y) i h =
    history_has A (A.step q l) (I ∪ marks_on A q l) y i h
    ∙ ap (λ (b : Bool). b || seen A (A.step q l) y i) (has_or I (marks_on A q l) i ∙ ap (λ (b : Bool). has I i || b) (has_set_of A.sets (A.marks q l) i h))
    ∙ or_assoc (has I i) (A.marks q l i) (seen A (A.step q l) y i)

-- the history from nothing on is what is seen, as far as the acceptance looks
pub history_accept : {A : Aut} → WellFormed A → (q : ℕ) (y : List ℕ) → A.accept (has (history A q 0 y)) ≡ A.accept (seen A q y)
history_accept {A} F q y = F.sets_owned _ _ (λ i h. history_has A q 0 y i h ∙ ap (λ (b : Bool). b || seen A q y i) (has_zero i))

-- a state of each automaton, with the history of each
abbrev pub Node : Type 0
Node = ℕ × ℕ × ℕ × ℕ

module _ (C R : Aut) where
  abbrev pub move : Node → ℕ → Node
  move (q, u, I, J) l = (C.step q l, R.step u l, I ∪ marks_on C q l, J ∪ marks_on R u l)

  pub run_move : (q u I J : ℕ) (y : List ℕ) → run move (q, u, I, J) y ≡ (run C.step q y, run R.step u y, history C q I y, history R u J y)
  run_move q u I J [] = refl
  run_move q u I J (l ∷ y) = run_move (C.step q l) (R.step u l) (I ∪ marks_on C q l) (J ∪ marks_on R u l) y
