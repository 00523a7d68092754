-- Laws of a table's entries.
use Rattle.std.specs.Prelude.{◌≡◌, ◌⊎◌, cond, ℕ, ◌/◌, ◌%◌, ◌≤◌, ◌<◌, ltb}
use Rattle.std.proofs.Common.{sym, ap, ◌∙◌, inl, inr, arith, lt-ltb, le-ltb}
use Rattle.std.proofs.Math.Bool.{and-false}
use Rattle.std.proofs.Math.Decide.{dec_lt}
use Rattle.meaning.specs.Automata.{Aut}
use Rattle.automaton.specs.Value.{rows}
use Rattle.automaton.specs.Rows.{rows_length, rows_place, rows_same}
use Rattle.decode.specs.Table.{entry}

module _ (C : Aut) (f : ℕ → ℕ → ℕ) where
  pub entry_used : (q l : ℕ) → q < C.states → l < C.letters → entry C f q l ≡ f q l
  entry_used q l hq hl = rw (lt-ltb _ _ hq, lt-ltb _ _ hl)

  pub entry_unused : (q l : ℕ) → (C.states ≤ q) ⊎ (C.letters ≤ l) → entry C f q l ≡ 0
  entry_unused q l (inl h) = rw (le-ltb _ _ h)
  entry_unused q l (inr h) = rw (le-ltb _ _ h) (ap (λ t. cond t (f q l) 0) (and-false (ltb q C.states)))

-- two tables with the same states, letters and entries in use
pub entries_equal : (A B : Aut) (f g : ℕ → ℕ → ℕ) → A.states ≡ B.states → A.letters ≡ B.letters
    → ((q l : ℕ) → q < A.states → l < A.letters → f q l ≡ g q l) → rows 16 (entry A f) ≡ rows 16 (entry B g)
entries_equal A B f g es el h = rows_same 16 (entry B g) (rows 16 (entry A f)) (rows_length 16 (entry A f))
    (λ i k. rows_place 16 (entry A f) i k ∙ same (i / 16) (i % 16) (dec_lt (i / 16) A.states) (dec_lt (i % 16) A.letters))
  where
    same : (q l : ℕ) → Dec (q < A.states) → Dec (l < A.letters) → entry A f q l ≡ entry B g q l
    same q l (yes hq) (yes hl) =
        entry_used A f q l hq hl ∙ h q l hq hl ∙ sym (entry_used B g q l (omega (arith, es)) (omega (arith, el)))
    same q l (yes hq) (no hl) = entry_unused A f q l (inr (omega arith)) ∙ sym (entry_unused B g q l (inr (omega (arith, el))))
    same q l (no hq) d = entry_unused A f q l (inl (omega arith)) ∙ sym (entry_unused B g q l (inl (omega (arith, es))))
