-- What the search for a difference is given, and what it finds.
use Rattle.std.specs.Prelude.{◌≡◌, Result, Ok, Err, List, ◌++◌, ℕ, ◌≤◌, length, drop}
use Rattle.std.proofs.Common.{subst, ⊎_elim, arith}
use Rattle.meaning.specs.Agreement.{Agree}
use Rattle.meaning.specs.FirstWord.{FirstWord}
use Rattle.meaning.proofs.FirstWordLaws.{shows_difference}
use Rattle.meaning.proofs.FirstWordExists.{agree_or_first}
use Rattle.automaton.specs.declared.Automaton.{Automaton}
use Rattle.refusals.specs.declared.Refusal.{Refusal}
use Rattle.refusals.specs.declared.Refusal.TheVariants.{Outside, Differ}
use Rattle.automaton.specs.Value.{Valid, letters}
use Rattle.automaton.specs.View.{view}
use Rattle.automaton.specs.Letters.{letters_le}
use Rattle.compare_shortest.specs.declared.Verdict.{Verdict}
use Rattle.compare_shortest.specs.declared.Verdict.TheVariants.{Same as NoWord, Differ as Found, Unfit}
use Rattle.compare_shortest.specs.Difference.{Shows, Fit}
use Rattle.compare_shortest.specs.Answer.{Answer, Answered, Within}
use Rattle.compare.specs.Compared.{prefix_room, loop_room}
use Rattle.compare.specs.Differences.{Pair, Shown, in_range, comparable, shown_difference, difference_shown}
use Rattle.compare.specs.Bounds.{word_fits, first_fitting}

-- two automata that can be compared, and room for every word that may be found
pub record Ready (a b : Automaton) (p l : ℕ) : Type 0 where
  pub valid_a : Valid a
  pub valid_b : Valid b
  pub same_propositions : a.propositions ≡ b.propositions
  pub prefix_room_fits : prefix_room ≤ p
  pub loop_room_fits : loop_room ≤ l

-- a verdict of the search as an answer
abbrev pub answered : Verdict → Result (Unit {0}) Refusal
answered NoWord = Ok tt
answered (Found p l) = Err (Differ p l)
answered Unfit = Err Outside

-- the automata agree, or the first word that shows a difference stands in the front of the two buffers; their tables are never unfit
abbrev pub Searched : Automaton → Automaton → List ℕ → List ℕ → List ℕ → List ℕ → Verdict → Type 0
Searched a b prefix prefix-after loop loop-after NoWord = Agree (view a) (view b) × (prefix-after ≡ prefix) × (loop-after ≡ loop)
Searched a b prefix prefix-after loop loop-after (Found p l) =
    (x : List ℕ) × (y : List ℕ) × (length x ≡ p) × (length y ≡ l) × (prefix-after ≡ x ++ drop p prefix) × (loop-after ≡ y ++ drop l loop)
    × FirstWord (view a) (view b) x y
Searched a b prefix prefix-after loop loop-after Unfit = ⊥

-- the words that the search looks for, over L letters
abbrev pub Looked : Automaton → Automaton → List ℕ → ℕ → List ℕ → List ℕ → Type 0
Looked a b H L = Shows a.destinations a.marks b.destinations b.marks H L a.start b.start

-- what the search is handed is fit for it
abbrev pub Handed : Automaton → Automaton → ℕ → Type 0
Handed a b L = Fit a.destinations a.marks b.destinations b.marks L a.start b.start

-- from these words to the automata
module _ {a b : Automaton} {H : List ℕ} (T : Pair a b H) (prefix prefix-after loop loop-after : List ℕ) (hp : prefix_room ≤ length prefix) (hl : loop_room ≤ length loop) where
  by_verdict : (r : Verdict) → Answer (Within (length prefix) (length loop) (Shown a b H)) prefix prefix-after loop loop-after r → Searched a b prefix prefix-after loop loop-after r
  by_verdict NoWord (none, ep, el) = (⊎_elim (λ agree. agree) (λ (x, y, F). absurd (none x y (fits x y F))) (agree_or_first (comparable T)), ep, el)
    where
      fits : (x y : List ℕ) → FirstWord (view a) (view b) x y → Within (length prefix) (length loop) (Shown a b H) x y
      fits x y F =
          let (hx, hy) = word_fits T.valid_a T.valid_b T.same_propositions F in
          record { shows = difference_shown T x y (shows_difference (comparable T) x y F.shows); prefix_fits = omega arith; loop_fits = omega arith }
  by_verdict (Found p l) F = (
    F.x,
    F.y,
    F.prefix_length,
    F.loop_length,
    F.prefix_written,
    F.loop_written,
    first_fitting T.valid_a T.valid_b T.same_propositions (length prefix) (length loop) hp hl F.x F.y (shown_difference T F.x F.y F.shows.shows)
        (λ u v d hu hv. F.best u v (record { shows = difference_shown T u v d; prefix_fits = hu; loop_fits = hv })),
  )
  by_verdict Unfit none = none

  handed : Handed a b (letters a)
  handed = record { first = in_range T.valid_a; second = in_range T.valid_b; letters = letters_le T.valid_a }

  pub searched : (L : ℕ) → L ≡ letters a → (r : Verdict) → Answered (Handed a b L) (Looked a b H L) prefix prefix-after loop loop-after r
      → Searched a b prefix prefix-after loop loop-after r
  searched L e r A = by_verdict r ((subst (λ K. Answered (Handed a b K) (Looked a b H K) prefix prefix-after loop loop-after r) e A).searched handed)
