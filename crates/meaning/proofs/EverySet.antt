-- Where all sets must be met, a run is accepting if and only if each set is met infinitely often.
use Rattle.std.specs.Prelude.{◌↔◌, ℕ, ◌<◌}
use Rattle.std.proofs.Common.{sym, ◌∙◌}
use Rattle.meaning.specs.TestLaws.{all_at}
use Rattle.meaning.proofs.AllLaws.{all_of}
use Rattle.meaning.specs.Automata.{Aut, WellFormed, EverySet, Word, Inf, Accepts, union, MetInfinitelyOften}
use Rattle.meaning.specs.Recurrence.{in_union}

module _ {A : Aut} (F : WellFormed A) (w : Word) (letters : (i : ℕ) → w i < A.letters) where
  -- "A run is accepting if every set is met infinitely often; with 0 sets all runs are."
  pub every_set : EverySet A → Inf A w → Accepts A w ↔ ((i : ℕ) → i < A.sets → MetInfinitelyOften A w i)
  unfolding EverySet
  every_set every I = (
    λ a i h. (in_union F w letters a.inf i h).0 (all_at A.sets (union A a.inf.often) (sym (every (union A a.inf.often)) ∙ a.accepted) i h),
    λ met. record { inf = I; accepted = every (union A I.often) ∙ all_of A.sets (union A I.often) (λ i h. (in_union F w letters I i h).1 (met i h)) },
  )
