-- HOW MANY CLAUSES group 4 has: for each q and p, a sum over the reference's transitions and the sets J, in which the pairs I, K are counted.
use Rattle.std.specs.Prelude.{cond, List, ℕ, ◌+◌, ◌-◌, ◌*◌, ◌/◌, ◌%◌, ◌^◌, get_or}
use Rattle.meaning.specs.BitSet.{has}
use Rattle.meaning.specs.Counting.{total}
use Rattle.encoding.specs.Clauses.{◌∪◌}
use Rattle.clause_sizes.specs.declared.Sizes.{Sizes}
use Rattle.clause_sizes.specs.Numbers.{kept_among}
use Rattle.clause_header.specs.Sums.{passing}

module _ (z : Sizes) where
  abbrev M : ℕ
  M = 2 ^ z.candidate.sets

  abbrev S : ℕ
  S = 2 ^ z.reference.sets

  -- the pairs I, K that the candidate's acceptance says yes for
  abbrev pub yes_pairs : ℕ
  yes_pairs = passing M M (λ I K. has z.candidate.acceptance (I ∪ K))

  -- the pairs of which the two acceptances say different things, where the union of J and F is given, and the number of pairs that the candidate's says yes for
  abbrev pub pairs_for : ℕ → ℕ → ℕ
  pairs_for accepted union = cond (has z.reference.acceptance union) (M * M - accepted) accepted

  -- for the marks f of a transition
  abbrev pub closures_by : ℕ → ℕ → ℕ
  closures_by accepted f = total S (λ j. pairs_for accepted (j ∪ f))

  -- for a transition from v to w with the marks f: "group 4 only if v and w" share a component, by the rows
  abbrev pub closures_from : (accepted v w f : ℕ) → ℕ
  closures_from accepted v w f = cond (kept_among z w v) (closures_by accepted f) 0

  -- for the transition that stands at y, where `accepted` is as above
  abbrev pub closures_at : List ℕ → List ℕ → (accepted y : ℕ) → ℕ
  closures_at destinations marks accepted y =
      let v = y / z.letters in
      let at = v * 16 + y % z.letters in
      closures_from accepted v (get_or destinations at 0) (get_or marks at 0)

  -- for all transitions
  abbrev pub closure_count : List ℕ → List ℕ → ℕ
  closure_count destinations marks = total (z.reference.states * z.letters) (closures_at destinations marks yes_pairs)
