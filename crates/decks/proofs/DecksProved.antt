-- The proof of `Decks`.
use Rattle.std.specs.Prelude.{refl}
use Rattle.meaning.specs.BitSet.{set_of}
use Rattle.refusals.specs.declared.Refusal.TheVariants.{SecondEdge, NoEdge}
use Rattle.hoa_text.specs.Formulas.{deepest}
use Rattle.hoa_text.specs.Header.{item_read}
use Rattle.hoa_text.specs.Body.{body_read}
use Rattle.hoa_text.specs.Reading.{read}
use Rattle.hoa_text.specs.Examples.{one_state, both_for_ever}
use Rattle.decks.proofs.First.{first_read, first_prints, first_none}
use Rattle.decks.proofs.AllRuns.{all_runs, all_runs_read, all_runs_counts, all_runs_some, states_satisfying, one_two_decoded, states_no_step, minus_one_decoded, one_three_refused, one_one_refused}
use Rattle.decks.proofs.Both.{both_read, counts_one_one, none_one_one, counts_two_one, some_two_one, counts_one_two, some_one_two}
use Rattle.decks.proofs.Largest.{at_most, met, largest, largest_valid}
use Rattle.decks.specs.Decks.{KnownDecks}

pub known_decks : KnownDecks
unfolding read item_read body_read deepest set_of
known_decks = record {
  first_deck = (one_state, first_read, record { prints = first_prints; unsatisfiable = first_none });
  all_runs = (
    all_runs,
    all_runs_read,
    record {
      counts = all_runs_counts;
      satisfiable = all_runs_some;
      states = states_satisfying;
      accepted = one_two_decoded;
      states_no_step = states_no_step;
      no_step = minus_one_decoded;
      past_last = one_three_refused;
      given_twice = one_one_refused;
    },
  );
  both_for_ever = (
    both_for_ever,
    both_read,
    record {
      counts_one_one = counts_one_one;
      none_one_one = none_one_one;
      counts_two_one = counts_two_one;
      some_two_one = some_two_one;
      counts_one_two = counts_one_two;
      some_one_two = some_one_two;
    },
  );
  largest_sizes = record { at_most = λ a τ v d. at_most v d; met = met; reference = (largest, largest_valid, refl, refl, refl) };
  no_edge = (NoEdge 0 0, refl, refl);
  second_edge = (SecondEdge 0 1, refl, refl);
}
