-- The largest sizes: the bound of V for every file, and that it is met.
use Rattle.std.specs.Prelude.{◌≡◌, refl, ◌∷◌, ◌++◌, ◌≤◌, replicate}
use Rattle.std.proofs.Common.{subst}
use Rattle.automaton.specs.declared.Automaton.{Automaton}
use Rattle.automaton.specs.Tests.{fits, passes}
use Rattle.automaton.specs.Value.{Valid}
use Rattle.automaton.specs.Meant.{fits_valid}
use Rattle.clause_sizes.specs.declared.Target.{Target}
use Rattle.clause_sizes.specs.Targets.{every, Proper, last}
use Rattle.clause_sizes.specs.Limits.{sizes_fit, last_le, file_variables}

pub at_most : {a : Automaton} {τ : Target} → Valid a → Proper τ → last a τ ≤ 4_199_424
at_most {a} {τ} v d = subst (λ k. k ≤ 4_199_424) (file_variables τ v) (last_le (sizes_fit v d))

pub met : (a : Automaton) → a.states ≡ 16 → a.propositions ≡ 4 → a.sets ≡ 4 → last a (every 8 4) ≡ 4_199_424
met a r k s = rw (r, k, s)

abbrev pub largest : Automaton
largest = record {
  states = 16;
  start = 0;
  propositions = 4;
  sets = 4;
  acceptance = 32768;
  lengths = replicate 4 1;
  names = (97 ∷ replicate 15 0) ++ ((98 ∷ replicate 15 0) ++ ((99 ∷ replicate 15 0) ++ (100 ∷ replicate 15 0)));
  destinations = replicate 256 0;
  marks = replicate 256 0;
}

pub largest_valid : Valid largest
unfolding fits passes
largest_valid = fits_valid largest refl refl refl refl refl
