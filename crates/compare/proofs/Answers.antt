-- The comparison's answer, case by case.
use mathlib.Core.Path.{◌≡◌, sym, ap, ◌∙◌}
use mathlib.Core.List.{List, ◌++◌}
use Prim.Native.Nat.{ℕ}
use native.Mathlib.Omega.{arith}
use lib.ListN.{length, drop}
use Rattle.std.specs.Prelude.{Result, Err}
use Rattle.meaning.specs.Decision.{distinguished}
use Rattle.automaton.specs.declared.Automaton.{Automaton}
use Rattle.refusals.specs.declared.Refusal.{Refusal}
use Rattle.refusals.specs.declared.Refusal.TheVariants.{Differ}
use Rattle.compare_shortest.specs.declared.Verdict.{Verdict}
use Rattle.compare_shortest.specs.declared.Verdict.TheVariants.{Same as NoWord, Differ as Found, Unfit}
use Rattle.compare.specs.Compared.{Compared, returned}
use Rattle.compare.specs.Searched.{Ready, Searched, answered}

-- what the search found is the answer
pub found : {a b : Automaton} {p q l m : List ℕ} → Ready a b (length p) (length l) → (v : Verdict) → Searched a b p q l m v → {r : Result (Unit {0}) Refusal} → r ≡ answered v → Compared a b p q l m r
found R NoWord (agree, ep, el) e = record {
  short_prefix = λ g. absurd (omega (arith, R.prefix_room_fits));
  short_loop = λ _ g. absurd (omega (arith, R.loop_room_fits));
  outside = λ _ _ g. absurd (g (R.valid_a, R.valid_b));
  letters = λ _ _ _ _ g. absurd (g R.same_propositions);
  same = λ _ _ _ _ _ _. (e, ep, el, ap returned e);
  differ = λ _ _ _ _ _ g. absurd (g agree);
}
found {p = p} {l = l} R (Found i j) (x, y, ex, ey, ep, el, w) {r} e = record {
  short_prefix = λ g. absurd (omega (arith, R.prefix_room_fits));
  short_loop = λ _ g. absurd (omega (arith, R.loop_room_fits));
  outside = λ _ _ g. absurd (g (R.valid_a, R.valid_b));
  letters = λ _ _ _ _ g. absurd (g R.same_propositions);
  same = λ _ _ _ _ _ g. absurd (distinguished w.shows.apart g);
  differ = λ _ _ _ _ _ _. record {
    x = x;
    y = y;
    says = says;
    prefix_is = ep ∙ ap (λ k. x ++ drop k p) (sym ex);
    loop_is = el ∙ ap (λ k. y ++ drop k l) (sym ey);
    word = w;
    number = ap returned says;
  };
}
  where
    says : r ≡ Err (Differ (length x) (length y))
    says = rw (ex, ey) e
found R Unfit none e = absurd none
