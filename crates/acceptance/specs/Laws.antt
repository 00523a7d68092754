-- Laws of acceptances as masks.
use Rattle.std.specs.Prelude.{◌≡◌, refl, true, ◌↔◌, ℕ, ◌-◌, ◌^◌, ◌≤◌, ◌<◌}
use Rattle.std.proofs.Common.{sym, ap, ◌∙◌, subst, arith, le-leb, leb-true, pow_pos}
use Rattle.std.proofs.Math.Pow.{pow-lt}
use Rattle.meaning.specs.Tests.{all}
use Rattle.meaning.specs.BitSet.{has}
use Rattle.meaning.proofs.FullSets.{all_has}
use Rattle.bits.specs.Powers.{power_is}
use Rattle.bits.specs.SingleSets.{has_single}
use Rattle.acceptance.specs.Masks.{every_set, all_true, OwnSets, own_sets}

-- ---- Inf of all sets

-- for as many sets as there can be
pub every_set_is : {k x : ℕ} → k ≤ 4 → x ≡ every_set k → x ≡ 2 ^ (2 ^ k - 1)
every_set_is h e = e ∙ ap (λ n. 2 ^ (n - 1)) (power_is h refl)

-- it says yes for all k sets together, and for no other set of marks
pub every_set_has : (k K : ℕ) → K < 2 ^ k → has (2 ^ (2 ^ k - 1)) K ≡ all k (has K)
every_set_has k K h = has_single (2 ^ k - 1) K ∙ sym (all_has k K h)

-- it has no yes past its sets
pub every_set_own : {k x : ℕ} → k ≤ 4 → x ≡ every_set k → OwnSets x k
every_set_own {k} h e = subst (λ y. OwnSets y k) (sym (every_set_is h e)) (pow-lt (omega (arith, pow_pos k)))

-- ---- all-true, and no yes past the sets

-- for as many sets as there can be
pub all_true_is : {k x : ℕ} → k ≤ 4 → x ≡ all_true k → x ≡ 2 ^ (2 ^ k) - 1
all_true_is h e = e ∙ ap (λ n. 2 ^ n - 1) (power_is h refl)

pub own_means : {k : ℕ} → k ≤ 4 → (x : ℕ) → (own_sets x k ≡ true) ↔ OwnSets x k
own_means {k} h x =
    let e : all_true k ≡ 2 ^ (2 ^ k) - 1 = all_true_is h refl in
    (λ t. omega (arith, leb-true x (all_true k) t, e, pow_pos (2 ^ k)), λ l. le-leb x (all_true k) (omega (arith, e)))
