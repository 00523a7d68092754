-- What a lasso word reads: its prefix, and then its loop again and again. And the same word with the loop unrolled.
use Rattle.std.specs.Prelude.{◌≡◌, refl, ◌≢◌, List, [], ◌∷◌, ◌++◌, ℕ, zero, suc, ◌+◌, ◌-◌, ◌*◌, ◌%◌, ◌<◌, length, get_or}
use Rattle.std.proofs.Common.{sym, ap, ◌∙◌, subst, append_assoc, add-zero, zero-add, zero-mul, suc-mul, suc-add, add-mul, mul_assoc, mod-eq_of_lt, mod-lt, not-suc-le-zero, le_of_suc-le-suc, arith, length-append}
use Rattle.std.proofs.Math.Logic.{ite, if_pos, if_neg}
use Rattle.std.proofs.Math.Nat.{mul-add-mod_self_right}
use Rattle.std.proofs.Math.Decide.{dec_lt}
use Rattle.meaning.specs.Automata.{Word}
use Rattle.meaning.specs.Agreement.{lasso, Over}

-- from position i on, w reads u
abbrev pub Reads : Word → ℕ → List ℕ → Type 0
Reads w i [] = Unit {0}
Reads w i (l ∷ u) = (w i ≡ l) × Reads w (suc i) u

pub record IsLasso (x y : List ℕ) (w : Word) : Type 0 where
  pub prefix : Reads w 0 x
  pub loop : (k : ℕ) → Reads w (length x + k * length y) y

pub reads_of : (w : Word) (i : ℕ) (u : List ℕ) → ((k : ℕ) → k < length u → w (i + k) ≡ get_or u k 0) → Reads w i u
reads_of w i [] h = tt
reads_of w i (l ∷ u) h = (ap w (sym (add-zero i)) ∙ h 0 (omega arith), reads_of w (suc i) u (λ k g. ap w (omega arith) ∙ h (suc k) (omega arith)))

pub reads_append : (w : Word) (i : ℕ) (u v : List ℕ) (j : ℕ) → j ≡ i + length u → Reads w i u → Reads w j v → Reads w i (u ++ v)
reads_append w i [] v j e a b = subst (λ k. Reads w k v) (omega arith) b
reads_append w i (l ∷ u) v j e a b = (a.0, reads_append w (suc i) u v j (omega arith) a.1 b)

pub lasso_reads : (x y : List ℕ) → IsLasso x y (lasso x y)
unfolding lasso
lasso_reads x y = record {
  prefix = reads_of (lasso x y) 0 x (λ k h. ap (lasso x y) (zero-add k) ∙ if_pos (dec_lt k (length x)) h (get_or x k 0) (get_or y ((k - length x) % length y) 0));
  loop = λ c. reads_of (lasso x y) (length x + c * length y) y (λ k h.
      if_neg (dec_lt (length x + c * length y + k) (length x)) (omega arith) (get_or x (length x + c * length y + k) 0) (get_or y ((length x + c * length y + k - length x) % length y) 0)
      ∙ ap (λ n. get_or y n 0) (ap (λ n. n % length y) (omega arith) ∙ mul-add-mod_self_right c (length y) k ∙ mod-eq_of_lt h));
}

-- ---- a lasso word over n letters is an infinite word over them
pub length_pos : (y : List ℕ) → y ≢ [] → 0 < length y
length_pos [] h = absurd (h refl)
length_pos (l ∷ y) h = omega arith

get_d_over : (n : ℕ) (u : List ℕ) (i : ℕ) → Over n u → i < length u → get_or u i 0 < n
get_d_over n [] i o h = absurd (not-suc-le-zero h)
get_d_over n (l ∷ u) zero o h = o.0
get_d_over n (l ∷ u) (suc i) o h = get_d_over n u i o.1 (le_of_suc-le-suc h)

pub lasso_over : (n : ℕ) (x y : List ℕ) → Over n x → Over n y → y ≢ [] → (i : ℕ) → lasso x y i < n
unfolding lasso
lasso_over n x y ox oy ne i = go (dec_lt i (length x))
  where
    go : (d : Dec (i < length x)) → ite d (get_or x i 0) (get_or y ((i - length x) % length y) 0) < n
    go (yes h) = get_d_over n x i ox h
    go (no h) = get_d_over n y ((i - length x) % length y) oy (mod-lt (i - length x) (length_pos y ne))

-- ---- k times y
abbrev pub times : ℕ → List ℕ → List ℕ
times zero y = []
times (suc k) y = y ++ times k y

pub length_times : (k : ℕ) (y : List ℕ) → length (times k y) ≡ k * length y
length_times zero y = sym (zero-mul (length y))
length_times (suc k) y = simp (length-append, length_times k y, suc-mul) (omega arith)

pub times_add : (i k : ℕ) (y : List ℕ) → times (i + k) y ≡ times i y ++ times k y
times_add zero k y = rw zero-add
times_add (suc i) k y = rw (suc-add, times_add i k y) (sym (append_assoc y (times i y) (times k y)))

pub over_append : (n : ℕ) (u v : List ℕ) → Over n u → Over n v → Over n (u ++ v)
over_append n [] v a b = b
over_append n (l ∷ u) v a b = (a.0, over_append n u v a.1 b)

pub over_times : (n k : ℕ) (y : List ℕ) → Over n y → Over n (times k y)
over_times n zero y a = tt
over_times n (suc k) y a = over_append n y (times k y) a (over_times n k y a)

module _ {x y : List ℕ} {w : Word} (L : IsLasso x y w) where
  reads_times : (a n i : ℕ) → i ≡ length x + a * length y → Reads w i (times n y)
  reads_times a zero i e = tt
  reads_times a (suc n) i e =
      reads_append w i y (times n y) (i + length y) refl (subst (λ k. Reads w k y) (sym e) (L.loop a))
      (reads_times (suc a) n (i + length y) (omega (arith, suc-mul a (length y))))

  pub unroll : (i n : ℕ) → IsLasso (x ++ times i y) (times n y) w
  unroll i n = record {
    prefix = reads_append w 0 x (times i y) (length x) (omega arith) L.prefix (reads_times 0 i (length x) (omega (arith, zero-mul (length y))));
    loop = λ c. reads_times (i + c * n) n (length (x ++ times i y) + c * length (times n y))
        (simp (length-append, length_times, add-mul, mul_assoc) (omega arith));
  }
