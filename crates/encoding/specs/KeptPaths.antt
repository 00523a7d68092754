-- The block of the paths that are kept has its laws; the place of a path in it, by rows of reference states; and where all are kept it is the block of all paths.
use Rattle.std.specs.Prelude.{◌≡◌, refl, Bool, true, ◌&&◌, ℕ, ◌+◌, ◌*◌, ◌/◌, ◌%◌, ◌^◌, ◌<◌, eqb}
use Rattle.std.proofs.Common.{sym, ap, ap₂, ◌∙◌, arith, eq-eqb, eqb-true}
use Rattle.std.proofs.Math.Arith.{digits_div, digits_mod}
use Rattle.meaning.specs.BitSet.{bit}
use Rattle.meaning.specs.Counting.{total, how_many}
use Rattle.meaning.specs.TestLaws.{and_true, and_left, and_right}
use Rattle.encoding.specs.Variables.{Task, Var, path, Present, all_paths, kept_at, kept_paths}
use Rattle.encoding.specs.Clauses.{lowest}
use Rattle.encoding.specs.Lowest.{lowest_true}
use Rattle.encoding.specs.Numbering.{PathLaws}
use Rattle.encoding.specs.Blocks.{path_at_lem, path_at_place, path_place_lt, path_place_onto}
use Rattle.meaning.specs.Totals.{total_total, total_pairs, total_const, total_wide, total_widely, how_many_lt, how_many_apart, how_many_find}

module _ (T : Task) where
  abbrev n : ℕ
  n = T.n

  abbrev r : ℕ
  r = T.reference.states

  abbrev A : ℕ
  A = 2 ^ T.m

  abbrev B : ℕ
  B = 2 ^ T.reference.sets

  -- ---- the laws of the block

  -- a path stands at a place that is kept if and only if it is kept
  kept_at_place : (q u p v I J : ℕ) → u < r → p < n → v < r → I < A → J < B → kept_at T ((all_paths T).place q u p v I J) ≡ T.kept u v
  kept_at_place q u p v I J hu hp hv hI hJ =
      let w : ℕ = q * r + u in
      let z : ℕ = w * n + p in
      let y : ℕ = z * r + v in
      let is_y : ((y * A + I) * B + J) / B / A ≡ y = ap (λ x. x / A) (digits_div (y * A + I) hJ) ∙ digits_div y hI in
      ap₂ T.kept
      (ap (λ x. x / r / n % r) is_y ∙ ap (λ x. x / n % r) (digits_div z hv) ∙ ap (λ x. x % r) (digits_div w hp) ∙ digits_mod q hu)
      (ap (λ x. x % r) is_y ∙ digits_mod z hv)

  kept_there : (q u p v I J : ℕ) → Present T (path q u p v I J) → kept_at T ((all_paths T).place q u p v I J) ≡ true
  kept_there q u p v I J (hq, hu, hp, hv, hI, hJ, k) = kept_at_place q u p v I J hu hp hv hI hJ ∙ k

  -- the place among all paths of the one that k others are before
  abbrev among_all : ℕ → ℕ
  among_all k = lowest (all_paths T).size (λ x. kept_at T x && eqb (how_many x (kept_at T)) k)

  among_all_is : (k y : ℕ) → y < (all_paths T).size → kept_at T y ≡ true → how_many y (kept_at T) ≡ k → among_all k ≡ y
  among_all_is k y h e g =
      let f : ℕ → Bool = λ x. kept_at T x && eqb (how_many x (kept_at T)) k in
      let z : ℕ = among_all k in
      let t = (lowest_true (all_paths T).size f y h (and_true e (eq-eqb _ _ g))).1 in
      how_many_apart (kept_at T) z y (and_left (kept_at T z) _ t) e (eqb-true _ _ (and_right (kept_at T z) _ t) ∙ sym g)

  pub kept_paths_laws : PathLaws T (kept_paths T)
  kept_paths_laws = record {
    place_lt = λ q u p v I J h. how_many_lt (kept_at T) ((all_paths T).place q u p v I J) (all_paths T).size (path_place_lt T q u p v I J h) (kept_there q u p v I J h);
    onto = λ k h.
        let (x, hx, kx, tx) = how_many_find (kept_at T) (all_paths T).size k h in
        let (q, u, p, v, I, J, hq, hu, hp, hv, hI, hJ, e) = path_place_onto T x hx in
        (q, u, p, v, I, J, (hq, hu, hp, hv, hI, hJ, sym (kept_at_place q u p v I J hu hp hv hI hJ) ∙ ap (kept_at T) e ∙ kx), ap (λ y. how_many y (kept_at T)) e ∙ tx);
    variable = λ k. path_at_lem T (among_all k);
    variable_place = λ q u p v I J h.
        ap (path_at_lem T) (among_all_is _ ((all_paths T).place q u p v I J) (path_place_lt T q u p v I J h) (kept_there q u p v I J h) refl)
        ∙ path_at_place T q u p v I J h.1 h.2 h.3 h.4 h.5;
  }

  -- ---- the place of a path, by rows

  -- how many states u has paths to, and how many of them are below v
  abbrev pub row : ℕ → ℕ
  row u = how_many r (T.kept u)

  abbrev pub rank : ℕ → ℕ → ℕ
  rank u v = how_many v (T.kept u)

  regroup : (x y t n A I B J : ℕ) → ((x * n + y + t) * A + I * 1) * B + J * 1 ≡ ((n * x + y + t) * A + I) * B + J
  regroup x y t n A I B J = omega arith

  pub kept_place : (q u p v I J : ℕ) → Present T (path q u p v I J)
      → (kept_paths T).place q u p v I J ≡ ((n * (q * total r row + total u row) + p * row u + rank u v) * A + I) * B + J
  kept_place q u p v I J (hq, hu, hp, hv, hI, hJ, k) =
      let w : ℕ = q * r + u in
      let z : ℕ = w * n + p in
      let y : ℕ = z * r + v in
      let one : ℕ → ℕ → ℕ = λ a b. bit (T.kept a b) in
      let h₁ : ℕ → ℕ = λ x. one (x / A / r / n % r) (x / A % r) in
      let h₂ : ℕ → ℕ = λ x. one (x / r / n % r) (x % r) in
      let is-u : z / n % r ≡ u = ap (λ x. x % r) (digits_div w hp) ∙ digits_mod q hu in
      let one₂ : h₂ y ≡ 1 = ap₂ one (ap (λ x. x / n % r) (digits_div z hv) ∙ is-u) (digits_mod z hv) ∙ ap bit k in
      let one₁ : h₁ (y * A + I) ≡ 1 = ap h₂ (digits_div y hI) ∙ one₂ in
      let e₁ = total_widely (y * A + I) B J h₁ hJ in
      let e₂ = total_widely y A I h₂ hI in
      let e₃ = total_pairs z r v (λ a b. one (a / n % r) b) hv in
      let e₄ = total_widely w n p (λ a. total r (one (a % r))) hp in
      let e₅ = total_pairs q r u (λ a b. total r (one b)) hu in
      e₁
      ∙ ap₂ (λ t o. t * B + J * o) (e₂ ∙ ap₂ (λ t o. t * A + I * o) (e₃ ∙ ap₂ ◌+◌
      (e₄ ∙ ap₂ (λ t o. t * n + p * o) (e₅ ∙ ap (λ t. t + total u row) (total_const q (total r row))) (ap (λ a. total r (one a)) (digits_mod q hu)))
      (ap (λ a. total v (one a)) is-u)) one₂) one₁
      ∙ regroup (q * total r row + total u row) (p * row u) (rank u v) n A I B J

  -- and how many there are
  pub kept_size : (kept_paths T).size ≡ n * n * total r row * A * B
  kept_size =
      let one : ℕ → ℕ → ℕ = λ a b. bit (T.kept a b) in
      total_wide (n * r * n * r * A) B (λ x. one (x / A / r / n % r) (x / A % r))
      ∙ ap (λ t. t * B) (total_wide (n * r * n * r) A (λ x. one (x / r / n % r) (x % r))
      ∙ ap (λ t. t * A) (sym (total_total (n * r * n) r (λ a b. one (a / n % r) b))
      ∙ total_wide (n * r) n (λ a. total r (one (a % r)))
      ∙ ap (λ t. t * n) (sym (total_total n r (λ a b. total r (one b))) ∙ total_const n (total r row))))
      ∙ omega arith
