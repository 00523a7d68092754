-- The position after one, and the first of the next letter and of the next state, by their indices.
use Rattle.std.proofs.Common.{◌≡◌, ℕ, ◌+◌, ◌*◌, ◌/◌, ◌%◌, ◌^◌, ◌<◌, ◌≤◌, sym, refl, ap, ◌∙◌, subst, mod-eq_of_lt, arith, pow_pos}
use lib.Arith.{digits_lt, digits_div, digits_mod}
use Rattle.encoding.specs.Numbering.{split}
use Rattle.clause_sizes.specs.declared.Sizes.{Sizes}
use Rattle.clause_sizes.specs.Sizes.{Fitting}
use Rattle.clause_sizes.specs.Limits.{candidate_subsets_le, reference_subsets_le}
use Rattle.clause_indices.specs.declared.Indices.{Indices}
use Rattle.clause_indices.specs.Indices.{extensions, extension_indices}
use Rattle.clause_order.specs.Follows.{Follows}

-- a small number and 1 more
up_small : {a b : ℕ} → a < 16 → b ≡ (a + 1) % 2 ^ 64 → b ≡ a + 1
up_small {a} h e = e ∙ mod-eq_of_lt (omega arith)

module _ (z : Sizes) where
  abbrev n : ℕ
  n = z.candidate.states

  abbrev r : ℕ
  r = z.reference.states

  abbrev L : ℕ
  L = z.letters

  abbrev M : ℕ
  M = 2 ^ z.candidate.sets

  abbrev S : ℕ
  S = 2 ^ z.reference.sets

  -- the position with the sets I, J and K in part a of group 3, where a part has all other indices alike
  abbrev pub at_sets : (a I J K : ℕ) → ℕ
  at_sets a I J K = ((a * M + I) * S + J) * M + K

  abbrev pub indices_with_sets : (a I J K : ℕ) → Indices
  indices_with_sets a I J K =
      let b = a / L / r / r in
      record {
        q = record { 0 = b / n / n };
        p = record { 0 = b / n % n };
        t = record { 0 = b % n };
        u = record { 0 = a / L / r % r };
        v = record { 0 = a / L % r };
        l = a % L;
        i = I;
        j = J;
        k = K;
      }

  pub sets_indices : (a I J K : ℕ) → I < M → J < S → K < M → extension_indices z (at_sets a I J K) ≡ indices_with_sets a I J K
  sets_indices a I J K hi hj hk = simp (digits_div, digits_mod)

  pub sets_lt : (a I J K : ℕ) → a < n * n * n * r * r * L → I < M → J < S → K < M → at_sets a I J K < extensions z
  sets_lt a I J K h hi hj hk = digits_lt (digits_lt (digits_lt h hi) hj) hk

  -- a position by its sets
  pub record Sets (k : ℕ) : Type 0 where
    pub a : ℕ
    pub I : ℕ
    pub J : ℕ
    pub K : ℕ
    pub place : k ≡ at_sets a I J K
    pub a_lt : a < n * n * n * r * r * L
    pub I-lt : I < M
    pub J-lt : J < S
    pub K-lt : K < M
    pub indices : extension_indices z k ≡ indices_with_sets a I J K

  pub sets_of : (k : ℕ) → k < extensions z → Sets k
  sets_of k h =
      let c = split k (n * n * n * r * r * L * M * S) M h in
      let b = split (k / M) (n * n * n * r * r * L * M) S c.0 in
      let d = split (k / M / S) (n * n * n * r * r * L) M b.0 in
      record {
        a = k / M / S / M;
        I = k / M / S % M;
        J = k / M % S;
        K = k % M;
        place = sym (ap (λ y. y * M + k % M) (ap (λ y. y * S + k / M % S) d.2 ∙ b.2) ∙ c.2);
        a_lt = d.0;
        I-lt = d.1;
        J-lt = b.1;
        K-lt = c.1;
        indices = refl;
      }

  -- the last set gives way to the next of the set before it
  carry_K : {k : ℕ} (b K : ℕ) {c : ℕ} → M ≡ K + 1 → c ≡ b + 1 → k ≡ b * M + K → k + 1 ≡ c * M + 0
  carry_K b K h c e = rw c (omega (arith, e, h))

  carry_J : {k : ℕ} (b J K : ℕ) {c : ℕ} → S ≡ J + 1 → M ≡ K + 1 → c ≡ b + 1 → k ≡ (b * S + J) * M + K → k + 1 ≡ (c * S + 0) * M + 0
  carry_J b J K g h c e = carry_K (b * S + J) K h (rw c (omega (arith, g))) e

  carry_I : {k : ℕ} (a I J K : ℕ) → M ≡ I + 1 → S ≡ J + 1 → M ≡ K + 1 → k ≡ at_sets a I J K → k + 1 ≡ at_sets (a + 1) 0 0 0
  carry_I a I J K f g h e = carry_J (a * M + I) J K g h (omega (arith, f)) e

  -- the indices of a part, from what it gives on division by the letters and the states
  part_indices : (a b v l : ℕ) → a / L / r ≡ b → a / L % r ≡ v → a % L ≡ l
      → indices_with_sets a 0 0 0 ≡ record {
        q = record { 0 = b / r / n / n };
        p = record { 0 = b / r / n % n };
        t = record { 0 = b / r % n };
        u = record { 0 = b % r };
        v = record { 0 = v };
        l = l;
        i = 0;
        j = 0;
        k = 0;
      }
  part_indices a b v l e f g = rw (sym e, sym f, sym g) refl

  -- x with other values of the indices that change over a block
  abbrev pub moved : Indices → (v l I J K : ℕ) → Indices
  moved x v l I J K = record { q = x.q; p = x.p; t = x.t; u = x.u; v = record { 0 = v }; l = l; i = I; j = J; k = K }

  module _ (x : Indices) where
    abbrev Next : ℕ → Indices → Type 0
    Next k y = (k + 1 < extensions z) × (y ≡ extension_indices z (k + 1))

    -- the next position by its sets
    next_at : (k : ℕ) {y : Indices} (a I J K : ℕ) → k + 1 ≡ at_sets a I J K → a < n * n * n * r * r * L → I < M → J < S → K < M → y ≡ indices_with_sets a I J K → Next k y
    next_at k {y} a I J K e h hi hj hk q =
        (subst (λ m. m < extensions z) (sym e) (sets_lt a I J K h hi hj hk), q ∙ sym (sets_indices a I J K hi hj hk) ∙ ap (extension_indices z) (sym e))

    follows : {v l I J K : ℕ} → (Fitting z → (k : ℕ) (s : Sets k) → x ≡ indices_with_sets s.a s.I s.J s.K → v < r → Next k (moved x v l I J K))
        → Follows z x (moved x v l I J K)
    follows g = record { same_q = refl; same_p = refl; same_t = refl; same_u = refl; next = λ f k h e. g f k (sets_of k h) (e ∙ (sets_of k h).indices) }

    -- ---- the indices of a position, and what is one more

    module _ (f : Fitting z) {k : ℕ} (s : Sets k) (e : x ≡ indices_with_sets s.a s.I s.J s.K) where
      K-up : {b : ℕ} → b ≡ (x.k + 1) % 2 ^ 64 → b ≡ s.K + 1
      K-up u = up_small (omega (arith, s.K-lt, f.candidate_subsets, candidate_subsets_le f)) (u ∙ ap (λ y. (y.k + 1) % 2 ^ 64) e)

      J-up : {b : ℕ} → b ≡ (x.j + 1) % 2 ^ 64 → b ≡ s.J + 1
      J-up u = up_small (omega (arith, s.J-lt, f.reference_subsets, reference_subsets_le f)) (u ∙ ap (λ y. (y.j + 1) % 2 ^ 64) e)

      I-up : {b : ℕ} → b ≡ (x.i + 1) % 2 ^ 64 → b ≡ s.I + 1
      I-up u = up_small (omega (arith, s.I-lt, f.candidate_subsets, candidate_subsets_le f)) (u ∙ ap (λ y. (y.i + 1) % 2 ^ 64) e)

      -- where a set has none after it
      K-last : {b : ℕ} → b ≡ (x.k + 1) % 2 ^ 64 → z.candidate.subsets ≤ b → M ≡ s.K + 1
      K-last u h = omega (arith, K-up u, s.K-lt, f.candidate_subsets)

      J-last : {b : ℕ} → b ≡ (x.j + 1) % 2 ^ 64 → z.reference.subsets ≤ b → S ≡ s.J + 1
      J-last u h = omega (arith, J-up u, s.J-lt, f.reference_subsets)

      I-last : {b : ℕ} → b ≡ (x.i + 1) % 2 ^ 64 → z.candidate.subsets ≤ b → M ≡ s.I + 1
      I-last u h = omega (arith, I-up u, s.I-lt, f.candidate_subsets)

      l_split : (s.a / L < n * n * n * r * r) × (s.a % L < L) × (s.a / L * L + s.a % L ≡ s.a)
      l_split = split s.a (n * n * n * r * r) L s.a_lt

      l_up : {b : ℕ} → b ≡ (x.l + 1) % 2 ^ 64 → b ≡ s.a % L + 1
      l_up u = up_small (omega (arith, l_split.1, f.letters_le)) (u ∙ ap (λ y. (y.l + 1) % 2 ^ 64) e)

      v_split : (s.a / L / r < n * n * n * r) × (s.a / L % r < r) × (s.a / L / r * r + s.a / L % r ≡ s.a / L)
      v_split = split (s.a / L) (n * n * n * r) r l_split.0

      v_up : {b : ℕ} → b ≡ (x.v.0 + 1) % 2 ^ 64 → b ≡ s.a / L % r + 1
      v_up u = up_small (omega (arith, v_split.1, f.r_le)) (u ∙ ap (λ y. (y.v.0 + 1) % 2 ^ 64) e)

      -- the next letter, and the next state, from their first sets on
      pub letter_next : {l : ℕ} → l ≡ (x.l + 1) % 2 ^ 64 → l < L → (s.a + 1 < n * n * n * r * r * L) × (moved x x.v.0 l 0 0 0 ≡ indices_with_sets (s.a + 1) 0 0 0)
      letter_next l_is h =
          let a = s.a in
          let c = l_split in
          let up = l_up l_is in
          let l_lt : a % L + 1 < L = omega (arith, up) in
          let a-is : a + 1 ≡ a / L * L + (a % L + 1) = omega (arith, c.2) in
          let whole : (a + 1) / L ≡ a / L = ap (λ b. b / L) a-is ∙ digits_div (a / L) l_lt in
          let left : (a + 1) % L ≡ a % L + 1 = ap (λ b. b % L) a-is ∙ digits_mod (a / L) l_lt in (
            subst (λ b. b < n * n * n * r * r * L) (sym a-is) (digits_lt c.0 l_lt),
            ap (λ l. moved x x.v.0 l 0 0 0) up ∙ ap (λ y. moved y y.v.0 (a % L + 1) 0 0 0) e
                ∙ sym (part_indices (a + 1) (a / L / r) (a / L % r) (a % L + 1) (ap (λ b. b / r) whole) (ap (λ b. b % r) whole) left),
          )

      pub state_next : {v : ℕ} → v ≡ (x.v.0 + 1) % 2 ^ 64 → v < r → ((s.a / L + 1) * L < n * n * n * r * r * L) × (moved x v 0 0 0 0 ≡ indices_with_sets ((s.a / L + 1) * L) 0 0 0)
      state_next v_is h =
          let a = s.a in
          let d = v_split in
          let up = v_up v_is in
          let L-some : 0 < L = f.letters_some in
          let v_lt : a / L % r + 1 < r = omega (arith, up) in
          let b-is : a / L + 1 ≡ a / L / r * r + (a / L % r + 1) = omega (arith, d.2) in
          let none : (a / L + 1) * L ≡ (a / L + 1) * L + 0 = omega arith in
          let whole : (a / L + 1) * L / L ≡ a / L + 1 = ap (λ b. b / L) none ∙ digits_div (a / L + 1) L-some in
          let left : (a / L + 1) * L % L ≡ 0 = ap (λ b. b % L) none ∙ digits_mod (a / L + 1) L-some in
          let above : (a / L + 1) / r ≡ a / L / r = ap (λ b. b / r) b-is ∙ digits_div (a / L / r) v_lt in
          let here : (a / L + 1) % r ≡ a / L % r + 1 = ap (λ b. b % r) b-is ∙ digits_mod (a / L / r) v_lt in
          let b_lt : a / L + 1 < n * n * n * r * r = subst (λ b. b < n * n * n * r * r) (sym b-is) (digits_lt d.0 v_lt) in (
            subst (λ b. b < n * n * n * r * r * L) (sym none) (digits_lt b_lt L-some),
            ap (λ v. moved x v 0 0 0 0) up ∙ ap (λ y. moved y (a / L % r + 1) 0 0 0 0) e
                ∙ sym (part_indices ((a / L + 1) * L) (a / L / r) (a / L % r + 1) 0 (ap (λ b. b / r) whole ∙ above) (ap (λ b. b % r) whole ∙ here) left),
          )

      -- after the last letter comes the next state
      pub last_letter : {l : ℕ} → l ≡ (x.l + 1) % 2 ^ 64 → L ≤ l → s.a + 1 ≡ (s.a / L + 1) * L
      last_letter l_is h =
          let c = l_split in
          let l-last : L ≡ s.a % L + 1 = omega (arith, c.1, l_up l_is) in
          omega (arith, c.2, l-last)

    -- ---- each index that can rise, after those that start again

    module _ {K : ℕ} (K-is : K ≡ (x.k + 1) % 2 ^ 64) where
      pub next_K : K < z.candidate.subsets → Follows z x (moved x x.v.0 x.l x.i x.j K)
      next_K h = follows (λ f k s e g.
          let up = K-up f s e K-is in
          next_at k s.a s.I s.J (s.K + 1) (omega (arith, s.place)) s.a_lt s.I-lt s.J-lt (omega (arith, up, f.candidate_subsets))
          (ap (moved x x.v.0 x.l x.i x.j) up ∙ ap (λ y. moved y y.v.0 y.l y.i y.j (s.K + 1)) e))

      module _ {J : ℕ} (hK : z.candidate.subsets ≤ K) (J-is : J ≡ (x.j + 1) % 2 ^ 64) where
        pub next_J : J < z.reference.subsets → Follows z x (moved x x.v.0 x.l x.i J 0)
        next_J h = follows (λ f k s e g.
            let up = J-up f s e J-is in
            next_at k s.a s.I (s.J + 1) 0 (carry_K ((s.a * M + s.I) * S + s.J) s.K (K-last f s e K-is hK) (omega arith) s.place)
            s.a_lt s.I-lt (omega (arith, up, f.reference_subsets)) (pow_pos z.candidate.sets)
            (ap (λ J. moved x x.v.0 x.l x.i J 0) up ∙ ap (λ y. moved y y.v.0 y.l y.i (s.J + 1) 0) e))

        module _ {I : ℕ} (hJ : z.reference.subsets ≤ J) (I-is : I ≡ (x.i + 1) % 2 ^ 64) where
          pub next_I : I < z.candidate.subsets → Follows z x (moved x x.v.0 x.l I 0 0)
          next_I h = follows (λ f k s e g.
              let up = I-up f s e I-is in
              next_at k s.a (s.I + 1) 0 0 (carry_J (s.a * M + s.I) s.J s.K (J-last f s e J-is hJ) (K-last f s e K-is hK) (omega arith) s.place)
              s.a_lt (omega (arith, up, f.candidate_subsets)) (pow_pos z.reference.sets) (pow_pos z.candidate.sets)
              (ap (λ I. moved x x.v.0 x.l I 0 0) up ∙ ap (λ y. moved y y.v.0 y.l (s.I + 1) 0 0) e))

          module _ {l : ℕ} (hI : z.candidate.subsets ≤ I) (l_is : l ≡ (x.l + 1) % 2 ^ 64) where
            -- the next part, from its first sets on
            part : (f : Fitting z) {k : ℕ} (s : Sets k) → x ≡ indices_with_sets s.a s.I s.J s.K → k + 1 ≡ at_sets (s.a + 1) 0 0 0
            part f s e = carry_I s.a s.I s.J s.K (I-last f s e I-is hI) (J-last f s e J-is hJ) (K-last f s e K-is hK) s.place

            pub next_l : l < L → Follows z x (moved x x.v.0 l 0 0 0)
            next_l h = follows (λ f k s e g.
                let t = letter_next f s e l_is h in
                next_at k (s.a + 1) 0 0 0 (part f s e) t.0 (pow_pos z.candidate.sets) (pow_pos z.reference.sets) (pow_pos z.candidate.sets) t.1)

            pub next_v : {v : ℕ} → L ≤ l → v ≡ (x.v.0 + 1) % 2 ^ 64 → Follows z x (moved x v 0 0 0 0)
            next_v hl v_is = follows (λ f k s e g.
                let t = state_next f s e v_is g in
                next_at k ((s.a / L + 1) * L) 0 0 0 (part f s e ∙ ap (λ a. at_sets a 0 0 0) (last_letter f s e l_is hl)) t.0 (pow_pos z.candidate.sets) (pow_pos z.reference.sets) (pow_pos z.candidate.sets) t.1)
