-- Laws of the next clause: it is the first of the clauses from a position on, and from position 0 on they are the file.
use Rattle.std.specs.Prelude.{◌≡◌, ℤ, length}
use Rattle.std.proofs.Math.Path.{refl, sym, ap, ap₂, subst}
use Rattle.std.proofs.Common.{◌∙◌, le_of_suc-le-suc, not-suc-le-zero}
use mathlib.Core.List.{List, [], ◌∷◌, ◌++◌, Memᴰ}
use Prim.Native.Nat.{ℕ, zero, suc, ◌+◌, ◌-◌, ◌≤◌, ◌<◌}
use Rattle.std.proofs.Math.Decide.{dec_le}
use native.Mathlib.Omega.{arith}
use Rattle.encoding.specs.Variables.{Task, Var, Present}
use Rattle.encoding.specs.Clauses.{each, file}
use Rattle.encoding.specs.Loops.{each_same, each_add, each_in, each_elim}
use Rattle.encoding.specs.Positions.{positions, at_position}
use Rattle.encoding.specs.ByPosition.{by_position, at_most_one}
use Rattle.encoding.specs.WellPosed.{WellPosed}
use Rattle.encoding.proofs.SameNumbers.{same_position}
use Rattle.clause_list.specs.Next.{Found, handed, ended, here_or, search_from, next_clause, clauses_from}

module _ (T : Task) (num : Var → ℕ) where
  abbrev at : ℕ → List (List ℤ)
  at = at_position T num

  abbrev all : ℕ
  all = positions T num

  -- ---- the clauses from a position on

  pub from_start : clauses_from T num 0 ≡ file T num
  unfolding clauses_from
  from_start =
      let e : all - 0 ≡ all = omega arith in
      ap (λ k. each k (λ i. at (0 + i))) e ∙ each_same all _ _ (λ i h. ap at (omega arith)) ∙ sym (by_position T num)

  pub from_end : (x : ℕ) → all ≤ x → clauses_from T num x ≡ []
  unfolding clauses_from each
  from_end x h =
      let e : all - x ≡ 0 = omega arith in
      ap (λ k. each k (λ i. at (x + i))) e

  first_at : (x : ℕ) → each 1 (λ i. at (x + i)) ≡ at x
  unfolding each
  first_at x = ap at (omega arith)

  from_more : (x : ℕ) → x < all → clauses_from T num x ≡ at x ++ clauses_from T num (x + 1)
  unfolding clauses_from
  from_more x h =
      let e : all - x ≡ 1 + (all - (x + 1)) = omega arith in
      ap (λ k. each k (λ i. at (x + i))) e ∙ each_add 1 (all - (x + 1)) (λ i. at (x + i))
      ∙ ap₂ ◌++◌ (first_at x) (each_same (all - (x + 1)) _ _ (λ i l. ap at (omega arith)))

  -- ---- the next clause, one position after another

  next_more : (x : ℕ) → x < all → next_clause T num x ≡ here_or (at x) (x + 1) (next_clause T num (x + 1))
  unfolding next_clause
  next_more x h =
      let e : all - x ≡ suc (all - (x + 1)) = omega arith in
      ap (λ k. search_from at k x) e

  pub next_skip : (x : ℕ) → x < all → at x ≡ [] → next_clause T num x ≡ next_clause T num (x + 1)
  next_skip x h e = next_more x h ∙ ap (λ cs. here_or cs (x + 1) (next_clause T num (x + 1))) e

  -- over a stretch where nothing stands
  pub next_over : (k x : ℕ) → x + k ≤ all → ((i : ℕ) → x ≤ i → i < x + k → at i ≡ []) → next_clause T num x ≡ next_clause T num (x + k)
  next_over zero x h e = ap (next_clause T num) (omega arith)
  next_over (suc k) x h e =
      next_skip x (omega arith) (e x (omega arith) (omega arith)) ∙ next_over k (x + 1) (omega arith) (λ i g l. e i (omega arith) (omega arith)) ∙ ap (next_clause T num) (omega arith)

  pub next_here : (x : ℕ) {c : List ℤ} → x < all → at x ≡ c ∷ [] → next_clause T num x ≡ handed c (x + 1)
  next_here x h e = next_more x h ∙ ap (λ cs. here_or cs (x + 1) (next_clause T num (x + 1))) e

  pub next_end : (x : ℕ) → all ≤ x → next_clause T num x ≡ ended x
  unfolding next_clause
  next_end x h =
      let e : all - x ≡ 0 = omega arith in
      ap (λ k. search_from at k x) e

  -- ---- the next clause is the first of those from here on

  abbrev pub First : List (List ℤ) → Found → Type 0
  First cs (handed c y) = cs ≡ c ∷ clauses_from T num y
  First cs (ended y) = (cs ≡ []) × (clauses_from T num y ≡ [])

  here_first : (x : ℕ) (cs : List (List ℤ)) → length cs ≤ 1 → (later : Found) → First (clauses_from T num (x + 1)) later
      → First (cs ++ clauses_from T num (x + 1)) (here_or cs (x + 1) later)
  here_first x [] l later f = f
  here_first x (c ∷ []) l later f = refl
  here_first x (c ∷ d ∷ cs) l later f = absurd (not-suc-le-zero (le_of_suc-le-suc l))

  search_first : (k x : ℕ) → k ≡ all - x → First (clauses_from T num x) (search_from at k x)
  search_first zero x e = (from_end x (omega arith), from_end x (omega arith))
  search_first (suc k) x e =
      subst (λ cs. First cs (search_from at (suc k) x)) (sym (from_more x (omega arith)))
      (here_first x (at x) (at_most_one T num x) (search_from at k (x + 1)) (search_first k (x + 1) (omega arith)))

  pub next_first : (x : ℕ) → First (clauses_from T num x) (next_clause T num x)
  unfolding next_clause
  next_first x = search_first (all - x) x refl

  -- ---- positions stay in a range that all positions of the file lie in

  abbrev pub position_of : Found → ℕ
  position_of (handed c y) = y
  position_of (ended y) = y

  here_le : (bound x : ℕ) (cs : List (List ℤ)) (later : Found) → x + 1 ≤ bound → position_of later ≤ bound → position_of (here_or cs (x + 1) later) ≤ bound
  here_le bound x [] later h l = l
  here_le bound x (c ∷ cs) later h l = h

  search_le : (bound k x : ℕ) → k ≡ all - x → all ≤ bound → x ≤ bound → position_of (search_from at k x) ≤ bound
  search_le bound zero x e h l = l
  search_le bound (suc k) x e h l = here_le bound x (at x) (search_from at k (x + 1)) (omega arith) (search_le bound k (x + 1) (omega arith) h (omega arith))

  pub next_le : (bound x : ℕ) → all ≤ bound → x ≤ bound → position_of (next_clause T num x) ≤ bound
  unfolding next_clause
  next_le bound x h l = search_le bound (all - x) x refl h l

  -- and they rise

  abbrev pub After : ℕ → Found → Type 0
  After x (handed c y) = x < y
  After x (ended y) = x ≤ y

  after_weaker : (x : ℕ) (f : Found) → After (x + 1) f → After x f
  after_weaker x (handed c y) h = omega arith
  after_weaker x (ended y) h = omega arith

  here_after : (x : ℕ) (cs : List (List ℤ)) (later : Found) → After (x + 1) later → After x (here_or cs (x + 1) later)
  here_after x [] later h = after_weaker x later h
  here_after x (c ∷ cs) later h = omega arith

  search_after : (k x : ℕ) → After x (search_from at k x)
  search_after zero x = omega arith
  search_after (suc k) x = here_after x (at x) (search_from at k (x + 1)) (search_after k (x + 1))

  pub next_after : (x : ℕ) → After x (next_clause T num x)
  unfolding next_clause
  next_after x = search_after (all - x) x

  -- ---- what is found is a clause of the file

  pub from_in_file : {c : List ℤ} (x : ℕ) → Memᴰ c (clauses_from T num x) → Memᴰ c (file T num)
  unfolding clauses_from
  from_in_file {c} x k = subst (Memᴰ c) (sym (by_position T num)) (each_elim (λ i h j. each_in at (x + i) (omega arith) j) k)

  pub found_in_file : {c : List ℤ} {y : ℕ} (x : ℕ) → next_clause T num x ≡ handed c y → Memᴰ c (file T num)
  found_in_file {c} {y} x e =
      let f : First (clauses_from T num x) (handed c y) = subst (First (clauses_from T num x)) e (next_first x) in
      from_in_file x (subst (Memᴰ c) (sym f) (Memᴰ.head refl))

-- ---- the same, where two numberings give the variables that there are the same numbers

module _ {T : Task} (W : WellPosed T) (num other : Var → ℕ) (same : (x : Var) → Present T x → num x ≡ other x) where
  search_same : (k x : ℕ) → x + k ≤ positions T num → search_from (at_position T num) k x ≡ search_from (at_position T other) k x
  search_same zero x h = refl
  search_same (suc k) x h =
      ap₂ (λ (cs : List (List ℤ)) (later : Found). here_or cs (x + 1) later) (same_position W num other same x (omega arith)) (search_same k (x + 1) (omega arith))

  pub same_next : (x : ℕ) → next_clause T num x ≡ next_clause T other x
  unfolding next_clause
  same_next x = go (dec_le x (positions T num))
    where
      go : Dec (x ≤ positions T num) → search_from (at_position T num) (positions T num - x) x ≡ search_from (at_position T other) (positions T num - x) x
      go (yes h) = search_same (positions T num - x) x (omega arith)
      go (no h) = let e : positions T num - x ≡ 0 = omega arith in ap (λ k. search_from (at_position T num) k x) e ∙ sym (ap (λ k. search_from (at_position T other) k x) e)

  pub same_from : (x : ℕ) → clauses_from T num x ≡ clauses_from T other x
  unfolding clauses_from
  same_from x = each_same (positions T num - x) _ _ (λ i h. same_position W num other same (x + i) (omega arith))
