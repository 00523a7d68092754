-- The literals named, as the table of a reader has them.
use Rattle.std.specs.Prelude.{◌≡◌, refl, false, cond, not, List, [], ◌∷◌, ℕ, zero, suc, ◌+◌, ◌≤◌, ◌<◌, leb, eqb, ℤ, pos, negsuc, nat_abs, length, get_or, set, replicate}
use Rattle.std.proofs.Common.{sym, ◌∙◌, subst, add-zero, zero-add, arith, eq-eqb, ne_eqb, le-leb, le-ltb, leb-true, length-set, get_or-set_same, get_or-set_other, ext_get_or}
use Rattle.std.proofs.Math.Path.{ap}
use Rattle.std.proofs.Math.Decide.{ℕ_discrete}
use Rattle.meaning.specs.TestLaws.{or_false}
use Rattle.solver_scan.specs.SolverText.{mentioned}
use Rattle.solver_agreement.specs.Assignment.{asserted}
use Rattle.solver_literals.specs.Giving.{mark_of}
use Rattle.solver_scan.specs.Cases.{by}

-- ---- a list by its entries

abbrev pub entries : ℕ → ℕ → (ℕ → ℕ) → List ℕ
entries k zero f = []
entries k (suc n) f = f k ∷ entries (suc k) n f

entries_length : (k n : ℕ) (f : ℕ → ℕ) → length (entries k n f) ≡ n
entries_length k zero f = refl
entries_length k (suc n) f = ap suc (entries_length (suc k) n f)

entries_at : (k n : ℕ) (f : ℕ → ℕ) (i : ℕ) → i < n → get_or (entries k n f) i 0 ≡ f (k + i)
entries_at k zero f i h = absurd (omega arith)
entries_at k (suc n) f zero h = ap f (sym (add-zero k))
entries_at k (suc n) f (suc i) h = let e : suc k + i ≡ k + suc i = omega arith in entries_at (suc k) n f i (omega arith) ∙ ap f e

-- ---- the table

module _ (kept : ℕ) where
  -- 1 for true, 2 for false, 0 where it is not named or no step or mark variable
  abbrev pub entry : List ℤ → ℕ → ℕ
  entry ls v = cond (leb v kept) (cond (asserted v ls) 1 (cond (mentioned v ls) 2 0)) 0

  unfoldable pub table : List ℤ → List ℕ
  table ls = entries 0 5121 (entry ls)

  pub table_at : (ls : List ℤ) (v : ℕ) → v < 5121 → get_or (table ls) v 0 ≡ entry ls v
  unfolding table
  table_at ls v h = entries_at 0 5121 (entry ls) v h ∙ ap (entry ls) (zero-add v)

  pub table_length : (ls : List ℤ) → length (table ls) ≡ 5121
  unfolding table
  table_length ls = entries_length 0 5121 (entry ls)

  table_same : (t : List ℕ) (ls : List ℤ) → length t ≡ 5121 → ((v : ℕ) → v < 5121 → get_or t v 0 ≡ entry ls v) → t ≡ table ls
  table_same t ls size h = ext_get_or 0 t (table ls) (size ∙ sym (table_length ls)) (λ v g. let i : v < 5121 = omega arith in h v i ∙ sym (table_at ls v i))

asserted_mentioned : (v : ℕ) (ls : List ℤ) → mentioned v ls ≡ false → asserted v ls ≡ false
asserted_mentioned v [] h = refl
asserted_mentioned v (pos k ∷ ls) h =
    let (a, b) = or_false (eqb k v) (mentioned v ls) h in rw a (asserted_mentioned v ls b)
asserted_mentioned v (negsuc k ∷ ls) h = asserted_mentioned v ls (or_false (eqb (suc k) v) (mentioned v ls) h).1

module _ (kept : ℕ) where
  -- a literal of another variable
  entry_other : (l : ℤ) (ls : List ℤ) (v : ℕ) → (nat_abs l ≡ v → ⊥) → entry kept (l ∷ ls) v ≡ entry kept ls v
  entry_other (pos k) ls v h = rw (ne_eqb k v h)
  entry_other (negsuc k) ls v h = rw (ne_eqb (suc k) v h)

  entry_here : (l : ℤ) (ls : List ℤ) → nat_abs l ≤ kept → mentioned (nat_abs l) ls ≡ false → mark_of l ≡ entry kept (l ∷ ls) (nat_abs l)
  entry_here (pos k) ls h g = rw (le-leb k kept h, eq-eqb k k refl, le-ltb k 0 (omega arith))
  entry_here (negsuc k) ls h g = rw (le-leb (suc k) kept h, asserted_mentioned (suc k) ls g, eq-eqb (suc k) (suc k) refl)

  module _ (fits : kept ≤ 5120) where
    -- a new literal is one store
    pub table_new : (l : ℤ) (ls : List ℤ) → nat_abs l ≤ kept → mentioned (nat_abs l) ls ≡ false → set (table kept ls) (nat_abs l) (mark_of l) ≡ table kept (l ∷ ls)
    table_new l ls h g = table_same kept (set (table kept ls) (nat_abs l) (mark_of l)) (l ∷ ls) (length-set (table kept ls) (nat_abs l) (mark_of l) ∙ table_length kept ls) at
      where
        at : (v : ℕ) → v < 5121 → get_or (set (table kept ls) (nat_abs l) (mark_of l)) v 0 ≡ entry kept (l ∷ ls) v
        at v i = go (ℕ_discrete v (nat_abs l))
          where
            go : Dec (v ≡ nat_abs l) → get_or (set (table kept ls) (nat_abs l) (mark_of l)) v 0 ≡ entry kept (l ∷ ls) v
            go (yes e) =
                subst (λ j. get_or (set (table kept ls) (nat_abs l) (mark_of l)) j 0 ≡ entry kept (l ∷ ls) j) (sym e)
                (get_or-set_same (table kept ls) (nat_abs l) (mark_of l) 0 (omega (arith, table_length kept ls)) ∙ entry_here l ls h g)
            go (no e) =
                get_or-set_other (table kept ls) (nat_abs l) v (mark_of l) 0 e ∙ table_at kept ls v i ∙ sym (entry_other l ls v (λ z. e (sym z)))

    -- a path variable changes nothing
    pub table_other : (l : ℤ) (ls : List ℤ) → kept < nat_abs l → table kept ls ≡ table kept (l ∷ ls)
    table_other l ls h = table_same kept (table kept ls) (l ∷ ls) (table_length kept ls) (λ v i. table_at kept ls v i ∙ by (leb v kept)
        (λ e. sym (entry_other l ls v (λ z. absurd (omega (arith, leb-true v kept e, z)))))
        (λ e. rw e))

    -- an entry is 0 while its variable is not named
    pub table_free : (ls : List ℤ) (v : ℕ) → v ≤ kept → eqb (get_or (table kept ls) v 0) 0 ≡ not (mentioned v ls)
    table_free ls v h = rw (table_at kept ls v (omega arith), le-leb v kept h)
        (by (mentioned v ls) (λ e. by (asserted v ls) (λ a. rw (a, e)) (λ a. rw (a, e))) (λ e. rw (asserted_mentioned v ls e, e)))

    pub table_asserted : (ls : List ℤ) (v : ℕ) → v ≤ kept → eqb (get_or (table kept ls) v 0) 1 ≡ asserted v ls
    table_asserted ls v h = rw (table_at kept ls v (omega arith), le-leb v kept h)
        (by (asserted v ls) (λ a. rw a) (λ a. by (mentioned v ls) (λ e. rw (a, e)) (λ e. rw (a, e))))

entries_zero : (k n : ℕ) (f : ℕ → ℕ) → ((i : ℕ) → f i ≡ 0) → entries k n f ≡ replicate n 0
entries_zero k zero f h = refl
entries_zero k (suc n) f h = rw (h k, entries_zero (suc k) n f h)

-- nothing is named
pub table_fresh : (kept : ℕ) → table kept [] ≡ replicate 5121 0
unfolding table
table_fresh kept = entries_zero 0 5121 (entry kept []) (λ v. by (leb v kept) (λ e. rw e) (λ e. rw e))
