-- Laws of lists that are made or filled by counting.
use Rattle.std.specs.Prelude.{◌≡◌, refl, List, [], ◌∷◌, ◌++◌, ℕ, zero, suc, ◌+◌, ◌≤◌, ◌<◌, length, get_or, set}
use Rattle.std.proofs.Common.{sym, ap, ◌∙◌, not-suc-le-zero, arith, below_more, length-append, length-set, ext_get_or, get_or-set_same, get_or-set_other}
use Rattle.std.proofs.Math.Decide.{ℕ_discrete}
use Rattle.std.proofs.Math.ListN.{get_or-append}
use Rattle.std.proofs.lemmas.List.{get_or_at}
use Rattle.meaning.specs.Counting.{each}

pub each_length : {A : Type 0} (n : ℕ) (f : ℕ → A) → length (each n (λ i. f i ∷ [])) ≡ n
each_length zero f = refl
each_length (suc n) f = length-append (each n (λ i. f i ∷ [])) (f n ∷ []) ∙ omega (arith, each_length n f)

pub each_at : {A : Type 0} (d : A) (n : ℕ) (f : ℕ → A) (i : ℕ) → i < n → get_or (each n (λ i. f i ∷ [])) i d ≡ f i
each_at d zero f i h = absurd (not-suc-le-zero h)
each_at d (suc n) f i h = go (ℕ_discrete i n) (λ g. each_at d n f i g)
  where
    go : Dec (i ≡ n) → (i < n → get_or (each n (λ i. f i ∷ [])) i d ≡ f i) → get_or (each n (λ i. f i ∷ []) ++ (f n ∷ [])) i d ≡ f i
    go (yes e) ih = get_or_at (each n (λ i. f i ∷ [])) (f n) [] d i (each_length n f ∙ sym e) ∙ ap f (sym e)
    go (no e) ih = get_or-append (each n (λ i. f i ∷ [])) (f n ∷ []) d i (omega (arith, each_length n f)) ∙ ih (omega arith)

-- a list that is filled from the front, as f says: one number more
pub filled_next : (xs : List ℕ) (f : ℕ → ℕ) (i v : ℕ) → i < length xs → ((k : ℕ) → k < i → get_or xs k 0 ≡ f k) → v ≡ f i
    → (k : ℕ) → k < i + 1 → get_or (set xs i v) k 0 ≡ f k
filled_next xs f i v h old e =
    below_more (λ k. get_or (set xs i v) k 0 ≡ f k) i (λ k g. get_or-set_other xs i k v 0 (omega arith) ∙ old k g) (get_or-set_same xs i v 0 h ∙ e)

-- a list of n numbers, of which the first i are as f says
pub record Filled (f : ℕ → ℕ) (n : ℕ) (xs : List ℕ) (i : ℕ) : Type 0 where
  pub size : length xs ≡ n
  pub reached : i ≤ n
  pub entries : (k : ℕ) → k < i → get_or xs k 0 ≡ f k

pub filled_none : (f : ℕ → ℕ) (n : ℕ) (xs : List ℕ) → length xs ≡ n → Filled f n xs 0
filled_none f n xs e = record { size = e; reached = omega arith; entries = λ k h. absurd (omega arith) }

pub filled_more : (f : ℕ → ℕ) (n : ℕ) (xs : List ℕ) (i v : ℕ) → Filled f n xs i → i < n → v ≡ f i → Filled f n (set xs i v) (i + 1)
filled_more f n xs i v F h e = record {
  size = length-set xs i v ∙ F.size;
  reached = omega arith;
  entries = filled_next xs f i v (omega (arith, F.size)) F.entries e;
}

pub filled_all : (f : ℕ → ℕ) (n : ℕ) (xs : List ℕ) (i : ℕ) → Filled f n xs i → n ≤ i → xs ≡ each n (λ k. f k ∷ [])
filled_all f n xs i F h =
    ext_get_or 0 xs (each n (λ k. f k ∷ [])) (F.size ∙ sym (each_length n f))
    (λ k g. let l : k < n = omega (arith, F.size) in F.entries k (omega arith) ∙ sym (each_at 0 n f k l))
