-- The nodes that have been seen: none before a search, and none again when they have been forgotten after it, place by place.
use Rattle.std.specs.Prelude.{◌≡◌, refl, ◌≢◌, List, ℕ, zero, suc, ◌+◌, ◌≤◌, ◌<◌, length, set, replicate}
use Rattle.std.proofs.Common.{sym, ap, ◌∙◌, arith, length-set, get_or-set_same, get_or-set_other}
use Rattle.std.proofs.Math.Decide.{ℕ_discrete}
use Rattle.compare_shortest.specs.Graph.{at}
use Rattle.compare_shortest.specs.Packing.{node_of}

-- no node has been seen
abbrev pub Clear : List ℕ → Type 0
Clear seen = (c : ℕ) → at seen c ≡ 0

pub zeros_clear : (n : ℕ) → Clear (replicate n 0)
zeros_clear zero c = refl
zeros_clear (suc n) zero = refl
zeros_clear (suc n) (suc c) = zeros_clear n c

-- the nodes that have been seen stand at the places from m to n - 1
pub record SeenAt (seen places : List ℕ) (m n : ℕ) : Type 0 where
  pub size : length seen ≡ 65536
  pub place : (c : ℕ) → at seen c ≢ 0 → (k : ℕ) × (m ≤ k) × (k < n) × (node_of (at places k) ≡ c)

module _ {seen places : List ℕ} {k n : ℕ} (M : SeenAt seen places k n) where
  pub forget_one : (c : ℕ) → c ≡ node_of (at places k) → SeenAt (set seen c 0) places (k + 1) n
  forget_one c e = record { size = length-set seen c 0 ∙ M.size; place = λ j ne. go j ne (ℕ_discrete j c) }
    where
      go : (j : ℕ) → at (set seen c 0) j ≢ 0 → Dec (j ≡ c) → (i : ℕ) × (k + 1 ≤ i) × (i < n) × (node_of (at places i) ≡ j)
      go j ne (yes z) = absurd (ne (ap (at (set seen c 0)) z ∙ get_or-set_same seen c 0 0 (omega (arith, M.size))))
      go j ne (no z) =
          let (i, low, high, there) = M.place j (λ w. ne (get_or-set_other seen c j 0 0 z ∙ w)) in
          let apart : i ≢ k = (λ w. z (sym there ∙ ap (λ q. node_of (at places q)) w ∙ sym e)) in
          (i, omega arith, high, there)

  pub forgotten : n ≤ k → Clear seen
  forgotten g c = go (ℕ_discrete (at seen c) 0)
    where
      go : Dec (at seen c ≡ 0) → at seen c ≡ 0
      go (yes e) = e
      go (no e) = let (i, low, high, there) = M.place c e in absurd (omega arith)
