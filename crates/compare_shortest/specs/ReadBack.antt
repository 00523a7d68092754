-- The word to a place, read back from edge to edge into a buffer, from its end to its front.
use Rattle.std.specs.Prelude.{◌≡◌, List, [], ◌∷◌, ◌++◌, ℕ, zero, suc, ◌-◌, ◌/◌, ◌%◌, ◌≤◌, ◌<◌, length, set, drop}
use Rattle.std.proofs.Common.{sym, ap, ◌∙◌, append_assoc, arith, length-set, drop-cons, drop-set-lt, get_or-set_same}
use Rattle.compare_shortest.specs.Search.{Places, parent, Search}
use Rattle.compare_shortest.specs.SearchWords.{back}

-- d edges back from the place k, each place on the way is below n
abbrev pub Chain : (ℕ → ℕ) → ℕ → ℕ → ℕ → Type 0
Chain edge n zero k = Unit {0}
Chain edge n (suc d) k = (k < n) × Chain edge n d (edge k / 16)

pub chain : {σ : ℕ → ℕ → ℕ} {L root : ℕ} {seen : ℕ → ℕ} {a : Places} {n h l : ℕ} → Search σ L root seen a n h l → (N : ℕ) → n ≤ N → (d k : ℕ) → k < n → a.depth k ≡ d → Chain a.edge N d k
chain S N m zero k g e = tt
chain {a = a} S N m (suc d) k g e =
    let C = S.child k (deep k e) g in
    (omega arith, chain S N m d (parent a k) (omega (arith, C.up)) (omega (arith, C.deeper)))
  where
    deep : (j : ℕ) → a.depth j ≡ suc d → 0 < j
    deep zero z = absurd (omega (arith, S.root_depth))
    deep (suc j) z = omega arith

-- ---- the loop: the last d letters are still to be written, and the rest of the word and of the buffer stands behind them
pub record Reading (edge : ℕ → ℕ) (n : ℕ) (whole out : List ℕ) (d k : ℕ) : Type 0 where
  pub way : Chain edge n d k
  pub fits : d ≤ length out
  pub same : back edge d k ++ drop d out ≡ whole

drop_set : (out : List ℕ) (d v : ℕ) → d < length out → drop d (set out d v) ≡ v ∷ drop (suc d) out
drop_set out d v h =
    drop-cons (set out d v) d 0 (rw (length-set out d v) h)
    ∙ ap (λ x. x ∷ drop (suc d) (set out d v)) (get_or-set_same out d v 0 h) ∙ ap (λ r. v ∷ r) (drop-set-lt (suc d) out d v (omega arith))

pub read_within : {edge : ℕ → ℕ} {n : ℕ} {whole out : List ℕ} (d k : ℕ) → Reading edge n whole out d k → 0 < d → k < n
read_within zero k R p = absurd (omega arith)
read_within (suc d) k R p = R.way.0

pub read_one : {edge : ℕ → ℕ} {n : ℕ} {whole out : List ℕ} (d k : ℕ) {e : ℕ} → Reading edge n whole out d k → 0 < d → e ≡ edge k
    → Reading edge n whole (set out (d - 1) (e % 16)) (d - 1) (e / 16)
read_one zero k R p z = absurd (omega arith)
read_one {edge} {n} {whole} {out} (suc d) k R p z =
    let s : suc d - 1 ≡ d = omega arith in
    rw (s, z) (record {
      way = R.way.1;
      fits = rw (length-set out d (edge k % 16)) (omega (arith, R.fits));
      same = ap (λ r. back edge d (edge k / 16) ++ r) (drop_set out d (edge k % 16) R.fits)
          ∙ sym (append_assoc (back edge d (edge k / 16)) (edge k % 16 ∷ []) (drop (suc d) out)) ∙ R.same;
    })

pub read_all : {edge : ℕ → ℕ} {n : ℕ} {whole out : List ℕ} (d k : ℕ) → Reading edge n whole out d k → d ≤ 0 → out ≡ whole
read_all zero k R h = R.same
read_all (suc d) k R h = absurd (omega arith)
