-- THE FILE NAMES ONLY VARIABLES THAT THERE ARE: two numberings that give them the same numbers give the same file, position by position.
use Rattle.std.specs.Prelude.{◌≡◌, refl, Bool, true, false, List, [], ◌∷◌, ◌++◌, ℕ, ◌+◌, ◌-◌, ◌*◌, ◌/◌, ◌%◌, ◌^◌, ◌≤◌, ◌<◌, pos, neg_ℤ}
use Rattle.std.proofs.Common.{sym, ◌∙◌, arith, lt-ltb, le-ltb}
use Rattle.std.proofs.Math.Path.{ap, ap₂}
use Rattle.std.proofs.Math.Bool.{cond}
use Rattle.std.proofs.Math.Decide.{dec_lt}
use Rattle.meaning.specs.BitSet.{has}
use Rattle.meaning.specs.TestLaws.{and_left, and_right}
use Rattle.encoding.specs.Variables.{Task, Var, step, mark, path, Present}
use Rattle.encoding.specs.Clauses.{only, not_marks, totality, initial, successor, extension, closure, file}
use Rattle.encoding.specs.Loops.{each_same}
use Rattle.encoding.specs.Numbering.{split}
use Rattle.encoding.specs.WellPosed.{WellPosed, node_present, extension_present}
use Rattle.encoding.specs.Positions.{then_at, size₁, at₁, size₂, successors_at, at₂, size₃, at₃, size₄, at₄, positions, at_position}
use Rattle.encoding.specs.ByPosition.{by_position}

only_same : {A : Type 0} (b : Bool) (c d : A) → (b ≡ true → c ≡ d) → only b c ≡ only b d
unfolding only
only_same true c d e = ap (λ x. x ∷ []) (e refl)
only_same false c d e = refl

-- two loops one after the other, where each is the same
then_same : {A : Type 0} (a b : ℕ) (f f₂ g g₂ : ℕ → List A) → ((y : ℕ) → y < a → f y ≡ f₂ y) → ((y : ℕ) → y < b → g y ≡ g₂ y)
    → (x : ℕ) → x < a + b → then_at a f g x ≡ then_at a f₂ g₂ x
unfolding then_at
then_same a b f f₂ g g₂ hf hg x h = go (dec_lt x a)
  where
    go : Dec (x < a) → then_at a f g x ≡ then_at a f₂ g₂ x
    go (yes l) = rw (lt-ltb x a l) (hf x l)
    go (no l) = let k : a ≤ x = omega arith in rw (le-ltb x a k) (hg (x - a) (omega arith))

module _ {T : Task} (W : WellPosed T) (num other : Var → ℕ) (same : (x : Var) → Present T x → num x ≡ other x) where
  abbrev n : ℕ
  n = T.n

  abbrev L : ℕ
  L = T.reference.letters

  abbrev r : ℕ
  r = T.reference.states

  abbrev M : ℕ
  M = 2 ^ T.m

  abbrev S : ℕ
  S = 2 ^ T.reference.sets

  -- ---- literals and clauses

  lit_same : (x : Var) → Present T x → pos (num x) ≡ pos (other x)
  lit_same x h = ap pos (same x h)

  neg_same : (x : Var) → Present T x → neg_ℤ (pos (num x)) ≡ neg_ℤ (pos (other x))
  neg_same x h = ap (λ k. neg_ℤ (pos k)) (same x h)

  marks_same : (p l t K : ℕ) → Present T (step p l t) → not_marks T num p l t K ≡ not_marks T other p l t K
  unfolding not_marks
  marks_same p l t K (hp, hl, ht) = each_same T.m _ _ (λ i hi. ap (λ k. cond (has K i) (neg_ℤ (pos k)) (pos k) ∷ []) (same (mark p l i t) (hp, hl, hi, ht)))

  totality_same : (q l : ℕ) → q < n → l < L → totality T num q l ≡ totality T other q l
  unfolding totality
  totality_same q l hq hl = each_same n _ _ (λ p hp. ap (λ x. x ∷ []) (lit_same (step q l p) (hq, hl, hp)))

  initial_same : initial T num ≡ initial T other
  unfolding initial
  initial_same = ap (λ x. x ∷ []) (lit_same _ (node_present W 0 T.reference.start W.some_state W.formed.start_lt))

  successor_same : (q p u l : ℕ) → Present T (step q l p) → u < r → successor T num q p u l ≡ successor T other q p u l
  unfolding successor
  successor_same q p u l (hq, hl, hp) hu =
      ap₂ (λ x y. x ∷ y) (neg_same _ (node_present W q u hq hu))
      (ap₂ (λ x y. x ∷ y ∷ []) (neg_same _ (hq, hl, hp)) (lit_same _ (node_present W p (T.reference.step u l) hp (W.formed.step_lt u l hu hl))))

  extension_same : (q p t u v l I J K : ℕ) → Present T (path q u p v I J) → Present T (step p l t) → K < M → T.kept u (T.reference.step v l) ≡ true
      → extension T num q p t u v l I J K ≡ extension T other q p t u v l I J K
  unfolding extension
  extension_same q p t u v l I J K h s hK k =
      ap₂ (λ x y. x ∷ y) (neg_same _ h)
      (ap₂ (λ x y. x ∷ y) (neg_same _ s) (ap₂ (λ x y. x ++ (y ∷ [])) (marks_same p l t K s) (lit_same _ (extension_present W q p t u v l I J K h s hK k))))

  closure_same : (q p v l I J K : ℕ) → Present T (path q (T.reference.step v l) p v I J) → Present T (step p l q)
      → closure T num q p v l I J K ≡ closure T other q p v l I J K
  unfolding closure
  closure_same q p v l I J K h s = ap₂ (λ x y. x ∷ y) (neg_same _ h) (ap₂ (λ x y. x ∷ y) (neg_same _ s) (marks_same p l q K s))

  -- ---- positions

  same₁ : (x : ℕ) → x < size₁ T num → at₁ T num x ≡ at₁ T other x
  unfolding at₁
  same₁ x h = let d = split x n L h in ap (λ c. c ∷ []) (totality_same _ _ d.0 d.1)

  same₂ : (x : ℕ) → x < n * n * r * L → successors_at T num x ≡ successors_at T other x
  unfolding successors_at
  same₂ x h =
      let l = split x (n * n * r) L h in
      let u = split (x / L) (n * n) r l.0 in
      let p = split (x / L / r) n n u.0 in
      ap (λ c. c ∷ []) (successor_same _ _ _ _ (p.0, l.1, p.1) u.1)

  same₃ : (x : ℕ) → x < size₃ T num → at₃ T num x ≡ at₃ T other x
  unfolding at₃
  same₃ x h =
      let k = split x (n * n * n * r * r * L * M * S) M h in
      let j = split (x / M) (n * n * n * r * r * L * M) S k.0 in
      let i = split (x / M / S) (n * n * n * r * r * L) M j.0 in
      let l = split (x / M / S / M) (n * n * n * r * r) L i.0 in
      let v = split (x / M / S / M / L) (n * n * n * r) r l.0 in
      let u = split (x / M / S / M / L / r) (n * n * n) r v.0 in
      let t = split (x / M / S / M / L / r / r) (n * n) n u.0 in
      let p = split (x / M / S / M / L / r / r / n) n n t.0 in
      let vertex = x / M / S / M / L in
      let here = T.kept (vertex / r % r) (vertex % r) in
      only_same _ _ _ (λ e. extension_same _ _ _ _ _ _ _ _ _ (p.0, u.1, p.1, v.1, i.1, j.1, and_left here _ e) (p.1, l.1, t.1) k.1 (and_right here _ e))

  same₄ : (x : ℕ) → x < size₄ T num → at₄ T num x ≡ at₄ T other x
  unfolding at₄
  same₄ x h =
      let k = split x (n * n * r * L * M * S) M h in
      let j = split (x / M) (n * n * r * L * M) S k.0 in
      let i = split (x / M / S) (n * n * r * L) M j.0 in
      let l = split (x / M / S / M) (n * n * r) L i.0 in
      let v = split (x / M / S / M / L) (n * n) r l.0 in
      let p = split (x / M / S / M / L / r) n n v.0 in
      let a = x / M / S / M in
      let here = T.kept (T.reference.step (a / L % r) (a % L)) (a / L % r) in
      only_same _ _ _ (λ e. closure_same _ _ _ _ _ _ _ (p.0, W.formed.step_lt _ _ v.1 l.1, p.1, v.1, i.1, j.1, and_left here _ e) (p.1, l.1, p.0))

  pub same_position : (x : ℕ) → x < positions T num → at_position T num x ≡ at_position T other x
  unfolding at_position at₂
  same_position =
      then_same (size₁ T num) (size₂ T num + (size₃ T num + size₄ T num)) _ _ _ _ same₁
      (then_same (size₂ T num) (size₃ T num + size₄ T num) _ _ _ _
      (then_same 1 (n * n * r * L) _ _ _ _ (λ y h. ap (λ c. c ∷ []) initial_same) same₂)
      (then_same (size₃ T num) (size₄ T num) _ _ _ _ same₃ same₄))

  pub same_file : file T num ≡ file T other
  same_file = by_position T num ∙ each_same (positions T num) _ _ same_position ∙ sym (by_position T other)
