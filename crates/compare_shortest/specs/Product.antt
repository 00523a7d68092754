-- Words in the product of two automata, whose nodes are numbers: two states, and a set of marks of each automaton.
use Rattle.std.specs.Prelude.{◌≡◌, refl, ◌≢◌, List, [], ◌∷◌, ℕ, ◌+◌, ◌*◌, ◌/◌, ◌%◌, ◌≤◌, ◌<◌}
use Rattle.std.proofs.Common.{sym, ap, ap₂, ◌∙◌, subst, arith}
use Rattle.std.specs.Int.Bits.{bit_or, or_zero_l, or_zero_r}
use Rattle.std.proofs.lemmas.Nat.{or_lt, or_comm, or_block}
use Rattle.meaning.specs.Walk.{run}
use Rattle.meaning.specs.Agreement.{Over}
use Rattle.compare_shortest.specs.Graph.{at, succ, Hit, HitLoop, HitLasso}
use Rattle.compare_tables.specs.Tables.{entry, Below}
use Rattle.compare_shortest.specs.Difference.{met, Fit, Shows}
use Rattle.compare_shortest.specs.declared.Verdict.{Verdict}
use Rattle.compare_shortest.specs.Answer.{Within, Answer}
use Rattle.compare_shortest.specs.AnswerLaws.{answer_same, within_same}
use Rattle.compare_shortest.specs.Met.{run_lt, met_lt}
use Rattle.compare_shortest.specs.Union.{or_assoc}
use Rattle.compare_shortest.specs.ProductTables.{pair_at, Tables}

-- ---- steps and words in the product

-- a pair of states, and a set of marks of each automaton
abbrev pub code : ℕ → ℕ → ℕ → ℕ → ℕ
code a b i j = (a * 16 + b) * 256 + (i * 16 + j)

pair_at_lem : (A B : List ℕ) (a b l : ℕ) → a < 16 → b < 16 → l < 16 → pair_at A B ((a * 16 + b) * 16 + l) ≡ entry A a l * 16 + entry B b l
pair_at_lem A B a b l ha hb hl =
    let i : ℕ = (a * 16 + b) * 16 + l in
    let ea : i / 256 * 16 + i % 16 ≡ a * 16 + l = omega arith in
    let eb : i / 16 % 16 * 16 + i % 16 ≡ b * 16 + l = omega arith in
    ap₂ (λ u v. at A u * 16 + at B v) ea eb

-- a table whose entry there is the pair p with the marks m leads to p, and adds m to the marks k
step_at : (D : List ℕ) (q l p m k : ℕ) → at D (q * 16 + l) ≡ p * 256 + m → m < 256 → k < 256 → succ D (q * 256 + k) l ≡ p * 256 + bit_or m k
unfolding succ
step_at D q l p m k e hm hk =
    let c : ℕ = q * 256 + k in
    let x : c / 256 * 16 + l ≡ q * 16 + l = omega arith in
    let y : c % 256 ≡ 0 * 256 + k = omega arith in
    ap₂ bit_or (ap (at D) x ∙ e) y ∙ or_block 8 p 0 m k hm hk ∙ ap (λ z. z * 256 + bit_or m k) (or_zero_r p)

module _ {na ma nb mb P D : List ℕ} {L : ℕ} (T : Tables na ma nb mb P D 4096) (NA : Below 16 na) (MA : Below 16 ma) (NB : Below 16 nb) (MB : Below 16 mb) (hL : L ≤ 16) where
  module _ (a b l : ℕ) (ha : a < 16) (hb : b < 16) (hl : l < 16) where
    plain_step : succ P (code a b 0 0) l ≡ code (entry na a l) (entry nb b l) 0 0
    plain_step =
        let e : at P ((a * 16 + b) * 16 + l) ≡ (entry na a l * 16 + entry nb b l) * 256 + 0
        = T.plain_at ((a * 16 + b) * 16 + l) (omega arith) ∙ ap (λ p. p * 256) (pair_at_lem na nb a b l ha hb hl) ∙ omega arith in
        step_at P (a * 16 + b) l (entry na a l * 16 + entry nb b l) 0 0 e (omega arith) (omega arith)

    table_step : (i j : ℕ) → i < 16 → j < 16 → succ D (code a b i j) l ≡ code (entry na a l) (entry nb b l) (bit_or (entry ma a l) i) (bit_or (entry mb b l) j)
    table_step i j hi hj =
        step_at D (a * 16 + b) l (entry na a l * 16 + entry nb b l) (entry ma a l * 16 + entry mb b l) (i * 16 + j)
        (T.table_at ((a * 16 + b) * 16 + l) (omega arith) ∙ ap₂ (λ p m. p * 256 + m) (pair_at_lem na nb a b l ha hb hl) (pair_at_lem ma mb a b l ha hb hl))
        (omega (arith, MA a l ha hl, MB b l hb hl)) (omega arith)
        ∙ ap (λ m. (entry na a l * 16 + entry nb b l) * 256 + m) (or_block 4 (entry ma a l) i (entry mb b l) j (MB b l hb hl) hj)

  plain_run : (w : List ℕ) (a b : ℕ) → a < 16 → b < 16 → Over L w → run (succ P) (code a b 0 0) w ≡ code (run (entry na) a w) (run (entry nb) b w) 0 0
  plain_run [] a b ha hb o = refl
  plain_run (l ∷ w) a b ha hb o =
      let hl : l < 16 = omega (arith, o.0) in
      ap (λ c. run (succ P) c w) (plain_step a b l ha hb hl) ∙ plain_run w (entry na a l) (entry nb b l) (NA a l ha hl) (NB b l hb hl) o.1

  table_run : (w : List ℕ) (a b i j : ℕ) → a < 16 → b < 16 → i < 16 → j < 16 → Over L w
      → run (succ D) (code a b i j) w ≡ code (run (entry na) a w) (run (entry nb) b w) (bit_or (met na ma a w) i) (bit_or (met nb mb b w) j)
  table_run [] a b i j ha hb hi hj o = sym (ap₂ (code a b) (or_zero_l i) (or_zero_l j))
  table_run (l ∷ w) a b i j ha hb hi hj o =
      let hl : l < 16 = omega (arith, o.0) in
      ap (λ c. run (succ D) c w) (table_step a b l ha hb hl i j hi hj)
      ∙ table_run w (entry na a l) (entry nb b l) (bit_or (entry ma a l) i) (bit_or (entry mb b l) j) (NA a l ha hl) (NB b l hb hl) (or_lt 4 (entry ma a l) i (MA a l ha hl) hi)
      (or_lt 4 (entry mb b l) j (MB b l hb hl) hj) o.1
      ∙ ap₂ (code (run (entry na) a (l ∷ w)) (run (entry nb) b (l ∷ w))) (swap (met na ma (entry na a l) w) (entry ma a l) i) (swap (met nb mb (entry nb b l) w) (entry mb b l) j)
    where
      swap : (r e m : ℕ) → bit_or r (bit_or e m) ≡ bit_or (bit_or e r) m
      swap r e m = sym (or_assoc r e m) ∙ ap (λ x. bit_or x m) (or_comm r e)

  -- ---- a loop in the product is a hit where it brings both automata back and the sets met are a hit
  module _ (H : List ℕ) (a b : ℕ) (ha : a < 16) (hb : b < 16) (y : List ℕ) (oy : Over L y) where
    abbrev c : ℕ
    c = run (succ D) (code a b 0 0) y

    abbrev mA : ℕ
    mA = met na ma a y

    abbrev mB : ℕ
    mB = met nb mb b y

    leads : c ≡ code (run (entry na) a y) (run (entry nb) b y) mA mB
    leads = table_run y a b 0 0 ha hb (omega arith) (omega arith) oy ∙ ap₂ (code (run (entry na) a y) (run (entry nb) b y)) (or_zero_r mA) (or_zero_r mB)

    small : mA * 16 + mB < 256
    small = omega (arith, met_lt na ma NA MA hL y a ha oy, met_lt nb mb NB MB hL y b hb oy)

    pair_of : c / 256 ≡ run (entry na) a y * 16 + run (entry nb) b y
    pair_of = ap (λ z. z / 256) leads ∙ omega (arith, small)

    marks_on : c % 256 ≡ mA * 16 + mB
    marks_on = ap (λ z. z % 256) leads ∙ omega (arith, small)

    hit_closed : Hit H (code a b 0 0 / 256) c → (run (entry na) a y ≡ a) × (run (entry nb) b y ≡ b) × (entry H mA mB ≢ 0)
    hit_closed (p, m) =
        let e : run (entry na) a y * 16 + run (entry nb) b y ≡ a * 16 + b = sym pair_of ∙ p ∙ omega arith in
        let r = run_lt nb NB hL y b hb oy in
        (omega arith, omega arith, λ z. m (ap (at H) marks_on ∙ z))

    closed_hit : run (entry na) a y ≡ a → run (entry nb) b y ≡ b → entry H mA mB ≢ 0 → Hit H (code a b 0 0 / 256) c
    closed_hit ea eb m = (pair_of ∙ omega (arith, ea, eb), λ z. m (ap (at H) (sym marks_on) ∙ z))

  module _ {H : List ℕ} {s t : ℕ} (hs : s < 16) (ht : t < 16) (x y : List ℕ) where
    pub shows_lasso : Shows na ma nb mb H L s t x y → HitLasso P D H L (code s t 0 0) x y
    shows_lasso Q = record {
      over = Q.over_x;
      loop = subst (λ v. HitLoop D H L v y) (sym (plain_run x s t hs ht Q.over_x)) (record {
        over = Q.over_y;
        some = Q.some;
        hit = closed_hit H (run (entry na) s x) (run (entry nb) t x) (run_lt na NA hL x s hs Q.over_x) (run_lt nb NB hL x t ht Q.over_x) y Q.over_y Q.closed_A Q.closed_B Q.hit;
      });
    }

    pub lasso_shows : HitLasso P D H L (code s t 0 0) x y → Shows na ma nb mb H L s t x y
    lasso_shows Q =
        let ox = Q.over in
        let W : HitLoop D H L (code (run (entry na) s x) (run (entry nb) t x) 0 0) y = subst (λ v. HitLoop D H L v y) (plain_run x s t hs ht ox) Q.loop in
        let (ca, cb, h) = hit_closed H (run (entry na) s x) (run (entry nb) t x) (run_lt na NA hL x s hs ox) (run_lt nb NB hL x t ht ox) y W.over W.hit in
        record { over_x = ox; over_y = W.over; some = W.some; closed_A = ca; closed_B = cb; hit = h }

-- ---- from the words of the product to those of the two automata
pub product_answer : {na ma nb mb P D : List ℕ} {L s t root : ℕ} → Tables na ma nb mb P D 4096 → Fit na ma nb mb L s t → root ≡ (s * 16 + t) * 256
    → (H : List ℕ) (p l : ℕ) (prefix written-prefix cycle written-cycle : List ℕ) (r : Verdict) → Answer (Within p l (HitLasso P D H L root)) prefix written-prefix cycle written-cycle r
    → Answer (Within p l (Shows na ma nb mb H L s t)) prefix written-prefix cycle written-cycle r
product_answer {P = P} {D} {L} {s} {t} {root} T F e H p l prefix written-prefix cycle written-cycle =
    answer_same prefix written-prefix cycle written-cycle
    (within_same (λ x y Q. lasso_shows T F.first.next_lt F.first.marks_lt F.second.next_lt F.second.marks_lt F.letters F.first.start_lt F.second.start_lt x y (subst (λ v. HitLasso P D H L v x y) at_start_lem Q)))
    (within_same (λ x y Q. subst (λ v. HitLasso P D H L v x y) (sym at_start_lem) (shows_lasso T F.first.next_lt F.first.marks_lt F.second.next_lt F.second.marks_lt F.letters F.first.start_lt F.second.start_lt x y Q)))
  where
    at_start_lem : root ≡ code s t 0 0
    at_start_lem = e ∙ omega arith
