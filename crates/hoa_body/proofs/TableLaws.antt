-- Laws of the table: its cells, states and edges.
use mathlib.Core.Path.{◌≡◌, refl, sym, ap, ap₂, ◌∙◌}
use mathlib.Core.Logic.{◌≢◌}
use mathlib.Core.Bool.{Bool, true, false, cond, ◌&&◌, ◌||◌, and-false}
use mathlib.Core.List.{List}
use Rattle.std.proofs.Common.{Some, None}
use mathlib.Core.Option.{Option, none, some}
use Prim.Native.Nat.{ℕ, ◌+◌, ◌*◌, ◌/◌, ◌%◌, ◌^◌, ◌≤◌, ◌<◌, zero-le}
use native.Mathlib.Decide.{ℕ_discrete, dec_lt}
use native.Mathlib.Omega.{arith}
use borrow.Author.Tests.{lt-ltb, le-ltb, eq-eqb, ne_eqb}
use lib.Bits.{bit_or}
use lib.Dec.{ltb, eqb}
use lib.ListN.{length, get_or, set, replicate, length-set, get_or-replicate}
use lib.Seq.{ext_get_or, get_or-set_same, get_or-set_other}
use Rattle.meaning.specs.BitSet.{has}
use Rattle.meaning.specs.BitSetLaws.{has_or, has_zero}
use Rattle.meaning.specs.CountingLaws.{each_at}
use Rattle.automaton.specs.declared.Automaton.{Automaton}
use Rattle.automaton.specs.Value.{rows}
use Rattle.automaton.specs.Rows.{rows_length}
use Rattle.bits.specs.SingleSets.{has_single}
use Rattle.hoa_text.specs.Basics.{option, is_some}
use Rattle.hoa_text.specs.Header.{Header}
use Rattle.hoa_text.specs.Body.{Edge, letters, begun, with_edge}
use Rattle.hoa_text.specs.Body as Hoa
use Rattle.hoa_formulas.specs.Answers.{Members}
use Rattle.hoa_body.specs.declared.Current.{Current}
use Rattle.hoa_body.specs.declared.Table.{Table}
use Rattle.hoa_body.specs.Answers.{current_of}
use Rattle.hoa_body.specs.Tables.{HoldsNone, HoldsState, HoldsEdge, Filled}

-- ---- cells

module _ (q members v : ℕ) where
  -- whether the cell k is one of q's, for a letter below n
  abbrev among : ℕ → ℕ → Bool
  among n k = eqb (k / 16) q && (ltb (k % 16) n && has members (k % 16))

  pub filled_none : (cells : List ℕ) → Filled q members 0 v cells cells
  filled_none cells = record {
    size = refl;
    cells = λ k. sym (ap (λ b. cond (eqb (k / 16) q && (b && has members (k % 16))) v (get_or cells k 0)) (le-ltb (k % 16) 0 zero-le)
        ∙ ap (λ b. cond b v (get_or cells k 0)) (and-false (eqb (k / 16) q)));
  }

  -- the cell of the letter n
  module _ (n : ℕ) (hn : n < 16) where
    here : (k : ℕ) → k ≡ q * 16 + n → among (n + 1) k ≡ has members n
    here k e =
        let p : k / 16 ≡ q = omega arith in
        let m : k % 16 ≡ n = omega arith in
        rw (eq-eqb (k / 16) q p, m, lt-ltb n (n + 1) (omega arith))

    before : (k : ℕ) → k ≡ q * 16 + n → among n k ≡ false
    before k e =
        let m : k % 16 ≡ n = omega arith in
        rw (m, le-ltb n n (omega arith)) (and-false (eqb (k / 16) q))

    elsewhere : (k : ℕ) → k ≢ q * 16 + n → among (n + 1) k ≡ among n k
    elsewhere k e = go (ℕ_discrete (k / 16) q) (dec_lt (k % 16) n)
      where
        go : Dec (k / 16 ≡ q) → Dec (k % 16 < n) → among (n + 1) k ≡ among n k
        go (no p) m = rw (ne_eqb (k / 16) q p)
        go (yes p) (yes m) = rw (lt-ltb (k % 16) n m, lt-ltb (k % 16) (n + 1) (omega arith))
        go (yes p) (no m) = let l : n + 1 ≤ k % 16 = omega arith in rw (le-ltb (k % 16) n (omega arith), le-ltb (k % 16) (n + 1) l)

    module _ (entry cells : List ℕ) (f : Filled q members n v entry cells) where
      was : (k : ℕ) → k ≡ q * 16 + n → get_or cells k 0 ≡ get_or entry k 0
      was k p = f.cells k ∙ ap (λ b. cond b v (get_or entry k 0)) (before k p)

      others : (k : ℕ) → k ≢ q * 16 + n → get_or cells k 0 ≡ cond (among (n + 1) k) v (get_or entry k 0)
      others k p = f.cells k ∙ ap (λ b. cond b v (get_or entry k 0)) (sym (elsewhere k p))

      pub filled_next : (w : ℕ) → q * 16 + n < length cells → w ≡ cond (has members n) v (get_or cells (q * 16 + n) 0) → Filled q members (n + 1) v entry (set cells (q * 16 + n) w)
      filled_next w room e = record { size = length-set cells (q * 16 + n) w ∙ f.size; cells = λ k. go k (ℕ_discrete k (q * 16 + n)) }
        where
          go : (k : ℕ) → Dec (k ≡ q * 16 + n) → get_or (set cells (q * 16 + n) w) k 0 ≡ cond (among (n + 1) k) v (get_or entry k 0)
          go k (no p) = get_or-set_other cells (q * 16 + n) k w 0 p ∙ others k p
          go k (yes p) =
              ap (λ j. get_or (set cells (q * 16 + n) w) j 0) p ∙ get_or-set_same cells (q * 16 + n) w 0 room ∙ e
              ∙ ap (λ j. cond (has members n) v (get_or cells j 0)) (sym p) ∙ ap₂ (λ b x. cond b v x) (sym (here k p)) (was k p)

-- ---- states

pub holds_none : (a : Automaton) → HoldsNone a (record { named = 0; given = replicate 16 0; current = None; destinations = a.destinations; marks = a.marks })
holds_none a h o = record {
  named = λ q g. has_zero q;
  given = λ q l g k. ap (λ s. has s l) (get_or-replicate 16 q 0 0 g) ∙ has_zero l;
  current_is = refl;
  destinations = ap (λ a. a.destinations) o;
  marks = ap (λ a. a.marks) o;
}

pub holds_state : (u : Table) (p m s : ℕ) (c : Current) → s ≡ 2 ^ p → current_of c ≡ begun p m
    → HoldsState u p m (record { named = bit_or s u.named; given = u.given; current = Some c; destinations = u.destinations; marks = u.marks })
holds_state u p m s c e k h t g = record {
  named = λ q x. has_or s u.named q ∙ ap₂ (λ a b. a || b) (ap (λ n. has n q) e ∙ has_single p q) (g.named q x);
  given = g.given;
  current_is = ap some (sym k);
  destinations = g.destinations;
  marks = g.marks;
}

-- ---- edges

option_cond : {A : Type 0} (f : A → ℕ) (b : Bool) (a : A) (x : Option A) → option (cond b (some a) x) 0 f ≡ cond b (f a) (option x 0 f)
option_cond f true a x = refl
option_cond f false a x = refl

some_cond : {A : Type 0} (b : Bool) (a : A) (x : Option A) → is_some (cond b (some a) x) ≡ (is_some x || b)
some_cond true a none = refl
some_cond true a (some x) = refl
some_cond false a none = refl
some_cond false a (some x) = refl

module _ (h : Header) (t : Hoa.Table) (f : ℕ → Bool) (c : Current) (members d m n : ℕ) (hq : c.state < 16) (hn : n ≤ 16) (count : letters h ≡ n)
    (sat : Members members f) where
  abbrev q : ℕ
  q = c.state

  abbrev new : Edge
  new = record { destination = d; marks = bit_or c.shared m }

  abbrev after : Hoa.Table
  after = with_edge h t (current_of c) f d m

  asked : (k : ℕ) → (eqb (k / 16) q && (ltb (k % 16) n && has members (k % 16))) ≡ (eqb (k / 16) q && (ltb (k % 16) (letters h) && f (k % 16)))
  asked k =
      ap₂ (λ c b. eqb (k / 16) q && (ltb (k % 16) c && b)) (sym count) (sat (k % 16) (omega arith))

  -- one of the two tables, whose entries are the numbers g of the edges
  cells_after : (g : Edge → ℕ) (v : ℕ) → g new ≡ v → (entry exit : List ℕ)
      → entry ≡ rows 16 (λ p l. option (t.edge p l) 0 g) → Filled q members n v entry exit → exit ≡ rows 16 (λ p l. option (after.edge p l) 0 g)
  cells_after g v e entry exit was fill =
      let old : ℕ → ℕ → ℕ = λ p l. option (t.edge p l) 0 g in
      let due : ℕ → ℕ → ℕ = λ p l. option (after.edge p l) 0 g in
      let size : length exit ≡ 256 = fill.size ∙ ap length was ∙ rows_length 16 old in
      ext_get_or 0 exit (rows 16 due) (size ∙ sym (rows_length 16 due)) λ k hk.
      fill.cells k
      ∙ ap₂ (λ b x. cond b v x) (asked k) (ap (λ xs. get_or xs k 0) was ∙ each_at 0 256 (λ i. old (i / 16) (i % 16)) k (omega arith))
      ∙ ap (λ w. cond (eqb (k / 16) q && (ltb (k % 16) (letters h) && f (k % 16))) w (old (k / 16) (k % 16))) (sym e)
      ∙ sym (option_cond g (eqb (k / 16) q && (ltb (k % 16) (letters h) && f (k % 16))) new (t.edge (k / 16) (k % 16)))
      ∙ sym (each_at 0 256 (λ i. due (i / 16) (i % 16)) k (omega arith))

  given_after : (given : List ℕ) → length given ≡ 16 → ((p l : ℕ) → p < 16 → l < letters h → has (get_or given p 0) l ≡ is_some (t.edge p l))
      → (p l : ℕ) → p < 16 → l < letters h → has (get_or (set given q (bit_or (get_or given q 0) members)) p 0) l ≡ is_some (after.edge p l)
  given_after given size was p l hp hl = go (ℕ_discrete p q)
    where
      go : Dec (p ≡ q) → has (get_or (set given q (bit_or (get_or given q 0) members)) p 0) l ≡ is_some (after.edge p l)
      go (yes e) =
          ap (λ j. has (get_or (set given q (bit_or (get_or given q 0) members)) j 0) l) e
          ∙ ap (λ s. has s l) (get_or-set_same given q (bit_or (get_or given q 0) members) 0 (omega arith))
          ∙ has_or (get_or given q 0) members l
          ∙ ap₂ (λ a b. a || b) (ap (λ j. has (get_or given j 0) l) (sym e) ∙ was p l hp hl) (sat l (omega arith))
          ∙ sym (some_cond (f l) new (t.edge p l))
          ∙ sym (rw (eq-eqb p q e, lt-ltb l (letters h) hl))
      go (no e) =
          ap (λ s. has s l) (get_or-set_other given q p (bit_or (get_or given q 0) members) 0 e) ∙ was p l hp hl ∙ sym (rw (ne_eqb p q e))

pub holds_edge : (u : Table) (c : Current) (members n d m : ℕ) (destinations marks : List ℕ) → c.state < 16 → n ≤ 16 → length u.given ≡ 16
    → Filled c.state members n d u.destinations destinations → Filled c.state members n (bit_or c.shared m) u.marks marks
    → HoldsEdge u c members n d m (record {
      named = u.named;
      given = set u.given c.state (bit_or (get_or u.given c.state 0) members);
      current = Some c;
      destinations = destinations;
      marks = marks;
    })
holds_edge u c members n d m destinations marks hq hn size to with_marks_lem h t f count sat g = record {
  named = g.named;
  given = given_after h t f c members d m n hq hn count sat u.given size g.given;
  current_is = refl;
  destinations = cells_after h t f c members d m n hq hn count sat (λ e. e.destination) d refl u.destinations destinations g.destinations to;
  marks = cells_after h t f c members d m n hq hn count sat (λ e. e.marks) (bit_or c.shared m) refl u.marks marks g.marks with_marks_lem;
}
