-- AN INVARIANT OF THE BODY: what holds before the first state and is kept by every state and every edge holds of each table that is read.
use Rattle.std.specs.Prelude.{◌≡◌, Bool, true, false, cond, ◌||◌, ℕ, ◌^◌, ◌<◌, leb, ltb, eqb, length}
use Rattle.std.proofs.Math.Path.{refl}
use Rattle.std.proofs.Math.Option.{Option, none, some}
use Rattle.std.proofs.Common.{ltb-true, pow_pos}
use Rattle.std.specs.Int.Bits.{bit_or}
use Rattle.std.proofs.lemmas.Nat.{or_lt}
use Rattle.std.proofs.Math.Pow.{pow-lt}
use Rattle.meaning.specs.TestLaws.{on_cond}
use Rattle.refusals.specs.declared.Refusal.{Refusal}
use Rattle.refusals.specs.declared.Refusal.TheVariants.{Form, Undeclared}
use Rattle.hoa_text.specs.Basics.{option, is_some}
use Rattle.hoa_text.specs.Tokens.{Stream, stands, over, broken}
use Rattle.hoa_text.specs.Grammar.{number_of, is_item, is_sign, next, rest, at, gives, refuses, Parsed, due, onward}
use Rattle.hoa_text.specs.Formulas.{holds, label}
use Rattle.hoa_text.specs.Header.{Header}
use Rattle.hoa_text.specs.Body.{Current, Table, no_states, letters, marks, marked, with_state, unquoted, state_given, state_item, with_edge, second_edge, marks_given, destination_given, unlabelled, label_given, with_label, without_label, labelled_edge, listed_edge, body_read, body}
use Rattle.hoa_text.specs.Repetition.{Every, every_then, every_after, every_onward, Both, every_repeat}

-- ---- marks that were declared

module _ (n : ℕ) where
  abbrev Declared : ℕ × Stream → Type 0
  Declared y = y.0 < 2 ^ n

  marks_declared : (m : ℕ) (s : Stream) → m < 2 ^ n → Every Declared (marks n m s)
  marks_declared m (stands o t s) g = go (number_of t) (λ i k. marks_declared (bit_or m (2 ^ i)) s k)
    where
      more : ℕ → Parsed ℕ
      more i = cond (ltb i n) (marks n (bit_or m (2 ^ i)) s) (refuses (Undeclared o))

      go : (x : Option ℕ) → ((i : ℕ) → bit_or m (2 ^ i) < 2 ^ n → Every Declared (marks n (bit_or m (2 ^ i)) s))
          → Every Declared (option x (cond (is_sign "}" t) (gives (m, s)) (refuses (Form o))) more)
      go none k = on_cond (Every Declared) (is_sign "}" t) (gives (m, s)) (refuses (Form o)) (λ e. g) (λ e. tt)
      go (some i) k =
          on_cond (Every Declared) (ltb i n) (marks n (bit_or m (2 ^ i)) s) (refuses (Undeclared o))
          (λ e. k i (or_lt n m (2 ^ i) g (pow-lt (ltb-true i n e)))) (λ e. tt)
  marks_declared m (over o) g = tt
  marks_declared m (broken q o) g = tt

  marked_declared : (s : Stream) → Every Declared (marked n s)
  marked_declared s =
      on_cond (Every Declared) (next (is_sign "{") s) (marks n 0 (rest s)) (gives (0, s))
      (λ e. marks_declared 0 (rest s) (pow_pos n)) (λ e. pow_pos n)

-- ---- states and edges

-- what P has to keep
pub record Steps (h : Header) (P : Table → Type 0) : Type 0 where
  pub begins : P no_states
  pub state : (t : Table) (p m : ℕ) → P t → p < h.states → t.named p ≡ false → m < 2 ^ h.sets → P (with_state t p m)
  pub labelled : (t : Table) (c : Current) (f : ℕ → Bool) (d m : ℕ) → P t → t.current ≡ some c → d < h.states → m < 2 ^ h.sets
      → P (with_edge h t (with_label c) f d m)
  pub listed : (t : Table) (c : Current) (d m : ℕ) → P t → t.current ≡ some c → c.labelled ≡ false → d < h.states → m < 2 ^ h.sets
      → P (with_edge h t (without_label c) (λ l. eqb l c.listed) d m)

module _ (h : Header) (P : Table → Type 0) (keeps : Steps h P) where
  abbrev Kept : Table × Stream → Type 0
  Kept y = P y.0

  state_item_keeps : (t : Table) → P t → (s : Stream) → Every Kept (state_item h t s)
  state_item_keeps t g s = every_after Kept (due number_of s) (state_given h t (at s)) λ p u.
      on_cond (Every Kept) (ltb p h.states) _ _ (λ l.
      on_cond (Every Kept) (t.named p) _ _ (λ e. tt) (λ e.
      every_then (λ m w. m < 2 ^ h.sets) Kept (marked h.sets (unquoted u)) (λ m w. gives (with_state t p m, w)) (marked_declared h.sets (unquoted u))
      (λ m w k. keeps.state t p m g (ltb-true p h.states l) e k))) (λ e. tt)

  unlabelled_keeps : (t : Table) (c : Current) (f : ℕ → Bool) → ((d m : ℕ) → d < h.states → m < 2 ^ h.sets → P (with_edge h t c f d m))
      → (s : Stream) → Every Kept (unlabelled h t c f s)
  unlabelled_keeps t c f g s =
      every_after Kept (due number_of s) (destination_given h t c f (at s)) λ d v.
      on_cond (Every Kept) (ltb d h.states) _ _ (λ l.
      every_then (λ m w. m < 2 ^ h.sets) Kept (marked h.sets v) (marks_given h t c f d) (marked_declared h.sets v)
      (λ m w k. go d m w (g d m (ltb-true d h.states l) k) (second_edge h t c.state f))) (λ e. tt)
    where
      go : (d m : ℕ) (w : Stream) → P (with_edge h t c f d m) → (y : Option Refusal) → Every Kept (option y (gives (with_edge h t c f d m, w)) refuses)
      go d m w k none = k
      go d m w k (some r) = tt

  labelled_edge_keeps : (t : Table) → P t → (s : Stream) (c : Current) → t.current ≡ some c → Every Kept (labelled_edge h t s c)
  labelled_edge_keeps t g s c is =
      on_cond (Every Kept) (eqb c.listed 0) _ _
      (λ e. every_after Kept (label (length h.names) (rest s)) (label_given h t (with_label c)) λ f u.
      on_cond (Every Kept) (next (is_sign "]") u) _ _
      (λ e. unlabelled_keeps t (with_label c) (holds f) (λ d m hd hm. keeps.labelled t c (holds f) d m g is hd hm) (rest u)) (λ e. tt)) (λ e. tt)

  listed_edge_keeps : (t : Table) → P t → (s : Stream) (c : Current) → t.current ≡ some c → Every Kept (listed_edge h t s c)
  listed_edge_keeps t g s c is = go c.labelled refl
    where
      go : (b : Bool) → c.labelled ≡ b
          → Every Kept (cond (b || leb (letters h) c.listed) (refuses (Form (at s))) (unlabelled h t (without_label c) (λ l. eqb l c.listed) s))
      go true e = tt
      go false e =
          on_cond (Every Kept) (leb (letters h) c.listed) _ _ (λ l. tt)
          (λ l. unlabelled_keeps t (without_label c) (λ l. eqb l c.listed) (λ d m hd hm. keeps.listed t c d m g is e hd hm) s)

  -- a turn of the body
  pub turn_keeps : (t : Table) (s : Stream) → P t → Every (Both (λ t u. P t) Kept) (body_read h t s)
  unfolding body_read
  turn_keeps t s g =
      on_cond (Every (Both (λ t u. P t) Kept)) (next (is_item "State") s) _ _
      (λ e. every_onward (λ t u. P t) Kept (state_item h t (rest s)) (state_item_keeps t g (rest s)))
      (λ e. on_cond (Every (Both (λ t u. P t) Kept)) (next (is_sign "[") s) _ _ (λ e. edged t.current refl (labelled_edge h t s) (labelled_edge_keeps t g s))
      (λ e. on_cond (Every (Both (λ t u. P t) Kept)) (next (λ x. is_some (number_of x)) s) _ _ (λ e. edged t.current refl (listed_edge h t s) (listed_edge_keeps t g s))
      (λ e. on_cond (Every (Both (λ t u. P t) Kept)) (next (is_sign "--END--") s) _ _ (λ e. g) (λ e. tt))))
    where
      edged : (x : Option Current) → t.current ≡ x → (f : Current → Parsed Table) → ((c : Current) → t.current ≡ some c → Every Kept (f c))
          → Every (Both (λ t u. P t) Kept) (onward {B = Table × Stream} (option x (refuses (Form (at s))) f))
      edged none e f k = tt
      edged (some c) e f k = every_onward (λ t u. P t) Kept (f c) (k c e)

  pub body_keeps : (s : Stream) → Every Kept (body h s)
  body_keeps s = every_repeat (body_read h) (λ t u. P t) Kept turn_keeps no_states s keeps.begins
