-- What the functions that change the table keep.
use Rattle.std.specs.Prelude.{◌≡◌, Bool, cond, ◌&&◌, List, ℕ, ◌/◌, ◌%◌, ltb, eqb, length, get_or}
use Rattle.meaning.specs.BitSet.{has}
use Rattle.automaton.specs.declared.Automaton.{Automaton}
use Rattle.hoa_text.specs.Header.{Header}
use Rattle.hoa_text.specs.Body.{letters, no_states, with_state, with_edge}
use Rattle.hoa_text.specs.Body as Hoa
use Rattle.hoa_formulas.specs.Answers.{Members}
use Rattle.hoa_body.specs.declared.Current.{Current}
use Rattle.hoa_body.specs.declared.Table.{Table}
use Rattle.hoa_body.specs.Answers.{Opens, current_of, Holds}

-- before the first state
abbrev pub HoldsNone : Automaton → Table → Type 0
HoldsNone a u = (h : Header) → Opens a h → Holds h no_states u

-- after the state p with the marks m
abbrev pub HoldsState : Table → ℕ → ℕ → Table → Type 0
HoldsState u p m r = (h : Header) (t : Hoa.Table) → Holds h t u → Holds h (with_state t p m) r

-- after an edge of c for the letters of the set, of n letters, to d with the marks m
abbrev pub HoldsEdge : Table → Current → ℕ → ℕ → ℕ → ℕ → Table → Type 0
HoldsEdge u c set n d m r =
    (h : Header) (t : Hoa.Table) (f : ℕ → Bool) → letters h ≡ n → Members set f → Holds h t u → Holds h (with_edge h t (current_of c) f d m) r

-- the cells of q for the letters of the set below n are v, and the others as they were
pub record Filled (q set n v : ℕ) (entry exit : List ℕ) : Type 0 where
  pub size : length exit ≡ length entry
  pub cells : (k : ℕ) → get_or exit k 0 ≡ cond (eqb (k / 16) q && (ltb (k % 16) n && has set (k % 16))) v (get_or entry k 0)
