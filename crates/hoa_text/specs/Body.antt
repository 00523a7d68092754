-- DEFINITIONS, 6 of 8: the body. Sentences in quotes are document 01's, or document 02's where E1 stands before them; the numbers 1 to 6 are
-- those of the table "What is turned down".
use Rattle.std.specs.Prelude.{Bool, true, false, cond, ◌&&◌, ◌||◌, ℕ, ◌+◌, ◌^◌, leb, ltb, eqb, length}
use Rattle.std.proofs.Math.Option.{Option, none, some}
use Rattle.std.specs.Int.Bits.{bit_or}
use Rattle.refusals.specs.declared.Refusal.{Refusal}
use Rattle.refusals.specs.declared.Refusal.TheVariants.{Form, Undeclared, Body, SecondEdge}
use Rattle.hoa_text.specs.Basics.{option, is_some, first}
use Rattle.hoa_text.specs.Tokens.{Stream, stands, over, broken}
use Rattle.hoa_text.specs.Grammar.{number_of, quoted_of, is_item, is_sign, next, rest, at, Result, gives, refuses, Parsed, then, due, expect, Turn, done, repeat, onward}
use Rattle.hoa_text.specs.Formulas.{Formula, holds, label}
use Rattle.hoa_text.specs.Header.{Header}

-- a transition, as an edge gives it; the set of its marks is a number, bit i for the set i
pub record Edge : Type 0 where
  pub destination : ℕ
  pub marks : ℕ

-- a state while its edges are read: the marks that it shares with them, whether one of them had a label, and how many had none
pub record Current : Type 0 where
  pub state : ℕ
  pub shared : ℕ
  pub labelled : Bool
  pub listed : ℕ

-- the body so far: the states that were named, their transitions, and the state whose edges may stand here
pub record Table : Type 0 where
  pub named : ℕ → Bool
  pub edge : ℕ → ℕ → Option Edge
  pub current : Option Current

abbrev pub no_states : Table
no_states = record { named = λ q. false; edge = λ q l. none; current = none }

-- "letters L = 2^k"
abbrev pub letters : Header → ℕ
letters h = 2 ^ length h.names

-- ---- "perhaps `{marks}`"

-- The marks after those of m, with n sets: "a mark listed twice counts once"; 4: "a .. mark that was not declared"
abbrev pub marks : ℕ → ℕ → Stream → Parsed ℕ
marks n m (stands o t s) =
    let more : ℕ → Parsed ℕ = λ i. let r = marks n (bit_or m (2 ^ i)) s in cond (ltb i n) r (refuses (Undeclared o)) in
    option (number_of t) (cond (is_sign "}" t) (gives (m, s)) (refuses (Form o))) more
marks n m (over o) = refuses (Form o)
marks n m (broken q o) = refuses (Form o)

abbrev pub marked : ℕ → Stream → Parsed ℕ
marked n s =
    let r = marks n 0 (rest s) in
    cond (next (is_sign "{") s) r (gives (0, s))

-- ---- "each state has one `State:`, its number and perhaps a quoted text, which is dropped; states may come in any order"

-- the state p, of whose edges none was read, with the marks m
abbrev pub begun : ℕ → ℕ → Current
begun p m = record { state = p; shared = m; labelled = false; listed = 0 }

abbrev pub with_state : Table → ℕ → ℕ → Table
with_state t p m = record { named = λ q. eqb q p || t.named q; edge = t.edge; current = some (begun p m) }

abbrev pub unquoted : Stream → Stream
unquoted s = cond (next (λ t. is_some (quoted_of t)) s) (rest s) s

-- E1: "`State: 0 {1}` puts set 1 on every transition that leaves state 0": the state p, behind its number
abbrev pub state_marked : Header → Table → ℕ → Stream → Parsed Table
state_marked h t p s = then (marked h.sets (unquoted s)) (λ m u. gives (with_state t p m, u))

-- The number p at o. 4: "a .. state .. that was not declared"; 5: "a state's body twice (offset of the second number)"
abbrev pub state_given : Header → Table → ℕ → ℕ → Stream → Parsed Table
state_given h t o p s =
    let r = state_marked h t p s in
    cond (ltb p h.states) (cond (t.named p) (refuses (Body o p)) r) (refuses (Undeclared o))

abbrev pub state_item : Header → Table → Stream → Parsed Table
state_item h t s = then (due number_of s) (state_given h t (at s))

-- ---- an edge: c is its state, with this edge counted, and f says of each letter whether the edge is for it

-- to d with the marks m: E1: the state's marks are "joined with the edge's own marks"
abbrev pub with_edge : Header → Table → Current → (ℕ → Bool) → ℕ → ℕ → Table
with_edge h t c f d m = record {
  named = t.named;
  edge = λ p l. cond (eqb p c.state && (ltb l (letters h) && f l)) (some (record { destination = d; marks = bit_or c.shared m })) (t.edge p l);
  current = some c;
}

-- 6: "second edge for a letter, the lowest such of that edge, judged at the closing brace or, without marks, before the next token"
abbrev pub second_edge : Header → Table → ℕ → (ℕ → Bool) → Option Refusal
second_edge h t q f = first (letters h) λ l. cond (f l && is_some (t.edge q l)) (some (SecondEdge q l)) none

abbrev pub marks_given : Header → Table → Current → (ℕ → Bool) → ℕ → ℕ → Stream → Parsed Table
marks_given h t c f d m s = option (second_edge h t c.state f) (gives (with_edge h t c f d m, s)) refuses

-- The destination d at o. 4: "a .. destination .. that was not declared"
abbrev pub destination_given : Header → Table → Current → (ℕ → Bool) → ℕ → ℕ → Stream → Parsed Table
destination_given h t c f o d s =
    let r = then (marked h.sets s) (marks_given h t c f d) in
    cond (ltb d h.states) r (refuses (Undeclared o))

-- without its label: "destination and perhaps `{marks}`"
abbrev pub unlabelled : Header → Table → Current → (ℕ → Bool) → Stream → Parsed Table
unlabelled h t c f s = then (due number_of s) (destination_given h t c f (at s))

-- "Every edge is `[label] destination` and perhaps `{marks}`": behind the label f
abbrev pub label_given : Header → Table → Current → Formula → Stream → Parsed Table
label_given h t c f s = expect (is_sign "]") s (unlabelled h t c (holds f))

-- behind the `[`
abbrev pub edge : Header → Table → Current → Stream → Parsed Table
edge h t c s = then (label (length h.names) s) (label_given h t c)

-- ---- with a label or without

abbrev pub with_label : Current → Current
with_label c = record { state = c.state; shared = c.shared; labelled = true; listed = c.listed }

abbrev pub without_label : Current → Current
without_label c = record { state = c.state; shared = c.shared; labelled = c.labelled; listed = c.listed + 1 }

-- E1: "One state may not mix both kinds: the first edge of the other kind is refused with 1"; s begins with the `[`
abbrev pub labelled_edge : Header → Table → Stream → Current → Parsed Table
labelled_edge h t s c =
    let r = edge h t (with_label c) (rest s) in
    cond (eqb c.listed 0) r (refuses (Form (at s)))

-- E1: "A state whose edges have no labels lists them in letter order, 0 first"; refused with 1 is one of the other kind, "and so is an unlabelled
-- edge after the last letter, both before the destination is judged"; s begins with the destination
abbrev pub listed_edge : Header → Table → Stream → Current → Parsed Table
listed_edge h t s c =
    let r = unlabelled h t (without_label c) (λ l. eqb l c.listed) s in
    cond (c.labelled || leb (letters h) c.listed) (refuses (Form (at s))) r

-- ---- states and edges, up to `--END--`

-- before the first state no edge may stand
abbrev pub in_state : Table → Stream → (Current → Parsed Table) → Result (Turn Table (Table × Stream))
in_state t s f = onward (option t.current (refuses (Form (at s))) f)

unfoldable pub body_read : Header → Table → Stream → Result (Turn Table (Table × Stream))
body_read h t s =
    let state = onward (state_item h t (rest s)) in
    cond (next (is_item "State") s) state
    (cond (next (is_sign "[") s) (in_state t s (labelled_edge h t s))
    (cond (next (λ x. is_some (number_of x)) s) (in_state t s (listed_edge h t s))
    (cond (next (is_sign "--END--") s) (gives (done (t, rest s))) (refuses (Form (at s))))))

abbrev pub body : Header → Stream → Parsed Table
body h s = repeat (body_read h) no_states s
