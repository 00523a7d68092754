-- DEFINITIONS, 7 of 8: a text gives an automaton or is refused. Sentences in quotes are document 01's; the numbers are those of its table
-- "What is turned down".
use Rattle.std.specs.Prelude.{cond, List, [], ℕ, leb, length, get_or}
use Rattle.std.proofs.Math.Option.{Option, none, some}
use Rattle.automaton.specs.declared.Automaton.{Automaton}
use Rattle.refusals.specs.declared.Refusal.{Refusal}
use Rattle.refusals.specs.declared.Refusal.TheVariants.{Form, Size, Body, NoEdge}
use Rattle.automaton.specs.Value.{table, rows}
use Rattle.hoa_text.specs.Basics.{option, is_some, first}
use Rattle.hoa_text.specs.Tokens.{Stream, stands, over, broken, tokens}
use Rattle.hoa_text.specs.Grammar.{Result, gives, refuses, then}
use Rattle.hoa_text.specs.Header.{Header, header}
use Rattle.hoa_text.specs.Body.{Table, letters, body}

-- ---- the value

-- slots that are not in use are 0
abbrev pub made : Header → Table → Automaton
made h t = record {
  states = h.states;
  start = h.start;
  propositions = length h.names;
  sets = h.sets;
  acceptance = h.acceptance;
  lengths = table 4 (λ i. length (get_or h.names i []));
  names = rows 4 (λ i j. get_or (get_or h.names i []) j 0);
  destinations = rows 16 (λ q l. option (t.edge q l) 0 (λ e. e.destination));
  marks = rows 16 (λ q l. option (t.edge q l) 0 (λ e. e.marks));
}

-- ---- "missing states and edges are judged after the whole text", which ends at o

-- 5: "at the end, the lowest state without one (offset: text length)"
abbrev pub no_body : Header → Table → ℕ → Option Refusal
no_body h t o = first h.states λ q. cond (t.named q) none (some (Body o q))

-- 7: "no edge, lowest state then letter, after 5"
abbrev pub no_edge : Header → Table → Option Refusal
no_edge h t = first h.states λ q. first (letters h) λ l. cond (is_some (t.edge q l)) none (some (NoEdge q l))

abbrev pub whole : Header → Table → ℕ → Result Automaton
whole h t o = option (no_body h t o) (option (no_edge h t) (gives (made h t)) refuses) refuses

-- "Only blanks may follow the second (else 1)"
abbrev pub ended : Header → Table → Stream → Result Automaton
ended h t (stands o x s) = refuses (Form o)
ended h t (over o) = whole h t o
ended h t (broken q o) = refuses (Form q)

-- ---- the text

abbrev pub reading : Stream → Result Automaton
reading s = then (header s) λ h u. then (body h u) (ended h)

-- 2: "text over 65,536 bytes (offset 65,536, before reading)"
abbrev pub text_limit : ℕ
text_limit = 65536

unfoldable pub read : List ℕ → Result Automaton
read s =
    let r = reading (tokens s) in
    cond (leb (length s) text_limit) r (refuses (Size text_limit))
