-- The first deck: what is printed for it, and that no assignment satisfies its file.
use Rattle.std.specs.Prelude.{◌≡◌, refl, List, [], ◌∷◌, ◌++◌, ℕ, negsuc, length}
use Rattle.std.proofs.Common.{ap, ap₂, ◌∙◌, arith}
use Rattle.std.proofs.Math.Bool.{xor}
use mathlib.Core.List.Memᴰ
use Rattle.meaning.specs.BitSet.{set_of}
use Rattle.automaton.specs.declared.Automaton.{Automaton}
use Rattle.automaton.specs.Value.{Valid}
use Rattle.encoding.specs.Clauses.{each, only, not_marks, totality, initial, successor, extension, closure, exactly_one, group₁, group₂, group₃, group₄, file as task-file}
use Rattle.encoding.specs.Satisfaction.{no_literal, one_literal, premise}
use Rattle.decimal.specs.Decimal.{decimal}
use Rattle.clause_sizes.specs.declared.Target.{Target}
use Rattle.clause_sizes.specs.Limits.{every_proper}
use Rattle.clause_sizes.specs.Targets.{every, Proper, last, file}
use Rattle.clause_header.proofs.Heading.{header_is}
use Rattle.clause_words.specs.Text.{lines_text}
use Rattle.clause_text.specs.LinesOut.{lines_out}
use Rattle.automaton.specs.Bytes.{bytes}
use Rattle.hoa_text.specs.Grammar.{gives}
use Rattle.hoa_text.specs.Formulas.{deepest}
use Rattle.hoa_text.specs.Header.{item_read}
use Rattle.hoa_text.specs.Body.{body_read}
use Rattle.hoa_text.specs.Reading.{read}
use Rattle.hoa_text.specs.Accepted.{accepted_valid}
use Rattle.hoa_text.specs.Examples.{one_state}
use Rattle.console_report.specs.Lines.{header_line}
use Rattle.decks.specs.Words.{Satisfiable, header_text, Prints}

-- ---- what the calls write is the text of the file
module _ {a : Automaton} {τ : Target} (v : Valid a) (d : Proper τ) where
  abbrev counted : List ℕ
  counted = header_line (last a τ) (length (file a τ))

  prints : {text : List ℕ} → counted ++ lines_text (file a τ) ≡ text → Prints a τ text
  prints e = record {
    text_is = e;
    calls = λ t h cs k c i g. ap₂ ◌++◌ (ap header_text (header_is v d t h)) ((lines_out v d cs k).whole c i g) ∙ e;
  }

-- ---- the deck

pub first_read : read (bytes "HOA: v1 States: 1 Start: 0 Acceptance: 1 Inf(0) --BODY-- State: 0 [t] 0 --END--") ≡ gives one_state
unfolding read item_read body_read deepest set_of
first_read = refl

pub first_prints : Prints one_state (every 1 0) (bytes "p cnf 3 6\n1 0\n2 0\n-2 -1 2 0\n-2 -1 2 0\n-3 -1 3 0\n-2 -1 0\n")
unfolding each only set_of not_marks totality initial successor extension closure exactly_one group₁ group₂ group₃ group₄ task-file xor decimal
first_prints = prints (accepted_valid _ first_read) (every_proper (record { n_some = omega arith; n_le = omega arith; m_le = omega arith })) refl

-- the clauses `1`, `2` and `-2 -1` cannot hold together
pub first_none : ¬ Satisfiable one_state (every 1 0)
unfolding each only set_of not_marks totality initial successor extension closure exactly_one group₁ group₂ group₃ group₄ task-file xor
first_none (ν, s) =
    let one = (one_literal ν 1).0 (s _ (Memᴰ.head refl)) in
    let two = (one_literal ν 2).0 (s _ (Memᴰ.tail (Memᴰ.head refl))) in
    let last = s (negsuc 1 ∷ negsuc 0 ∷ []) (Memᴰ.tail (Memᴰ.tail (Memᴰ.tail (Memᴰ.tail (Memᴰ.tail (Memᴰ.head refl)))))) in
    (premise ν {k = 2} (omega arith) (premise ν {k = 1} (omega arith) (no_literal ν))).0 last two one
