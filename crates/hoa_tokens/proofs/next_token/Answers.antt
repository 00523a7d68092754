-- `next_token` meets its contract.
use mathlib.Core.Path.{refl}
use Rattle.hoa_tokens.proofs.next_token.Goals.{in_default-via-then-byte-lt48, in_default-via-else-byte-lt48+else-byte-lt58}
use native.Mathlib.Omega.{arith}
use Rattle.std.proofs.Common.{get_or}
use Rattle.hoa_tokens.proofs.Laws.{reads_before, reads_over}
use borrow.Author.Rules.{rules}
use Rattle.hoa_text.specs.Numbers.{digit_between, below_digits, above_digits}
use Rattle.hoa_tokens.proofs.next_token.Goals as goal

pub returns-then-start-text : goal.returns-then-start-text
returns-then-start-text c = reads_over c.skip_blanks-start.ensures c.if-start-text.true

pub number-requires : goal.number-requires
number-requires c = digit_between (get_or c.args.text.now c.skip_blanks-start.result 0) (omega arith) (omega arith)

pub other-requires : goal.other-requires
other-requires c = record { inside = c.if-start-text.false; is = refl; no_blank = c.skip_blanks-start.ensures.ends; no_digit = elim c.in_default.branch [ in_default-via-then-byte-lt48 w ↦ below_digits (get_or c.args.text.now c.skip_blanks-start.result 0) (omega arith) | in_default-via-else-byte-lt48+else-byte-lt58 w ↦ above_digits (get_or c.args.text.now c.skip_blanks-start.result 0) (omega arith) ]; no_quote = search rules; no_at = search rules; no_dash = search rules }

pub returns-in-34 : goal.returns-in-34
returns-in-34 c = reads_before _ c.skip_blanks-start.ensures c.quoted.ensures

pub returns-in-64 : goal.returns-in-64
returns-in-64 c = reads_before _ c.skip_blanks-start.ensures c.alias.ensures

pub returns-in-45 : goal.returns-in-45
returns-in-45 c = reads_before _ c.skip_blanks-start.ensures c.body_word.ensures

pub returns-in-48-to-57 : goal.returns-in-48-to-57
returns-in-48-to-57 c = reads_before _ c.skip_blanks-start.ensures c.number.ensures

pub returns-in_default : goal.returns-in_default
returns-in_default c = reads_before _ c.skip_blanks-start.ensures c.other.ensures
