-- `items::item` meets its contract.
use mathlib.Core.Path.{◌∙◌}
use native.Mathlib.Omega.{arith}
use Rattle.hoa_words.specs.Inside.{item_named}
use Rattle.hoa_header.proofs.Turns.{turn_states, turn_start, turn_names, turn_sets, turn_other, turn_skipped}
use Rattle.hoa_header.proofs.items.item.Goals as goal

pub returns-then-names_item : goal.returns-then-names_item
returns-then-names_item c =
    turn_states c.args.text.now c.args.start c.args.colon c.args.items (item_named _ _ _ _ _ c.names_item.ensures (omega arith) (omega arith) (omega arith) ∙ c.if-names_item.true) c.states_item.result c.states_item.ensures

pub returns-then-names_item-2 : goal.returns-then-names_item-2
returns-then-names_item-2 c =
    turn_start c.args.text.now c.args.start c.args.colon c.args.items (item_named _ _ _ _ _ c.names_item.ensures (omega arith) (omega arith) (omega arith) ∙ c.if-names_item.false) (item_named _ _ _ _ _ c.names_item-2.ensures (omega arith) (omega arith) (omega arith) ∙ c.if-names_item-2.true) c.start_item.result c.start_item.ensures

pub returns-then-names_item-3 : goal.returns-then-names_item-3
returns-then-names_item-3 c =
    turn_names c.args.text.now c.args.start c.args.colon c.args.items (item_named _ _ _ _ _ c.names_item.ensures (omega arith) (omega arith) (omega arith) ∙ c.if-names_item.false) (item_named _ _ _ _ _ c.names_item-2.ensures (omega arith) (omega arith) (omega arith) ∙ c.if-names_item-2.false) (item_named _ _ _ _ _ c.names_item-3.ensures (omega arith) (omega arith) (omega arith) ∙ c.if-names_item-3.true) c.ap_item.result c.ap_item.ensures

pub returns-then-names_item-4 : goal.returns-then-names_item-4
returns-then-names_item-4 c =
    turn_sets c.args.text.now c.args.start c.args.colon c.args.items (item_named _ _ _ _ _ c.names_item.ensures (omega arith) (omega arith) (omega arith) ∙ c.if-names_item.false) (item_named _ _ _ _ _ c.names_item-2.ensures (omega arith) (omega arith) (omega arith) ∙ c.if-names_item-2.false) (item_named _ _ _ _ _ c.names_item-3.ensures (omega arith) (omega arith) (omega arith) ∙ c.if-names_item-3.false) (item_named _ _ _ _ _ c.names_item-4.ensures (omega arith) (omega arith) (omega arith) ∙ c.if-names_item-4.true) c.acceptance_item.result c.acceptance_item.ensures

pub returns-then-not-is_ascii_lowercase : goal.returns-then-not-is_ascii_lowercase
returns-then-not-is_ascii_lowercase c =
    turn_other c.args.text.now c.args.start c.args.colon c.args.items (item_named _ _ _ _ _ c.names_item.ensures (omega arith) (omega arith) (omega arith) ∙ c.if-names_item.false) (item_named _ _ _ _ _ c.names_item-2.ensures (omega arith) (omega arith) (omega arith) ∙ c.if-names_item-2.false) (item_named _ _ _ _ _ c.names_item-3.ensures (omega arith) (omega arith) (omega arith) ∙ c.if-names_item-3.false) (item_named _ _ _ _ _ c.names_item-4.ensures (omega arith) (omega arith) (omega arith) ∙ c.if-names_item-4.false) c.requires.0 c.requires.1 _ c.is_ascii_lowercase.ensures.value c.if-not-is_ascii_lowercase.true

pub returns : goal.returns
returns c =
    turn_skipped c.args.text.now c.args.start c.args.colon c.args.items (item_named _ _ _ _ _ c.names_item.ensures (omega arith) (omega arith) (omega arith) ∙ c.if-names_item.false) (item_named _ _ _ _ _ c.names_item-2.ensures (omega arith) (omega arith) (omega arith) ∙ c.if-names_item-2.false) (item_named _ _ _ _ _ c.names_item-3.ensures (omega arith) (omega arith) (omega arith) ∙ c.if-names_item-3.false) (item_named _ _ _ _ _ c.names_item-4.ensures (omega arith) (omega arith) (omega arith) ∙ c.if-names_item-4.false) c.requires.0 c.requires.1 _ c.is_ascii_lowercase.ensures.value c.if-not-is_ascii_lowercase.false c.skip.result c.skip.ensures
