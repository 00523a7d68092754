-- `parts::next_part` meets its contract.
use mathlib.Core.Path.{◌≡◌, ap, ◌∙◌, subst}
use native.Mathlib.Omega.{arith}
use Rattle.std.proofs.Common.{Err}
use Rattle.std.proofs.lemmas.Result.{err_from_is_err_and}
use Rattle.std.specs.Option.{ok_or}
use Rattle.refusals.specs.declared.Refusal.TheVariants.{Form}
use Rattle.hoa_words.specs.Inside.{item_named}
use Rattle.hoa_body.specs.Parts.{PartAnswer}
use Rattle.hoa_body.proofs.PartLaws.{state_part, other_item, other_sign, label_first, no_label, labelled_part, number_first, not_listed, listed_part, end_part, no_part}
use Rattle.hoa_body.proofs.parts.next_part.Goals as goal
use Rattle.hoa_body.proofs.parts.next_part.Goals.{then-byte-ne91-via-then-byte-ne91, then-byte-ne91-via-else-byte-ne91+then-not-takes_label}

pub returns-then-not-names_item : goal.returns-then-not-names_item
returns-then-not-names_item c =
    let k = c.in-Item.ensures in
    other_item _ _ _ _ _ _ k (item_named _ _ _ _ _ c.names_item.ensures (omega (arith, k.lies.longer)) (omega (arith, k.lies.to)) (omega arith) ∙ c.if-not-names_item.true)

pub returns-else-not-names_item : goal.returns-else-not-names_item
returns-else-not-names_item c =
    let k = c.in-Item.ensures in
    state_part _ _ _ _ _ _ k (item_named _ _ _ _ _ c.names_item.ensures (omega (arith, k.lies.longer)) (omega (arith, k.lies.to)) (omega arith) ∙ c.if-not-names_item.false) c.state_part.result c.state_part.ensures

pub returns-in_err-current-in-Sign : goal.returns-in_err-current-in-Sign
returns-in_err-current-in-Sign c =
    let p = err_from_is_err_and c.from_residual.result c.from_residual.ensures.1 in
    let none = c.in_err-current-in-Sign.ensures.ok_part in
    let was = c.in_err-current-in-Sign.ensures.value ∙ ap (λ x. ok_or x (Form c.in-Sign.start)) none in
    let form : Form c.in-Sign.start ≡ c.in_err-current-in-Sign.field-0.0 = cc in
    rw (p.1, p.2) (subst (λ z. PartAnswer c.args.text.now c.args.at c.args.opened c.args.table (Err z)) form (label_first c.args.text.now c.args.at c.args.opened c.args.table _ _ c.in-Sign.ensures none))

pub returns-then-byte-ne91 : goal.returns-then-byte-ne91
returns-then-byte-ne91 c =
    elim c.then-byte-ne91.branch [
      | then-byte-ne91-via-then-byte-ne91 w ↦ other_sign _ _ _ _ _ _ c.in-Sign.ensures w.if-byte-ne91.true
      | then-byte-ne91-via-else-byte-ne91+then-not-takes_label w ↦
          no_label _ _ _ _ _ _ c.in-Sign.ensures w.if-byte-ne91.false _ c.in_ok-current-in-Sign.ensures.ok_part _ w.takes_label.ensures w.if-not-takes_label.true
    ]

pub returns-else-not-takes_label : goal.returns-else-not-takes_label
returns-else-not-takes_label c =
    labelled_part _ _ _ _ _ _ c.in-Sign.ensures c.if-byte-ne91.false _ c.in_ok-current-in-Sign.ensures.ok_part _ c.takes_label.ensures c.if-not-takes_label.false c.labelled_edge.result c.labelled_edge.ensures

pub returns-in_err-current-in-Number : goal.returns-in_err-current-in-Number
returns-in_err-current-in-Number c =
    let p = err_from_is_err_and c.from_residual-in_err-current-in-Number.result c.from_residual-in_err-current-in-Number.ensures.1 in
    let none = c.in_err-current-in-Number.ensures.ok_part in
    let was = c.in_err-current-in-Number.ensures.value ∙ ap (λ x. ok_or x (Form c.in-Number.start)) none in
    let form : Form c.in-Number.start ≡ c.in_err-current-in-Number.field-0.0 = cc in
    rw (p.1, p.2) (subst (λ z. PartAnswer c.args.text.now c.args.at c.args.opened c.args.table (Err z)) form (number_first c.args.text.now c.args.at c.args.opened c.args.table _ _ _ c.in-Number.ensures none))

pub returns-then-not-takes_listed : goal.returns-then-not-takes_listed
returns-then-not-takes_listed c =
    not_listed _ _ _ _ _ _ _ c.in-Number.ensures c.requires.0 _ c.in_ok-current-in-Number.ensures.ok_part _ c.power_of_two.ensures.is _ c.takes_listed.ensures c.if-not-takes_listed.true

pub returns-else-not-takes_listed : goal.returns-else-not-takes_listed
returns-else-not-takes_listed c =
    listed_part _ _ _ _ _ _ _ c.in-Number.ensures c.requires.0 _ c.in_ok-current-in-Number.ensures.ok_part _ c.power_of_two.ensures.is _ c.takes_listed.ensures c.if-not-takes_listed.false c.listed_edge.result c.listed_edge.ensures

pub returns-in-End : goal.returns-in-End
returns-in-End c = end_part _ _ _ _ _ c.in-End.ensures

pub returns-in_default : goal.returns-in_default
returns-in_default c =
    no_part _ _ _ _ _ c.next_token.ensures c.in_default.not-Item c.in_default.not-Number c.in_default.not-Sign c.in_default.not-End _ c.offset.ensures
