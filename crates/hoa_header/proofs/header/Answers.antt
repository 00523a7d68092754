-- `header` meets its contract.
use Rattle.hoa_header.proofs.Opened.{no_format, no_version, versioned}
use Rattle.hoa_header.proofs.header.Goals as goal

pub returns-in_default : goal.returns-in_default
returns-in_default c = no_format c.args.text.now c.in_default.ensures _ c.offset.ensures

pub returns-in_default-behind_word : goal.returns-in_default-behind_word
returns-in_default-behind_word c = no_version _ _ c.in-Some.ensures c.in_default-behind_word.ensures _ c.offset-in_default-behind_word.ensures

pub items_from-requires : goal.items_from-requires
items_from-requires c = c.in-Some-behind_word.ensures.to

pub returns : goal.returns
returns c = versioned _ _ c.in-Some.ensures _ c.in-Some-behind_word.ensures c.items_from.result c.items_from.ensures
