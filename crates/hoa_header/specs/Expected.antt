-- An item name that may stand next.
use Rattle.std.specs.Prelude.{Bool, false, List, ℕ}
use Rattle.hoa_text.specs.Basics.{option, same}
use Rattle.hoa_text.specs.Tokens.{Token}
use Rattle.hoa_text.specs.Grammar.{item_of}

-- that of these bytes
abbrev pub is_item_of : List ℕ → Token → Bool
is_item_of w t = option (item_of t) false (same w)
