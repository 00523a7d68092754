-- DEFINITIONS: part of a text is a word, or the name of an item, byte for byte.
use Rattle.std.specs.Prelude.{Bool, ◌&&◌, List, ℕ, ◌-◌, leb, ltb, length, take}
use Rattle.std.proofs.Math.Seq.{slice}
use Rattle.hoa_text.specs.Basics.{same}

-- the part of the text s from i up to e is the word w; a part that does not lie in the text spells nothing
unfoldable pub spells : List ℕ → ℕ → ℕ → List ℕ → Bool
spells s i e w = leb i e && (leb e (length s) && same w (slice i e s))

-- that part is the item name w, whose own colon stands last and is not compared; no bytes are no item name
unfoldable pub names_item : List ℕ → ℕ → ℕ → List ℕ → Bool
names_item s i e w = ltb 0 (length w) && spells s i e (take (length w - 1) w)
