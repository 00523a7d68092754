-- A part that lies in the text is compared, whatever was answered.
use Rattle.std.specs.Prelude.{◌≡◌, Bool, List, ℕ, ◌-◌, ◌≤◌, ◌<◌, length, take}
use Rattle.std.proofs.Common.{sym, ◌∙◌, le-leb, lt-ltb}
use Rattle.std.proofs.Math.Seq.{slice}
use Rattle.hoa_text.specs.Basics.{same}
use Rattle.hoa_words.specs.Parts.{spells, names_item}

pub spelled : (s : List ℕ) (i e : ℕ) (w : List ℕ) (b : Bool) → b ≡ spells s i e w → i ≤ e → e ≤ length s → same w (slice i e s) ≡ b
unfolding spells
spelled s i e w b h l m = sym (h ∙ rw (le-leb i e l, le-leb e (length s) m))

pub item_named : (s : List ℕ) (i e : ℕ) (w : List ℕ) (b : Bool) → b ≡ names_item s i e w → i ≤ e → e ≤ length s → 0 < length w
    → same (take (length w - 1) w) (slice i e s) ≡ b
unfolding names_item
item_named s i e w b h l m n = spelled s i e (take (length w - 1) w) b (h ∙ rw (lt-ltb 0 (length w) n)) l m
