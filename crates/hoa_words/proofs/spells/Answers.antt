-- `spells` meets its contract.
use mathlib.Core.Path.{◌≡◌, sym, ap, ◌∙◌}
use mathlib.Core.Logic.{◌⊎◌, inl, inr}
use mathlib.Core.Bool.{false, and-false}
use mathlib.Core.List.{List}
use Prim.Native.Nat.{ℕ, ◌<◌}
use lib.Dec.{leb}
use lib.ListN.{length}
use borrow.Author.Tests.{le-leb, lt-leb}
use Rattle.hoa_text.specs.Basics.{same}
use Rattle.hoa_words.specs.Parts.{spells}
use Rattle.hoa_words.proofs.Laws.{part_is}
use Rattle.hoa_words.proofs.spells.Goals as goal

-- no part of the text
outside : (s : List ℕ) (i e : ℕ) (w : List ℕ) → (e < i) ⊎ (length s < e) → false ≡ spells s i e w
unfolding spells
outside s i e w (inl h) = rw (lt-leb i e h)
outside s i e w (inr h) = rw (lt-leb e (length s) h) (sym (and-false (leb i e)))

pub returns-in-Some : goal.returns-in-Some
unfolding spells
returns-in-Some c =
    let part = c.in-Some.ensures.lookup.0 in
    rw (le-leb c.args.start c.args.end part.0, le-leb _ _ part.1) (c.same.ensures ∙ ap (same c.args.word.now) (part.2 ∙ part_is c.args.start c.args.end c.args.text.now part.0))

pub returns-in-None : goal.returns-in-None
returns-in-None c = outside _ _ _ _ c.in-None.ensures.lookup.0
