-- Laws of one name: how it is judged.
use mathlib.Core.Path.{◌≡◌, refl, sym, ap, ◌∙◌}
use mathlib.Core.Logic.{◌≢◌}
use mathlib.Core.Bool.{Bool, true, false, ◌&&◌}
use mathlib.Core.List.{List, []}
use Prim.Native.Nat.{ℕ, ◌≤◌}
use native.Mathlib.Omega.{arith}
use borrow.Author.Tests.{lt-ltb, le-leb}
use lib.Dec.{ltb, leb}
use lib.ListN.{length}
use Rattle.std.proofs.Common.{Ok, ◌∷◌}
use Rattle.std.specs.List.{list_all}
use Rattle.meaning.specs.TestLaws.{and_true}
use Rattle.automaton.specs.Value.{printable}
use Rattle.hoa_text.specs.Header.{all_bytes, among}
use Rattle.hoa_names.specs.declared.Names.{Names}
use Rattle.hoa_names.specs.Naming.{Slots, Holds, Given, Added}

pub all_bytes_are : (p : ℕ → Bool) (w : List ℕ) → list_all p w ≡ all_bytes p w
all_bytes_are p [] = refl
all_bytes_are p (b ∷ w) = ap (λ x. p b && x) (all_bytes_are p w)

-- ---- a name that is taken

module _ (w : List ℕ) (o next : ℕ) (n : Names) (p : all_bytes printable w ≡ true) (some_bytes : length w ≢ 0) (short : length w ≤ 16) (alike : Bool)
    (found : (ws : List (List ℕ)) → length ws ≡ n.count → Slots ws n.lengths n.bytes → alike ≡ among w ws) where
  is_among : (ws : List (List ℕ)) → Holds ws n → alike ≡ among w ws
  is_among ws h =
      found ws (sym (ap (λ m. m.count) h.is))
      (record { lengths_are = ap (λ m. m.lengths) h.is; bytes_are = ap (λ m. m.bytes) h.is; short = h.short })

  pub given_taken : alike ≡ false → (m : Names) → Added n w m → Given w o next n (Ok (record { names = m; end = next }))
  given_taken q m more ws h =
      let sized : (ltb 0 (length w) && leb (length w) 16) ≡ true = and_true (lt-ltb 0 (length w) (omega arith)) (le-leb (length w) 16 short) in
      record { is = λ x. rw (p, sized, sym (is_among ws h) ∙ q); holds = more ws h; short = short; end = refl }
