-- The rows of components, from the rows of reached states.
use mathlib.Core.Path.{◌≡◌, refl, sym, ap, ap₂, ◌∙◌}
use mathlib.Core.Bool.{false, ◌&&◌, false≢true}
use mathlib.Core.List.{List, [], ◌∷◌}
use Prim.Native.Nat.{ℕ, ◌*◌, ◌^◌, ◌≤◌, ◌<◌}
use native.Mathlib.Decide.{dec_lt}
use native.Mathlib.Omega.{arith}
use borrow.Author.Tests.{lt-ltb, le-ltb, eqb-true, eq-eqb}
use lib.Dec.{eqb}
use lib.ListN.{get_or}
use lib.Pow.{pow_mono}
use lib.Seq.{ext_get_or}
use Rattle.meaning.specs.Automata.{Aut}
use Rattle.meaning.specs.BitSet.{has, set_of}
use Rattle.meaning.specs.BitSetLaws.{has_zero, has_same}
use Rattle.meaning.specs.MarkSets.{set_of_lt, has_set_of}
use Rattle.meaning.specs.CountingLaws.{each_length, each_at}
use Rattle.meaning.specs.TestLaws.{all_at, same_truth}
use Rattle.meaning.specs.Run.{run_lt}
use Rattle.meaning.specs.Components.{reaches, together}
use Rattle.bits.specs.SetLaws.{has_past}
use Rattle.bits.specs.SingleSets.{has_single}
use Rattle.automaton.specs.declared.Automaton.{Automaton}
use Rattle.automaton.specs.Value.{Valid, table}
use Rattle.automaton.specs.View.{view}
use Rattle.automaton.specs.ViewLaws.{view_formed}
use Rattle.automaton.specs.Letters.{letters_le}
use Rattle.reach.specs.Rows.{component_row}
use Rattle.reach.specs.Closing.{Reached}
use Rattle.reach.specs.Mutual.{Mutual}
use Rattle.reach.proofs.Closures.{all_reached}

-- ---- each state reaches itself

abbrev pub alone : List ℕ
alone = 1 ∷ 2 ∷ 4 ∷ 8 ∷ 16 ∷ 32 ∷ 64 ∷ 128 ∷ 256 ∷ 512 ∷ 1024 ∷ 2048 ∷ 4096 ∷ 8192 ∷ 16384 ∷ 32768 ∷ []

alone_has : (u v : ℕ) → u < 16 → has (get_or alone u 0) v ≡ eqb v u
alone_has u v h = ap (λ s. has s v) (eqb-true (get_or alone u 0) (2 ^ u) (all_at 16 (λ u. eqb (get_or alone u 0) (2 ^ u)) refl u h)) ∙ has_single u v

pub alone_reached : (A : Aut) → A.states ≤ 16 → Reached A 0 0 alone
alone_reached A small = record {
  size = refl;
  only = λ u v hu e. ([], tt, sym (eqb-true v u (sym (alone_has u v (omega arith)) ∙ e)));
  itself = λ u hu. alone_has u u (omega arith) ∙ eq-eqb u u refl;
  steps = λ u l hu hl h. absurd (omega arith);
  via = λ u j v hu h. absurd (omega arith);
}

-- ---- and lies in one component with those that it reaches and that reach it
module _ {a : Automaton} (v : Valid a) {reached rows : List ℕ} (R : Reached (view a) 256 a.states reached) (M : Mutual reached (a.states * 16) rows) where
  exact : (u w : ℕ) → u < a.states → has (get_or reached u 0) w ≡ reaches (view a) u w
  exact = all_reached (view_formed v) v.states_le (letters_le v) R

  -- no row has what is no state
  outside : (u w : ℕ) → u < a.states → a.states ≤ w → has (get_or reached u 0) w ≡ false
  outside u w hu h = same_truth _ false (λ e. let (x, o, q) = R.only u w hu e in absurd (omega (arith, run_lt (view_formed v) u x hu o, q))) (λ e. absurd (false≢true e))

  members : (u w : ℕ) → u < a.states → w < 16 → has (get_or rows u 0) w ≡ has (set_of a.states (together (view a) u)) w
  unfolding together
  members u w hu hw = M.there u w hw (omega arith) ∙ go (dec_lt w a.states)
    where
      go : Dec (w < a.states) → (has (get_or reached u 0) w && has (get_or reached w 0) u) ≡ has (set_of a.states (together (view a) u)) w
      go (yes h) = ap₂ ◌&&◌ (exact u w hu) (exact w u h) ∙ sym (has_set_of a.states (together (view a) u) w h)
      go (no h) = ap (λ b. b && has (get_or reached w 0) u) (outside u w hu (omega arith)) ∙ sym (has_past a.states _ w (set_of_lt a.states (together (view a) u)) (omega arith))

  row_is : (u : ℕ) → u < 16 → get_or rows u 0 ≡ component_row a u
  row_is u h = go (dec_lt u a.states)
    where
      go : Dec (u < a.states) → get_or rows u 0 ≡ component_row a u
      go (yes hu) =
          let m : 2 ^ a.states ≤ 65536 = pow_mono {j = 16} v.states_le in
          rw (lt-ltb u a.states hu) (has_same 16 _ _ (M.small u) (omega (arith, set_of_lt a.states (together (view a) u))) (λ w hw. members u w hu hw))
      go (no hu) =
          let g : a.states ≤ u = omega arith in
          rw (le-ltb u a.states g) (has_same 16 _ 0 (M.small u) (omega arith) (λ w hw. M.none u w hw (omega arith) ∙ sym (has_zero w)))

  pub rows_are : rows ≡ table 16 (component_row a)
  rows_are = ext_get_or 0 rows (table 16 (component_row a)) (M.size ∙ sym (each_length 16 (component_row a)))
      (λ u h. let l : u < 16 = omega (arith, M.size) in row_is u l ∙ sym (each_at 0 16 (component_row a) u l))
