-- Laws of names in their slots: which they hold, comparing with them, and one more.
use mathlib.Core.Path.{◌≡◌, sym, ap, ◌∙◌, subst}
use mathlib.Core.Logic.{◌≢◌}
use mathlib.Core.Bool.{Bool, true, false, ◌||◌}
use mathlib.Core.List.{List, [], ◌∷◌, ◌++◌}
use Prim.Native.Nat.{ℕ, ◌+◌, ◌-◌, ◌*◌, ◌/◌, ◌%◌, ◌≤◌, ◌<◌}
use native.Mathlib.Decide.{dec_lt, ℕ_discrete}
use native.Mathlib.Numerals.{add-one}
use native.Mathlib.Omega.{arith}
use lib.ListN.{length, get_or, take, drop, set, length-set, length-append, drop_of_length-le, get_or-append, get_or-eq_default}
use lib.Seq.{slice, paste, length_paste_head, length-paste, length-take-le, drop-cons, get_or-drop, get_or-take, get_or-append-add, length-slice, ext_get_or, get_or-set_same, get_or-set_other}
use Rattle.meaning.specs.CountingLaws.{each_length, each_at}
use Rattle.automaton.specs.Rows.{rows_length, rows_at}
use Rattle.hoa_text.specs.Basics.{same}
use Rattle.hoa_text.specs.Header.{among}
use Rattle.hoa_text.specs.Names.{last_name}
use Rattle.hoa_names.specs.declared.Names.{Names}
use Rattle.hoa_names.specs.Answers.{held}
use Rattle.hoa_names.specs.Naming.{Slots, Holds}

-- ---- the names that the slots hold

module _ (ws : List (List ℕ)) where
  pub held_length : (i : ℕ) → i < 4 → get_or (held ws).lengths i 0 ≡ length (get_or ws i [])
  held_length i h = each_at 0 4 (λ i. length (get_or ws i [])) i h

  pub held_byte : (i j : ℕ) → i < 4 → j < 16 → get_or (held ws).bytes (i * 16 + j) 0 ≡ get_or (get_or ws i []) j 0
  held_byte i j h g = rows_at 4 (λ i j. get_or (get_or ws i []) j 0) i j h g

  pub held_lengths : length (held ws).lengths ≡ 4
  held_lengths = each_length 4 (λ i. length (get_or ws i []))

  pub held_bytes : length (held ws).bytes ≡ 64
  held_bytes = rows_length 4 (λ i j. get_or (get_or ws i []) j 0)

  -- the bytes of a slot are the name
  pub slot_is : (lengths bytes : List ℕ) → Slots ws lengths bytes → (i : ℕ) → i < 4 → slice (i * 16) (i * 16 + get_or lengths i 0) bytes ≡ get_or ws i []
  slot_is lengths bytes h i g =
      let n = get_or lengths i 0 in
      let long : n ≡ length (get_or ws i []) = ap (λ l. get_or l i 0) h.lengths_are ∙ held_length i g in
      let size : length bytes ≡ 64 = ap length h.bytes_are ∙ held_bytes in
      let m : length (slice (i * 16) (i * 16 + n) bytes) ≡ n = length-slice (i * 16) (i * 16 + n) bytes (omega (arith, h.short i)) ∙ omega arith in
      ext_get_or 0 (slice (i * 16) (i * 16 + n) bytes) (get_or ws i []) (m ∙ long) λ j l.
      get_or-drop (i * 16) (take (i * 16 + n) bytes) j 0 ∙ get_or-take (i * 16 + n) bytes (i * 16 + j) 0 (omega arith)
      ∙ ap (λ b. get_or b (i * 16 + j) 0) h.bytes_are ∙ held_byte i j g (omega (arith, h.short i))

among_step : (w : List ℕ) (ws : List (List ℕ)) (i : ℕ) → i < length ws → among w (drop i ws) ≡ (same w (get_or ws i []) || among w (drop (i + 1) ws))
among_step w ws i h = rw (drop-cons ws i [] h, add-one i)

pub among_end : (w : List ℕ) (ws : List (List ℕ)) (i : ℕ) → length ws ≤ i → among w ws ≡ among w (drop i ws) → false ≡ among w ws
among_end w ws i h t = sym (t ∙ ap (among w) (drop_of_length-le ws h))

-- the name i is compared, n bytes long
module _ (w : List ℕ) (ws : List (List ℕ)) (lengths bytes : List ℕ) (i n : ℕ) (few : length ws ≤ 4) (l : i < length ws) (m : n ≡ get_or lengths i 0) (h : Slots ws lengths bytes)
    (t : among w ws ≡ among w (drop i ws)) where
  compared : (b : Bool) → b ≡ same w (slice (i * 16) (i * 16 + n) bytes) → among w ws ≡ (b || among w (drop (i + 1) ws))
  compared b e =
      t ∙ among_step w ws i l
      ∙ ap (λ x. x || among w (drop (i + 1) ws)) (sym (e ∙ ap (λ n. same w (slice (i * 16) (i * 16 + n) bytes)) m ∙ ap (same w) (slot_is ws lengths bytes h i (omega arith))))

  pub among_found : (b : Bool) → b ≡ same w (slice (i * 16) (i * 16 + n) bytes) → b ≡ true → true ≡ among w ws
  among_found b e k = sym (compared b e ∙ rw k)

  pub among_passed : (b : Bool) → b ≡ same w (slice (i * 16) (i * 16 + n) bytes) → b ≡ false → among w ws ≡ among w (drop (i + 1) ws)
  among_passed b e k = compared b e ∙ rw k

-- ---- one more name

-- the bytes after the copy: those of the name inside, the former ones outside
module _ (d : List ℕ) (at : ℕ) (w : List ℕ) (h : at + length w ≤ length d) where
  front : length (take at d ++ take (length w) w) ≡ at + length w
  front = length_paste_head d at w (length w) (omega arith) (omega arith)

  pasted_before : (k : ℕ) → k < at → get_or (paste d at w (length w)) k 0 ≡ get_or d k 0
  pasted_before k l =
      get_or-append (take at d ++ take (length w) w) (drop (at + length w) d) 0 k (omega (arith, front))
      ∙ get_or-append (take at d) (take (length w) w) 0 k (omega (arith, length-take-le at d (omega arith))) ∙ get_or-take at d k 0 l

  pasted_inside : (j : ℕ) → j < length w → get_or (paste d at w (length w)) (at + j) 0 ≡ get_or w j 0
  pasted_inside j l =
      get_or-append (take at d ++ take (length w) w) (drop (at + length w) d) 0 (at + j) (omega (arith, front))
      ∙ ap (λ n. get_or (take at d ++ take (length w) w) (n + j) 0) (sym (length-take-le at d (omega arith)))
      ∙ get_or-append-add (take at d) (take (length w) w) j 0 ∙ get_or-take (length w) w j 0 l

  pasted_behind : (k : ℕ) → at + length w ≤ k → get_or (paste d at w (length w)) k 0 ≡ get_or d k 0
  pasted_behind k l =
      let m : k ≡ length (take at d ++ take (length w) w) + (k - (at + length w)) = omega (arith, front) in
      let n : at + length w + (k - (at + length w)) ≡ k = omega arith in
      ap (λ n. get_or (paste d at w (length w)) n 0) m
      ∙ get_or-append-add (take at d ++ take (length w) w) (drop (at + length w) d) (k - (at + length w)) 0
      ∙ get_or-drop (at + length w) d (k - (at + length w)) 0 ∙ ap (λ n. get_or d n 0) n

-- one more name, last
module _ (ws : List (List ℕ)) (w : List ℕ) where
  pub other_name : (i : ℕ) → i ≢ length ws → get_or (ws ++ (w ∷ [])) i [] ≡ get_or ws i []
  other_name i e = go (dec_lt i (length ws))
    where
      go : Dec (i < length ws) → get_or (ws ++ (w ∷ [])) i [] ≡ get_or ws i []
      go (yes h) = get_or-append ws (w ∷ []) [] i h
      go (no h) =
          get_or-eq_default (ws ++ (w ∷ [])) [] {n = i} (omega (arith, length-append ws (w ∷ [])))
          ∙ sym (get_or-eq_default ws [] {n = i} (omega arith))

  lengths_more : length ws < 4 → set (held ws).lengths (length ws) (length w) ≡ (held (ws ++ (w ∷ []))).lengths
  lengths_more few =
      ext_get_or 0 (set (held ws).lengths (length ws) (length w)) (held (ws ++ (w ∷ []))).lengths
      (length-set (held ws).lengths (length ws) (length w) ∙ held_lengths ws ∙ sym (held_lengths (ws ++ (w ∷ []))))
      (λ i l. go i (omega (arith, length-set (held ws).lengths (length ws) (length w), held_lengths ws)) (ℕ_discrete i (length ws)))
    where
      go : (i : ℕ) → i < 4 → Dec (i ≡ length ws) → get_or (set (held ws).lengths (length ws) (length w)) i 0 ≡ get_or (held (ws ++ (w ∷ []))).lengths i 0
      go i l (yes e) =
          ap (λ n. get_or (set (held ws).lengths (length ws) (length w)) n 0) e
          ∙ get_or-set_same (held ws).lengths (length ws) (length w) 0 (omega (arith, held_lengths ws))
          ∙ sym (held_length (ws ++ (w ∷ [])) i l ∙ ap length (last_name ws w i e))
      go i l (no e) =
          get_or-set_other (held ws).lengths (length ws) i (length w) 0 e
          ∙ held_length ws i l ∙ sym (held_length (ws ++ (w ∷ [])) i l ∙ ap length (other_name i e))

  bytes_more : length ws < 4 → length w ≤ 16 → paste (held ws).bytes (length ws * 16) w (length w) ≡ (held (ws ++ (w ∷ []))).bytes
  bytes_more few short = ext_get_or 0 (paste d (length ws * 16) w (length w)) (held (ws ++ (w ∷ []))).bytes
      (length-paste d (length ws * 16) w (length w) fits (omega arith) ∙ size ∙ sym (held_bytes (ws ++ (w ∷ []))))
      (λ k l. at_place k (omega (arith, length-paste d (length ws * 16) w (length w) fits (omega arith), size)))
    where
      d : List ℕ
      d = (held ws).bytes

      size : length d ≡ 64
      size = held_bytes ws

      fits : length ws * 16 + length w ≤ length d
      fits = omega (arith, size)

      go : (i j : ℕ) → i < 4 → j < 16 → Dec (i ≡ length ws) → Dec (j < length w)
          → get_or (paste d (length ws * 16) w (length w)) (i * 16 + j) 0 ≡ get_or (get_or (ws ++ (w ∷ [])) i []) j 0
      go i j hi hj (yes e) (yes l) =
          ap (λ n. get_or (paste d (length ws * 16) w (length w)) (n * 16 + j) 0) e ∙ pasted_inside d (length ws * 16) w fits j l
          ∙ sym (ap (λ v. get_or v j 0) (last_name ws w i e))
      go i j hi hj (yes e) (no l) =
          pasted_behind d (length ws * 16) w fits (i * 16 + j) (omega arith) ∙ held_byte ws i j hi hj
          ∙ ap (λ v. get_or v j 0) (get_or-eq_default ws [] {n = i} (omega arith))
          ∙ sym (ap (λ v. get_or v j 0) (last_name ws w i e) ∙ get_or-eq_default w 0 {n = j} (omega arith))
      go i j hi hj (no e) l = outside (dec_lt i (length ws)) ∙ held_byte ws i j hi hj ∙ ap (λ v. get_or v j 0) (sym (other_name i e))
        where
          outside : Dec (i < length ws) → get_or (paste d (length ws * 16) w (length w)) (i * 16 + j) 0 ≡ get_or d (i * 16 + j) 0
          outside (yes g) = pasted_before d (length ws * 16) w fits (i * 16 + j) (omega arith)
          outside (no g) = pasted_behind d (length ws * 16) w fits (i * 16 + j) (omega arith)

      at_place : (k : ℕ) → k < 64 → get_or (paste d (length ws * 16) w (length w)) k 0 ≡ get_or (held (ws ++ (w ∷ []))).bytes k 0
      at_place k h =
          let m : k / 16 * 16 + k % 16 ≡ k = omega arith in
          subst (λ k. get_or (paste d (length ws * 16) w (length w)) k 0 ≡ get_or (held (ws ++ (w ∷ []))).bytes k 0) m
          (go (k / 16) (k % 16) (omega arith) (omega arith) (ℕ_discrete (k / 16) (length ws)) (dec_lt (k % 16) (length w))
          ∙ sym (held_byte (ws ++ (w ∷ [])) (k / 16) (k % 16) (omega arith) (omega arith)))

  -- the value after its arrays are written
  pub added : (n : Names) → Holds ws n → length w ≤ 16 → (bytes : List ℕ) → bytes ≡ paste n.bytes (n.count * 16) w (length w)
      → record { count = n.count + 1; lengths = set n.lengths n.count (length w); bytes = bytes } ≡ held (ws ++ (w ∷ []))
  added n h short bytes e =
      let c : n.count ≡ length ws = ap (λ m. m.count) h.is in
      let count : n.count + 1 ≡ length (ws ++ (w ∷ [])) = omega (arith, length-append ws (w ∷ [])) in
      let lengths : set n.lengths n.count (length w) ≡ (held (ws ++ (w ∷ []))).lengths =
      ap (λ m. set m.lengths m.count (length w)) h.is ∙ lengths_more h.few in
      let filled : bytes ≡ (held (ws ++ (w ∷ []))).bytes = e ∙ ap (λ m. paste m.bytes (m.count * 16) w (length w)) h.is ∙ bytes_more h.few short in
      λ i. record { count = count i; lengths = lengths i; bytes = filled i }
