-- Laws of writing: nothing, one element, one list after another, into a part of a buffer, where there is room; the length stays; what is read back.
use Rattle.std.specs.Prelude.{◌≡◌, refl, List, [], ◌∷◌, ◌++◌, ℕ, ◌+◌, ◌-◌, ◌≤◌, ◌<◌, length, take, drop, set}
use Rattle.std.proofs.Common.{sym, ap, ap₂, ◌∙◌, append_assoc, append-nil, add-zero, add_assoc, add-one, arith, length-append, length-take, length-drop, take-append-drop, drop_of_length-le, take_at, drop_at, take_all, drop-drop}
use Rattle.std.proofs.lemmas.List.{set_split, take-append-le, drop-append-le}
use Rattle.decimal.specs.Wrote.{Wrote, WroteIfRoom}

module _ {A : Type 0} where
  pub wrote_none : (d : List A) (at : ℕ) → at ≤ length d → Wrote d at [] d at
  wrote_none d at h = record { next = sym (add-zero at); room = h; is = sym (take-append-drop at d) }

  pub wrote_one : (d : List A) (at : ℕ) (v : A) → at < length d → Wrote d at (v ∷ []) (set d at v) (at + 1)
  wrote_one d at v h = record { next = refl; room = omega arith; is = rw (add-one, set_split d at v h) refl }

  pub wrote_length : {d : List A} {at : ℕ} {w e : List A} {r : ℕ} → Wrote d at w e r → length e ≡ length d
  wrote_length {d} {at} p =
      ap length p.is ∙ simp (length-append, length-drop) (omega (arith, p.next, p.room, length-take at d))

  pub wrote_then : {d : List A} {at : ℕ} {v e : List A} {r : ℕ} {w f : List A} {s : ℕ} → Wrote d at v e r → Wrote e r w f s → Wrote d at (v ++ w) f s
  wrote_then {d} {at} {v} {e} {r} {w} {f} {s} p q =
      let front : length (take at d ++ v) ≡ r = length-append (take at d) v ∙ omega (arith, p.next, p.room, length-take at d) in
      let split : e ≡ (take at d ++ v) ++ drop r d = p.is ∙ sym (append_assoc (take at d) v (drop r d)) in
      let before : take r e ≡ take at d ++ v = ap (take r) split ∙ take_at (take at d ++ v) (drop r d) r front in
      let after : drop r e ≡ drop r d = ap (drop r) split ∙ drop_at (take at d ++ v) (drop r d) r front in
      let rest : drop s e ≡ drop s d =
      ap (λ n. drop n e) q.next ∙ sym (drop-drop (length w) r e) ∙ ap (drop (length w)) after ∙ drop-drop (length w) r d
      ∙ ap (λ n. drop n d) (sym q.next) in
      record {
        next = q.next ∙ ap (λ n. n + length w) p.next ∙ add_assoc at (length v) (length w) ∙ ap (λ n. at + n) (sym (length-append v w));
        room = omega (arith, q.room, wrote_length p);
        is = q.is ∙ ap₂ (λ a b. a ++ (w ++ b)) before rest ∙ append_assoc (take at d) v (w ++ drop s d)
            ∙ ap (λ l. take at d ++ l) (sym (append_assoc v w (drop s d)));
      }

  -- a writer that tests for room: there is some, or none
  pub wrote_roomy : {d : List A} {at : ℕ} {w e : List A} {r : ℕ} → Wrote d at w e r → WroteIfRoom d at w e r
  wrote_roomy p = record { roomy = λ h. p; short = λ h. absurd (omega (arith, p.next, p.room)) }

  pub wrote_short : (d : List A) (at : ℕ) (w : List A) → length d < at + length w → WroteIfRoom d at w d at
  wrote_short d at w h = record { roomy = λ g. absurd (omega arith); short = λ g. (refl, refl) }

  -- one writer after the other, where there is room for both
  pub roomy_then : {d : List A} {at : ℕ} {v e : List A} {r : ℕ} {w f : List A} {s : ℕ} → (at + length v ≤ length d → Wrote d at v e r)
      → (r + length w ≤ length e → Wrote e r w f s) → at + length (v ++ w) ≤ length d → Wrote d at (v ++ w) f s
  roomy_then {d} {at} {v} {w = w} p q h =
      let l = length-append v w in
      let o = p (omega (arith, l)) in
      wrote_then o (q (omega (arith, l, o.next, wrote_length o)))

  -- the room that is left behind what was written
  pub room_left : {d : List A} {at : ℕ} {v e : List A} {r : ℕ} → Wrote d at v e r → (n : ℕ) → at + length v + n ≤ length d → r + n ≤ length e
  room_left p n h = omega (arith, p.next, wrote_length p)

  part_of_front : (p q : List A) (b n : ℕ) → b + n ≤ length p → take n (drop b (p ++ q)) ≡ take n (drop b p)
  part_of_front p q b n h = ap (take n) (drop-append-le b p q (omega arith)) ∙ take-append-le n (drop b p) q (omega (arith, length-drop b p))

  -- what stands before the place of writing stays
  pub wrote_before : {d : List A} {at : ℕ} {w e : List A} {r : ℕ} → Wrote d at w e r → (b n : ℕ) → b + n ≤ at → take n (drop b e) ≡ take n (drop b d)
  wrote_before {d} {at} {w} {r} p b n h =
      let l : b + n ≤ length (take at d) = omega (arith, p.next, p.room, length-take at d) in
      ap (λ l. take n (drop b l)) p.is ∙ part_of_front (take at d) (w ++ drop r d) b n l ∙ sym (part_of_front (take at d) (drop at d) b n l)
      ∙ ap (λ l. take n (drop b l)) (take-append-drop at d)

  -- and so does what stands after it
  pub wrote_after : {d : List A} {at : ℕ} {w e : List A} {r : ℕ} → Wrote d at w e r → (b n : ℕ) → r ≤ b → take n (drop b e) ≡ take n (drop b d)
  wrote_after {d} {at} {w} {e} {r} p b n h =
      let front : length (take at d ++ w) ≡ r = length-append (take at d) w ∙ omega (arith, p.next, p.room, length-take at d) in
      let rest : drop r e ≡ drop r d =
      ap (drop r) (p.is ∙ sym (append_assoc (take at d) w (drop r d))) ∙ drop_at (take at d ++ w) (drop r d) r front in
      let far : r + (b - r) ≡ b = omega arith in
      ap (take n)
      (ap (λ k. drop k e) (sym far) ∙ sym (drop-drop (b - r) r e) ∙ ap (drop (b - r)) rest ∙ drop-drop (b - r) r d ∙ ap (λ k. drop k d) far)

  -- what was written is read at its place, and so at the start of a buffer
  pub wrote_here : {d : List A} {at : ℕ} {w e : List A} {r : ℕ} → Wrote d at w e r → take (length w) (drop at e) ≡ w
  wrote_here {d} {at} {w} {r} p =
      ap (λ l. take (length w) (drop at l)) p.is
      ∙ ap (take (length w)) (drop_at (take at d) (w ++ drop r d) at (omega (arith, p.next, p.room, length-take at d)))
      ∙ take_at w (drop r d) (length w) refl

  pub wrote_front : {d w e : List A} {r : ℕ} → Wrote d 0 w e r → take r e ≡ w
  wrote_front {w} {e} {r} p = let k : r ≡ length w = omega (arith, p.next) in ap (λ k. take k e) k ∙ wrote_here p

  -- what was written at the start of the part `&mut d[a..]` stands in d from a on
  pub wrote_part : (d : List A) (a k : ℕ) {w p : List A} {r : ℕ} → a ≤ length d → k ≡ length d - a → Wrote (take k (drop a d)) 0 w p r
      → Wrote d a w (take a d ++ (p ++ drop k (drop a d))) (a + r)
  wrote_part d a k {w} {p} {r} h e q =
      let past : drop k (drop a d) ≡ [] = drop_of_length-le (drop a d) {i = k} (omega (arith, length-drop a d)) in
      let whole : take k (drop a d) ≡ drop a d = take_all k (drop a d) (omega (arith, length-drop a d)) in
      let part : p ≡ w ++ drop r (drop a d) = q.is ∙ ap (λ l. w ++ drop r l) whole in
      record {
        next = omega (arith, q.next);
        room = omega (arith, q.room, ap length whole, length-drop a d);
        is = ap (λ l. take a d ++ (p ++ l)) past ∙ ap (λ l. take a d ++ l) (append-nil p ∙ part ∙ ap (λ l. w ++ l) (drop-drop r a d));
      }
