-- The value that is made of a header and a table, entry by entry; where both fit and nothing is missing, it is valid.
use Rattle.std.specs.Prelude.{◌≡◌, refl, ◌⊎◌, true, [], ℕ, ◌^◌, ◌≤◌, ◌<◌, length, get_or}
use Rattle.std.proofs.Common.{sym, ap, ◌∙◌, subst, inl, inr, true≢false, arith, pow_mono, ext_get_or}
use Rattle.std.proofs.Math.Option.{Option, none, some}
use Rattle.std.proofs.Math.ListN.{get_or-eq_default}
use Rattle.meaning.specs.CountingLaws.{each_length, each_at}
use Rattle.automaton.specs.Names.{slot_length, slot_byte, printable_means}
use Rattle.automaton.specs.Value.{printable, Valid, destination, mark_set, name_length, name_byte, name}
use Rattle.automaton.specs.Rows.{rows_length, rows_at}
use Rattle.hoa_text.specs.Basics.{option, is_some}
use Rattle.hoa_text.specs.Header.{Header}
use Rattle.hoa_text.specs.Body.{Edge, Table, letters}
use Rattle.hoa_text.specs.Reading.{made}
use Rattle.hoa_text.specs.Names.{all_at}
use Rattle.hoa_text.specs.HeaderFits.{Where, HeaderFits}
use Rattle.hoa_text.specs.TableFits.{EdgeFits, TableFits}

-- ---- its entries

module _ (h : Header) (t : Table) where
  pub destination_made : (q l : ℕ) → q < 16 → l < 16 → destination (made h t) q l ≡ option (t.edge q l) 0 (λ e. e.destination)
  destination_made q l hq hl = rows_at 16 (λ p m. option (t.edge p m) 0 (λ e. e.destination)) q l hq hl

  pub marks_made : (q l : ℕ) → q < 16 → l < 16 → mark_set (made h t) q l ≡ option (t.edge q l) 0 (λ e. e.marks)
  marks_made q l hq hl = rows_at 16 (λ p m. option (t.edge p m) 0 (λ e. e.marks)) q l hq hl

  pub length_made : (i : ℕ) → i < 4 → name_length (made h t) i ≡ length (get_or h.names i [])
  length_made i hi = each_at 0 4 (λ i. length (get_or h.names i [])) i hi

  pub byte_made : (i j : ℕ) → i < 4 → j < 16 → name_byte (made h t) i j ≡ get_or (get_or h.names i []) j 0
  byte_made i j hi hj = rows_at 4 (λ i j. get_or (get_or h.names i []) j 0) i j hi hj

  names_length : length (made h t).names ≡ 64
  names_length = rows_length 4 (λ i j. get_or (get_or h.names i []) j 0)

  pub name_made : (i : ℕ) → i < 4 → length (get_or h.names i []) ≤ 16 → name (made h t) i ≡ get_or h.names i []
  name_made i hi most =
      let n = name_length (made h t) i in
      let long : length (name (made h t) i) ≡ n = slot_length (made h t).names names_length i n hi (omega (arith, length_made i hi)) in
      ext_get_or 0 (name (made h t) i) (get_or h.names i []) (long ∙ length_made i hi)
      (λ j g. slot_byte (made h t).names i n j (omega arith) ∙ byte_made i j hi (omega (arith, length_made i hi)))

-- ---- it is valid

-- every state and letter has a transition
abbrev pub Full : Header → Table → Type 0
Full h t = (q l : ℕ) → q < h.states → l < letters h → is_some (t.edge q l) ≡ true

module _ (h : Header) (t : Table) (hf : HeaderFits h) (tf : TableFits h t) (full : Full h t) where
  few_letters : letters h ≤ 16
  few_letters = pow_mono {j = 4} hf.names_fit.count_le

  -- a transition that there is
  used : (f : Edge → ℕ) (c q l : ℕ) → ((e : Edge) → EdgeFits h q l e → f e < c) → (x : Option Edge) → is_some x ≡ true → Where (EdgeFits h q l) x → option x 0 f < c
  used f c q l below none e k = absurd (true≢false (sym e))
  used f c q l below (some e) _ k = below e k

  -- and none elsewhere
  unused : (f : Edge → ℕ) (q l : ℕ) → (h.states ≤ q) ⊎ (letters h ≤ l) → (x : Option Edge) → Where (EdgeFits h q l) x → option x 0 f ≡ 0
  unused f q l u none k = refl
  unused f q l (inl u) (some e) k = absurd (omega (arith, k.state_lt))
  unused f q l (inr u) (some e) k = absurd (omega (arith, k.letter_lt))

  destination_lt : (q l : ℕ) → q < h.states → l < letters h → destination (made h t) q l < h.states
  destination_lt q l hq hl =
      subst (λ n. n < h.states) (sym (destination_made h t q l (omega (arith, hf.states_le)) (omega (arith, few_letters))))
      (used (λ e. e.destination) h.states q l (λ e k. k.destination_lt) (t.edge q l) (full q l hq hl) (tf.edge_fits q l))

  marks_lt : (q l : ℕ) → q < h.states → l < letters h → mark_set (made h t) q l < 2 ^ h.sets
  marks_lt q l hq hl =
      subst (λ n. n < 2 ^ h.sets) (sym (marks_made h t q l (omega (arith, hf.states_le)) (omega (arith, few_letters))))
      (used (λ e. e.marks) (2 ^ h.sets) q l (λ e k. k.marks_lt) (t.edge q l) (full q l hq hl) (tf.edge_fits q l))

  pub made_valid : Valid (made h t)
  made_valid =
      let names = hf.names_fit.names in
      let count = hf.names_fit.count_le in
      record {
        states_le = hf.states_le;
        start_lt = hf.start_lt;
        propositions_le = count;
        sets_le = hf.sets_le;
        sets_owned = hf.sets_owned;
        destination_lt = destination_lt;
        marks_lt = marks_lt;
        name_some = λ i hi. omega (arith, length_made h t i (omega arith), names.some_bytes i hi);
        name_le = λ i hi. omega (arith, length_made h t i (omega arith), names.most_bytes i hi);
        name_bytes = λ i j hi hj.
            let l : j < length (get_or h.names i []) = omega (arith, length_made h t i (omega arith)) in
            let b : name_byte (made h t) i j ≡ get_or (get_or h.names i []) j 0 = byte_made h t i j (omega arith) (omega (arith, names.most_bytes i hi)) in
            printable_means (name_byte (made h t) i j) (ap printable b ∙ all_at printable (get_or h.names i []) (names.name_bytes i hi) j l);
        no_two_alike = λ i j l hj e.
            names.none_alike i j l hj
            (sym (name_made h t i (omega arith) (names.most_bytes i (omega arith))) ∙ e ∙ name_made h t j (omega arith) (names.most_bytes j hj));
        no_destination = λ q l hq hl u. destination_made h t q l hq hl ∙ unused (λ e. e.destination) q l u (t.edge q l) (tf.edge_fits q l);
        no_marks = λ q l hq hl u. marks_made h t q l hq hl ∙ unused (λ e. e.marks) q l u (t.edge q l) (tf.edge_fits q l);
        no_length = λ i hi g. length_made h t i hi ∙ ap length (get_or-eq_default h.names [] g);
        no_byte = λ i j hi hj g. byte_made h t i j hi hj ∙ get_or-eq_default (get_or h.names i []) 0 (omega (arith, length_made h t i hi));
        lengths_size = each_length 4 (λ i. length (get_or h.names i []));
        names_size = names_length h t;
        destinations_size = rows_length 16 (λ q l. option (t.edge q l) 0 (λ e. e.destination));
        marks_size = rows_length 16 (λ q l. option (t.edge q l) 0 (λ e. e.marks));
      }
