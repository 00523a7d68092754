-- A body that is read keeps to its header: destinations, marks, states and letters that there are.
use Rattle.std.specs.Prelude.{◌≡◌, Bool, ◌&&◌, ℕ, ◌^◌, ◌<◌, ltb, eqb}
use Rattle.std.proofs.Common.{subst, arith, ltb-true, eqb-true}
use Rattle.std.proofs.Math.Option.{some}
use Rattle.std.specs.Int.Bits.{bit_or}
use Rattle.std.proofs.lemmas.Nat.{or_lt}
use Rattle.meaning.specs.TestLaws.{and_left, and_right, on_cond}
use Rattle.hoa_text.specs.Tokens.{Stream}
use Rattle.hoa_text.specs.Header.{Header}
use Rattle.hoa_text.specs.Body.{Edge, Current, Table, letters, with_edge, with_label, without_label, body}
use Rattle.hoa_text.specs.Repetition.{Every}
use Rattle.hoa_text.specs.HeaderFits.{Where}
use Rattle.hoa_text.specs.BodyInduction.{Steps, body_keeps}

-- the transition from q by l
pub record EdgeFits (h : Header) (q l : ℕ) (e : Edge) : Type 0 where
  pub state_lt : q < h.states
  pub letter_lt : l < letters h
  pub destination_lt : e.destination < h.states
  pub marks_lt : e.marks < 2 ^ h.sets

pub record CurrentFits (h : Header) (c : Current) : Type 0 where
  pub state_lt : c.state < h.states
  pub shared_lt : c.shared < 2 ^ h.sets

pub record TableFits (h : Header) (t : Table) : Type 0 where
  pub edge_fits : (q l : ℕ) → Where (EdgeFits h q l) (t.edge q l)
  pub current_fits : Where (CurrentFits h) t.current

module _ (h : Header) where
  with_edge_fits : (t : Table) (c : Current) (f : ℕ → Bool) (d m : ℕ) → TableFits h t → CurrentFits h c → d < h.states → m < 2 ^ h.sets
      → TableFits h (with_edge h t c f d m)
  with_edge_fits t c f d m g x hd hm = record { edge_fits = fits; current_fits = x }
    where
      new : Edge
      new = record { destination = d; marks = bit_or c.shared m }

      fits : (p l : ℕ) → Where (EdgeFits h p l) ((with_edge h t c f d m).edge p l)
      fits p l =
          on_cond (Where (EdgeFits h p l)) (eqb p c.state && (ltb l (letters h) && f l)) (some new) (t.edge p l)
          (λ e. record {
            state_lt = omega (arith, x.state_lt, eqb-true p c.state (and_left (eqb p c.state) (ltb l (letters h) && f l) e));
            letter_lt = ltb-true l (letters h) (and_left (ltb l (letters h)) (f l) (and_right (eqb p c.state) (ltb l (letters h) && f l) e));
            destination_lt = hd;
            marks_lt = or_lt h.sets c.shared m x.shared_lt hm;
          })
          (λ e. g.edge_fits p l)

  current : (t : Table) (c : Current) → TableFits h t → t.current ≡ some c → CurrentFits h c
  current t c g is = subst (Where (CurrentFits h)) is g.current_fits

  fits_steps : Steps h (TableFits h)
  fits_steps = record {
    begins = record { edge_fits = λ q l. tt; current_fits = tt };
    state = λ t p m g hp e hm. record { edge_fits = g.edge_fits; current_fits = record { state_lt = hp; shared_lt = hm } };
    labelled = λ t c f d m g is hd hm.
        let x = current t c g is in
        with_edge_fits t (with_label c) f d m g (record { state_lt = x.state_lt; shared_lt = x.shared_lt }) hd hm;
    listed = λ t c d m g is e hd hm.
        let x = current t c g is in
        with_edge_fits t (without_label c) (λ l. eqb l c.listed) d m g (record { state_lt = x.state_lt; shared_lt = x.shared_lt }) hd hm;
  }

  pub body_fits : (s : Stream) → Every (λ y. TableFits h y.0) (body h s)
  body_fits s = body_keeps h (TableFits h) fits_steps s
