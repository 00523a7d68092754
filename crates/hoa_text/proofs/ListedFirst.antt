-- A LISTED EDGE IS NEVER THE SECOND FOR ITS LETTER: 6 is judged of every edge, and said of edges with labels only.
use Rattle.std.specs.Prelude.{◌≡◌, refl, Bool, true, false, cond, ◌&&◌, ℕ, ◌≤◌, ltb, eqb}
use Rattle.std.proofs.Common.{sym, ap, ◌∙◌, subst, true≢false, arith, eq-eqb, ne_eqb}
use Rattle.std.proofs.Math.Bool.{and-false}
use Rattle.std.proofs.Math.Option.{none, some}
use Rattle.std.proofs.Math.Decide.{ℕ_discrete}
use Rattle.meaning.specs.TestLaws.{or_false}
use Rattle.refusals.specs.declared.Refusal.TheVariants.{SecondEdge}
use Rattle.hoa_text.specs.Basics.{is_some}
use Rattle.hoa_text.specs.Tokens.{Stream}
use Rattle.hoa_text.specs.Header.{Header}
use Rattle.hoa_text.specs.Body.{Current, Table, letters, with_edge, second_edge, with_label, without_label, body_read}
use Rattle.hoa_text.specs.First.{none_first}
use Rattle.hoa_text.specs.Repetition.{Every, Both}
use Rattle.hoa_text.specs.HeaderFits.{Where}
use Rattle.hoa_text.specs.BodyInduction.{Steps, turn_keeps}

-- the current state was named; without labels, only the letters that were listed have an edge
pub record Lists (t : Table) (c : Current) : Type 0 where
  pub named : t.named c.state ≡ true
  pub free : c.labelled ≡ false → (l : ℕ) → c.listed ≤ l → t.edge c.state l ≡ none

pub record Listing (t : Table) : Type 0 where
  pub unnamed : (q l : ℕ) → t.named q ≡ false → t.edge q l ≡ none
  pub lists : Where (Lists t) t.current

pub listed_first : (h : Header) (t : Table) (c : Current) → Listing t → t.current ≡ some c → c.labelled ≡ false
    → second_edge h t c.state (λ l. eqb l c.listed) ≡ none
listed_first h t c g is e = none_first (letters h) _ (λ l hl. go l (ℕ_discrete l c.listed))
  where
    go : (l : ℕ) → Dec (l ≡ c.listed) → cond (eqb l c.listed && is_some (t.edge c.state l)) (some (SecondEdge c.state l)) none ≡ none
    go l (yes k) = rw ((subst (Where (Lists t)) is g.lists).free e l (omega arith), and-false (eqb l c.listed))
    go l (no k) = rw (ne_eqb l c.listed k)

-- ---- every table that the body comes to is so

module _ (h : Header) (t : Table) (c : Current) (f : ℕ → Bool) (d m : ℕ) where
  abbrev there : ℕ → ℕ → Bool
  there p l = eqb p c.state && (ltb l (letters h) && f l)

  elsewhere : (p l : ℕ) → there p l ≡ false → (with_edge h t c f d m).edge p l ≡ t.edge p l
  elsewhere p l e = rw e

  edge_lists : Listing t → t.named c.state ≡ true → (c.labelled ≡ false → (l : ℕ) → c.listed ≤ l → (f l ≡ false) × (t.edge c.state l ≡ none))
      → Listing (with_edge h t c f d m)
  edge_lists g n k = record { unnamed = λ q l e. go q l e (ℕ_discrete q c.state); lists = record { named = n; free = free } }
    where
      go : (q l : ℕ) → t.named q ≡ false → Dec (q ≡ c.state) → (with_edge h t c f d m).edge q l ≡ none
      go q l e (yes p) = absurd (true≢false (sym n ∙ ap t.named (sym p) ∙ e))
      go q l e (no p) = elsewhere q l (rw (ne_eqb q c.state p)) ∙ g.unnamed q l e

      free : c.labelled ≡ false → (l : ℕ) → c.listed ≤ l → (with_edge h t c f d m).edge c.state l ≡ none
      free e l hl =
          let x = k e l hl in
          elsewhere c.state l (rw (eq-eqb c.state c.state refl, x.0, and-false (ltb l (letters h)))) ∙ x.1

listing_steps : (h : Header) → Steps h Listing
listing_steps h = record {
  begins = record { unnamed = λ q l e. refl; lists = tt };
  state = λ t p m g hp e hm. record {
    unnamed = λ q l k. g.unnamed q l (or_false (eqb q p) (t.named q) k).1;
    lists = record { named = rw (eq-eqb p p refl); free = λ y l z. g.unnamed p l e };
  };
  labelled = λ t c f d m g is hd hm. edge_lists h t (with_label c) f d m g (lists t c g is).named (λ y. absurd (true≢false y));
  listed = λ t c d m g is e hd hm.
      let x = lists t c g is in
      edge_lists h t (without_label c) (λ l. eqb l c.listed) d m g x.named
      (λ y l hl. (ne_eqb l c.listed (λ k. absurd (omega arith)), x.free e l (omega arith)));
}
  where
    lists : (t : Table) (c : Current) → Listing t → t.current ≡ some c → Lists t c
    lists t c g is = subst (Where (Lists t)) is g.lists

pub listing_kept : (h : Header) (t : Table) (s : Stream) → Listing t → Every (Both (λ t u. Listing t) (λ y. Listing y.0)) (body_read h t s)
listing_kept h t s g = turn_keeps h Listing (listing_steps h) t s g
