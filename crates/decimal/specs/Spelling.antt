-- A number's digits, written one after another from the first: what is written so far, and the number that is left.
use Rattle.std.specs.Prelude.{◌≡◌, List, [], ◌∷◌, ◌++◌, ℕ, ◌+◌, ◌*◌, ◌/◌, ◌%◌, ◌^◌, ◌≤◌, ◌<◌, length, set}
use Rattle.std.proofs.Common.{sym, ap, ◌∙◌, subst, append_assoc, div-one, add-one, arith, length-set}
use Rattle.std.proofs.Math.Arith.{digits_div, digits_mod}
use Rattle.decimal.specs.Decimal.{digits}
use Rattle.decimal.specs.Wrote.{Wrote}
use Rattle.decimal.specs.Writing.{wrote_none, wrote_one, wrote_then}

-- n has no more than k digits, and they have room
pub record Fits (d : List ℕ) (at k n : ℕ) : Type 0 where
  pub small : n < 10 ^ k
  pub room : at + k ≤ length d

-- of the last `high` digits of n all but the last `low` are written, and these are the digits of `rest`
pub record Spells (d : List ℕ) (at high n : ℕ) (e : List ℕ) (next low rest : ℕ) : Type 0 where
  pub text : List ℕ
  pub wrote : Wrote d at text e next
  pub whole : text ++ digits low rest ≡ digits high n
  pub fits : Fits e next low rest

pub fits_as : {d : List ℕ} {at k n : ℕ} → Fits d at k n → (j : ℕ) → k ≡ j → Fits d at j n
fits_as {d} {at} {n} f j e = subst (λ (i : ℕ). Fits d at i n) e f

pub spells_none : {d : List ℕ} {at high n : ℕ} → Fits d at high n → (low : ℕ) → high ≡ low → Spells d at high n d at low n
spells_none {d} {at} {n} f low e =
    record { text = []; wrote = wrote_none d at (omega (arith, f.room)); whole = ap (λ (k : ℕ). digits k n) (sym e); fits = fits_as f low e }

-- the digit q at a place
pub spells_one : {d : List ℕ} {at high n : ℕ} → Fits d at high n → (q place rest low : ℕ) → high ≡ place + 1 → place ≡ low → n ≡ q * 10 ^ place + rest
    → rest < 10 ^ place → Spells d at high n (set d at (48 + q)) (at + 1) low rest
spells_one {d} {at} {high} {n} f q place rest low e-high e-low is less =
    let is-q : q ≡ n / 10 ^ place = sym (digits_div q less) ∙ ap (λ (x : ℕ). x / 10 ^ place) (sym is) in
    let is-rest : rest ≡ n % 10 ^ place = sym (digits_mod q less) ∙ ap (λ (x : ℕ). x % 10 ^ place) (sym is) in
    subst (λ (k : ℕ). Spells d at high n (set d at (48 + q)) (at + 1) k rest) e-low
    record {
      text = (48 + q) ∷ [];
      wrote = wrote_one d at (48 + q) (omega (arith, f.room));
      whole = ap (λ (x : ℕ). (48 + x) ∷ digits place rest) is-q ∙ ap (λ (x : ℕ). (48 + n / 10 ^ place) ∷ digits place x) is-rest
          ∙ ap (λ (k : ℕ). digits k n) (sym (e-high ∙ add-one place));
      fits = record { small = less; room = omega (arith, f.room, length-set d at (48 + q)) };
    }

-- one part after the other
pub spells_then : {d : List ℕ} {at high n : ℕ} {e : List ℕ} {next mid m mid' : ℕ} {f : List ℕ} {last low rest : ℕ}
    → Spells d at high n e next mid m → mid' ≡ mid → Spells e next mid' m f last low rest → Spells d at high n f last low rest
spells_then {m} {low} {rest} p same q =
    record {
      text = p.text ++ q.text;
      wrote = wrote_then p.wrote q.wrote;
      whole = append_assoc p.text q.text (digits low rest)
          ∙ ap (λ l. p.text ++ l) (q.whole ∙ ap (λ (k : ℕ). digits k m) same)
          ∙ p.whole;
      fits = q.fits;
    }

-- the digits that are left, written too
pub spells_all : {d : List ℕ} {at high n : ℕ} {e : List ℕ} {next low rest low' : ℕ} {f : List ℕ} {r : ℕ}
    → Spells d at high n e next low rest → low' ≡ low → Wrote e next (digits low' rest) f r → Wrote d at (digits high n) f r
spells_all {d} {at} {rest} {f} {r} p same q =
    subst (λ t. Wrote d at t f r) (ap (λ (k : ℕ). p.text ++ digits k rest) same ∙ p.whole) (wrote_then p.wrote q)

-- a number that has one digit is that digit
pub wrote_digit : (d : List ℕ) (at n : ℕ) → at < length d → Wrote d at (digits 1 n) (set d at (48 + n)) (at + 1)
wrote_digit d at n room =
    subst (λ (x : ℕ). Wrote d at ((48 + x) ∷ []) (set d at (48 + n)) (at + 1)) (sym (div-one n)) (wrote_one d at (48 + n) room)
