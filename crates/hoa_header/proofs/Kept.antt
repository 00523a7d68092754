-- Laws of one item: that it comes once, and how it changes the items that are kept.
use mathlib.Core.Path.{◌≡◌, refl, sym, ap, ◌∙◌, subst}
use mathlib.Core.Logic.{◌≢◌}
use mathlib.Core.Bool.{true, false, ◌&&◌, true≢false, false≢true}
use mathlib.Core.List.{List}
use mathlib.Core.Option.{Option, none, some}
use Prim.Native.Nat.{ℕ, ◌≤◌}
use native.Mathlib.Omega.{arith}
use borrow.Author.Tests.{lt-ltb, le-leb}
use lib.Dec.{ltb, leb}
use lib.ListN.{length}
use Rattle.meaning.specs.TestLaws.{and_true}
use Rattle.refusals.specs.declared.Refusal.{Refusal}
use Rattle.std.specs.Prelude.{is_some, Option as Given, Some, None, Result as Read, Ok}
use Rattle.hoa_text.specs.Tokens.{Stream, stands, over, broken, left}
use Rattle.hoa_text.specs.Grammar.{next, rest, Parsed}
use Rattle.hoa_text.specs.Header.{Items, once, states_item, start_item, names_item, with_acceptance, sets_item, plain, skipped}
use Rattle.hoa_tokens.specs.declared.Token.TheVariants.{Number}
use Rattle.hoa_tokens.specs.Answers.{Reads}
use Rattle.hoa_names.specs.declared.NamesRead.{NamesRead}
use Rattle.hoa_names.specs.Answers.{held, ReadsNames}
use Rattle.hoa_acceptance.specs.Answers.{SetsFrom, Past}
use Rattle.hoa_header.specs.declared.items.ItemRead.{ItemRead}
use Rattle.hoa_header.specs.declared.items.Items as Code
use Rattle.hoa_header.specs.Kept.{item_kept, kept, Reaches, ReadsOnce, ReadsStates, ReadsStart, ReadsAp, ReadsAcceptance, StatesGiven, Skips}

-- ---- once

pub kept_none : {A B : Type 0} (f : A → B) (x : Option A) → is_some (item_kept f x) ≡ false → x ≡ none
kept_none f none e = refl
kept_none f (some a) e = absurd (true≢false e)

-- an item whose part and reader these are
module _ {A B : Type 0} (f : A → B) (part : Items → Option A) (read : Items → Stream → Parsed Items) (s : List ℕ) (o i : ℕ) (c : Code.Items) (own : Code.Items → Given B) (keeps : (h : Items) → own (kept h) ≡ item_kept f (part h)) where
  pub came_first : is_some (own c) ≡ false → (r : Read ItemRead Refusal) → ((h : Items) → c ≡ kept h → Reaches s i (read h (left s i)) r) → ReadsOnce part read s o i c r
  came_first e r g h k =
      let p = kept_none f (part h) (sym (ap (λ c. is_some (own c)) k ∙ ap is_some (keeps h)) ∙ e) in
      subst (λ x. Reaches s i x r) (sym (ap (λ x. once x o (read h (left s i))) p)) (g h k)

-- ---- `States:`

pub states_kept : (o n e : ℕ) (c : Code.Items) → n ≢ 0 → n ≤ 16
    → StatesGiven o n e c (Ok (record { items = record { states = Some n; start = c.start; names = c.names; accepting = c.accepting }; end = e }))
states_kept o n e c some-states few h k s i l m =
    let f : (ltb 0 n && leb n 16) ≡ true = and_true (lt-ltb 0 n (omega arith)) (le-leb n 16 few) in
    record {
      items = record { states = some n; start = h.start; names = h.names; accepting = h.accepting };
      is = rw f;
      keeps = ap (λ c. record { states = Some n; start = c.start; names = c.names; accepting = c.accepting }) k;
      from = l;
      to = m;
    }

module _ (s : List ℕ) (o i : ℕ) (c : Code.Items) where
  pub states_first : is_some c.states ≡ false → (r : Read ItemRead Refusal) → ((h : Items) → c ≡ kept h → Reaches s i (states_item h (left s i)) r) → ReadsStates s o i c r
  states_first = came_first (λ n. n) (λ h. h.states) states_item s o i c (λ c. c.states) (λ h. refl)

  pub states_read : is_some c.states ≡ false → (p n e : ℕ) → Reads s i (Number p n e) → (r : Read ItemRead Refusal) → StatesGiven p n e c r → ReadsStates s o i c r
  states_read new p n e h r g = states_first new r λ k q.
      subst (λ x. Reaches s i x r) (sym (ap (states_item k) h.is)) (g k q s i (omega (arith, h.lies.from, h.lies.longer)) h.lies.to)

  -- ---- `Start:`

  pub start_first : is_some c.start ≡ false → (r : Read ItemRead Refusal) → ((h : Items) → c ≡ kept h → Reaches s i (start_item h (left s i)) r) → ReadsStart s o i c r
  start_first = came_first (λ q. record { state = q.0; offset = q.1 }) (λ h. h.start) start_item s o i c (λ c. c.start) (λ h. refl)

  pub start_kept : is_some c.start ≡ false → (p n e : ℕ) → Reads s i (Number p n e)
      → ReadsStart s o i c (Ok (record { items = record { states = c.states; start = Some (record { state = n; offset = p }); names = c.names; accepting = c.accepting }; end = e }))
  start_kept new p n e h = start_first new (Ok (record { items = record { states = c.states; start = Some (record { state = n; offset = p }); names = c.names; accepting = c.accepting }; end = e })) λ k q. record {
    items = record { states = k.states; start = some (n, p); names = k.names; accepting = k.accepting };
    is = ap (start_item k) h.is;
    keeps = ap (λ c. record { states = c.states; start = Some (record { state = n; offset = p }); names = c.names; accepting = c.accepting }) q;
    from = omega (arith, h.lies.from, h.lies.longer);
    to = h.lies.to;
  }

  -- ---- `AP:`

  pub names_first : is_some c.names ≡ false → (r : Read ItemRead Refusal) → ((h : Items) → c ≡ kept h → Reaches s i (names_item h (left s i)) r) → ReadsAp s o i c r
  names_first = came_first held (λ h. h.names) names_item s o i c (λ c. c.names) (λ h. refl)

  pub names_kept : is_some c.names ≡ false → (x : NamesRead) → ReadsNames s i (Ok x)
      → ReadsAp s o i c (Ok (record { items = record { states = c.states; start = c.start; names = Some x.names; accepting = c.accepting }; end = x.end }))
  names_kept new x g = names_first new (Ok (record { items = record { states = c.states; start = c.start; names = Some x.names; accepting = c.accepting }; end = x.end })) λ h k.
      let n = g h in
      record {
        items = record { states = h.states; start = h.start; names = some n.words; accepting = h.accepting };
        is = n.is;
        keeps = λ i. record { states = (k i).states; start = (k i).start; names = Some (n.holds i); accepting = (k i).accepting };
        from = n.from;
        to = n.to;
      }

  -- ---- `Acceptance:`

  pub sets_first : is_some c.accepting ≡ false → (r : Read ItemRead Refusal) → ((h : Items) → c ≡ kept h → Reaches s i (sets_item h (left s i)) r) → ReadsAcceptance s o i c r
  sets_first = came_first (λ x. record { sets = x.sets; acceptance = x.acceptance }) (λ h. h.accepting) sets_item s o i c (λ c. c.accepting) (λ h. refl)

  pub sets_kept : is_some c.accepting ≡ false → (m p e : ℕ) → ((h : Items) → SetsFrom s i h (sets_item h (left s i)) m p e)
      → ReadsAcceptance s o i c (Ok (record { items = record { states = c.states; start = c.start; names = c.names; accepting = Some (record { sets = m; acceptance = p }) }; end = e }))
  sets_kept new m p e g = sets_first new (Ok (record { items = record { states = c.states; start = c.start; names = c.names; accepting = Some (record { sets = m; acceptance = p }) }; end = e })) λ h k.
      let a = g h in
      record {
        items = with_acceptance h m p;
        is = a.is;
        keeps = ap (λ c. record { states = c.states; start = c.start; names = c.names; accepting = Some (record { sets = m; acceptance = p }) }) k;
        from = a.from;
        to = a.to;
      }

-- ---- items that are skipped

skipped_plain : (u : Stream) → next plain u ≡ true → skipped u ≡ skipped (rest u)
skipped_plain (stands o t u) e = rw e
skipped_plain (over o) e = absurd (false≢true e)
skipped_plain (broken q o) e = absurd (false≢true e)

skipped_stop : (u : Stream) → next plain u ≡ false → skipped u ≡ u
skipped_stop (stands o t u) e = rw e
skipped_stop (over o) e = refl
skipped_stop (broken q o) e = refl

-- the tokens up to e are skipped
pub record Skipping (s : List ℕ) (i e : ℕ) : Type 0 where
  pub is : skipped (left s i) ≡ skipped (left s e)
  pub from : i ≤ e
  pub to : e ≤ length s

pub skipping_none : (s : List ℕ) (i : ℕ) → i ≤ length s → Skipping s i i
skipping_none s i h = record { is = refl; from = omega arith; to = h }

module _ (s : List ℕ) (i e : ℕ) (h : Skipping s i e) where
  pub skipping_more : (r : ℕ) → Past plain s e (Some r) → Skipping s i r
  skipping_more r g = record { is = h.is ∙ skipped_plain (left s e) g.present ∙ ap skipped g.behind; from = omega (arith, h.from, g.from); to = g.to }

  pub skipping_done : Past plain s e None → Skips s i e
  skipping_done g = record { is = h.is ∙ skipped_stop (left s e) g; from = h.from; to = h.to }
