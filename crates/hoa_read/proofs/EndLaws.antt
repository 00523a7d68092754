-- Laws of the end: missing states and edges, and what follows `--END--`.
use mathlib.Core.Path.{◌≡◌, refl, sym, ap, ◌∙◌, subst}
use mathlib.Core.Bool.{Bool, true, false, not, cond}
use mathlib.Core.List.{List}
use Rattle.std.proofs.Common.{Option as Given, Some, None, Result, Ok, Err}
use mathlib.Core.Option.{Option, none, some}
use Prim.Native.Nat.{ℕ, ◌^◌, ◌≤◌, ◌<◌, min}
use native.Mathlib.Omega.{arith}
use borrow.Author.Tests.{not-false}
use lib.Bits.{bit_xor}
use lib.ListN.{get_or}
use Rattle.meaning.specs.BitSet.{has}
use Rattle.meaning.proofs.FullSets.{has_not}
use Rattle.automaton.specs.declared.Automaton.{Automaton}
use Rattle.bits.specs.Sets.{Lowest}
use Rattle.refusals.specs.declared.Refusal.{Refusal}
use Rattle.refusals.specs.declared.Refusal.TheVariants.{Form, Body, NoEdge}
use Rattle.hoa_text.specs.Basics.{option, is_some, first}
use Rattle.hoa_text.specs.Grammar.{at, gives, refuses}
use Rattle.hoa_text.specs.Header.{Header}
use Rattle.hoa_text.specs.Body.{Table, letters}
use Rattle.hoa_text.specs.Reading.{made, no_body, no_edge, whole, ended}
use Rattle.hoa_text.specs.First.{none_first, first_some}
use Rattle.hoa_text.specs.Tokens.{left}
use Rattle.hoa_tokens.specs.declared.Token.{Token}
use Rattle.hoa_tokens.specs.declared.Token.TheVariants.{Word, Item, Number, Quoted, Sign, Abort, Unread, Over, Broken}
use Rattle.hoa_tokens.specs.Answers.{stream, Reads}
use Rattle.hoa_body.specs.declared.Table as Code
use Rattle.hoa_body.specs.Answers.{Bounded, Opens, Holds}
use Rattle.hoa_body.proofs.OpenedLaws.{states_are, letters_are}
use Rattle.hoa_body.proofs.SetLaws.{first_found, first_lacks}
use Rattle.hoa_read.specs.declared.missing.Gap.{Gap}
use Rattle.hoa_read.specs.Missing.{gap_told, GapAnswer, WholeAnswer, EndedAnswer}
use Rattle.hoa_read.specs.Told.{told}

-- ---- what is not in a set

cond_not : {A : Type 0} (b : Bool) (x y : A) → cond b x y ≡ cond (not b) y x
cond_not true x y = refl
cond_not false x y = refl

-- the first of n numbers that is not in the set, by the lowest of those that are not
module _ {A : Type 0} (set n r : ℕ) (most : n ≤ 16) (low : Lowest (bit_xor set 65535) n r) (p : ℕ → Bool) (x : ℕ → A) (is : (i : ℕ) → i < n → has set i ≡ p i) where
  missing : (i : ℕ) → i < n → cond (p i) none (some (x i)) ≡ cond (has (bit_xor set 65535) i) (some (x i)) none
  missing i h = cond_not (p i) none (some (x i)) ∙ ap (λ b. cond b (some (x i)) none) (sym (has_not set i (omega arith) ∙ ap not (is i h)))

  pub first_missing : r < n → first n (λ i. cond (p i) none (some (x i))) ≡ some (x r)
  first_missing h = first_found (bit_xor set 65535) n r low (λ i. cond (p i) none (some (x i))) x missing h

  pub none_missing : n ≤ r → first n (λ i. cond (p i) none (some (x i))) ≡ none
  none_missing h = first_lacks (bit_xor set 65535) n r low (λ i. cond (p i) none (some (x i))) x missing h

-- ---- edges

-- the states before q have an edge for each of L letters
abbrev pub Before : List ℕ → ℕ → ℕ → Type 0
Before given L q = (p : ℕ) → p < q → (l : ℕ) → l < L → has (get_or given p 0) l ≡ true

pub row_full : (set L r : ℕ) → L ≤ 16 → Lowest (bit_xor set 65535) L r → L ≤ r → (l : ℕ) → l < L → has set l ≡ true
row_full set L r most low h l g = not-false (has set l) (sym (has_not set l (omega arith)) ∙ low.lower l (omega arith))

module _ (given : List ℕ) (n L : ℕ) (most : L ≤ 16) where
  module _ (h : Header) (t : Table) (en : h.states ≡ n) (eL : letters h ≡ L) (is : (q l : ℕ) → q < n → l < L → has (get_or given q 0) l ≡ is_some (t.edge q l)) where
    row : ℕ → Option Refusal
    row q = first (letters h) (λ l. cond (is_some (t.edge q l)) none (some (NoEdge q l)))

    full : (q : ℕ) → q < n → ((l : ℕ) → l < L → has (get_or given q 0) l ≡ true) → row q ≡ none
    unfolding row
    full q hq g = none_first (letters h) _ (λ l hl. ap (λ b. cond b none (some (NoEdge q l))) (sym (is q l hq (omega arith)) ∙ g l (omega arith)))

    open_row : (q r : ℕ) → q < n → Lowest (bit_xor (get_or given q 0) 65535) L r → r < L → row q ≡ some (NoEdge q r)
    unfolding row
    open_row q r hq low l =
        first_missing (get_or given q 0) (letters h) r (omega arith) (subst (λ n. Lowest (bit_xor (get_or given q 0) 65535) n r) (sym eL) low)
        (λ l. is_some (t.edge q l)) (NoEdge q) (λ i g. is q i hq (omega arith)) (omega arith)

    first_row : (q r : ℕ) → q < n → Before given L q → Lowest (bit_xor (get_or given q 0) 65535) L r → r < L → no_edge h t ≡ some (NoEdge q r)
    unfolding row
    first_row q r hq b low l =
        first_some h.states row q (NoEdge q r) (omega arith) (open_row q r hq low l) (λ p g. full p (omega arith) (b p g))

    no_row_lem : Before given L n → no_edge h t ≡ none
    unfolding row
    no_row_lem b = none_first h.states row (λ p g. full p (omega arith) (b p (omega arith)))

  pub gap_at : (q r : ℕ) → q < n → Before given L q → Lowest (bit_xor (get_or given q 0) 65535) L r → r < L → GapAnswer given n L (Some (record { state = q; letter = r }))
  gap_at q r hq b low l h t en eL is = first_row h t en eL is q r hq b low l

  pub gap_nowhere : (q : ℕ) → n ≤ q → Before given L q → GapAnswer given n L None
  gap_nowhere q l b h t en eL is = no_row_lem h t en eL is (λ p g. b p (omega arith))

-- ---- after the whole text

module _ (a : Automaton) (u : Code.Table) (o : ℕ) (bounded : Bounded a) (q : ℕ) (low : Lowest (bit_xor u.named 65535) a.states q) where
  module _ (h : Header) (t : Table) (opens : Opens a h) (g : Holds h t u) where
    count : h.states ≡ a.states
    count = states_are a h opens

    lowest : Lowest (bit_xor u.named 65535) h.states q
    lowest = subst (λ n. Lowest (bit_xor u.named 65535) n q) (sym count) low

    unnamed : q < a.states → no_body h t o ≡ some (Body o q)
    unnamed l = first_missing u.named h.states q (omega (arith, count, bounded.states_le)) lowest t.named (Body o) (λ p k. g.named p (omega (arith, count, bounded.states_le))) (omega (arith, count))

    all_named : a.states ≤ q → no_body h t o ≡ none
    all_named l = none_missing u.named h.states q (omega (arith, count, bounded.states_le)) lowest t.named (Body o) (λ p k. g.named p (omega (arith, count, bounded.states_le))) (omega (arith, count))

  pub whole_no_body : q < a.states → WholeAnswer a u o (Err (Body o q))
  whole_no_body l h t opens g = sym (ap (λ x. told (option x (option (no_edge h t) (gives (made h t)) refuses) refuses)) (unnamed h t opens g l))

  module _ (L : ℕ) (count : L ≡ 2 ^ min a.propositions 4) (all : a.states ≤ q) where
    judged : (x : Given Gap) → GapAnswer u.given a.states L x → (h : Header) (t : Table) → Opens a h → Holds h t u
        → whole h t o ≡ option (gap_told x) (gives (made h t)) refuses
    judged x gap h t opens g =
        let eL : letters h ≡ L = letters_are a h opens L bounded count in
        ap (λ y. option y (option (no_edge h t) (gives (made h t)) refuses) refuses) (all_named h t opens g all)
        ∙ ap (λ y. option y (gives (made h t)) refuses)
        (gap h t (states_are a h opens) eL (λ q l hq hl. g.given q l (omega (arith, bounded.states_le)) (omega (arith, eL))))

    pub whole_gap : (x : Gap) → GapAnswer u.given a.states L (Some x) → WholeAnswer a u o (Err (NoEdge x.state x.letter))
    whole_gap x gap h t opens g = sym (ap told (judged (Some x) gap h t opens g))

    pub whole_made : GapAnswer u.given a.states L None → (b : Automaton) → ((h : Header) (t : Table) → Opens a h → Holds h t u → b ≡ made h t) → WholeAnswer a u o (Ok b)
    whole_made gap b is h t opens g = ap (λ b. told (gives b)) (is h t opens g) ∙ sym (ap told (judged None gap h t opens g))

-- ---- the value

pub made_is : (a : Automaton) (u : Code.Table) (h : Header) (t : Table) → Opens a h → Holds h t u
    → ◌≡◌ {A = Automaton} (record {
      states = a.states;
      start = a.start;
      propositions = a.propositions;
      sets = a.sets;
      acceptance = a.acceptance;
      lengths = a.lengths;
      names = a.names;
      destinations = u.destinations;
      marks = u.marks;
    }) (made h t)
made_is a u h t o g = λ i. record {
  states = (o i).states;
  start = (o i).start;
  propositions = (o i).propositions;
  sets = (o i).sets;
  acceptance = (o i).acceptance;
  lengths = (o i).lengths;
  names = (o i).names;
  destinations = g.destinations i;
  marks = g.marks i;
}

-- ---- behind `--END--`

module _ (s : List ℕ) (i : ℕ) (a : Automaton) (u : Code.Table) where
  pub ended_over : (o : ℕ) → Reads s i (Over o) → (r : Result Automaton Refusal) → WholeAnswer a u o r → EndedAnswer s i a u r
  ended_over o k r x h t opens g = x h t opens g ∙ sym (ap (λ u. told (ended h t u)) k.is)

  pub ended_broken : (o p : ℕ) → Reads s i (Broken o p) → EndedAnswer s i a u (Err (Form o))
  ended_broken o p k h t opens g = sym (ap (λ u. told (ended h t u)) k.is)

  pub ended_token : (x : Token) → Reads s i x → ((o : ℕ) → x ≡ Over o → ⊥) → ((o p : ℕ) → x ≡ Broken o p → ⊥) → (o : ℕ) → o ≡ at (left s i) → EndedAnswer s i a u (Err (Form o))
  ended_token x k over broken o p h t opens g =
      ap (λ o. told (refuses (Form o))) (p ∙ ap at k.is) ∙ sym (ap (λ u. told (ended h t u)) k.is ∙ ap told (go x over broken))
    where
      go : (x : Token) → ((o : ℕ) → x ≡ Over o → ⊥) → ((o p : ℕ) → x ≡ Broken o p → ⊥) → ended h t (stream s x) ≡ refuses (Form (at (stream s x)))
      go (Word o e) over broken = refl
      go (Item o e) over broken = refl
      go (Number o v e) over broken = refl
      go (Quoted o e) over broken = refl
      go (Sign o b) over broken = refl
      go (Token.Body o) over broken = refl
      go (Token.End o) over broken = refl
      go (Abort o) over broken = refl
      go (Unread o e) over broken = refl
      go (Over o) over broken = absurd (over o refl)
      go (Broken o r) over broken = absurd (broken o r refl)
