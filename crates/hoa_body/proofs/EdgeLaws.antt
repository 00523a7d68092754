-- Laws of edges: their kind, and whether one is the second for a letter.
use mathlib.Core.Path.{◌≡◌, sym, ap, ap₂, ◌∙◌, subst}
use mathlib.Core.Bool.{Bool, true, false, cond, true≢false, not, ◌&&◌}
use mathlib.Core.List.{List}
use Rattle.std.proofs.Common.{Result, Ok, Err}
use mathlib.Core.Option.{Option, none, some}
use Prim.Native.Nat.{ℕ, ◌+◌, ◌^◌, ◌≤◌, ◌<◌, min}
use native.Mathlib.Omega.{arith}
use borrow.Author.Tests.{lt-leb, le-leb, ltb-true, ltb-false}
use Rattle.std.proofs.lemmas.Bool.{not-true, not-false}
use lib.Bits.{bit_and}
use lib.Dec.{ltb, eqb}
use lib.ListN.{get_or}
use Rattle.meaning.specs.BitSet.{has}
use Rattle.meaning.specs.BitSetLaws.{has_and}
use Rattle.automaton.specs.declared.Automaton.{Automaton}
use Rattle.refusals.specs.declared.Refusal.{Refusal}
use Rattle.refusals.specs.declared.Refusal.TheVariants.{SecondEdge}
use Rattle.bits.specs.Sets.{Lowest, single}
use Rattle.bits.specs.SetLaws.{single_is}
use Rattle.bits.specs.SingleSets.{has_single}
use Rattle.hoa_text.specs.Basics.{option, is_some}
use Rattle.hoa_text.specs.Tokens.{left}
use Rattle.hoa_text.specs.Grammar.{gives, refuses, Parsed, onward}
use Rattle.hoa_text.specs.Header.{Header}
use Rattle.hoa_text.specs.Body.{Table, letters, with_edge, second_edge, marks_given}
use Rattle.hoa_formulas.specs.Answers.{Members}
use Rattle.hoa_edges.specs.declared.EdgeRead.{EdgeRead}
use Rattle.hoa_edges.specs.Answers.{EdgeAnswer, UnlabelledAnswer}
use Rattle.hoa_body.specs.declared.Current.{Current}
use Rattle.hoa_body.specs.declared.Table as Code
use Rattle.hoa_body.specs.declared.parts.Part.{Part}
use Rattle.hoa_body.specs.declared.parts.Part.TheVariants.{Edge}
use Rattle.hoa_body.specs.Answers.{Bounded, Opens, current_of, Holds}
use Rattle.hoa_body.specs.Parts.{BodyTurn}
use Rattle.hoa_body.specs.Edges.{labelled, listed, TakesLabel, TakesListed, EdgeOf, FirstAnswer}
use Rattle.hoa_body.proofs.OpenedLaws.{states_are, propositions_are, sets_are, letters_are}
use Rattle.hoa_body.proofs.SetLaws.{first_found, first_lacks}

abbrev edge_turn : Parsed Table → BodyTurn
edge_turn x = onward x

-- ---- whether it may stand here

pub takes_label : (c : Current) → TakesLabel c (eqb c.listed 0)
takes_label c = record { taken = λ g h t x k. rw g; refused = λ g h t x k. rw g }

module _ (c : Current) (n : ℕ) where
  pub takes_listed : not c.labelled ≡ true → TakesListed c n (ltb c.listed n)
  takes_listed y = let e = not-true c.labelled y in record {
    takes = record {
      taken = λ y h t x k. rw (e, lt-leb (letters h) c.listed (omega (arith, ltb-true c.listed n y)));
      refused = λ y h t x k. rw (e, le-leb (letters h) c.listed (omega (arith, ltb-false c.listed n y)));
    };
    listed_lt = ltb-true c.listed n;
  }

  pub takes_labelled : not c.labelled ≡ false → TakesListed c n (not c.labelled)
  takes_labelled q = record {
    takes = record { taken = λ y. absurd (true≢false (sym y ∙ q)); refused = λ y h t x k. rw (not-false c.labelled q) };
    listed_lt = λ y. absurd (true≢false (sym y ∙ q));
  }

-- ---- whether it is the second for a letter

-- the lowest letter that has an edge already is r, of n letters
module _ (x : EdgeRead) (a : Automaton) (u : Code.Table) (c : Current) (bounded : Bounded a) (hq : c.state < 16) (n r : ℕ) (count : n ≡ 2 ^ min a.propositions 4)
    (small : n ≤ 16) (low : Lowest (bit_and x.letters (get_or u.given c.state 0)) n r) where
  module _ (h : Header) (t : Table) (f : ℕ → Bool) (o : Opens a h) (g : Holds h t u) (sat : Members x.letters f) where
    counted : letters h ≡ n
    counted = letters_are a h o n bounded count

    lowest : Lowest (bit_and x.letters (get_or u.given c.state 0)) (letters h) r
    lowest = subst (λ n. Lowest (bit_and x.letters (get_or u.given c.state 0)) n r) (sym counted) low

    asked : (l : ℕ) → l < letters h
        → cond (f l && is_some (t.edge c.state l)) (some (SecondEdge c.state l)) none
        ≡ cond (has (bit_and x.letters (get_or u.given c.state 0)) l) (some (SecondEdge c.state l)) none
    asked l hl =
        ap (λ b. cond b (some (SecondEdge c.state l)) none)
        (sym (has_and x.letters (get_or u.given c.state 0) l ∙ ap₂ (λ b c. b && c) (sat l (omega (arith, counted))) (g.given c.state l hq hl)))

    second : r < n → second_edge h t c.state f ≡ some (SecondEdge c.state r)
    second l = first_found _ (letters h) r lowest _ (SecondEdge c.state) asked (omega (arith, counted))

    no_second : n ≤ r → second_edge h t c.state f ≡ none
    no_second l = first_lacks _ (letters h) r lowest _ (SecondEdge c.state) asked (omega (arith, counted))

  -- the turn, by whether there is a second edge
  judged : (h : Header) (t : Table) (f : ℕ → Bool) (s : List ℕ) (y : Parsed Table) → y ≡ marks_given h t (current_of c) f x.destination x.marks (left s x.end) → (z : Option Refusal)
      → second_edge h t c.state f ≡ z → edge_turn y ≡ edge_turn (option z (gives (with_edge h t (current_of c) f x.destination x.marks, left s x.end)) refuses)
  judged h t f s y z w k = ap edge_turn z ∙ ap (λ y. edge_turn (option y (gives (with_edge h t (current_of c) f x.destination x.marks, left s x.end)) refuses)) k

  pub edge_second : r < n → FirstAnswer x c a u (Err (SecondEdge c.state r))
  edge_second l = record {
    lies = λ s i y. tt;
    means = λ h t s y o g z. judged h t z.for s y z.is _ (second h t z.for o g z.letters l);
  }

  pub edge_first : n ≤ r → FirstAnswer x c a u (Ok (Edge c x))
  edge_first l = record {
    lies = λ s i y. record {
      from = y.from;
      to = y.to;
      state_lt = hq;
      destination_lt = omega (arith, y.below, bounded.states_le);
    };
    means = λ h t s y o g z. record { for = z.for; letters = z.letters; is = judged h t z.for s y z.is _ (no_second h t z.for o g z.letters l) };
  }

-- ---- with a label or without

module _ (s : List ℕ) (i : ℕ) (a : Automaton) (u : Code.Table) (c : Current) (bounded : Bounded a) where
  -- the state with one edge more
  abbrev with_label_lem : Current
  with_label_lem = record { state = c.state; shared = c.shared; labelled = true; listed = c.listed }

  abbrev without_label_lem : Current
  without_label_lem = record { state = c.state; shared = c.shared; labelled = c.labelled; listed = c.listed + 1 }

  pub labelled_refused : (z : Refusal) → EdgeAnswer s i a.states a.propositions a.sets (Err z) → EdgeOf labelled s i a u c (Err z)
  labelled_refused z x = record {
    lies = tt;
    means = λ h t o g. ap edge_turn (x.means bounded.sets_le h t (current_of with_label_lem) (states_are a h o) (propositions_are a h o) (sets_are a h o));
  }

  pub labelled_edge_lem : (read : EdgeRead) → EdgeAnswer s i a.states a.propositions a.sets (Ok read) → (r : Result Part Refusal)
      → FirstAnswer read with_label_lem a u r → EdgeOf labelled s i a u c r
  labelled_edge_lem read x r y = record {
    lies = y.lies s i x.lies;
    means = λ h t o g.
        y.means h t s _ o g
        (x.means bounded.sets_le h t (current_of with_label_lem) (states_are a h o) (propositions_are a h o) (sets_are a h o));
  }

  module _ (set : ℕ) (few : c.listed < 16) (e : set ≡ single c.listed) where
    for_next : Members set (λ k. eqb k c.listed)
    for_next k hk = ap (λ n. has n k) (single_is few e) ∙ has_single c.listed k

    pub listed_refused : (z : Refusal) → UnlabelledAnswer s i a.states a.sets set (Err z) → EdgeOf listed s i a u c (Err z)
    listed_refused z x = record {
      lies = tt;
      means = λ h t o g.
          ap edge_turn (x.means bounded.sets_le h t (current_of without_label_lem) (λ k. eqb k c.listed) (states_are a h o) (sets_are a h o) for_next);
    }

    pub listed_edge_lem : (read : EdgeRead) → UnlabelledAnswer s i a.states a.sets set (Ok read) → (r : Result Part Refusal)
        → FirstAnswer read without_label_lem a u r → EdgeOf listed s i a u c r
    listed_edge_lem read x r y = record {
      lies = y.lies s i x.lies;
      means = λ h t o g.
          y.means h t s _ o g
          (x.means bounded.sets_le h t (current_of without_label_lem) (λ k. eqb k c.listed) (states_are a h o) (sets_are a h o) for_next);
    }
