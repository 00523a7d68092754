-- Laws of what stands first in the body: a state, an edge, its end.
use mathlib.Core.Path.{◌≡◌, refl, sym, ap, ◌∙◌, subst}
use mathlib.Core.Logic.{◌≢◌}
use mathlib.Core.Bool.{Bool, true, false, and-false}
use mathlib.Core.List.{List}
use Rattle.std.proofs.Common.{Some, None, Result, Ok, Err}
use native.Mathlib.Decide.{ℕ_discrete}
use Rattle.refusals.specs.declared.Refusal.{Refusal}
use Prim.Native.Nat.{ℕ, ◌+◌, ◌^◌, ◌<◌, min}
use native.Mathlib.Omega.{arith}
use borrow.Author.Tests.{eq-eqb, ne_eqb}
use lib.Dec.{eqb}
use lib.Seq.{slice}
use Rattle.automaton.specs.declared.Automaton.{Automaton}
use Rattle.refusals.specs.declared.Refusal.TheVariants.{Form}
use Rattle.automaton.specs.Bytes.{bytes}
use Rattle.hoa_text.specs.Basics.{same, option}
use Rattle.hoa_text.specs.Tokens.{Stream, left}
use Rattle.hoa_text.specs.Grammar.{at, refuses, Parsed, onward}
use Rattle.hoa_text.specs.Header.{Header}
use Rattle.hoa_text.specs.Body.{Table, Current, letters, labelled_edge, listed_edge, in_state, body_read}
use Rattle.hoa_tokens.specs.declared.Token.{Token}
use Rattle.hoa_tokens.specs.declared.Token.TheVariants.{Word, Item, Number, Quoted, Sign, Abort, Unread, Over, Broken}
use Rattle.hoa_tokens.specs.Answers.{stream, Reads}
use Rattle.hoa_body.specs.declared.Table as Code
use Rattle.hoa_body.specs.declared.Current.{Current as Counted}
use Rattle.hoa_body.specs.declared.parts.Part.{Part}
use Rattle.hoa_body.specs.declared.parts.Part.TheVariants.{State, Edge, End}
use Rattle.hoa_body.specs.Answers.{Bounded, Opens, current_of, current, Holds}
use Rattle.hoa_body.specs.Parts.{BodyTurn, PartLies, PartMeans, PartAnswer}
use Rattle.hoa_body.specs.States.{StateAnswer}
use Rattle.hoa_body.specs.Edges.{labelled, listed, Takes, TakesLabel, TakesListed, EdgeOf}
use Rattle.hoa_body.proofs.OpenedLaws.{letters_are}

-- a part behind the token that opens it
module _ (s : List ℕ) (i e : ℕ) (before : i < e) where
  further : (r : Result Part Refusal) → PartLies s e r → PartLies s i r
  further (Ok (State p m x)) (l, y) = (l, record { from = omega (arith, y.from); to = y.to })
  further (Ok (Edge c x)) y = record { from = omega (arith, y.from); to = y.to; state_lt = y.state_lt; destination_lt = y.destination_lt }
  further (Ok (End x)) y = record { from = omega (arith, y.from); to = y.to }
  further (Err z) y = tt

abbrev part_turn : Parsed Table → BodyTurn
part_turn x = onward x

module _ (s : List ℕ) (i : ℕ) (a : Automaton) (u : Code.Table) where
  -- ---- a state

  module _ (o e : ℕ) (k : Reads s i (Item o e)) where
    pub state_part : same (bytes "State") (slice o e s) ≡ true → (r : Result Part Refusal) → StateAnswer s (e + 1) a u.named r → PartAnswer s i a u r
    unfolding body_read
    state_part b r x = record {
      lies = further s i (e + 1) (omega (arith, k.lies.from, k.lies.longer)) r x.lies;
      means = λ h t c g. subst (λ y. PartMeans h t s y r) (sym (ap (body_read h t) k.is ∙ rw b)) (x.means h t c g.named);
    }

    pub other_item : same (bytes "State") (slice o e s) ≡ false → PartAnswer s i a u (Err (Form o))
    unfolding body_read
    other_item b = record { lies = tt; means = λ h t c g. ap (body_read h t) k.is ∙ rw b }

  -- ---- an edge, where x stands from i on

  module _ (x : Stream) (asked : Header → Table → Stream → Current → Parsed Table)
      (begins : (h : Header) (t : Table) → body_read h t (left s i) ≡ in_state t x (asked h t x)) (o : ℕ) (first : at x ≡ o) where
    before_states : u.current ≡ None → PartAnswer s i a u (Err (Form o))
    before_states q = record {
      lies = tt;
      means = λ h t c g.
          begins h t ∙ ap (λ y. part_turn (option y (refuses (Form (at x))) (asked h t x))) (g.current_is ∙ ap current q)
          ∙ ap (λ o. refuses (Form o)) first;
    }

    module _ (c : Counted) (is : u.current ≡ Some c) where
      here : (h : Header) (t : Table) → Holds h t u → body_read h t (left s i) ≡ part_turn (asked h t x (current_of c))
      here h t g = begins h t ∙ ap (λ y. part_turn (option y (refuses (Form (at x))) (asked h t x))) (g.current_is ∙ ap current is)

      module _ (r : Bool) {K : Header → Type 0} {given : Header → Table → Stream → Parsed Table} (takes : Takes c r K asked given)
          (under : (h : Header) → Opens a h → K h) where
        edge_refused : r ≡ false → PartAnswer s i a u (Err (Form o))
        edge_refused l = record {
          lies = tt;
          means = λ h t y g. here h t g ∙ ap part_turn (takes.refused l h t x (under h y)) ∙ ap (λ o. refuses (Form o)) first;
        }

        edge_taken : r ≡ true → (p : Result Part Refusal) → PartLies s i p
            → ((h : Header) (t : Table) → Opens a h → Holds h t u → PartMeans h t s (onward (given h t x)) p) → PartAnswer s i a u p
        edge_taken l p y z = record {
          lies = y;
          means = λ h t o g. subst (λ w. PartMeans h t s w p) (sym (here h t g ∙ ap part_turn (takes.taken l h t x (under h o)))) (z h t o g);
        }

  -- ---- with a label

  module _ (o b : ℕ) (k : Reads s i (Sign o b)) where
    pub other_sign : b ≢ 91 → PartAnswer s i a u (Err (Form o))
    unfolding body_read
    other_sign l = record {
      lies = tt;
      means = λ h t c g. ap (body_read h t) k.is ∙ rw (ne_eqb 91 b (λ e. l (sym e)), and-false (eqb 45 b));
    }

    module _ (is : b ≡ 91) where
      opened : (h : Header) (t : Table) → body_read h t (left s i) ≡ in_state t (stream s (Sign o b)) (labelled_edge h t (stream s (Sign o b)))
      unfolding body_read
      opened h t = ap (body_read h t) k.is ∙ rw (eq-eqb 91 b (sym is))

    pub label_first : u.current ≡ None → PartAnswer s i a u (Err (Form o))
    label_first q = go (ℕ_discrete b 91)
      where
        go : Dec (b ≡ 91) → PartAnswer s i a u (Err (Form o))
        go (yes e) = before_states (stream s (Sign o b)) labelled_edge (opened e) o refl q
        go (no e) = other_sign e

    module _ (is : b ≡ 91) (c : Counted) (has : u.current ≡ Some c) (r : Bool) (takes : TakesLabel c r) where
      pub no_label : r ≡ false → PartAnswer s i a u (Err (Form o))
      no_label = edge_refused (stream s (Sign o b)) labelled_edge (opened is) o refl c has r takes (λ h c. tt)

      pub labelled_part : r ≡ true → (p : Result Part Refusal) → EdgeOf labelled s (o + 1) a u c p → PartAnswer s i a u p
      labelled_part l p x =
          edge_taken (stream s (Sign o b)) labelled_edge (opened is) o refl c has r takes (λ h c. tt) l p (further s i (o + 1) (omega (arith, k.lies.from)) p x.lies) x.means

  -- ---- without a label

  module _ (o v e : ℕ) (k : Reads s i (Number o v e)) where
    numbered : (h : Header) (t : Table) → body_read h t (left s i) ≡ in_state t (left s i) (listed_edge h t (left s i))
    unfolding body_read
    numbered h t = ap (body_read h t) k.is ∙ sym (ap (λ x. in_state t x (listed_edge h t x)) k.is)

    pub number_first : u.current ≡ None → PartAnswer s i a u (Err (Form o))
    number_first = before_states (left s i) listed_edge numbered o (ap at k.is)

    module _ (bounded : Bounded a) (c : Counted) (has : u.current ≡ Some c) (n : ℕ) (count : n ≡ 2 ^ min a.propositions 4) (r : Bool)
        (takes : TakesListed c n r) where
      counted : (h : Header) → Opens a h → letters h ≡ n
      counted h c = letters_are a h c n bounded count

      pub not_listed : r ≡ false → PartAnswer s i a u (Err (Form o))
      not_listed = edge_refused (left s i) listed_edge numbered o (ap at k.is) c has r takes.takes counted

      pub listed_part : r ≡ true → (p : Result Part Refusal) → EdgeOf listed s i a u c p → PartAnswer s i a u p
      listed_part l p x = edge_taken (left s i) listed_edge numbered o (ap at k.is) c has r takes.takes counted l p x.lies x.means

  -- ---- the end, and what cannot stand here

  pub end_part : (o : ℕ) → Reads s i (Token.End o) → PartAnswer s i a u (Ok (End (o + 7)))
  unfolding body_read
  end_part o k = record {
    lies = record { from = omega (arith, k.lies.from); to = k.lies.to };
    means = λ h t c g. ap (body_read h t) k.is;
  }

  pub no_part : (t : Token) → Reads s i t → ((o e : ℕ) → t ≡ Item o e → ⊥) → ((o v e : ℕ) → t ≡ Number o v e → ⊥) → ((o b : ℕ) → t ≡ Sign o b → ⊥)
      → ((o : ℕ) → t ≡ Token.End o → ⊥) → (o : ℕ) → o ≡ at (left s i) → PartAnswer s i a u (Err (Form o))
  unfolding body_read
  no_part t k item number sign end o e = record {
    lies = tt;
    means = λ h x c y. ap (body_read h x) k.is ∙ go h x t item number sign end ∙ ap (λ o. refuses (Form o)) (sym (e ∙ ap at k.is));
  }
    where
      go : (h : Header) (x : Table) (t : Token) → ((o e : ℕ) → t ≡ Item o e → ⊥) → ((o v e : ℕ) → t ≡ Number o v e → ⊥) → ((o b : ℕ) → t ≡ Sign o b → ⊥)
          → ((o : ℕ) → t ≡ Token.End o → ⊥) → body_read h x (stream s t) ≡ refuses (Form (at (stream s t)))
      go h x (Word o e) item number sign end = refl
      go h x (Item o e) item number sign end = absurd (item o e refl)
      go h x (Number o v e) item number sign end = absurd (number o v e refl)
      go h x (Quoted o e) item number sign end = refl
      go h x (Sign o b) item number sign end = absurd (sign o b refl)
      go h x (Token.Body o) item number sign end = refl
      go h x (Token.End o) item number sign end = absurd (end o refl)
      go h x (Abort o) item number sign end = refl
      go h x (Unread o e) item number sign end = refl
      go h x (Over o) item number sign end = refl
      go h x (Broken o r) item number sign end = refl
