-- A header that is read keeps to the limits of "The automaton".
use Rattle.std.specs.Prelude.{◌≡◌, false, ◌&&◌, List, [], ◌∷◌, ◌++◌, ℕ, zero, suc, ◌+◌, ◌^◌, ◌≤◌, ◌<◌, ltb, leb, length}
use Rattle.std.proofs.Math.Option.{Option, none, some}
use Rattle.std.proofs.Common.{arith, ltb-true, leb-true, length-append}
use Rattle.meaning.specs.MarkSets.{set_of_lt}
use Rattle.meaning.specs.TestLaws.{and_left, and_right, on_cond}
use Rattle.acceptance.specs.Masks.{OwnSets}
use Rattle.automaton.specs.Value.{printable}
use Rattle.hoa_text.specs.Basics.{option}
use Rattle.hoa_text.specs.Tokens.{Stream}
use Rattle.hoa_text.specs.Grammar.{item_of, number_of, quoted_of, is_word, is_item, is_sign, next, rest, at, Result, gives, refuses, Parsed, due, Turn, onward}
use Rattle.hoa_text.specs.Formulas.{acceptance_formula}
use Rattle.hoa_text.specs.Header.{Accepting, Items, Header, all_bytes, among, once, states_given, states_item, start_given, start_item, name_given, naming, names_read, names_given, names_item, sets_read, sets_given, sets_item, small, no_items, opening, opened, item_read, header}
use Rattle.hoa_text.specs.Repetition.{Every, every_then, every_after, every_onward, Both, every_repeat}
use Rattle.hoa_text.specs.Names.{Names, no_names, more_names}

-- what holds of a value where there is one
abbrev pub Where : {A : Type 0} → (A → Type 0) → Option A → Type 0
Where P none = Unit {0}
Where P (some a) = P a

-- ---- names

pub record NamesFit (ws : List (List ℕ)) : Type 0 where
  pub count_le : length ws ≤ 4
  pub names : Names ws

name_fits : {A : Type 0} (Q : A → Type 0) (ws : List (List ℕ)) → Names ws → (o : ℕ) (w : List ℕ) (x : Result A)
    → (Names (ws ++ (w ∷ [])) → Every Q x) → Every Q (name_given ws o w x)
name_fits Q ws g o w x k =
    on_cond (Every Q) (all_bytes printable w) _ _ (λ printables.
    on_cond (Every Q) (ltb 0 (length w) && leb (length w) 16) _ _ (λ lengths.
    on_cond (Every Q) (among w ws) _ _ (λ e. tt) (λ alone.
    k (more_names ws w g (ltb-true 0 (length w) (and_left (ltb 0 (length w)) (leb (length w) 16) lengths))
    (leb-true (length w) 16 (and_right (ltb 0 (length w)) (leb (length w) 16) lengths)) printables alone))) (λ e. tt)) (λ e. tt)

-- n more names than ws
abbrev More : List (List ℕ) → ℕ → List (List ℕ) × Stream → Type 0
More ws n y = (length y.0 ≡ length ws + n) × Names y.0

naming_fits : (n : ℕ) (ws : List (List ℕ)) (s : Stream) → Names ws → Every (More ws n) (naming n ws s)
naming_fits zero ws s g = (omega arith, g)
naming_fits (suc n) ws s g =
    every_after (More ws (suc n)) (due quoted_of s) (λ w u. name_given ws (at s) w (naming n (ws ++ (w ∷ [])) u))
    (λ w u. name_fits (More ws (suc n)) ws g (at s) w (naming n (ws ++ (w ∷ [])) u) (λ k. one_more w (naming n (ws ++ (w ∷ [])) u) (naming_fits n (ws ++ (w ∷ [])) u k)))
  where
    one_more : (w : List ℕ) (x : Parsed (List (List ℕ))) → Every (More (ws ++ (w ∷ [])) n) x → Every (More ws (suc n)) x
    one_more w (gives y) h = (omega (arith, h.0, length-append ws (w ∷ [])), h.1)
    one_more w (refuses r) h = tt

-- ---- items

record AcceptingFits (x : Accepting) : Type 0 where
  sets_le : x.sets ≤ 4
  sets_owned : OwnSets x.acceptance x.sets

record ItemsFit (h : Items) : Type 0 where
  states_fit : Where (λ n. n ≤ 16) h.states
  names_fit : Where NamesFit h.names
  accepting_fit : Where AcceptingFits h.accepting

abbrev Fit : Items × Stream → Type 0
Fit y = ItemsFit y.0

module _ (h : Items) (g : ItemsFit h) (s : Stream) where
  states_item_fits : Every Fit (states_item h s)
  states_item_fits = every_after Fit (due number_of s) (states_given h (at s)) λ n u.
      on_cond (Every Fit) (ltb 0 n && leb n 16) _ _
      (λ e. record { states_fit = leb-true n 16 (and_right (ltb 0 n) (leb n 16) e); names_fit = g.names_fit; accepting_fit = g.accepting_fit })
      (λ e. tt)

  start_item_fits : Every Fit (start_item h s)
  start_item_fits =
      every_after Fit (due number_of s) (start_given h (at s)) (λ q u. record { states_fit = g.states_fit; names_fit = g.names_fit; accepting_fit = g.accepting_fit })

  names_item_fits : Every Fit (names_item h s)
  names_item_fits = every_after Fit (due number_of s) (names_given h (at s)) λ k u.
      on_cond (Every Fit) (leb k 4) _ _
      (λ e. every_then (λ ws v. More [] k (ws, v)) Fit (naming k [] u) (names_read h) (naming_fits k [] u no_names) (λ ws v l. record {
        states_fit = g.states_fit;
        names_fit = record { count_le = omega (arith, l.0, leb-true k 4 e); names = l.1 };
        accepting_fit = g.accepting_fit;
      }))
      (λ e. tt)

  sets_item_fits : Every Fit (sets_item h s)
  sets_item_fits = every_after Fit (due number_of s) (sets_given h (at s)) λ m u.
      on_cond (Every Fit) (leb m 4) _ _
      (λ e. every_after Fit (acceptance_formula m u) (sets_read h m) (λ f v. record {
        states_fit = g.states_fit;
        names_fit = g.names_fit;
        accepting_fit = record { sets_le = leb-true m 4 e; sets_owned = set_of_lt (2 ^ m) _ };
      }))
      (λ e. tt)

-- ---- the header

pub record HeaderFits (h : Header) : Type 0 where
  pub states_le : h.states ≤ 16
  pub start_lt : h.start < h.states
  pub sets_le : h.sets ≤ 4
  pub sets_owned : OwnSets h.acceptance h.sets
  pub names_fit : NamesFit h.names

opening_fits : (h : Items) → ItemsFit h → (o : ℕ) (s : Stream) → Every (λ y. HeaderFits y.0) (opening h o s)
opening_fits h g o s = go h.states h.start h.names h.accepting g.states_fit g.names_fit g.accepting_fit
  where
    named : (x : Option (List (List ℕ))) → Where NamesFit x → NamesFit (option x [] (λ ws. ws))
    named none k = record { count_le = omega arith; names = no_names }
    named (some ws) k = k

    go : (a : Option ℕ) (b : Option (ℕ × ℕ)) (c : Option (List (List ℕ))) (d : Option Accepting)
        → Where (λ n. n ≤ 16) a → Where NamesFit c → Where AcceptingFits d
        → Every (λ y. HeaderFits y.0) (opening (record { states = a; start = b; names = c; accepting = d }) o s)
    go none b c d ha hc hd = tt
    go (some n) none c d ha hc hd = tt
    go (some n) (some q) c none ha hc hd = tt
    go (some n) (some q) c (some x) ha hc hd =
        on_cond (Every (λ y. HeaderFits y.0)) (ltb q.0 n) _ _
        (λ e. record { states_le = ha; start_lt = ltb-true q.0 n e; sets_le = hd.sets_le; sets_owned = hd.sets_owned; names_fit = named c hc }) (λ e. tt)

abbrev Kept : Turn Items (Header × Stream) → Type 0
Kept = Both (λ h u. ItemsFit h) (λ y. HeaderFits y.0)

once_kept : {A : Type 0} (x : Option A) (o : ℕ) (y : Parsed Items) → Every Fit y → Every Kept (onward (once x o y))
once_kept none o y h = every_onward (λ g u. ItemsFit g) (λ z. HeaderFits z.0) y h
once_kept (some a) o y h = tt

item_kept : (h : Items) (s : Stream) → ItemsFit h → Every Kept (item_read h s)
unfolding item_read
item_kept h s g =
    on_cond (Every Kept) (next (is_item "States") s) _ _ (λ e. once_kept h.states (at s) (states_item h (rest s)) (states_item_fits h g (rest s)))
    (λ e. on_cond (Every Kept) (next (is_item "Start") s) _ _ (λ e. once_kept h.start (at s) (start_item h (rest s)) (start_item_fits h g (rest s)))
    (λ e. on_cond (Every Kept) (next (is_item "AP") s) _ _ (λ e. once_kept h.names (at s) (names_item h (rest s)) (names_item_fits h g (rest s)))
    (λ e. on_cond (Every Kept) (next (is_item "Acceptance") s) _ _ (λ e. once_kept h.accepting (at s) (sets_item h (rest s)) (sets_item_fits h g (rest s)))
    (λ e. on_cond (Every Kept) (next (λ t. option (item_of t) false small) s) _ _ (λ e. g)
    (λ e. on_cond (Every Kept) (next (is_sign "--BODY--") s) _ _
    (λ e. every_then (λ k v. HeaderFits k) Kept (opening h (at s) (rest s)) opened (opening_fits h g (at s) (rest s)) (λ k v l. l)) (λ e. tt))))))

pub header_fits : (s : Stream) → Every (λ y. HeaderFits y.0) (header s)
header_fits s =
    on_cond (Every Q) (next (is_item "HOA") s) _ _ (λ e.
    on_cond (Every Q) (next (is_word "v1") (rest s)) _ _ (λ e.
    every_repeat item_read (λ h u. ItemsFit h) Q item_kept no_items (rest (rest s)) (record { states_fit = tt; names_fit = tt; accepting_fit = tt })) (λ e. tt)) (λ e. tt)
  where
    Q : Header × Stream → Type 0
    Q y = HeaderFits y.0
