-- DEFINITIONS, 5 of 8: the header. Sentences in quotes are document 01's, and those of the acceptance document 02's; the numbers 1 to 4 are those of the
-- table "What is turned down".
use Rattle.std.specs.Prelude.{Bool, true, false, cond, ◌&&◌, ◌||◌, List, [], ◌∷◌, ◌++◌, ℕ, zero, suc, ◌^◌, ltb, leb, length}
use Rattle.std.proofs.Math.Option.{Option, none, some}
use Rattle.meaning.specs.BitSet.{set_of}
use Rattle.automaton.specs.Value.{printable}
use Rattle.refusals.specs.declared.Refusal.TheVariants.{Form, Size, Item, Undeclared}
use Rattle.hoa_text.specs.Basics.{option, is_some, same}
use Rattle.hoa_text.specs.Tokens.{Token, Stream, stands, over, broken, between}
use Rattle.hoa_text.specs.Grammar.{word_of, item_of, number_of, quoted_of, is_word, is_item, is_sign, next, rest, at, Result, gives, refuses, Parsed, then, due, expect, Turn, again, done, repeat, onward}
use Rattle.hoa_text.specs.Formulas.{Formula, holds, acceptance_formula}

-- how many sets there are, and "the acceptance as the yes or no for each set of marks": bit x for the set of marks x
pub record Accepting : Type 0 where
  pub sets : ℕ
  pub acceptance : ℕ

-- the items read so far; of the start its number, and that number's offset
pub record Items : Type 0 where
  pub states : Option ℕ
  pub start : Option (ℕ × ℕ)
  pub names : Option (List (List ℕ))
  pub accepting : Option Accepting

-- a header that is read
pub record Header : Type 0 where
  pub states : ℕ
  pub start : ℕ
  pub names : List (List ℕ)
  pub sets : ℕ
  pub acceptance : ℕ

-- 3, at the second: "States, Start, AP or Acceptance twice"
abbrev pub once : {A B : Type 0} → Option A → ℕ → Result B → Result B
once none o r = r
once (some a) o r = refuses (Item o)

-- ---- "`States:` once". Its number n at o; 2: "States 0 or over 16"

abbrev pub states_given : Items → ℕ → ℕ → Stream → Parsed Items
states_given h o n s =
    cond (ltb 0 n && leb n 16) (gives (record { states = some n; start = h.start; names = h.names; accepting = h.accepting }, s)) (refuses (Size o))

abbrev pub states_item : Items → Stream → Parsed Items
states_item h s = then (due number_of s) (states_given h (at s))

-- ---- "`Start:` once with one number". That number q at o

abbrev pub start_given : Items → ℕ → ℕ → Stream → Parsed Items
start_given h o q s = gives (record { states = h.states; start = some (q, o); names = h.names; accepting = h.accepting }, s)

abbrev pub start_item : Items → Stream → Parsed Items
start_item h s = then (due number_of s) (start_given h (at s))

-- ---- "`AP:` at most once (absent: k = 0)". Its number k at o; 2: "AP .. over 4"

abbrev pub all_bytes : (ℕ → Bool) → List ℕ → Bool
all_bytes p [] = true
all_bytes p (b ∷ w) = p b && all_bytes p w

abbrev pub among : List ℕ → List (List ℕ) → Bool
among w [] = false
among w (v ∷ vs) = same w v || among w vs

-- "Proposition names have 1 to 16 bytes, 32 to 126 without quote and backslash; another byte gives 1, before the length is judged", with 2;
-- 3: "two names alike (the second)". The name w at o, after the names ws; r is what follows
abbrev pub name_given : {B : Type 0} → List (List ℕ) → ℕ → List ℕ → Result B → Result B
name_given ws o w r =
    cond (all_bytes printable w)
    (cond (ltb 0 (length w) && leb (length w) 16)
    (cond (among w ws) (refuses (Item o)) r)
    (refuses (Size o)))
    (refuses (Form o))

-- n more names, after the names ws
abbrev pub naming : ℕ → List (List ℕ) → Stream → Parsed (List (List ℕ))
naming zero ws s = gives (ws, s)
naming (suc n) ws s = then (due quoted_of s) (λ w u. name_given ws (at s) w (naming n (ws ++ (w ∷ [])) u))

abbrev pub names_read : Items → List (List ℕ) → Stream → Parsed Items
names_read h ws s = gives (record { states = h.states; start = h.start; names = some ws; accepting = h.accepting }, s)

abbrev pub names_given : Items → ℕ → ℕ → Stream → Parsed Items
names_given h o k s =
    let r = then (naming k [] s) (names_read h) in
    cond (leb k 4) r (refuses (Size o))

abbrev pub names_item : Items → Stream → Parsed Items
names_item h s = then (due number_of s) (names_given h (at s))

-- ---- "`Acceptance:` once". Its number m at o; 2: "sets over 4". Then the formula, "read from Inf, Fin, &, |, t, f and brackets"

-- those of the sets of marks, of m sets, of which the formula f says yes; "no past its sets"
abbrev pub acceptance_of : ℕ → Formula → ℕ
acceptance_of m f = set_of (2 ^ m) (holds f)

abbrev pub with_acceptance : Items → ℕ → ℕ → Items
with_acceptance h m x = record { states = h.states; start = h.start; names = h.names; accepting = some (record { sets = m; acceptance = x }) }

abbrev pub sets_read : Items → ℕ → Formula → Stream → Parsed Items
sets_read h m f s = gives (with_acceptance h m (acceptance_of m f), s)

abbrev pub sets_given : Items → ℕ → ℕ → Stream → Parsed Items
sets_given h o m s =
    let r = then (acceptance_formula m s) (sets_read h m) in
    cond (leb m 4) r (refuses (Size o))

abbrev pub sets_item : Items → Stream → Parsed Items
sets_item h s = then (due number_of s) (sets_given h (at s))

-- ---- "Items with a small first letter are skipped, over words, numbers and quoted texts, up to the next item name or the body"

abbrev pub small : List ℕ → Bool
small [] = false
small (b ∷ w) = between "a" "z" b

abbrev pub plain : Token → Bool
plain t = is_some (word_of t) || (is_some (number_of t) || is_some (quoted_of t))

abbrev pub skipped : Stream → Stream
skipped (stands o t s) =
    let r = skipped s in
    cond (plain t) r (stands o t s)
skipped (over o) = over o
skipped (broken q o) = broken q o

-- ---- `--BODY--`, at o. 3: "at `--BODY--` an item missing"; 4: "a start (judged at `--BODY--`, after 3)"

abbrev pub opening : Items → ℕ → Stream → Parsed Header
opening h o s =
    option h.states (refuses (Item o)) λ n.
    option h.start (refuses (Item o)) λ q.
    option h.accepting (refuses (Item o)) λ x.
    let g : Header = record { states = n; start = q.0; names = option h.names [] (λ ws. ws); sets = x.sets; acceptance = x.acceptance } in
    cond (ltb q.0 n) (gives (g, s)) (refuses (Undeclared q.1))

abbrev pub opened : Header → Stream → Result (Turn Items (Header × Stream))
opened g s = gives (done (g, s))

-- ---- "Then in any order"; "any other item is refused with 1, as is a text that ends early, at its length"; so is whatever else follows an item

unfoldable pub item_read : Items → Stream → Result (Turn Items (Header × Stream))
item_read h s =
    let states = onward (once h.states (at s) (states_item h (rest s))) in
    let start = onward (once h.start (at s) (start_item h (rest s))) in
    let names = onward (once h.names (at s) (names_item h (rest s))) in
    let sets = onward (once h.accepting (at s) (sets_item h (rest s))) in
    let other = gives (again h (skipped (rest s))) in
    let body = then (opening h (at s) (rest s)) opened in
    cond (next (is_item "States") s) states
    (cond (next (is_item "Start") s) start
    (cond (next (is_item "AP") s) names
    (cond (next (is_item "Acceptance") s) sets
    (cond (next (λ t. option (item_of t) false small) s) other
    (cond (next (is_sign "--BODY--") s) body (refuses (Form (at s))))))))

abbrev pub no_items : Items
no_items = record { states = none; start = none; names = none; accepting = none }

-- "`HOA: v1` comes first."
abbrev pub header : Stream → Parsed Header
header s = expect (is_item "HOA") s λ u. expect (is_word "v1") u (repeat item_read no_items)
