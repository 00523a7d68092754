-- Laws of the whole header: the value without transitions, `--BODY--`, and the items one by one.
use mathlib.Core.Path.{◌≡◌, refl, sym, ap, ◌∙◌, subst}
use mathlib.Core.Bool.{true, and-false}
use mathlib.Core.List.{List, [], ◌∷◌, ◌++◌}
use mathlib.Core.Option.{Option, none, some}
use Prim.Native.Nat.{ℕ, zero, suc, ◌+◌, ◌-◌, ◌≤◌, ◌<◌}
use native.Mathlib.Numerals.{add-one}
use native.Mathlib.Omega.{arith}
use borrow.Author.Tests.{lt-ltb}
use lib.Dec.{eqb}
use lib.ListN.{length, drop, replicate, replicate-append-replicate}
use lib.Seq.{slice}
use Rattle.meaning.specs.Counting.{each}
use Rattle.automaton.specs.declared.Automaton.{Automaton}
use Rattle.refusals.specs.declared.Refusal.{Refusal}
use Rattle.refusals.specs.declared.Refusal.TheVariants.{Form}
use Rattle.automaton.specs.Value.{empty}
use Rattle.automaton.specs.Bytes.{bytes}
use Rattle.hoa_text.specs.Basics.{option, begins}
use Rattle.hoa_text.specs.Tokens.{item, stands, left}
use Rattle.hoa_text.specs.Grammar.{is_item, is_word, at, refuses, then, repeat, expect}
use Rattle.hoa_text.specs.Header.{Items, Header, opening, opened, item_read, no_items, header}
use Rattle.hoa_text.specs.Repetition.{repeat_again, repeat_done, repeat_refuses}
use Rattle.hoa_text.specs.HeaderProgress.{item_shrinks}
use Rattle.hoa_tokens.specs.declared.Token.{Token}
use Rattle.hoa_tokens.specs.declared.Token.TheVariants.{Word, Item, Number, Quoted, Sign, Body, End, Abort, Unread, Over, Broken}
use Rattle.hoa_tokens.specs.Answers.{stream, Reads}
use Rattle.hoa_names.specs.declared.Names.{Names}
use Rattle.hoa_names.specs.Answers.{held}
use Rattle.std.specs.Option.{unwrap_or}
use Rattle.std.specs.Prelude.{Some, None, Result as Read, Ok, Err}
use Rattle.hoa_acceptance.specs.Answers.{Past}
use Rattle.hoa_header.specs.declared.HeaderRead.{HeaderRead}
use Rattle.hoa_header.specs.declared.items.ItemRead.{ItemRead}
use Rattle.hoa_header.specs.declared.items.Items as Code
use Rattle.hoa_header.specs.declared.items.Accepting.{Accepting}
use Rattle.hoa_header.specs.declared.items.Start.{Start}
use Rattle.hoa_text.specs.Body.{no_states}
use Rattle.hoa_text.specs.Reading.{made}
use Rattle.hoa_header.specs.Kept.{item_kept, kept, Turned, ReadsItem}
use Rattle.hoa_header.specs.Answers.{Answered, Answers}
use Rattle.hoa_header.specs.Opening.{ReadsItems, Opens}

-- ---- the value without transitions

zeros : (n : ℕ) → replicate {A = ℕ} n 0 ≡ each n (λ i. 0 ∷ [])
zeros zero = refl
zeros (suc n) = ap (λ k. replicate {A = ℕ} k 0) (sym (add-one n)) ∙ sym (replicate-append-replicate n 1 0) ∙ ap (λ l. l ++ (0 ∷ [])) (zeros n)

-- the code's value of a header
pub unfilled : (g : Header) (c : Names) → c ≡ held g.names → (z : Automaton) → z ≡ empty
    → record { states = g.states; start = g.start; propositions = c.count; sets = g.sets; acceptance = g.acceptance; lengths = c.lengths; names = c.bytes; destinations = z.destinations; marks = z.marks } ≡ made g no_states
unfilled g c e z q = λ i. record {
  states = g.states;
  start = g.start;
  propositions = (e i).count;
  sets = g.sets;
  acceptance = g.acceptance;
  lengths = (e i).lengths;
  names = (e i).bytes;
  destinations = (ap (λ a. a.destinations) q ∙ zeros 256) i;
  marks = (ap (λ a. a.marks) q ∙ zeros 256) i;
}

-- ---- `--BODY--`

found : {A B : Type 0} (f : A → B) (x : Option A) (b : B) → item_kept f x ≡ Some b → (a : A) × (x ≡ some a) × (f a ≡ b)
found f none b e = absurd cc
found f (some a) b e = (a, refl, cc)

-- the names that the value keeps
names_are : (x : Option (List (List ℕ))) → unwrap_or (item_kept held x) (held []) ≡ held (option x [] (λ ws. ws))
names_are none = refl
names_are (some ws) = refl

pub opens : (c : Code.Items) (o e n : ℕ) → c.states ≡ Some n → (x : Start) → c.start ≡ Some x → (y : Accepting) → c.accepting ≡ Some y → x.state < n
    → (v : Names) → v ≡ unwrap_or c.names (held []) → (z : Automaton) → z ≡ empty
    → Opens c o e (Ok (record { automaton = record { states = n; start = x.state; propositions = v.count; sets = y.sets; acceptance = y.acceptance; lengths = v.lengths; names = v.bytes; destinations = z.destinations; marks = z.marks }; end = e }))
opens c o e n is_n x is_x y is_y g v is_v z is_z h k s l b =
    let (m, p, q) = found (λ n. n) h.states n (sym (ap (λ c. c.states) k) ∙ is_n) in
    let (m₂, p₂, q₂) = found (λ q. record { state = q.0; offset = q.1 }) h.start x (sym (ap (λ c. c.start) k) ∙ is_x) in
    let (m₃, p₃, q₃) = found (λ x. record { sets = x.sets; acceptance = x.acceptance }) h.accepting y (sym (ap (λ c. c.accepting) k) ∙ is_y) in
    let there : Header = record { states = n; start = x.state; names = option h.names [] (λ ws. ws); sets = y.sets; acceptance = y.acceptance } in
    record {
      header = there;
      is =
          let e₁ : h.states ≡ some n = p ∙ ap some q in
          let e₂ : h.start ≡ some (x.state, x.offset) = p₂ ∙ ap (λ x. some (x.state, x.offset)) q₂ in
          let e₃ : h.accepting ≡ some (record { sets = y.sets; acceptance = y.acceptance }) = p₃ ∙ ap (λ y. some (record { sets = y.sets; acceptance = y.acceptance })) q₃ in
          rw (e₁, e₂, e₃, lt-ltb x.state n g);
      automaton = unfilled there v (is_v ∙ ap (λ c. unwrap_or c.names (held [])) k ∙ names_are h.names) z is_z;
      to = l;
      behind = b;
    }

-- ---- the items, one by one

-- the items up to e are those that c keeps
pub record ItemsSoFar (s : List ℕ) (i : ℕ) (c : Code.Items) (e : ℕ) : Type 0 where
  pub items : Items
  pub is : repeat item_read no_items (left s i) ≡ repeat item_read items (left s e)
  pub keeps : c ≡ kept items
  pub to : e ≤ length s

pub items_none : (s : List ℕ) (i : ℕ) → i ≤ length s → (c : Code.Items) → c ≡ kept no_items → ItemsSoFar s i c i
items_none s i l c e = record { items = no_items; is = refl; keeps = e; to = l }

module _ (s : List ℕ) (i : ℕ) (c : Code.Items) (e : ℕ) (f : ItemsSoFar s i c e) where
  refused_here : (z : Refusal) → item_read f.items (left s e) ≡ refuses z → ReadsItems s i (Err z)
  refused_here z x = f.is ∙ repeat_refuses item_read item_shrinks f.items (left s e) x

  -- an item
  module _ (o k : ℕ) (t : Reads s e (Item o k)) where
    pub item_refused : (z : Refusal) → ReadsItem s o k c (Err z) → ReadsItems s i (Err z)
    item_refused z g = refused_here z (ap (item_read f.items) t.is ∙ g f.items f.keeps)

    module _ (r : ItemRead) (g : ReadsItem s o k c (Ok r)) where
      turned : Turned s k (item_read f.items (stands o (item (slice o k s)) (left s (k + 1)))) r.items r.end
      turned = g f.items f.keeps

      pub item_further : (e < r.end) × (r.end ≤ length s)
      item_further = (omega (arith, t.lies.from, t.lies.longer, turned.from), turned.to)

      pub item_more : ItemsSoFar s i r.items r.end
      item_more = record {
        items = turned.items;
        is = f.is ∙ repeat_again item_read item_shrinks f.items (left s e) (ap (item_read f.items) t.is ∙ turned.is);
        keeps = turned.keeps;
        to = turned.to;
      }

  -- the body
  pub body_opens : (o : ℕ) → Reads s e (Body o) → (r : Read HeaderRead Refusal) → Opens c o (o + 8) r → ReadsItems s i r
  unfolding item_read
  body_opens o t r g = go r (g f.items f.keeps s t.lies.to spelled)
    where
      spelled : begins (bytes "--BODY--") (drop (o + 8 - 8) s) ≡ true
      spelled = let m : o ≡ o + 8 - 8 = omega arith in subst (λ n. begins (bytes "--BODY--") (drop n s) ≡ true) m t.lies.is

      here : item_read f.items (left s e) ≡ then (opening f.items o (left s (o + 8))) opened
      here = ap (item_read f.items) t.is

      go : (r : Read HeaderRead Refusal) → Answered s (opening f.items o (left s (o + 8))) r → ReadsItems s i r
      go (Ok r) x = record {
        header = x.header;
        is = f.is ∙ repeat_done item_read item_shrinks f.items (left s e) (here ∙ ap (λ y. then y opened) x.is);
        automaton = x.automaton;
        to = x.to;
        behind = x.behind;
      }
      go (Err z) x = f.is ∙ repeat_refuses item_read item_shrinks f.items (left s e) (here ∙ ap (λ y. then y opened) x)

  -- neither
  pub no_item : (o : ℕ) (t : Token) → Reads s e t → ((o k : ℕ) → t ≡ Item o k → ⊥) → ((o : ℕ) → t ≡ Body o → ⊥) → o ≡ at (left s e) → ReadsItems s i (Err (Form o))
  unfolding item_read
  no_item o t g k b q = refused_here (Form o) (ap (item_read f.items) g.is ∙ go f.items t k b ∙ ap (λ o. refuses (Form o)) (sym (q ∙ ap at g.is)))
    where
      go : (h : Items) (t : Token) → ((o k : ℕ) → t ≡ Item o k → ⊥) → ((o : ℕ) → t ≡ Body o → ⊥) → item_read h (stream s t) ≡ refuses (Form (at (stream s t)))
      go h (Word o e) k b = refl
      go h (Item o e) k b = absurd (k o e refl)
      go h (Number o v e) k b = refl
      go h (Quoted o e) k b = refl
      go h (Sign o c) k b = rw (and-false (eqb 45 c))
      go h (Body o) k b = absurd (b o refl)
      go h (End o) k b = refl
      go h (Abort o) k b = refl
      go h (Unread o e) k b = refl
      go h (Over o) k b = refl
      go h (Broken o r) k b = refl

-- ---- `HOA: v1`

module _ (s : List ℕ) where
  pub no_format : Past (is_item "HOA") s 0 None → (o : ℕ) → o ≡ at (left s 0) → Answers s (Err (Form o))
  no_format f o p = rw f (ap (λ o. refuses (Form o)) (sym p))

  module _ (v : ℕ) (f : Past (is_item "HOA") s 0 (Some v)) where
    format : header (left s 0) ≡ expect (is_word "v1") (left s v) (repeat item_read no_items)
    format = rw f.present (ap (λ u. expect (is_word "v1") u (repeat item_read no_items)) f.behind)

    pub no_version : Past (is_word "v1") s v None → (o : ℕ) → o ≡ at (left s v) → Answers s (Err (Form o))
    no_version g o p = format ∙ rw g (ap (λ o. refuses (Form o)) (sym p))

    pub versioned : (e : ℕ) → Past (is_word "v1") s v (Some e) → (r : Read HeaderRead Refusal) → ReadsItems s e r → Answers s r
    versioned e g r x = subst (λ y. Answered s y r) (sym (format ∙ rw g.present (ap (repeat item_read no_items) g.behind))) x
