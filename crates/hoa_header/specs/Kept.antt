-- The items so far, as the code keeps them (`kept`), and the contracts of the functions that read an item.
use Rattle.std.specs.Prelude.{◌≡◌, Option as Given, Some, None, Result as Read, Ok, Err, List, ℕ, ◌+◌, ◌≤◌, ◌<◌, length}
use Rattle.std.proofs.Math.Option.{Option, none, some}
use Rattle.std.proofs.Math.Seq.{slice}
use Rattle.refusals.specs.declared.Refusal.{Refusal}
use Rattle.hoa_text.specs.Tokens.{item, Stream, stands, left}
use Rattle.hoa_text.specs.Grammar.{Result, gives, refuses, Parsed, Turn, again}
use Rattle.hoa_text.specs.Header.{Items, Header, once, states_given, states_item, start_item, names_item, sets_item, skipped, item_read}
use Rattle.hoa_names.specs.Answers.{held}
use Rattle.hoa_header.specs.declared.items.ItemRead.{ItemRead}
use Rattle.hoa_header.specs.declared.items.Items as Code

-- an item that was read
abbrev pub item_kept : {A B : Type 0} → (A → B) → Option A → Given B
item_kept f none = None
item_kept f (some a) = Some (f a)

abbrev pub kept : Items → Code.Items
kept h = record {
  states = item_kept (λ n. n) h.states;
  start = item_kept (λ q. record { state = q.0; offset = q.1 }) h.start;
  names = item_kept held h.names;
  accepting = item_kept (λ x. record { sets = x.sets; acceptance = x.acceptance }) h.accepting;
}

-- ---- one item

-- x gives the items that c keeps, and the text behind begins at e
pub record Reached (s : List ℕ) (i : ℕ) (x : Parsed Items) (c : Code.Items) (e : ℕ) : Type 0 where
  pub items : Items
  pub is : x ≡ gives (items, left s e)
  pub keeps : c ≡ kept items
  pub from : i < e
  pub to : e ≤ length s

abbrev pub Reaches : List ℕ → ℕ → Parsed Items → Read ItemRead Refusal → Type 0
Reaches s i x (Ok r) = Reached s i x r.items r.end
Reaches s i x (Err z) = x ≡ refuses z

-- an item that may come once, whose name stands at o
abbrev pub ReadsOnce : {A : Type 0} → (Items → Option A) → (Items → Stream → Parsed Items) → List ℕ → ℕ → ℕ → Code.Items → Read ItemRead Refusal → Type 0
ReadsOnce part read s o i c r = (h : Items) → c ≡ kept h → Reaches s i (once (part h) o (read h (left s i))) r

abbrev pub ReadsStates : List ℕ → ℕ → ℕ → Code.Items → Read ItemRead Refusal → Type 0
ReadsStates = ReadsOnce (λ h. h.states) states_item

abbrev pub ReadsStart : List ℕ → ℕ → ℕ → Code.Items → Read ItemRead Refusal → Type 0
ReadsStart = ReadsOnce (λ h. h.start) start_item

abbrev pub ReadsAp : List ℕ → ℕ → ℕ → Code.Items → Read ItemRead Refusal → Type 0
ReadsAp = ReadsOnce (λ h. h.names) names_item

abbrev pub ReadsAcceptance : List ℕ → ℕ → ℕ → Code.Items → Read ItemRead Refusal → Type 0
ReadsAcceptance = ReadsOnce (λ h. h.accepting) sets_item

-- the number n at o, with the text behind it from e on
abbrev pub StatesGiven : ℕ → ℕ → ℕ → Code.Items → Read ItemRead Refusal → Type 0
StatesGiven o n e c r =
    (h : Items) → c ≡ kept h → (s : List ℕ) (i : ℕ) → i < e → e ≤ length s → Reaches s i (states_given h o n (left s e)) r

-- words, numbers and quoted texts from i up to e
pub record Skips (s : List ℕ) (i e : ℕ) : Type 0 where
  pub is : skipped (left s i) ≡ left s e
  pub from : i ≤ e
  pub to : e ≤ length s

-- ---- one turn

pub record Turned (s : List ℕ) (i : ℕ) (x : Result (Turn Items (Header × Stream))) (c : Code.Items) (e : ℕ) : Type 0 where
  pub items : Items
  pub is : x ≡ gives (again items (left s e))
  pub keeps : c ≡ kept items
  pub from : i < e
  pub to : e ≤ length s

abbrev pub Turns : List ℕ → ℕ → Result (Turn Items (Header × Stream)) → Read ItemRead Refusal → Type 0
Turns s i x (Ok r) = Turned s i x r.items r.end
Turns s i x (Err z) = x ≡ refuses z

-- the item whose name stands from o up to its colon at e
abbrev pub ReadsItem : List ℕ → ℕ → ℕ → Code.Items → Read ItemRead Refusal → Type 0
ReadsItem s o e c r = (h : Items) → c ≡ kept h → Turns s e (item_read h (stands o (item (slice o e s)) (left s (e + 1)))) r
