-- WHAT IS READ LIES IN "THE AUTOMATON": every value that the reader gives is `Valid`.
use Rattle.std.specs.Prelude.{◌≡◌, refl, Bool, true, false, cond, List, ℕ, leb, length}
use Rattle.std.proofs.Common.{subst, arith}
use Rattle.std.proofs.Math.Option.{Option, none, some}
use Rattle.meaning.specs.TestLaws.{on_cond}
use Rattle.automaton.specs.declared.Automaton.{Automaton}
use Rattle.refusals.specs.declared.Refusal.{Refusal}
use Rattle.refusals.specs.declared.Refusal.TheVariants.{Size, NoEdge}
use Rattle.automaton.specs.Value.{Valid}
use Rattle.hoa_text.specs.Basics.{option, is_some}
use Rattle.hoa_text.specs.Tokens.{Stream, stands, over, broken, tokens}
use Rattle.hoa_text.specs.Grammar.{gives, refuses, then}
use Rattle.hoa_text.specs.Header.{Header, header}
use Rattle.hoa_text.specs.Body.{Table, letters, body}
use Rattle.hoa_text.specs.Reading.{made, no_body, no_edge, whole, ended, reading, text_limit, read}
use Rattle.hoa_text.specs.Repetition.{Every, every_then}
use Rattle.hoa_text.specs.HeaderFits.{HeaderFits, header_fits}
use Rattle.hoa_text.specs.TableFits.{TableFits, body_fits}
use Rattle.hoa_text.specs.Made.{Full, made_valid}
use Rattle.hoa_text.specs.First.{first_none}

nothing_missing : (h : Header) (t : Table) → no_edge h t ≡ none → Full h t
nothing_missing h t e q l hq hl = go (is_some (t.edge q l)) (first_none (letters h) _ (first_none h.states _ e q hq) l hl)
  where
    go : (x : Bool) → cond x none (some (NoEdge q l)) ≡ none → x ≡ true
    go true e = refl
    go false e = let z : ◌≡◌ {A = ℕ} 0 1 = cc in absurd (omega arith)

whole_valid : (h : Header) (t : Table) → HeaderFits h → TableFits h t → (o : ℕ) → Every Valid (whole h t o)
whole_valid h t hf tf o = go (no_body h t o) (no_edge h t) refl
  where
    go : (x y : Option Refusal) → no_edge h t ≡ y → Every Valid (option x (option y (gives (made h t)) refuses) refuses)
    go (some r) y e = tt
    go none (some r) e = tt
    go none none e = made_valid h t hf tf (nothing_missing h t e)

ended_valid : (h : Header) (t : Table) → HeaderFits h → TableFits h t → (s : Stream) → Every Valid (ended h t s)
ended_valid h t hf tf (stands o x s) = tt
ended_valid h t hf tf (over o) = whole_valid h t hf tf o
ended_valid h t hf tf (broken q o) = tt

read_valid : (s : List ℕ) → Every Valid (read s)
unfolding read
read_valid s =
    on_cond (Every Valid) (leb (length s) text_limit) (reading (tokens s)) (refuses (Size text_limit)) (λ e.
    every_then (λ h u. HeaderFits h) Valid (header (tokens s)) (λ h u. then (body h u) (ended h)) (header_fits (tokens s)) (λ h u hf.
    every_then (λ t v. TableFits h t) Valid (body h u) (ended h) (body_fits h u) (λ t v tf. ended_valid h t hf tf v))) (λ e. tt)

pub accepted_valid : (s : List ℕ) {a : Automaton} → read s ≡ gives a → Valid a
accepted_valid s {a} e = subst (Every Valid) e (read_valid s)
