-- WHAT IS WRITTEN IS READ BACK: reading the text of an automaton gives that automaton, the same value.
use Rattle.std.specs.Prelude.{◌≡◌, refl, [], ◌++◌, ℕ, ◌≤◌, ◌<◌, ltb, length, get_or}
use Rattle.std.proofs.Math.Path.{ap}
use Rattle.std.proofs.Common.{◌∙◌, arith, lt-ltb, le-leb, pow_mono}
use Rattle.std.proofs.Math.Bool.{cond}
use Rattle.std.proofs.Math.Option.{none, some}
use Rattle.meaning.specs.BitSet.{has}
use Rattle.meaning.specs.Counting.{each}
use Rattle.meaning.specs.CountingLaws.{each_length, each_at}
use Rattle.automaton.specs.declared.Automaton.{Automaton}
use Rattle.refusals.specs.declared.Refusal.TheVariants.{Size, Body, NoEdge}
use Rattle.automaton.specs.Equality.{Same, equal_values}
use Rattle.automaton.specs.Value.{Valid, destination, mark_set, name}
use Rattle.hoa_text.specs.Basics.{option, is_some}
use Rattle.hoa_text.specs.Tokens.{tokens}
use Rattle.hoa_text.specs.Grammar.{gives, refuses, then}
use Rattle.hoa_text.specs.Body.{Table, letters, body}
use Rattle.hoa_text.specs.Reading.{made, no_edge, whole, ended, reading, text_limit, read}
use Rattle.hoa_text.specs.Written.{state_lines, end_line, text}
use Rattle.hoa_text.specs.Names.{name_length_lem}
use Rattle.hoa_text.specs.Made.{destination_made, marks_made, name_made}
use Rattle.hoa_text.specs.Accepted.{accepted_valid}
use Rattle.hoa_text.proofs.WrittenBody.{header_of, filled, before, body_read_lem}
use Rattle.hoa_text.proofs.WrittenHeader.{header_read}
use Rattle.hoa_text.proofs.WrittenLength.{text_le}
use Rattle.hoa_text.specs.First.{none_first}

module _ (a : Automaton) (v : Valid a) where
  -- the table that is read back
  abbrev full : Table
  full = filled a a.states a.states 0 (before a a.states)

  edge_full : (q l : ℕ) → q < a.states → l < letters (header_of a) → full.edge q l ≡ some (record { destination = destination a q l; marks = mark_set a q l })
  edge_full q l hq hl = rw (lt-ltb l (letters (header_of a)) hl, lt-ltb q a.states hq)

  -- nothing is missing in it
  whole_read : (o : ℕ) → whole (header_of a) full o ≡ gives (made (header_of a) full)
  whole_read o =
      let h = header_of a in
      ap (λ x. option x (option (no_edge h full) (gives (made h full)) refuses) refuses)
      (none_first a.states (λ q. cond (ltb q a.states) none (some (Body o q))) (λ q hq. ap (λ b. cond b none (some (Body o q))) (lt-ltb q a.states hq)))
      ∙ ap (λ x. option x (gives (made h full)) refuses)
      (none_first a.states _ (λ q hq. none_first (letters h) _ (λ l hl. ap (λ x. cond (is_some x) none (some (NoEdge q l))) (edge_full q l hq hl))))

  text_read : read (text a) ≡ gives (made (header_of a) full)
  unfolding read text
  text_read =
      let r = each a.states (state_lines a) ++ end_line in
      let k₁ = header_read a v r in
      let k₂ = body_read_lem a v k₁.offset in
      ap (λ b. cond b (reading (tokens (text a))) (refuses (Size text_limit))) (le-leb (length (text a)) text_limit (omega (arith, text_le a v)))
      ∙ ap (λ x. then x (λ h u. then (body h u) (ended h))) k₁.is
      ∙ ap (λ x. then x (ended (header_of a))) k₂.is
      ∙ whole_read k₂.offset

  few_letters : letters (header_of a) ≤ 16
  few_letters = pow_mono {j = 4} (omega (arith, each_length a.propositions (name a), v.propositions_le))

  itself : Same (made (header_of a) full) a
  itself = record {
    states = refl;
    start = refl;
    propositions = each_length a.propositions (name a);
    sets = refl;
    acceptance = refl;
    steps = λ q l hq hl.
        destination_made (header_of a) full q l (omega (arith, v.states_le)) (omega (arith, few_letters))
        ∙ ap (λ x. option x 0 (λ e. e.destination)) (edge_full q l hq hl);
    marks = λ q l i hq hl hi. ap (λ m. has m i)
        (marks_made (header_of a) full q l (omega (arith, v.states_le)) (omega (arith, few_letters)) ∙ ap (λ x. option x 0 (λ e. e.marks)) (edge_full q l hq hl));
    names = λ i hi.
        let g : i < a.propositions = omega (arith, each_length a.propositions (name a)) in
        let e : get_or (header_of a).names i [] ≡ name a i = each_at [] a.propositions (name a) i g in
        let n : length (name a i) ≤ 16 = omega (arith, name_length_lem a v i g, v.name_le i g) in
        name_made (header_of a) full i (omega (arith, v.propositions_le)) (omega (arith, ap length e)) ∙ e;
  }

  pub read_back : read (text a) ≡ gives a
  read_back = text_read ∙ ap gives (equal_values (accepted_valid (text a) text_read) v itself)
