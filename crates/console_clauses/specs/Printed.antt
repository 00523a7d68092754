-- WHAT IS PRINTED IS THE CLAUSE FILE: where the program says that it is whole, the bytes that were handed over are the file's text, and otherwise its beginning; of a header that
-- was not taken, nothing follows.
use Rattle.std.specs.Prelude.{◌≡◌, refl, Bool, true, false, ◌||◌, ℕ, length, Option, Some, None, Result, Ok, Err, is_none}
use Rattle.std.proofs.Common.{sym, ap, ◌∙◌}
use Rattle.std.proofs.lemmas.Bool.{false≢true}
use mathlib.Core.List.{List, [], ◌∷◌, ◌++◌, append_assoc, append-nil, Memᴰ}
use Rattle.automaton.specs.declared.Automaton.{Automaton}
use Rattle.automaton.specs.Value.{Valid}
use Rattle.refusals.specs.declared.Refusal.{Refusal}
use Rattle.clause_sizes.specs.declared.Target.{Target}
use Rattle.clause_sizes.specs.Targets.{Proper}
use Rattle.clause_step.specs.declared.Handed.{Handed}
use Rattle.clause_step.specs.Step.{Ended}
use Rattle.clause_text.specs.Batches.{TextCall, all_bytes, LinesOut}
use Rattle.clause_text.specs.LinesOut.{lines_out}
use Rattle.console_clauses.specs.declared.Printout.{Printout}
use Rattle.console_clauses.specs.Prints.{header_text, file_text, ended, some_call, bytes_of, whole, headed, HandsLines, HandsFile}

none_is : (o : Option ℕ) → is_none o ≡ true → o ≡ None
none_is (Some k) e = absurd (false≢true e)
none_is None e = refl

ended_is : (r : Result Handed Refusal) → ended r ≡ true → Ended r
ended_is (Ok h) e = none_is h.written e
ended_is (Err f) e = absurd (false≢true e)

-- the call that said so
the_ended : (cs : List TextCall) → some_call ended cs ≡ true → (c : TextCall) × Memᴰ c cs × Ended c.result
the_ended [] e = absurd (false≢true e)
the_ended (c ∷ cs) e = go (ended c.result) refl e (λ f. the_ended cs f)
  where
    go : (b : Bool) → ended c.result ≡ b → (b || some_call ended cs) ≡ true
        → (some_call ended cs ≡ true → (d : TextCall) × Memᴰ d cs × Ended d.result) → (d : TextCall) × Memᴰ d (c ∷ cs) × Ended d.result
    go true f e later = (c, Memᴰ.head refl, ended_is c.result f)
    go false f e later = let (d, j, q) = later e in (d, Memᴰ.tail j, q)

module _ {a : Automaton} {τ : Target} {r : Printout} (v : Valid a) (z : Proper τ) (h : HandsFile a τ r) where
  abbrev handed : HandsLines a τ r
  handed = h.file v z

  lines : LinesOut a τ handed.calls
  lines = lines_out v z handed.calls handed.called

  -- the bytes handed over, and what of the file is left
  pub begins : (left : List ℕ) × ((header_text a τ ++ all_bytes (h.file v z).calls) ++ left ≡ file_text a τ)
  begins = (lines.left, append_assoc (header_text a τ) (all_bytes handed.calls) lines.left ∙ ap (λ t. header_text a τ ++ t) lines.begins)

  -- a header that was not taken: its bytes, and no more
  pub header_only : headed r ≡ false → (bytes_of r ≡ length (header_text a τ)) × (whole r ≡ false)
  header_only e =
      let none = handed.stops e in
      (handed.bytes ∙ ap (λ cs. length (header_text a τ ++ all_bytes cs)) none ∙ ap length (append-nil (header_text a τ)), handed.whole_is ∙ ap (some_call ended) none)

  pub whole_file : whole r ≡ true → (header_text a τ ++ all_bytes (h.file v z).calls ≡ file_text a τ) × (bytes_of r ≡ length (file_text a τ))
  whole_file w =
      let (c, j, q) = the_ended handed.calls (sym handed.whole_is ∙ w) in
      let e = ap (λ t. header_text a τ ++ t) (lines.whole c j q) in
      (e, handed.bytes ∙ ap length e)
