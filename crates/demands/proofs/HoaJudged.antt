-- The reader and the writer of HOA text are judged by their conditions.
use Rattle.std.specs.Prelude.{◌≡◌, refl, Bool, cond, List, ℕ, leb, length}
use Rattle.std.specs.Prelude.{Result as Reading, Ok}
use Rattle.std.proofs.Common.{sym, ap, ◌∙◌, subst, inl, inr, arith, le-leb}
use Rattle.std.proofs.Math.Option.{some}
use Rattle.std.proofs.Math.Decide.{dec_le}
use Rattle.std.proofs.lemmas.Bool.{lt-leb}
use Rattle.automaton.specs.declared.Automaton.{Automaton}
use Rattle.refusals.specs.declared.Code.{Code}
use Rattle.refusals.specs.declared.Refusal.{Refusal}
use Rattle.refusals.specs.declared.Refusal.TheVariants.{Size}
use Rattle.automaton.specs.Value.{Valid}
use Rattle.hoa_text.specs.Accepted.{accepted_valid}
use Rattle.hoa_text.specs.Grammar.{Result, gives, refuses}
use Rattle.hoa_text.specs.Reading.{reading, text_limit, read}
use Rattle.hoa_text.specs.Tokens.{tokens}
use Rattle.hoa_read.specs.Told.{told, fault as hoa-said, returned as reader-said}
use Rattle.hoa_read.proofs.ReadLaws.{returned_told}
use Rattle.hoa_write.specs.Answer.{hoa_room, Answered, returned as writer-said}
use Rattle.demands.specs.Judgement.{TurnedDown, Judged}
use Rattle.demands.specs.Conditions.{to_write, to_read}
use Rattle.demands.proofs.Decisions.{some_none, fault_decided, fault_is, judged, valid_decided}

text_judged : (s : List ℕ) → Judged (to_read s) (hoa-said (read s)) (Unit {0})
unfolding read
text_judged s =
    judged (dec_le (length s) text_limit, λ h. (fault_decided (hoa-said (reading (tokens s))), λ e. tt)) refused (λ (h, (e, t)). by_length (le-leb (length s) text_limit h) ∙ e)
  where
    by_length : {b : Bool} → leb (length s) text_limit ≡ b → hoa-said (read s) ≡ hoa-said (cond b (reading (tokens s)) (refuses (Size text_limit)))
    by_length e = ap (λ b. hoa-said (cond b (reading (tokens s)) (refuses (Size text_limit)))) e

    refused : (c : Code) → TurnedDown (to_read s) c → (hoa-said (read s) ≡ some c) × Unit {0}
    refused c (inl (h, e)) = (by_length (lt-leb (length s) text_limit (omega arith)) ∙ ap some (sym e), tt)
    refused c (inr (h, inl (f, e))) = (by_length (le-leb (length s) text_limit h) ∙ fault_is (hoa-said (reading (tokens s))) c f e, tt)
    refused c (inr (h, inr (f, t))) = absurd t

pub reader_judged : (s : List ℕ) (r : Reading Automaton Refusal) → r ≡ told (read s) → Judged (to_read s) (reader-said r) (Unit {0})
reader_judged s r e = subst (λ x. Judged (to_read s) x (Unit {0})) (sym (returned_told (read s)) ∙ ap reader-said (sym e)) (text_judged s)

pub reader_valid : (s : List ℕ) (r : Reading Automaton Refusal) (a : Automaton) → r ≡ told (read s) → r ≡ Ok a → Valid a
reader_valid s r a e q = go (read s) refl
  where
    go : (x : Result Automaton) → read s ≡ x → Valid a
    go (gives b) f =
        let h = sym (ap told f) ∙ sym e ∙ q in
        let g : b ≡ a = cc in
        subst Valid g (accepted_valid s f)
    go (refuses x) f = some_none (sym (ap reader-said (e ∙ ap told f)) ∙ ap reader-said q)

pub writer_judged : (a : Automaton) (out after : List ℕ) (answer : Reading ℕ Refusal) → Answered a out after answer
    → Judged (to_write a (length out)) (writer-said answer) (after ≡ out)
writer_judged a out after answer w =
    judged (dec_le hoa_room (length out), λ h. (valid_decided a, λ v. tt)) refused (λ (h, (v, t)). (w.written h v).2)
  where
    refused : (c : Code) → TurnedDown (to_write a (length out)) c → (writer-said answer ≡ some c) × (after ≡ out)
    refused c (inl (h, e)) = let (s, k, n) = w.short (omega arith) in (n ∙ ap some (sym e), k)
    refused c (inr (h, inl (v, e))) = let (s, k, n) = w.outside h v in (n ∙ ap some (sym e), k)
    refused c (inr (h, inr (v, t))) = absurd t
