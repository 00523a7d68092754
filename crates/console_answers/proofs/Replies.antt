-- What an answer of the reader says: a refusal, and the offset that the reader carries.
use mathlib.Core.Path.{◌≡◌, refl, sym, ap}
use mathlib.Core.Bool.{true, false}
use Prim.Native.Nat.{ℕ}
use Rattle.refusals.specs.declared.Refusal.{Refusal}
use Rattle.refusals.specs.Refused.{code_of}
use Rattle.std.specs.Prelude.{Result, Ok, Err}
use Rattle.solver_scan.specs.declared.Place.{Place as Spot}
use Rattle.solver_scan.specs.declared.Place.TheVariants.{Start, Comment, AfterS, BeforeWord, Word, AfterWord, AfterToken, BeforeToken, AfterMinus, Digits, Ended, BadForm, BadLiteral}
use Rattle.solver_scan.specs.Scanning.{refused_at}
use Rattle.solver_text.specs.Machine.{answer_at}

abbrev first : Result (Unit {0}) Refusal → ℕ
first (Ok _) = 0
first (Err x) = (code_of x).first

pub accepted_refused : {w : Result (Unit {0}) Refusal} {x : Refusal} {P : Type 0} → w ≡ Ok tt → w ≡ Err x → P
accepted_refused e f = cc

pub offset_refused : (s : Spot) (at : ℕ) (x : Refusal) → answer_at s at ≡ Err x → (refused_at s ≡ true) × ((code_of x).first ≡ at)
unfolding answer_at refused_at
offset_refused Start at x e = accepted_refused refl e
offset_refused Comment at x e = accepted_refused refl e
offset_refused AfterS at x e = accepted_refused refl e
offset_refused BeforeWord at x e = accepted_refused refl e
offset_refused Word at x e = accepted_refused refl e
offset_refused AfterWord at x e = accepted_refused refl e
offset_refused AfterToken at x e = accepted_refused refl e
offset_refused BeforeToken at x e = accepted_refused refl e
offset_refused AfterMinus at x e = accepted_refused refl e
offset_refused Digits at x e = accepted_refused refl e
offset_refused Ended at x e = accepted_refused refl e
offset_refused BadForm at x e = (refl, sym (ap first e))
offset_refused BadLiteral at x e = (refl, sym (ap first e))

pub unrefused : (s : Spot) (at : ℕ) → answer_at s at ≡ Ok tt → refused_at s ≡ false
unfolding answer_at refused_at
unrefused Start at e = refl
unrefused Comment at e = refl
unrefused AfterS at e = refl
unrefused BeforeWord at e = refl
unrefused Word at e = refl
unrefused AfterWord at e = refl
unrefused AfterToken at e = refl
unrefused BeforeToken at e = refl
unrefused AfterMinus at e = refl
unrefused Digits at e = refl
unrefused Ended at e = refl
unrefused BadForm at e = accepted_refused e refl
unrefused BadLiteral at e = accepted_refused e refl
