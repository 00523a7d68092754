-- "REFUSED SOLVER TEXT STAYS REFUSED": no byte and no end of the text changes the state, and the answer tells it.
use Rattle.std.specs.Prelude.{◌≡◌, ◌⊎◌, true, false, cond, List, [], ◌∷◌, ℕ, eqb, Ok}
use Rattle.std.proofs.Math.Path.{refl}
use Rattle.std.proofs.Common.{sym, ap, subst, ◌∙◌, inl, inr, ⊎_elim, true≢false}
use Rattle.std.proofs.lemmas.Bool.{false≢true}
use Rattle.solver_text.specs.declared.Reader.{Reader}
use Rattle.solver_scan.specs.declared.Scan.{Scan}
use Rattle.solver_scan.specs.declared.Place.{Place}
use Rattle.solver_scan.specs.declared.Place.TheVariants.{Start, Comment, AfterS, BeforeWord, Word, AfterWord, AfterToken, BeforeToken, AfterMinus, Digits, Ended, BadForm, BadLiteral}
use Rattle.solver_scan.specs.Scanning.{place_step, refused_at, at_limit, scan_byte, scan_end_at}
use Rattle.solver_text.specs.Machine.{at_rest, in_literal, ends_literal, landed, step, run, end_at, end, answer_at}
use Rattle.solver_scan.specs.Cases.{either_way}

-- a place where the text is refused is one of two
pub refused_place : (p : Place) → refused_at p ≡ true → (p ≡ BadForm) ⊎ (p ≡ BadLiteral)
unfolding refused_at
refused_place Start h = absurd (false≢true h)
refused_place Comment h = absurd (false≢true h)
refused_place AfterS h = absurd (false≢true h)
refused_place BeforeWord h = absurd (false≢true h)
refused_place Word h = absurd (false≢true h)
refused_place AfterWord h = absurd (false≢true h)
refused_place AfterToken h = absurd (false≢true h)
refused_place BeforeToken h = absurd (false≢true h)
refused_place AfterMinus h = absurd (false≢true h)
refused_place Digits h = absurd (false≢true h)
refused_place Ended h = absurd (false≢true h)
refused_place BadForm h = inl refl
refused_place BadLiteral h = inr refl

-- at every other nothing is turned down
pub accepted_place : (p : Place) (at : ℕ) → refused_at p ≡ false → answer_at p at ≡ Ok tt
unfolding refused_at answer_at
accepted_place Start at h = refl
accepted_place Comment at h = refl
accepted_place AfterS at h = refl
accepted_place BeforeWord at h = refl
accepted_place Word at h = refl
accepted_place AfterWord at h = refl
accepted_place AfterToken at h = refl
accepted_place BeforeToken at h = refl
accepted_place AfterMinus at h = refl
accepted_place Digits at h = refl
accepted_place Ended at h = refl
accepted_place BadForm at h = absurd (true≢false h)
accepted_place BadLiteral at h = absurd (true≢false h)

-- what holds at both places
pub at_both : (r : Reader) → refused_at r.scan.place ≡ true → (P : Place → Type 0) → P BadForm → P BadLiteral → P r.scan.place
at_both r h P f l = ⊎_elim (λ e. subst P (sym e) f) (λ e. subst P (sym e) l) (refused_place r.scan.place h)

module _ (last kept : ℕ) (r : Reader) (h : refused_at r.scan.place ≡ true) where
  pub refused_byte : (b : ℕ) → step last kept r.scan r.named b ≡ r
  unfolding step landed ends_literal in_literal scan_byte at_limit place_step refused_at
  refused_byte b = at_both r h Stays (either_way Same (eqb r.scan.at 4294967295) refl refl) (either_way Same (eqb r.scan.at 4294967295) refl refl)
    where
      Same : Scan → Type 0
      Same n = at_rest n r.named ≡ r

      Stays : Place → Type 0
      Stays p = landed p last kept r.scan (cond (eqb r.scan.at 4294967295) (at_limit p r.scan) (place_step p r.scan b)) r.named ≡ r

  pub refused_run : (u : List ℕ) → run last kept r u ≡ r
  refused_run [] = refl
  refused_run (b ∷ u) = ap (λ x. run last kept x u) (refused_byte b) ∙ refused_run u

  pub refused_end : end last kept r ≡ r
  unfolding end_at in_literal scan_end_at
  refused_end = at_both r h (λ p. end_at p last kept r.scan r.named ≡ r) refl refl
