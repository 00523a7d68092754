-- What holds of a reader wherever a literal ends: it is turned down and the table stays, or the scan goes on and the table has at most one entry more.
use Rattle.std.specs.Prelude.{◌≡◌, true, List, ℕ, ltb, eqb, nat_abs, get_or, set}
use Rattle.std.proofs.Math.Path.{refl}
use Rattle.solver_scan.specs.declared.Scan.{Scan}
use Rattle.solver_scan.specs.declared.Place.{Place}
use Rattle.solver_scan.specs.declared.Place.TheVariants.{Start, Comment, AfterS, BeforeWord, Word, AfterWord, AfterToken, BeforeToken, AfterMinus, Digits, Ended, BadForm, BadLiteral}
use Rattle.solver_scan.specs.SolverText.{literal_of}
use Rattle.solver_scan.specs.Scanning.{refused_at, at_limit, scan_byte}
use Rattle.solver_scan.specs.Cases.{by}
use Rattle.solver_literals.specs.Giving.{mark_of, held, fits, given}
use Rattle.solver_text.specs.declared.Reader.{Reader}
use Rattle.solver_text.specs.Machine.{at_rest, unfitting, ending, in_literal, separated, ends_literal, landed, step}

module _ (last kept : ℕ) where
  pub ending_either : (P : Reader → Type 0) (s next : Scan) (t : List ℕ) → P (at_rest (unfitting s) t) → ((u : List ℕ) → P (at_rest next u)) → P (ending last kept s next t)
  unfolding ending fits given
  ending_either P s next t nay yea =
      let l = literal_of s.minus s.value in
      by (ltb last (nat_abs l)) (λ h. rw h nay)
      (λ h. by (held kept (nat_abs l))
      (λ k. by (eqb (get_or t (nat_abs l) 0) 0) (λ z. rw (h, k, z) (yea (set t (nat_abs l) (mark_of l)))) (λ z. rw (h, k, z) nay))
      (λ k. rw (h, k) (yea t)))

  -- byte 4,294,967,295 ends no literal
  limit_lands : (p : Place) (s : Scan) (t : List ℕ) → landed p last kept s (at_limit p s) t ≡ at_rest (at_limit p s) t
  unfolding landed ends_literal in_literal separated at_limit refused_at
  limit_lands Start s t = refl
  limit_lands Comment s t = refl
  limit_lands AfterS s t = refl
  limit_lands BeforeWord s t = refl
  limit_lands Word s t = refl
  limit_lands AfterWord s t = refl
  limit_lands AfterToken s t = refl
  limit_lands BeforeToken s t = refl
  limit_lands AfterMinus s t = refl
  limit_lands Digits s t = refl
  limit_lands Ended s t = refl
  limit_lands BadForm s t = refl
  limit_lands BadLiteral s t = refl

  pub limit_step : (b : ℕ) (s : Scan) (t : List ℕ) → eqb s.at 4294967295 ≡ true → step last kept s t b ≡ at_rest (at_limit s.place s) t
  unfolding step scan_byte
  limit_step b s t e = rw e (limit_lands s.place s t)
