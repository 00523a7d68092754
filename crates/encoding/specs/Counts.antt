-- HOW MANY CLAUSES there are: groups 3 and 4 by the tests that keep a clause, and document 01's formula where all path variables are kept.
use Rattle.std.specs.Prelude.{◌≡◌, true, ◌&&◌, length}
use Rattle.std.proofs.Math.Path.{refl, ap}
use Rattle.std.proofs.Common.{ap₂, ◌∙◌, arith}
use Prim.Native.Nat.{ℕ, suc, ◌+◌, ◌*◌, ◌^◌, ◌<◌}
use Rattle.std.proofs.Math.ListN.{length-append}
use Rattle.meaning.specs.BitSet.{bit}
use Rattle.meaning.specs.Counting.{total}
use Rattle.encoding.specs.Variables.{Task, Var, sharing}
use Rattle.encoding.specs.Clauses.{exactly_one, group₁, group₂, group₃, group₄, file}
use Rattle.encoding.specs.Loops.{each_total, each_length, only_length}
use Rattle.meaning.specs.Totals.{total_same, total_times, total_const}

-- where all are kept, all u, v and l
pub sharing_all : (T : Task) → ((u v : ℕ) → T.kept u v ≡ true) → sharing T ≡ T.reference.states * T.reference.states * T.reference.letters
sharing_all T all-kept =
    let r = T.reference.states in
    let L = T.reference.letters in
    total_same r _ (λ u. r * (L * 1)) (λ u hu. total_same r _ (λ v. L * 1)
    (λ v hv. total_same L _ (λ l. 1) (λ l hl. ap₂ (λ a b. bit (a && b)) (all-kept u v) (all-kept u (T.reference.step v l))) ∙ total_const L 1) ∙ total_const r (L * 1))
    ∙ total_const r (r * (L * 1)) ∙ omega arith

module _ (T : Task) (num : Var → ℕ) where
  abbrev n : ℕ
  n = T.n

  abbrev L : ℕ
  L = T.reference.letters

  abbrev r : ℕ
  r = T.reference.states

  abbrev M : ℕ
  M = 2 ^ T.m

  abbrev S : ℕ
  S = 2 ^ T.reference.sets

  length₁ : length (group₁ T num) ≡ n * (L * 1)
  unfolding group₁
  length₁ = each_length n _ _ λ q hq. each_length L _ _ λ l hl. refl

  length₂ : length (group₂ T num) ≡ suc (n * (n * (r * (L * 1))))
  unfolding group₂
  length₂ = ap suc (each_length n _ _ λ q hq. each_length n _ _ λ p hp. each_length r _ _ λ u hu. each_length L _ _ λ l hl. refl)

  length₃ : length (group₃ T num) ≡ n * (n * (n * total r (λ u. total r (λ v. total L (λ l. M * (S * (M * bit (T.kept u v && T.kept u (T.reference.step v l)))))))))
  unfolding group₃
  length₃ =
      each_length n _ _ λ q hq. each_length n _ _ λ p hp. each_length n _ _ λ t ht. each_total r _ _ λ u hu. each_total r _ _ λ v hv. each_total L _ _ λ l hl.
      each_length M _ _ λ I hI. each_length S _ _ λ J hJ. each_length M _ _ λ K hK. only_length _ _

  -- the factor is the same for all u, v and l
  length₃_times : length (group₃ T num) ≡ n * (n * (n * (M * S * M * sharing T)))
  length₃_times =
      length₃
      ∙ ap (λ k. n * (n * (n * k)))
      (total_same r _ _ (λ u hu. total_same r _ _ (λ v hv. total_same L _ (λ l. M * S * M * bit (T.kept u v && T.kept u (T.reference.step v l))) (λ l hl. omega arith)
      ∙ total_times L (M * S * M) _) ∙ total_times r (M * S * M) _) ∙ total_times r (M * S * M) _)

  pub length₄ : length (group₄ T num)
      ≡ n * (n * total r (λ v. total L (λ l. total M (λ I. total S (λ J. total M (λ K. bit (T.kept (T.reference.step v l) v && exactly_one T v l I J K)))))))
  unfolding group₄
  length₄ =
      each_length n _ _ λ q hq. each_length n _ _ λ p hp. each_total r _ _ λ v hv. each_total L _ _ λ l hl.
      each_total M _ _ λ I hI. each_total S _ _ λ J hJ. each_total M _ _ λ K hK. only_length _ _

  -- "C is counted anew" (document 02, E6)
  pub length_file : length (file T num) ≡ n * L + (1 + n * n * r * L) + n * n * n * sharing T * M * S * M + length (group₄ T num)
  unfolding file
  length_file = simp length-append (omega (arith, length₁, length₂, length₃_times))
