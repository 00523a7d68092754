-- The answer on all input; and an answer about some words is one about the same words described otherwise.
use Rattle.std.specs.Prelude.{refl, List, ℕ, length}
use Rattle.compare_shortest.specs.declared.Verdict.{Verdict}
use Rattle.compare_shortest.specs.declared.Verdict.TheVariants.{Same, Differ, Unfit}
use Rattle.compare_shortest.specs.Answer.{Within, Answer, Answered}

module _ {Fits : Type 0} {Q : List ℕ → List ℕ → Type 0} {prefix cycle : List ℕ} where
  pub answered_unfit : ¬ Fits → Answered Fits Q prefix prefix cycle cycle Unfit
  answered_unfit n = record { unfit = λ _. (refl, refl, refl); searched = λ f. absurd (n f) }

  pub answered_fit : {written-prefix written-cycle : List ℕ} {r : Verdict} → Fits
      → Answer (Within (length prefix) (length cycle) Q) prefix written-prefix cycle written-cycle r → Answered Fits Q prefix written-prefix cycle written-cycle r
  answered_fit f a = record { unfit = λ n. absurd (n f); searched = λ _. a }

module _ {Q R : List ℕ → List ℕ → Type 0} (prefix written-prefix cycle written-cycle : List ℕ) where
  pub answer_same : ((x y : List ℕ) → Q x y → R x y) → ((x y : List ℕ) → R x y → Q x y) → (r : Verdict)
      → Answer Q prefix written-prefix cycle written-cycle r → Answer R prefix written-prefix cycle written-cycle r
  answer_same to from Same (none, ep, ec) = (λ u v w. none u v (from u v w), ep, ec)
  answer_same to from (Differ p l) F = record {
    x = F.x;
    y = F.y;
    prefix_length = F.prefix_length;
    loop_length = F.loop_length;
    prefix_written = F.prefix_written;
    loop_written = F.loop_written;
    shows = to F.x F.y F.shows;
    best = λ u v w. F.best u v (from u v w);
  }
  answer_same to from Unfit none = none

pub within_same : {p l : ℕ} {Q R : List ℕ → List ℕ → Type 0} → ((x y : List ℕ) → Q x y → R x y) → (x y : List ℕ) → Within p l Q x y → Within p l R x y
within_same to x y W = record { shows = to x y W.shows; prefix_fits = W.prefix_fits; loop_fits = W.loop_fits }
