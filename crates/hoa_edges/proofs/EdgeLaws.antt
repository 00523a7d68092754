-- Laws of edges: label, destination, marks.
use mathlib.Core.Path.{◌≡◌, refl, sym, ap, ◌∙◌, subst}
use mathlib.Core.List.{List}
use Prim.Native.Nat.{ℕ, ◌≤◌, ◌<◌}
use native.Mathlib.Omega.{arith}
use borrow.Author.Tests.{lt-ltb}
use lib.ListN.{length}
use Rattle.std.specs.Prelude.{Some, Result, Ok, Err}
use Rattle.refusals.specs.declared.Refusal.{Refusal}
use Rattle.hoa_text.specs.Tokens.{left}
use Rattle.hoa_text.specs.Grammar.{refuses, then}
use Rattle.hoa_text.specs.Formulas.{holds, label}
use Rattle.hoa_text.specs.Header.{Header}
use Rattle.hoa_text.specs.Body.{Current, Table, unlabelled, label_given, edge}
use Rattle.hoa_tokens.specs.declared.Token.TheVariants.{Number}
use Rattle.hoa_tokens.specs.Answers.{Reads}
use Rattle.hoa_offsets.specs.Behind.{Behind}
use Rattle.hoa_offsets.specs.BehindLaws.{present, behind_it}
use Rattle.hoa_formulas.specs.Answers.{Read}
use Rattle.hoa_edges.specs.declared.EdgeRead.{EdgeRead}
use Rattle.hoa_edges.specs.Answers.{EdgeLies, EdgeMeans, EdgeAnswer, UnlabelledAnswer}
use Rattle.hoa_edges.specs.Parts.{LabelledAnswer, MarkedAnswer}

-- an edge that lies behind i, read from b on
later : (s : List ℕ) (i b n : ℕ) → i ≤ b → (r : Result EdgeRead Refusal) → EdgeLies s b n r → EdgeLies s i n r
later s i b n l (Ok r) z = record { below = z.below; from = omega (arith, z.from); to = z.to }
later s i b n l (Err r) z = tt

-- ---- the destination

module _ (s : List ℕ) (i n m set : ℕ) (few : m ≤ 4) where
  module _ (o d x : ℕ) (k : Reads s i (Number o d x)) where
    pub arrived : d < n → (r : Result EdgeRead Refusal) → MarkedAnswer s x m set d r → UnlabelledAnswer s i n m set r
    arrived l r y = record {
      lies = y.lies i n (omega (arith, k.lies.from, k.lies.longer)) l;
      means = λ v h t c f e z g.
          subst (λ w. EdgeMeans h t c s w r) (sym (ap (unlabelled h t c f) k.is ∙ rw (lt-ltb d h.states (omega arith)))) (y.means h t c f z g);
      outside = λ g. absurd (omega arith);
    }

-- ---- behind the label

module _ (s : List ℕ) (i n m set : ℕ) where
  pub closed : (e : ℕ) → Behind s i 93 (Some e) → (r : Result EdgeRead Refusal) → UnlabelledAnswer s e n m set r → LabelledAnswer s i n m set r
  closed e b r y = record {
    lies = later s i e n (omega (arith, b.from)) r y.lies;
    means = λ h t c f v k z g.
        subst (λ w. EdgeMeans h t c s w r)
        (sym (rw (present "]" 93 refl s i e b) (ap (unlabelled h t c (holds f)) (behind_it "]" 93 refl s i e b))))
        (y.means v h t c (holds f) k z g);
  }

-- ---- the label

module _ (s : List ℕ) (i n k m : ℕ) where
  labelled : (h : Header) (t : Table) (c : Current) → length h.names ≡ k → edge h t c (left s i) ≡ then (label k (left s i)) (label_given h t c)
  labelled h t c e = ap (λ k. then (label k (left s i)) (label_given h t c)) e

  module _ (few : m ≤ 4) where
    pub label_refused : (r : Refusal) → label k (left s i) ≡ refuses r → EdgeAnswer s i n k m (Err r)
    label_refused r x = record {
      lies = tt;
      means = λ v h t c n e z. labelled h t c e ∙ ap (λ y. then y (label_given h t c)) x;
      outside = λ g. absurd (omega arith);
    }

    pub label_read : (set b : ℕ) → Read s i (label k (left s i)) set b → (r : Result EdgeRead Refusal) → LabelledAnswer s b n m set r → EdgeAnswer s i n k m r
    label_read set b x r y = record {
      lies = later s i b n (omega (arith, x.from)) r y.lies;
      means = λ v h t c n e z. subst (λ w. EdgeMeans h t c s w r) (sym (is h t c e)) (y.means h t c x.formula v n z x.members);
      outside = λ g. absurd (omega arith);
    }
      where
        is : (h : Header) (t : Table) (c : Current) → length h.names ≡ k → edge h t c (left s i) ≡ label_given h t c x.formula (left s b)
        is h t c e = labelled h t c e ∙ ap (λ y. then y (label_given h t c)) x.is
