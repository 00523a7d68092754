-- The product of two automata: they read the same word side by side. Its nodes are pairs of states, numbered below the product of the counts.
use Rattle.std.specs.Prelude.{◌≡◌, refl, List, [], ◌∷◌, Bool, ℕ, ◌+◌, ◌*◌, ◌/◌, ◌%◌, ◌<◌}
use Rattle.std.proofs.Common.{sym, ap, ◌∙◌}
use Rattle.std.proofs.Math.Arith.{digits_lt, digits_div, digits_mod}
use Rattle.meaning.specs.Walk.{run, Walk, meets}
use Rattle.meaning.specs.ShortWalk.{Numbered}
use Rattle.meaning.specs.Automata.{Aut, Word, state}
use Rattle.meaning.specs.Agreement.{Comparable, Over}
use Rattle.meaning.specs.Run.{run_lt, state_lt}

abbrev pub Node : Type 0
Node = ℕ × ℕ

abbrev pub both : Aut → Aut → Node → ℕ → Node
both A B n l = (A.step n.0 l, B.step n.1 l)

pub run_both : (A B : Aut) (n : Node) (w : List ℕ) → run (both A B) n w ≡ (run A.step n.0 w, run B.step n.1 w)
run_both A B n [] = refl
run_both A B n (l ∷ w) = run_both A B (both A B n l) w

pub meets_fst : (A B : Aut) (m : ℕ → ℕ → Bool) (n : Node) (w : List ℕ) → meets (both A B) (λ k l. m k.0 l) n w ≡ meets A.step m n.0 w
meets_fst A B m n [] = refl
meets_fst A B m n (l ∷ w) = rw (meets_fst A B m (both A B n l) w)

pub meets_snd : (A B : Aut) (m : ℕ → ℕ → Bool) (n : Node) (w : List ℕ) → meets (both A B) (λ k l. m k.1 l) n w ≡ meets B.step m n.1 w
meets_snd A B m n [] = refl
meets_snd A B m n (l ∷ w) = rw (meets_snd A B m (both A B n l) w)

-- a pair of states is numbered as two digits
module _ {A B : Aut} (C : Comparable A B) where
  pub numbered : (E : Node → ℕ → Type 0) → ((n : Node) (l : ℕ) → E n l → l < A.letters) → Numbered (both A B) E (A.states * B.states)
  numbered E letter = record {
    Ok = λ n. (n.0 < A.states) × (n.1 < B.states);
    code = λ n. n.0 * B.states + n.1;
    closed = λ n l o e. (
      C.formed_A.step_lt n.0 l o.0 (letter n l e),
      C.formed_B.step_lt n.1 l o.1 (rw C.same_letters at (letter n l e)),
    );
    small = λ n o. digits_lt o.0 o.1;
    same = λ m n om on e. λ i. (
      (sym (digits_div m.0 om.1) ∙ ap (λ k. k / B.states) e ∙ digits_div n.0 on.1) i,
      (sym (digits_mod m.0 om.1) ∙ ap (λ k. k % B.states) e ∙ digits_mod n.0 on.1) i,
    );
  }

  abbrev pub start : Node
  start = (A.start, B.start)

  pub start_ok : (E : Node → ℕ → Type 0) (letter : (n : Node) (l : ℕ) → E n l → l < A.letters) → (numbered E letter).Ok start
  unfolding numbered
  start_ok E letter = (C.formed_A.start_lt, C.formed_B.start_lt)

  pub after_ok : (E : Node → ℕ → Type 0) (letter : (n : Node) (l : ℕ) → E n l → l < A.letters) (x : List ℕ) → Over A.letters x
      → (numbered E letter).Ok (run A.step A.start x, run B.step B.start x)
  unfolding numbered
  after_ok E letter x o = (run_lt C.formed_A A.start x C.formed_A.start_lt o, run_lt C.formed_B B.start x C.formed_B.start_lt (rw C.same_letters at o))

  pub state_ok : (E : Node → ℕ → Type 0) (letter : (n : Node) (l : ℕ) → E n l → l < A.letters) (w : Word) → ((i : ℕ) → w i < A.letters) → (i : ℕ)
      → (numbered E letter).Ok (state A w i, state B w i)
  unfolding numbered
  state_ok E letter w h i = (state_lt C.formed_A w h i, state_lt C.formed_B w (λ k. rw C.same_letters at (h k)) i)

pub over_walk : {Q : Type 0} (σ : Q → ℕ → Q) (k : ℕ) (q : Q) (w : List ℕ) → Over k w → Walk σ (λ p l. l < k) q w
over_walk σ k q [] o = tt
over_walk σ k q (l ∷ w) o = (o.0, over_walk σ k (σ q l) w o.1)

pub walk_over : {Q : Type 0} (σ : Q → ℕ → Q) (E : Q → ℕ → Type 0) (k : ℕ) → ((p : Q) (l : ℕ) → E p l → l < k) → (q : Q) (w : List ℕ) → Walk σ E q w → Over k w
walk_over σ E k f q [] a = tt
walk_over σ E k f q (l ∷ w) a = (f q l a.0, walk_over σ E k f (σ q l) w a.1)
