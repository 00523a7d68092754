-- DEFINITIONS, 2 of 3: the clause file, what satisfies it, and the table that is decoded. Document 01, "Clauses, in this order" and "The
-- words of demand 3", whose words and letters stand in quotes.
use Rattle.std.specs.Prelude.{◌≡◌, Bool, true, false, not, ◌&&◌, cond, ℕ, zero, suc, ◌^◌, ◌<◌, ℤ, pos, negsuc, neg_ℤ}
use Rattle.std.specs.Bool.{xor}
use mathlib.Core.List.{List, [], ◌∷◌, ◌++◌, Memᴰ}
use Rattle.std.specs.Int.Bits.{bit_or}
use Rattle.meaning.specs.Automata.{Aut, WellFormed}
use Rattle.meaning.specs.Agreement.{Agree}
use Rattle.meaning.specs.BitSet.{has, set_of}
use Rattle.encoding.specs.Variables.{Task, Var, step, mark, path}

-- ---- loops

-- "Indices run in the order named, the last fastest": f 0, then f 1, and so on below n
unfoldable pub each : {A : Type 0} → ℕ → (ℕ → List A) → List A
each zero f = []
each (suc n) f = each n f ++ f n

-- "only where": a where the test passes, and else nothing
unfoldable pub only : {A : Type 0} → Bool → A → List A
only true a = a ∷ []
only false a = []

-- ---- sets of marks, "bit i for set i"

-- the marks of the transition from v by l
abbrev pub marks_on : Aut → ℕ → ℕ → ℕ
marks_on A v l = set_of A.sets (A.marks v l)

infixl 65 ◌∪◌
abbrev pub ◌∪◌ : ℕ → ℕ → ℕ
I ∪ K = bit_or I K

-- "Group 4 keeps a clause where the two acceptances disagree on I∪K and J∪F": exactly one of them says yes. F are the marks of the reference's
-- transition from v by l.
unfoldable pub exactly_one : Task → (v l I J K : ℕ) → Bool
exactly_one T v l I J K =
    let F = marks_on T.reference v l in
    xor (T.accept (has (I ∪ K))) (T.reference.accept (has (J ∪ F)))

-- ---- "Clauses, in this order". A clause is the list of its literals; q, p and t are candidate states, u, v and w reference states.

module _ (T : Task) (num : Var → ℕ) where
  abbrev n : ℕ
  n = T.n

  abbrev m : ℕ
  m = T.m

  abbrev R : Aut
  R = T.reference

  abbrev r : ℕ
  r = R.states

  abbrev s : ℕ
  s = R.sets

  abbrev L : ℕ
  L = R.letters

  -- "A literal is the variable, or its negative."
  abbrev pub lit : Var → ℤ
  lit x = pos (num x)

  abbrev pub neg : Var → ℤ
  neg x = neg_ℤ (pos (num x))

  -- "for each i ascending mark(p,l,i,t), negative if i is in K": all of them are false where the marks are just those of K
  unfoldable pub not_marks : (p l t K : ℕ) → List ℤ
  not_marks p l t K = each m λ i. cond (has K i) (neg (mark p l i t)) (lit (mark p l i t)) ∷ []

  -- 1. "By q, l: the step(q,l,p), p ascending."
  unfoldable pub totality : (q l : ℕ) → List ℤ
  totality q l = each n λ p. lit (step q l p) ∷ []

  unfoldable pub group₁ : List (List ℤ)
  group₁ = each n λ q. each L λ l. totality q l ∷ []

  -- 2. "path(0,start,0,start,0,0) alone. Then by q, p, u, l: -path(q,u,q,u,0,0), -step(q,l,p), path(p,w,p,w,0,0)."
  -- "w is the reference's step from the named state by l, F its marks."
  unfoldable pub initial : List ℤ
  initial = lit (path 0 R.start 0 R.start 0 0) ∷ []

  unfoldable pub successor : (q p u l : ℕ) → List ℤ
  successor q p u l =
      let w = R.step u l in
      neg (path q u q u 0 0) ∷ neg (step q l p) ∷ lit (path p w p w 0 0) ∷ []

  unfoldable pub group₂ : List (List ℤ)
  group₂ = initial ∷ (each n λ q. each n λ p. each r λ u. each L λ l. successor q p u l ∷ [])

  -- 3. "By q, p, t, u, v, l, I, J, K: -path(q,u,p,v,I,J), -step(p,l,t), [the marks], then path(q,u,t,w,I∪K,J∪F), w from v."
  -- A clause that names a path variable which is not kept is left out; document 01 keeps all.
  unfoldable pub extension : (q p t u v l I J K : ℕ) → List ℤ
  extension q p t u v l I J K =
      let w = R.step v l in
      let F = marks_on R v l in
      neg (path q u p v I J) ∷ neg (step p l t) ∷ not_marks p l t K ++ (lit (path q u t w (I ∪ K) (J ∪ F)) ∷ [])

  unfoldable pub group₃ : List (List ℤ)
  group₃ =
      each n λ q. each n λ p. each n λ t. each r λ u. each r λ v. each L λ l. each (2 ^ m) λ I. each (2 ^ s) λ J. each (2 ^ m) λ K.
      only (T.kept u v && T.kept u (R.step v l)) (extension q p t u v l I J K)

  -- 4. "By q, p, v, l, I, J, K", only "where the two acceptances disagree on I∪K and J∪F": "-path(q,w,p,v,I,J), -step(p,l,q), the marks as in 3
  -- with t = q." Here too only what is kept.
  unfoldable pub closure : (q p v l I J K : ℕ) → List ℤ
  closure q p v l I J K =
      let w = R.step v l in
      neg (path q w p v I J) ∷ neg (step p l q) ∷ not_marks p l q K

  unfoldable pub group₄ : List (List ℤ)
  group₄ =
      each n λ q. each n λ p. each r λ v. each L λ l. each (2 ^ m) λ I. each (2 ^ s) λ J. each (2 ^ m) λ K.
      only (T.kept (R.step v l) v && exactly_one T v l I J K) (closure q p v l I J K)

  -- "Clauses with a literal and its negative stay in."
  unfoldable pub file : List (List ℤ)
  file = group₁ ++ (group₂ ++ (group₃ ++ group₄))

-- ---- "The words of demand 3"

-- "An assignment says yes or no to each variable from 1 to V, the last." What it says of other numbers does not count.
abbrev pub Assignment : Type 0
Assignment = ℕ → Bool

-- yes to the variable, or no to the one whose negative the literal is
abbrev pub holds : Assignment → ℤ → Bool
holds ν (pos k) = ν k
holds ν (negsuc k) = not (ν (suc k))

-- "a literal that holds"
abbrev pub Satisfied : Assignment → List ℤ → Type 0
Satisfied ν c = (x : ℤ) × Memᴰ x c × (holds ν x ≡ true)

-- "It satisfies the file if each of the C clauses has a literal that holds"
abbrev pub Satisfies : Assignment → List (List ℤ) → Type 0
Satisfies ν cs = (c : List ℤ) → Memᴰ c cs → Satisfied ν c

-- the lowest number below n that passes the test, and n where there is none
abbrev pub lowest : ℕ → (ℕ → Bool) → ℕ
lowest zero f = zero
lowest (suc n) f = elim (f zero) [ true ↦ zero | false ↦ suc (lowest n (λ i. f (suc i))) ]

-- "Decoding takes for each state and letter the lowest p whose step is true, with its marks."
module _ (T : Task) (num : Var → ℕ) (ν : Assignment) where
  unfoldable pub destination : (q l : ℕ) → ℕ
  destination q l = lowest T.n (λ p. ν (num (step q l p)))

  -- "the table, start 0, that decoding .. takes from it"
  abbrev pub decoded : Aut
  decoded = record {
    states = T.n;
    letters = T.reference.letters;
    sets = T.m;
    start = 0;
    step = destination;
    marks = λ q l i. ν (num (mark q l i (destination q l)));
    accept = T.accept;
  }

-- an n-state m-set automaton with start 0, the reference's letters and the candidate's acceptance
pub record Candidate (T : Task) (C : Aut) : Type 0 where
  pub formed : WellFormed C
  pub states : C.states ≡ T.n
  pub letters : C.letters ≡ T.reference.letters
  pub sets : C.sets ≡ T.m
  pub start : C.start ≡ 0
  pub accept : (S : ℕ → Bool) → C.accept S ≡ T.accept S

-- one that agrees with the reference on every lasso word
pub record Equivalent (T : Task) (C : Aut) : Type 0 where
  pub candidate : Candidate T C
  pub agrees : Agree C T.reference

-- the same table: what a run can see of the two is equal
pub record SameTable (A B : Aut) : Type 0 where
  pub states : A.states ≡ B.states
  pub letters : A.letters ≡ B.letters
  pub sets : A.sets ≡ B.sets
  pub start : A.start ≡ B.start
  pub step : (q l : ℕ) → q < A.states → l < A.letters → A.step q l ≡ B.step q l
  pub marks : (q l i : ℕ) → q < A.states → l < A.letters → i < A.sets → A.marks q l i ≡ B.marks q l i
  pub accept : (S : ℕ → Bool) → A.accept S ≡ B.accept S
