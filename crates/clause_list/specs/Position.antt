-- What stands at a position, by group, and that it is what stands there in the file.
use Rattle.std.specs.Prelude.{◌≡◌, Bool, List, [], ◌∷◌, ℕ, ◌+◌, ◌*◌, ◌/◌, ◌%◌, ◌^◌, ◌<◌, ℤ, Option, Some, None}
use Rattle.std.proofs.Math.Path.{refl, ap, ap₂}
use Rattle.std.proofs.Common.{sym, ◌∙◌}
use Rattle.std.proofs.Math.Bool.{◌&&◌, xor}
use Rattle.std.proofs.lemmas.Nat.{or_lt}
use Rattle.std.proofs.Math.ListN.{get_or}
use Rattle.meaning.specs.BitSet.{has, set_of}
use Rattle.meaning.specs.MarkSets.{set_of_has}
use Rattle.encoding.specs.Variables.{Task}
use Rattle.encoding.specs.Clauses.{◌∪◌, only, marks_on, exactly_one, totality, initial, successor, extension, closure, not_marks}
use Rattle.encoding.specs.Positions.{at₁, successors_at, at₃, at₄}
use Rattle.decimal.specs.Wrote.{Wrote}
use Rattle.clause_sizes.specs.declared.Sizes.{Sizes}
use Rattle.clause_sizes.specs.Numbers.{kept_among, number_of}
use Rattle.clause_list.specs.Tables.{tabled, task_of, Tables}
use Rattle.clause_list.specs.Groups.{totality_of, initial_of, successor_of, extension_of}
use Rattle.clause_indices.specs.Indices.{premise_of, extensions, closures, extension_indices}
use Rattle.clause_list.specs.Digits.{closure_indices, extension_within, closure_within}

-- the one clause of `cs` is written at the start of d, and k is its length, which is not 0
pub record Alone {A : Type 0} (d : List A) (cs : List (List A)) (e : List A) (k : ℕ) : Type 0 where
  pub clause : List A
  pub alone : cs ≡ clause ∷ []
  pub wrote : Wrote d 0 clause e k
  pub some : 0 < k

-- that, and the length is handed out; or `cs` is empty, and nothing is written
abbrev pub Stands : {A : Type 0} → List A → List (List A) → List A → Option ℕ → Type 0
Stands d cs e (Some k) = Alone d cs e k
Stands d cs e None = (cs ≡ []) × (e ≡ d)

pub stands_same : {A : Type 0} (d e : List A) {cs ds : List (List A)} (r : Option ℕ) → cs ≡ ds → Stands d ds e r → Stands d cs e r
stands_same d e (Some k) q a = record { clause = a.clause; alone = q ∙ a.alone; wrote = a.wrote; some = a.some }
stands_same d e None q (p, w) = (q ∙ p, w)

-- ---- by group

abbrev pub successor_at : Sizes → List ℕ → ℕ → List ℤ
successor_at z destinations x =
    let n = z.candidate.states in
    let r = z.reference.states in
    let L = z.letters in
    successor_of z (x / L / r / n) (x / L / r % n) (x / L % r) (x % L) (get_or destinations (x / L % r * 16 + x % L) 0)

abbrev pub extension_at : Sizes → List ℕ → List ℕ → ℕ → List ℤ
extension_at z destinations marks x =
    let i = extension_indices z x in
    let at = i.v.0 * 16 + i.l in
    extension_of z i (get_or destinations at 0) (get_or marks at 0)

-- "Group 3 keeps a clause only if u, v and w share a component", by the rows: u has paths to v and to w
abbrev pub shared_at : Sizes → List ℕ → ℕ → Bool
shared_at z destinations x =
    let i = extension_indices z x in
    kept_among z i.u.0 i.v.0 && kept_among z i.u.0 (get_or destinations (i.v.0 * 16 + i.l) 0)

abbrev pub extensions_at : Sizes → List ℕ → List ℕ → ℕ → List (List ℤ)
extensions_at z destinations marks x = only (shared_at z destinations x) (extension_at z destinations marks x)

-- the two acceptances say different things of a set of candidate marks and of one of reference marks
abbrev pub disagree : Sizes → ℕ → ℕ → Bool
disagree z candidate reference = xor (has z.candidate.acceptance candidate) (has z.reference.acceptance reference)

-- "and group 4 only if v and w do", w being the u of the indices; and where the acceptances disagree
abbrev pub closes_at : Sizes → List ℕ → ℕ → Bool
closes_at z destinations x = let i = closure_indices z destinations x in kept_among z i.u.0 i.v.0

abbrev pub closure_at : Sizes → List ℕ → List ℕ → ℕ → List (List ℤ)
closure_at z destinations marks x =
    let i = closure_indices z destinations x in
    only (closes_at z destinations x && disagree z (i.i ∪ i.k) (i.j ∪ get_or marks (i.v.0 * 16 + i.l) 0)) (premise_of z i)

module _ (z : Sizes) (start : ℕ) (destinations marks : List ℕ) where
  abbrev T : Task
  T = task_of z start destinations marks

  pub at₁_is : (x : ℕ) → at₁ T (number_of z) x ≡ totality_of z (x / z.letters) (x % z.letters) z.candidate.states ∷ []
  unfolding at₁ totality
  at₁_is x = refl

  pub initial_is : initial T (number_of z) ≡ initial_of z start
  unfolding initial
  initial_is = refl

  pub successor_is : (x : ℕ) → successors_at T (number_of z) x ≡ successor_at z destinations x ∷ []
  unfolding successors_at successor
  successor_is x = refl

  module _ (tables : Tables z destinations marks) where
    marks_is : (v l : ℕ) → v < z.reference.states → l < z.letters → marks_on (tabled z start destinations marks) v l ≡ get_or marks (v * 16 + l) 0
    marks_is v l hv hl = set_of_has z.reference.sets (get_or marks (v * 16 + l) 0) (tables.marks_lt v l hv hl)

    -- what is kept, by the rows
    kept_is : (u v : ℕ) → u < z.reference.states → v < z.reference.states → (task_of z start destinations marks).kept u v ≡ kept_among z u v
    kept_is u v hu hv = sym ((tables.rowed start).sets_are u v hu hv)

    pub at₃_is : (x : ℕ) → x < extensions z → at₃ T (number_of z) x ≡ extensions_at z destinations marks x
    unfolding at₃ extension not_marks
    at₃_is x h =
        let w = extension_within z x h in
        let i = extension_indices z x in
        ap₂ (λ b c. only b c)
        (ap₂ ◌&&◌ (kept_is i.u.0 i.v.0 w.u_lt w.v_lt) (kept_is i.u.0 (get_or destinations (i.v.0 * 16 + i.l) 0) w.u_lt (tables.step_lt _ _ w.v_lt w.l_lt)))
        (ap (λ F. extension_of z i (get_or destinations (i.v.0 * 16 + i.l) 0) F) (marks_is i.v.0 i.l w.v_lt w.l_lt))

    -- "where the two acceptances disagree on I∪K and J∪F", by the two masks
    pub exactly_one_is : (v l I J K : ℕ) → v < z.reference.states → l < z.letters → I < 2 ^ z.candidate.sets → J < 2 ^ z.reference.sets → K < 2 ^ z.candidate.sets
        → exactly_one (task_of z start destinations marks) v l I J K ≡ disagree z (I ∪ K) (J ∪ get_or marks (v * 16 + l) 0)
    unfolding exactly_one
    exactly_one_is v l I J K hv hl hI hJ hK =
        let m = z.candidate.sets in
        let s = z.reference.sets in
        let F = get_or marks (v * 16 + l) 0 in
        ap₂ xor (ap (has z.candidate.acceptance) (set_of_has m (I ∪ K) (or_lt m I K hI hK)))
        (ap (λ G. has z.reference.acceptance (set_of s (has (J ∪ G)))) (marks_is v l hv hl)
        ∙ ap (has z.reference.acceptance) (set_of_has s (J ∪ F) (or_lt s J F hJ (tables.marks_lt v l hv hl))))

    pub at₄_is : (x : ℕ) → x < closures z → at₄ T (number_of z) x ≡ closure_at z destinations marks x
    unfolding at₄ closure not_marks
    at₄_is x h =
        let w = closure_within z destinations marks tables x h in
        let i = closure_indices z destinations x in
        ap (λ b. only b (premise_of z i))
        (ap₂ ◌&&◌ (kept_is i.u.0 i.v.0 w.u_lt w.v_lt)
        (exactly_one_is i.v.0 i.l i.i i.j i.k w.v_lt w.l_lt w.i_lt w.j_lt w.k_lt))
