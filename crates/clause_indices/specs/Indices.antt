-- DEFINITIONS: the room and the indices of a clause, how many positions each group has, the indices of a position of group 3, and what groups 3 and 4 have in
-- common.
use Rattle.std.specs.Prelude.{◌≡◌, cond, List, [], ◌∷◌, ℕ, ◌+◌, ◌*◌, ◌/◌, ◌%◌, ◌^◌, ◌≤◌, ◌<◌, ℤ, pos, neg_ℤ, length, get_or}
use Rattle.meaning.specs.BitSet.{has}
use Rattle.decimal.specs.Wrote.{Wrote}
use Rattle.encoding.specs.Variables.{Var, step, mark, path}
use Rattle.encoding.specs.Clauses.{each}
use Rattle.clause_sizes.specs.declared.Sizes.{Sizes}
use Rattle.clause_sizes.specs.Sizes.{Fitting}
use Rattle.clause_sizes.specs.Numbers.{InFile, number_of}
use Rattle.clause_indices.specs.declared.Indices.{Indices}
use Rattle.clause_indices.specs.declared.extent.Extent.{Extent}

-- "Buffers: .. one clause 8 literals"
abbrev pub clause_room : ℕ
clause_room = 8

-- the indices of groups 3 and 4 in their ranges
pub record Within (z : Sizes) (x : Indices) : Type 0 where
  pub q_lt : x.q.0 < z.candidate.states
  pub p_lt : x.p.0 < z.candidate.states
  pub t_lt : x.t.0 < z.candidate.states
  pub u_lt : x.u.0 < z.reference.states
  pub v_lt : x.v.0 < z.reference.states
  pub l_lt : x.l < z.letters
  pub i_lt : x.i < 2 ^ z.candidate.sets
  pub j_lt : x.j < 2 ^ z.reference.sets
  pub k_lt : x.k < 2 ^ z.candidate.sets

-- the first path that a clause of groups 3 and 4 names
abbrev pub path_at : Indices → Var
path_at x = path x.q.0 x.u.0 x.p.0 x.v.0 x.i x.j

abbrev pub nowhere : Indices
nowhere = record { q = record { 0 = 0 }; p = record { 0 = 0 }; t = record { 0 = 0 }; u = record { 0 = 0 }; v = record { 0 = 0 }; l = 0; i = 0; j = 0; k = 0 }

module _ (z : Sizes) where
  abbrev n : ℕ
  n = z.candidate.states

  abbrev r : ℕ
  r = z.reference.states

  abbrev L : ℕ
  L = z.letters

  abbrev M : ℕ
  M = 2 ^ z.candidate.sets

  abbrev S : ℕ
  S = 2 ^ z.reference.sets

  -- how many positions groups 3 and 4 have, and group 2 after its first
  abbrev pub extensions : ℕ
  extensions = n * n * n * r * r * L * M * S * M

  abbrev pub closures : ℕ
  closures = n * n * r * L * M * S * M

  abbrev pub successors : ℕ
  successors = n * n * r * L

  -- "By q, p, t, u, v, l, I, J, K", the last fastest
  abbrev pub extension_indices : ℕ → Indices
  extension_indices x =
      let a = x / M / S / M in
      let b = a / L / r / r in
      record {
        q = record { 0 = b / n / n };
        p = record { 0 = b / n % n };
        t = record { 0 = b % n };
        u = record { 0 = a / L / r % r };
        v = record { 0 = a / L % r };
        l = a % L;
        i = x / M / S % M;
        j = x / M % S;
        k = x % M;
      }

-- on all input: the indices of position x of group 3, in their ranges, or all 0 where no file of these sizes has that position
pub record IndicesIfAny (z : Sizes) (x : ℕ) (r : Indices) : Type 0 where
  pub there : Fitting z → x < extensions z → (r ≡ extension_indices z x) × Within z r
  pub none : ¬ (Fitting z × (x < extensions z)) → r ≡ nowhere

-- the positions of groups 1, 2 and 3, and all
pub record ExtentOf (z : Sizes) (g : Extent) : Type 0 where
  pub first_is : g.first ≡ z.candidate.states * z.letters
  pub second_is : g.second ≡ 1 + successors z
  pub third_is : g.third ≡ extensions z
  pub all_is : g.all ≡ g.first + (g.second + (g.third + closures z))
  pub all_le : g.all ≤ 8_657_059_969

-- on all input: those, or none where no file has these sizes
pub record ExtentIfAny (z : Sizes) (g : Extent) : Type 0 where
  pub there : Fitting z → ExtentOf z g
  pub none : ¬ Fitting z → g ≡ record { first = 0; second = 0; third = 0; all = 0 }

-- on all input: the entry of a table with 16 rows of 16 for the reference state u and the letter l, or 0 where it has no such entry
pub record EntryIfAny (table : List ℕ) (u l r : ℕ) : Type 0 where
  pub there : u < 16 → l < 16 → r ≡ get_or table (u * 16 + l) 0
  pub none : ¬ ((u < 16) × (l < 16)) → r ≡ 0

-- "for each i ascending mark(p,l,i,t), negative if i is in K"
abbrev pub mark_literal : Sizes → (p l t K i : ℕ) → ℤ
mark_literal z p l t K i = cond (has K i) (neg_ℤ (pos (number_of z (mark p l i t)))) (pos (number_of z (mark p l i t)))

-- the marks of the first k sets
abbrev pub marks_of : Sizes → (p l t K k : ℕ) → List ℤ
marks_of z p l t K k = each k λ i. mark_literal z p l t K i ∷ []

-- "-path(q,u,p,v,I,J), -step(p,l,t)", and the marks; in group 4 all of the clause
abbrev pub premise_of : Sizes → Indices → List ℤ
premise_of z x =
    neg_ℤ (pos (number_of z (path_at x)))
    ∷ neg_ℤ (pos (number_of z (step x.p.0 x.l x.t.0)))
    ∷ marks_of z x.p.0 x.l x.t.0 x.k z.candidate.sets

-- on all input: these at the start of the buffer, or nothing where no file of these sizes has the indices or the path, or where there is no room
pub record PremiseIfAny (z : Sizes) (x : Indices) (d e : List ℤ) (r : ℕ) : Type 0 where
  pub there : Fitting z → Within z x → InFile z (path_at x) → clause_room ≤ length d → Wrote d 0 (premise_of z x) e r
  pub none : ¬ (Fitting z × Within z x × InFile z (path_at x) × (clause_room ≤ length d)) → (e ≡ d) × (r ≡ 0)
