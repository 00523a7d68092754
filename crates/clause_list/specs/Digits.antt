-- A position taken apart digit by digit, and that the indices lie in their ranges.
use Rattle.std.specs.Prelude.{◌≡◌, List, ℕ, ◌+◌, ◌*◌, ◌/◌, ◌%◌, ◌^◌, ◌<◌, get_or}
use Rattle.encoding.specs.Numbering.{split}
use Rattle.clause_sizes.specs.declared.Sizes.{Sizes}
use Rattle.clause_indices.specs.declared.Indices.{Indices}
use Rattle.clause_list.specs.declared.digits.Marking.{Marking}
use Rattle.clause_list.specs.declared.digits.Transition.{Transition}
use Rattle.clause_indices.specs.Indices.{Within, extensions, closures, extension_indices}
use Rattle.clause_list.specs.Tables.{Tables}

module _ (z : Sizes) where
  abbrev n : ℕ
  n = z.candidate.states

  abbrev r : ℕ
  r = z.reference.states

  abbrev L : ℕ
  L = z.letters

  abbrev M : ℕ
  M = 2 ^ z.candidate.sets

  abbrev S : ℕ
  S = 2 ^ z.reference.sets

  pub record MarkingOf (x : ℕ) (a : Marking) : Type 0 where
    pub i_is : a.i ≡ x / M / S % M
    pub j_is : a.j ≡ x / M % S
    pub k_is : a.k ≡ x % M
    pub rest_is : a.rest ≡ x / M / S / M

  pub record TransitionOf (x : ℕ) (a : Transition) : Type 0 where
    pub v_is : a.v.0 ≡ x / L % r
    pub l_is : a.l ≡ x % L
    pub rest_is : a.rest ≡ x / L / r

  abbrev pub closure_indices : List ℕ → ℕ → Indices
  closure_indices destinations x =
      let a = x / M / S / M in
      let b = a / L / r in
      record {
        q = record { 0 = b / n };
        p = record { 0 = b % n };
        t = record { 0 = b / n };
        u = record { 0 = get_or destinations (a / L % r * 16 + a % L) 0 };
        v = record { 0 = a / L % r };
        l = a % L;
        i = x / M / S % M;
        j = x / M % S;
        k = x % M;
      }

  pub extension_within : (x : ℕ) → x < extensions z → Within z (extension_indices z x)
  extension_within x h =
      let k = split x (n * n * n * r * r * L * M * S) M h in
      let j = split (x / M) (n * n * n * r * r * L * M) S k.0 in
      let i = split (x / M / S) (n * n * n * r * r * L) M j.0 in
      let l = split (x / M / S / M) (n * n * n * r * r) L i.0 in
      let v = split (x / M / S / M / L) (n * n * n * r) r l.0 in
      let u = split (x / M / S / M / L / r) (n * n * n) r v.0 in
      let t = split (x / M / S / M / L / r / r) (n * n) n u.0 in
      let p = split (x / M / S / M / L / r / r / n) n n t.0 in
      record { q_lt = p.0; p_lt = p.1; t_lt = t.1; u_lt = u.1; v_lt = v.1; l_lt = l.1; i_lt = i.1; j_lt = j.1; k_lt = k.1 }

  pub closure_within : (destinations marks : List ℕ) → Tables z destinations marks → (x : ℕ) → x < closures z
      → Within z (closure_indices destinations x)
  closure_within destinations marks tables x h =
      let k = split x (n * n * r * L * M * S) M h in
      let j = split (x / M) (n * n * r * L * M) S k.0 in
      let i = split (x / M / S) (n * n * r * L) M j.0 in
      let l = split (x / M / S / M) (n * n * r) L i.0 in
      let v = split (x / M / S / M / L) (n * n) r l.0 in
      let p = split (x / M / S / M / L / r) n n v.0 in
      record {
        q_lt = p.0;
        p_lt = p.1;
        t_lt = p.0;
        u_lt = tables.step_lt _ _ v.1 l.1;
        v_lt = v.1;
        l_lt = l.1;
        i_lt = i.1;
        j_lt = j.1;
        k_lt = k.1;
      }
