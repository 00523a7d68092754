-- Document 01's two blocks of numbers have their laws, for every task.
use Rattle.std.specs.Prelude.{◌≡◌, true, ℕ, ◌*◌, ◌/◌, ◌%◌, ◌^◌, ◌<◌}
use Rattle.std.proofs.Common.{ap, arith}
use Rattle.std.proofs.Math.Arith.{digits_div, digits_mod, digits_lt}
use Rattle.encoding.specs.Variables.{Task, Var, mark, path, Present, transition_marks, all_paths}
use Rattle.encoding.specs.Decoding.{valuation}
use Rattle.encoding.specs.Named.{AnyMarks}
use Rattle.encoding.specs.Numbering.{MarkLaws, PathLaws, split}

module _ (T : Task) where
  abbrev r : ℕ
  r = T.reference.states

  abbrev A : ℕ
  A = 2 ^ T.m

  abbrev B : ℕ
  B = 2 ^ T.reference.sets

  -- the mark at each place
  pub mark_at : ℕ → Var
  mark_at k =
      let n = T.n in
      let L = T.reference.letters in
      mark (k / n / T.m / L) (k / n / T.m % L) (k / n % T.m) (k % n)

  pub mark_at_place : (q l i p : ℕ) → Present T (mark q l i p) → mark_at ((transition_marks T).place q l i p) ≡ mark q l i p
  unfolding mark_at
  mark_at_place q l i p (hq, hl, hi, hp) = simp (digits_div, digits_mod)

  unfoldable pub transition_marks_laws : MarkLaws T (transition_marks T) AnyMarks
  transition_marks_laws =
      let n = T.n in
      let L = T.reference.letters in
      record {
        place_lt = λ q l i p h. omega (arith, digits_lt (digits_lt (digits_lt h.0 h.1) h.2) h.3);
        onto = λ k h.
            let a = split k (n * L * T.m) n (omega arith) in
            let b = split (k / n) (n * L) T.m a.0 in
            let c = split (k / n / T.m) n L b.0 in
            (k / n / T.m / L, k / n / T.m % L, k / n % T.m, k % n, (c.0, c.1, b.1, a.1), rw (c.2, b.2, a.2));
        decoded_kind = λ f δ. tt;
        variable = mark_at;
        variable_place = λ δ μ π kind q l i p h. ap (valuation δ μ π) (mark_at_place q l i p h);
      }

  -- the path at each place, whether it is kept or not
  pub path_at_lem : ℕ → Var
  path_at_lem k = path (k / B / A / r / T.n / r) (k / B / A / r / T.n % r) (k / B / A / r % T.n) (k / B / A % r) (k / B % A) (k % B)

  pub path_at_place : (q u p v I J : ℕ) → u < r → p < T.n → v < r → I < A → J < B → path_at_lem ((all_paths T).place q u p v I J) ≡ path q u p v I J
  unfolding path_at_lem
  path_at_place q u p v I J hu hp hv hI hJ = simp (digits_div, digits_mod)

  pub path_place_lt : (q u p v I J : ℕ) → Present T (path q u p v I J) → (all_paths T).place q u p v I J < (all_paths T).size
  path_place_lt q u p v I J h = digits_lt (digits_lt (digits_lt (digits_lt (digits_lt h.0 h.1) h.2) h.3) h.4) h.5

  pub path_place_onto : (k : ℕ) → k < (all_paths T).size
      → (q u p v I J : ℕ) × (q < T.n) × (u < r) × (p < T.n) × (v < r) × (I < A) × (J < B) × ((all_paths T).place q u p v I J ≡ k)
  path_place_onto k h =
      let n = T.n in
      let a = split k (n * r * n * r * A) B h in
      let b = split (k / B) (n * r * n * r) A a.0 in
      let c = split (k / B / A) (n * r * n) r b.0 in
      let d = split (k / B / A / r) (n * r) n c.0 in
      let e = split (k / B / A / r / n) n r d.0 in (
        k / B / A / r / n / r,
        k / B / A / r / n % r,
        k / B / A / r % n,
        k / B / A % r,
        k / B % A,
        k % B,
        e.0,
        e.1,
        d.1,
        c.1,
        b.1,
        a.1,
        rw (e.2, d.2, c.2, b.2, a.2),
      )

  pub all_paths_laws : ((u v : ℕ) → T.kept u v ≡ true) → PathLaws T (all_paths T)
  all_paths_laws all-kept = record {
    place_lt = path_place_lt;
    onto = λ k h.
        let (q, u, p, v, I, J, hq, hu, hp, hv, hI, hJ, e) = path_place_onto k h in
        (q, u, p, v, I, J, (hq, hu, hp, hv, hI, hJ, all-kept u v), e);
    variable = path_at_lem;
    variable_place = λ q u p v I J (hq, hu, hp, hv, hI, hJ, k). path_at_place q u p v I J hu hp hv hI hJ;
  }
