-- SOUND: an assignment that meets the constraints decodes to a candidate that agrees with the reference.
use Rattle.std.specs.Prelude.{◌≡◌, refl, true, ℕ, ◌^◌, ◌<◌}
use Rattle.std.proofs.Math.Path.{sym}
use Rattle.std.proofs.Common.{ap, ◌∙◌, subst₂, pow_pos}
use mathlib.Core.List.{List, [], ◌∷◌, ◌++◌}
use Rattle.meaning.specs.Automata.{Aut, WellFormed}
use Rattle.meaning.specs.Agreement.{Over}
use Rattle.meaning.specs.BitSet.{has}
use Rattle.meaning.specs.Walk.{run}
use Rattle.meaning.specs.WalkLaws.{run_append}
use Rattle.meaning.specs.LassoWord.{over_append}
use Rattle.meaning.specs.Run.{after, run_lt}
use Rattle.meaning.specs.ClosedLoop.{CyclesAgree}
use Rattle.meaning.proofs.CycleLemma.{cycles→agree}
use Rattle.meaning.specs.MarkSets.{set_of_lt, has_set_of}
use Rattle.encoding.specs.Variables.{Task, Var, step, path, Present}
use Rattle.encoding.specs.Clauses.{Assignment, destination, decoded, marks_on, ◌∪◌, Equivalent}
use Rattle.encoding.specs.WellPosed.{WellPosed, node_present, extension_present}
use Rattle.encoding.specs.Constraints.{Constraints, Marked}
use Rattle.encoding.specs.History.{history, history_accept}
use Rattle.encoding.specs.Lowest.{lowest_true}

module _ {T : Task} (W : WellPosed T) (num : Var → ℕ) (ν : Assignment) (h : Constraints T (λ x. ν (num x))) where
  abbrev R : Aut
  R = T.reference

  abbrev C : Aut
  C = decoded T num ν

  -- the step that is decoded is one whose variable is true
  taken : (q l : ℕ) → q < T.n → l < R.letters → (C.step q l < T.n) × (ν (num (step q l (C.step q l))) ≡ true)
  unfolding destination
  taken q l hq hl = let (p, hp, e) = h.total q l hq hl in lowest_true T.n (λ p. ν (num (step q l p))) p hp e

  formed : WellFormed (decoded T num ν)
  formed = record { start_lt = W.some_state; step_lt = λ q l hq hl. (taken q l hq hl).0; sets_owned = W.sets_owned }

  step_present : (p l : ℕ) → p < T.n → l < R.letters → Present T (step p l (C.step p l))
  step_present p l hp hl = (hp, hl, (taken p l hp hl).0)

  is_marked : (p l : ℕ) → Marked T (λ x. ν (num x)) p l (C.step p l) (marks_on C p l)
  is_marked p l i hi = sym (has_set_of T.m (C.marks p l) i hi)

  -- every state of the product that a word leads to has its variable true
  reached : (x : List ℕ) (q u : ℕ) → Over R.letters x → q < T.n → u < R.states → ν (num (path q u q u 0 0)) ≡ true
      → ν (num (path (run C.step q x) (run R.step u x) (run C.step q x) (run R.step u x) 0 0)) ≡ true
  reached [] q u o hq hu a = a
  reached (l ∷ x) q u o hq hu a =
      let (hp, e) = taken q l hq o.0 in
      reached x (C.step q l) (R.step u l) o.1 hp (W.formed.step_lt u l hu o.0)
      (h.successor q (C.step q l) u l (node_present W q u hq hu) (step_present q l hq o.0) a e)

  -- A path to p and v whose variable is true goes on along l ∷ y; where that ends at its origin, the two acceptances are equal. The word x
  -- leads the reference from the origin to v, so that all the path variables on the way are there.
  along : (p v I J l : ℕ) (y x : List ℕ) → Over R.letters (l ∷ y) → Over R.letters x → run R.step (run R.step v (l ∷ y)) x ≡ v
      → p < T.n → v < R.states → I < 2 ^ T.m → J < 2 ^ R.sets → ν (num (path (run C.step p (l ∷ y)) (run R.step v (l ∷ y)) p v I J)) ≡ true
      → T.accept (has (history C p I (l ∷ y))) ≡ R.accept (has (history R v J (l ∷ y)))
  along p v I J l [] x o ox e hp hv hI hJ a =
      let k = W.cycles_kept (R.step v l) v x (l ∷ []) (W.formed.step_lt v l hv o.0) ox o e refl in
      h.closure (C.step p l) p v l I J (marks_on C p l)
      ((taken p l hp o.0).0, W.formed.step_lt v l hv o.0, hp, hv, hI, hJ, k) (step_present p l hp o.0) (set_of_lt T.m (C.marks p l))
      a (taken p l hp o.0).1 (is_marked p l)
  along p v I J l (k ∷ y) x o ox e hp hv hI hJ a =
      let q : ℕ = run C.step p (l ∷ k ∷ y) in
      let u : ℕ = run R.step v (l ∷ k ∷ y) in
      let hq : q < T.n = run_lt formed p (l ∷ k ∷ y) hp o in
      let hu : u < R.states = run_lt W.formed v (l ∷ k ∷ y) hv o in
      let ox₂ = over_append R.letters x (l ∷ []) ox (o.0, tt) in
      let e₂ : run R.step u (x ++ l ∷ []) ≡ R.step v l = run_append R.step u x (l ∷ []) ∙ ap (λ z. R.step z l) e in
      let h₁ : Present T (path q u p v I J) = (hq, hu, hp, hv, hI, hJ, W.cycles_kept u v x (l ∷ k ∷ y) hu ox o e refl) in
      let h₂ = extension_present W q p (C.step p l) u v l I J (marks_on C p l) h₁ (step_present p l hp o.0) (set_of_lt T.m (C.marks p l))
      (W.cycles_kept u (R.step v l) (x ++ l ∷ []) (k ∷ y) hu ox₂ o.1 e₂ refl) in
      along (C.step p l) (R.step v l) (I ∪ marks_on C p l) (J ∪ marks_on R v l) k y (x ++ l ∷ []) o.1 ox₂ e₂ h₂.2 h₂.3 h₂.4 h₂.5
      (h.extension q p (C.step p l) u v l I J (marks_on C p l) h₁ (step_present p l hp o.0) (set_of_lt T.m (C.marks p l)) h₂
      a (taken p l hp o.0).1 (is_marked p l))

  cycles : CyclesAgree (decoded T num ν) T.reference
  unfolding CyclesAgree
  cycles x [] ox oy ne ec er = absurd (ne refl)
  cycles x (l ∷ y) ox oy ne ec er =
      let q = after C x in
      let u = after R x in
      sym (history_accept formed q (l ∷ y))
      ∙ along q u 0 0 l y [] oy tt er (run_lt formed 0 x W.some_state ox) (run_lt W.formed R.start x W.formed.start_lt ox)
      (pow_pos T.m) (pow_pos R.sets)
      (subst₂ (λ (a b : ℕ). ν (num (path a b q u 0 0)) ≡ true) (sym ec) (sym er) (reached x 0 R.start ox W.some_state W.formed.start_lt h.initial))
      ∙ history_accept W.formed u (l ∷ y)

  pub decoded_equivalent : Equivalent T (decoded T num ν)
  decoded_equivalent = record {
    candidate = record { formed = formed; states = refl; letters = refl; sets = refl; start = refl; accept = λ S. refl };
    agrees = cycles→agree (record { formed_A = formed; formed_B = W.formed; same_letters = refl }) cycles;
  }
