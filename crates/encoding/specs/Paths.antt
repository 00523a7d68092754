-- Whether some word leads the product of two automata from one node to another, each with its histories: a computed answer.
use Rattle.std.specs.Prelude.{◌≡◌, refl, ◌≢◌, ◌↔◌, Bool, true, ℕ, ◌+◌, ◌*◌, ◌/◌, ◌%◌, ◌^◌, ◌<◌}
use Rattle.std.proofs.Common.{sym, ap, ◌∙◌, subst}
use mathlib.Core.List.{List, [], ◌∷◌, ◌++◌, concat-ne-nil}
use Rattle.std.proofs.Math.Arith.{digits_div, digits_mod, digits_lt}
use Rattle.std.proofs.lemmas.Nat.{or_lt}
use Rattle.std.proofs.Math.Dec.{eqb}
use borrow.Author.Tests.{eq-eqb, eqb-true}
use Rattle.meaning.specs.Automata.{Aut, WellFormed}
use Rattle.meaning.specs.Agreement.{Over}
use Rattle.meaning.specs.Walk.{run, Walk}
use Rattle.meaning.specs.WalkLaws.{run_append, walk_map}
use Rattle.meaning.specs.ShortWalk.{Numbered, ok_run}
use Rattle.meaning.specs.Reach.{reach}
use Rattle.meaning.specs.Reachability.{Step, reach_exact}
use Rattle.meaning.specs.Product.{over_walk, walk_over}
use Rattle.meaning.specs.LassoWord.{over_append}
use Rattle.meaning.specs.MarkSets.{set_of_lt}
use Rattle.encoding.specs.Clauses.{marks_on}
use Rattle.encoding.specs.History.{Node, move}

module _ (C R : Aut) where
  abbrev pub Ok : Node → Type 0
  Ok (q, u, I, J) = (q < C.states) × (u < R.states) × (I < 2 ^ C.sets) × (J < 2 ^ R.sets)

  abbrev code : Node → ℕ
  code (q, u, I, J) = ((q * R.states + u) * 2 ^ C.sets + I) * 2 ^ R.sets + J

  abbrev nodes : ℕ
  nodes = C.states * R.states * 2 ^ C.sets * 2 ^ R.sets

  same_code : (a b : Node) → Ok a → Ok b → code a ≡ code b → a ≡ b
  same_code (q, u, I, J) (p, v, K, H) (hq, hu, hI, hJ) (hp, hv, hK, hH) e =
      let r = R.states in
      let M = 2 ^ C.sets in
      let S = 2 ^ R.sets in
      let e₁ = sym (digits_div ((q * r + u) * M + I) hJ) ∙ ap (λ k. k / S) e ∙ digits_div ((p * r + v) * M + K) hH in
      let e₂ = sym (digits_div (q * r + u) hI) ∙ ap (λ k. k / M) e₁ ∙ digits_div (p * r + v) hK in
      λ i. (
        (sym (digits_div q hu) ∙ ap (λ k. k / r) e₂ ∙ digits_div p hv) i,
        (sym (digits_mod q hu) ∙ ap (λ k. k % r) e₂ ∙ digits_mod p hv) i,
        (sym (digits_mod (q * r + u) hI) ∙ ap (λ k. k % M) e₁ ∙ digits_mod (p * r + v) hK) i,
        (sym (digits_mod ((q * r + u) * M + I) hJ) ∙ ap (λ k. k % S) e ∙ digits_mod ((p * r + v) * M + K) hH) i,
      )

  -- some word leads from a to b
  abbrev pub Leads : Node → Node → Type 0
  Leads a b = (y : List ℕ) × Over R.letters y × (run (move C R) a y ≡ b)

  abbrev Edge : Node → ℕ → Type 0
  Edge = Step R.letters (λ a l. true)

  pub leads : Node → Node → Bool
  leads a b = reach (move C R) R.letters (λ c l. true) (λ c. eqb (code c) (code b)) nodes a

  over_edges : (a : Node) (y : List ℕ) → Over R.letters y → Walk (move C R) Edge a y
  over_edges a y o = walk_map (move C R) _ _ (λ b l k. (k, refl)) a y (over_walk (move C R) R.letters a y o)

  module _ (fc : WellFormed C) (fr : WellFormed R) (letters : C.letters ≡ R.letters) where
    abbrev G : Numbered (move C R) Edge nodes
    G = record {
      Ok = Ok;
      code = code;
      closed = λ (q, u, I, J) l (hq, hu, hI, hJ) (hl, e). (
        fc.step_lt q l hq (rw letters hl),
        fr.step_lt u l hu hl,
        or_lt C.sets I (marks_on C q l) hI (set_of_lt C.sets (C.marks q l)),
        or_lt R.sets J (marks_on R u l) hJ (set_of_lt R.sets (R.marks u l)),
      );
      small = λ (q, u, I, J) (hq, hu, hI, hJ). digits_lt (digits_lt (digits_lt hq hu) hI) hJ;
      same = same_code;
    }

    pub leads_ok : (a b : Node) → Ok a → Leads a b → Ok b
    leads_ok a b oa (y, o, e) = subst Ok e (ok_run (move C R) G a y oa (over_edges a y o))

    pub leads_exact : (a b : Node) → Ok a → Ok b → (leads a b ≡ true) ↔ Leads a b
    unfolding leads
    leads_exact a b oa ob =
        let t = reach_exact (move C R) R.letters (λ c l. true) (λ c. eqb (code c) (code b)) G a oa in (
          λ h. (let (y, w, g) = t.0 h in
              (y, walk_over (move C R) _ R.letters (λ c l k. k.0) a y w, same_code (run (move C R) a y) b (ok_run (move C R) G a y oa w) ob (eqb-true _ _ g))),
          λ (y, o, e). t.1 (y, over_edges a y o, eq-eqb _ _ (ap code e)),
        )

  -- a word, with one letter more
  pub leads_more : (a b : Node) (l : ℕ) → l < R.letters → Leads a b → (y : List ℕ) × Over R.letters y × (y ≢ []) × (run (move C R) a y ≡ move C R b l)
  leads_more a b l h (y, o, e) =
      (y ++ l ∷ [], over_append R.letters y (l ∷ []) o (h, tt), concat-ne-nil l y, run_append (move C R) a y (l ∷ []) ∙ ap (λ c. move C R c l) e)
