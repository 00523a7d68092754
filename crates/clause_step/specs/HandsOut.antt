-- THE CLAUSE STEP HANDS OUT THE FILE, over every list of calls from the fresh position.
use Rattle.std.specs.Prelude.{◌≡◌, refl, List, [], ◌∷◌, ◌++◌, ℕ, suc, ◌≤◌, ℤ, length, Option, Some, None, Result, Ok, Err}
use Rattle.std.proofs.Common.{sym, ap, ap₂, ◌∙◌, subst, arith}
use Rattle.automaton.specs.declared.Automaton.{Automaton}
use Rattle.automaton.specs.Value.{Valid}
use Rattle.refusals.specs.declared.Refusal.{Refusal}
use Rattle.encoding.specs.Variables.{Task, Var}
use Rattle.decimal.specs.Writing.{wrote_front}
use Rattle.clause_sizes.specs.declared.Target.{Target}
use Rattle.clause_sizes.specs.Targets.{Proper, task, numbers}
use Rattle.clause_list.specs.Next.{Found, clauses_from}
use Rattle.clause_indices.specs.Indices.{clause_room}
use Rattle.clause_list.specs.Following.{First, next_first, from_start, position_of}
use Rattle.clause_step.specs.declared.Handed.{Handed}
use Rattle.clause_step.specs.Step.{Stepped, StepFound, position_after, found_from, fresh_position, last_position}
use Rattle.clause_step.specs.Range.{stays_in_range}
use Rattle.clause_step.specs.Calls.{Call, Calls, literals, said, all_said, in_order, HandsOut}
use Rattle.clause_step.specs.Refusals.{turned_down_short, Stays, refused_from}

module _ (a : Automaton) (τ : Target) where
  abbrev T : Task
  T = task a τ

  abbrev num : Var → ℕ
  num = numbers a τ

  abbrev rest : ℕ → List (List ℤ)
  rest = clauses_from T num

  first_is : (x : ℕ) {f : Found} → found_from a τ x ≡ f → First T num (rest x) f
  first_is x e = subst (First T num (rest x)) e (next_first T num x)

  -- one answer, and the answers after it
  one_found : (x : ℕ) (b : Option ℕ) (y : ℕ) (d e : List ℤ) (later : List (Option (List ℤ))) → StepFound a τ x d e b y
      → later ≡ in_order (rest y) (length later) → literals b e ∷ later ≡ in_order (rest x) (suc (length later))
  one_found x (Some k) y d e later (c, f, w) ih =
      ap₂ (λ c l. Some c ∷ l) (wrote_front w) ih ∙ ap (λ cs. in_order cs (suc (length later))) (sym (first_is x f))
  one_found x None y d e later (f, w) ih =
      let (now-none, then-none) = first_is x f in
      ap (λ l. None ∷ l) (ih ∙ ap (λ cs. in_order cs (length later)) then-none) ∙ ap (λ cs. in_order cs (suc (length later))) (sym now-none)

  one_more : (x : ℕ) (r : Result Handed Refusal) (d e : List ℤ) (later : List (Option (List ℤ))) → Stepped a τ x d e r
      → later ≡ in_order (rest (position_after x r)) (length later) → said r e ++ later ≡ in_order (rest x) (length (said r e ++ later))
  one_more x (Ok h) d e later (ok, f) ih = one_found x h.written h.position d e later f ih
  one_more x (Err f) d e later (t, w) ih = ih

  answers_from : (x : ℕ) (cs : List Call) → Calls a τ x cs → all_said cs ≡ in_order (rest x) (length (all_said cs))
  answers_from x [] k = refl
  answers_from x (c ∷ cs) (e, s, k) = one_more x c.result c.before c.after (all_said cs) s (answers_from (position_after x c.result) cs k)

  -- one call, for the lemma on refusals
  found_stays : Valid a → Proper τ → (x : ℕ) (d e : List ℤ) (b : Option ℕ) (y : ℕ) → x ≤ last_position → StepFound a τ x d e b y → y ≤ last_position
  found_stays v i x d e (Some k) y h (c, f, w) = subst (λ f. position_of T num f ≤ last_position) f (stays_in_range v i x h)
  found_stays v i x d e None y h (f, w) = subst (λ f. position_of T num f ≤ last_position) f (stays_in_range v i x h)

  stays : Valid a → Proper τ → (x : ℕ) (d e : List ℤ) (r : Result Handed Refusal) → x ≤ last_position → Stepped a τ x d e r → Stays clause_room x d e r
  stays v i x d e (Ok r) h (ok, f) = found_stays v i x d e r.written r.position h f
  stays v i x d e (Err f) h (t, w) = (turned_down_short v i h t, w)

pub hands_out : {a : Automaton} {τ : Target} → Valid a → Proper τ → (cs : List Call) → Calls a τ fresh_position cs → HandsOut a τ cs
hands_out {a} {τ} v i cs k = record {
  answers = answers_from a τ fresh_position cs k ∙ ap (λ l. in_order l (length (all_said cs))) (from_start (task a τ) (numbers a τ));
  refused = refused_from (stays a τ v i) fresh_position cs (omega arith) k;
}
