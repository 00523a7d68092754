-- What `lines` finds.
use mathlib.Core.Path.{◌≡◌, sym, ap, ◌∙◌, subst}
use mathlib.Core.Logic.{◌≢◌, ⊎_elim, inl, inr}
use mathlib.Core.List.{List}
use Prim.Native.Nat.{ℕ, ◌≤◌}
use native.Mathlib.Omega.{arith}
use lib.ListN.{length, take, drop}
use Rattle.encoding.specs.Variables.{Task, Var}
use Rattle.decimal.specs.Wrote.{Wrote}
use Rattle.automaton.specs.declared.Automaton.{Automaton}
use Rattle.clause_sizes.specs.declared.Sizes.{Sizes}
use Rattle.clause_sizes.specs.Targets.{numbers}
use Rattle.clause_sizes.specs.Numbers.{number_of}
use Rattle.clause_sizes.specs.Measured.{Measured}
use Rattle.clause_sizes.specs.Sizes.{target_of}
use Rattle.clause_list.specs.Tables.{task_of}
use Rattle.clause_list.specs.Measured.{measured_task, measured_number, measured_posed}
use Rattle.clause_list.specs.Next.{clauses_from}
use Rattle.clause_list.specs.Following.{same_from}
use Rattle.std.specs.Prelude.{Some, None}
use Rattle.clause_text.specs.declared.batch.Filled.{Filled}
use Rattle.clause_text.specs.Answers.{Batch, BatchFound}
use Rattle.clause_words.specs.Text.{lines_text}
use Rattle.clause_text.specs.Filling.{Filling}

-- the same clauses from every position on
filling_same : {T : Task} {num other : Var → ℕ} {x : ℕ} {d e : List ℕ} {k y : ℕ} → ((v : ℕ) → clauses_from T num v ≡ clauses_from T other v) → Filling T num x d e k y → Filling T other x d e k y
filling_same {T} {num} {other} {x} {d} {e} {k} {y} same f =
    let l = f.lines in
    record {
      lines = record {
        count = l.count;
        there = subst (λ cs. l.count ≤ length cs) (same x) l.there;
        text = subst (λ cs. Wrote d 0 (lines_text (take l.count cs)) e k) (same x) l.text;
        next = sym (same y) ∙ l.next ∙ ap (drop l.count) (same x);
        within = l.within;
      };
      stop = ⊎_elim (λ g. inl (sym (same y) ∙ g)) (λ g. inr (record { clause = g.clause; others = g.others; next = sym (same y) ∙ g.next; long = g.long })) f.stop;
    }

measured_batch : {a : Automaton} {z : Sizes} → Measured a z → (x : ℕ) {d e : List ℕ} {k y : ℕ}
    → Filling (task_of z a.start a.destinations a.marks) (number_of z) x d e k y → Batch a (target_of z) x d e k y
measured_batch {a} {z} w x {d} {e} {k} {y} f =
    filling_same (same_from (measured_posed w) (number_of z) (numbers a (target_of z)) (measured_number w)) (subst (λ T. Filling T (number_of z) x d e k y) (measured_task w) f)

module _ {a : Automaton} {z : Sizes} (w : Measured a z) (x : ℕ) {d e : List ℕ} {r : Filled} where
  pub batch_ended : Filling (task_of z a.start a.destinations a.marks) (number_of z) x d e r.end r.position → r.end ≡ 0
      → BatchFound a (target_of z) x d e None r.position
  batch_ended f l = subst (λ k. Batch a (target_of z) x d e k r.position) l (measured_batch w x f)

  pub batch_handed : Filling (task_of z a.start a.destinations a.marks) (number_of z) x d e r.end r.position → r.end ≢ 0
      → BatchFound a (target_of z) x d e (Some r.end) r.position
  batch_handed f l = (measured_batch w x f, omega arith)
