-- One piece more: calls with the pieces of a list, and a further call.
use Rattle.std.specs.Prelude.{◌≡◌, List, [], ◌∷◌, ◌++◌, ℕ}
use Rattle.std.proofs.Common.{sym, ap, ◌∙◌, append-nil, append_assoc}
use Rattle.automaton.specs.declared.Automaton.{Automaton}
use Rattle.clause_sizes.specs.declared.Target.{Target}
use Rattle.clause_sizes.specs.Targets.{last, kept}
use Rattle.solver_text.specs.declared.Reader.{Reader}
use Rattle.solver_text.specs.declared.Reply.{Reply}
use Rattle.solver_text.specs.Machine.{told, run}
use Rattle.solver_text.specs.Calls.{Called, Reads, none, piece, joined}

pub reads_more : {a : Automaton} {τ : Target} {r q : Reader} {us : List (List ℕ)} {e : Reply} (u : List ℕ) → Reads a τ r us q
    → Called a τ q (told (run (last a τ) (kept a τ) q u)) e → Reads a τ r (us ++ (u ∷ [])) e.reader
reads_more u none c = piece {u = u} c none
reads_more u (piece {u = w} d k) c = piece {u = w} d (reads_more u k c)

pub joined_more : (us : List (List ℕ)) (u : List ℕ) → joined (us ++ (u ∷ [])) ≡ joined us ++ u
joined_more [] u = append-nil u
joined_more (w ∷ us) u = ap (λ x. w ++ x) (joined_more us u) ∙ sym (append_assoc w (joined us) u)
