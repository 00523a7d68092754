-- `successor_at` meets its contract.
use Rattle.clause_list.proofs.Places.{transition_lt, entry_is, successive}
use Rattle.clause_list.proofs.position.successor_at.Goals as goal

pub successor-requires : goal.successor-requires
successor-requires c =
    let h = successive c.requires.fitting.0 c.args.destinations.now c.requires.fitting.1 c.requires.x_bound.0 c.transition_at-a.ensures (entry_is (transition_lt c.requires.fitting.0 c.transition_at-a.ensures) c.entry-w.ensures) in
    record {
      fitting = c.requires.fitting.0;
      successive = h;
      in_file = (c.requires.fitting.2 _ _ h.q_lt h.u_lt, c.requires.fitting.2 _ _ h.p_lt h.w_lt, c.requires.x_bound.1);
    }
