-- `middle_in_slot` meets its contract.
use native.Mathlib.Omega.{arith}
use Rattle.clause_text.proofs.Slots.{kept_found, text_kept}
use Rattle.clause_text.proofs.Literals.{states_le, middle_lt, middle_slot_text}
use Rattle.clause_text.proofs.keeping.Store+MIDDLES+MIDDLE_BYTES.middle_in_slot.Goals as goal

pub overflow_mul-pair : goal.overflow_mul-pair
overflow_mul-pair c = omega (arith, states_le c.requires.fitting.0 c.requires.fitting.1)

pub overflow_add-pair : goal.overflow_add-pair
overflow_add-pair c = omega (arith, states_le c.requires.fitting.0 c.requires.fitting.1, c.requires.fitting.1.t_lt, c.requires.fitting.0.n_le)

pub overflow_add-pair-2 : goal.overflow_add-pair-2
overflow_add-pair-2 c = omega (arith, states_le c.requires.fitting.0 c.requires.fitting.1, c.requires.fitting.1.t_lt, c.requires.fitting.0.n_le)

pub find-requires : goal.find-requires
find-requires c = (omega arith, middle_lt c.requires.fitting.0 c.requires.fitting.1 c.requires.fitting.3)

pub returns-in-Some : goal.returns-in-Some
returns-in-Some c = kept_found c.requires.kept (middle_lt c.requires.fitting.0 c.requires.fitting.1 c.requires.fitting.3) (omega arith) c.in-Some.is c.find.ensures

pub overflow_mul-slot : goal.overflow_mul-slot
overflow_mul-slot c = omega (arith, middle_lt c.requires.fitting.0 c.requires.fitting.1 c.requires.fitting.3)

pub keep_middle-size-requires : goal.keep_middle-size-requires
keep_middle-size-requires c = record { fitting = (c.requires.fitting.0, c.requires.fitting.1, c.requires.fitting.2); at_bound = omega (arith, middle_lt c.requires.fitting.0 c.requires.fitting.1 c.requires.fitting.3) }

pub returns : goal.returns
returns c =
    let (w, h) = c.keep_middle-size.ensures in
    text_kept (middle_slot_text c.requires.fitting.0 c.requires.fitting.1 c.requires.fitting.3) c.requires.kept (middle_lt c.requires.fitting.0 c.requires.fitting.1 c.requires.fitting.3) (omega arith) (omega (arith, w.next)) w c.enter.ensures.sizes c.enter.ensures.bytes
