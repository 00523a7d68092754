-- `write_middle` meets its contract.
use native.Mathlib.Omega.{arith}
use Rattle.clause_text.proofs.Slots.{text_copied}
use Rattle.clause_text.proofs.Literals.{middle_slot_is, letters_le, middle_lt, middle_slot_text}
use Rattle.clause_text.proofs.keeping.Store+MIDDLES+MIDDLE_BYTES.write_middle.Goals as goal

pub overflow_mul-slot : goal.overflow_mul-slot
overflow_mul-slot c = omega (arith, letters_le c.args.z c.requires.fitting.0 c.requires.fitting.1.l_lt)

pub overflow_add-slot : goal.overflow_add-slot
overflow_add-slot c = omega (arith, middle_lt c.requires.fitting.0 c.requires.fitting.1 (middle_slot_is c.args.z c.requires.fitting.0 c.args.x.l c.args.x.k))

pub returns : goal.returns
returns c =
    let is = middle_slot_is c.args.z c.requires.fitting.0 c.args.x.l c.args.x.k in
    record {
      kept_2 = c.middle_in_slot-size.ensures.all;
      wrote = text_copied (middle_slot_text c.requires.fitting.0 c.requires.fitting.1 is) c.middle_in_slot-size.ensures c.copy.ensures c.requires.k_in_bounds;
    }
