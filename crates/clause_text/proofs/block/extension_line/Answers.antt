-- `extension_line` meets its contract.
use mathlib.Core.Path.{◌∙◌}
use native.Mathlib.Omega.{arith}
use lib.Bits.{or_lt}
use lib.ListN.{length-set}
use Rattle.decimal.specs.Writing.{wrote_length}
use Rattle.clause_words.specs.Pieces.{wrote_two}
use Rattle.clause_text.specs.Blocks.{head_number, last_number}
use Rattle.clause_text.proofs.Blocks.{pieces_length, line_room, line_written, after_le, number_le}
use Rattle.clause_text.proofs.block.extension_line.Goals as goal

pub overflow_mul-first : goal.overflow_mul-first
overflow_mul-first c = let (f, h, there, n) = c.requires.fitting in omega (arith, (after_le f h.i_lt h.j_lt).0)

pub overflow_add-first : goal.overflow_add-first
overflow_add-first c = let (f, h, there, n) = c.requires.fitting in omega (arith, (after_le f h.i_lt h.j_lt).1)

pub overflow_add-first-2 : goal.overflow_add-first-2
overflow_add-first-2 c = let (f, h, there, n) = c.requires.fitting in omega (arith, number_le f h.i_lt h.j_lt c.args.head n.head_le)

pub write_literal-a-requires : goal.write_literal-a-requires
write_literal-a-requires c =
    let (f, h, there, n) = c.requires.fitting in
    let size = pieces_length c.args.z c.args.x (head_number c.args.z c.args.x c.args.head) (last_number c.args.z c.args.x c.args.last c.args.f) in
    record {
      variable_nonzero = (omega (arith, n.head_some), number_le f h.i_lt h.j_lt c.args.head n.head_le);
      kept = c.requires.texts.heads_kept;
      variable_in_bounds = omega (arith, size, c.requires.f_len_bound.0, c.requires.f_len_bound.1);
    }

pub write_middle-b-requires : goal.write_middle-b-requires
write_middle-b-requires c =
    let (f, h, there, n) = c.requires.fitting in
    let size = pieces_length c.args.z c.args.x (head_number c.args.z c.args.x c.args.head) (last_number c.args.z c.args.x c.args.last c.args.f) in
    record {
      fitting = (f, h, there);
      kept = c.requires.texts.middles_kept;
      k_in_bounds = omega (arith, size, c.write_literal-a.ensures.wrote.next, wrote_length c.write_literal-a.ensures.wrote, c.requires.f_len_bound.0, c.requires.f_len_bound.1);
    }

pub overflow_mul-second : goal.overflow_mul-second
overflow_mul-second c = let (f, h, there, n) = c.requires.fitting in omega (arith, (after_le f (or_lt _ _ _ h.i_lt h.k_lt) (or_lt _ _ _ h.j_lt n.marks_lt)).0)

pub overflow_add-second : goal.overflow_add-second
overflow_add-second c = let (f, h, there, n) = c.requires.fitting in omega (arith, (after_le f (or_lt _ _ _ h.i_lt h.k_lt) (or_lt _ _ _ h.j_lt n.marks_lt)).1)

pub overflow_add-second-2 : goal.overflow_add-second-2
overflow_add-second-2 c = let (f, h, there, n) = c.requires.fitting in omega (arith, number_le f (or_lt _ _ _ h.i_lt h.k_lt) (or_lt _ _ _ h.j_lt n.marks_lt) c.args.last n.last_le)

pub write_literal-c-requires : goal.write_literal-c-requires
write_literal-c-requires c =
    let (f, h, there, n) = c.requires.fitting in
    let size = pieces_length c.args.z c.args.x (head_number c.args.z c.args.x c.args.head) (last_number c.args.z c.args.x c.args.last c.args.f) in
    record {
      variable_nonzero = (omega (arith, n.last_some), number_le f (or_lt _ _ _ h.i_lt h.k_lt) (or_lt _ _ _ h.j_lt n.marks_lt) c.args.last n.last_le);
      kept = c.requires.texts.lasts_kept;
      variable_in_bounds = omega (arith, size, c.write_literal-a.ensures.wrote.next, wrote_length c.write_literal-a.ensures.wrote, c.write_middle-b.ensures.wrote.next, wrote_length c.write_middle-b.ensures.wrote, c.requires.f_len_bound.0, c.requires.f_len_bound.1);
    }

pub bounds-text-c : goal.bounds-text-c
bounds-text-c c =
    let (same, room) = line_room c.args.z c.args.x (head_number c.args.z c.args.x c.args.head) (last_number c.args.z c.args.x c.args.last c.args.f) c.write_literal-a.ensures.wrote c.write_middle-b.ensures.wrote c.write_literal-c.ensures.wrote c.requires.f_len_bound.0 c.requires.f_len_bound.1 in
    omega (arith, room)

pub overflow_add-text : goal.overflow_add-text
overflow_add-text c =
    let (same, room) = line_room c.args.z c.args.x (head_number c.args.z c.args.x c.args.head) (last_number c.args.z c.args.x c.args.last c.args.f) c.write_literal-a.ensures.wrote c.write_middle-b.ensures.wrote c.write_literal-c.ensures.wrote c.requires.f_len_bound.0 c.requires.f_len_bound.1 in
    omega (arith, room, same, c.well_formed)

pub bounds-text-c-2 : goal.bounds-text-c-2
bounds-text-c-2 c =
    let (same, room) = line_room c.args.z c.args.x (head_number c.args.z c.args.x c.args.head) (last_number c.args.z c.args.x c.args.last c.args.f) c.write_literal-a.ensures.wrote c.write_middle-b.ensures.wrote c.write_literal-c.ensures.wrote c.requires.f_len_bound.0 c.requires.f_len_bound.1 in
    simp length-set (omega (arith, room))

pub overflow_add-result : goal.overflow_add-result
overflow_add-result c =
    let (same, room) = line_room c.args.z c.args.x (head_number c.args.z c.args.x c.args.head) (last_number c.args.z c.args.x c.args.last c.args.f) c.write_literal-a.ensures.wrote c.write_middle-b.ensures.wrote c.write_literal-c.ensures.wrote c.requires.f_len_bound.0 c.requires.f_len_bound.1 in
    omega (arith, room, same, c.well_formed)

pub shape_of-text : goal.shape_of-text
shape_of-text c =
    let (same, room) = line_room c.args.z c.args.x (head_number c.args.z c.args.x c.args.head) (last_number c.args.z c.args.x c.args.last c.args.f) c.write_literal-a.ensures.wrote c.write_middle-b.ensures.wrote c.write_literal-c.ensures.wrote c.requires.f_len_bound.0 c.requires.f_len_bound.1 in
    wrote_length (wrote_two c.write_literal-c.new.text _ 48 10 room) ∙ same

pub returns : goal.returns
returns c =
    let (same, room) = line_room c.args.z c.args.x (head_number c.args.z c.args.x c.args.head) (last_number c.args.z c.args.x c.args.last c.args.f) c.write_literal-a.ensures.wrote c.write_middle-b.ensures.wrote c.write_literal-c.ensures.wrote c.requires.f_len_bound.0 c.requires.f_len_bound.1 in
    record {
      texts_2 = record { heads_kept = c.write_literal-a.ensures.kept_2; middles_kept = c.write_middle-b.ensures.kept_2; lasts_kept = c.write_literal-c.ensures.kept_2 };
      wrote = line_written c.args.z c.args.x (head_number c.args.z c.args.x c.args.head) (last_number c.args.z c.args.x c.args.last c.args.f)
          c.write_literal-a.ensures.wrote c.write_middle-b.ensures.wrote c.write_literal-c.ensures.wrote (wrote_two _ _ 48 10 room);
    }
