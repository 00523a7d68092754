-- `extension_at` meets its contract.
use mathlib.Core.Path.{◌≡◌, sym, ◌∙◌}
use Prim.Native.Nat.{◌+◌, ◌*◌}
use lib.Bits.{or_lt}
use lib.ListN.{get_or}
use Rattle.meaning.specs.TestLaws.{and_left, and_right}
use Rattle.clause_sizes.specs.Numbers.{kept_among}
use Rattle.clause_list.specs.Rows.{kept_path}
use Rattle.clause_list.proofs.Places.{kept_is, indices_lt, entry_is, step_within, marks_within, extension_none, extension_stands}
use Rattle.clause_list.proofs.position.extension_at.Goals as goal

pub returns-then-not-kept : goal.returns-then-not-kept
returns-then-not-kept c =
    let step_is : c.entry.result ≡ get_or c.args.destinations.now (c.indices_of-indices.result.v.0 * 16 + c.indices_of-indices.result.l) 0 = entry_is (indices_lt c.requires.tables.fits c.indices_of-indices.ensures.1) c.entry.ensures in
    let first_row : c.kept.result ≡ kept_among c.args.z c.indices_of-indices.result.u.0 c.indices_of-indices.result.v.0 = kept_is c.requires.tables.fits c.indices_of-indices.ensures.1.u_lt c.kept.ensures in
    let second-row : c.kept-2.result ≡ kept_among c.args.z c.indices_of-indices.result.u.0 c.entry.result = kept_is c.requires.tables.fits c.indices_of-indices.ensures.1.u_lt c.kept-2.ensures in
    extension_none c.args.z c.args.destinations.now c.args.marks.now _ c.indices_of-indices.ensures.0 step_is first_row second-row (c.if-not-kept.true)

pub returns : goal.returns
returns c =
    let step_is : c.entry.result ≡ get_or c.args.destinations.now (c.indices_of-indices.result.v.0 * 16 + c.indices_of-indices.result.l) 0 = entry_is (indices_lt c.requires.tables.fits c.indices_of-indices.ensures.1) c.entry.ensures in
    let first_row : c.kept.result ≡ kept_among c.args.z c.indices_of-indices.result.u.0 c.indices_of-indices.result.v.0 = kept_is c.requires.tables.fits c.indices_of-indices.ensures.1.u_lt c.kept.ensures in
    let second-row : c.kept-2.result ≡ kept_among c.args.z c.indices_of-indices.result.u.0 c.entry.result = kept_is c.requires.tables.fits c.indices_of-indices.ensures.1.u_lt c.kept-2.ensures in
    extension_stands c.args.z c.args.destinations.now c.args.marks.now _ c.indices_of-indices.ensures.0 step_is (entry_is (indices_lt c.requires.tables.fits c.indices_of-indices.ensures.1) c.entry-f.ensures)
    first_row second-row (c.if-not-kept.false) c.extension.ensures

pub extension-requires-clause-within : goal.extension-requires-clause-within
extension-requires-clause-within c =
    let w = c.indices_of-indices.ensures.1 in
    let step_is : c.entry.result ≡ get_or c.args.destinations.now (c.indices_of-indices.result.v.0 * 16 + c.indices_of-indices.result.l) 0 = entry_is (indices_lt c.requires.tables.fits c.indices_of-indices.ensures.1) c.entry.ensures in
    let first_row : c.kept.result ≡ kept_among c.args.z c.indices_of-indices.result.u.0 c.indices_of-indices.result.v.0 = kept_is c.requires.tables.fits c.indices_of-indices.ensures.1.u_lt c.kept.ensures in
    let second-row : c.kept-2.result ≡ kept_among c.args.z c.indices_of-indices.result.u.0 c.entry.result = kept_is c.requires.tables.fits c.indices_of-indices.ensures.1.u_lt c.kept-2.ensures in
    let step = step_within c.requires.tables c.indices_of-indices.ensures.1 step_is in
    let marks = marks_within c.requires.tables c.indices_of-indices.ensures.1 (entry_is (indices_lt c.requires.tables.fits c.indices_of-indices.ensures.1) c.entry-f.ensures) in
    let both = c.if-not-kept.false in
    let i = or_lt _ _ _ c.indices_of-indices.ensures.1.i_lt c.indices_of-indices.ensures.1.k_lt in
    let j = or_lt _ _ _ c.indices_of-indices.ensures.1.j_lt marks in (
      w,
      kept_path c.requires.tables w.q_lt w.u_lt w.p_lt w.v_lt w.i_lt w.j_lt (sym first_row ∙ and_left _ _ both),
      kept_path c.requires.tables w.q_lt w.u_lt w.t_lt step i j (sym second-row ∙ and_right c.kept.result _ both),
    )
