-- `lines_from` meets its contract. The invariant: the lines on to a position are written, and the first paths and the texts are those of its indices.
use mathlib.Core.Path.{◌≡◌}
use Prim.Native.Nat.{◌+◌, ◌*◌, ◌<◌}
use native.Mathlib.Omega.{arith}
use lib.ListN.{get_or}
use Rattle.decimal.specs.Writing.{wrote_length}
use Rattle.clause_indices.specs.Indices.{extensions, extension_indices}
use Rattle.clause_order.specs.Passes.{transition_width, state_width}
use Rattle.clause_order.specs.Stretches.{extensions_le}
use Rattle.clause_text.proofs.Blocks.{extensions_none, extensions_moved, indices_within, indices_lt, path_there, firsts, line_short, line_more, state_failing, letter_failing, skip_more, skip_less}
use Rattle.clause_text.proofs.block.lines_from.Goals as goal

pub loop-z-init : goal.loop-z-init
loop-z-init c =
    let (h, is, room) = c.requires.from_bound in
    record {
      lines = extensions_none c.args.from _ _ (omega arith) (omega arith);
      here = λ l. (h, is);
      some = λ l. absurd (omega (arith, (indices_within c.requires.tables h is).v_lt));
      to_p = c.requires.first_paths.0;
      to_t = c.requires.first_paths.1;
      texts = c.requires.texts;
    }

pub shape_of-text-then-v-z : goal.shape_of-text-then-v-z
shape_of-text-then-v-z c = wrote_length c.loop-z.invariant.lines.text

pub returns-then-v-z : goal.returns-then-v-z
returns-then-v-z c = record { extensions = c.loop-z.invariant.lines; from_lt_position = c.loop-z.invariant.some c.if-v-z.true; texts_2 = c.loop-z.invariant.texts }

pub overflow_sub-text : goal.overflow_sub-text
overflow_sub-text c = omega (arith, c.loop-z.invariant.lines.text.room, wrote_length c.loop-z.invariant.lines.text)

pub shape_of-text-then-text-to-lt-LINE : goal.shape_of-text-then-text-to-lt-LINE
shape_of-text-then-text-to-lt-LINE c = wrote_length c.loop-z.invariant.lines.text

pub returns-then-text-to-lt-LINE : goal.returns-then-text-to-lt-LINE
returns-then-text-to-lt-LINE c = record {
  extensions = c.loop-z.invariant.lines;
  from_lt_position = extensions_moved c.loop-z.invariant.lines (omega (arith, c.if-text-to-lt-LINE.true, wrote_length c.loop-z.invariant.lines.text, c.requires.from_bound.2));
  texts_2 = c.loop-z.invariant.texts;
}

pub loop-z-smaller-then-head-eq0 : goal.loop-z-smaller-then-head-eq0
loop-z-smaller-then-head-eq0 c =
    let here : (c.loop-z.position < extensions c.args.z) × (c.loop-z.x ≡ extension_indices c.args.z c.loop-z.position) = c.loop-z.invariant.here (omega (arith, c.if-v-z.false)) in
    let head-is : c.number_at-head.result ≡ get_or c.args.shorter.now c.loop-z.x.v.0 0 = let (h, is) = here in
    c.number_at-head.ensures.there (indices_lt c.requires.tables h is).0 in
    let (h, is) = here in
    let (f, no-clause) = state_failing c.requires.tables h is c.loop-z.invariant.to_p head-is c.if-head-eq0.true in
    omega (arith, skip_less c.requires.tables h is (state_width c.args.z) f c.past_state-next.ensures)

pub loop-z-preserved-then-head-eq0 : goal.loop-z-preserved-then-head-eq0
loop-z-preserved-then-head-eq0 c =
    let here : (c.loop-z.position < extensions c.args.z) × (c.loop-z.x ≡ extension_indices c.args.z c.loop-z.position) = c.loop-z.invariant.here (omega (arith, c.if-v-z.false)) in
    let head-is : c.number_at-head.result ≡ get_or c.args.shorter.now c.loop-z.x.v.0 0 = let (h, is) = here in
    c.number_at-head.ensures.there (indices_lt c.requires.tables h is).0 in
    let (h, is) = here in
    let (f, no-clause) = state_failing c.requires.tables h is c.loop-z.invariant.to_p head-is c.if-head-eq0.true in
    skip_more c.requires.tables h is (state_width c.args.z) f no-clause c.loop-z.invariant c.past_state-next.ensures

pub loop-z-smaller-then-last-eq0 : goal.loop-z-smaller-then-last-eq0
loop-z-smaller-then-last-eq0 c =
    let here : (c.loop-z.position < extensions c.args.z) × (c.loop-z.x ≡ extension_indices c.args.z c.loop-z.position) = c.loop-z.invariant.here (omega (arith, c.if-v-z.false)) in
    let step_is : c.entry.result ≡ get_or c.args.destinations.now (c.loop-z.x.v.0 * 16 + c.loop-z.x.l) 0 = let (h, is) = here in
    let (hv, hl) = indices_lt c.requires.tables h is in
    c.entry.ensures.there hv hl in
    let last-is : c.number_at-last.result ≡ get_or c.args.longer.now c.entry.result 0 = let (h, is) = here in
    let i = indices_within c.requires.tables h is in
    let w_lt : c.entry.result < c.args.z.reference.states = rw step_is (c.requires.tables.step_lt _ _ i.v_lt i.l_lt) in
    c.number_at-last.ensures.there (omega (arith, w_lt, c.requires.tables.fits.r_le)) in
    let (h, is) = here in
    let (f, no-clause) = letter_failing c.requires.tables h is step_is c.loop-z.invariant.to_t last-is c.if-last-eq0.true in
    omega (arith, skip_less c.requires.tables h is (transition_width c.args.z) f c.past_letter-next.ensures)

pub loop-z-preserved-then-last-eq0 : goal.loop-z-preserved-then-last-eq0
loop-z-preserved-then-last-eq0 c =
    let here : (c.loop-z.position < extensions c.args.z) × (c.loop-z.x ≡ extension_indices c.args.z c.loop-z.position) = c.loop-z.invariant.here (omega (arith, c.if-v-z.false)) in
    let step_is : c.entry.result ≡ get_or c.args.destinations.now (c.loop-z.x.v.0 * 16 + c.loop-z.x.l) 0 = let (h, is) = here in
    let (hv, hl) = indices_lt c.requires.tables h is in
    c.entry.ensures.there hv hl in
    let last-is : c.number_at-last.result ≡ get_or c.args.longer.now c.entry.result 0 = let (h, is) = here in
    let i = indices_within c.requires.tables h is in
    let w_lt : c.entry.result < c.args.z.reference.states = rw step_is (c.requires.tables.step_lt _ _ i.v_lt i.l_lt) in
    c.number_at-last.ensures.there (omega (arith, w_lt, c.requires.tables.fits.r_le)) in
    let (h, is) = here in
    let (f, no-clause) = letter_failing c.requires.tables h is step_is c.loop-z.invariant.to_t last-is c.if-last-eq0.true in
    skip_more c.requires.tables h is (transition_width c.args.z) f no-clause c.loop-z.invariant c.past_letter-next.ensures

pub extension_line-to-requires : goal.extension_line-to-requires
extension_line-to-requires c =
    let here : (c.loop-z.position < extensions c.args.z) × (c.loop-z.x ≡ extension_indices c.args.z c.loop-z.position) = c.loop-z.invariant.here (omega (arith, c.if-v-z.false)) in
    let step_is : c.entry.result ≡ get_or c.args.destinations.now (c.loop-z.x.v.0 * 16 + c.loop-z.x.l) 0 = let (h, is) = here in
    let (hv, hl) = indices_lt c.requires.tables h is in
    c.entry.ensures.there hv hl in
    let head-is : c.number_at-head.result ≡ get_or c.args.shorter.now c.loop-z.x.v.0 0 = let (h, is) = here in
    c.number_at-head.ensures.there (indices_lt c.requires.tables h is).0 in
    let last-is : c.number_at-last.result ≡ get_or c.args.longer.now c.entry.result 0 = let (h, is) = here in
    let i = indices_within c.requires.tables h is in
    let w_lt : c.entry.result < c.args.z.reference.states = rw step_is (c.requires.tables.step_lt _ _ i.v_lt i.l_lt) in
    c.number_at-last.ensures.there (omega (arith, w_lt, c.requires.tables.fits.r_le)) in
    let (h, is) = here in
    let (hv, hl) = indices_lt c.requires.tables h is in
    let w-is = step_is in
    let f-is = c.entry-f.ensures.there hv hl in
    let head = head-is in
    let last = last-is in
    let some-head = c.if-head-eq0.false in
    let some-last = c.if-last-eq0.false in
    record {
      fitting = (
        c.requires.tables.fits,
        indices_within c.requires.tables h is,
        path_there c.requires.tables h is w-is f-is c.loop-z.invariant.to_p c.loop-z.invariant.to_t head last some-head some-last,
        firsts c.requires.tables h is w-is f-is c.loop-z.invariant.to_p c.loop-z.invariant.to_t head last some-head some-last,
      );
      texts = c.loop-z.invariant.texts;
      f_len_bound = (
        line_short c.requires.tables h is w-is f-is c.loop-z.invariant.to_p c.loop-z.invariant.to_t head last some-head some-last c.requires.extensions_short,
        omega (arith, c.if-text-to-lt-LINE.false, c.loop-z.invariant.lines.text.room, wrote_length c.loop-z.invariant.lines.text),
      );
    }

pub overflow_add-position : goal.overflow_add-position
overflow_add-position c =
    let here : (c.loop-z.position < extensions c.args.z) × (c.loop-z.x ≡ extension_indices c.args.z c.loop-z.position) = c.loop-z.invariant.here (omega (arith, c.if-v-z.false)) in
    let (h, is) = here in omega (arith, h, extensions_le c.requires.tables.fits)

pub loop-z-smaller : goal.loop-z-smaller
loop-z-smaller c =
    let here : (c.loop-z.position < extensions c.args.z) × (c.loop-z.x ≡ extension_indices c.args.z c.loop-z.position) = c.loop-z.invariant.here (omega (arith, c.if-v-z.false)) in
    let (h, is) = here in omega (arith, h)

pub loop-z-preserved : goal.loop-z-preserved
loop-z-preserved c =
    let here : (c.loop-z.position < extensions c.args.z) × (c.loop-z.x ≡ extension_indices c.args.z c.loop-z.position) = c.loop-z.invariant.here (omega (arith, c.if-v-z.false)) in
    let step_is : c.entry.result ≡ get_or c.args.destinations.now (c.loop-z.x.v.0 * 16 + c.loop-z.x.l) 0 = let (h, is) = here in
    let (hv, hl) = indices_lt c.requires.tables h is in
    c.entry.ensures.there hv hl in
    let head-is : c.number_at-head.result ≡ get_or c.args.shorter.now c.loop-z.x.v.0 0 = let (h, is) = here in
    c.number_at-head.ensures.there (indices_lt c.requires.tables h is).0 in
    let last-is : c.number_at-last.result ≡ get_or c.args.longer.now c.entry.result 0 = let (h, is) = here in
    let i = indices_within c.requires.tables h is in
    let w_lt : c.entry.result < c.args.z.reference.states = rw step_is (c.requires.tables.step_lt _ _ i.v_lt i.l_lt) in
    c.number_at-last.ensures.there (omega (arith, w_lt, c.requires.tables.fits.r_le)) in
    let (h, is) = here in
    let (hv, hl) = indices_lt c.requires.tables h is in
    let w-is = step_is in
    let f-is = c.entry-f.ensures.there hv hl in
    line_more c.requires.tables h is w-is f-is c.loop-z.invariant.to_p c.loop-z.invariant.to_t head-is last-is c.if-head-eq0.false c.if-last-eq0.false c.loop-z.invariant.lines c.extension_line-to.ensures.wrote c.following-x.ensures c.extension_line-to.ensures.texts_2
