-- `name::name` meets its contract.
use native.Mathlib.Omega.{arith}
use Prim.Native.Nat.{◌+◌}
use Rattle.hoa_words.proofs.Laws.{part_is}
use Rattle.hoa_names.proofs.Text.{name_read}
use Rattle.hoa_names.proofs.name.name.Goals as goal

pub returns-in-Quoted : goal.returns-in-Quoted
returns-in-Quoted c =
    let h = c.in-Quoted.ensures in
    name_read c.args.text.now c.args.at c.args.names _ _ c.given.result h _ (part_is (c.in-Quoted.start + 1) c.in-Quoted.end c.args.text.now (omega (arith, h.lies.longer))) c.given.ensures
