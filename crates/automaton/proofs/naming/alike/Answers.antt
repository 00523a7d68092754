-- `naming::alike` meets its contract.
use Rattle.std.proofs.Common.{rules, ◌≡◌, arith}
use Rattle.std.specs.Bool.{Decides}
use Rattle.std.proofs.lemmas.Bool.Decides.{Decides-eqb}
use Rattle.std.proofs.lemmas.Slice.Eq.{slice_eq-Decides}
use Rattle.automaton.specs.Names.{slot}
use Rattle.automaton.specs.NameTest.{alike_slots}
use Rattle.automaton.proofs.naming.alike.Goals as goal

pub returns : goal.returns
returns c =
    let e : Decides c.eq.result (slot c.args.names.now c.args.first 16 ≡ slot c.args.names.now c.args.second 16) = search (rules, slice_eq-Decides, Decides-eqb) in
    alike_slots c.args.names.now (search rules) c.args.first c.args.second (omega arith) (omega arith) e
