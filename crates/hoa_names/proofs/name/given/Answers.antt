-- `name::given` meets its contract.
use native.Mathlib.Omega.{arith}
use mathlib.Core.Path.{sym, ◌∙◌}
use Rattle.hoa_names.proofs.Judged.{given_taken}
use Rattle.hoa_names.proofs.name.given.Goals as goal

pub returns : goal.returns
returns c =
    given_taken c.args.word.now c.args.quote c.args.next c.args.names (sym c.all_printable.ensures ∙ c.if-not-all_printable.false) (grind arith) c.if-word-gt-NAME.false _ c.among.ensures c.if-among.false c.with_name.result c.with_name.ensures
