-- `indices_of` meets its contract.
use mathlib.Core.Path.{sym, subst}
use Rattle.clause_indices.specs.Indices.{Within}
use Rattle.clause_list.specs.Digits.{extension_within}
use Rattle.clause_list.proofs.Places.{extension_is}
use Rattle.clause_list.proofs.digits.indices_of.Goals as goal

pub returns : goal.returns
returns c = let e = extension_is _ c.marking_at-s.ensures c.transition_at-a.ensures in
    (e, subst (Within c.args.z) (sym e) (extension_within c.args.z c.args.x c.requires.1))
