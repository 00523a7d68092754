-- `tables::with_state` meets its contract.
use mathlib.Core.Path.{ap}
use native.Mathlib.Omega.{arith}
use Rattle.bits.specs.SetLaws.{single_is}
use Rattle.hoa_body.proofs.TableLaws.{holds_state}
use Rattle.hoa_body.proofs.tables.with_state.Goals as goal

pub returns : goal.returns
returns c =
    (holds_state _ _ _ _ c.begun.result (single_is c.requires c.single.ensures) c.begun.ensures, omega (arith, ap (λ x. x.state) c.begun.ensures))
