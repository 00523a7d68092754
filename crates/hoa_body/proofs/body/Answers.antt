-- `body` meets its contract.
use Rattle.hoa_body.proofs.BodyLaws.{body_read_lem}
use Rattle.hoa_body.proofs.body.Goals as goal

pub returns : goal.returns
returns c =
    body_read_lem _ _ _ (record { states_le = c.if-opened-gt-STATES.false; propositions_le = c.if-opened-gt-PROPOSITIONS.false; sets_le = c.if-opened-gt-SETS.false }) c.parts_from.result c.parts_from.ensures
