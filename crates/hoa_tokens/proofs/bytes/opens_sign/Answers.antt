-- `bytes::opens_sign` meets its contract.
use mathlib.Core.Bool.{or_assoc}
use Rattle.hoa_tokens.proofs.bytes.opens_sign.Goals as goal

pub returns : goal.returns
returns c = simp or_assoc
