-- `bytes::byte_at` meets its contract.
use Rattle.hoa_tokens.proofs.Laws.{past}
use Rattle.hoa_tokens.proofs.bytes.byte_at.Goals as goal

pub returns-else-at-text : goal.returns-else-at-text
returns-else-at-text c = past c.args.text.now c.args.at c.if-at-text.false
