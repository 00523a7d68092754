-- `bytes::in_word` meets its contract.
use Rattle.hoa_tokens.proofs.bytes.in_word.Goals as goal

pub returns : goal.returns
returns c = cc
