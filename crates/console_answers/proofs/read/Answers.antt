-- `read` meets its contract.
use Rattle.console_answers.proofs.Ending.{told_pieces, told_failed, told_whole}
use Rattle.console_answers.proofs.read.Goals as goal

pub returns-in-Failed : goal.returns-in-Failed
returns-in-Failed g c =
    told_pieces c.hear_all-heard.ensures.so_far _ c.decode-decoded.ensures _ c.first.ensures c.ended-place.ensures c.hear_all-heard.ensures.over (told_failed _ c.in-Failed.is)

pub returns-in_default : goal.returns-in_default
returns-in_default g c =
    told_pieces c.hear_all-heard.ensures.so_far _ c.decode-decoded.ensures _ c.first.ensures c.ended-place.ensures c.hear_all-heard.ensures.over (told_whole _ c.in_default.not-Failed)
