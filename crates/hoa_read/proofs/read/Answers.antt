-- `read` meets its contract.
use Rattle.std.proofs.lemmas.Result.{err_from_is_err_and}
use Rattle.hoa_read.proofs.ReadLaws.{told_number, read_long, read_refused, read_bounded, read_opened}
use Rattle.hoa_read.proofs.read.Goals as goal

pub returns-then-text-gt-TEXT : goal.returns-then-text-gt-TEXT
returns-then-text-gt-TEXT c =
    let e = read_long c.args.text.now c.if-text-gt-TEXT.true in
    record { is = e; number = told_number _ _ e }

pub returns-in_err-opened : goal.returns-in_err-opened
returns-in_err-opened c =
    let p = err_from_is_err_and c.from_residual.result c.from_residual.ensures.1 in
    let e = read_refused c.args.text.now c.if-text-gt-TEXT.false _ c.in_err-opened.ensures in
    rw (p.1, p.2) (record { is = e; number = told_number _ _ e })

pub from_body-requires : goal.from_body-requires
from_body-requires c = read_bounded c.args.text.now c.if-text-gt-TEXT.false _ _ c.in_ok-opened.ensures

pub returns : goal.returns
returns c =
    let e = read_opened c.args.text.now c.if-text-gt-TEXT.false _ _ c.in_ok-opened.ensures c.from_body.result c.from_body.ensures in
    record { is = e; number = told_number _ _ e }
