-- `show` meets its contract.
use borrow.Author.Tests.{ne_eqb}
use Rattle.console_sentences.proofs.show.Goals as goal

pub returns-in-64 : goal.returns-in-64
returns-in-64 c = rw c.in-64.is c.write.ensures

pub returns-in-126 : goal.returns-in-126
returns-in-126 c = rw c.in-126.is c.write-in-126.ensures

pub returns-in-35 : goal.returns-in-35
returns-in-35 c = rw c.in-35.is c.write-in-35.ensures

pub returns-in-36 : goal.returns-in-36
returns-in-36 c = rw c.in-36.is c.write-in-36.ensures

pub returns-in_default : goal.returns-in_default
returns-in_default c = rw (ne_eqb _ _ c.in_default.in_default-own.rest.0.0.0.1, ne_eqb _ _ c.in_default.in_default-own.rest.0.0.1, ne_eqb _ _ c.in_default.in_default-own.rest.0.1, ne_eqb _ _ c.in_default.in_default-own.rest.1) c.byte.ensures
