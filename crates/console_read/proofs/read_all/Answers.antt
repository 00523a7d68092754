-- `read_all` meets its contract.
use Rattle.std.proofs.Common.{arith, [], ◌∙◌}
use Rattle.console_read.specs.Counts.{full}
use Rattle.console_read.specs.Reading.{once_le}
use Rattle.console_read.proofs.Rest as rest
use Rattle.console_read.proofs.read_all.Goals as goal

pub returns-in_default : goal.returns-in_default
returns-in_default g c =
    rest.breaks c.loop-filled.text c.loop-filled.filled c.loop-filled-test.true c.read_some.new.part c.read_some.auto.part
    c.loop-filled.invariant.2 c.in_default.ensures

pub returns-then-length-eq0 : goal.returns-then-length-eq0
returns-then-length-eq0 g c =
    rest.stops c.loop-filled.text c.loop-filled.filled c.loop-filled-test.true c.read_some.new.part c.read_some.auto.part
    c.loop-filled.invariant.2 c.in-Some.ensures c.if-length-eq0.true

pub loop-filled-preserved : goal.loop-filled-preserved
loop-filled-preserved g c =
    let e = rest.same_length c.loop-filled.text c.loop-filled.filled c.loop-filled.invariant.0 c.read_some.new.part c.read_some.auto.part in
    let k = once_le c.in-Some.ensures in
    let r = rest.rest_length c.loop-filled.text c.loop-filled.filled c.loop-filled.invariant.0 in (
      omega (arith, e, k, r),
      e ∙ c.loop-filled.invariant.1,
      rest.goes_on c.loop-filled.text c.loop-filled.filled c.loop-filled-test.true c.read_some.new.part c.read_some.auto.part
          c.loop-filled.invariant.2 c.in-Some.ensures c.if-length-eq0.false,
    )

pub returns : goal.returns
returns g c = c.loop-filled.invariant.2 _ (record { answers = []; fills = full c.loop-filled-test.false })
