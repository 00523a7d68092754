-- `following` meets its contract: one case for each index that rises.
use Rattle.std.proofs.Common.{refl, sym, subst}
use Rattle.clause_order.specs.Follows.{Follows}
use Rattle.clause_order.proofs.Carries.{next_K, next_J, next_I, next_l, next_v}
use Rattle.clause_order.proofs.following.Goals as goal

pub returns-then-k-z : goal.returns-then-k-z
returns-then-k-z c = next_K c.args.z c.args.x refl c.if-k-z.true

pub returns-then-j-z : goal.returns-then-j-z
returns-then-j-z c = next_J c.args.z c.args.x refl c.if-k-z.false refl c.if-j-z.true

pub returns-then-i-z : goal.returns-then-i-z
returns-then-i-z c = next_I c.args.z c.args.x refl c.if-k-z.false refl c.if-j-z.false refl c.if-i-z.true

pub returns-then-l-z : goal.returns-then-l-z
returns-then-l-z c = next_l c.args.z c.args.x refl c.if-k-z.false refl c.if-j-z.false refl c.if-i-z.false refl c.if-l-z.true

pub returns : goal.returns
returns c =
    subst (Follows c.args.z c.args.x) (sym c.next_state.ensures)
    (next_v c.args.z c.args.x refl c.if-k-z.false refl c.if-j-z.false refl c.if-i-z.false refl c.if-l-z.false refl)
