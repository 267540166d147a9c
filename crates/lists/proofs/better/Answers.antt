-- Each return is the law of Follow for the tests that led there.
use Rattle.std.proofs.Common.{ap, arith}
use Rattle.lists.specs.Best.{level_of}
use Rattle.lists.proofs.Follow.{follows_shorter, follows_elsewhere, follows_taken}
use Rattle.lists.proofs.better.Goals as goal

pub returns-then-address-mask : goal.returns-then-address-mask
returns-then-address-mask c =
    follows_elsewhere c.args.best (omega (arith, c.ranges.address)) c.requires c.mask.ensures c.if-address-mask.true

pub returns-in-Some : goal.returns-in-Some
returns-in-Some c =
    rw (← c.in-Some.is)
    (follows_shorter c.args.best (omega (arith, c.ranges.address)) c.requires (omega (arith, c.if-size-longest.true, ap level_of c.in-Some.is)))

pub returns-in_default : goal.returns-in_default
returns-in_default c =
    follows_taken c.args.best (omega (arith, c.ranges.address)) c.requires c.mask.ensures
    (omega (arith, c.if-size-longest.false, ap level_of c.in-Some.is)) c.if-address-mask.false

pub returns-in_default-2 : goal.returns-in_default-2
returns-in_default-2 c =
    follows_taken c.args.best (omega (arith, c.ranges.address)) c.requires c.mask.ensures
    (omega (arith, ap level_of c.in_default.is)) c.if-address-mask.false
