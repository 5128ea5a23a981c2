-- The flag, or nothing past the last flag.
use Rattle.std.proofs.Common.{◌≡◌, arith, refl, le-ltb}
use Rattle.std.proofs.Math.ListN.{get_or, get_or-eq_default}
use Rattle.reasons.specs.Arrays.{is_flagged}
use Rattle.reasons.proofs.scans.is_flagged.Goals as goal

pub returns-then-group-lt1024 : goal.returns-then-group-lt1024
unfolding is_flagged
returns-then-group-lt1024 c = refl

pub returns-else-group-lt1024 : goal.returns-else-group-lt1024
unfolding is_flagged
returns-else-group-lt1024 c =
    let e : get_or c.args.flagged.now c.args.group 0 ≡ 0 = get_or-eq_default c.args.flagged.now 0 (omega arith) in
    rw (e, le-ltb _ _ c.if-group-lt1024.false)
