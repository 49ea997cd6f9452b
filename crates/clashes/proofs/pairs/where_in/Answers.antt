use Rattle.clashes.proofs.Masking.{marked-yes, marked-no}
use Rattle.clashes.proofs.pairs.where_in.Goals as goal

pub returns-then-one-i-eq0 : goal.returns-then-one-i-eq0
returns-then-one-i-eq0 c =
    rw (marked-no c.args.one c.args.i c.requires c.if-one-i-eq0.true)

pub returns-else-one-i-eq0 : goal.returns-else-one-i-eq0
returns-else-one-i-eq0 c =
    rw (marked-yes c.args.one c.args.i c.requires c.if-one-i-eq0.false)
