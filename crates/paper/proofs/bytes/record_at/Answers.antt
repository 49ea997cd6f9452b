use Rattle.paper.proofs.Written.{record_there, record_past, record_counted, record_beyond, record_none}
use native.Mathlib.Omega.{arith}
use mathlib.Core.Path.{sym}
use Rattle.paper.proofs.bytes.record_at.Goals as goal

pub returns-then-width-eq0 : goal.returns-then-width-eq0
returns-then-width-eq0 c =
    rw c.if-width-eq0.true (sym (record_none c.args.bytes.now c.args.i))

pub returns-then-bytes-width : goal.returns-then-bytes-width
returns-then-bytes-width c =
    sym (record_past c.args.bytes.now c.args.width c.args.i (record_beyond c.args.bytes.now c.args.width c.args.i (omega arith) c.if-bytes-width.true))

pub returns : goal.returns
returns c =
    sym (record_there c.args.bytes.now c.args.width c.args.i (record_counted c.args.bytes.now c.args.width c.args.i (omega arith) c.if-bytes-width.false))
