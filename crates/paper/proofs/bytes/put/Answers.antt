use Rattle.std.proofs.Common.{arith, refl, sym, ◌∙◌, length}
use Rattle.paper.proofs.Parted.{put-there, put-none, put-laid}
use Rattle.paper.proofs.bytes.put.Goals as goal

pub returns-then-bytes-part : goal.returns-then-bytes-part
returns-then-bytes-part c = sym (put-none c.args.bytes.now c.args.i c.args.part.now (omega arith))

pub returns-then-bytes-part-2 : goal.returns-then-bytes-part-2
returns-then-bytes-part-2 c = sym (put-none c.args.bytes.now c.args.i c.args.part.now (omega arith))

pub returns : goal.returns
returns c =
    let a = c.args in
    rw c.copy_from_slice.ensures.after (
    put-laid a.i (length a.part.now) a.bytes.now a.part.now refl
    ∙ sym (put-there a.bytes.now a.i a.part.now (omega arith))
    )
