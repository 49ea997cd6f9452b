use lib.ListN.{length}
use mathlib.Core.Path.{refl}
use Rattle.paper.proofs.Parted.{put-laid}
use Rattle.cohort.proofs.taking.lay.Goals as goal

pub returns : goal.returns
returns c =
    rw c.copy_from_slice.ensures.after (put-laid c.args.place (length c.args.value.now) c.args.buffer.now c.args.value.now refl)
