use mathlib.Core.Path.{subst}
use Rattle.lines.specs.Inner.{Put}
use Rattle.lines.proofs.Puts.{put-copied}
use Rattle.lines.proofs.writing.append.Goals as goal

pub returns : goal.returns
returns c =
    subst (Put _ _ _ _) c.as_bytes-bytes.ensures (put-copied c.args.text.now c.args.place c.as_bytes-bytes.result.now c.copy_from_slice.new.self c.copy_from_slice.ensures.after)
