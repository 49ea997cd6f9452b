use Rattle.std.proofs.Common.{◌∙◌, ap, arith}
use Rattle.paper.specs.Parts.{put}
use Rattle.paper.proofs.Written.{long-bytes}
use Rattle.paper.proofs.bytes.put_long.Goals as goal

pub returns : goal.returns
returns c = c.put.ensures ∙ ap (put c.args.bytes.now c.args.i) (c.to_be_bytes.ensures ∙ long-bytes c.args.n (omega arith))
