-- Each field is what its function ensures.
use Rattle.replay.specs.Head.{head_of}
use Rattle.replay.proofs.head.HeadFromRefArrayU8HEADBYTES.from.Goals as goal

pub returns : goal.returns
unfolding head_of
returns c = cc
