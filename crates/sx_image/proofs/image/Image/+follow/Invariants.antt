use Rattle.std.proofs.Common.{length}
use Rattle.sx_image.proofs.image.Image.+follow.Given as goal

-- proposed from what the function passes where it calls itself
abbrev pub decreases-follow : goal.decreases-follow
decreases-follow g l = length l.recs.now
