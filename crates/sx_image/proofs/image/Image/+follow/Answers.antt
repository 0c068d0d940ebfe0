use Rattle.sx_image.proofs.FollowLemmas.{both_done}
use Rattle.sx_image.proofs.image.Image.+follow.Goals as goal

pub returns-clause-ok : goal.returns-clause-ok
returns-clause-ok g t c =
    both_done c.follow.result c.args.recs.now c.args.end c.first-item.result c.args.self.now c.apply.new.self c.follow.new.self c.in-len1-up.len_at_least c.first-item.is c.in_ok-apply.ensures.ok c.follow.ensures.ok
