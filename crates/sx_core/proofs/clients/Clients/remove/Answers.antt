use Rattle.std.proofs.Common.{◌==◌, ◌∙◌, not, ap, sym, map, rules}
use Rattle.std.proofs.lemmas.Fn.{filter_same}
use Rattle.sx_lists.specs.Places.{Growing}
use Rattle.sx_model.specs.Leaves.{Living, without}
use Rattle.sx_core.specs.Clients.{living_of}
use Rattle.sx_core.specs.declared.clients.Client.{Client}
use Rattle.sx_core.proofs.ClientListLemmas.{without-filter}
use Rattle.sx_core.proofs.clients.Clients.remove.Goals as goal

pub returns : goal.returns
returns c = ap (map living_of) (filter_same _ (λ (item : Client). not (item.client == c.args.client)) _ (λ x b f k. search rules) _ _ c.retain.ensures.filtered) ∙ sym (without-filter c.self.inside.items.items c.args.client) ∙ ap (λ (v : Growing Living). without c.args.client v.newest) c.self.view_is
