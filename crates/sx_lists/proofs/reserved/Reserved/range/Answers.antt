use Rattle.std.proofs.Common.{◌≡◌, List, take, drop, IfOk, subst, ap, sym, ◌∙◌}
use Rattle.std.proofs.lemmas.List.{reverse-reverse}
use Rattle.sx_lists.specs.Places.{Growing, following}
use Rattle.sx_lists.proofs.reserved.Reserved.range.Goals as goal

pub returns : goal.returns
returns g c =
    let items = c.self.inside.items.items in
    let from = c.args.from in
    let n = c.args.n in
    let part = c.part_of.ensures ∙ ap (λ l. take n (drop from l)) (c.deref.ensures.value ∙ sym (reverse-reverse items)) in
    let whole = ap (λ (s : Growing g.row.T.Denot). following s.newest from n) c.self.view_is in
    subst (λ (l : List g.row.T.Denot). IfOk c.copies_of.result (λ copies. copies ≡ l)) (part ∙ whole) c.copies_of.ensures
