use Rattle.std.proofs.Common.{◌≡◌, None, rules, not, subst, sym}
use Rattle.std.proofs.lemmas.Fn.{filter_same}
use Rattle.sx_copy.specs.declared.list.CopyRow.{CopyRow}
use Rattle.sx_copy.specs.CopyLists.{is_at, SetsKey}
use Rattle.sx_copy.specs.Changes.{IsRowAt}
use Rattle.sx_copy.proofs.CopyLemmas.{without_key, taken_out, put_last}
use Rattle.sx_copy.proofs.list.put.Goals as goal

pub returns-in-Some-clause-sets : goal.returns-in-Some-clause-sets
returns-in-Some-clause-sets c =
    let left : c.retain.new.self.items ≡ without_key c.args.side c.args.key.now c.args.rows.now.items = filter_same _ (λ (r : CopyRow). not (is_at c.args.side c.args.key.now r)) _ (λ x b f k. search rules) _ _ c.retain.ensures.filtered in
    let out = subst (SetsKey c.args.side c.args.key.now None c.args.rows.now.items) (sym left) (taken_out c.args.rows.now.items c.args.side c.args.key.now) in
    let here = subst (IsRowAt c.args.side c.args.key.now) c.in-Some.is c.requires.is_row in
    rw (c.push_reserved.ensures.items, c.in-Some.is) (put_last c.args.rows.now.items c.retain.new.self.items c.in-Some.row c.args.side c.args.key.now out here)

pub returns-in_default-clause-sets : goal.returns-in_default-clause-sets
returns-in_default-clause-sets c =
    let left : c.retain.new.self.items ≡ without_key c.args.side c.args.key.now c.args.rows.now.items = filter_same _ (λ (r : CopyRow). not (is_at c.args.side c.args.key.now r)) _ (λ x b f k. search rules) _ _ c.retain.ensures.filtered in
    rw (left, c.in_default.is) (taken_out c.args.rows.now.items c.args.side c.args.key.now)
