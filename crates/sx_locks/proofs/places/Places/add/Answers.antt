use Rattle.std.proofs.Common.{◌∙◌, ◌++◌, ◌∷◌, [], rules, Some, None, sym, ap}
use Rattle.std.specs.BTreeMap.{is_at}
use Rattle.std.specs.Ordering.{nat_cmp}
use Rattle.std.proofs.lemmas.Result.{on_ok_weaker, on_err_weaker}
use Rattle.std.proofs.lemmas.Map.Steps.{set_value_same}
use Rattle.sx_locks.specs.declared.places.Place.{Place}
use Rattle.sx_locks.proofs.PlaceLemmas.{adds_place}
use Rattle.sx_locks.proofs.places.Places.add.Goals as goal

pub returns-in-Some-clause-ok : goal.returns-in-Some-clause-ok
returns-in-Some-clause-ok c =
    let now = c.push.new.self in
    let there = c.in-Some.ensures.value in
    rw (← c.self.view_is, ← c.in_ok-table.ensures, ← c.in_ok-key.ensures) (on_ok_weaker c.push.result (λ pushed. adds_place c.self.inside.places.entries (c.get_mut.follows.lender now).entries c.args.txn (Some c.in-Some.places.now) now (record { table = c.in_ok-table.table; key = c.in_ok-key.key }) there pushed ((c.get_mut.follows.holds now).3 (search rules)).0) c.push.ensures.ok)

pub returns-in-Some-clause-err : goal.returns-in-Some-clause-err
returns-in-Some-clause-err c =
    let now = c.push.new.self in
    rw (← c.self.view_is) (on_err_weaker c.push.result (λ same. (c.get_mut.follows.holds now).0 ∙ set_value_same (is_at (nat_cmp c.args.txn)) c.self.inside.places.entries now (sym c.in-Some.ensures.value ∙ ap Some (sym same))) c.push.ensures.err)

pub returns-in_ok-insert-in-None-clause-ok : goal.returns-in_ok-insert-in-None-clause-ok
returns-in_ok-insert-in-None-clause-ok c =
    let p : Place = record { table = c.in_ok-table.table; key = c.in_ok-key.key } in
    let push = c.in_ok-push-in-None.ensures.ok ∙ ap (λ places. places ++ p ∷ []) c.new-places.ensures in
    let updates = rw c.get_mut.follows.holds-at-none at c.in_ok-insert-in-None.ensures.updates.0 in
    rw (← c.self.view_is, ← c.in_ok-table.ensures, ← c.in_ok-key.ensures) (adds_place c.self.inside.places.entries c.insert.new.self.entries c.args.txn None c.push-in-None.new.self p c.in-None.ensures.value push updates)
