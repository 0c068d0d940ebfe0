use Rattle.std.proofs.Common.{◌∙◌, Some, ap, sym, subst}
use Rattle.sx_log.specs.declared.record.Body.{Body}
use Rattle.sx_lists.specs.Places.{numbered}
use Rattle.sx_txn.specs.declared.patch.Patch.{Patch}
use Rattle.sx_txn.specs.Managed.{Managed}
use Rattle.sx_txn.specs.Patches.{IsBack}
use Rattle.sx_txn.proofs.PutLemmas.{back_there, back_is, no_record, no_other}
use Rattle.sx_txn.proofs.manager.Manager.patch_of.Goals as goal

pub row_found-requires : goal.row_found-requires
row_found-requires g c =
    let txn = c.in-Some.found.now.txn in
    let found = ap (λ (b : Body). Some (record { txn = txn; body = b })) (sym c.in-Write.is) ∙ c.in-Some.ensures ∙ ap (λ (m : Managed). numbered m.log c.args.undoes) c.self.view_is in
    record { there = back_there c.args.self.now c.args.txn c.args.undoes txn c.in-Write.table c.in-Write.key c.in-Write.before c.in-Write.after c.requires.can found }

pub unreachable-requires : goal.unreachable-requires
unreachable-requires g c =
    no_record c.args.self.now.log c.args.self.now.shapes c.args.txn c.args.undoes c.requires.can (c.in_default.ensures ∙ ap (λ (m : Managed). numbered m.log c.args.undoes) c.self.view_is)

pub unreachable-requires-in_default-body : goal.unreachable-requires-in_default-body
unreachable-requires-in_default-body g c =
    no_other c.args.self.now.log c.args.self.now.shapes c.args.txn c.args.undoes c.in-Some.found.now c.requires.can (c.in-Some.ensures ∙ ap (λ (m : Managed). numbered m.log c.args.undoes) c.self.view_is) c.in_default-body.not-Write

pub returns-clause-ok : goal.returns-clause-ok
returns-clause-ok g c =
    let txn = c.in-Some.found.now.txn in
    let found = ap (λ (b : Body). Some (record { txn = txn; body = b })) (sym c.in-Write.is) ∙ c.in-Some.ensures ∙ ap (λ (m : Managed). numbered m.log c.args.undoes) c.self.view_is in
    let back = back_is c.args.self.now c.args.txn c.args.undoes txn c.in-Write.table c.in-Write.key c.in-Write.before c.in-Write.after c.in_ok-there.there c.requires.can c.requires.last found c.in_ok-there.ensures.row in
    subst (λ (p : Patch). IsBack c.args.self.now c.args.txn c.args.undoes p)
    (λ j. record { table = sym c.in_ok-copy.ensures j; key = sym c.in_ok-copy-2.ensures j; before = c.in_ok-there.there; after = sym c.in_ok-after.ensures j }) back
