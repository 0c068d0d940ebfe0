use Rattle.std.proofs.Common.{◌≡◌, sym, subst, rules, IfOk}
use Rattle.std.proofs.lemmas.Result.{IfOk-weaker}
use Rattle.sx_values.specs.Layouts.{Layout, AdmitsKey, Admits, key_of}
use Rattle.sx_values.proofs.SchemaLaws.{admitted_key_of}
use Rattle.sx_values.proofs.schema.Schema.key_of.Goals as goal

pub returns-clause-admitted : goal.returns-clause-admitted
returns-clause-admitted c =
    let row = c.args.row.now in
    let inside = subst (λ (l : Layout). Admits l row) (sym c.self.view_is) c.requires in
    let admitted = subst (λ (l : Layout). AdmitsKey l (key_of l row)) c.self.view_is (admitted_key_of _ row c.self.invariant inside) in
    let key : IfOk c.key_at.result (λ key. key ≡ key_of c.args.self.now row) = search rules in
    IfOk-weaker c.key_at.result (λ key. key ≡ key_of c.args.self.now row) (AdmitsKey c.args.self.now) (λ _ same. subst (AdmitsKey c.args.self.now) (sym same) admitted) key
