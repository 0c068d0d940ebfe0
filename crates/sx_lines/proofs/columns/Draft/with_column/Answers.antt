use Rattle.std.proofs.Common.{◌≡◌, ◌++◌, ◌∷◌, [], length, ap, ◌∙◌}
use Rattle.sx_lines.proofs.DraftLaws.{draft_longer, draft_key}
use Rattle.sx_lines.proofs.columns.Draft.with_column.Goals as goal
use Rattle.sx_lines.proofs.columns.Draft.with_column.Goals.{then-in_key+in_ok-key, else-in_key}

pub invariant_of-result : goal.invariant_of-result
invariant_of-result c =
    elim c.if-in_key.branch [
      | then-in_key+in_ok-key w ↦
          let k : c.if-in_key.key ≡ c.self.inside.key ++ length c.self.inside.columns ∷ [] = w.key-is ∙ w.in_ok-key.ensures ∙ ap (λ n. c.self.inside.key ++ n ∷ []) w.len.ensures in
          rw (k, c.in_ok-push.ensures.ok) (draft_key c.self.inside.columns c.self.inside.key c.args.keyed.column c.requires c.self.invariant)
      | else-in_key w ↦
          rw (w.key-is, c.in_ok-push.ensures.ok) (draft_longer c.self.inside.columns c.self.inside.key c.args.keyed.column c.requires c.self.invariant)
    ]
