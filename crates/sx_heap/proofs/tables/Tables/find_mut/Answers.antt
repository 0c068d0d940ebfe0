use Rattle.std.proofs.Common.{◌≡◌, sym, ◌∙◌, ap, subst, inl, refl, ◌⊎◌}
use Rattle.sx_heap.specs.NamedTables.{AreNamedApart, index_named}
use Rattle.sx_heap.proofs.NameLemmas.{table_named-absent, table_named-first, is_first_named, with_table-first, AreNamedApart-with_table}
use Rattle.sx_heap.proofs.tables.Tables.find_mut.Goals as goal

-- a loan under one name that ends the same at each value ends the same
lent_alike : {N A B : Type 0} (name : N) (one other : A → B) → ((w : A) → one w ≡ other w) → ◌≡◌ {A = (N × (A → B)) ⊎ B} (inl (name, one)) (inl (name, other))
lent_alike name one other same = λ i. inl (name, λ w. same w i)

pub returns-in_err-index : goal.returns-in_err-index
returns-in_err-index c =
    let items = c.self.inside.tables.items in
    let name = c.args.name.now in
    let missed = ap (λ l. index_named l name) (sym c.deref.ensures.value) ∙ sym c.in_err-index.ensures.index in
    rw (← c.self.view_is, c.from_residual.ensures) (refl, record { lends = tt; found = sym (table_named-absent items name missed) })

pub invariant_of-self-lent : goal.invariant_of-self-lent
invariant_of-self-lent c =
    let items = c.self.inside.tables.items in
    let name = c.args.name.now in
    let named = c.index_mut.result.now in
    let place = ap (λ l. index_named l name) (sym c.deref.ensures.value) ∙ sym c.in_ok-index.ensures.index in
    let first = is_first_named items name c.in_ok-index.index named place c.index_mut.ensures.value in
    λ w. subst AreNamedApart (sym (with_table-first items name c.in_ok-index.index named w first)) (AreNamedApart-with_table items name w c.self.invariant)

pub returns : goal.returns
returns c =
    let items = c.self.inside.tables.items in
    let name = c.args.name.now in
    let named = c.index_mut.result.now in
    let place = ap (λ l. index_named l name) (sym c.deref.ensures.value) ∙ sym c.in_ok-index.ensures.index in
    let first = is_first_named items name c.in_ok-index.index named place c.index_mut.ensures.value in
    rw (← c.self.view_is) (lent_alike _ _ _ (λ w. with_table-first items name c.in_ok-index.index named w first), record { lends = tt; found = sym (table_named-first items name c.in_ok-index.index named first) })
