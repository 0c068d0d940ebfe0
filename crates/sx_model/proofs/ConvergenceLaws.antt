-- Convergence for one key: what was read of it at some place from the Mark on, and then every record behind the Mark, give its state.
use Rattle.std.proofs.Common.{◌≡◌, ◌≤◌, ◌<◌, ◌+◌, ◌++◌, ◌⊎◌, inl, inr, ℕ, true, false, List, [], ◌∷◌, length, nat_lt, Option, Some, None, option_map, refl, sym, ap, ◌∙◌, arith}
use Rattle.std.proofs.lemmas.Bool.{false≢true, cases_lt}
use Rattle.std.proofs.lemmas.Bool.Decides.{nat_tests}
use Rattle.sx_lists.specs.Places.{numbered}
use Rattle.sx_values.specs.declared.value.Value.{Value}
use Rattle.sx_log.specs.declared.record.Rec.{Rec}
use Rattle.sx_log.specs.declared.record.Body.{Body}
use Rattle.sx_log.specs.declared.record.Body.TheVariants.{Write, Undo, Commit, Abort, Mark, Check, Switch}
use Rattle.sx_log.specs.State.{Stored, stored, is_place, state_at}
use Rattle.sx_log.specs.Copies.{unseen, redo, copied, redone}
use Rattle.sx_model.specs.Scans.{is_about}
use Rattle.sx_model.specs.Befores.{before_of, KeepsSince}
use Rattle.sx_model.proofs.StateLaws.{image_of, after_elsewhere, after_there}
use Rattle.sx_model.proofs.TestLaws.{by_cases, chosen, passed}
use Rattle.sx_model.proofs.LsnLaws.{halves, record_of, numbered_within, numbered-here, numbered-earlier}

-- a record that isn't about a key leaves it in the copy
copied_elsewhere : (table : List ℕ) (place : ℕ) (body : Body) (key : List Value) (known : Option Stored) → is_about body table key ≡ false → copied table place body key known ≡ known
unfolding copied is_about
copied_elsewhere table place (Write written at before after) key known e = passed (is_place written at table key) (redo place before after known) known e
copied_elsewhere table place (Undo undoes written at before after) key known e = passed (is_place written at table key) (redo place before after known) known e
copied_elsewhere table place Commit key known e = refl
copied_elsewhere table place Abort key known e = refl
copied_elsewhere table place Mark key known e = refl
copied_elsewhere table place (Check group dep) key known e = refl
copied_elsewhere table place Switch key known e = refl

-- and one that is sets it by its images
copied_there : (table : List ℕ) (place : ℕ) (body : Body) (key : List Value) (known : Option Stored) → is_about body table key ≡ true → copied table place body key known ≡ redo place (before_of body) (image_of body) known
unfolding copied is_about
copied_there table place (Write written at before after) key known e = chosen (is_place written at table key) (redo place before after known) known e
copied_there table place (Undo undoes written at before after) key known e = chosen (is_place written at table key) (redo place before after known) known e
copied_there table place Commit key known e = absurd (cc)
copied_there table place Abort key known e = absurd (cc)
copied_there table place Mark key known e = absurd (cc)
copied_there table place (Check group dep) key known e = absurd (cc)
copied_there table place Switch key known e = absurd (cc)

-- a place behind the first one is redone
redone_more : (r : Rec) (past : List Rec) (place : ℕ) (table : List ℕ) (key : List Value) (known : Option Stored) → place ≤ length past → redone (r ∷ past) place table key known ≡ copied table (length past + 1) r.body key (redone past place table key known)
redone_more r past place table key known behind = chosen (nat_lt place (length past + 1)) (copied table (length past + 1) r.body key (redone past place table key known)) known (grind (arith, nat_tests))

-- a key whose row is older than a record takes its image after
redo_newer : (place : ℕ) (before after : Option (List Value)) (row : List Value) (lsn : ℕ) → lsn < place → redo place before after (Some (row, lsn)) ≡ stored place after
redo_newer place before after row lsn less = chosen (nat_lt lsn place) (stored place after) (Some (row, lsn)) (grind (arith, nat_tests))

-- and one whose row is not older stays
redo_older : (place : ℕ) (before after : Option (List Value)) (row : List Value) (lsn : ℕ) → place ≤ lsn → redo place before after (Some (row, lsn)) ≡ Some (row, lsn)
redo_older place before after row lsn more = passed (nat_lt lsn place) (stored place after) (Some (row, lsn)) (grind (arith, nat_tests))

-- where nothing was read of a key, the copy has nothing of it, or its state
redo_none : (log : List Rec) (place : ℕ) (table : List ℕ) (key : List Value) → (redone log place table key None ≡ None) ⊎ (redone log place table key None ≡ state_at log table key)
redo_none [] place table key = inl refl
redo_none (r ∷ past) place table key =
    by_cases (nat_lt place (length past + 1)) (behind (redo_none past place table key)) (λ e. inl (passed (nat_lt place (length past + 1)) (copied table (length past + 1) r.body key (redone past place table key None)) None e))
  where
    Ends : Type 0
    Ends = (redone (r ∷ past) place table key None ≡ None) ⊎ (redone (r ∷ past) place table key None ≡ state_at (r ∷ past) table key)

    more : place ≤ length past → redone (r ∷ past) place table key None ≡ copied table (length past + 1) r.body key (redone past place table key None)
    more h = redone_more r past place table key None h

    elsewhere : place ≤ length past → is_about r.body table key ≡ false → (redone past place table key None ≡ None) ⊎ (redone past place table key None ≡ state_at past table key) → Ends
    elsewhere h a (inl none) = inl (more h ∙ copied_elsewhere table (length past + 1) r.body key (redone past place table key None) a ∙ none)
    elsewhere h a (inr same) = inr (more h ∙ copied_elsewhere table (length past + 1) r.body key (redone past place table key None) a ∙ same ∙ sym (after_elsewhere (length past + 1) r.body table key (state_at past table key) a))

    -- the copy lacks the key
    lacking : place ≤ length past → is_about r.body table key ≡ true → redone past place table key None ≡ None → (before : Option (List Value)) → before_of r.body ≡ before → Ends
    lacking h a none None b =
        inr (more h ∙ copied_there table (length past + 1) r.body key (redone past place table key None) a ∙ ap (redo (length past + 1) (before_of r.body) (image_of r.body)) none ∙ ap (λ x. unseen (length past + 1) x (image_of r.body)) b
        ∙ sym (after_there (length past + 1) r.body table key (state_at past table key) a))
    lacking h a none (Some row) b =
        inl (more h ∙ copied_there table (length past + 1) r.body key (redone past place table key None) a ∙ ap (redo (length past + 1) (before_of r.body) (image_of r.body)) none ∙ ap (λ x. unseen (length past + 1) x (image_of r.body)) b)

    -- the copy has the state
    having : place ≤ length past → is_about r.body table key ≡ true → redone past place table key None ≡ state_at past table key → (now : Option Stored) → state_at past table key ≡ now → Ends
    having h a same None now = lacking h a (same ∙ now) (before_of r.body) refl
    having h a same (Some s) now =
        let within = (record_of past table key s.0 s.1 now).last in
        inr (more h ∙ copied_there table (length past + 1) r.body key (redone past place table key None) a ∙ ap (redo (length past + 1) (before_of r.body) (image_of r.body)) (same ∙ now)
        ∙ redo_newer (length past + 1) (before_of r.body) (image_of r.body) s.0 s.1 (omega arith) ∙ sym (after_there (length past + 1) r.body table key (state_at past table key) a))

    there : place ≤ length past → is_about r.body table key ≡ true → (redone past place table key None ≡ None) ⊎ (redone past place table key None ≡ state_at past table key) → Ends
    there h a (inl none) = lacking h a none (before_of r.body) refl
    there h a (inr same) = having h a same (state_at past table key) refl

    behind : (redone past place table key None ≡ None) ⊎ (redone past place table key None ≡ state_at past table key) → nat_lt place (length past + 1) ≡ true → Ends
    behind earlier e =
        let h : place ≤ length past = grind (arith, nat_tests) in
        by_cases (is_about r.body table key) (λ a. there h a earlier) (λ a. elsewhere h a earlier)

-- no record about a key is newer than its row
newest : (log : List Rec) (table : List ℕ) (key row : List Value) (lsn n : ℕ) (x : Rec) → state_at log table key ≡ Some (row, lsn) → numbered log n ≡ Some x → is_about x.body table key ≡ true → n ≤ lsn
newest [] table key row lsn n x now is about = absurd (cc)
newest (r ∷ past) table key row lsn n x now is about = by_cases (is_about r.body table key) here (earlier (λ was older. newest past table key row lsn n x was older about))
  where
    within : n ≤ length past + 1
    within = (let w = numbered_within (r ∷ past) n x is in omega arith)

    here : is_about r.body table key ≡ true → n ≤ lsn
    here a =
        let same = (halves lsn (length past + 1) (image_of r.body) row (sym (after_there (length past + 1) r.body table key (state_at past table key) a) ∙ now)).same_lsn in
        let w = within in
        omega arith

    one : (a b : Rec) → Some a ≡ Some b → a ≡ b
    one a b e = cc

    last : is_about r.body table key ≡ false → n ≡ length past + 1 → ⊥
    last a e =
        let same : r ≡ x = one r x (sym (numbered-here r past n e) ∙ is) in
        absurd (false≢true (sym a ∙ ap (λ (y : Rec). is_about y.body table key) same ∙ about))

    earlier : (state_at past table key ≡ Some (row, lsn) → numbered past n ≡ Some x → n ≤ lsn) → is_about r.body table key ≡ false → n ≤ lsn
    earlier below a = elim (cases_lt n (length past + 1)) [
      | inl less ↦ below (sym (after_elsewhere (length past + 1) r.body table key (state_at past table key) a) ∙ now) (sym (numbered-earlier r past n (omega arith)) ∙ is)
      | inr more ↦ (let w = within in absurd (last a (omega arith)))
    ]

-- where no record about a key is newer than what was read of it, that stays
redo_kept : (log : List Rec) (place : ℕ) (table : List ℕ) (key row : List Value) (lsn : ℕ) → ((n : ℕ) (x : Rec) → numbered log n ≡ Some x → is_about x.body table key ≡ true → n ≤ lsn) → redone log place table key (Some (row, lsn)) ≡ Some (row, lsn)
redo_kept [] place table key row lsn older = refl
redo_kept (r ∷ past) place table key row lsn older =
    by_cases (nat_lt place (length past + 1)) (behind (redo_kept past place table key row lsn (λ n x e a. older n x (numbered-earlier r past n (numbered_within past n x e) ∙ e) a))) (λ e. passed (nat_lt place (length past + 1)) (copied table (length past + 1) r.body key (redone past place table key (Some (row, lsn)))) (Some (row, lsn)) e)
  where
    behind : redone past place table key (Some (row, lsn)) ≡ Some (row, lsn) → nat_lt place (length past + 1) ≡ true → redone (r ∷ past) place table key (Some (row, lsn)) ≡ Some (row, lsn)
    behind kept e =
        redone_more r past place table key (Some (row, lsn)) (grind (arith, nat_tests))
        ∙ by_cases (is_about r.body table key)
        (λ a. copied_there table (length past + 1) r.body key (redone past place table key (Some (row, lsn))) a ∙ ap (redo (length past + 1) (before_of r.body) (image_of r.body)) kept
        ∙ redo_older (length past + 1) (before_of r.body) (image_of r.body) row lsn (older (length past + 1) r (numbered-here r past (length past + 1) refl) a))
        (λ a. copied_elsewhere table (length past + 1) r.body key (redone past place table key (Some (row, lsn))) a ∙ kept)

-- at the place where a key was read its copy is the state there
redo_read : (log : List Rec) (place : ℕ) (table : List ℕ) (key : List Value) (now : Option Stored) → state_at log table key ≡ now → redone log place table key now ≡ now
redo_read log place table key None is = elim (redo_none log place table key) [
  | inl none ↦ none
  | inr same ↦ same ∙ is
]
redo_read log place table key (Some s) is = redo_kept log place table key s.0 s.1 (λ n x e a. newest log table key s.0 s.1 n x is e a)

-- and each record behind it leaves the copy at the state
pub converges : (newer log : List Rec) (mark : ℕ) (table : List ℕ) (key : List Value) → mark ≤ length log → KeepsSince mark (newer ++ log) table key → redone (newer ++ log) mark table key (state_at log table key) ≡ state_at (newer ++ log) table key
converges [] log mark table key from keeps = redo_read log mark table key (state_at log table key) refl
converges (r ∷ newer) log mark table key from keeps =
    redone_more r (newer ++ log) mark table key (state_at log table key) (longer newer)
    ∙ by_cases (is_about r.body table key) (λ a. there (converges newer log mark table key from keeps.0) a (state_at (newer ++ log) table key) refl)
    (λ a. copied_elsewhere table (length (newer ++ log) + 1) r.body key (redone (newer ++ log) mark table key (state_at log table key)) a ∙ converges newer log mark table key from keeps.0
    ∙ sym (after_elsewhere (length (newer ++ log) + 1) r.body table key (state_at (newer ++ log) table key) a))
  where
    longer : (more : List Rec) → mark ≤ length (more ++ log)
    longer [] = from
    longer (x ∷ more) = let rest = longer more in omega arith

    there : redone (newer ++ log) mark table key (state_at log table key) ≡ state_at (newer ++ log) table key → is_about r.body table key ≡ true → (now : Option Stored) → state_at (newer ++ log) table key ≡ now → copied table (length (newer ++ log) + 1) r.body key (redone (newer ++ log) mark table key (state_at log table key)) ≡ state_at (r ∷ newer ++ log) table key
    there same a None now =
        let absent : before_of r.body ≡ None = keeps.1 (longer newer) a ∙ ap (option_map (λ (s : Stored). s.0)) now in
        copied_there table (length (newer ++ log) + 1) r.body key (redone (newer ++ log) mark table key (state_at log table key)) a
        ∙ ap (redo (length (newer ++ log) + 1) (before_of r.body) (image_of r.body)) (same ∙ now) ∙ ap (λ x. unseen (length (newer ++ log) + 1) x (image_of r.body)) absent
        ∙ sym (after_there (length (newer ++ log) + 1) r.body table key (state_at (newer ++ log) table key) a)
    there same a (Some s) now =
        let within = (record_of (newer ++ log) table key s.0 s.1 now).last in
        copied_there table (length (newer ++ log) + 1) r.body key (redone (newer ++ log) mark table key (state_at log table key)) a
        ∙ ap (redo (length (newer ++ log) + 1) (before_of r.body) (image_of r.body)) (same ∙ now)
        ∙ redo_newer (length (newer ++ log) + 1) (before_of r.body) (image_of r.body) s.0 s.1 (omega arith)
        ∙ sym (after_there (length (newer ++ log) + 1) r.body table key (state_at (newer ++ log) table key) a)
