-- Clients' lines by their places: each with its index among its client's lines.
use Rattle.std.proofs.Common.{◌≡◌, ◌≤◌, ◌+◌, ◌==◌, ◌++◌, ℕ, zero, suc, true, false, List, [], ◌∷◌, length, map, Some, refl, sym, ap, ◌∙◌, subst, arith, append_assoc, append-nil}
use Rattle.std.specs.Prelude.{slice_get, take, drop}
use Rattle.std.specs.List.{AllByRecursion}
use Rattle.std.proofs.lemmas.Bool.Decides.{nat_tests}
use Rattle.sx_model.specs.Schedules.{Line}
use Rattle.sx_model.proofs.TestLaws.{by_cases}
use Rattle.sx_model.proofs.ScriptLaws.{count_of}
use Rattle.shiftrun.specs.declared.lines.OwnLine.{OwnLine}
use Rattle.shiftrun.specs.Lines.{times, own_lines}

-- a client comes once more, or another does
pub times_own : (client : ℕ) (before : List ℕ) (other : ℕ) → (other == client) ≡ true → times client (before ++ other ∷ []) ≡ times client before + 1
times_own client [] other mine = rw mine refl
times_own client (x ∷ before) other mine =
    let rest = times_own client before other mine in
    by_cases (x == client) (λ t. rw t (omega arith)) (λ f. rw f rest)

pub times_other : (client : ℕ) (before : List ℕ) (other : ℕ) → (other == client) ≡ false → times client (before ++ other ∷ []) ≡ times client before
times_other client [] other differs = rw differs refl
times_other client (x ∷ before) other differs =
    let rest = times_other client before other differs in
    by_cases (x == client) (λ t. rw t (omega arith)) (λ f. rw f rest)

pub times_few : (client : ℕ) (clients : List ℕ) → times client clients ≤ length clients
times_few client [] = omega arith
times_few client (x ∷ clients) =
    let rest = times_few client clients in
    by_cases (x == client) (λ t. rw t (omega arith)) (λ f. rw f (omega arith))

-- a client that comes at a place is counted at most so often before it
pub times_within : (client : ℕ) (clients : List ℕ) (k : ℕ) → slice_get clients k ≡ Some client → times client (take k clients) + 1 ≤ times client clients
times_within client [] k is = absurd (cc)
times_within client (x ∷ clients) zero is =
    let same : x ≡ client = cc in
    let mine : (x == client) ≡ true = grind (arith, nat_tests) in
    rw mine (omega arith)
times_within client (x ∷ clients) (suc k) is =
    let rest = times_within client clients k is in
    by_cases (x == client) (λ t. rw t (omega arith)) (λ f. rw f rest)

-- one more of a list's front
take_suc : {T : Type 0} (xs : List T) (k : ℕ) (x : T) → slice_get xs k ≡ Some x → take (suc k) xs ≡ take k xs ++ x ∷ []
take_suc [] k x is = absurd (cc)
take_suc (y ∷ ys) zero x is = (let same : y ≡ x = cc in ap (λ z. z ∷ []) same)
take_suc (y ∷ ys) (suc k) x is = ap (λ zs. y ∷ zs) (take_suc ys k x is)

pub take_next : {T : Type 0} (xs : List T) (k : ℕ) (x : T) → slice_get xs k ≡ Some x → take (k + 1) xs ≡ take k xs ++ x ∷ []
take_next xs k x is = (let one : k + 1 ≡ suc k = omega arith in ap (λ n. take n xs) one ∙ take_suc xs k x is)

-- and the rest of it
drop_suc : {T : Type 0} (xs : List T) (k : ℕ) (x : T) → slice_get xs k ≡ Some x → drop k xs ≡ x ∷ drop (suc k) xs
drop_suc [] k x is = absurd (cc)
drop_suc (y ∷ ys) zero x is = (let same : y ≡ x = cc in ap (λ z. z ∷ ys) same)
drop_suc (y ∷ ys) (suc k) x is = drop_suc ys k x is

pub drop_next : {T : Type 0} (xs : List T) (k : ℕ) (x : T) → slice_get xs k ≡ Some x → drop k xs ≡ x ∷ drop (k + 1) xs
drop_next xs k x is = (let one : suc k ≡ k + 1 = omega arith in drop_suc xs k x is ∙ ap (λ n. x ∷ drop n xs) one)

split_suc : {T : Type 0} (xs : List T) (k : ℕ) (x : T) → slice_get xs k ≡ Some x → take k xs ++ x ∷ drop (suc k) xs ≡ xs
split_suc [] k x is = absurd (cc)
split_suc (y ∷ ys) zero x is = (let same : x ≡ y = cc in ap (λ z. z ∷ ys) same)
split_suc (y ∷ ys) (suc k) x is = ap (λ zs. y ∷ zs) (split_suc ys k x is)

pub split_at : {T : Type 0} (xs : List T) (k : ℕ) (x : T) → slice_get xs k ≡ Some x → take k xs ++ x ∷ drop (k + 1) xs ≡ xs
split_at xs k x is = (let one : k + 1 ≡ suc k = omega arith in ap (λ n. take k xs ++ x ∷ drop n xs) one ∙ split_suc xs k x is)

pub take_whole : {T : Type 0} (xs : List T) (k : ℕ) → length xs ≤ k → take k xs ≡ xs
take_whole [] zero over = refl
take_whole [] (suc k) over = refl
take_whole (x ∷ xs) zero over = absurd (omega arith)
take_whole (x ∷ xs) (suc k) over = ap (λ ys. x ∷ ys) (take_whole xs k (omega arith))

-- what holds of each item holds of the one at a place
pub all_at : {T : Type 0} (P : T → Type 0) (xs : List T) (k : ℕ) (x : T) → AllByRecursion P xs → slice_get xs k ≡ Some x → P x
all_at P [] k x all is = absurd (cc)
all_at P (y ∷ ys) zero x all is = let same : y ≡ x = cc in subst P same all.0
all_at P (y ∷ ys) (suc k) x all is = all_at P ys k x all.1 is

-- of each line there is one
pub own_lines_length : (before clients : List ℕ) → length (own_lines before clients) ≡ length clients
own_lines_length before [] = refl
own_lines_length before (client ∷ clients) = ap suc (own_lines_length (before ++ client ∷ []) clients)

-- a line's client is the one at its place, and its index counts that client before
pub record IsAt (before clients : List ℕ) (k : ℕ) (line : OwnLine) : Type 0 where
  pub here : slice_get clients k ≡ Some line.client
  pub index : line.index ≡ times line.client (before ++ take k clients)

pub own_at : (before clients : List ℕ) (k : ℕ) (line : OwnLine) → slice_get (own_lines before clients) k ≡ Some line → IsAt before clients k line
own_at before [] k line is = absurd (cc)
own_at before (client ∷ clients) zero line is =
    let same : record { client = client; index = times client before } ≡ line = cc in
    subst (IsAt before (client ∷ clients) zero) same (record { here = refl; index = ap (times client) (sym (append-nil before)) })
own_at before (client ∷ clients) (suc k) line is =
    let rest = own_at (before ++ client ∷ []) clients k line is in
    record { here = rest.here; index = rest.index ∙ ap (times line.client) (append_assoc before (client ∷ []) (take k clients)) }

-- the next line
pub own_next : (before clients : List ℕ) (k client : ℕ) → slice_get clients k ≡ Some client → own_lines before (drop k clients) ≡ record { client = client; index = times client before } ∷ own_lines (before ++ client ∷ []) (drop (k + 1) clients)
own_next before clients k client is = ap (own_lines before) (drop_next clients k client is)

-- as many lines of a client are among the first as its number is among their clients
pub times_count : (client k : ℕ) (lines : List Line) → times client (take k (map (λ (l : Line). l.client) lines)) ≡ count_of client (take k lines)
times_count client zero [] = refl
times_count client (suc k) [] = refl
times_count client zero (l ∷ lines) = refl
times_count client (suc k) (l ∷ lines) =
    let rest = times_count client k lines in
    by_cases (l.client == client) (λ t. rw t (ap suc rest)) (λ f. rw f rest)

pub times_all : (client : ℕ) (lines : List Line) → times client (map (λ (l : Line). l.client) lines) ≡ count_of client lines
times_all client [] = refl
times_all client (l ∷ lines) =
    let rest = times_all client lines in
    by_cases (l.client == client) (λ t. rw t (ap suc rest)) (λ f. rw f rest)

-- the line at a client's place
pub record LineAt (lines : List Line) (k client : ℕ) : Type 0 where
  pub line : Line
  pub here : slice_get lines k ≡ Some line
  pub of_client : line.client ≡ client

pub line_at : (lines : List Line) (k client : ℕ) → slice_get (map (λ (l : Line). l.client) lines) k ≡ Some client → LineAt lines k client
line_at [] k client is = absurd (cc)
line_at (l ∷ lines) zero client is = record { line = l; here = refl; of_client = (let same : Some l.client ≡ Some client = is in cc) }
line_at (l ∷ lines) (suc k) client is = (let rest = line_at lines k client is in record { line = rest.line; here = rest.here; of_client = rest.of_client })
