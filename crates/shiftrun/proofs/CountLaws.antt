-- The lines of each client, counted from the first on.
use Rattle.std.proofs.Common.{◌≡◌, ◌≢◌, ◌≤◌, ◌<◌, ◌+◌, ◌-◌, ◌==◌, ◌++◌, ℕ, true, List, [], ◌∷◌, length, get_or, take, drop, Some, sym, ap, ◌∙◌, subst, arith, eqb-true, append_assoc}
use Rattle.std.specs.Prelude.{slice_get}
use Rattle.std.specs.List.{AllByRecursion}
use Rattle.std.proofs.Math.ListN.{set}
use Rattle.std.proofs.lemmas.Bool.Decides.{nat_tests}
use Rattle.std.proofs.lemmas.List.{length-map, get_or-set_same, get_or-set_other}
use Rattle.std.proofs.lemmas.Option.{slice_get-get_or}
use Rattle.sx_model.specs.Schedules.{Plan, Line}
use Rattle.sx_model.proofs.TestLaws.{by_cases}
use Rattle.sx_script.specs.Sound.{IsClients}
use Rattle.shiftrun.specs.declared.lines.OwnLine.{OwnLine}
use Rattle.shiftrun.specs.Lines.{clients_of, times, own_lines}
use Rattle.shiftrun.proofs.PlaceLaws.{take_next, own_next, times_own, times_other, times_few, times_within, line_at, all_at}

-- the client at a place
pub client_here : (plan : Plan) (items : List ℕ) (k : ℕ) → items ≡ clients_of plan → k < length items → slice_get (clients_of plan) k ≡ Some (get_or items k 0)
client_here plan items k is within = subst (λ clients. slice_get clients k ≡ Some (get_or items k 0)) is (slice_get-get_or items k 0 within)

-- is one from 1 to 8
pub record IsOne (client : ℕ) : Type 0 where
  pub from_one : 1 ≤ client
  pub to_eight : client ≤ 8

pub client_at : (plan : Plan) (items : List ℕ) (k : ℕ) → AllByRecursion IsClients plan.lines → items ≡ clients_of plan → k < length items → IsOne (get_or items k 0)
client_at plan items k all is within =
    let there = line_at plan.lines k (get_or items k 0) (client_here plan items k is within) in
    let one = all_at IsClients plan.lines k there.line all there.here in
    record { from_one = subst (λ n. 1 ≤ n) there.of_client one.from_one; to_eight = subst (λ n. n ≤ 8) there.of_client one.to_eight }

-- and has few lines before that place
pub few_before : (plan : Plan) (items : List ℕ) (k : ℕ) → length plan.lines ≤ 20000 → items ≡ clients_of plan → k < length items → times (get_or items k 0) (take k (clients_of plan)) < 20000
few_before plan items k few is within =
    let client = get_or items k 0 in
    let more = times_within client (clients_of plan) k (client_here plan items k is within) in
    let all = times_few client (clients_of plan) in
    let long : length (clients_of plan) ≡ length plan.lines = length-map plan.lines (λ (l : Line). l.client) in
    omega arith

-- one line more
pub made_next : (clients : List ℕ) (k client index : ℕ) (lines longer : List OwnLine)
    → slice_get clients k ≡ Some client → index ≡ times client (take k clients) → lines ++ own_lines (take k clients) (drop k clients) ≡ own_lines [] clients → longer ≡ lines ++ record { client = client; index = index } ∷ []
    → longer ++ own_lines (take (k + 1) clients) (drop (k + 1) clients) ≡ own_lines [] clients
made_next clients k client index lines longer here is made pushed =
    let line : OwnLine = record { client = client; index = times client (take k clients) } in
    let rest = own_lines (take (k + 1) clients) (drop (k + 1) clients) in
    ap (λ ls. ls ++ rest) (pushed ∙ ap (λ n. lines ++ record { client = client; index = n } ∷ []) is)
    ∙ (append_assoc lines (line ∷ []) rest
    ∙ (ap (λ before. lines ++ line ∷ own_lines before (drop (k + 1) clients)) (take_next clients k client here)
    ∙ (ap (λ ls. lines ++ ls) (sym (own_next (take k clients) clients k client here)) ∙ made)))

-- as many lines of each client as are before a place
abbrev pub Count : (clients : List ℕ) → ℕ → (counts : List ℕ) → Type 0
Count clients k counts = (client : ℕ) → 1 ≤ client → client ≤ 8 → get_or counts (client - 1) 0 ≡ times client (take k clients)

-- one more of one client
pub counts_next : (clients counts : List ℕ) (k mine : ℕ) → slice_get clients k ≡ Some mine → IsOne mine → length counts ≡ 8 → Count clients k counts → Count clients (k + 1) (set counts (mine - 1) (get_or counts (mine - 1) 0 + 1))
counts_next clients counts k mine here one eight has client from to =
    let more = get_or counts (mine - 1) 0 + 1 in
    subst (λ front. get_or (set counts (mine - 1) more) (client - 1) 0 ≡ times client front) (sym (take_next clients k mine here))
    (by_cases (mine == client)
    (λ own.
    let same : mine ≡ client = eqb-true mine client own in
    let itself : (mine == mine) ≡ true = grind (arith, nat_tests) in
    let within : mine - 1 < length counts = (let low = one.from_one in let high = one.to_eight in omega arith) in
    subst (λ n. get_or (set counts (mine - 1) more) (n - 1) 0 ≡ times n (take k clients ++ mine ∷ [])) same
    (get_or-set_same counts (mine - 1) more 0 within ∙ (ap (λ n. n + 1) (has mine one.from_one one.to_eight) ∙ sym (times_own mine (take k clients) mine itself))))
    (λ other.
    let apart : client - 1 ≢ mine - 1 = λ e. absurd (let same : mine ≡ client = (let low = one.from_one in omega arith) in let test : (mine == client) ≡ true = grind (arith, nat_tests) in cc) in
    get_or-set_other counts (mine - 1) (client - 1) more 0 apart ∙ (has client from to ∙ sym (times_other client (take k clients) mine other))))
