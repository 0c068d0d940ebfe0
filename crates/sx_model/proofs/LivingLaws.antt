-- Who lives in a legal journal: clients that differ, in transactions that differ.
use Rattle.std.proofs.Common.{◌≡◌, ◌≤◌, ◌<◌, ◌+◌, ◌==◌, ℕ, Bool, true, false, not, List, [], ◌∷◌, length, map, Some, None, refl, sym, subst, arith, eqb, eqb-true}
use Rattle.std.specs.Prelude.{filter, nat_eq}
use Rattle.std.specs.List.{IsDistinct, AllByRecursion, list_any}
use Rattle.std.proofs.lemmas.Bool.Decides.{nat_tests}
use Rattle.std.proofs.lemmas.List.{length-map}
use Rattle.std.proofs.lemmas.Map.Keys.{IsDistinct-cons}
use Rattle.std.proofs.lemmas.Map.Steps.{length-le_from_distinct_below}
use Rattle.sx_journal.specs.declared.entry.Entry.{Entry}
use Rattle.sx_model.specs.Effects.{Effect, Nothing, Reads, Begins, Writes, Undoes, Commits, Aborts, Starts, Sees, Fetches, Conflicts, Switches, effect}
use Rattle.sx_model.specs.Openings.{Opening}
use Rattle.sx_model.specs.Leaves.{Living, living, living_after, without, txn_among, begun, begun_after}
use Rattle.sx_model.specs.Clients.{IsClient, IsLiving, AreLiving}
use Rattle.sx_model.specs.Logs.{next_lsn}
use Rattle.sx_model.specs.Legal.{Legal}
use Rattle.sx_model.proofs.AllLaws.{all_filter, all_map_filter, all_each, all_images}
use Rattle.sx_model.proofs.TestLaws.{by_cases}
use Rattle.sx_model.proofs.Outcomes.{Outcome, rests, begins, reads, writes, commits, undoes, aborts, starts, sees, fetches, conflicts, switches, outcome}

-- images that differ still do where items are left out
pub distinct_filter : {T S : Type 0} (e : S → S → Bool) (f : T → S) (p : T → Bool) (xs : List T) → IsDistinct e (map f xs) → IsDistinct e (map f (filter p xs))
unfolding IsDistinct
distinct_filter e f p [] d = tt
distinct_filter e f p (x ∷ xs) d =
    let rest = distinct_filter e f p xs d.1 in
    by_cases (p x) (λ t. rw t (all_map_filter (λ y. e (f x) y ≡ false) f p xs d.0, rest)) (λ u. rw u rest)

other_client : (a b : ℕ) → (a == b) ≡ false → nat_eq b a ≡ false
other_client a b e = grind (arith, nat_tests)

-- a client without a transaction is none of those that live
pub none_living : (xs : List Living) (client : ℕ) → txn_among xs client ≡ None → AllByRecursion (λ n. nat_eq client n ≡ false) (map (λ (l : Living). l.client) xs)
none_living [] client outside = tt
none_living (x ∷ xs) client outside = by_cases (x.client == client) (λ t. absurd (let found : txn_among (x ∷ xs) client ≡ Some x.txn = rw t refl in cc)) (λ f. (other_client x.client client f, none_living xs client (rw f at outside)))

more_living : (n : ℕ) (l : Living) → IsLiving n l → IsLiving (n + 1) l
more_living n l i = record { client = i.client; from_one = i.from_one; to_begun = (let h = i.to_begun in omega arith) }

later_number : (n : ℕ) (l : Living) → IsLiving n l → nat_eq (n + 1) l.txn ≡ false
later_number n l i = let h = i.to_begun in grind (arith, nat_tests)

begun_living : (xs : List Living) (client n : ℕ) → IsClient client → txn_among xs client ≡ None → AreLiving n xs → AreLiving (n + 1) (record { client = client; txn = n + 1 } ∷ xs)
begun_living xs client n c outside a = record {
  each = (record { client = c; from_one = omega arith; to_begun = omega arith }, all_each (IsLiving n) (IsLiving (n + 1)) (more_living n) xs a.each);
  clients = IsDistinct-cons nat_eq client (map (λ (l : Living). l.client) xs) (none_living xs client outside) a.clients;
  txns = IsDistinct-cons nat_eq (n + 1) (map (λ (l : Living). l.txn) xs) (all_images (IsLiving n) (λ t. nat_eq (n + 1) t ≡ false) (λ (l : Living). l.txn) (later_number n) xs a.each) a.txns;
}

ended_living : (xs : List Living) (client n : ℕ) → AreLiving n xs → AreLiving n (without client xs)
ended_living xs client n a = record {
  each = all_filter (IsLiving n) (λ (l : Living). not (l.client == client)) xs a.each;
  clients = distinct_filter nat_eq (λ (l : Living). l.client) (λ (l : Living). not (l.client == client)) xs a.clients;
  txns = distinct_filter nat_eq (λ (l : Living). l.txn) (λ (l : Living). not (l.client == client)) xs a.txns;
}

-- who lives behind an entry with this effect
abbrev LivingAfter : List Entry → Entry → Effect → Type 0
LivingAfter past e f = AreLiving (begun_after f (begun past)) (living_after e.actor f (living past))

living_told : (past : List Entry) (e : Entry) (f : Effect) → effect e.reply ≡ f → LivingAfter past e f → AreLiving (begun (e ∷ past)) (living (e ∷ past))
living_told past e f told after = subst (LivingAfter past e) (sym told) after

living_next : (o : Opening) (past : List Entry) (e : Entry) → AreLiving (begun past) (living past) → Outcome o past e → AreLiving (begun (e ∷ past)) (living (e ∷ past))
living_next o past e a (rests told) = living_told past e Nothing told a
living_next o past e a (begins b) = living_told past e (Begins (begun past + 1)) b.told (begun_living (living past) e.actor (begun past) (record { from_one = b.client.from_one; to_eight = b.client.to_eight }) b.outside a)
living_next o past e a (reads r) = living_told past e Reads r.told a
living_next o past e a (writes w) = living_told past e Writes w.told a
living_next o past e a (commits c) = living_told past e Commits c.told (ended_living (living past) e.actor (begun past) a)
living_next o past e a (undoes u) = living_told past e Undoes u.told a
living_next o past e a (aborts b) = living_told past e Aborts b.told (ended_living (living past) e.actor (begun past) a)
living_next o past e a (starts s) = living_told past e (Starts (next_lsn o past)) s.told a
living_next o past e a (sees s) = living_told past e (Sees s.lsns s.last) s.told a
living_next o past e a (fetches f) = living_told past e (Fetches f.place) f.told a
living_next o past e a (conflicts t told) = living_told past e Conflicts told a
living_next o past e a (switches w) = living_told past e Switches w.told a

-- in a legal journal the live transactions have clients and numbers that differ
pub legal_living : (o : Opening) (past : List Entry) → Legal o past → AreLiving (begun past) (living past)
unfolding IsDistinct
legal_living o [] l = record { each = tt; clients = tt; txns = tt }
legal_living o (e ∷ past) l = living_next o past e (legal_living o past l.0) (outcome o past e l)

-- a number among these, each of which is from 1 to 8
in_range : (ns : List ℕ) (q : ℕ) → AllByRecursion IsClient ns → list_any (eqb q) ns ≡ true → q < 9
in_range [] q all found = absurd (cc)
in_range (n ∷ ns) q all found =
    by_cases (eqb q n) (λ same. let h = all.0.to_eight in grind (arith, nat_tests)) (λ other. in_range ns q all.1 (rw other at found))

not_nobody : (n : ℕ) → IsClient n → nat_eq 0 n ≡ false
not_nobody n c = let h = c.from_one in grind (arith, nat_tests)

below_nine : (ns : List ℕ) (q : ℕ) → AllByRecursion IsClient ns → list_any (eqb q) (0 ∷ ns) ≡ true → q < 9
below_nine ns q all found = by_cases (eqb q 0) (λ same. grind (arith, nat_tests)) (λ other. in_range ns q all (rw other at found))

few_clients : (ns : List ℕ) → AllByRecursion IsClient ns → IsDistinct nat_eq ns → length ns ≤ 8
few_clients ns all d =
    let nobody = IsDistinct-cons nat_eq 0 ns (all_each IsClient (λ n. nat_eq 0 n ≡ false) not_nobody ns all) d in
    let few = length-le_from_distinct_below (0 ∷ ns) 9 nobody (λ q. below_nine ns q all) in
    omega arith

-- and so they are at most 8
pub few_living : (begun : ℕ) (xs : List Living) → AreLiving begun xs → length xs ≤ 8
few_living begun xs a =
    let few = few_clients (map (λ (l : Living). l.client) xs) (all_images (IsLiving begun) IsClient (λ (l : Living). l.client) (λ l i. i.client) xs a.each) a.clients in
    let same = length-map xs (λ (l : Living). l.client) in
    omega arith

-- the transaction of a client is a live one, with a number of its own
pub txn_begun : (begun : ℕ) (xs : List Living) (client txn : ℕ) → AllByRecursion (IsLiving begun) xs → txn_among xs client ≡ Some txn → IsLiving begun (record { client = client; txn = txn })
txn_begun begun [] client txn all is = absurd (cc)
txn_begun begun (x ∷ xs) client txn all is =
    by_cases (x.client == client) (λ t. found x.client x.txn (eqb-true x.client client t) (let shown : Some x.txn ≡ Some txn = rw t at is in cc) all.0) (λ f. txn_begun begun xs client txn all.1 (rw f at is))
  where
    found : (c t : ℕ) → c ≡ client → t ≡ txn → IsLiving begun (record { client = c; txn = t }) → IsLiving begun (record { client = client; txn = txn })
    found c t d e i = subst (λ n. IsLiving begun (record { client = n; txn = txn })) d (subst (λ n. IsLiving begun (record { client = c; txn = n })) e i)

pub few_live : (o : Opening) (past : List Entry) → Legal o past → length (living past) ≤ 8
few_live o past l = few_living (begun past) (living past) (legal_living o past l)
