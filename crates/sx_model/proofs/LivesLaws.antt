-- Who lives when a client begins or ends a transaction.
use Rattle.std.proofs.Common.{◌≡◌, ◌==◌, inl, inr, ℕ, true, false, List, [], ◌∷◌, map, Some, None, refl, sym, ap, ◌∙◌, subst, arith}
use Rattle.std.specs.Prelude.{nat_eq}
use Rattle.std.specs.List.{IsDistinct, AllByRecursion}
use Rattle.std.proofs.lemmas.Bool.{eqb-true}
use Rattle.std.proofs.lemmas.Bool.Decides.{nat_tests}
use Rattle.sx_log.specs.declared.record.Rec.{Rec}
use Rattle.sx_model.specs.Leaves.{Living, without, txn_among}
use Rattle.sx_model.proofs.TestLaws.{by_cases, chosen, passed}
use Rattle.sx_model.proofs.RollbackLaws.{Lives}
use Rattle.sx_model.proofs.EndingLaws.{Ends, IsUnknown, Begins}

-- what two equal options have is one
some_is : {T : Type 0} (x y : T) → Some x ≡ Some y → x ≡ y
some_is x y e = cc

-- a client is in its first transaction of these, or in one of the rest
among_here : (x : Living) (xs : List Living) (client txn : ℕ) → (x.client == client) ≡ true → txn_among (x ∷ xs) client ≡ Some txn → x.txn ≡ txn
among_here x xs client txn here e = some_is x.txn txn (sym (chosen (x.client == client) (Some x.txn) (txn_among xs client) here) ∙ e)

-- another client is in one of the rest
among_rest : (x : Living) (xs : List Living) (client : ℕ) → (x.client == client) ≡ false → txn_among (x ∷ xs) client ≡ txn_among xs client
among_rest x xs client away = passed (x.client == client) (Some x.txn) (txn_among xs client) away

-- where each transaction is another than this one, so is a client's
not_among : (n : ℕ) (xs : List Living) (client txn : ℕ) → AllByRecursion (λ t. nat_eq n t ≡ false) (map (λ (l : Living). l.txn) xs) → txn_among xs client ≡ Some txn → nat_eq n txn ≡ false
not_among n [] client txn all e = absurd (cc)
not_among n (x ∷ xs) client txn all e = by_cases (x.client == client)
    (λ here. subst (λ t. nat_eq n t ≡ false) (among_here x xs client txn here e) all.0)
    (λ away. not_among n xs client txn all.1 (sym (among_rest x xs client away) ∙ e))

-- two numbers that are this one are one
same_client : (c a b : ℕ) → (c == a) ≡ true → (c == b) ≡ true → a ≡ b
same_client c a b d e = grind (arith, nat_tests)

-- a number does not differ from itself, by the test that tells lists of numbers apart
apart : (n t : ℕ) → n ≡ t → nat_eq n t ≡ false → ⊥
apart n t same differs = grind (arith, nat_tests)

-- a transaction is one client's
pub one_client : (xs : List Living) (a b txn : ℕ) → IsDistinct nat_eq (map (λ (l : Living). l.txn) xs) → txn_among xs a ≡ Some txn → txn_among xs b ≡ Some txn → a ≡ b
unfolding IsDistinct
one_client [] a b txn d p q = absurd (cc)
one_client (x ∷ xs) a b txn d p q = by_cases (x.client == a)
    (λ here. by_cases (x.client == b)
    (λ there. same_client x.client a b here there)
    (λ away. absurd (apart x.txn txn (among_here x xs a txn here p) (not_among x.txn xs b txn d.0 (sym (among_rest x xs b away) ∙ q)))))
    (λ away. by_cases (x.client == b)
    (λ there. absurd (apart x.txn txn (among_here x xs b txn there q) (not_among x.txn xs a txn d.0 (sym (among_rest x xs a away) ∙ p))))
    (λ far. one_client xs a b txn d.1 (sym (among_rest x xs a away) ∙ p) (sym (among_rest x xs b far) ∙ q)))

-- a client that has ended is in no transaction
pub without_own : (client : ℕ) (xs : List Living) → txn_among (without client xs) client ≡ None
without_own client [] = refl
without_own client (x ∷ xs) = by_cases (x.client == client) (λ here. rw here (without_own client xs)) (λ away. rw away (rw away (without_own client xs)))

-- a number that is another than a second is another than what equals the second
clashes : (c a b : ℕ) → (c == a) ≡ true → (b == a) ≡ false → (c == b) ≡ false
clashes c a b d e = grind (arith, nat_tests)

-- and others are in the ones that they were in
without_other : (client other : ℕ) (xs : List Living) → (other == client) ≡ false → txn_among (without client xs) other ≡ txn_among xs other
without_other client other [] differs = refl
without_other client other (x ∷ xs) differs = by_cases (x.client == client)
    (λ here. rw here (without_other client other xs differs ∙ sym (among_rest x xs other (clashes x.client client other here differs))))
    (λ away. rw away (by_cases (x.client == other) (λ there. rw there refl) (λ far. rw far (without_other client other xs differs))))

-- numbers that are not one differ
differ : (a b : ℕ) → (a ≡ b → ⊥) → (a == b) ≡ false
differ a b never = by_cases (a == b) (λ same. absurd (never (eqb-true a b same))) (λ other. other)

-- a number does not differ from itself
not_itself : (a b : ℕ) → a ≡ b → (a == b) ≡ false → ⊥
not_itself a b same differs = grind (arith, nat_tests)

-- whoever lives behind an end is another client than the one that ended
another : (client : ℕ) (xs : List Living) (txn : ℕ) (l : Lives (without client xs) txn) → (l.client == client) ≡ false
another client xs txn l = differ l.client client (λ same. let e = l.is in let none : txn_among (without client xs) l.client ≡ None = subst (λ c. txn_among (without client xs) c ≡ None) (sym same) (without_own client xs) in absurd (cc))

-- a client ends its transaction
pub client_ends : (client : ℕ) (xs : List Living) (txn : ℕ) → IsDistinct nat_eq (map (λ (l : Living). l.txn) xs) → txn_among xs client ≡ Some txn → Ends xs (without client xs) txn
client_ends client xs txn distinct inside = record {
  lived = λ other l. record { client = l.client; is = sym (without_other client l.client xs (another client xs other l)) ∙ l.is };
  gone = λ other l.
      let there : txn_among xs l.client ≡ Some other = sym (without_other client l.client xs (another client xs other l)) ∙ l.is in
      differ other txn (λ same. not_itself l.client client (one_client xs l.client client txn distinct (subst (λ t. txn_among xs l.client ≡ Some t) same there) inside) (another client xs other l));
  others = λ other l differs.
      let away = differ l.client client (λ same. not_itself other txn (some_is other txn (sym l.is ∙ (ap (txn_among xs) same ∙ inside))) differs) in
      record { client = l.client; is = without_other client l.client xs away ∙ l.is };
}

-- a client begins a transaction that the log knows nothing of
pub client_begins : (client : ℕ) (xs : List Living) (txn : ℕ) (log : List Rec) → txn_among xs client ≡ None → IsUnknown log txn → Begins xs (record { client = client; txn = txn } ∷ xs) log
client_begins client xs txn log outside unknown = record {
  lives_on = λ other l.
      let away = differ client l.client (λ same. let e = l.is in let free : txn_among xs l.client ≡ None = subst (λ c. txn_among xs c ≡ None) same outside in absurd (cc)) in
      record { client = l.client; is = among_rest (record { client = client; txn = txn }) xs l.client away ∙ l.is };
  either = λ other l. by_cases (client == l.client)
      (λ here. inr (subst (IsUnknown log) (among_here (record { client = client; txn = txn }) xs l.client other here l.is) unknown))
      (λ away. inl (record { client = l.client; is = sym (among_rest (record { client = client; txn = txn }) xs l.client away) ∙ l.is }));
}
