-- Keys that tie in the order of keys are one key, and names with the same bytes are one name.
use Rattle.std.proofs.Common.{◌≡◌, ℕ, true, List, refl, Equal, Decides}
use Rattle.std.specs.Cmp.Lexicographic.{lists_total, bytes_decides}
use Rattle.std.proofs.lemmas.Cmp.{tied_itself}
use Rattle.sx_values.specs.declared.value.Value.{Value}
use Rattle.sx_values.specs.Values.{value_cmp, values_cmp}
use Rattle.sx_values.specs.ValueLaws.{same_from_ties, value_tie, value_cmp_total}
use Rattle.sx_values.specs.Names.{same_name}

-- keys that tie are one key
pub values_tie : (k q : List Value) → values_cmp k q ≡ Equal → k ≡ q
values_tie k q e = same_from_ties value_cmp value_tie k q e

-- a key ties with itself
pub values_cmp-refl : (k : List Value) → values_cmp k k ≡ Equal
values_cmp-refl k = tied_itself (lists_total value_cmp_total) k

-- names with the same bytes are one name
pub same_name_tells : (a b : List ℕ) → same_name a b ≡ true → a ≡ b
same_name_tells a b e = (bytes_decides a b).0 e

pub same_name-refl : (a : List ℕ) → same_name a a ≡ true
same_name-refl a = (bytes_decides a a).1 refl

-- whether two names have the same bytes decides whether they are one
pub same_name_decides : (a b : List ℕ) → Decides (same_name a b) (a ≡ b)
same_name_decides = bytes_decides
