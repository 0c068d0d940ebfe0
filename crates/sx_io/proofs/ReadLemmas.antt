-- What reads one after another come to.
use Rattle.std.proofs.Common.{◌≡◌, ◌≤◌, ◌+◌, ◌++◌, ℕ, List, length, subst, sym, arith, length-append, take}
use Rattle.std.specs.Prelude.{Option, Result, Ok, Err, IsErrAnd}
use Rattle.std.specs.Io.KnownBytes.{Consumes}
use Rattle.std.proofs.lemmas.Grind.{common_steps}
use Rattle.std.proofs.KnownBytes.{Consumes-trans}
use Rattle.sx_io.specs.Whole.{IsReadInPart, ReadsAll}
use Rattle.sx_io.specs.declared.whole.ReadFault.{ReadFault}
use Rattle.sx_io.specs.declared.whole.ReadFault.TheVariants.{Memory}

-- want of memory came after these bytes and a read of some more
pub out_of_memory : (left mid rest : Option (List ℕ)) (before now limit : ℕ) (front buf : List ℕ) (count : ℕ) (result : Result (List ℕ) ReadFault)
    → IsErrAnd result (λ fault. fault ≡ Memory) → length front + length buf ≤ limit + 1
    → Consumes left mid front → Consumes mid rest (take count buf) → ReadsAll left rest before now limit result
out_of_memory left mid rest before now limit front buf count (Ok bytes) failed most first then = absurd failed
out_of_memory left mid rest before now limit front buf count (Err fault) failed most first then =
    let more = take count buf in
    let read = Consumes-trans left mid rest front more first then in
    let short : length more ≤ length buf = grind (arith, common_steps) in
    let part : IsReadInPart left rest (limit + 1) = (front ++ more, omega (arith, length-append front more), read) in
    subst (λ (e : ReadFault). ReadsAll left rest before now limit (Err e)) (sym failed) part
