-- An attempt to switch, from what the machine was to what it is: over plain variables.
use Rattle.std.proofs.Common.{◌≡◌, ◌<◌, ◌+◌, ◌++◌, ◌∷◌, [], ℕ, List, length, map, take, Some, None, IsTrue, ◌↔◌, Result, Ok, Err, IfOk, refl, sym, ◌∙◌, ap, subst, slice_index_or}
use Rattle.std.proofs.lemmas.List.{take_more}
use Rattle.std.specs.declared.alloc.AllocError.{AllocError}
use Rattle.sx_lists.specs.Places.{following}
use Rattle.sx_values.specs.declared.catalog.Declared.{Declared}
use Rattle.sx_log.specs.declared.record.Rec.{Rec}
use Rattle.sx_heap.specs.declared.tables.NamedTable.{NamedTable}
use Rattle.sx_ops.specs.declared.spec.Spec.{Spec}
use Rattle.sx_image.specs.declared.image.Kind.{Kind}
use Rattle.sx_image.specs.declared.image.Kind.TheVariants.{Dead, Part}
use Rattle.sx_image.specs.Images.{Copy, StandsFor, CanFollow, Follows, AreTablesOf, copy_behind_all}
use Rattle.sx_locks.specs.Locks.{Locks, HoldsOn}
use Rattle.sx_sync.specs.declared.ready.Live.{Live}
use Rattle.sx_model.specs.Leaves.{Living}
use Rattle.sx_core.specs.declared.clients.Client.{Client}
use Rattle.sx_core.specs.Clients.{living_of}
use Rattle.sx_core.specs.Switching.{IsLiveOf, AreLives, AreFresh}

-- ** who lives **

lives-more : (locks : Locks) (table : List ℕ) (l : Living) (live : Live) (living : List Living) (lives : List Live) → AreLives locks table living lives → IsLiveOf locks table l live → AreLives locks table (living ++ l ∷ []) (lives ++ live ∷ [])
lives-more locks table l live [] [] are is = (is, tt)
lives-more locks table l live [] (y ∷ lives) are is = absurd are
lives-more locks table l live (x ∷ living) [] are is = absurd are
lives-more locks table l live (x ∷ living) (y ∷ lives) are is = (are.0, lives-more locks table l live living lives are.1 is)

map-more : (xs : List Client) (x : Client) → map living_of (xs ++ x ∷ []) ≡ map living_of xs ++ living_of x ∷ []
map-more [] x = refl
map-more (y ∷ xs) x = ap (λ l. living_of y ∷ l) (map-more xs x)

-- one more client
pub lives_more : (locks : Locks) (table : List ℕ) (clients : List Client) (index : ℕ) (d : Client) (live : Live) (lives more : List Live) → index < length clients → AreLives locks table (map living_of (take index clients)) lives
    → live.txn ≡ (slice_index_or clients index d).txn → (IsTrue live.locks_source ↔ HoldsOn locks (slice_index_or clients index d).txn table) → more ≡ lives ++ live ∷ [] → AreLives locks table (map living_of (take (index + 1) clients)) more
lives_more locks table clients index d live lives more within are number locked is =
    let at = slice_index_or clients index d in
    let grown : map living_of (take (index + 1) clients) ≡ map living_of (take index clients) ++ living_of at ∷ [] = ap (map living_of) (take_more clients index d within) ∙ map-more (take index clients) at in
    subst (AreLives locks table (map living_of (take (index + 1) clients))) (sym is)
    (subst (λ l. AreLives locks table l (lives ++ live ∷ [])) (sym grown) (lives-more locks table (living_of at) live (map living_of (take index clients)) lives are (record { txn = number; locks_it = locked })))

-- ** the new tables **

-- an image has one position
one_place : (catalog other : List Declared) (spec also : Spec) (copy like : Copy) (place at : ℕ) (image : Kind) → StandsFor catalog spec copy place image → StandsFor other also like at image → place ≡ at
one_place catalog other spec wanted copy like place at Dead stands again = absurd stands
one_place catalog other spec wanted copy like place at (Part None) stands again = absurd stands
one_place catalog other spec wanted copy like place at (Part (Some parts)) stands again = sym stands.position ∙ again.position

-- the tables of an image that followed the log are the fresh ones
pub fresh_of : (log : List Rec) (position : ℕ) (image next : Kind) (tables : List NamedTable) → CanFollow (following log position 256) (length log) image → Follows (following log position 256) (length log) image next → AreTablesOf next tables → AreFresh log position image tables
fresh_of log position image next tables can follows are catalog spec copy lists stands copied =
    let same = one_place catalog can.catalog spec can.spec copy can.copy position can.place image stands can.stands in
    let ends : position + length (following log position 256) ≡ length log = ap (λ n. n + length (following log position 256)) same ∙ can.ends in
    are catalog spec (copy_behind_all spec position (following log position 256) copy) (length log) lists (follows catalog spec copy position ends stands) copied

pub fresh_made : (log : List Rec) (position : ℕ) (image next : Kind) (result : Result (List NamedTable) AllocError) → CanFollow (following log position 256) (length log) image → Follows (following log position 256) (length log) image next → IfOk result (AreTablesOf next) → IfOk result (AreFresh log position image)
fresh_made log position image next (Ok tables) can follows are = fresh_of log position image next tables can follows are
fresh_made log position image next (Err fault) can follows are = tt
