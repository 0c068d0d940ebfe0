-- An image that follows the log, record by record.
use Rattle.std.proofs.Common.{◌≡◌, ◌≤◌, ◌<◌, ◌+◌, ◌-◌, ◌∷◌, [], ℕ, List, length, take, drop, Option, Some, None, IsSomeAnd, Result, Ok, Err, OnOk, slice_index_or, refl, sym, ap, ◌∙◌, subst, arith}
use Rattle.std.proofs.lemmas.List.{take_all}
use Rattle.std.specs.List.{AllByRecursion}
use Rattle.std.specs.declared.alloc.AllocError.{AllocError}
use Rattle.sx_values.specs.declared.value.Value.{Value}
use Rattle.sx_values.specs.declared.catalog.Declared.{Declared}
use Rattle.sx_values.specs.Layouts.{Layout}
use Rattle.sx_values.specs.Catalogs.{schema_of}
use Rattle.sx_values.proofs.KeyLaws.{same_name_tells}
use Rattle.sx_log.specs.declared.record.Rec.{Rec}
use Rattle.sx_log.specs.declared.record.Body.{Body}
use Rattle.sx_log.specs.declared.record.Body.TheVariants.{Write, Undo, Commit, Abort, Mark, Check, Switch}
use Rattle.sx_log.specs.Images.{FitsImage, FitsImages, FitsTables}
use Rattle.sx_ops.specs.declared.spec.Spec.{Spec}
use Rattle.sx_part.specs.declared.parts.Parts.{Parts}
use Rattle.sx_part.specs.PartImages.{FitsKey, FitsTable, FitsBody, schema_in}
use Rattle.sx_image.specs.declared.image.Kind.{Kind}
use Rattle.sx_image.specs.declared.image.Kind.TheVariants.{Dead, Part}
use Rattle.sx_image.specs.Images.{Copy, StandsFor, Applies, FitsRecord, CanFollow, Follows, copy_behind, copy_behind_all}

-- ** a record that fits the tables fits the image **

key_fits : (layout : Layout) (key : List Value) (image : Option (List Value)) → FitsImage layout key image → FitsKey layout key image
key_fits layout key None fits = tt
key_fits layout key (Some row) fits = record { admitted = fits.0; keyed = fits.1 }

images_of : (one other : Layout) (key : List Value) (before after : Option (List Value)) → Some one ≡ Some other → FitsImages one key before after → FitsKey other key before × FitsKey other key after
images_of one other key before after same fits =
    let is : one ≡ other = cc in
    subst (λ l. FitsKey l key before × FitsKey l key after) is (key_fits one key before fits.0, key_fits one key after fits.1)

table_fits : (catalog : List Declared) (parts : Parts) (table : List ℕ) (key : List Value) (before after : Option (List Value)) → schema_of catalog parts.source ≡ Some (schema_in parts) → (l : Option Layout) → schema_of catalog table ≡ l → IsSomeAnd l (λ layout. FitsImages layout key before after) → FitsTable (schema_in parts) parts.source table key before after
table_fits catalog parts table key before after source None is fits same = absurd fits
table_fits catalog parts table key before after source (Some l) is fits same =
    images_of l (schema_in parts) key before after (sym is ∙ ap (schema_of catalog) (same_name_tells table parts.source same) ∙ source) fits

body_fits : (catalog : List Declared) (parts : Parts) (body : Body) → schema_of catalog parts.source ≡ Some (schema_in parts) → FitsTables (schema_of catalog) body → FitsBody (schema_in parts) parts.source body
unfolding FitsTables FitsBody
body_fits catalog parts (Write table key before after) source fits = table_fits catalog parts table key before after source (schema_of catalog table) refl fits
body_fits catalog parts (Undo undoes table key before after) source fits = table_fits catalog parts table key before after source (schema_of catalog table) refl fits
body_fits catalog parts Commit source fits = tt
body_fits catalog parts Abort source fits = tt
body_fits catalog parts Mark source fits = tt
body_fits catalog parts (Check group dep) source fits = tt
body_fits catalog parts Switch source fits = tt

pub record_fits : (catalog : List Declared) (spec : Spec) (copy : Copy) (place : ℕ) (body : Body) (image : Kind) → StandsFor catalog spec copy place image → FitsTables (schema_of catalog) body → FitsRecord (place + 1) body image
record_fits catalog spec copy place body Dead stands fits = tt
record_fits catalog spec copy place body (Part None) stands fits = tt
record_fits catalog spec copy place body (Part (Some parts)) stands fits = record {
  next = ap (λ n. n + 1) (sym stands.position);
  fits = body_fits catalog parts body stands.made.schema fits;
}

-- ** the first record and the rest **

-- the records behind the first, as a part of the slice
abbrev pub behind_first : List Rec → List Rec
behind_first recs = take (length recs - 1) (drop 1 recs)

parted : (r : Rec) (rest : List Rec) → behind_first (r ∷ rest) ≡ rest
parted r rest = take_all (length (r ∷ rest) - 1) rest (omega arith)

pub first_fits : (recs : List Rec) (end : ℕ) (first : Rec) (image : Kind) → 1 ≤ length recs → first ≡ slice_index_or recs 0 first → CanFollow recs end image → FitsRecord (end - length (behind_first recs)) first.body image
first_fits [] end first image some is can = absurd (omega arith)
first_fits (r ∷ rest) end first image some is can =
    let place : can.place + 1 ≡ end - length (behind_first (r ∷ rest)) = (let e = can.ends in let l = ap length (parted r rest) in omega arith) in
    let same : r ≡ first = sym is in
    subst (λ n. FitsRecord n first.body image) place (subst (λ (x : Rec). FitsRecord (can.place + 1) x.body image) same (record_fits can.catalog can.spec can.copy can.place r.body image can.stands can.fit.0))

pub rest_follows : (recs : List Rec) (end : ℕ) (first : Rec) (image next : Kind) → 1 ≤ length recs → first ≡ slice_index_or recs 0 first → CanFollow recs end image → Applies (end - length (behind_first recs)) first.body image next → CanFollow (behind_first recs) end next
rest_follows [] end first image next some is can applies = absurd (omega arith)
rest_follows (r ∷ rest) end first image next some is can applies =
    let parts = parted r rest in
    record {
      catalog = can.catalog;
      spec = can.spec;
      copy = copy_behind can.spec (end - length (behind_first (r ∷ rest))) first.body can.copy;
      place = end - length (behind_first (r ∷ rest));
      stands = applies can.catalog can.spec can.copy can.place can.stands;
      ends = (let e = can.ends in let l = ap length parts in omega arith);
      fit = subst (AllByRecursion (λ (x : Rec). FitsTables (schema_of can.catalog) x.body)) (sym parts) can.fit.1;
    }

pub both_follow : (recs : List Rec) (end : ℕ) (first : Rec) (image next last : Kind) → 1 ≤ length recs → first ≡ slice_index_or recs 0 first → Applies (end - length (behind_first recs)) first.body image next → Follows (behind_first recs) end next last → Follows recs end image last
both_follow [] end first image next last some is applies follows catalog spec copy place ends stands = absurd (omega arith)
both_follow (r ∷ rest) end first image next last some is applies follows catalog spec copy place ends stands =
    let parts = parted r rest in
    let at : end - length (behind_first (r ∷ rest)) ≡ place + 1 = (let l = ap length parts in omega arith) in
    let stepped = applies catalog spec copy place stands in
    let same : first ≡ r = is in
    let moved : StandsFor catalog spec (copy_behind spec (place + 1) r.body copy) (place + 1) next = subst (λ (x : Rec). StandsFor catalog spec (copy_behind spec (place + 1) x.body copy) (place + 1) next) same (subst (λ n. StandsFor catalog spec (copy_behind spec n first.body copy) n next) at stepped) in
    subst (λ l. StandsFor catalog spec (copy_behind_all spec (place + 1) l (copy_behind spec (place + 1) r.body copy)) end last) parts
    (follows catalog spec (copy_behind spec (place + 1) r.body copy) (place + 1) (let l = ap length parts in omega arith) moved)

pub both_done : (result : Result (Unit {0}) AllocError) (recs : List Rec) (end : ℕ) (first : Rec) (image next last : Kind) → 1 ≤ length recs → first ≡ slice_index_or recs 0 first → Applies (end - length (behind_first recs)) first.body image next → OnOk result (Follows (behind_first recs) end next last) → OnOk result (Follows recs end image last)
both_done (Ok done) recs end first image next last some is applies follows = both_follow recs end first image next last some is applies follows
both_done (Err fault) recs end first image next last some is applies follows = tt

-- no record
pub none_follow : (recs : List Rec) (end : ℕ) (image : Kind) → length recs < 1 → Follows recs end image image
none_follow [] end image none catalog spec copy place ends stands = subst (λ n. StandsFor catalog spec copy n image) (let e : place ≡ end = omega arith in e) stands
none_follow (r ∷ rest) end image none catalog spec copy place ends stands = absurd (omega arith)
