-- The words of an image, region by region.
use Rattle.std.proofs.Common.{◌≡◌, inl, inr, ℕ, zero, suc, ◌+◌, Bool, List, [], ◌∷◌, ◌++◌, length, map, take, Option, Some, None, refl, sym, ◌∙◌, ap, arith, length-append}
use Rattle.std.specs.Prelude.{slice_get, sum_by, if◌then◌else◌}
use Rattle.std.specs.List.{flat_map}
use Rattle.std.proofs.lemmas.Option.{none-some}
use Rattle.std.proofs.lemmas.List.Sums.{sum_by-cons}
use Rattle.bytecode_model.specs.declared.Value.{Value}
use Rattle.bytecode_model.specs.declared.Value.TheVariants.{Int, Long, Ref, Null, Unset}
use Rattle.bytecode_model.specs.Lists.{onto, replaced}
use Rattle.bytecode_model.specs.Types.{IntType, LongType, Kind, OfClass, OfNumbers, OfReferences, Declared, Numeric, Reference, is_long, default}
use Rattle.bytecode_model.specs.State.{Object}
use Rattle.bytecode_model.specs.Program.{Program, kind_of}
use Rattle.bytecode_model.specs.Sizes.{value_words, header_words, object_words}
use Rattle.bytecode_model.specs.Steps.{written}
use Rattle.bytecode_model.specs.WellFormed.{AreAlike}
use Rattle.image_facts.specs.Within.{LieAt, DifferAt}
use Rattle.image_facts.specs.Words.{words_of, length_words, object_image, declared_words}
use Rattle.image_facts.specs.Places.{Places, AreFixed, statics_words, static_place, middle_place, objects_place, object_place, words_with}
use Rattle.image_facts.specs.Laws.{part_place}
use Rattle.image_facts.proofs.Pieces.{differ_of, lie_of, differ_there, differ_behind, differ_ahead, differ_through, some_same, tail_is, differ_in, same_replaced, length_in}

-- ---- how many words

pub value_size : (place : ℕ → ℕ) (v : Value) → length (words_of place v) ≡ value_words v
value_size place (Int n) = refl
value_size place (Long n) = refl
value_size place (Ref p) = refl
value_size place Null = refl
value_size place Unset = refl

header_size : (k : Option Kind) (n : ℕ) → 1 + length (length_words k n) ≡ header_words k
header_size None n = refl
header_size (Some (OfClass c)) n = refl
header_size (Some (OfNumbers a)) n = refl
header_size (Some (OfReferences k)) n = refl

pub values_size : (place : ℕ → ℕ) (vs : List Value) → length (flat_map (words_of place) vs) ≡ sum_by value_words vs
values_size place vs = length_in (words_of place) value_words (value_size place) vs

-- the words of an object before its values
abbrev pub header : Program → (ℕ → ℕ) → Object → List ℕ
header P type o = type o.kind ∷ length_words (kind_of P o) (length o.parts)

pub header_length : (P : Program) (type : ℕ → ℕ) (o : Object) → length (header P type o) ≡ header_words (kind_of P o)
header_length P type o = omega (arith, header_size (kind_of P o) (length o.parts))

pub object_size : (P : Program) (type place : ℕ → ℕ) (o : Object) → length (object_image P type place o) ≡ object_words P o
object_size P type place o =
    omega (arith, header_length P type o, length-append (length_words (kind_of P o) (length o.parts)) (flat_map (words_of place) o.parts), values_size place o.parts)

default_size : (d : Declared) → value_words (default d) ≡ declared_words d
default_size (Numeric IntType) = refl
default_size (Numeric LongType) = refl
default_size (Reference k) = refl

alike_size : (v w : Value) → is_long v ≡ is_long w → value_words v ≡ value_words w
alike_size v w e = ap (λ (b : Bool). if b then 2 else 1) e

-- the first so many fields take as many words as they are declared to
pub alike_words : (vs : List Value) (ds : List Declared) (k : ℕ) → AreAlike vs (map default ds) → sum_by value_words (take k vs) ≡ sum_by declared_words (take k ds)
alike_words [] [] zero h = refl
alike_words [] [] (suc k) h = refl
alike_words (v ∷ vs) [] k h = absurd h
alike_words [] (d ∷ ds) k h = absurd h
alike_words (v ∷ vs) (d ∷ ds) zero h = refl
alike_words (v ∷ vs) (d ∷ ds) (suc k) h =
    omega (arith, sum_by-cons value_words v (take k vs), sum_by-cons declared_words d (take k ds), alike_words vs ds k h.2, alike_size v (default d) h.0, default_size d)

pub all_alike : (vs : List Value) (ds : List Declared) → AreAlike vs (map default ds) → sum_by value_words vs ≡ sum_by declared_words ds
all_alike [] [] h = refl
all_alike (v ∷ vs) [] h = absurd h
all_alike [] (d ∷ ds) h = absurd h
all_alike (v ∷ vs) (d ∷ ds) h =
    omega (arith, sum_by-cons value_words v vs, sum_by-cons declared_words d ds, all_alike vs ds h.2, alike_size v (default d) h.0, default_size d)

-- ---- one item is replaced

pub same_sizes : {X : Type 0} (size : X → ℕ) (xs ys : List X) (i : ℕ) (x y : X) → slice_get xs i ≡ Some x → replaced xs i y ≡ Some ys → size y ≡ size x
    → (k : ℕ) → sum_by size (take k ys) ≡ sum_by size (take k xs)
same_sizes size [] ys i x y e r h k = absurd (none-some x e)
same_sizes size (z ∷ zs) ys zero x y e r h zero = ap (λ us. sum_by size (take 0 us)) (sym (some_same (y ∷ zs) ys r))
same_sizes size (z ∷ zs) ys zero x y e r h (suc k) =
    ap (λ us. sum_by size (take (suc k) us)) (sym (some_same (y ∷ zs) ys r))
    ∙ omega (arith, sum_by-cons size y (take k zs), sum_by-cons size z (take k zs), h, ap size (some_same z x e))
same_sizes size (z ∷ zs) ys (suc i) x y e r h zero = let t = tail_is z ys (replaced zs i y) r in ap (λ us. sum_by size (take 0 us)) t.2
same_sizes size (z ∷ zs) ys (suc i) x y e r h (suc k) =
    let t = tail_is z ys (replaced zs i y) r in
    ap (λ us. sum_by size (take (suc k) us)) t.2
    ∙ omega (arith, sum_by-cons size z (take k t.0), sum_by-cons size z (take k zs), same_sizes size zs t.0 i x y e t.1 h k)

pub same_sum : {X : Type 0} (size : X → ℕ) (xs ys : List X) (i : ℕ) (x y : X) → slice_get xs i ≡ Some x → replaced xs i y ≡ Some ys → size y ≡ size x → sum_by size ys ≡ sum_by size xs
same_sum size [] ys i x y e r h = absurd (none-some x e)
same_sum size (z ∷ zs) ys zero x y e r h =
    ap (sum_by size) (sym (some_same (y ∷ zs) ys r)) ∙ omega (arith, sum_by-cons size y zs, sum_by-cons size z zs, h, ap size (some_same z x e))
same_sum size (z ∷ zs) ys (suc i) x y e r h =
    let t = tail_is z ys (replaced zs i y) r in
    ap (sum_by size) t.2 ∙ omega (arith, sum_by-cons size z t.0, sum_by-cons size z zs, same_sum size zs t.0 i x y e t.1 h)

pub same_length : {X : Type 0} (xs ys : List X) (i : ℕ) (y : X) → replaced xs i y ≡ Some ys → length ys ≡ length xs
same_length [] ys i y r = absurd (none-some ys r)
same_length (z ∷ zs) ys zero y r = ap length (sym (some_same (y ∷ zs) ys r))
same_length (z ∷ zs) ys (suc i) y r = let t = tail_is z ys (replaced zs i y) r in ap length t.2 ∙ ap suc (same_length zs t.0 i y t.1)

-- ---- the words of an image, where objects lie at some places

abbrev pub words_at : Program → Places → (place : ℕ → ℕ) → List Value → List Object → List ℕ
words_at P pl place statics objects = pl.front ++ (flat_map (words_of place) statics ++ (pl.middle ++ flat_map (object_image P pl.type place) objects))

pub statics_size : (P : Program) (place : ℕ → ℕ) (statics : List Value) → AreAlike statics (map default P.statics) → length (flat_map (words_of place) statics) ≡ statics_words P
statics_size P place statics h = values_size place statics ∙ all_alike statics P.statics h

-- what lies in front, in the middle, among the static fields or among the objects
in_middle : (P : Program) (pl : Places) (place : ℕ → ℕ) (statics : List Value) (objects : List Object) (other : List ℕ) (part : ℕ) (words instead : List ℕ) → AreAlike statics (map default P.statics)
    → DifferAt (pl.middle ++ flat_map (object_image P pl.type place) objects) other part words instead
    → DifferAt (words_at P pl place statics objects) (pl.front ++ (flat_map (words_of place) statics ++ other)) (middle_place P pl + part) words instead
in_middle P pl place statics objects other part words instead h d =
    let w = flat_map (words_of place) statics in
    let rest = pl.middle ++ flat_map (object_image P pl.type place) objects in
    differ_there (words_at P pl place statics objects) (pl.front ++ (w ++ other)) (length pl.front + (length w + part)) (middle_place P pl + part) words instead
    (differ_behind pl.front (w ++ rest) (w ++ other) (length w + part) words instead (differ_behind w rest other part words instead d))
    (omega (arith, statics_size P place statics h))

pub fixed_lie : (P : Program) (pl : Places) (statics : List Value) (objects : List Object) (a : ℕ) (words : List ℕ) → AreAlike statics (map default P.statics) → AreFixed P pl a words
    → LieAt (words_with P pl statics objects) a words
fixed_lie P pl statics objects a words h (inl l) =
    let place = object_place P pl objects in
    let rest = flat_map (words_of place) statics ++ (pl.middle ++ flat_map (object_image P pl.type place) objects) in
    let whole = words_with P pl statics objects in
    lie_of whole whole a words words (differ_ahead pl.front pl.front rest a words words (differ_of pl.front a words l))
fixed_lie P pl statics objects a words h (inr x) =
    let place = object_place P pl objects in
    let heap = flat_map (object_image P pl.type place) objects in
    let whole = words_with P pl statics objects in
    let d = in_middle P pl place statics objects (pl.middle ++ heap) x.0 words words h (differ_ahead pl.middle pl.middle heap x.0 words words (differ_of pl.middle x.0 words x.2)) in
    lie_of whole whole a words words (differ_there whole whole (middle_place P pl + x.0) a words words d (sym x.1))

-- an object replaced by one of the same size
objects_differ : (P : Program) (pl : Places) (place : ℕ → ℕ) (statics : List Value) (objects changed : List Object) (p : ℕ) (o n : Object) → AreAlike statics (map default P.statics)
    → slice_get objects p ≡ Some o → replaced objects p n ≡ Some changed
    → DifferAt (words_at P pl place statics objects) (words_at P pl place statics changed) (object_place P pl objects p) (object_image P pl.type place o) (object_image P pl.type place n)
objects_differ P pl place statics objects changed p o n h e r =
    let f = object_image P pl.type place in
    let sum = sum_by (object_words P) (take p objects) in
    differ_there (words_at P pl place statics objects) (words_at P pl place statics changed) (middle_place P pl + (length pl.middle + sum)) (object_place P pl objects p) (f o) (f n)
    (in_middle P pl place statics objects (pl.middle ++ flat_map f changed) (length pl.middle + sum) (f o) (f n) h
    (differ_behind pl.middle (flat_map f objects) (flat_map f changed) sum (f o) (f n) (differ_in f (object_words P) (object_size P pl.type place) objects changed p o n e r)))
    (omega arith)

pub objects_lie : (P : Program) (pl : Places) (statics : List Value) (objects : List Object) (p : ℕ) (o : Object) → AreAlike statics (map default P.statics)
    → slice_get objects p ≡ Some o → LieAt (words_with P pl statics objects) (object_place P pl objects p) (object_image P pl.type (object_place P pl objects) o)
objects_lie P pl statics objects p o h e =
    let whole = words_with P pl statics objects in
    let image = object_image P pl.type (object_place P pl objects) o in
    lie_of whole whole (object_place P pl objects p) image image
    (objects_differ P pl (object_place P pl objects) statics objects objects p o o h e (same_replaced objects p o e))

-- a value of an object is written
abbrev pub with_parts : Object → List Value → Object
with_parts o vs = record o { parts = vs }

part_differs : (P : Program) (type place : ℕ → ℕ) (o : Object) (vs : List Value) (k : ℕ) (v w : Value) → slice_get o.parts k ≡ Some v → replaced o.parts k w ≡ Some vs
    → DifferAt (object_image P type place o) (object_image P type place (with_parts o vs)) (header_words (kind_of P o) + sum_by value_words (take k o.parts)) (words_of place v) (words_of place w)
part_differs P type place o vs k v w e r =
    let f = words_of place in
    let sum = sum_by value_words (take k o.parts) in
    let d = differ_behind (header P type o) (flat_map f o.parts) (flat_map f vs) sum (f v) (f w) (differ_in f value_words (value_size place) o.parts vs k v w e r) in
    record {
      before = d.before;
      after = d.after;
      split = d.split;
      changed = ap (λ (n : ℕ). type o.kind ∷ (length_words (kind_of P o) n ++ flat_map f vs)) (same_length o.parts vs k w r) ∙ d.changed;
      place_is = d.place_is ∙ ap (λ (n : ℕ). n + sum) (header_length P type o);
    }

pub parts_differ_at : (P : Program) (pl : Places) (place : ℕ → ℕ) (statics : List Value) (objects changed : List Object) (p : ℕ) (o : Object) (vs : List Value) (k : ℕ) (v w : Value)
    → AreAlike statics (map default P.statics) → slice_get objects p ≡ Some o → slice_get o.parts k ≡ Some v → replaced o.parts k w ≡ Some vs → replaced objects p (with_parts o vs) ≡ Some changed
    → DifferAt (words_at P pl place statics objects) (words_at P pl place statics changed) (part_place P pl objects p o k) (words_of place v) (words_of place w)
parts_differ_at P pl place statics objects changed p o vs k v w h e f r q =
    differ_through (words_at P pl place statics objects) (words_at P pl place statics changed) (object_place P pl objects p) (object_image P pl.type place o) (object_image P pl.type place (with_parts o vs))
    (header_words (kind_of P o) + sum_by value_words (take k o.parts)) (words_of place v) (words_of place w)
    (objects_differ P pl place statics objects changed p o (with_parts o vs) h e q) (part_differs P pl.type place o vs k v w f r)

pub parts_lie : (P : Program) (pl : Places) (statics : List Value) (objects : List Object) (p : ℕ) (o : Object) (k : ℕ) (v : Value) → AreAlike statics (map default P.statics)
    → slice_get objects p ≡ Some o → slice_get o.parts k ≡ Some v → LieAt (words_with P pl statics objects) (part_place P pl objects p o k) (words_of (object_place P pl objects) v)
parts_lie P pl statics objects p o k v h e f =
    let whole = words_with P pl statics objects in
    let place = object_place P pl objects in
    lie_of whole whole (part_place P pl objects p o k) (words_of place v) (words_of place v)
    (parts_differ_at P pl place statics objects objects p o o.parts k v v h e f (same_replaced o.parts k v f) (same_replaced objects p o e))

-- the list of objects that a write makes
pub written_is : (objects changed : List Object) (p k : ℕ) (o : Object) (w : Value) → slice_get objects p ≡ Some o → written objects p k w ≡ Some changed
    → (vs : List Value) × (replaced o.parts k w ≡ Some vs) × (replaced objects p (with_parts o vs) ≡ Some changed)
written_is objects changed p k o w e h =
    parts_are objects changed p o (replaced o.parts k w) (sym (ap (λ x. onto x (λ (u : Object). onto (replaced u.parts k w) (λ vs. replaced objects p (record u { parts = vs })))) e) ∙ h)
  where
    parts_are : (objects changed : List Object) (p : ℕ) (o : Object) (ws : Option (List Value)) → onto ws (λ vs. replaced objects p (with_parts o vs)) ≡ Some changed
        → (vs : List Value) × (ws ≡ Some vs) × (replaced objects p (with_parts o vs) ≡ Some changed)
    parts_are objects changed p o None h = absurd (none-some changed h)
    parts_are objects changed p o (Some vs) h = (vs, refl, h)

pub same_places : (P : Program) (pl : Places) (objects changed : List Object) (p : ℕ) (o : Object) (vs : List Value) (k : ℕ) (v w : Value) → slice_get objects p ≡ Some o → slice_get o.parts k ≡ Some v
    → value_words w ≡ value_words v → replaced o.parts k w ≡ Some vs → replaced objects p (with_parts o vs) ≡ Some changed → object_place P pl changed ≡ object_place P pl objects
same_places P pl objects changed p o vs k v w e f s r q =
    let same : object_words P (with_parts o vs) ≡ object_words P o = ap (λ (n : ℕ). header_words (kind_of P o) + n) (same_sum value_words o.parts vs k v w f r s) in
    let each : (j : ℕ) → object_place P pl changed j ≡ object_place P pl objects j =
    λ j. ap (λ (n : ℕ). objects_place P pl + n) (same_sizes (object_words P) objects changed p o (with_parts o vs) e q same j) in
    λ i. λ j. each j i

pub parts_differ : (P : Program) (pl : Places) (statics : List Value) (objects changed : List Object) (p : ℕ) (o : Object) (k : ℕ) (v w : Value) → AreAlike statics (map default P.statics)
    → slice_get objects p ≡ Some o → slice_get o.parts k ≡ Some v → value_words w ≡ value_words v → written objects p k w ≡ Some changed
    → DifferAt (words_with P pl statics objects) (words_with P pl statics changed) (part_place P pl objects p o k) (words_of (object_place P pl objects) v) (words_of (object_place P pl objects) w)
parts_differ P pl statics objects changed p o k v w h e f s q =
    let x = written_is objects changed p k o w e q in
    let place = object_place P pl objects in
    let d = parts_differ_at P pl place statics objects changed p o x.0 k v w h e f x.1 x.2 in
    record {
      before = d.before;
      after = d.after;
      split = d.split;
      changed = ap (λ (there : ℕ → ℕ). words_at P pl there statics changed) (same_places P pl objects changed p o x.0 k v w e f s x.1 x.2) ∙ d.changed;
      place_is = d.place_is;
    }

-- ---- static fields

pub statics_differ : (P : Program) (pl : Places) (statics changed : List Value) (objects : List Object) (k : ℕ) (v w : Value) → AreAlike statics (map default P.statics)
    → slice_get statics k ≡ Some v → replaced statics k w ≡ Some changed
    → DifferAt (words_with P pl statics objects) (words_with P pl changed objects) (static_place P pl k) (words_of (object_place P pl objects) v) (words_of (object_place P pl objects) w)
statics_differ P pl statics changed objects k v w h e r =
    let place = object_place P pl objects in
    let f = words_of place in
    let rest = pl.middle ++ flat_map (object_image P pl.type place) objects in
    let sum = sum_by value_words (take k statics) in
    differ_there (words_with P pl statics objects) (words_with P pl changed objects) (length pl.front + sum) (static_place P pl k) (f v) (f w)
    (differ_behind pl.front (flat_map f statics ++ rest) (flat_map f changed ++ rest) sum (f v) (f w)
    (differ_ahead (flat_map f statics) (flat_map f changed) rest sum (f v) (f w) (differ_in f value_words (value_size place) statics changed k v w e r)))
    (ap (λ (n : ℕ). length pl.front + n) (alike_words statics P.statics k h))

pub statics_lie : (P : Program) (pl : Places) (statics : List Value) (objects : List Object) (k : ℕ) (v : Value) → AreAlike statics (map default P.statics)
    → slice_get statics k ≡ Some v → LieAt (words_with P pl statics objects) (static_place P pl k) (words_of (object_place P pl objects) v)
statics_lie P pl statics objects k v h e =
    let whole = words_with P pl statics objects in
    let words = words_of (object_place P pl objects) v in
    lie_of whole whole (static_place P pl k) words words (statics_differ P pl statics statics objects k v v h e (same_replaced statics k v e))
