-- Words among other words.
use Rattle.std.proofs.Common.{◌≡◌, ℕ, zero, suc, ◌+◌, ◌-◌, ◌<◌, List, [], ◌∷◌, ◌++◌, length, take, Option, Some, None, refl, sym, ◌∙◌, ap, arith, append_assoc, length-append}
use Rattle.std.specs.Prelude.{slice_get, slice_set, sum_by}
use Rattle.std.specs.List.{flat_map}
use Rattle.std.proofs.lemmas.Option.{none-some}
use Rattle.std.proofs.lemmas.List.{set-append_left, set-append_right}
use Rattle.std.proofs.lemmas.List.Concat.{flat_map-cons}
use Rattle.std.proofs.lemmas.List.Sums.{sum_by-cons}
use Rattle.bytecode_model.specs.Lists.{onto, replaced}
use Rattle.image_facts.specs.Within.{LieAt, DifferAt}

-- ---- lists in which words lie, and lists that differ in them

abbrev pub differ_of : (whole : List ℕ) (place : ℕ) (words : List ℕ) → LieAt whole place words → DifferAt whole whole place words words
differ_of whole place words l = record { before = l.before; after = l.after; split = l.split; changed = l.split; place_is = l.place_is }

abbrev pub lie_of : (whole other : List ℕ) (place : ℕ) (words instead : List ℕ) → DifferAt whole other place words instead → LieAt whole place words
lie_of whole other place words instead d = record { before = d.before; after = d.after; split = d.split; place_is = d.place_is }

pub differ_there : (whole other : List ℕ) (place there : ℕ) (words instead : List ℕ) → DifferAt whole other place words instead → place ≡ there → DifferAt whole other there words instead
differ_there whole other place there words instead d e = record { before = d.before; after = d.after; split = d.split; changed = d.changed; place_is = d.place_is ∙ e }

behind : (front whole before words after : List ℕ) → whole ≡ before ++ (words ++ after) → front ++ whole ≡ (front ++ before) ++ (words ++ after)
behind front whole before words after e = ap (λ (ws : List ℕ). front ++ ws) e ∙ sym (append_assoc front before (words ++ after))

pub differ_behind : (front whole other : List ℕ) (place : ℕ) (words instead : List ℕ) → DifferAt whole other place words instead → DifferAt (front ++ whole) (front ++ other) (length front + place) words instead
differ_behind front whole other place words instead d = record {
  before = front ++ d.before;
  after = d.after;
  split = behind front whole d.before words d.after d.split;
  changed = behind front other d.before instead d.after d.changed;
  place_is = length-append front d.before ∙ ap (λ (k : ℕ). length front + k) d.place_is;
}

ahead : (whole back before words after : List ℕ) → whole ≡ before ++ (words ++ after) → whole ++ back ≡ before ++ (words ++ (after ++ back))
ahead whole back before words after e =
    ap (λ (ws : List ℕ). ws ++ back) e ∙ append_assoc before (words ++ after) back ∙ ap (λ (ws : List ℕ). before ++ ws) (append_assoc words after back)

pub differ_ahead : (whole other back : List ℕ) (place : ℕ) (words instead : List ℕ) → DifferAt whole other place words instead → DifferAt (whole ++ back) (other ++ back) place words instead
differ_ahead whole other back place words instead d = record {
  before = d.before;
  after = d.after ++ back;
  split = ahead whole back d.before words d.after d.split;
  changed = ahead other back d.before instead d.after d.changed;
  place_is = d.place_is;
}

through : (whole before middle after inner words rest : List ℕ) → whole ≡ before ++ (middle ++ after) → middle ≡ inner ++ (words ++ rest) → whole ≡ (before ++ inner) ++ (words ++ (rest ++ after))
through whole before middle after inner words rest e f =
    e ∙ ap (λ (ws : List ℕ). before ++ ws) (ahead middle after inner words rest f) ∙ sym (append_assoc before inner (words ++ (rest ++ after)))

pub differ_through : (whole other : List ℕ) (place : ℕ) (middle middle' : List ℕ) (part : ℕ) (words instead : List ℕ) → DifferAt whole other place middle middle'
    → DifferAt middle middle' part words instead → DifferAt whole other (place + part) words instead
differ_through whole other place middle middle' part words instead outer inner = record {
  before = outer.before ++ inner.before;
  after = inner.after ++ outer.after;
  split = through whole outer.before middle outer.after inner.before words inner.after outer.split inner.split;
  changed = through other outer.before middle' outer.after inner.before instead inner.after outer.changed inner.changed;
  place_is = omega (arith, length-append outer.before inner.before, outer.place_is, inner.place_is);
}

pub lie_through : (whole : List ℕ) (place : ℕ) (middle : List ℕ) (part : ℕ) (words : List ℕ) → LieAt whole place middle → LieAt middle part words → LieAt whole (place + part) words
lie_through whole place middle part words outer inner =
    lie_of whole whole (place + part) words words (differ_through whole whole place middle middle part words words (differ_of whole place middle outer) (differ_of middle part words inner))

-- ---- one that is written

set_within : (before words after : List ℕ) (k word : ℕ) → k < length words → slice_set (before ++ (words ++ after)) (length before + k) word ≡ before ++ (slice_set words k word ++ after)
set_within before words after k word h =
    let back : length before + k - length before ≡ k = omega arith in
    set-append_right before (words ++ after) (length before) (length before + k) word refl (omega arith)
    ∙ ap (λ (j : ℕ). before ++ slice_set (words ++ after) j word) back ∙ ap (λ (ws : List ℕ). before ++ ws) (set-append_left words after k word h)

pub set_in : (whole : List ℕ) (place : ℕ) (words : List ℕ) (k word : ℕ) (l : LieAt whole place words) → k < length words
    → slice_set whole (place + k) word ≡ l.before ++ (slice_set words k word ++ l.after)
set_in whole place words k word l h =
    ap (λ (ws : List ℕ). slice_set ws (place + k) word) l.split ∙ ap (λ (j : ℕ). slice_set (l.before ++ (words ++ l.after)) (j + k) word) (sym l.place_is)
    ∙ set_within l.before words l.after k word h

pub word_written : (whole other : List ℕ) (place : ℕ) (words : List ℕ) (k word : ℕ) → k < length words → DifferAt whole other place words (slice_set words k word)
    → slice_set whole (place + k) word ≡ other
word_written whole other place words k word h d = set_in whole place words k word (lie_of whole other place words (slice_set words k word) d) h ∙ sym d.changed

pub pair_written : (whole other : List ℕ) (place first second high low : ℕ) → DifferAt whole other place (first ∷ second ∷ []) (high ∷ low ∷ [])
    → slice_set (slice_set whole (place + 1) low) place high ≡ other
pair_written whole other place first second high low d =
    let half : List ℕ = d.before ++ ((first ∷ low ∷ []) ++ d.after) in
    let once : slice_set whole (place + 1) low ≡ half = word_written whole half place (first ∷ second ∷ []) 1 low (omega arith)
    (record { before = d.before; after = d.after; split = d.split; changed = refl; place_is = d.place_is }) in
    let there : place + 0 ≡ place = omega arith in
    ap (λ (ws : List ℕ). slice_set ws place high) once ∙ ap (λ (j : ℕ). slice_set half j high) (sym there)
    ∙ word_written half other place (first ∷ low ∷ []) 0 high (omega arith)
    (record { before = d.before; after = d.after; split = refl; changed = d.changed; place_is = d.place_is })

-- ---- pieces

pub some_same : {X : Type 0} (x y : X) → Some x ≡ Some y → x ≡ y
some_same x y e = cc

pub tail_is : {X : Type 0} (y : X) (ys : List X) (zs : Option (List X)) → onto zs (λ ws. Some (y ∷ ws)) ≡ Some ys → (ws : List X) × (zs ≡ Some ws) × (ys ≡ y ∷ ws)
tail_is y ys None e = absurd (none-some ys e)
tail_is y ys (Some ws) e = (ws, refl, sym (some_same (y ∷ ws) ys e))

pub differ_in : {X : Type 0} (f : X → List ℕ) (size : X → ℕ) → ((x : X) → length (f x) ≡ size x) → (xs ys : List X) (i : ℕ) (x y : X) → slice_get xs i ≡ Some x → replaced xs i y ≡ Some ys
    → DifferAt (flat_map f xs) (flat_map f ys) (sum_by size (take i xs)) (f x) (f y)
differ_in f size each [] ys i x y e r = absurd (none-some x e)
differ_in f size each (z ∷ zs) ys zero x y e r = record {
  before = [];
  after = flat_map f zs;
  split = flat_map-cons f z zs ∙ ap (λ u. f u ++ flat_map f zs) (some_same z x e);
  changed = ap (flat_map f) (sym (some_same (y ∷ zs) ys r)) ∙ flat_map-cons f y zs;
  place_is = refl;
}
differ_in f size each (z ∷ zs) ys (suc i) x y e r =
    let t = tail_is z ys (replaced zs i y) r in
    let d = differ_behind (f z) (flat_map f zs) (flat_map f t.0) (sum_by size (take i zs)) (f x) (f y) (differ_in f size each zs t.0 i x y e t.1) in
    record {
      before = d.before;
      after = d.after;
      split = flat_map-cons f z zs ∙ d.split;
      changed = ap (flat_map f) t.2 ∙ flat_map-cons f z t.0 ∙ d.changed;
      place_is = d.place_is ∙ ap (λ (k : ℕ). k + sum_by size (take i zs)) (each z) ∙ sym (sum_by-cons size z (take i zs));
    }

pub same_replaced : {X : Type 0} (xs : List X) (i : ℕ) (x : X) → slice_get xs i ≡ Some x → replaced xs i x ≡ Some xs
same_replaced [] i x e = absurd (none-some x e)
same_replaced (z ∷ zs) zero x e = ap (λ u. Some (u ∷ zs)) (sym (some_same z x e))
same_replaced (z ∷ zs) (suc i) x e = ap (λ o. onto o (λ ws. Some (z ∷ ws))) (same_replaced zs i x e)

pub lie_in : {X : Type 0} (f : X → List ℕ) (size : X → ℕ) → ((x : X) → length (f x) ≡ size x) → (xs : List X) (i : ℕ) (x : X) → slice_get xs i ≡ Some x
    → LieAt (flat_map f xs) (sum_by size (take i xs)) (f x)
lie_in f size each xs i x e = lie_of (flat_map f xs) (flat_map f xs) (sum_by size (take i xs)) (f x) (f x) (differ_in f size each xs xs i x x e (same_replaced xs i x e))

pub length_in : {X : Type 0} (f : X → List ℕ) (size : X → ℕ) → ((x : X) → length (f x) ≡ size x) → (xs : List X) → length (flat_map f xs) ≡ sum_by size xs
length_in f size each [] = refl
length_in f size each (x ∷ xs) = omega (arith, ap length (flat_map-cons f x xs), length-append (f x) (flat_map f xs), each x, length_in f size each xs, sum_by-cons size x xs)
