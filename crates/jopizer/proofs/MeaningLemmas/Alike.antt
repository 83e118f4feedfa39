-- A part that is read with its types and with the classes that it names: both are read, with the same rest and the same classes, or the first is none, and the second is none or names what is no class.
use Rattle.std.proofs.Common.{◌≡◌, ℕ, zero, suc, ◌-◌, ◌≤◌, Bool, true, false, ◌&&◌, List, [], ◌∷◌, ◌++◌, map, length, Option, Some, None, refl, sym, ap, ap₂, ◌∙◌, subst, arith}
use Rattle.std.specs.Prelude.{nat_lt, if◌then◌else◌, ◌==◌, is_some}
use Rattle.std.specs.Option.{option_map_or}
use Rattle.std.specs.List.{list_all, flat_map}
use Rattle.std.proofs.lemmas.Bool.{eqb-true, ltb-false, false≢true}
use Rattle.std.proofs.lemmas.List.{map-append}
use Rattle.std.proofs.lemmas.List.Folds.{list_all-append}
use Rattle.lists.specs.Lists.{onto}
use Rattle.lists.proofs.Lemmas.{none≢some, some_same}
use Rattle.base.specs.Reading.{◌>>=◌, whole}
use Rattle.class_pool.specs.declared.entry.Entry.{Entry}
use Rattle.class_pool.specs.declared.entry.Entry.TheVariants as entries
use Rattle.class_pool.specs.Grammar.{entry_at, is_class, class_name_of, text_at}
use Rattle.class_pool.specs.Found.{stack_map_of}
use Rattle.class_pool.specs.Reading.{number_in}
use Rattle.class_lookup.specs.Parts.{class_text}
use Rattle.class_file.specs.InsideReading.{many_in, counted_in}
use Rattle.frame_types.specs.declared.types.VarType.TheVariants.{Object, Uninitialized}
use Rattle.frame_types.specs.declared.read.Change.{Change}
use Rattle.frame_types.specs.declared.read.Change.TheVariants.{OneItem, Append, Full}
use Rattle.frame_types.specs.declared.read.MapEntry.{MapEntry}
use Rattle.frame_types.specs.Table as types
use Rattle.frame_types.specs.Table.{object_in, uninitialized_in, tagged_in, one_item_in, append_in, change_in, with_offset, map_entry_in, table_in, table_or_none}
use Rattle.program_tables.specs.FrameClasses as classes
use Rattle.program_tables.specs.FrameClasses.{FramePart, many, counted, behind_delta, whole_table, frame_classes}
use Rattle.jopizer.specs.Meaning.Readings.{names_in_type, names_in_change, names_in, PartsAgree, ReadingsAgree}

abbrev Names : Type 0
Names = List (List ℕ)

abbrev Reads : Type 0 → Type 0
Reads X = Option (X × List ℕ)

-- an index is that of a Class entry exactly where the entry names a class
class_is : (e : Option Entry) → is_class e ≡ is_some (class_name_of e)
class_is None = refl
class_is (Some (entries.Class name)) = refl
class_is (Some entry) = refl

module _ (pool : List Entry) where
  abbrev is_entry : ℕ → Bool
  is_entry index = is_class (entry_at pool index)

  abbrev are_entries : List ℕ → Bool
  are_entries xs = list_all is_entry xs

  abbrev texts : List ℕ → Names
  texts xs = map (class_text pool) xs

  abbrev Alike : {X : Type 0} → (X → Names) → Reads X → Reads (List ℕ) → Type 0
  Alike names None None = Unit {0}
  Alike names None (Some y) = are_entries y.0 ≡ false
  Alike names (Some x) None = ⊥
  Alike names (Some x) (Some y) = (x.1 ≡ y.1) × (are_entries y.0 ≡ true) × (names x.0 ≡ texts y.0)

  left_none : (xs ys : List ℕ) → are_entries xs ≡ false → are_entries (xs ++ ys) ≡ false
  left_none xs ys h = list_all-append is_entry xs ys ∙ ap (λ b. b && are_entries ys) h

  right_is : (xs ys : List ℕ) (b : Bool) → are_entries xs ≡ true → are_entries ys ≡ b → are_entries (xs ++ ys) ≡ b
  right_is xs ys b h g = list_all-append is_entry xs ys ∙ (ap (λ a. a && are_entries ys) h ∙ g)

  -- ---- one part after another

  behind_none : {X : Type 0} (names : X → Names) (y : List ℕ × List ℕ) (q : Reads (List ℕ)) → are_entries y.0 ≡ false → Alike names None (onto q (λ z. Some (y.0 ++ z.0, z.1)))
  behind_none names y None h = tt
  behind_none names y (Some z) h = left_none y.0 z.0 h

  joined : {X Y Z : Type 0} (first : X → Names) (second : Y → Names) (all : Z → Names) (join : X → Y → Z) → ((x : X) (y : Y) → all (join x y) ≡ first x ++ second y)
      → (x : X) (ys : List ℕ) → are_entries ys ≡ true → first x ≡ texts ys
      → (o : Reads Y) (q : Reads (List ℕ)) → Alike second o q → Alike all (o >>= λ b. Some (join x b.0, b.1)) (onto q (λ z. Some (ys ++ z.0, z.1)))
  joined first second all join is x ys a n None None h = tt
  joined first second all join is x ys a n None (Some z) h = right_is ys z.0 false a h
  joined first second all join is x ys a n (Some b) None h = absurd h
  joined first second all join is x ys a n (Some b) (Some z) h =
      (h.0, right_is ys z.0 true a h.1, is x b.0 ∙ (ap₂ (λ (l r : Names). l ++ r) n h.2 ∙ sym (map-append (class_text pool) ys z.0)))

  after : {X Y Z : Type 0} (first : X → Names) (second : Y → Names) (all : Z → Names) (join : X → Y → Z) → ((x : X) (y : Y) → all (join x y) ≡ first x ++ second y)
      → (o : Reads X) (p : Reads (List ℕ)) → Alike first o p → (f : List ℕ → Reads Y) (g : FramePart) → ((rest : List ℕ) → Alike second (f rest) (g rest))
      → Alike all (o >>= λ a. (f a.1 >>= λ b. Some (join a.0 b.0, b.1))) (onto p (λ y. onto (g y.1) (λ z. Some (y.0 ++ z.0, z.1))))
  after first second all join is None None h f g k = tt
  after first second all join is None (Some y) h f g k = behind_none all y (g y.1) h
  after first second all join is (Some a) None h f g k = absurd h
  after first second all join is (Some a) (Some y) h f g k =
      joined first second all join is a.0 y.0 h.1 h.2 (f a.1) (g y.1) (subst (λ (r : List ℕ). Alike second (f a.1) (g r)) h.0 (k a.1))

  -- behind a number
  numbered : {X : Type 0} (names : X → Names) (o : Reads ℕ) (f : ℕ → List ℕ → Reads X) (g : ℕ → FramePart) → ((n : ℕ) (rest : List ℕ) → Alike names (f n rest) (g n rest)) → Alike names (o >>= λ n. f n.0 n.1) (onto o (λ n. g n.0 n.1))
  numbered names None f g k = tt
  numbered names (Some n) f g k = k n.0 n.1

  -- as something else that names the same
  seen : {X Y : Type 0} (names : X → Names) (others : Y → Names) (view : X → Y) → ((x : X) → others (view x) ≡ names x) → (o : Reads X) (p : Reads (List ℕ)) → Alike names o p → Alike others (o >>= λ x. Some (view x.0, x.1)) p
  seen names others view same None None h = tt
  seen names others view same None (Some y) h = h
  seen names others view same (Some x) None h = absurd h
  seen names others view same (Some x) (Some y) h = (h.0, h.1, same x.0 ∙ h.2)

  many_alike : {X : Type 0} (names : X → Names) (read : List ℕ → Reads X) (part : FramePart) → ((bytes : List ℕ) → Alike names (read bytes) (part bytes)) → (n : ℕ) (bytes : List ℕ) → Alike (flat_map names) (many_in read n bytes) (many part n bytes)
  unfolding many_in many
  many_alike names read part k zero bytes = (refl, refl, refl)
  many_alike names read part k (suc n) bytes =
      after names (flat_map names) (flat_map names) (λ x xs. x ∷ xs) (λ x xs. refl) (read bytes) (part bytes) (k bytes) (many_in read n) (many part n) (many_alike names read part k n)

  counted_alike : {X : Type 0} (names : X → Names) (read : List ℕ → Reads X) (part : FramePart) → ((bytes : List ℕ) → Alike names (read bytes) (part bytes)) → (bytes : List ℕ) → Alike (flat_map names) (counted_in read bytes) (counted part bytes)
  unfolding counted_in
  counted_alike names read part k bytes = numbered (flat_map names) (number_in 2 bytes) (λ n rest. many_in read n rest) (λ n rest. many part n rest) (many_alike names read part k)

  -- ---- verification types

  named : (index : ℕ) (rest : List ℕ) (o : Option ℕ) → class_name_of (entry_at pool index) ≡ o → Alike names_in_type (o >>= λ name. Some (Object (text_at pool name), rest)) (Some (index ∷ [], rest))
  named index rest None h = ap (λ b. b && true) (class_is (entry_at pool index) ∙ ap is_some h)
  named index rest (Some name) h =
      (refl, ap (λ b. b && true) (class_is (entry_at pool index) ∙ ap is_some h), ap (λ (p : Option ℕ). option_map_or (text_at pool) p [] ∷ []) (sym h))

  object_alike : (bytes : List ℕ) → Alike names_in_type (object_in pool bytes) (onto (number_in 2 bytes) (λ class. Some (class.0 ∷ [], class.1)))
  unfolding object_in
  object_alike bytes =
      numbered names_in_type (number_in 2 bytes) (λ index rest. class_name_of (entry_at pool index) >>= λ name. Some (Object (text_at pool name), rest)) (λ index rest. Some (index ∷ [], rest))
      (λ index rest. named index rest (class_name_of (entry_at pool index)) refl)

  place_alike : (bytes : List ℕ) → Alike names_in_type (uninitialized_in bytes) (onto (number_in 2 bytes) (λ place. Some ([], place.1)))
  unfolding uninitialized_in
  place_alike bytes = numbered names_in_type (number_in 2 bytes) (λ place rest. Some (Uninitialized place, rest)) (λ place rest. Some ([], rest)) (λ place rest. (refl, refl, refl))

  module _ (bytes : List ℕ) where
    abbrev TypeAt : ℕ → Type 0
    TypeAt tag = Alike names_in_type (tagged_in pool tag bytes) (classes.type_in (tag ∷ bytes))

    alone : (tag n : ℕ) → (tag == n) ≡ true → TypeAt n → TypeAt tag
    alone tag n e h = subst TypeAt (sym (eqb-true tag n e)) h

    top : TypeAt 0
    unfolding tagged_in classes.type_in
    top = (refl, refl, refl)

    integer : TypeAt 1
    unfolding tagged_in classes.type_in
    integer = (refl, refl, refl)

    long : TypeAt 4
    unfolding tagged_in classes.type_in
    long = (refl, refl, refl)

    null : TypeAt 5
    unfolding tagged_in classes.type_in
    null = (refl, refl, refl)

    this : TypeAt 6
    unfolding tagged_in classes.type_in
    this = (refl, refl, refl)

    object : TypeAt 7
    unfolding tagged_in classes.type_in
    object = object_alike bytes

    place : TypeAt 8
    unfolding tagged_in classes.type_in
    place = place_alike bytes

    other : (tag : ℕ) → (tag == 0) ≡ false → (tag == 1) ≡ false → (tag == 4) ≡ false → (tag == 5) ≡ false → (tag == 6) ≡ false → (tag == 7) ≡ false → (tag == 8) ≡ false → TypeAt tag
    unfolding tagged_in classes.type_in
    other tag a b c d e f g =
        let small : nat_lt tag 2 ≡ false = grind arith in
        rw (a, b, c, d, e, f, g, small) tt

    type_by : (tag : ℕ) → TypeAt tag
    type_by tag = t0 (tag == 0) refl
      where
        t8 : (b : Bool) → (tag == 8) ≡ b → (tag == 0) ≡ false → (tag == 1) ≡ false → (tag == 4) ≡ false → (tag == 5) ≡ false → (tag == 6) ≡ false → (tag == 7) ≡ false → TypeAt tag
        t8 true h a b c d e f = alone tag 8 h place
        t8 false h a b c d e f = other tag a b c d e f h

        t7 : (b : Bool) → (tag == 7) ≡ b → (tag == 0) ≡ false → (tag == 1) ≡ false → (tag == 4) ≡ false → (tag == 5) ≡ false → (tag == 6) ≡ false → TypeAt tag
        t7 true h a b c d e = alone tag 7 h object
        t7 false h a b c d e = t8 (tag == 8) refl a b c d e h

        t6 : (b : Bool) → (tag == 6) ≡ b → (tag == 0) ≡ false → (tag == 1) ≡ false → (tag == 4) ≡ false → (tag == 5) ≡ false → TypeAt tag
        t6 true h a b c d = alone tag 6 h this
        t6 false h a b c d = t7 (tag == 7) refl a b c d h

        t5 : (b : Bool) → (tag == 5) ≡ b → (tag == 0) ≡ false → (tag == 1) ≡ false → (tag == 4) ≡ false → TypeAt tag
        t5 true h a b c = alone tag 5 h null
        t5 false h a b c = t6 (tag == 6) refl a b c h

        t4 : (b : Bool) → (tag == 4) ≡ b → (tag == 0) ≡ false → (tag == 1) ≡ false → TypeAt tag
        t4 true h a b = alone tag 4 h long
        t4 false h a b = t5 (tag == 5) refl a b h

        t1 : (b : Bool) → (tag == 1) ≡ b → (tag == 0) ≡ false → TypeAt tag
        t1 true h a = alone tag 1 h integer
        t1 false h a = t4 (tag == 4) refl a h

        t0 : (b : Bool) → (tag == 0) ≡ b → TypeAt tag
        t0 true h = alone tag 0 h top
        t0 false h = t1 (tag == 1) refl h

  type_alike : (bytes : List ℕ) → Alike names_in_type (types.type_in pool bytes) (classes.type_in bytes)
  unfolding types.type_in classes.type_in
  type_alike [] = tt
  type_alike (tag ∷ bytes) = type_by bytes tag

  -- ---- frames

  abbrev names_in_entry : MapEntry → Names
  names_in_entry e = names_in_change e.change

  offset_alike : (offset : ℕ) (o : Reads Change) (p : Reads (List ℕ)) → Alike names_in_change o p → Alike names_in_entry (with_offset offset o) p
  offset_alike offset o p h = seen names_in_change names_in_entry (λ change. record { offset = offset; change = change }) (λ change. refl) o p h

  one_alike : (bytes : List ℕ) → Alike names_in_change (one_item_in pool bytes) (classes.type_in bytes)
  unfolding one_item_in
  one_alike bytes = seen names_in_type names_in_change OneItem (λ t. refl) (types.type_in pool bytes) (classes.type_in bytes) (type_alike bytes)

  append_alike : (n : ℕ) (bytes : List ℕ) → Alike names_in_change (append_in pool n bytes) (many classes.type_in n bytes)
  unfolding append_in
  append_alike n bytes =
      seen (flat_map names_in_type) names_in_change Append (λ ts. refl) (many_in (types.type_in pool) n bytes) (many classes.type_in n bytes) (many_alike names_in_type (types.type_in pool) classes.type_in type_alike n bytes)

  full_alike : (bytes : List ℕ) → Alike names_in_change (types.full_in pool bytes) (classes.full_in bytes)
  unfolding types.full_in
  full_alike bytes =
      let both = counted_alike names_in_type (types.type_in pool) classes.type_in type_alike in
      after (flat_map names_in_type) (flat_map names_in_type) names_in_change Full (λ all operands. refl) (counted_in (types.type_in pool) bytes) (counted classes.type_in bytes) (both bytes) (counted_in (types.type_in pool)) (counted classes.type_in) both

  module _ (tag : ℕ) (bytes : List ℕ) where
    abbrev FrameAt : Type 0
    FrameAt = Alike names_in_entry (types.frame_in pool tag bytes) (classes.frame_in (tag ∷ bytes))

    abbrev behind_offset : Reads MapEntry
    behind_offset = number_in 2 bytes >>= λ offset. with_offset offset.0 (change_in pool tag offset.1)

    long_alike : (part : FramePart) → ((rest : List ℕ) → Alike names_in_change (change_in pool tag rest) (part rest)) → Alike names_in_entry behind_offset (behind_delta part bytes)
    long_alike part k = numbered names_in_entry (number_in 2 bytes) (λ offset rest. with_offset offset (change_in pool tag rest)) (λ offset rest. part rest) (λ offset rest. offset_alike offset (change_in pool tag rest) (part rest) (k rest))

    abbrev past : FramePart
    past rest = Some ([], rest)

    one_changes : (tag == 247) ≡ true → (rest : List ℕ) → Alike names_in_change (change_in pool tag rest) (classes.type_in rest)
    unfolding change_in
    one_changes e rest = rw e (one_alike rest)

    chop_changes : (tag == 247) ≡ false → nat_lt tag 251 ≡ true → (rest : List ℕ) → Alike names_in_change (change_in pool tag rest) (past rest)
    unfolding change_in
    chop_changes e l rest = rw (e, l) (refl, refl, refl)

    same_changes : (tag == 247) ≡ false → nat_lt tag 251 ≡ false → (tag == 251) ≡ true → (rest : List ℕ) → Alike names_in_change (change_in pool tag rest) (past rest)
    unfolding change_in
    same_changes e l s rest = rw (e, l, s) (refl, refl, refl)

    append_changes : (tag == 247) ≡ false → nat_lt tag 251 ≡ false → (tag == 251) ≡ false → nat_lt tag 255 ≡ true → (rest : List ℕ) → Alike names_in_change (change_in pool tag rest) (many classes.type_in (tag - 251) rest)
    unfolding change_in
    append_changes e l s m rest = rw (e, l, s, m) (append_alike (tag - 251) rest)

    full_changes : (tag == 247) ≡ false → nat_lt tag 251 ≡ false → (tag == 251) ≡ false → nat_lt tag 255 ≡ false → (rest : List ℕ) → Alike names_in_change (change_in pool tag rest) (classes.full_in rest)
    unfolding change_in
    full_changes e l s m rest = rw (e, l, s, m) (full_alike rest)

    abbrev by_247 : Reads (List ℕ)
    by_247 =
        if nat_lt tag 248 then behind_delta classes.type_in bytes
        else if nat_lt tag 252 then behind_delta past bytes
        else if nat_lt tag 255 then behind_delta (many classes.type_in (tag - 251)) bytes
        else behind_delta classes.full_in bytes

    abbrev Long247 : Type 0
    Long247 = Alike names_in_entry behind_offset by_247

    a255 : (b : Bool) → nat_lt tag 255 ≡ b → 247 ≤ tag → (tag == 247) ≡ false → nat_lt tag 251 ≡ false → (tag == 251) ≡ false → Long247
    a255 true h low e l s =
        let a : nat_lt tag 248 ≡ false = grind arith in
        let b : nat_lt tag 252 ≡ false = grind arith in
        rw (a, b, h) (long_alike (many classes.type_in (tag - 251)) (append_changes e l s h))
    a255 false h low e l s =
        let a : nat_lt tag 248 ≡ false = grind arith in
        let b : nat_lt tag 252 ≡ false = grind arith in
        rw (a, b, h) (long_alike classes.full_in (full_changes e l s h))

    a251 : (b : Bool) → (tag == 251) ≡ b → 247 ≤ tag → (tag == 247) ≡ false → nat_lt tag 251 ≡ false → Long247
    a251 true h low e l =
        let a : nat_lt tag 248 ≡ false = grind arith in
        let b : nat_lt tag 252 ≡ true = grind arith in
        rw (a, b) (long_alike past (same_changes e l h))
    a251 false h low e l = a255 (nat_lt tag 255) refl low e l h

    a250 : (b : Bool) → nat_lt tag 251 ≡ b → 247 ≤ tag → (tag == 247) ≡ false → Long247
    a250 true h low e =
        let a : nat_lt tag 248 ≡ false = grind arith in
        let b : nat_lt tag 252 ≡ true = grind arith in
        rw (a, b) (long_alike past (chop_changes e h))
    a250 false h low e = a251 (tag == 251) refl low e h

    a247 : (b : Bool) → (tag == 247) ≡ b → 247 ≤ tag → Long247
    a247 true h low =
        let a : nat_lt tag 248 ≡ true = grind arith in
        rw a (long_alike classes.type_in (one_changes h))
    a247 false h low = a250 (nat_lt tag 251) refl low h

    f247 : (b : Bool) → nat_lt tag 247 ≡ b → nat_lt tag 64 ≡ false → nat_lt tag 128 ≡ false → FrameAt
    unfolding types.frame_in classes.frame_in
    f247 true h a b = rw (a, b, h) tt
    f247 false h a b = rw (a, b, h) (a247 (tag == 247) refl (ltb-false tag 247 h))

    f128 : (b : Bool) → nat_lt tag 128 ≡ b → nat_lt tag 64 ≡ false → FrameAt
    unfolding types.frame_in classes.frame_in
    f128 true h a = rw (a, h) (offset_alike (tag - 64) (one_item_in pool bytes) (classes.type_in bytes) (one_alike bytes))
    f128 false h a = f247 (nat_lt tag 247) refl a h

    f64 : (b : Bool) → nat_lt tag 64 ≡ b → FrameAt
    unfolding types.frame_in classes.frame_in
    f64 true h = rw h (refl, refl, refl)
    f64 false h = f128 (nat_lt tag 128) refl h

  entry_alike : (bytes : List ℕ) → Alike names_in_entry (map_entry_in pool bytes) (classes.frame_in bytes)
  unfolding map_entry_in classes.frame_in
  entry_alike [] = tt
  entry_alike (tag ∷ bytes) = f64 tag bytes (nat_lt tag 64) refl

  -- ---- tables

  abbrev named_by : Reads (List ℕ) → List ℕ
  named_by p = option_map_or (whole_table pool) p []

  pub record Agrees (table : Option (List MapEntry)) (p : Reads (List ℕ)) : Type 0 where
    pub to : (es : List MapEntry) → table ≡ Some es → (classes : List ℕ) × (p ≡ Some (classes, [])) × (are_entries classes ≡ true)
    pub from : (classes : List ℕ) → p ≡ Some (classes, []) → are_entries classes ≡ true → (es : List MapEntry) × (table ≡ Some es)
    pub same : (es : List MapEntry) → table ≡ Some es → names_in es ≡ texts (named_by p)
    pub none : table ≡ None → named_by p ≡ []

  none_agrees : (y : List ℕ × List ℕ) → are_entries y.0 ≡ false → Agrees None (Some y)
  none_agrees y h = record {
    to = λ es e. absurd (none≢some es e);
    from = λ classes e a. absurd (false≢true (sym h ∙ (ap are_entries (ap (λ (z : List ℕ × List ℕ). z.0) (some_same y (classes, []) e)) ∙ a)));
    same = λ es e. absurd (none≢some es e);
    none = λ e. empty (length y.1 == 0);
  }
    where
      empty : (b : Bool) → (if b then (if are_entries y.0 then y.0 else []) else []) ≡ []
      empty true = ap (λ (a : Bool). if a then y.0 else []) h
      empty false = refl

  nothing_agrees : Agrees None None
  nothing_agrees = record { to = λ es e. absurd (none≢some es e); from = λ classes e a. absurd (none≢some (classes, []) e); same = λ es e. absurd (none≢some es e); none = λ e. refl }

  is_nil : (xs : List ℕ) → (length xs == 0) ≡ true → xs ≡ []
  is_nil [] h = refl
  is_nil (x ∷ xs) h = absurd (omega (arith, eqb-true (length (x ∷ xs)) 0 h))

  whole_agrees : (es : List MapEntry) (ys rest : List ℕ) (b : Bool) → (length rest == 0) ≡ b → are_entries ys ≡ true → names_in es ≡ texts ys → Agrees (if b then Some es else None) (Some (ys, rest))
  whole_agrees es ys rest true e a n =
      let named : named_by (Some (ys, rest)) ≡ ys =
      ap (λ (b : Bool). if b then (if are_entries ys then ys else []) else []) e ∙ ap (λ (b : Bool). if b then ys else []) a in
      record {
        to = λ fs h. (ys, ap (λ (r : List ℕ). Some (ys, r)) (is_nil rest e), a);
        from = λ classes h c. (es, refl);
        same = λ fs h. ap names_in (sym (some_same es fs h)) ∙ (n ∙ ap texts (sym named));
        none = λ h. absurd (none≢some es (sym h));
      }
  whole_agrees es ys rest false e a n = record {
    to = λ fs h. absurd (none≢some fs h);
    from = λ classes h c.
        let nil : rest ≡ [] = ap (λ (z : List ℕ × List ℕ). z.1) (some_same (ys, rest) (classes, []) h) in
        absurd (false≢true (sym e ∙ ap (λ (r : List ℕ). length r == 0) nil));
    same = λ fs h. absurd (none≢some fs h);
    none = λ h. ap (λ (b : Bool). if b then (if are_entries ys then ys else []) else []) e;
  }

  table_agrees : (o : Reads (List MapEntry)) (p : Reads (List ℕ)) → Alike (flat_map names_in_entry) o p → Agrees (o >>= λ found. whole found) p
  table_agrees None None h = nothing_agrees
  table_agrees None (Some y) h = none_agrees y h
  table_agrees (Some x) None h = absurd h
  table_agrees (Some x) (Some y) h =
      subst (λ (r : List ℕ). Agrees (whole x) (Some (y.0, r))) h.0 (whole_agrees x.0 y.0 x.1 (length x.1 == 0) refl h.1 h.2)

  table_law : (bytes : List ℕ) → Agrees (table_in pool bytes) (counted classes.frame_in bytes)
  unfolding table_in
  table_law bytes = table_agrees (counted_in (map_entry_in pool) bytes) (counted classes.frame_in bytes) (counted_alike names_in_entry (map_entry_in pool) classes.frame_in entry_alike bytes)

  abbrev classes_or_none : Option (List ℕ) → List ℕ
  classes_or_none o = option_map_or (frame_classes pool) o []

  code_same : (o : Option (List ℕ)) (es : List MapEntry) → table_or_none pool o ≡ Some es → names_in es ≡ texts (classes_or_none o)
  unfolding frame_classes
  code_same None es h = ap names_in (sym (some_same [] es h))
  code_same (Some bytes) es h = (table_law bytes).same es h

  code_none : (o : Option (List ℕ)) → table_or_none pool o ≡ None → classes_or_none o ≡ []
  unfolding frame_classes
  code_none None h = absurd (none≢some [] (sym h))
  code_none (Some bytes) h = (table_law bytes).none h

-- ---- parts of a frame

change_parts : (tag : ℕ) (bytes : List ℕ) (o : Reads ℕ) → (b c d : Bool)
    → (if b then onto o (λ delta. classes.type_in delta.1)
    else if c then onto o (λ delta. Some ([], delta.1))
    else if d then onto o (λ delta. many classes.type_in (tag - 251) delta.1)
    else onto o (λ delta. classes.full_in delta.1))
    ≡ onto o (λ delta. if b then classes.type_in delta.1 else if c then Some ([], delta.1) else if d then many classes.type_in (tag - 251) delta.1 else classes.full_in delta.1)
change_parts tag bytes o true c d = refl
change_parts tag bytes o false true d = refl
change_parts tag bytes o false false true = refl
change_parts tag bytes o false false false = refl

parts_agree : PartsAgree
unfolding classes.type_in classes.frame_in
parts_agree = record {
  index = λ bytes. refl;
  place = λ bytes. refl;
  change = λ tag bytes low.
      let a : nat_lt tag 64 ≡ false = grind (arith, low) in
      let b : nat_lt tag 128 ≡ false = grind (arith, low) in
      let c : nat_lt tag 247 ≡ false = grind (arith, low) in
      rw (a, b, c) (change_parts tag bytes (number_in 2 bytes) (nat_lt tag 248) (nat_lt tag 252) (nat_lt tag 255));
}

pub agree : ReadingsAgree
agree = record {
  same_lists = λ pool bytes.
      let law = table_law pool bytes in
      (λ h. let f = law.to h.0 h.1 in (f.0, record { read = f.1; entries = f.2 }), λ h. law.from h.0 h.1.read h.1.entries);
  same_classes = λ pool code entries h. code_same pool (stack_map_of pool code) entries h;
  no_classes = λ pool code h. code_none pool (stack_map_of pool code) h;
  parts = parts_agree;
}
