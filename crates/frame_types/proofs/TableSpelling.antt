-- What is read of a StackMapTable is spelled so, and what is spelled so is read: its frames.
use Rattle.std.proofs.Common.{◌≡◌, ◌≢◌, ℕ, zero, suc, ◌+◌, ◌-◌, ◌<◌, ◌≤◌, Bool, true, false, List, [], ◌∷◌, ◌++◌, length, Option, Some, None, refl, sym, ap, ◌∙◌, subst, append_assoc, inl, inr, arith}
use Rattle.std.specs.Prelude.{nat_lt, if◌then◌else◌, ◌==◌}
use Rattle.std.proofs.lemmas.Bool.{eqb-true, ltb-true, lt-ltb}
use Rattle.std.proofs.lemmas.List.{append-nil, nil_from_length}
use Rattle.class_file.proofs.PartLaws.{step}
use Rattle.lists.proofs.Lemmas.{none≢some, some_same}
use Rattle.base.specs.Reading.{◌>>=◌, whole}
use Rattle.class_pool.specs.declared.entry.Entry.{Entry}
use Rattle.class_pool.specs.Reading.{number_in}
use Rattle.class_pool.specs.NumberLaws.{IsBytes, IsBytes-behind, bind_some}
use Rattle.class_file.specs.InsideReading.{many_in, counted_in}
use Rattle.frame_types.specs.declared.types.VarType.{VarType}
use Rattle.frame_types.specs.declared.read.Change.{Change}
use Rattle.frame_types.specs.declared.read.Change.TheVariants.{Same, OneItem, Chop, Append, Full}
use Rattle.frame_types.specs.declared.read.MapEntry.{MapEntry}
use Rattle.frame_types.specs.Table.{type_in, one_item_in, append_in, full_in, change_in, with_offset, frame_in, map_entry_in, table_in}
use Rattle.frame_types.specs.Spelling.{Joined, IsByte, IsTwo, IsType, AreTypes, AreCounted, IsEntry, AreEntries, IsTable}
use Rattle.frame_types.specs.Laws.{TablesAreSpelled}
use Rattle.frame_types.proofs.SpellingLemmas.{Front, joins, begins, two_reads, two_again, type_reads, type_again, types_read, types_again, counted_reads, counted_again}

-- ---- what stands behind a tag

abbrev EntryAt : List Entry → List ℕ → MapEntry × List ℕ → Type 0
EntryAt pool bytes x = Front (IsEntry pool x.0.offset x.0.change) bytes x.1

-- an entry that has its offset in its tag
one_reads : (pool : List Entry) (bytes rest : List ℕ) (change : Change) → one_item_in pool bytes ≡ Some (change, rest) → (item : VarType) × (change ≡ OneItem item) × Front (IsType pool item) bytes rest
unfolding one_item_in
one_reads pool bytes rest change e =
    let a = bind_some (type_in pool bytes) (λ item. Some (OneItem item.0, item.1)) (change, rest) e in
    let same = some_same (OneItem a.0.0, a.0.1) (change, rest) a.2 in
    let P : Change × List ℕ → Type 0 = λ x. (item : VarType) × (x.0 ≡ OneItem item) × Front (IsType pool item) bytes x.1 in
    subst P same (a.0.0, refl, type_reads pool bytes a.0.0 a.0.1 a.1)

one_again : (pool : List Entry) (front rest : List ℕ) (item : VarType) → IsType pool item front → one_item_in pool (front ++ rest) ≡ Some (OneItem item, rest)
unfolding one_item_in
one_again pool front rest item h = step (type_in pool) (λ item. Some (OneItem item.0, item.1)) (front ++ rest) (item, rest) (type_again pool front item rest h)

append_reads : (pool : List Entry) (n : ℕ) (bytes rest : List ℕ) (change : Change) → append_in pool n bytes ≡ Some (change, rest) → (more : List VarType) × (change ≡ Append more) × (n ≡ length more) × Front (AreTypes pool more) bytes rest
unfolding append_in
append_reads pool n bytes rest change e =
    let a = bind_some (many_in (type_in pool) n bytes) (λ locals. Some (Append locals.0, locals.1)) (change, rest) e in
    let same = some_same (Append a.0.0, a.0.1) (change, rest) a.2 in
    let types = types_read pool n bytes a.0.0 a.0.1 a.1 in
    let P : Change × List ℕ → Type 0 = λ x. (more : List VarType) × (x.0 ≡ Append more) × (n ≡ length more) × Front (AreTypes pool more) bytes x.1 in
    subst P same (a.0.0, refl, types.0, types.1)

append_again : (pool : List Entry) (n : ℕ) (front rest : List ℕ) (more : List VarType) → n ≡ length more → AreTypes pool more front → append_in pool n (front ++ rest) ≡ Some (Append more, rest)
unfolding append_in
append_again pool n front rest more e h =
    step (many_in (type_in pool) n) (λ locals. Some (Append locals.0, locals.1)) (front ++ rest) (more, rest) (ap (λ (k : ℕ). many_in (type_in pool) k (front ++ rest)) e ∙ types_again pool front more rest h)

abbrev AreFull : List Entry → (all operands : List VarType) → List ℕ → Type 0
AreFull pool all operands bytes = Joined (AreCounted pool all) (AreCounted pool operands) bytes

full_reads : (pool : List Entry) (bytes rest : List ℕ) (change : Change) → full_in pool bytes ≡ Some (change, rest) → (all : List VarType) × (operands : List VarType) × (change ≡ Full all operands) × Front (AreFull pool all operands) bytes rest
unfolding full_in
full_reads pool bytes rest change e =
    let a = bind_some (counted_in (type_in pool) bytes) (λ locals. counted_in (type_in pool) locals.1 >>= λ stack. Some (Full locals.0 stack.0, stack.1)) (change, rest) e in
    let b = bind_some (counted_in (type_in pool) a.0.1) (λ stack. Some (Full a.0.0 stack.0, stack.1)) (change, rest) a.2 in
    let same = some_same (Full a.0.0 b.0.0, b.0.1) (change, rest) b.2 in
    let P : Change × List ℕ → Type 0 = λ x. (all : List VarType) × (operands : List VarType) × (x.0 ≡ Full all operands) × Front (AreFull pool all operands) bytes x.1 in
    subst P same (a.0.0, b.0.0, refl, joins (AreCounted pool a.0.0) (AreCounted pool b.0.0) bytes a.0.1 b.0.1 (counted_reads pool bytes a.0.0 a.0.1 a.1) (counted_reads pool a.0.1 b.0.0 b.0.1 b.1))

full_again : (pool : List Entry) (front rest : List ℕ) (all operands : List VarType) → AreFull pool all operands front → full_in pool (front ++ rest) ≡ Some (Full all operands, rest)
unfolding full_in
full_again pool front rest all operands h =
    ap (λ (l : List ℕ). counted_in (type_in pool) l >>= λ locals. counted_in (type_in pool) locals.1 >>= λ stack. Some (Full locals.0 stack.0, stack.1)) (ap (λ (l : List ℕ). l ++ rest) h.2 ∙ append_assoc h.0 h.1 rest)
    ∙ (step (counted_in (type_in pool)) (λ locals. counted_in (type_in pool) locals.1 >>= λ stack. Some (Full locals.0 stack.0, stack.1)) (h.0 ++ (h.1 ++ rest)) (all, h.1 ++ rest) (counted_again pool h.0 all (h.1 ++ rest) h.3)
    ∙ step (counted_in (type_in pool)) (λ stack. Some (Full all stack.0, stack.1)) (h.1 ++ rest) (operands, rest) (counted_again pool h.1 operands rest h.4))

-- ---- a frame that has one of two bytes as its offset

module _ (pool : List Entry) (tag offset : ℕ) (bytes mid rest : List ℕ) (change : Change) (two : Front (IsTwo offset) bytes mid) where
  abbrev E : Type 0
  E = Front (IsEntry pool offset change) (tag ∷ bytes) rest

  abbrev C : Type 0
  C = Option (Change × List ℕ)

  abbrev c255 : Bool → C
  c255 b = if b then append_in pool (tag - 251) mid else full_in pool mid

  abbrev c251 : Bool → C
  c251 b = if b then Some (Same, mid) else c255 (nat_lt tag 255)

  abbrev cchop : Bool → C
  cchop b = if b then Some (Chop (251 - tag), mid) else c251 (tag == 251)

  abbrev c247 : Bool → C
  c247 b = if b then one_item_in pool mid else cchop (nat_lt tag 251)

  not_below : (n : ℕ) → nat_lt tag n ≡ false → n ≤ tag
  not_below n e = grind (arith, e)

  behind : (P : List ℕ → Type 0) (n : ℕ) → tag ≡ n → Front P mid rest → Front (Joined (IsByte n) (Joined (IsTwo offset) P)) (tag ∷ bytes) rest
  behind P n e h = begins (Joined (IsTwo offset) P) tag n bytes rest e (joins (IsTwo offset) P bytes mid rest two h)

  alone : (n : ℕ) (c : Change) → tag ≡ n → ◌≡◌ {A = Option (Change × List ℕ)} (Some (c, mid)) (Some (change, rest)) → ((front : List ℕ) → Joined (IsByte n) (IsTwo offset) front → IsEntry pool offset c front) → E
  alone n c e h say =
      let same = some_same (c, mid) (change, rest) h in
      let f = begins (IsTwo offset) tag n bytes mid e two in
      let P : Change × List ℕ → Type 0 = λ x. Front (IsEntry pool offset x.0) (tag ∷ bytes) x.1 in
      subst P same (f.0, f.1, say f.0 f.2)

  e255 : (b : Bool) → tag < 256 → 251 ≤ tag → (tag ≡ 251 → ⊥) → nat_lt tag 255 ≡ b → c255 b ≡ Some (change, rest) → E
  e255 true small low other e h =
      let a = append_reads pool (tag - 251) mid rest change h in
      let l = ltb-true tag 255 e in
      let n = a.2 in
      let is : tag ≡ 251 + length a.0 = omega (arith, n, low) in
      let some : 0 < length a.0 = (let apart : tag ≢ 251 = other in omega (arith, n, low, apart)) in
      let few : length a.0 ≤ 3 = omega (arith, n, l) in
      let f = behind (AreTypes pool a.0) (251 + length a.0) is a.3 in
      subst (λ (c : Change). Front (IsEntry pool offset c) (tag ∷ bytes) rest) (sym a.1) (f.0, f.1, (some, few, f.2))
  e255 false small low other e h =
      let a = full_reads pool mid rest change h in
      let l = not_below 255 e in
      let is : tag ≡ 255 = omega (arith, l, small) in
      let f = behind (AreFull pool a.0 a.1) 255 is a.3 in
      subst (λ (c : Change). Front (IsEntry pool offset c) (tag ∷ bytes) rest) (sym a.2) f

  e251 : (b : Bool) → tag < 256 → 251 ≤ tag → (tag == 251) ≡ b → c251 b ≡ Some (change, rest) → E
  e251 true small low e h = alone 251 Same (eqb-true tag 251 e) h (λ front g. inr g)
  e251 false small low e h = e255 (nat_lt tag 255) small low (λ same. let f : true ≡ false = ap (λ (k : ℕ). k == 251) (sym same) ∙ e in cc) refl h

  echop : (b : Bool) → tag < 256 → 248 ≤ tag → nat_lt tag 251 ≡ b → cchop b ≡ Some (change, rest) → E
  echop true small low e h =
      let l = ltb-true tag 251 e in
      let is : tag ≡ 251 - (251 - tag) = omega (arith, l, low) in
      let some : 0 < 251 - tag = omega (arith, l) in
      let few : 251 - tag ≤ 3 = omega (arith, low) in
      alone (251 - (251 - tag)) (Chop (251 - tag)) is h (λ front g. (some, few, g))
  echop false small low e h = e251 (tag == 251) small (not_below 251 e) refl h

  e247 : (b : Bool) → tag < 256 → 247 ≤ tag → (tag == 247) ≡ b → c247 b ≡ Some (change, rest) → E
  e247 true small low e h =
      let a = one_reads pool mid rest change h in
      let f = behind (IsType pool a.0) 247 (eqb-true tag 247 e) a.2 in
      subst (λ (c : Change). Front (IsEntry pool offset c) (tag ∷ bytes) rest) (sym a.1) (f.0, f.1, inr f.2)
  e247 false small low e h =
      let other : tag ≢ 247 = (λ same. let f : true ≡ false = ap (λ (k : ℕ). k == 247) (sym same) ∙ e in cc) in
      echop (nat_lt tag 251) small (omega (arith, low, other)) refl h

  change_reads : tag < 256 → 247 ≤ tag → change_in pool tag mid ≡ Some (change, rest) → E
  unfolding change_in
  change_reads small low h = e247 (tag == 247) small low refl h

-- ---- a frame

offset_reads : (offset : ℕ) (r : Option (Change × List ℕ)) (e : MapEntry) (rest : List ℕ) → with_offset offset r ≡ Some (e, rest) → (r ≡ Some (e.change, rest)) × (offset ≡ e.offset)
offset_reads offset r e rest h =
    let a = bind_some r (λ x. let o : Option (MapEntry × List ℕ) = Some (record { offset = offset; change = x.0 }, x.1) in o) (e, rest) h in
    let made : MapEntry = record { offset = offset; change = a.0.0 } in
    let same = some_same (made, a.0.1) (e, rest) a.2 in
    (a.1 ∙ ap (λ (x : MapEntry × List ℕ). Some (x.0.change, x.1)) same, ap (λ (x : MapEntry × List ℕ). x.0.offset) same)

module _ (pool : List Entry) (tag : ℕ) (bytes rest : List ℕ) (e : MapEntry) where
  abbrev G : Type 0
  G = Front (IsEntry pool e.offset e.change) (tag ∷ bytes) rest

  abbrev R : Type 0
  R = Option (MapEntry × List ℕ)

  abbrev r247 : Bool → R
  r247 b = if b then None else (number_in 2 bytes >>= λ offset. with_offset offset.0 (change_in pool tag offset.1))

  abbrev r128 : Bool → R
  r128 b = if b then with_offset (tag - 64) (one_item_in pool bytes) else r247 (nat_lt tag 247)

  abbrev r64 : Bool → R
  r64 b = if b then with_offset tag (Some (Same, bytes)) else r128 (nat_lt tag 128)

  f247 : (b : Bool) → tag < 256 → nat_lt tag 247 ≡ b → r247 b ≡ Some (e, rest) → G
  f247 true small l h = absurd (none≢some (e, rest) h)
  f247 false small l h =
      let a = bind_some (number_in 2 bytes) (λ offset. with_offset offset.0 (change_in pool tag offset.1)) (e, rest) h in
      let o = offset_reads a.0.0 (change_in pool tag a.0.1) e rest a.2 in
      let two = subst (λ (n : ℕ). Front (IsTwo n) bytes a.0.1) o.1 (two_reads bytes a.0.0 a.0.1 a.1) in
      let low : 247 ≤ tag = grind (arith, l) in
      change_reads pool tag e.offset bytes a.0.1 rest e.change two small low o.0

  f128 : (b : Bool) → tag < 256 → 64 ≤ tag → nat_lt tag 128 ≡ b → r128 b ≡ Some (e, rest) → G
  f128 true small low l h =
      let o = offset_reads (tag - 64) (one_item_in pool bytes) e rest h in
      let a = one_reads pool bytes rest e.change o.0 in
      let below = ltb-true tag 128 l in
      let at = o.1 in
      let is : tag ≡ 64 + e.offset = omega (arith, low, at) in
      let few : e.offset < 64 = omega (arith, below, at) in
      let f = begins (IsType pool a.0) tag (64 + e.offset) bytes rest is a.2 in
      subst (λ (c : Change). Front (IsEntry pool e.offset c) (tag ∷ bytes) rest) (sym a.1) (f.0, f.1, inl (few, f.2))
  f128 false small low l h = f247 (nat_lt tag 247) small refl h

  f64 : (b : Bool) → tag < 256 → nat_lt tag 64 ≡ b → r64 b ≡ Some (e, rest) → G
  f64 true small l h =
      let o = offset_reads tag (Some (Same, bytes)) e rest h in
      let below = ltb-true tag 64 l in
      let at = o.1 in
      let few : e.offset < 64 = omega (arith, below, at) in
      let same = some_same (Same, bytes) (e.change, rest) o.0 in
      let P : Change × List ℕ → Type 0 = λ x. Front (IsEntry pool e.offset x.0) (tag ∷ bytes) x.1 in
      subst P same (tag ∷ [], refl, inl (few, ap (λ (k : ℕ). k ∷ []) at))
  f64 false small l h = let low : 64 ≤ tag = grind (arith, l) in f128 (nat_lt tag 128) small low refl h

  frame_reads : tag < 256 → frame_in pool tag bytes ≡ Some (e, rest) → G
  unfolding frame_in
  frame_reads small h = f64 (nat_lt tag 64) small refl h

entry_reads : (pool : List Entry) (bytes : List ℕ) (e : MapEntry) (rest : List ℕ) → IsBytes bytes → map_entry_in pool bytes ≡ Some (e, rest) → Front (IsEntry pool e.offset e.change) bytes rest
unfolding map_entry_in
entry_reads pool [] e rest small h = absurd (none≢some (e, rest) h)
entry_reads pool (tag ∷ bytes) e rest small h = frame_reads pool tag bytes rest e (small 0) h

-- ---- the other way

apart : (tag : ℕ) (front byte others rest : List ℕ) → front ≡ byte ++ others → byte ≡ tag ∷ [] → front ++ rest ≡ tag ∷ (others ++ rest)
apart tag front byte others rest e f = ap (λ (l : List ℕ). l ++ rest) (e ∙ ap (λ (l : List ℕ). l ++ others) f)

-- a frame with an offset of two bytes, once its tag is known
long_again : (pool : List Entry) (tag offset : ℕ) (front others rest : List ℕ) (change : Change) → 247 ≤ tag → IsTwo offset front → change_in pool tag (others ++ rest) ≡ Some (change, rest) → frame_in pool tag (front ++ (others ++ rest)) ≡ Some (record { offset = offset; change = change }, rest)
unfolding frame_in
long_again pool tag offset front others rest change low two e =
    let a : nat_lt tag 64 ≡ false = grind (arith, low) in
    let b : nat_lt tag 128 ≡ false = grind (arith, low) in
    let c : nat_lt tag 247 ≡ false = grind (arith, low) in
    rw (a, b, c) (step (number_in 2) (λ offset. with_offset offset.0 (change_in pool tag offset.1)) (front ++ (others ++ rest)) (offset, others ++ rest) (two_again front offset (others ++ rest) two) ∙ ap (with_offset offset) e)

module _ (pool : List Entry) (offset : ℕ) (rest : List ℕ) where
  abbrev Read : List ℕ → Change → Type 0
  Read front change = map_entry_in pool (front ++ rest) ≡ Some (record { offset = offset; change = change }, rest)

  -- by its tag and what stands behind it
  by_tag : (tag : ℕ) (front byte others : List ℕ) (change : Change) → front ≡ byte ++ others → byte ≡ tag ∷ [] → frame_in pool tag (others ++ rest) ≡ Some (record { offset = offset; change = change }, rest) → Read front change
  unfolding map_entry_in
  by_tag tag front byte others change e f h = ap (map_entry_in pool) (apart tag front byte others rest e f) ∙ h

  by_two : (tag : ℕ) (front byte others two last : List ℕ) (change : Change) → 247 ≤ tag → front ≡ byte ++ others → byte ≡ tag ∷ [] → others ≡ two ++ last → IsTwo offset two → change_in pool tag (last ++ rest) ≡ Some (change, rest) → Read front change
  by_two tag front byte others two last change low e f g t h =
      by_tag tag front byte others change e f (ap (frame_in pool tag) (ap (λ (l : List ℕ). l ++ rest) g ∙ append_assoc two last rest) ∙ long_again pool tag offset two last rest change low t h)

  -- nothing stands behind the offset
  two_alone : (tag : ℕ) (front : List ℕ) (change : Change) → 247 ≤ tag → Joined (IsByte tag) (IsTwo offset) front → change_in pool tag rest ≡ Some (change, rest) → Read front change
  two_alone tag front change low h e = by_two tag front h.0 h.1 h.1 [] change low h.2 h.3 (sym (append-nil h.1)) h.4 e

  same_again : (front : List ℕ) → IsEntry pool offset Same front → Read front Same
  unfolding frame_in map_entry_in change_in
  same_again front (inl h) =
      let l : nat_lt offset 64 ≡ true = lt-ltb offset 64 h.0 in
      ap (λ (b : List ℕ). map_entry_in pool (b ++ rest)) h.1 ∙ rw l refl
  same_again front (inr h) = two_alone 251 front Same (omega arith) h refl

  item_again : (front : List ℕ) (item : VarType) → IsEntry pool offset (OneItem item) front → Read front (OneItem item)
  unfolding frame_in change_in
  item_again front item (inl h) =
      let few = h.0 in
      let a : nat_lt (64 + offset) 64 ≡ false = grind arith in
      let b : nat_lt (64 + offset) 128 ≡ true = lt-ltb (64 + offset) 128 (omega (arith, few)) in
      let c : 64 + offset - 64 ≡ offset = omega arith in
      by_tag (64 + offset) front h.1.0 h.1.1 (OneItem item) h.1.2 h.1.3 (rw (a, b, c) (ap (with_offset offset) (one_again pool h.1.1 rest item h.1.4)))
  item_again front item (inr h) = by_two 247 front h.0 h.1 h.4.0 h.4.1 (OneItem item) (omega arith) h.2 h.3 h.4.2 h.4.3 (one_again pool h.4.1 rest item h.4.4)

  chop_again : (front : List ℕ) (n : ℕ) → IsEntry pool offset (Chop n) front → Read front (Chop n)
  unfolding change_in
  chop_again front n h =
      let some = h.0 in
      let few = h.1 in
      let a : (251 - n == 247) ≡ false = grind (arith, few) in
      let b : nat_lt (251 - n) 251 ≡ true = lt-ltb (251 - n) 251 (omega (arith, some)) in
      let c : 251 - (251 - n) ≡ n = omega (arith, few) in
      two_alone (251 - n) front (Chop n) (omega (arith, few)) h.2 (rw (a, b, c) refl)

  append_is : (front : List ℕ) (more : List VarType) → IsEntry pool offset (Append more) front → Read front (Append more)
  unfolding change_in
  append_is front more h =
      let some = h.0 in
      let few = h.1 in
      let tag : ℕ = 251 + length more in
      let a : (251 + length more == 247) ≡ false = grind arith in
      let b : nat_lt (251 + length more) 251 ≡ false = grind arith in
      let c : (251 + length more == 251) ≡ false = grind (arith, some) in
      let d : nat_lt (251 + length more) 255 ≡ true = lt-ltb (251 + length more) 255 (omega (arith, few)) in
      let n : 251 + length more - 251 ≡ length more = omega arith in
      let x = h.2 in
      by_two (251 + length more) front x.0 x.1 x.4.0 x.4.1 (Append more) (omega arith) x.2 x.3 x.4.2 x.4.3 (rw (a, b, c, d) (append_again pool (251 + length more - 251) x.4.1 rest more n x.4.4))

  full_is : (front : List ℕ) (all operands : List VarType) → IsEntry pool offset (Full all operands) front → Read front (Full all operands)
  unfolding change_in
  full_is front all operands h = by_two 255 front h.0 h.1 h.4.0 h.4.1 (Full all operands) (omega arith) h.2 h.3 h.4.2 h.4.3 (full_again pool h.4.1 rest all operands h.4.4)

  entry_again : (front : List ℕ) (change : Change) → IsEntry pool offset change front → Read front change
  entry_again front Same h = same_again front h
  entry_again front (OneItem item) h = item_again front item h
  entry_again front (Chop n) h = chop_again front n h
  entry_again front (Append more) h = append_is front more h
  entry_again front (Full all operands) h = full_is front all operands h

-- ---- tables

entries_read : (pool : List Entry) (n : ℕ) (bytes : List ℕ) (es : List MapEntry) (rest : List ℕ) → IsBytes bytes → many_in (map_entry_in pool) n bytes ≡ Some (es, rest) → (n ≡ length es) × Front (AreEntries pool es) bytes rest
unfolding many_in
entries_read pool zero bytes es rest small e =
    let P : List MapEntry × List ℕ → Type 0 = λ x. (0 ≡ length x.0) × Front (AreEntries pool x.0) bytes x.1 in
    subst P (some_same ([], bytes) (es, rest) e) (refl, ([], refl, refl))
entries_read pool (suc n) bytes es rest small e =
    let a = bind_some (map_entry_in pool bytes) (λ first. many_in (map_entry_in pool) n first.1 >>= λ others. Some (first.0 ∷ others.0, others.1)) (es, rest) e in
    let b = bind_some (many_in (map_entry_in pool) n a.0.1) (λ others. Some (a.0.0 ∷ others.0, others.1)) (es, rest) a.2 in
    let first = entry_reads pool bytes a.0.0 a.0.1 small a.1 in
    let others = entries_read pool n a.0.1 b.0.0 b.0.1 (IsBytes-behind bytes first.0 a.0.1 small first.1) b.1 in
    let P : List MapEntry × List ℕ → Type 0 = λ x. (suc n ≡ length x.0) × Front (AreEntries pool x.0) bytes x.1 in
    subst P (some_same (a.0.0 ∷ b.0.0, b.0.1) (es, rest) b.2) (ap suc others.0, joins (IsEntry pool a.0.0.offset a.0.0.change) (AreEntries pool b.0.0) bytes a.0.1 b.0.1 first others.1)

entries_again : (pool : List Entry) (front : List ℕ) (es : List MapEntry) (rest : List ℕ) → AreEntries pool es front → many_in (map_entry_in pool) (length es) (front ++ rest) ≡ Some (es, rest)
unfolding many_in
entries_again pool front [] rest h = ap (λ (l : List ℕ). Some ([], l ++ rest)) h
entries_again pool front (e ∷ es) rest h =
    ap (many_in (map_entry_in pool) (suc (length es))) (ap (λ (l : List ℕ). l ++ rest) h.2 ∙ append_assoc h.0 h.1 rest)
    ∙ (step (map_entry_in pool) (λ first. many_in (map_entry_in pool) (length es) first.1 >>= λ others. Some (first.0 ∷ others.0, others.1)) (h.0 ++ (h.1 ++ rest)) (e, h.1 ++ rest) (entry_again pool e.offset (h.1 ++ rest) h.0 e.change h.3)
    ∙ step (many_in (map_entry_in pool) (length es)) (λ others. Some (e ∷ others.0, others.1)) (h.1 ++ rest) (es, rest) (entries_again pool h.1 es rest h.4))

whole_is : (x : List MapEntry × List ℕ) (es : List MapEntry) → whole x ≡ Some es → (x.0 ≡ es) × (x.1 ≡ [])
whole_is x es h = by (length x.1 == 0) refl h
  where
    by : (b : Bool) → (length x.1 == 0) ≡ b → (if b then Some x.0 else None) ≡ Some es → (x.0 ≡ es) × (x.1 ≡ [])
    by true e g = (some_same x.0 es g, nil_from_length x.1 (eqb-true (length x.1) 0 e))
    by false e g = absurd (none≢some es g)

table_reads : (pool : List Entry) (bytes : List ℕ) (es : List MapEntry) → IsBytes bytes → table_in pool bytes ≡ Some es → IsTable pool es bytes
unfolding table_in counted_in
table_reads pool bytes es small e =
    let a = bind_some (counted_in (map_entry_in pool) bytes) (λ found. whole found) es e in
    let b = bind_some (number_in 2 bytes) (λ n. many_in (map_entry_in pool) n.0 n.1) a.0 a.1 in
    let two = two_reads bytes b.0.0 b.0.1 b.1 in
    let entries = entries_read pool b.0.0 b.0.1 a.0.0 a.0.1 (IsBytes-behind bytes two.0 b.0.1 small two.1) b.2 in
    let w = whole_is a.0 es a.2 in
    let count = subst (λ (n : ℕ). Front (IsTwo n) bytes b.0.1) entries.0 two in
    let f = joins (IsTwo (length a.0.0)) (AreEntries pool a.0.0) bytes b.0.1 a.0.1 count entries.1 in
    let all : bytes ≡ f.0 = f.1 ∙ (ap (λ (l : List ℕ). f.0 ++ l) w.1 ∙ append-nil f.0) in
    subst (λ (l : List MapEntry). IsTable pool l bytes) w.0 (subst (IsTable pool a.0.0) (sym all) f.2)

table_again : (pool : List Entry) (bytes : List ℕ) (es : List MapEntry) → IsTable pool es bytes → table_in pool bytes ≡ Some es
unfolding table_in counted_in
table_again pool bytes es h =
    let last : h.1 ≡ h.1 ++ [] = sym (append-nil h.1) in
    step (counted_in (map_entry_in pool)) (λ found. whole found) bytes (es, []) (ap (λ (l : List ℕ). number_in 2 l >>= λ n. many_in (map_entry_in pool) n.0 n.1) h.2
    ∙ (step (number_in 2) (λ n. many_in (map_entry_in pool) n.0 n.1) (h.0 ++ h.1) (length es, h.1) (two_again h.0 (length es) h.1 h.3)
    ∙ (ap (many_in (map_entry_in pool) (length es)) last ∙ entries_again pool h.1 es [] h.4)))

pub tables_spelled : TablesAreSpelled
tables_spelled pool bytes es small = (table_reads pool bytes es small, table_again pool bytes es)
