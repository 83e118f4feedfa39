-- The blocks that a method takes, and the methods that are cached.
use Rattle.std.proofs.Common.{◌≡◌, ℕ, zero, suc, ◌+◌, ◌-◌, ◌%◌, ◌<◌, true, List, [], ◌∷◌, ◌++◌, length, get_or, map, replicate, Option, Some, None, is_some, refl, sym, ap, inl, inr, ◌∙◌, arith, length-append}
use native.Mathlib.Nat.{mod-add-mod}
use Rattle.std.specs.Prelude.{Contains}
use Rattle.std.proofs.lemmas.List.{length-replicate, get_or-replicate, get_or_append_left, get_or-append_right}
use Rattle.std.proofs.lemmas.Bool.{cases_lt, cases_eq}
use Rattle.method_cache.specs.Contents.{Entry, Cache, blocks_of, total_blocks, find_words, method_tags, tags_from_next, tag_of, first_block, Occupies, IsCache}
use Rattle.method_cache.proofs.Finds.{found, passed}
use Rattle.method_cache.proofs.Rotation.{mod_wraps_once}
use Rattle.method_cache.proofs.Lookups.{place_from}

-- what is found is among the methods, and the other way round
pub member_from_found : (m : ℕ) (es : List Entry) → is_some (find_words m es) ≡ true → Contains (map (λ e. e.method) es) m
member_from_found m [] h = let bad : ⊥ = cc in absurd bad
member_from_found m (e ∷ es) h =
    elim (cases_eq e.method m) [
      | inl same ↦ (0, omega arith, same)
      | inr other ↦
          let later = member_from_found m es (ap (λ (o : Option (List ℕ)). is_some o) (sym (passed e es m other)) ∙ h) in
          (suc later.0, omega (arith, later.1), later.2)
    ]

pub found_from_member : (m : ℕ) (es : List Entry) → Contains (map (λ e. e.method) es) m → is_some (find_words m es) ≡ true
found_from_member m [] h = absurd (omega (arith, h.1))
found_from_member m (e ∷ es) h =
    elim (cases_eq e.method m) [
      | inl same ↦ ap (λ (o : Option (List ℕ)). is_some o) (found e es m same)
      | inr other ↦
          let K : ℕ → Type 0 = λ k. k < suc (length (map (λ (f : Entry). f.method) es)) → get_or (e.method ∷ map (λ (f : Entry). f.method) es) k m ≡ m → Contains (map (λ (f : Entry). f.method) es) m in
          let behind : Contains (map (λ (f : Entry). f.method) es) m = elim h.0 as K [
            | zero ↦ λ lt at. absurd (other at)
            | suc k ↦ λ lt at. (k, omega arith, at)
          ] h.1 h.2 in
          ap (λ (o : Option (List ℕ)). is_some o) (passed e es m other) ∙ found_from_member m es behind
    ]

total_blocks-append : (w : ℕ) (es fs : List Entry) → total_blocks w (es ++ fs) ≡ total_blocks w es + total_blocks w fs
total_blocks-append w [] fs = omega arith
total_blocks-append w (e ∷ es) fs = omega (arith, total_blocks-append w es fs)

length-method_tags : (w : ℕ) (es : List Entry) → length (method_tags w es) ≡ total_blocks w es
length-method_tags w [] = refl
length-method_tags w (e ∷ es) =
    length-append (method_tags w es) (replicate (blocks_of w e) (Some e.method))
    ∙ omega (arith, length-method_tags w es, length-replicate {A = Option ℕ} (blocks_of w e) (Some e.method))

-- part j of a method lies behind the older methods
tag_of_part : (w : ℕ) (newer : List Entry) (e : Entry) (older : List Entry) (j : ℕ) → j < blocks_of w e → get_or (method_tags w (newer ++ e ∷ older)) (total_blocks w older + j) None ≡ Some e.method
tag_of_part w [] e older j within =
    get_or-append_right (method_tags w older) (replicate (blocks_of w e) (Some e.method)) (total_blocks w older) (total_blocks w older + j) None (length-method_tags w older) (omega arith)
    ∙ get_or-replicate (blocks_of w e) (total_blocks w older + j - total_blocks w older) (Some e.method) None (omega arith)
tag_of_part w (f ∷ newer) e older j within =
    let long = length-method_tags w (newer ++ e ∷ older) in
    let total = total_blocks-append w newer (e ∷ older) in
    get_or_append_left (method_tags w (newer ++ e ∷ older)) (replicate (blocks_of w f) (Some f.method)) None (total_blocks w older + j) (omega arith)
    ∙ tag_of_part w newer e older j within

-- a method that has a part at a place
record HasPart (w m p : ℕ) (es : List Entry) : Type 0 where
  newer : List Entry
  entry : Entry
  older : List Entry
  split : es ≡ newer ++ entry ∷ older
  method : entry.method ≡ m
  part : ℕ
  within : part < blocks_of w entry
  place : p ≡ total_blocks w older + part

part_from_tag : (w m p : ℕ) (es : List Entry) → p < total_blocks w es → get_or (method_tags w es) p None ≡ Some m → HasPart w m p es
part_from_tag w m p [] below at = absurd (omega arith)
part_from_tag w m p (e ∷ es) below at =
    let own = replicate (blocks_of w e) (Some e.method) in
    let long = length-method_tags w es in
    elim (cases_lt p (total_blocks w es)) [
      | inl low ↦
          let older = part_from_tag w m p es low (sym (get_or_append_left (method_tags w es) own None p (omega arith)) ∙ at) in
          record {
            newer = e ∷ older.newer;
            entry = older.entry;
            older = older.older;
            split = ap (λ (fs : List Entry). e ∷ fs) older.split;
            method = older.method;
            part = older.part;
            within = older.within;
            place = older.place;
          }
      | inr high ↦
          let j = p - total_blocks w es in
          let within : j < blocks_of w e = omega arith in
          let same : Some e.method ≡ Some m =
          sym (get_or-replicate (blocks_of w e) j (Some e.method) None within)
          ∙ sym (get_or-append_right (method_tags w es) own (total_blocks w es) p None long high)
          ∙ at in
          record {
            newer = [];
            entry = e;
            older = es;
            split = refl;
            method = (let is : e.method ≡ m = cc in is);
            part = j;
            within = within;
            place = (let sums : p ≡ total_blocks w es + j = omega arith in sums);
          }
    ]

-- places of a turned ring are apart
same_turn : (next n p q : ℕ) → next < n → p < n → q < n → (next + p) % n ≡ (next + q) % n → p ≡ q
same_turn next n p q start below below' same =
    let wrap_p = mod_wraps_once n (next + p) (omega arith) in
    let wrap_q = mod_wraps_once n (next + q) (omega arith) in
    grind (arith, wrap_p, wrap_q)

module _ (c : Cache) (valid : IsCache c) where
  -- how far a part lies from the pointer on
  part_place : (newer : List Entry) (e : Entry) (older : List Entry) (j : ℕ) → c.contents ≡ newer ++ e ∷ older → j < blocks_of c.block_words e → let p = c.blocks - total_blocks c.block_words c.contents + (total_blocks c.block_words older + j) in (p < c.blocks) × ((c.next + p) % c.blocks ≡ (first_block newer e c + j) % c.blocks)
  part_place newer e older j split within =
      let w = c.block_words in
      let whole : total_blocks w c.contents ≡ total_blocks w newer + (blocks_of w e + total_blocks w older) =
      ap (total_blocks w) split ∙ total_blocks-append w newer (e ∷ older) in
      let own : total_blocks w (newer ++ e ∷ []) ≡ total_blocks w newer + (blocks_of w e + 0) = total_blocks-append w newer (e ∷ []) in
      let fits = valid.fits in
      (omega (arith, whole, fits), ap (λ (k : ℕ). k % c.blocks) (let e' : c.next + (c.blocks - total_blocks w c.contents + (total_blocks w older + j)) ≡ c.next + (c.blocks - total_blocks w (newer ++ e ∷ [])) + j = omega (arith, whole, own, fits) in e') ∙ sym (mod-add-mod (c.next + (c.blocks - total_blocks w (newer ++ e ∷ []))) c.blocks j))

  tag_within : (p : ℕ) → get_or (tags_from_next c) (c.blocks - total_blocks c.block_words c.contents + p) None ≡ get_or (method_tags c.block_words c.contents) p None
  tag_within p =
      let free = c.blocks - total_blocks c.block_words c.contents in
      get_or-append_right (replicate free None) (method_tags c.block_words c.contents) free (free + p) None (length-replicate {A = Option ℕ} free None) (omega arith)
      ∙ ap (λ (k : ℕ). get_or (method_tags c.block_words c.contents) k None) (let e : free + p - free ≡ p = omega arith in e)

  pub tag_from_occupied : (b m : ℕ) → b < c.blocks → Occupies b m c → tag_of b c ≡ Some m
  tag_from_occupied b m below lies =
      let w = c.block_words in
      let at = place_from c.next c.blocks b valid.next below in
      let free = c.blocks - total_blocks w c.contents in
      let q = total_blocks w lies.older + lies.part in
      let there = part_place lies.newer lies.entry lies.older lies.part lies.split lies.within in
      let same : at.0 ≡ free + q = same_turn c.next c.blocks at.0 (free + q) valid.next at.1.within there.0 (at.1.forth ∙ lies.place ∙ sym there.1) in
      ap (λ (k : ℕ). get_or (tags_from_next c) k None) (at.1.back ∙ same)
      ∙ tag_within q
      ∙ ap (λ (es : List Entry). get_or (method_tags w es) q None) lies.split
      ∙ tag_of_part w lies.newer lies.entry lies.older lies.part lies.within
      ∙ ap (λ (k : ℕ). Some k) lies.method

  pub occupied_from_tag : (b m : ℕ) → b < c.blocks → tag_of b c ≡ Some m → Occupies b m c
  occupied_from_tag b m below tagged =
      let w = c.block_words in
      let at = place_from c.next c.blocks b valid.next below in
      let p = at.0 in
      let free = c.blocks - total_blocks w c.contents in
      let here : get_or (tags_from_next c) p None ≡ Some m = ap (λ (k : ℕ). get_or (tags_from_next c) k None) (sym at.1.back) ∙ tagged in
      elim (cases_lt p free) [
        | inl low ↦
            let none : get_or (tags_from_next c) p None ≡ None =
            get_or_append_left (replicate free None) (method_tags w c.contents) None p (omega (arith, length-replicate {A = Option ℕ} free None, low))
            ∙ get_or-replicate free p None None low in
            let bad : ⊥ = cc in absurd bad
        | inr high ↦
            let q = p - free in
            let sums : free + q ≡ p = omega arith in
            let inside : q < total_blocks w c.contents = omega (arith, at.1.within, valid.fits) in
            let lies = part_from_tag w m q c.contents inside (sym (tag_within q) ∙ ap (λ (k : ℕ). get_or (tags_from_next c) k None) sums ∙ here) in
            let there = part_place lies.newer lies.entry lies.older lies.part lies.split lies.within in
            record {
              newer = lies.newer;
              entry = lies.entry;
              older = lies.older;
              split = lies.split;
              method = lies.method;
              part = lies.part;
              within = lies.within;
              place = sym at.1.forth ∙ ap (λ (k : ℕ). (c.next + k) % c.blocks) (sym sums ∙ ap (λ (k : ℕ). free + k) lies.place) ∙ there.1;
            }
      ]
