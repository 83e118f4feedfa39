-- Looking a method up among the tags.
use Rattle.std.proofs.Common.{◌≡◌, ◌≢◌, ℕ, zero, suc, ◌+◌, Bool, true, false, List, [], ◌∷◌, ◌++◌, length, Some, None, refl, sym, ap, subst, ◌∙◌, arith}
use Rattle.std.specs.Prelude.{◌==◌, ◌&&◌, if◌then◌else◌, slice_get}
use Rattle.std.proofs.lemmas.Bool.{eq-eqb}
use Rattle.method_cache.specs.Contents.{Entry, Cache, first_block, find_words, IsCache, AreApart}
use Rattle.circuit_cycles.specs.Shape.{Shape}
use Rattle.circuit_cycles.specs.Tags.{BlockTag, find_tag}
use Rattle.circuit_cycles.specs.Methods.{tag_of_entry, HasMethods, BeginsIn, Lies}
use Rattle.circuit_cycles.proofs.Rounds.{eqb_eq}
use Rattle.circuit_cycles.proofs.Entries.{is_same, find_among}

-- where one tag alone is the method's, it is found
pub find_one : (m k p : ℕ) (t : BlockTag) (tags : List BlockTag) → slice_get tags p ≡ Some t → t.begins ≡ 1 → t.method ≡ m
    → ((q : ℕ) (u : BlockTag) → slice_get tags q ≡ Some u → u.begins ≡ 1 → u.method ≡ m → q ≡ p)
    → find_tag k m tags ≡ Some (k + p, t.words)
find_one m k p t [] at begins own only = let bad : ⊥ = cc in absurd bad
find_one m k zero t (x ∷ tags) at begins own only =
    let head : x ≡ t = cc in
    let first : (x.begins == 1) ≡ true = eq-eqb x.begins 1 (ap (λ (u : BlockTag). u.begins) head ∙ begins) in
    let second : (x.method == m) ≡ true = eq-eqb x.method m (ap (λ (u : BlockTag). u.method) head ∙ own) in
    let words : x.words ≡ t.words = ap (λ (u : BlockTag). u.words) head in
    let place : k ≡ k + 0 = omega arith in
    let A : Bool → Bool → Type 0 = λ a b. (if a && b then Some (k, x.words) else find_tag (k + 1) m tags) ≡ Some (k + 0, t.words) in
    subst (λ a. A a (x.method == m)) (sym first) (subst (λ b. A true b) (sym second) (ap (λ w. Some (k, w)) words ∙ ap (λ n. Some (n, t.words)) place))
find_one m k (suc p) t (x ∷ tags) at begins own only =
    let later = find_one m (k + 1) p t tags at begins own (λ q u here starts of_m. let step : suc q ≡ suc p = only (suc q) u here starts of_m in omega (arith, step)) in
    by (x.begins == 1) (x.method == m) refl refl (later ∙ ap (λ n. Some (n, t.words)) (let e : k + 1 + p ≡ k + suc p = omega arith in e))
  where
    by : (a b : Bool) → (x.begins == 1) ≡ a → (x.method == m) ≡ b → find_tag (k + 1) m tags ≡ Some (k + suc p, t.words)
        → (if a && b then Some (k, x.words) else find_tag (k + 1) m tags) ≡ Some (k + suc p, t.words)
    by true true first second later = let wrong : 0 ≡ suc p = only 0 x refl (eqb_eq x.begins 1 first) (eqb_eq x.method m second) in absurd (omega (arith, wrong))
    by true false first second later = later
    by false b first second later = later

pub find_no : (m k : ℕ) (tags : List BlockTag) → ((q : ℕ) (u : BlockTag) → slice_get tags q ≡ Some u → u.begins ≡ 1 → u.method ≢ m) → find_tag k m tags ≡ None
find_no m k [] none = refl
find_no m k (x ∷ tags) none = by (x.begins == 1) (x.method == m) refl refl (find_no m (k + 1) tags (λ q u. none (suc q) u))
  where
    by : (a b : Bool) → (x.begins == 1) ≡ a → (x.method == m) ≡ b → find_tag (k + 1) m tags ≡ None
        → (if a && b then Some (k, x.words) else find_tag (k + 1) m tags) ≡ None
    by true true first second later = absurd (none 0 x refl (eqb_eq x.begins 1 first) (eqb_eq x.method m second))
    by true false first second later = later
    by false b first second later = later

module _ (shape : Shape) (ring : List ℕ) (tags : List BlockTag) (next : ℕ) (cache : Cache) (valid : IsCache cache) (has : HasMethods shape ring tags next cache) where
  -- a method that the cache holds is found where it begins
  pub found_where : (newer : List Entry) (e : Entry) (older : List Entry) → cache.contents ≡ newer ++ e ∷ older
      → find_tag 0 e.method tags ≡ Some (first_block newer e cache, length e.words)
  found_where newer e older split =
      let lies : Lies shape ring tags cache newer e = has.all newer e older split in
      let only : (q : ℕ) (u : BlockTag) → slice_get tags q ≡ Some u → u.begins ≡ 1 → u.method ≡ e.method → q ≡ first_block newer e cache =
      λ q u here starts own.
      let begins : BeginsIn cache q u = has.others q u here starts (omega arith) in
      let method : u.method ≡ begins.method.method = ap (λ (t : BlockTag). t.method) begins.own in
      let same = is_same newer e older begins.newer begins.method begins.older (subst AreApart split valid.apart) (sym split ∙ begins.split) (sym own ∙ method) in
      begins.place ∙ ap (λ (es : List Entry). first_block es begins.method cache) (sym same.newer_is) ∙ ap (λ (f : Entry). first_block newer f cache) (sym same.entry_is) in
      find_one e.method 0 (first_block newer e cache) (tag_of_entry e) tags lies.tag refl refl only
      ∙ ap (λ k. Some (k, length e.words)) (let e' : 0 + first_block newer e cache ≡ first_block newer e cache = omega arith in e')

  -- and one that it doesn't hold isn't
  pub found_not : (m : ℕ) → find_words m cache.contents ≡ None → find_tag 0 m tags ≡ None
  found_not m none =
      find_no m 0 tags (λ q u here starts own.
      let begins : BeginsIn cache q u = has.others q u here starts (omega arith) in
      let method : begins.method.method ≡ m = sym (ap (λ (t : BlockTag). t.method) begins.own) ∙ own in
      let there = find_among begins.newer begins.method begins.older m method in
      let split = begins.split in
      let bad : ⊥ = cc in bad)
