-- A method among those that the cache holds.
use Rattle.std.proofs.Common.{◌≡◌, ℕ, ◌+◌, ◌-◌, ◌%◌, ◌<◌, ◌≤◌, true, List, [], ◌∷◌, ◌++◌, length, Option, Some, is_some, refl, sym, ap, subst, inl, inr, mod-eq_of_lt, ◌∙◌, arith}
use Rattle.std.proofs.Math.Nat.{add-mod_right, mod-add-mod}
use Rattle.std.proofs.lemmas.Nat.{mod_below}
use Rattle.std.proofs.lemmas.Bool.{cases_eq}
use Rattle.method_cache.specs.Contents.{Entry, Cache, blocks_of, total_blocks, find_words, first_block, AreApart, HaveWords, IsCache}
use Rattle.method_cache.proofs.Finds.{found, passed}
use Rattle.method_cache.proofs.Held.{blocks_for-pos}

pub total-append : (w : ℕ) (es fs : List Entry) → total_blocks w (es ++ fs) ≡ total_blocks w es + total_blocks w fs
total-append w [] fs = omega arith
total-append w (e ∷ es) fs = omega (arith, total-append w es fs)

pub word_of_each : (newer : List Entry) (e : Entry) (older : List Entry) → HaveWords (newer ++ e ∷ older) → 0 < length e.words
word_of_each [] e older h = h.0
word_of_each (x ∷ newer) e older h = word_of_each newer e older h.1

pub find_among : (newer : List Entry) (e : Entry) (older : List Entry) (m : ℕ) → e.method ≡ m → is_some (find_words m (newer ++ e ∷ older)) ≡ true
find_among [] e older m same = ap (λ (o : Option (List ℕ)). is_some o) (found e older m same)
find_among (x ∷ newer) e older m same =
    elim (cases_eq x.method m) [
      | inl here ↦ ap (λ (o : Option (List ℕ)). is_some o) (found x (newer ++ e ∷ older) m here)
      | inr other ↦ ap (λ (o : Option (List ℕ)). is_some o) (passed x (newer ++ e ∷ older) m other) ∙ find_among newer e older m same
    ]

pub found_words : (newer : List Entry) (e : Entry) (older : List Entry) → AreApart (newer ++ e ∷ older) → find_words e.method (newer ++ e ∷ older) ≡ Some e.words
found_words [] e older apart = found e older e.method refl
found_words (x ∷ newer) e older apart =
    elim (cases_eq x.method e.method) [
      | inl same ↦
          let there = find_among newer e older x.method (sym same) in
          let none = apart.0 in
          let bad : ⊥ = cc in absurd bad
      | inr other ↦ passed x (newer ++ e ∷ older) e.method other ∙ found_words newer e older apart.1
    ]

-- the same method has the same place
pub record IsSame (newer : List Entry) (e : Entry) (newer' : List Entry) (f : Entry) : Type 0 where
  pub newer_is : newer ≡ newer'
  pub entry_is : e ≡ f

pub is_same : (newer : List Entry) (e : Entry) (older newer' : List Entry) (f : Entry) (older' : List Entry) → AreApart (newer ++ e ∷ older)
    → newer ++ e ∷ older ≡ newer' ++ f ∷ older' → e.method ≡ f.method → IsSame newer e newer' f
is_same [] e older [] f older' apart lists same = record { newer_is = refl; entry_is = cc }
is_same [] e older (y ∷ newer') f older' apart lists same =
    let there = find_among newer' f older' e.method (sym same) in
    let rest : older ≡ newer' ++ f ∷ older' = cc in
    let none = apart.0 in
    let bad : ⊥ = cc in absurd bad
is_same (x ∷ newer) e older [] f older' apart lists same =
    let there = find_among newer e older f.method same in
    let head : x ≡ f = cc in
    let none = apart.0 in
    let bad : ⊥ = cc in absurd bad
is_same (x ∷ newer) e older (y ∷ newer') f older' apart lists same =
    let head : x ≡ y = cc in
    let rest : newer ++ e ∷ older ≡ newer' ++ f ∷ older' = cc in
    let later = is_same newer e older newer' f older' apart.1 rest same in
    let tail = later.newer_is in
    let own = later.entry_is in
    record { newer_is = cc; entry_is = own }

-- where a method begins that the cache holds
pub record IsSplit (c : Cache) (newer : List Entry) (e : Entry) (older : List Entry) : Type 0 where
  pub some_words : 0 < length e.words
  pub some_blocks : 0 < blocks_of c.block_words e
  pub within : total_blocks c.block_words newer + blocks_of c.block_words e ≤ c.blocks
  pub total : total_blocks c.block_words (newer ++ e ∷ []) ≡ total_blocks c.block_words newer + blocks_of c.block_words e
  pub block : first_block newer e c < c.blocks

pub is_split : (c : Cache) (newer : List Entry) (e : Entry) (older : List Entry) → IsCache c → 0 < c.block_words → c.contents ≡ newer ++ e ∷ older → IsSplit c newer e older
is_split c newer e older valid some split =
    let w = c.block_words in
    let words = word_of_each newer e older (subst HaveWords split valid.have_words) in
    let all : total_blocks w c.contents ≡ total_blocks w newer + (blocks_of w e + total_blocks w older) = ap (total_blocks w) split ∙ total-append w newer (e ∷ older) in
    let own : total_blocks w (newer ++ e ∷ []) ≡ total_blocks w newer + (blocks_of w e + 0) = total-append w newer (e ∷ []) in
    let fits = valid.fits in
    record {
      some_words = words;
      some_blocks = blocks_for-pos w (length e.words) some words;
      within = omega (arith, all, fits);
      total = own ∙ (let e' : total_blocks w newer + (blocks_of w e + 0) ≡ total_blocks w newer + blocks_of w e = omega arith in e');
      block = mod_below (c.next + (c.blocks - total_blocks w (newer ++ e ∷ []))) c.blocks (omega (arith, valid.next));
    }

-- how far it begins behind the next block to take
pub distance_of : (n next taken : ℕ) → next < n → 0 < taken → taken ≤ n → ((next + (n - taken)) % n + (n - next)) % n ≡ n - taken
distance_of n next taken start some fits =
    mod-add-mod (next + (n - taken)) n (n - next)
    ∙ ap (λ k. k % n) (let e : next + (n - taken) + (n - next) ≡ (n - taken) + n = omega (arith, start, fits) in e)
    ∙ add-mod_right (n - taken) n
    ∙ mod-eq_of_lt (omega (arith, some, fits))
