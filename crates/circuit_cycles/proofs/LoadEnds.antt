-- A load ends: all methods lie in the ring.
use Rattle.std.proofs.Common.{◌≡◌, ℕ, ◌+◌, ◌-◌, ◌%◌, ◌<◌, ◌≤◌, List, [], ◌∷◌, ◌++◌, length, sym, ap, subst, mod-eq_of_lt, ◌∙◌, arith}
use Rattle.std.proofs.Math.Nat.{add-mod_right, mod-add-mod}
use Rattle.method_cache.specs.Contents.{Entry, Cache, blocks_of, blocks_for, total_blocks, first_block, IsCache}
use Rattle.circuit_cycles.specs.Shape.{Shape}
use Rattle.circuit_cycles.specs.Tags.{BlockTag}
use Rattle.circuit_cycles.specs.Methods.{HasMethods, HasPart, IsRing, Lies}
use Rattle.circuit_cycles.proofs.Entries.{is_split}

-- behind the blocks of the newest method stands the next one to take
pub end_of : (n next own : ℕ) → next < n → own ≤ n → ((next + (n - own)) % n + own) % n ≡ next
end_of n next own start fits =
    mod-add-mod (next + (n - own)) n own
    ∙ ap (λ k. k % n) (let e : next + (n - own) + own ≡ next + n = omega (arith, fits) in e)
    ∙ add-mod_right next n ∙ mod-eq_of_lt start

module _ (shape : Shape) (ring : List ℕ) (tags : List BlockTag) (next : ℕ) (cache : Cache) (newest : Entry) (older : List Entry) (is : IsRing shape ring tags cache) (valid : IsCache cache) (split : cache.contents ≡ newest ∷ older) (has : HasPart shape ring tags next cache newest (length newest.words)) where
  some_words : 0 < cache.block_words
  some_words = let given = is.some_words in let same = is.block_words in omega (arith, given, same)

  newest_lies : Lies shape ring tags cache [] newest
  newest_lies =
      let part = is_split cache [] newest older valid some_words split in
      record { words = has.words; tag = has.tag part.some_words }

  all : (newer : List Entry) (e : Entry) (rest : List Entry) → cache.contents ≡ newer ++ e ∷ rest → Lies shape ring tags cache newer e
  all [] e rest h = let both : newest ∷ older ≡ e ∷ rest = sym split ∙ h in let same : newest ≡ e = cc in subst (λ (f : Entry). Lies shape ring tags cache [] f) same newest_lies
  all (x ∷ newer) e rest h =
      let both : newest ∷ older ≡ x ∷ (newer ++ e ∷ rest) = sym split ∙ h in
      let same : newest ≡ x = cc in
      let tail : cache.contents ≡ newest ∷ (newer ++ e ∷ rest) = h ∙ ap (λ (y : Entry). y ∷ (newer ++ e ∷ rest)) (sym same) in
      subst (λ (y : Entry). Lies shape ring tags cache (y ∷ newer) e) same (has.olds newer e rest tail)

  pub load_ends : HasMethods shape ring tags next cache
  load_ends =
      let part = is_split cache [] newest older valid some_words split in
      let fit = part.within in
      let w = cache.block_words in
      let own : total_blocks w (newest ∷ []) ≡ blocks_of w newest = (let e : blocks_of w newest + 0 ≡ blocks_of w newest = omega arith in e) in
      record {
        next =
            has.next
            ∙ ap (λ n. (first_block [] newest cache + blocks_for shape.block_words (length newest.words)) % n) (sym is.blocks)
            ∙ ap (λ v. (first_block [] newest cache + blocks_for v (length newest.words)) % cache.blocks) (sym is.block_words)
            ∙ ap (λ k. ((cache.next + (cache.blocks - k)) % cache.blocks + blocks_of w newest) % cache.blocks) own
            ∙ end_of cache.blocks cache.next (blocks_of w newest) valid.next (omega (arith, fit));
        all = all;
        others = λ block tag at begins far. has.others block tag at begins (let b = blocks_for shape.block_words (length newest.words) in let none : b - b ≡ 0 = omega arith in omega (arith, none));
      }
