-- The fields of a cache after a load.
use Rattle.std.proofs.Common.{◌≡◌, ℕ, ◌+◌, ◌-◌, ◌*◌, ◌%◌, ◌<◌, ◌≤◌, false, List, ◌∷◌, ◌++◌, length, get_or, take, drop, Option, Some, None, is_some, Vec, Global, refl, subst, sym, ap, inl, inr, mod-eq_of_lt, ◌∙◌, arith, length-append}
use Rattle.std.proofs.Math.Nat.{add-mod_right, mul-le-mul_right}
use Rattle.std.proofs.lemmas.List.{with_items_is, get_or-append_right}
use Rattle.std.proofs.lemmas.Nat.{mod_below}
use Rattle.std.specs.Vec.{with_items}
use Rattle.method_cache.specs.declared.blocks.Tag.{Tag}
use Rattle.method_cache.specs.declared.MethodCache.TheInside.{Inside}
use Rattle.method_cache.specs.Contents.{Entry, Cache, blocks_for, fitting, find_words, is_cached, loaded, AreApart, HaveWords, IsCache}
use Rattle.method_cache.specs.Ring.{rotated, parts, cleared}
use Rattle.method_cache.specs.Meaning.{ring_tags, ring_words, contents_of, cache_of, IsRing}
use Rattle.method_cache.proofs.Rotation.{mod_wraps_once, length-rotated, get_or-rotated}
use Rattle.method_cache.proofs.Parts.{length-parts, get_or-parts}
use Rattle.method_cache.proofs.Held.{blocks_for-pos}
use Rattle.method_cache.proofs.Fitting.{total_blocks-fitting, AreApart-fitting, HaveWords-fitting}
use Rattle.method_cache.proofs.Rings.{in_order, held_loaded}

none_from : {X : Type 0} (o : Option X) → is_some o ≡ false → o ≡ None
none_from None h = refl
none_from (Some x) h = let bad : ⊥ = cc in absurd bad

-- the definition's cache is one
pub IsCache-loaded : (m : ℕ) (ws : List ℕ) (c : Cache) → 0 < c.blocks → IsCache c → is_cached m c ≡ false → 0 < length ws → IsCache (loaded m ws c)
IsCache-loaded m ws c some h absent has =
    let e : Entry = record { method = m; words = ws } in
    let apart : AreApart (e ∷ c.contents) = (none_from (find_words m c.contents) absent, h.apart) in
    let have_words : HaveWords (e ∷ c.contents) = (has, h.have_words) in
    record {
      fits = total_blocks-fitting c.block_words c.blocks (e ∷ c.contents);
      apart = AreApart-fitting c.block_words c.blocks (e ∷ c.contents) apart;
      have_words = HaveWords-fitting c.block_words c.blocks (e ∷ c.contents) have_words;
      next = mod_below (c.next + blocks_for c.block_words (length ws)) c.blocks some;
    }

-- the fields after a load of n words of method m that leaves these tags and words, with the pointer at `end`
abbrev pub after_load : Inside → Vec (Option Tag) Global → Vec ℕ Global → ℕ → ℕ → ℕ → Inside
after_load a tags words end m n = record { blocks = a.blocks; block_words = a.block_words; tags = tags; words = words; next = end; selected = Some (record { method = m; first = a.next * a.block_words; words = n }) }

pub record IsLoad (a : Inside) (tags : Vec (Option Tag) Global) (words : Vec ℕ Global) (end m : ℕ) (ws : List ℕ) : Type 0 where
  pub ring : IsRing a
  pub absent : is_cached m (cache_of a) ≡ false
  pub least : 0 < length ws
  pub most : blocks_for a.block_words (length ws) ≤ a.blocks
  pub end_is : end ≡ (a.next + blocks_for a.block_words (length ws)) % a.blocks
  pub tags_len : length tags.items ≡ a.blocks
  pub words_len : length words.items ≡ a.blocks * a.block_words
  pub tags_are : rotated end tags.items ≡ cleared a.block_words (drop (blocks_for a.block_words (length ws)) (ring_tags a)) ++ parts m (length ws) (blocks_for a.block_words (length ws))
  pub words_are : rotated (end * a.block_words) words.items ≡ drop (blocks_for a.block_words (length ws) * a.block_words) (ring_words a) ++ take (blocks_for a.block_words (length ws) * a.block_words) (ws ++ drop (length ws) (ring_words a))

module _ (a : Inside) (tags : Vec (Option Tag) Global) (words : Vec ℕ Global) (end m : ℕ) (ws : List ℕ) (h : IsLoad a tags words end m ws) where
  held_now : (contents_of (after_load a tags words end m (length ws)) ≡ fitting a.block_words a.blocks (record { method = m; words = ws } ∷ contents_of a)) × (ring_tags (after_load a tags words end m (length ws)) ≡ in_order a.block_words a.blocks (fitting a.block_words a.blocks (record { method = m; words = ws } ∷ contents_of a)))
  held_now =
      let ring = h.ring in
      let cache = ring.holds in
      let within : a.next * a.block_words ≤ a.blocks * a.block_words = mul-le-mul_right a.block_words (let le : a.next ≤ a.blocks = omega (arith, cache.next) in le) in
      let long : length (ring_words a) ≡ a.blocks * a.block_words = length-rotated (a.next * a.block_words) a.words.items (omega (arith, ring.words)) ∙ ring.words in
      held_loaded a.block_words a.blocks m ws (contents_of a) (ring_tags a) _ (ring_words a) _ ring.some_words h.least cache.have_words cache.fits h.most long ring.in_order refl h.tags_are h.words_are

  pub cache_of-after_load : cache_of (after_load a tags words end m (length ws)) ≡ loaded m ws (cache_of a)
  cache_of-after_load =
      ap (λ (es : List Entry). record { blocks = a.blocks; block_words = a.block_words; contents = es; next = end }) held_now.0
      ∙ ap (λ (k : ℕ). record { blocks = a.blocks; block_words = a.block_words; contents = fitting a.block_words a.blocks (record { method = m; words = ws } ∷ contents_of a); next = k }) h.end_is

  pub IsCache-after_load : IsCache (cache_of (after_load a tags words end m (length ws)))
  IsCache-after_load =
      let ring = h.ring in
      subst IsCache (sym cache_of-after_load) (IsCache-loaded m ws (cache_of a) ring.some_blocks ring.holds h.absent h.least)

  -- the method begins in the block with which the load began
  begins_at_next : get_or tags.items a.next None ≡ Some (record { method = m; part = 0; words = length ws })
  begins_at_next =
      let ring = h.ring in
      let n = a.blocks in
      let s = blocks_for a.block_words (length ws) in
      let j = n - s in
      let some : 0 < s = blocks_for-pos a.block_words (length ws) ring.some_words h.least in
      let start = ring.holds.next in
      let most = h.most in
      let place : end < n = omega (arith, h.end_is, mod_below (a.next + s) n ring.some_blocks) in
      let others = cleared a.block_words (drop s (ring_tags a)) in
      let ps = parts m (length ws) s in
      let long : length others ≡ j =
      omega (arith, length-append others ps, length-parts m (length ws) s, ap length h.tags_are, length-rotated end tags.items (omega (arith, h.tags_len)), h.tags_len) in
      let back : (end + j) % n ≡ a.next =
      elim (mod_wraps_once n (a.next + s) (omega arith)) [
        | inl low ↦ ap (λ (k : ℕ). k % n) (let e : end + j ≡ a.next + n = omega (arith, h.end_is, low.1) in e) ∙ add-mod_right a.next n ∙ mod-eq_of_lt start
        | inr high ↦ ap (λ (k : ℕ). k % n) (let e : end + j ≡ a.next = omega (arith, h.end_is, high.0, high.1) in e) ∙ mod-eq_of_lt start
      ] in
      ap (λ (k : ℕ). get_or tags.items k None) (sym back)
      ∙ ap (λ (k : ℕ). get_or tags.items ((end + j) % k) None) (sym h.tags_len)
      ∙ sym (get_or-rotated end tags.items (omega (arith, h.tags_len)) j None (omega (arith, h.tags_len)))
      ∙ ap (λ ts. get_or ts j None) h.tags_are
      ∙ get_or-append_right others ps j j None long (omega arith)
      ∙ ap (λ (k : ℕ). get_or ps k None) (let e : j - j ≡ 0 = omega arith in e)
      ∙ get_or-parts m (length ws) s 0 some None

  pub IsRing-after_load : IsRing (after_load a tags words end m (length ws))
  IsRing-after_load =
      let ring = h.ring in
      let cache = ring.holds in
      let order : ring_tags (after_load a tags words end m (length ws)) ≡ in_order a.block_words a.blocks (contents_of (after_load a tags words end m (length ws))) =
      held_now.1 ∙ sym (ap (in_order a.block_words a.blocks) held_now.0) in
      record {
        some_blocks = ring.some_blocks;
        most_blocks = ring.most_blocks;
        some_words = ring.some_words;
        most_words = ring.most_words;
        tags = h.tags_len;
        words = h.words_len;
        selected = record { block = a.next; within = omega (arith, h.tags_len, cache.next); tagged = begins_at_next; first = refl };
        holds = IsCache-after_load;
        in_order = order;
      }

-- what `store` ensures, where it was lent the fields of a cache, makes a load
pub is_load : (a : Inside) (now : Cache) (lent_tags tags : List (Option Tag)) (lent_words words : List ℕ) (end m : ℕ) (ws : List ℕ) → cache_of a ≡ now → IsRing a → is_cached m now ≡ false → 0 < length ws → blocks_for now.block_words (length ws) ≤ now.blocks → lent_tags ≡ a.tags.items → lent_words ≡ a.words.items → length tags ≡ length lent_tags → length words ≡ length lent_words → let s = blocks_for a.block_words (length ws) in end ≡ (a.next + s) % length lent_tags → rotated end tags ≡ cleared a.block_words (drop s (rotated a.next lent_tags)) ++ parts m (length ws) s → rotated (end * a.block_words) words ≡ drop (s * a.block_words) (rotated (a.next * a.block_words) lent_words) ++ take (s * a.block_words) (ws ++ drop (length ws) (rotated (a.next * a.block_words) lent_words)) → IsLoad a (with_items a.tags tags) (with_items a.words words) end m ws
is_load a now lent_tags tags lent_words words end m ws view ring absent least most tags_lent words_lent tags_long words_long end_is tags_are words_are =
    let w = a.block_words in
    let n = length ws in
    let s = blocks_for w n in
    let has_tags : (with_items a.tags tags).items ≡ tags =
    with_items_is a.tags tags (omega (arith, a.tags.ok.0, tags_long, ap length tags_lent)) in
    let has_words : (with_items a.words words).items ≡ words =
    with_items_is a.words words (omega (arith, a.words.ok.0, words_long, ap length words_lent)) in
    let Absent : Cache → Type 0 = λ k. is_cached m k ≡ false in
    let Fits : Cache → Type 0 = λ k. blocks_for k.block_words n ≤ k.blocks in
    record {
      ring = ring;
      absent = subst Absent (sym view) absent;
      least = least;
      most = subst Fits (sym view) most;
      end_is = end_is ∙ ap (λ (k : ℕ). (a.next + s) % k) (ap length tags_lent ∙ ring.tags);
      tags_len = ap length has_tags ∙ tags_long ∙ ap length tags_lent ∙ ring.tags;
      words_len = ap length has_words ∙ words_long ∙ ap length words_lent ∙ ring.words;
      tags_are = ap (rotated end) has_tags ∙ tags_are ∙ ap (λ ts. cleared w (drop s (rotated a.next ts)) ++ parts m n s) tags_lent;
      words_are = ap (rotated (end * w)) has_words ∙ words_are ∙ ap (λ rs. drop (s * w) (rotated (a.next * w) rs) ++ take (s * w) (ws ++ drop n (rotated (a.next * w) rs))) words_lent;
    }
