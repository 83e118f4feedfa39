-- What is read from the ring.
use Rattle.std.proofs.Common.{◌≡◌, ℕ, ◌+◌, ◌-◌, ◌*◌, ◌%◌, ◌<◌, ◌≤◌, ◌⊎◌, true, false, cond, ltb, List, [], ◌++◌, length, get_or, take, drop, map, replicate, min, Option, Some, None, is_some, unwrap_or, subst, sym, ap, inl, inr, mod-eq_of_lt, ◌∙◌, arith, length-drop, get_or-drop, get_or-take}
use Rattle.std.specs.Prelude.{All, IfSome, IfNone}
use Rattle.std.proofs.Math.Nat.{add-mod_right, mul-le-mul_right}
use Rattle.std.proofs.lemmas.Nat.{mod_below, mul-add-lt}
use Rattle.std.proofs.lemmas.List.{length-take, length-replicate, get_or-replicate, get_or_append_left, get_or-append_right, get_or_past, get_or-map, map-append}
use Rattle.std.proofs.lemmas.Bool.{cases_lt}
use Rattle.std.proofs.lemmas.Bool.Decides.{nat_tests}
use Rattle.method_cache.specs.declared.blocks.Tag.{Tag}
use Rattle.method_cache.specs.declared.blocks.Extent.{Extent}
use Rattle.method_cache.specs.declared.MethodCache.TheInside.{Inside}
use Rattle.method_cache.specs.Contents.{Entry, total_blocks, AreApart, find_words, is_cached, word_of, tags_from_next, tag_of}
use Rattle.method_cache.specs.Ring.{begins, laid, method_of, IsExtent}
use Rattle.method_cache.specs.Meaning.{ring_tags, ring_words, contents_of, cache_of, IsRing}
use Rattle.method_cache.proofs.Rotation.{get_or-rotated, length-rotated}
use Rattle.method_cache.proofs.Finds.{find_at, find_none, words_at, begins-method, map-laid, map-free}
use Rattle.method_cache.proofs.Rings.{in_order}

-- how far block b lies from the pointer on
pub record IsPlace (next n b p : ℕ) : Type 0 where
  pub within : p < n
  pub forth : (next + p) % n ≡ b
  pub back : (b + (n - next)) % n ≡ p
  pub turns : (next + p ≡ b) ⊎ (next + p ≡ b + n)

pub place_from : (next n b : ℕ) → next < n → b < n → (p : ℕ) × IsPlace next n b p
place_from next n b start below =
    elim (cases_lt b next) [
      | inl before ↦
          let p = b + (n - next) in
          let turn : next + p ≡ b + n = omega arith in
          let within : p < n = omega arith in (
            p,
            record {
              within = within;
              forth = ap (λ (k : ℕ). k % n) turn ∙ add-mod_right b n ∙ mod-eq_of_lt below;
              back = mod-eq_of_lt within;
              turns = inr turn;
            },
          )
      | inr behind ↦
          let p = b - next in
          let same : next + p ≡ b = omega arith in
          let within : p < n = omega arith in (
            p,
            record {
              within = within;
              forth = ap (λ (k : ℕ). k % n) same ∙ mod-eq_of_lt below;
              back = ap (λ (k : ℕ). k % n) (let e : b + (n - next) ≡ p + n = omega arith in e) ∙ add-mod_right p n ∙ mod-eq_of_lt within;
              turns = inl same;
            },
          )
    ]

-- the place of word i of block b
same_word : (next n b p w i : ℕ) → IsPlace next n b p → (next * w + (p * w + i)) % (n * w) ≡ (b * w + i) % (n * w)
same_word next n b p w i place =
    let sums : next * w + (p * w + i) ≡ (next + p) * w + i = omega arith in
    elim place.turns [
      | inl same ↦ ap (λ (k : ℕ). k % (n * w)) (sums ∙ ap (λ (k : ℕ). k * w + i) same)
      | inr turn ↦
          ap (λ (k : ℕ). k % (n * w)) (sums ∙ ap (λ (k : ℕ). k * w + i) turn ∙ (let e : (b + n) * w + i ≡ b * w + i + n * w = omega arith in e))
          ∙ add-mod_right (b * w + i) (n * w)
    ]

begins-self : (m n : ℕ) → begins m (Some (record { method = m; part = 0; words = n })) ≡ true
begins-self m n = grind (arith, nat_tests)

-- free blocks have no tag
words_behind : (w p free : ℕ) (t : Tag) (es : List Entry) → AreApart es → get_or (replicate free None ++ laid w es) p None ≡ Some t → (ws : List ℕ) × (find_words t.method es ≡ Some ws) × (t.words ≡ length ws)
words_behind w p free t es apart at =
    let long = length-replicate {A = Option Tag} free None in
    elim (cases_lt p free) [
      | inl low ↦
          let none : get_or (replicate free None ++ laid w es) p None ≡ None =
          get_or_append_left (replicate free None) (laid w es) None p (omega arith) ∙ get_or-replicate free p None None low in
          let bad : ⊥ = cc in absurd bad
      | inr high ↦ words_at w (p - free) t es apart (sym (get_or-append_right (replicate free None) (laid w es) free p None long high) ∙ at)
    ]

module _ (a : Inside) (ring : IsRing a) where
  long_tags : length (ring_tags a) ≡ a.blocks
  long_tags = length-rotated a.next a.tags.items (omega (arith, ring.tags, ring.holds.next)) ∙ ring.tags

  start_within : a.next * a.block_words ≤ length a.words.items
  start_within = omega (arith, ring.words, mul-le-mul_right a.block_words (let le : a.next ≤ a.blocks = omega (arith, ring.holds.next) in le))

  long_words : length (ring_words a) ≡ a.blocks * a.block_words
  long_words = length-rotated (a.next * a.block_words) a.words.items start_within ∙ ring.words

  -- the tag of block b
  tag_at : (b p : ℕ) → IsPlace a.next a.blocks b p → get_or (ring_tags a) p None ≡ get_or a.tags.items b None
  tag_at b p place =
      get_or-rotated a.next a.tags.items (omega (arith, ring.tags, ring.holds.next)) p None (omega (arith, ring.tags, place.within))
      ∙ ap (λ (k : ℕ). get_or a.tags.items ((a.next + p) % k) None) ring.tags
      ∙ ap (λ (k : ℕ). get_or a.tags.items k None) place.forth

  pub tag_of-cache_of : (b : ℕ) → b < a.blocks → method_of (get_or a.tags.items b None) ≡ tag_of b (cache_of a)
  tag_of-cache_of b below =
      let at = place_from a.next a.blocks b ring.holds.next below in
      let p = at.0 in
      let place = at.1 in
      let es = contents_of a in
      let free = a.blocks - total_blocks a.block_words es in
      let methods : map method_of (ring_tags a) ≡ tags_from_next (cache_of a) =
      ap (map method_of) ring.in_order
      ∙ map-append method_of (replicate free None) (laid a.block_words es)
      ∙ ap (λ ts. ts ++ map method_of (laid a.block_words es)) (map-free free)
      ∙ ap (λ ts. replicate free None ++ ts) (map-laid a.block_words es) in
      ap method_of (sym (tag_at b p place))
      ∙ sym (get_or-map method_of (ring_tags a) p None None (omega (arith, long_tags, place.within)))
      ∙ ap (λ ts. get_or ts p None) methods
      ∙ ap (λ (k : ℕ). get_or (tags_from_next (cache_of a)) k None) (sym place.back)

  -- a method that begins in no block isn't cached
  pub find_words-none : (m : ℕ) → All (λ t. begins m t ≡ false) a.tags.items → find_words m (contents_of a) ≡ None
  find_words-none m absent =
      find_none a.block_words m (ring_tags a) (ring_words a) (λ p below.
      ap (begins m) (get_or-rotated a.next a.tags.items (omega (arith, ring.tags, ring.holds.next)) p None (omega (arith, long_tags, ring.tags)))
      ∙ absent ((a.next + p) % length a.tags.items) None (mod_below (a.next + p) (length a.tags.items) (omega (arith, ring.tags, ring.some_blocks))))

  -- a block's tag has the number of its method's words
  found_count : (m p : ℕ) (t : Tag) → get_or (ring_tags a) p None ≡ Some t → begins m (Some t) ≡ true → (ws : List ℕ) × (find_words m (contents_of a) ≡ Some ws) × (t.words ≡ length ws)
  found_count m p t at here =
      let w = a.block_words in
      let es = contents_of a in
      let free = a.blocks - total_blocks w es in
      let at_laid : get_or (in_order w a.blocks es) p None ≡ Some t = ap (λ ts. get_or ts p None) (sym ring.in_order) ∙ at in
      let P : ℕ → Type 0 = λ k. (ws : List ℕ) × (find_words k es ≡ Some ws) × (t.words ≡ length ws) in
      subst P (begins-method m t here) (words_behind w p free t es ring.holds.apart at_laid)

  -- a method that lies there is held, and its words are those of the ring from its first one on
  record IsFound (e : Extent) (ws : List ℕ) : Type 0 where
    pub is : find_words e.method (contents_of a) ≡ Some ws
    pub count : e.words ≡ length ws
    pub near : (i : ℕ) → i < e.words → e.first + i < length a.words.items + length a.words.items
    pub each : (i : ℕ) → i < e.words → get_or ws i 0 ≡ get_or a.words.items ((e.first + i) % length a.words.items) 0

  -- the extent stands in the tags that `find` was lent
  found_at : (e : Extent) (lent : List (Option Tag)) → lent ≡ a.tags.items → IsExtent a.block_words lent e → (ws : List ℕ) × IsFound e ws
  found_at e lent same lies =
      let w = a.block_words in
      let n = a.blocks in
      let m = e.method in
      let b = lies.block in
      let t : Tag = record { method = m; part = 0; words = e.words } in
      let here = begins-self m e.words in
      let below : b < n = omega (arith, lies.within, ap length same, ring.tags) in
      let at = place_from a.next n b ring.holds.next below in
      let p = at.0 in
      let place = at.1 in
      let rest = drop (p * w) (ring_words a) in
      let ws = take e.words rest in
      let here_tag : get_or (ring_tags a) p None ≡ Some t =
      tag_at b p place ∙ ap (λ ts. get_or ts b None) (sym same) ∙ lies.tagged in
      let is : find_words m (contents_of a) ≡ Some ws = find_at w m p t (ring_tags a) (ring_words a) ring.holds.apart here_tag here in
      let counted = found_count m p t here_tag here in
      let same_words : counted.0 ≡ ws = let joined : Some counted.0 ≡ Some ws = sym counted.1 ∙ is in cc in
      let count : e.words ≡ length ws = counted.2 ∙ ap length same_words in
      let long : length ws ≡ min e.words (length rest) = length-take e.words rest in
      let long_rest = length-drop (p * w) (ring_words a) in
      let row : b * w + 0 < w * n = mul-add-lt b w 0 n below ring.some_words in
      let first = lies.first in
      let total : length a.words.items ≡ n * w = ring.words in (
        ws,
        record {
          is = is;
          count = count;
          near = λ i less. omega (arith, long_words);
          each = λ i less.
              get_or-take e.words rest i 0 less
              ∙ get_or-drop (p * w) (ring_words a) i 0
              ∙ get_or-rotated (a.next * w) a.words.items start_within (p * w + i) 0 (omega (arith, long_words))
              ∙ ap (λ (k : ℕ). get_or a.words.items ((a.next * w + (p * w + i)) % k) 0) total
              ∙ ap (λ (k : ℕ). get_or a.words.items k 0) (same_word a.next n b p w i place)
              ∙ ap (λ (k : ℕ). get_or a.words.items ((k + i) % (n * w)) 0) (sym first)
              ∙ ap (λ (k : ℕ). get_or a.words.items ((e.first + i) % k) 0) (sym total);
        },
      )

  pub is_cached-found : (m : ℕ) (e : Extent) (lent : List (Option Tag)) → lent ≡ a.tags.items → IsExtent a.block_words lent e → e.method ≡ m → is_cached m (cache_of a) ≡ true
  is_cached-found m e lent same here is =
      let there = found_at e lent same here in
      ap (λ (k : ℕ). is_cached k (cache_of a)) (sym is) ∙ ap (λ (o : Option (List ℕ)). is_some o) there.1.is

  pub is_cached-none : (m : ℕ) (lent : List (Option Tag)) → lent ≡ a.tags.items → All (λ t. begins m t ≡ false) lent → is_cached m (cache_of a) ≡ false
  is_cached-none m lent same absent =
      let P : List (Option Tag) → Type 0 = λ ts. All (λ t. begins m t ≡ false) ts in
      ap (λ (o : Option (List ℕ)). is_some o) (find_words-none m (subst P same absent))

  pub is_cached-by : (m : ℕ) (r : Option Extent) (lent : List (Option Tag)) → lent ≡ a.tags.items → IfSome r (IsExtent a.block_words lent) → IfSome r (λ e. e.method ≡ m) → IfNone r (All (λ t. begins m t ≡ false) lent) → is_cached m (cache_of a) ≡ is_some r
  is_cached-by m None lent same here is absent = is_cached-none m lent same absent
  is_cached-by m (Some e) lent same here is absent = is_cached-found m e lent same here is

  pub word_of-none : (m i : ℕ) (lent : List (Option Tag)) → lent ≡ a.tags.items → All (λ t. begins m t ≡ false) lent → word_of m i (cache_of a) ≡ 0
  word_of-none m i lent same absent =
      let P : List (Option Tag) → Type 0 = λ ts. All (λ t. begins m t ≡ false) ts in
      ap (λ (o : Option (List ℕ)). get_or (unwrap_or o []) i 0) (find_words-none m (subst P same absent))

  -- what `word_at` requires, where it is lent the words
  pub word_near : (i : ℕ) (e : Extent) (lent : List (Option Tag)) (ring_lent : List ℕ) → lent ≡ a.tags.items → ring_lent ≡ a.words.items → IsExtent a.block_words lent e → i < e.words → e.first + i < length ring_lent + length ring_lent
  word_near i e lent ring_lent same same_words here less =
      let there = found_at e lent same here in
      omega (arith, there.1.near i less, ap length same_words)

  -- what `word_at` answers
  pub word_of-at : (m i : ℕ) (e : Extent) (lent : List (Option Tag)) (ring_lent : List ℕ) → lent ≡ a.tags.items → ring_lent ≡ a.words.items → IsExtent a.block_words lent e → e.method ≡ m → word_of m i (cache_of a) ≡ cond (ltb i e.words) (get_or ring_lent ((e.first + i) % length ring_lent) 0) 0
  word_of-at m i e lent ring_lent same same_words here is =
      let there = found_at e lent same here in
      ap (λ (k : ℕ). word_of k i (cache_of a)) (sym is)
      ∙ ap (λ (o : Option (List ℕ)). get_or (unwrap_or o []) i 0) there.1.is
      ∙ elim (cases_lt i e.words) [
        | inl less ↦
            there.1.each i less
            ∙ ap (λ rs. get_or rs ((e.first + i) % length rs) 0) (sym same_words)
            ∙ ap (λ b. cond b (get_or ring_lent ((e.first + i) % length ring_lent) 0) 0) (let t : true ≡ ltb i e.words = grind (arith, nat_tests) in t)
        | inr past ↦
            get_or_past there.0 i 0 (omega (arith, there.1.count))
            ∙ ap (λ b. cond b (get_or ring_lent ((e.first + i) % length ring_lent) 0) 0) (let t : false ≡ ltb i e.words = grind (arith, nat_tests) in t)
      ]
