-- A ring that holds nothing.
use Rattle.std.proofs.Common.{◌≡◌, ℕ, ◌-◌, ◌*◌, ◌<◌, ◌≤◌, List, [], ◌++◌, length, take, replicate, Option, None, Vec, Global, subst, sym, ap, ◌∙◌, arith}
use Rattle.std.proofs.lemmas.List.{append-nil, take_all, length-replicate}
use Rattle.method_cache.specs.declared.blocks.Tag.{Tag}
use Rattle.method_cache.specs.declared.MethodCache.TheInside.{Inside}
use Rattle.method_cache.specs.declared.TheConstants.{MAX_BLOCKS, MAX_BLOCK_WORDS}
use Rattle.method_cache.specs.Contents.{Entry, empty, IsCache}
use Rattle.method_cache.specs.Ring.{held}
use Rattle.method_cache.specs.Meaning.{ring_tags, ring_words, contents_of, cache_of, IsRing}
use Rattle.method_cache.proofs.Held.{held-free}
use Rattle.method_cache.proofs.Rings.{in_order}

-- what `resize` leaves of an empty list
pub all_free : {X : Type 0} (n len : ℕ) (x : X) (old now : List X) → now ≡ take n old ++ replicate (n - len) x → old ≡ [] → len ≡ 0 → now ≡ replicate n x
all_free n len x old now is none zero_len =
    is
    ∙ ap (λ ys. take n ys ++ replicate (n - len) x) none
    ∙ ap (λ ys. ys ++ replicate (n - len) x) (take_all n [] (omega arith))
    ∙ ap (λ (k : ℕ). replicate k x) (let e : n - len ≡ n = omega arith in e)

abbrev fresh : ℕ → ℕ → Vec (Option Tag) Global → Vec ℕ Global → Inside
fresh blocks w tags words = record { blocks = blocks; block_words = w; tags = tags; words = words; next = 0; selected = None }

module _ (blocks w : ℕ) (tags : Vec (Option Tag) Global) (words : Vec ℕ Global) (free : tags.items ≡ replicate blocks None) where
  turned : ring_tags (fresh blocks w tags words) ≡ replicate blocks None
  turned = append-nil tags.items ∙ free

  none_held : contents_of (fresh blocks w tags words) ≡ []
  none_held = ap (λ ts. held w ts (ring_words (fresh blocks w tags words))) turned ∙ held-free w blocks (ring_words (fresh blocks w tags words))

  pub cache_of-fresh : cache_of (fresh blocks w tags words) ≡ empty blocks w
  cache_of-fresh = ap (λ (es : List Entry). record { blocks = blocks; block_words = w; contents = es; next = 0 }) none_held

  pub IsRing-fresh : 0 < blocks → blocks ≤ MAX_BLOCKS → 0 < w → w ≤ MAX_BLOCK_WORDS → length words.items ≡ blocks * w → IsRing (fresh blocks w tags words)
  IsRing-fresh some_blocks most_blocks some_words most_words long =
      let nothing : IsCache (empty blocks w) = record { fits = omega arith; apart = tt; have_words = tt; next = some_blocks } in
      let P : List Entry → Type 0 = λ es. replicate {A = Option Tag} blocks None ≡ in_order w blocks es in
      let order : replicate {A = Option Tag} blocks None ≡ in_order w blocks [] =
      ap (λ (k : ℕ). replicate k None) (let e : blocks ≡ blocks - 0 = omega arith in e) ∙ sym (append-nil (replicate (blocks - 0) None)) in
      record {
        some_blocks = some_blocks;
        most_blocks = most_blocks;
        some_words = some_words;
        most_words = most_words;
        tags = ap length free ∙ length-replicate {A = Option Tag} blocks None;
        words = long;
        selected = tt;
        holds = subst IsCache (sym cache_of-fresh) nothing;
        in_order = turned ∙ subst P (sym none_held) order;
      }
