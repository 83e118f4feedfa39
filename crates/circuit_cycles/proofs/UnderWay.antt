-- A load that is under way.
use Rattle.std.proofs.Common.{◌≡◌, ℕ, ◌+◌, ◌%◌, ◌^◌, ◌<◌, ◌≤◌, List, length, sym, ap, subst, mod-eq_of_lt, ◌∙◌, arith}
use Rattle.std.specs.Prelude.{slice_index, slice_index_or}
use Rattle.std.proofs.lemmas.List.{get_or_default}
use Rattle.method_cache.specs.Contents.{Entry, Cache}
use Rattle.jop_core.specs.State.{MachineState}
use Rattle.circuit_cycles.specs.Shape.{Shape}
use Rattle.circuit_cycles.specs.Tags.{BlockTag}
use Rattle.circuit_cycles.specs.Core.{Core}
use Rattle.circuit_cycles.specs.Methods.{HasMethods, HasPart}
use Rattle.circuit_cycles.specs.Stands.{HasHeader, IsLoading, words_done}
use Rattle.circuit_cycles.specs.Laws.{rested}

-- what holds the methods is the same
pub record SameRing (c d : Core) : Type 0 where
  pub ring : d.ring ≡ c.ring
  pub tags : d.tags ≡ c.tags
  pub next_block : d.next_block ≡ c.next_block
  pub base : d.base ≡ c.base
  pub place : d.place ≡ c.place

part_same : (shape : Shape) (c d : Core) (cache : Cache) (e : Entry) (k j : ℕ) → SameRing c d → j ≡ k → HasPart shape c.ring c.tags c.next_block cache e k → HasPart shape d.ring d.tags d.next_block cache e j
part_same shape c d cache e k j same done h =
    subst (λ x. HasPart shape x d.tags d.next_block cache e j) (sym same.ring)
    (subst (λ x. HasPart shape c.ring x d.next_block cache e j) (sym same.tags)
    (subst (λ x. HasPart shape c.ring c.tags x cache e j) (sym same.next_block) (subst (λ x. HasPart shape c.ring c.tags c.next_block cache e x) (sym done) h)))

pub part_is : (shape : Shape) (c d : Core) (cache : Cache) (e : Entry) (k j : ℕ) {ring : List ℕ} {tags : List BlockTag} {next_block : ℕ} → d.ring ≡ ring → d.tags ≡ tags → d.next_block ≡ next_block → j ≡ k
    → HasPart shape ring tags next_block cache e k → HasPart shape d.ring d.tags d.next_block cache e j
part_is shape c d cache e k j {ring} {tags} {next_block} r t b done h =
    subst (λ x. HasPart shape x d.tags d.next_block cache e j) (sym r)
    (subst (λ x. HasPart shape ring x d.next_block cache e j) (sym t)
    (subst (λ x. HasPart shape ring tags x cache e j) (sym b) (subst (λ x. HasPart shape ring tags next_block cache e x) (sym done) h)))

pub ring_same : (shape : Shape) (c d : Core) (cache : Cache) → SameRing c d → HasMethods shape c.ring c.tags c.next_block cache → HasMethods shape d.ring d.tags d.next_block cache
ring_same shape c d cache same h =
    subst (λ x. HasMethods shape x d.tags d.next_block cache) (sym same.ring)
    (subst (λ x. HasMethods shape c.ring x d.next_block cache) (sym same.tags)
    (subst (λ x. HasMethods shape c.ring c.tags x cache) (sym same.next_block) h))

-- a load goes on in which no word is written at this clock
pub goes_on : (shape : Shape) (c d : Core) (s : MachineState) (load : IsLoading shape c s) → SameRing c d → d.target ≡ c.target → d.in_block ≡ c.in_block
    → words_done shape d (length load.newest.words) ≡ words_done shape c (length load.newest.words) → (d.header < 4 → d.words ≡ length load.newest.words)
    → HasHeader shape d (rested s) load.newest → IsLoading shape d (rested s)
goes_on shape c d s load same to within done words header = record {
  newest = load.newest;
  older = load.older;
  current = record {
    split = load.current.split;
    method = load.current.method;
    place = same.place ∙ load.current.place;
    base = same.base ∙ load.current.base;
    words = words;
  };
  header = header;
  size = load.size;
  within = load.within;
  memory = load.memory;
  part = part_same shape c d s.cache load.newest (words_done shape c (length load.newest.words)) (words_done shape d (length load.newest.words)) same done load.part;
  target = to ∙ load.target ∙ ap (λ b. (b + words_done shape c (length load.newest.words)) % shape.ring_words) (sym same.base) ∙ ap (λ k. (d.base + k) % shape.ring_words) (sym done);
  in_block = within ∙ load.in_block ∙ ap (λ k. k % shape.block_words) (sym done);
}

-- a word of memory that lies there
pub read_word : (words : List ℕ) (place bits unknown : ℕ) → place < length words → length words ≤ 2 ^ bits → slice_index_or words (place % 2 ^ bits) unknown ≡ slice_index words place
read_word words place bits unknown low fits =
    ap (λ k. slice_index_or words k unknown) (mod-eq_of_lt {n = place} {m = 2 ^ bits} (let e : place < 2 ^ bits = omega (arith, low, fits) in e)) ∙ get_or_default words place unknown 0 low
