-- A clock in which no word runs: what the registers of the method cache and of a load are then.
use Rattle.std.proofs.Common.{◌≡◌, ◌+◌, ◌-◌, ◌*◌, ◌%◌, ◌^◌, true, false, Some, None, refl, ap, ◌∙◌}
use Rattle.std.specs.Prelude.{◌==◌, ◌&&◌, nat_lt, if◌then◌else◌, slice_set, slice_index_or}
use Rattle.circuit_cycles.specs.Shape.{Shape}
use Rattle.circuit_cycles.specs.Words.{is, stbc, stmwd}
use Rattle.circuit_cycles.specs.Tags.{behind}
use Rattle.circuit_cycles.specs.Core.{Core, Given, next, runs, switches, misses, found, fills, fills_word, tag_taken, main_place, main_writes}

module _ (shape : Shape) (given : Given) (c : Core) (idle : runs c ≡ false) where
  pub no_switch : switches c ≡ false
  no_switch = ap (λ r. r && is stbc c.word) idle

  pub no_miss : misses c ≡ false
  no_miss = ap (λ r. r && elim (found c) [ None ↦ true | Some _ ↦ false ]) no_switch

  pub base : (next shape given c).base ≡ c.base
  unfolding next
  base = ap (λ b. if b then elim (found c) [ None ↦ c.next_block * shape.block_words | Some f ↦ f.0 * shape.block_words ] else c.base) no_switch

  pub place : (next shape given c).place ≡ c.place
  unfolding next
  place = ap (λ b. if b then c.a % 2 ^ shape.memory_bits else c.place) no_switch

  pub header : (next shape given c).header ≡ c.header - 1
  unfolding next
  header = ap (λ b. if b then 4 else c.header - 1) no_miss

  pub words : (next shape given c).words ≡ (if c.header == 4 then c.main_out % 2 ^ 16 else c.words)
  unfolding next
  words = ap (λ b. if b then elim (found c) [ None ↦ 0 | Some f ↦ f.1 ] else if c.header == 4 then c.main_out % 2 ^ 16 else c.words) no_switch

  pub left : (next shape given c).left ≡ (if c.header == 4 then c.main_out % 2 ^ 16 else if fills c && c.turn == 0 then c.left - 1 else c.left)
  unfolding next
  left = refl

  pub turn : (next shape given c).turn ≡ (if fills c && nat_lt 0 c.turn then c.turn - 1 else shape.read_wait + 1)
  unfolding next
  turn = refl

  pub source : (next shape given c).source ≡ (if c.header == 3 then (c.place + 4 + 3 * c.main_out) % 2 ^ shape.memory_bits else if fills_word shape c then (c.source + 1) % 2 ^ shape.memory_bits else c.source)
  unfolding next
  source = refl

  pub target : (next shape given c).target ≡ (if fills_word shape c then behind shape.ring_words c.target else c.target)
  unfolding next
  target = ap (λ b. if b then c.next_block * shape.block_words else if fills_word shape c then behind shape.ring_words c.target else c.target) no_miss

  pub in_block : (next shape given c).in_block ≡ (if fills_word shape c then behind shape.block_words c.in_block else c.in_block)
  unfolding next
  in_block = ap (λ b. if b then 0 else if fills_word shape c then behind shape.block_words c.in_block else c.in_block) no_miss

  pub ring : (next shape given c).ring ≡ (if fills_word shape c then slice_set c.ring c.target c.main_out else c.ring)
  unfolding next
  ring = refl

  pub tags : (next shape given c).tags ≡ (if fills_word shape c && c.in_block == 0 then slice_set c.tags c.next_block (tag_taken c) else c.tags)
  unfolding next
  tags = refl

  pub next_block : (next shape given c).next_block ≡ (if fills_word shape c && c.in_block == 0 then behind shape.blocks c.next_block else c.next_block)
  unfolding next
  next_block = refl

  pub main_out : (next shape given c).main_out ≡ slice_index_or c.main (if c.header == 4 then (c.place + 3) % 2 ^ shape.memory_bits else c.source) given.main
  unfolding next
  main_out =
      let writes : main_writes shape c ≡ false = ap (λ r. r && is stmwd c.word && nat_lt c.write_address shape.memory_words) idle in
      let to = c.write_address % 2 ^ shape.memory_bits in
      ap (λ b. if b && to == main_place shape c then given.main else slice_index_or c.main (main_place shape c) given.main) writes
      ∙ ap (λ b. slice_index_or c.main (if b then (if switches c then c.a + 1 else c.a) % 2 ^ shape.memory_bits else if c.header == 4 then (c.place + 3) % 2 ^ shape.memory_bits else c.source) given.main) idle
