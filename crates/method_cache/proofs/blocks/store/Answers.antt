use Rattle.std.proofs.Common.{◌≡◌, ℕ, ◌+◌, ◌*◌, ◌%◌, ◌≤◌, ◌++◌, length, get_or, drop, replicate, None, arith, length-drop, ap, ◌∙◌}
use Rattle.std.proofs.Math.Nat.{mul-le-mul_right}
use Rattle.method_cache.specs.Contents.{blocks_for}
use Rattle.method_cache.specs.Ring.{rotated, parts, stale_of, stale_first}
use Rattle.method_cache.proofs.Held.{blocks_for-room}
use Rattle.method_cache.proofs.Parts.{length-parts}
use Rattle.method_cache.proofs.Rotation.{length-rotated}
use Rattle.method_cache.proofs.Stores.{turned_tags, turned_words}
use Rattle.method_cache.proofs.blocks.store.Goals as goal

pub put_words-requires-clause-room : goal.put_words-requires-clause-room
put_words-requires-clause-room c =
    let w = c.args.block_words in
    let n = length c.args.words.now in
    let fits = blocks_for-room w n c.requires.some in
    let whole : blocks_for w n * w ≤ length c.args.tags.now * w = mul-le-mul_right w c.requires.room in
    omega (arith, fits, whole)

pub returns-clause-tags : goal.returns-clause-tags
returns-clause-tags c =
    let w = c.args.block_words in
    let n = length c.args.words.now in
    let end_is : c.wrapped-end.result ≡ (c.args.next + blocks_for w n) % length c.args.tags.now =
    c.wrapped-end.ensures ∙ ap (λ (k : ℕ). (c.args.next + k) % length c.args.tags.now) c.div_ceil-count.ensures in
    let s = blocks_for w n in
    let old = rotated c.args.next c.args.tags.now in
    let rest = drop s old in
    let put = c.put_tags.new.tags in
    let end = c.wrapped-end.result in
    let long = length-rotated c.args.next c.args.tags.now (omega arith) in
    let long_rest = length-drop s old in
    let stale_is : c.stale_blocks-stale.result ≡ stale_first w rest =
    c.stale_blocks-stale.ensures ∙ ap (λ (k : ℕ). stale_of w (get_or c.args.tags.now k None)) end_is ∙ c.requires.stale in
    let room : stale_first w rest + s ≤ length c.args.tags.now = omega (arith, c.requires.stale_room, c.requires.room) in
    turned_tags c.args.next s end (stale_first w rest) c.args.tags.now put c.clear_tags.new.tags (parts c.args.method n s) (replicate (stale_first w rest) None) c.requires.place c.requires.room (omega arith) (length-parts c.args.method n s) room
    (c.put_tags.ensures ∙ ap (λ (k : ℕ). parts c.args.method n k ++ drop k old) c.div_ceil-count.ensures)
    end_is
    (c.clear_tags.ensures ∙ ap (λ (k : ℕ). replicate k None ++ drop k (rotated end put)) stale_is)

pub returns-clause-words : goal.returns-clause-words
returns-clause-words c =
    let w = c.args.block_words in
    let n = length c.args.words.now in
    let end_is : c.wrapped-end.result ≡ (c.args.next + blocks_for w n) % length c.args.tags.now =
    c.wrapped-end.ensures ∙ ap (λ (k : ℕ). (c.args.next + k) % length c.args.tags.now) c.div_ceil-count.ensures in
    turned_words c.args.next (blocks_for w n) c.wrapped-end.result w (length c.args.tags.now) c.args.ring.now c.put_words.new.ring c.args.words.now c.requires.place c.requires.room c.requires.some c.requires.size (omega arith) (blocks_for-room w n c.requires.some) c.put_words.ensures end_is
