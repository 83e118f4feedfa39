use Rattle.std.proofs.Common.{◌≡◌, ◌+◌, ◌*◌, ◌<◌, ◌/◌, ◌%◌, ◌^◌, bit_or, Some, length, refl, ap, ◌∙◌, arith}
use Rattle.std.specs.Vec.{with_item}
use Rattle.std.proofs.lemmas.Nat.{one_shl}
use Rattle.number_sets.specs.Bits.Bits.{has}
use Rattle.number_sets.specs.Bits.Table.{BitTable, start_of}
use Rattle.number_sets.proofs.BitsLemmas.Bits.{written_is}
use Rattle.number_sets.proofs.BitsLemmas.Tables.{bit_more}
use Rattle.number_sets.proofs.bits.rows.BitRows.set.Goals as goal

pub returns-clause-set : goal.returns-clause-set
returns-clause-set c p n =
    let fields = c.self.inside in
    let column = c.args.column in
    let start = c.in_ok-start.start in
    let v = c.index_mut.result.now in
    let mask = 1 * 2 ^ (column % 64) % 18446744073709551616 in
    let t : BitTable = record { width = fields.width; starts = fields.starts.entries; words = fields.words.items } in
    let words = with_item fields.words (start + column / 64) (bit_or v mask) in
    let new : BitTable = record { width = fields.width; starts = fields.starts.entries; words = words.items } in
    let there : start_of t c.args.pair ≡ Some start = ap (λ x. start_of x c.args.pair) c.self.view_is ∙ c.in_ok-start.ensures.start in
    let within = c.self.invariant.within c.args.pair start there in
    let wide = ap (λ (x : BitTable). x.width) c.self.view_is ∙ c.in_ok-start.ensures.width in
    let below = c.requires in
    let lt : start + column / 64 < length fields.words.items = omega (arith, within, wide, below) in
    bit_more c.args.self.now t new c.args.pair start column (λ x y. ap (λ s. has s x y) c.self.view_is ∙ c.in_ok-start.ensures.same x y) c.self.invariant there (omega (arith, wide, below)) refl refl
    (written_is fields.words.items start column v mask lt c.index_mut.ensures.value (one_shl (column % 64) 64 (omega arith))) p n
