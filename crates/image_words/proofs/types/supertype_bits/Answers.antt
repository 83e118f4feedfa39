use Rattle.std.proofs.Common.{◌≡◌, ◌+◌, ◌-◌, ◌*◌, ◌^◌, Bool, List, Some, drop, length, min, sym, ap, ◌∙◌, arith}
use Rattle.std.specs.Prelude.{slice_get}
use Rattle.std.specs.Option.{option_map}
use Rattle.std.proofs.lemmas.List.{length-map}
use Rattle.std.proofs.lemmas.Option.{slice_get-map}
use Rattle.bytecode_model.specs.Types.{Kind}
use Rattle.bytecode_model.specs.Program.{is_of}
use Rattle.image_facts.specs.Says.{bit_of}
use Rattle.program_tables.specs.Numbers.{types_of}
use Rattle.program_tables.specs.Resolved.{resolved}
use Rattle.program_tables.specs.Tables.{kind_seen}
use Rattle.image_words.proofs.BitLemmas.{bits_more, bits_whole, drop_get, power_more, power_below}
use Rattle.image_words.proofs.types.supertype_bits.Goals as goal
use Rattle.image_words.proofs.types.supertype_bits.Goals.{then-is_of, else-is_of}

pub loop-bit-preserved : goal.loop-bit-preserved
loop-bit-preserved c =
    let cs = c.args.classes.now in
    let first = c.args.first in
    let bit = c.loop-bit.bit in
    let word = c.loop-bit.word in
    let kinds = c.args.types.now in
    let f : Kind → Bool = is_of (resolved cs) (kind_seen c.args.kind) in
    let other = kind_seen c.at.result in
    let at : slice_get (drop first (types_of cs)) bit ≡ Some other =
    drop_get (types_of cs) first bit
    ∙ (ap (λ (ks : List Kind). slice_get ks (first + bit)) (sym c.requires.types) ∙ (slice_get-map kind_seen kinds (first + bit) ∙ ap (option_map kind_seen) c.at.ensures)) in
    let power = power_more bit in
    let small = c.loop-bit.invariant.small in
    let test = c.loop-bit-test.true in
    let most = c.told_by_word-many.ensures in
    let below = power_below bit (omega (arith, test, most)) in
    elim c.if-is_of.branch [
      | then-is_of w ↦
          let is = w.word-is in
          let set = ap (λ (b : Bool). bit_of b * 2 ^ bit) (sym c.is_of.ensures ∙ w.if-is_of.true) in
          let new : c.if-is_of.word ≡ word + bit_of (f other) * 2 ^ bit = omega (arith, is, set, below) in
          record {
            word = bits_more f (drop first (types_of cs)) bit other word c.if-is_of.word at c.loop-bit.invariant.word new;
            small = omega (arith, is, power, small, below);
          }
      | else-is_of w ↦
          let is = w.word-is in
          let unset = ap (λ (b : Bool). bit_of b * 2 ^ bit) (sym c.is_of.ensures ∙ w.if-is_of.false) in
          let new : c.if-is_of.word ≡ word + bit_of (f other) * 2 ^ bit = omega (arith, is, unset) in
          record {
            word = bits_more f (drop first (types_of cs)) bit other word c.if-is_of.word at c.loop-bit.invariant.word new;
            small = omega (arith, is, power, small, below);
          }
    ]

pub returns : goal.returns
returns c =
    let cs = c.args.classes.now in
    let f : Kind → Bool = is_of (resolved cs) (kind_seen c.args.kind) in
    let kinds = c.args.types.now in
    let test = c.loop-bit-test.false in
    let end = c.loop-bit.auto.bit-end in
    let many = c.told_by_word-many.ensures in
    let count = c.count.ensures in
    let seen = length-map kinds kind_seen in
    let long = ap length c.requires.types in
    let all : c.loop-bit.bit ≡ min 32 (length (types_of cs) - c.args.first) = omega (arith, test, end, many, count, seen, long) in
    c.loop-bit.invariant.word ∙ bits_whole f (types_of cs) c.args.first c.loop-bit.bit all
