use Rattle.std.proofs.Common.{◌<◌, ◌≤◌, ℕ, List, length, map, take_all, sym, ap, ◌∙◌, arith}
use Rattle.bytecode_model.specs.Lists.{index_of}
use Rattle.class_lookup.specs.Parts.{same_text}
use Rattle.class_lookup.specs.Symbols.{texts}
use Rattle.program_tables.proofs.ListLemmas.{got_index}
use Rattle.program_tables.proofs.ShapeLemmas.{next_map}
use Rattle.program_tables.proofs.TextLemmas.{small_more}
use Rattle.program_tables.proofs.strings.StringNumbers.new.Goals as goal

pub loop-number-preserved : goal.loop-number-preserved
loop-number-preserved c =
    let ts = texts c.args.classes.now in
    let i = c.loop-number.number in
    let strings = c.args.strings.now in
    let f = λ (text : List ℕ). index_of (same_text text) strings in
    let old = c.loop-number.numbers.items in
    let new = c.push.new.self.items in
    let n = c.number.result in
    let lt : i < length ts = omega (arith, c.symbol_count-number-end.ensures, c.loop-number-test.true) in
    record {
      are = next_map f ts i c.text.result.now old new n c.loop-number.invariant.are c.in_ok-push.ensures.items lt (sym (got_index ts i c.text.result.now c.text.ensures.text)) c.number.ensures.number;
      small = small_more 1073741824 old new n c.loop-number.invariant.small c.number.ensures.few c.in_ok-push.ensures.items;
    }

pub returns : goal.returns
returns c =
    let ts = texts c.args.classes.now in
    let past : length ts ≤ c.loop-number.number = omega (arith, c.symbol_count-number-end.ensures, c.loop-number-test.false) in
    c.loop-number.invariant.are ∙ ap (map (λ (text : List ℕ). index_of (same_text text) c.args.strings.now)) (take_all c.loop-number.number ts past)
