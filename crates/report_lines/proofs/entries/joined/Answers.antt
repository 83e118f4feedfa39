use Rattle.std.proofs.Common.{List, subst}
use Rattle.std.specs.List.{IsDistinct}
use Rattle.std.proofs.lemmas.Grind.{take_at_read}
use Rattle.std.proofs.lemmas.List.Elements.{Contains-get_or}
use Rattle.report_lines.specs.declared.key.Key.{Key}
use Rattle.report_lines.specs.Entries.{same_key}
use Rattle.report_lines.specs.Told.{source_told}
use Rattle.report_lines.proofs.JoinLemmas.{next_joined}
use Rattle.report_lines.proofs.TellLemmas.{sums_fit}
use Rattle.report_lines.proofs.entries.joined.Goals as goal

pub key_of-key-requires : goal.key_of-key-requires
key_of-key-requires c = c.requires.known _ (Contains-get_or c.args.rows.now c.loop-row.row-index _ c.loop-row-test.true)

pub add_row-requires-clause-small : goal.add_row-requires-clause-small
add_row-requires-clause-small c =
    sums_fit (source_told c.args.methods.now) c.args.rows.now c.loop-row.entries.items c.loop-row.row-index _ c.loop-row.invariant.joined
    (take_at_read c.args.rows.now c.loop-row.row-index _ c.loop-row-test.true).1 c.requires.small

pub loop-row-preserved : goal.loop-row-preserved
loop-row-preserved c =
    let source = source_told c.args.methods.now in
    let before = c.loop-row.invariant in
    let D : List Key → Type 0 = λ ks. IsDistinct same_key ks in
    record {
      keys = c.in_ok-add_row.ensures.keys source before.keys c.key_of-key.ensures;
      distinct = c.in_ok-add_row.ensures.distinct;
      joined =
          next_joined source c.args.rows.now c.loop-row.entries.items c.add_row.new.entries.items c.loop-row.row-index _ before.joined (subst D before.keys before.distinct)
          (c.in_ok-add_row.ensures.entries source before.keys c.key_of-key.ensures) (take_at_read c.args.rows.now c.loop-row.row-index _ c.loop-row-test.true).1;
    }
