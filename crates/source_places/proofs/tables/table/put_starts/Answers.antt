use Rattle.std.proofs.Common.{◌≡◌, ℕ, ◌<◌, List, Option, None, length, get_or, take, sym, ap, ◌∙◌, true, false, arith}
use Rattle.std.specs.Prelude.{codes}
use Rattle.std.specs.List.{flat_map}
use Rattle.std.specs.Option.{option_or}
use Rattle.class_pool.specs.Kind.{is_named}
use Rattle.source_places.specs.declared.tables.starts.LineStart.{LineStart}
use Rattle.source_places.specs.Tables.Lines.{starts_by, table_starts}
use Rattle.source_places.specs.Tables.Table.{last_at}
use Rattle.source_places.proofs.TablesLemmas.LineLemmas.{with_table, with_other}
use Rattle.source_places.proofs.TablesLemmas.PlaceLemmas.{table_behind}
use Rattle.source_places.proofs.tables.table.put_starts.Goals as goal
use Rattle.source_places.proofs.tables.table.put_starts.Goals.{then-is_named, else-is_named}

pub loop-name-preserved : goal.loop-name-preserved
loop-name-preserved c place within =
    let pool = c.args.pool.now in
    let all : List (ℕ × List ℕ) = c.args.code.now.attributes in
    let i = c.loop-name.name-index in
    let item : ℕ × List ℕ = c.loop-name-item.result in
    let lt : i < length all = omega (arith, c.loop-name-test.true, ap (λ (xs : List (ℕ × List ℕ)). length xs) c.as_slice-name-items.ensures) in
    let is : item ≡ get_or all i item = c.loop-name-item.is ∙ ap (λ (xs : List (ℕ × List ℕ)). get_or xs i item) c.as_slice-name-items.ensures in
    let before : List LineStart = flat_map (starts_by pool) (take i all) in
    let old : place < length c.loop-name.lines = omega (arith, within, c.if-is_named.auto.lines) in
    elim c.if-is_named.branch [
      | then-is_named w ↦
          let named : is_named pool item.0 (codes "LineNumberTable") ≡ true = sym c.is_named.ensures ∙ w.if-is_named.true in
          let now : get_or c.if-is_named.lines place None ≡ option_or (last_at place (table_starts item.1)) (get_or c.loop-name.lines place None) =
          ap (λ (ls : List (Option ℕ)). get_or ls place None) w.lines-is
          ∙ (w.put_table.ensures place (omega (arith, within, ap (λ (ls : List (Option ℕ)). length ls) w.lines-is))
          ∙ ap (λ (es : List LineStart). option_or (last_at place es) (get_or c.loop-name.lines place None)) (w.entries.ensures ∙ ap table_starts w.as_slice.ensures)) in
          table_behind place before (table_starts item.1) _ _ (get_or c.loop-name.lines place None) (c.loop-name.invariant place old) now (with_table pool all i item lt is named)
      | else-is_named w ↦
          let named : is_named pool item.0 (codes "LineNumberTable") ≡ false = sym c.is_named.ensures ∙ w.if-is_named.false in
          ap (λ (ls : List (Option ℕ)). get_or ls place None) w.lines-is ∙ (c.loop-name.invariant place old ∙ sym (ap (last_at place) (with_other pool all i item lt is named)))
    ]
