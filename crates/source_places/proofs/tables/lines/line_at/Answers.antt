use Rattle.std.proofs.Common.{◌≡◌, ℕ, ◌<◌, ◌++◌, List, length, get_or, take, sym, ap, ◌∙◌, true, false}
use Rattle.std.specs.Prelude.{codes}
use Rattle.std.proofs.Common.{arith}
use Rattle.std.specs.List.{flat_map}
use Rattle.class_pool.specs.Kind.{is_named}
use Rattle.source_places.specs.declared.tables.starts.LineStart.{LineStart}
use Rattle.source_places.specs.Tables.Lines.{starts_by, table_starts, nearest}
use Rattle.source_places.proofs.TablesLemmas.LineLemmas.{with_table, with_other}
use Rattle.source_places.proofs.tables.lines.line_at.Goals as goal
use Rattle.source_places.proofs.tables.lines.line_at.Goals.{then-is_named, else-is_named}

pub loop-name-preserved : goal.loop-name-preserved
loop-name-preserved c =
    let pool = c.args.pool.now in
    let all : List (ℕ × List ℕ) = c.args.code.now.attributes in
    let i = c.loop-name.name-index in
    let item : ℕ × List ℕ = c.loop-name-item.result in
    let lt : i < length all = omega (arith, c.loop-name-test.true, ap (λ (xs : List (ℕ × List ℕ)). length xs) c.as_slice-name-items.ensures) in
    let is : item ≡ get_or all i item = c.loop-name-item.is ∙ ap (λ (xs : List (ℕ × List ℕ)). get_or xs i item) c.as_slice-name-items.ensures in
    elim c.if-is_named.branch [
      | then-is_named w ↦
          let named : is_named pool item.0 (codes "LineNumberTable") ≡ true = sym c.is_named.ensures ∙ w.if-is_named.true in
          let before : List LineStart = flat_map (starts_by pool) (take i all) in
          w.found-is ∙ (w.nearest_in-found.ensures before c.loop-name.invariant
          ∙ (ap (λ (es : List LineStart). nearest c.args.place (before ++ es)) (w.entries.ensures ∙ ap table_starts w.as_slice.ensures)
          ∙ sym (ap (nearest c.args.place) (with_table pool all i item lt is named))))
      | else-is_named w ↦
          let named : is_named pool item.0 (codes "LineNumberTable") ≡ false = sym c.is_named.ensures ∙ w.if-is_named.false in
          w.found-is ∙ (c.loop-name.invariant ∙ sym (ap (nearest c.args.place) (with_other pool all i item lt is named)))
    ]
