use Rattle.std.proofs.Common.{ℕ, List, Option, length, take, drop, false, sym, ap, ◌∙◌, arith}
use Rattle.std.specs.Option.{option_map_or}
use Rattle.number_sets.specs.Bits.Bits.{has, is_in}
use Rattle.number_sets.specs.Bits.Table.{BitTable}
use Rattle.number_sets.specs.declared.bits.rows.Row.{Row}
use Rattle.number_sets.proofs.BitsLemmas.Tables.{has_none, has_some}
use Rattle.number_sets.proofs.bits.rows.BitRows.row.Goals as goal

pub returns-in_err-start : goal.returns-in_err-start
returns-in_err-start c p =
    let inside : BitTable = record { width = c.self.inside.width; starts = c.self.inside.starts.entries; words = c.self.inside.words.items } in
    ap (λ t. has t c.args.pair p) (sym c.self.view_is) ∙ has_none inside c.args.pair c.in_err-start.ensures.value p
    ∙ ap (λ (o : Option Row). option_map_or (λ row. is_in row p) o false) (sym c.from_residual.ensures)

pub part-requires : goal.part-requires
part-requires c =
    let within = c.self.invariant.within c.args.pair c.in_ok-start.field-0.now (sym c.in_ok-start.ensures.value) in
    let whole = ap (λ (ws : List ℕ). length ws) c.deref.ensures.value in
    omega (arith, within, whole)

pub returns : goal.returns
returns c p =
    let inside : BitTable = record { width = c.self.inside.width; starts = c.self.inside.starts.entries; words = c.self.inside.words.items } in
    ap (λ t. has t c.args.pair p) (sym c.self.view_is)
    ∙ has_some inside c.args.pair c.in_ok-start.field-0.now c.part.result.now c.in_ok-start.ensures.value
    (c.part.ensures ∙ ap (λ (ws : List ℕ). take c.self.inside.width (drop c.in_ok-start.field-0.now ws)) c.deref.ensures.value) p
