use Rattle.std.proofs.Common.{◌-◌, Some, ap, ◌∙◌, arith}
use Rattle.std.proofs.lemmas.List.{get_or_past}
use Rattle.class_pool.specs.Grammar.{text_at}
use Rattle.class_lookup.specs.Symbols.{symbol}
use Rattle.class_lookup.specs.Numbered.{HaveNumbers}
use Rattle.class_lookup.proofs.SymbolLemmas.{empty_symbol, place_read, zip_long}
use Rattle.class_lookup.proofs.symbols.text_symbol.Goals as goal

pub returns-then-index-eq0 : goal.returns-then-index-eq0
returns-then-index-eq0 c k at =
    ap (λ i. symbol c.args.classes.now (text_at k.pool i)) c.if-index-eq0.true ∙ empty_symbol c.args.classes.now

pub index-requires : goal.index-requires
index-requires c =
    let long = zip_long (λ k ns. HaveNumbers c.args.symbols.now.texts k.pool ns) c.args.classes.now c.args.symbols.now.entries.items c.requires.tables.entries in
    let below = c.requires.class in
    omega (arith, long, below)

pub returns-then-place-numbers : goal.returns-then-place-numbers
returns-then-place-numbers c k at =
    place_read c.args.classes.now c.args.symbols.now c.requires.tables c.args.class k at c.args.index c.if-index-eq0.false c.index.result.now c.as_slice-numbers.result.now c.index.ensures c.as_slice-numbers.ensures

pub returns-else-place-numbers : goal.returns-else-place-numbers
returns-else-place-numbers c k at =
    place_read c.args.classes.now c.args.symbols.now c.requires.tables c.args.class k at c.args.index c.if-index-eq0.false c.index.result.now c.as_slice-numbers.result.now c.index.ensures c.as_slice-numbers.ensures
    ∙ ap (λ n. Some n) (get_or_past c.as_slice-numbers.result.now (c.args.index - 1) 0 c.if-place-numbers.false)
