use Rattle.std.proofs.Common.{ℕ, ◌<◌, List, length, map, All, Vec, Global, sym, ◌∙◌, subst}
use Rattle.std.proofs.lemmas.List.{length-map}
use Rattle.fact_names.proofs.Listing.{numbers_within}
use Rattle.fact_names.proofs.index.LinesByName.new.Goals as goal

pub by_target-requires : goal.by_target-requires
by_target-requires c =
    let keys = c.in_ok-names.names.keys in
    let items = λ (k : Vec ℕ Global). k.items in
    subst (λ (es : List (ℕ × ℕ)). All (λ e. e.1 < c.len.result) es) (sym c.deref.ensures.value)
    (numbers_within c.args.lines.now (length c.args.lines.now) c.len.result (map items keys) c.in_ok-names.numbers.items c.in_ok-names.ensures (c.len.ensures.len ∙ sym (length-map keys items)))
