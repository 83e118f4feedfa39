use Rattle.std.proofs.Common.{sym, ap, ◌∙◌, length, arith}
use Rattle.class_lookup.specs.Numbered.{number_in}
use Rattle.class_lookup.proofs.Numbering.{key_at, long_keys}
use Rattle.class_lookup.proofs.texts.Texts.text.Goals as goal

pub returns-clause-number : goal.returns-clause-number
returns-clause-number c =
    let keys = c.self.inside.texts.items in
    let n = c.args.number in
    let k = c.index.result.now in
    let long = ap length c.self.view_is in
    let was = long_keys keys in
    let below = c.requires in
    let at = key_at keys n k (omega (arith, long, was, below)) c.index.ensures in
    ap (number_in c.args.self.now) c.as_slice.ensures.value ∙ (ap (λ xs. number_in xs k.items) (sym c.self.view_is) ∙ c.self.invariant.1 n k.items at)
