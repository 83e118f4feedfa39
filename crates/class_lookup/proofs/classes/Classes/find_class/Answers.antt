use Rattle.std.proofs.Common.{sym, ap, ◌∙◌, arith}
use Rattle.class_lookup.specs.Hierarchy.{find_class}
use Rattle.class_lookup.specs.Numbered.{number_in}
use Rattle.class_lookup.proofs.SymbolLemmas.{symbol_is, symbol_below}
use Rattle.class_lookup.proofs.NamedLemmas.{read_any}
use Rattle.class_lookup.proofs.Everywhere.{unnamed}
use Rattle.class_lookup.proofs.classes.Classes.find_class.Goals as goal

pub returns-in-None : goal.returns-in-None
returns-in-None c =
    let cs = c.self.inside.classes.items in
    let text = c.args.name.now in
    let none = symbol_is cs text ∙ (ap (λ ts. number_in ts text) (sym c.self.invariant.1.texts) ∙ (sym c.number.ensures ∙ c.in-None.is)) in
    sym (unnamed cs text none) ∙ ap (λ x. find_class x text) c.self.view_is

pub index-requires : goal.index-requires
index-requires c =
    let cs = c.self.inside.classes.items in
    let text = c.args.name.now in
    let some = symbol_is cs text ∙ (ap (λ ts. number_in ts text) (sym c.self.invariant.1.texts) ∙ (sym c.number.ensures ∙ c.in-Some.is)) in
    let below = symbol_below cs text c.in-Some.number some in
    let long = c.self.invariant.2.classes.long in
    omega (arith, below, long)

pub returns-in-Some : goal.returns-in-Some
returns-in-Some c =
    let cs = c.self.inside.classes.items in
    let text = c.args.name.now in
    let some = symbol_is cs text ∙ (ap (λ ts. number_in ts text) (sym c.self.invariant.1.texts) ∙ (sym c.number.ensures ∙ c.in-Some.is)) in
    let below = symbol_below cs text c.in-Some.number some in
    let long = c.self.invariant.2.classes.long in
    read_any c.self.inside.names.classes.items c.in-Some.number c.index.result.now (omega (arith, below, long)) c.index.ensures
    ∙ (c.self.invariant.2.classes.each text c.in-Some.number some ∙ ap (λ x. find_class x text) c.self.view_is)
