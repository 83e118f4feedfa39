use Rattle.std.proofs.Common.{ℕ, List, sym, subst}
use Rattle.fact_names.specs.Found.{AreLinesOf}
use Rattle.fact_names.specs.Index.{Index, IsIndexOf}
use Rattle.fact_names.proofs.Listing.{found_name, no_lines, no_name, own_lines}
use Rattle.fact_names.proofs.index.LinesByName.lines_of.Goals as goal

pub returns-in-Some : goal.returns-in-Some
returns-in-Some c = λ lines x.
    let keys = c.self.inside.names.keys in
    let name = c.args.name.now in
    let at = found_name keys name c.in-Some.number c.in-Some.ensures.index in
    let y = subst (λ (z : Index). IsIndexOf lines z) (sym c.self.view_is) x in
    subst (λ (us : List ℕ). AreLinesOf lines name us) (sym c.of.ensures) (own_lines lines _ y name c.in-Some.number at.0 at.1)

pub returns-in-None : goal.returns-in-None
returns-in-None c = λ lines x.
    let y = subst (λ (z : Index). IsIndexOf lines z) (sym c.self.view_is) x in
    no_lines lines _ y c.args.name.now (no_name c.self.inside.names.keys c.args.name.now c.in-None.ensures.index)
