use Rattle.std.proofs.Common.{sym, subst}
use Rattle.std.specs.Prelude.{OnOk}
use Rattle.bound_causes.specs.declared.shapes.Shape.{Shape}
use Rattle.source_headers.specs.Gathered.{AddsPlaces}
use Rattle.source_headers.proofs.FileLemmas.{places_added}
use Rattle.source_headers.proofs.gathering.add_places.Goals as goal

pub returns-in-Reducible : goal.returns-in-Reducible
returns-in-Reducible c =
    let G : Shape → Type 0 = λ shape. OnOk c.add.result (AddsPlaces c.args.methods.now c.add.new.self c.args.name.now shape) in
    subst G (sym c.in-Reducible.is)
    (places_added c.add.result c.args.methods.now c.add.new.self c.args.name.now c.in-Reducible.places c.deref.result.now c.deref.ensures.value c.add.ensures.names c.add.ensures.sites)
