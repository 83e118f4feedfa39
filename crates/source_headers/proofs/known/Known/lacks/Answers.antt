use Rattle.std.proofs.Common.{false, IsTrue, not, sym, subst}
use Rattle.std.proofs.lemmas.Bool.{true≢false}
use Rattle.source_headers.specs.Known.{KnownSites, LacksSite}
use Rattle.source_headers.proofs.KnownLemmas.{lacks_some, lacks_none}
use Rattle.source_headers.proofs.known.Known.lacks.Goals as goal

pub returns-in-Some : goal.returns-in-Some
returns-in-Some c =
    let L : KnownSites → Type 0 = λ k. (IsTrue (not c.contains.result) → LacksSite k c.args.name.now c.args.number) × (LacksSite k c.args.name.now c.args.number → IsTrue (not c.contains.result)) in
    subst L c.self.view_is (lacks_some c.self.inside.names.keys c.self.inside.sites.keys c.args.name.now c.args.number c.self.invariant.0 c.self.invariant.1 c.in-Some.name c.contains.result c.in-Some.ensures.index c.contains.ensures)

pub returns-in-None : goal.returns-in-None
returns-in-None c =
    let L : KnownSites → Type 0 = λ k. (IsTrue false → LacksSite k c.args.name.now c.args.number) × (LacksSite k c.args.name.now c.args.number → IsTrue false) in
    let none = lacks_none c.self.inside.names.keys c.self.inside.sites.keys c.args.name.now c.args.number c.self.invariant.0 c.self.invariant.1 c.in-None.ensures.index in
    subst L c.self.view_is (λ h. absurd (true≢false (sym h)), λ l. absurd (none l.0))
