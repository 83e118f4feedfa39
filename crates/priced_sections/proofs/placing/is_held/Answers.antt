use Rattle.std.proofs.Common.{◌≡◌, ℕ, IsTrue, List, get_or, Contains, Option, subst}
use Rattle.std.specs.Prelude.{◌↔◌}
use Rattle.std.proofs.lemmas.Bool.{false≢true}
use Rattle.section_check.specs.Section.{CertifiedLoop, PricedLoop, headed_by}
use Rattle.section_check.specs.Heading.{NoneHeads, IsFirstHeaded}
use Rattle.section_check.proofs.Headed.{price, headed_loop, headed_none}
use Rattle.priced_sections.specs.Paid.{HoldsAll}
use Rattle.priced_sections.specs.Views.{plain_in}
use Rattle.priced_sections.proofs.Headed.{held_when}
use Rattle.priced_sections.proofs.placing.is_held.Goals as goal

pub returns-in-Some : goal.returns-in-Some
returns-in-Some c =
    let q = c.args.q.now in
    let i = c.in-Some.i in
    let l = c.index-loops-i.result in
    let P : List CertifiedLoop → Type 0 = λ zs. IsFirstHeaded zs c.args.header i in
    let Q : List CertifiedLoop → Type 0 = λ zs. l ≡ get_or zs i l in
    let form = c.requires.form in
    let headed = headed_loop q.section.now.loops q.bounds.now q.loads.now c.args.header i l form.bounded form.loaded (subst P c.loops.ensures c.in-Some.ensures) (subst Q c.loops-in-Some.ensures c.index-loops-i.is) in
    let R : List ℕ → Type 0 = λ ms. IsTrue c.has.result ↔ Contains ms c.node.result in
    held_when (headed_by c.args.header (plain_in q)) (price l q.bounds.now q.loads.now i) c.args.fact.now.nodes c.node.result (IsTrue c.has.result) headed c.node.ensures (subst R c.members.ensures c.has.ensures)

pub returns-in-None : goal.returns-in-None
returns-in-None c =
    let q = c.args.q.now in
    let P : List CertifiedLoop → Type 0 = λ zs. NoneHeads zs c.args.header in
    let none = headed_none q.section.now.loops q.bounds.now q.loads.now c.args.header (subst P c.loops.ensures c.in-None.ensures) in
    let H : Option PricedLoop → Type 0 = λ o. HoldsAll o c.args.fact.now.nodes in
    ((λ t. absurd (false≢true t)), (λ held. absurd (subst H none held)))
