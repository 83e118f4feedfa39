use Rattle.std.proofs.Common.{◌≡◌, ℕ, ℤ, pos, ◌+◌, ◌*◌, true, false, IsTrue, List, get_or, Some, None, unwrap_or, Contains, sym, ap, ◌∙◌, subst, arith}
use Rattle.std.specs.Prelude.{◌+ℤ◌}
use Rattle.std.proofs.lemmas.Bool.{false≢true, false_from_ne_true}
use Rattle.std.proofs.lemmas.Int.{ints}
use Rattle.section_check.specs.Bounded.{holds}
use Rattle.section_check.specs.Section.{CertifiedLoop, potential, priced, fee}
use Rattle.section_check.specs.Heading.{NoneHeads, IsFirstHeaded}
use Rattle.section_check.proofs.Elements.{contains_from_holds, holds_from_contains}
use Rattle.section_check.proofs.Headed.{price, headed_loop, headed_none}
use Rattle.section_check.proofs.Deciding.{le_as, wrapped, edge_when, descends_when}
use Rattle.section_check.proofs.descent.edge_holds.Goals as goal

found : (ps qs : List (ℕ × ℤ)) (u : ℕ) (p : ℤ) → ps ≡ qs → Some p ≡ potential ps u → potential qs u ≡ Some p
found ps qs u p same is = ap (λ (zs : List (ℕ × ℤ)). potential zs u) (sym same) ∙ sym is

pub returns-in_default-find_header : goal.returns-in_default-find_header
returns-in_default-find_header c =
    let s = c.args.s.now in
    let ls = priced s.loops c.args.bounds.now c.args.loads.now in
    let p = c.in-Some-find_potential.above in
    let q = c.in-Some.below in
    let P : List CertifiedLoop → Type 0 = λ zs. NoneHeads zs c.args.v in
    let headed = headed_none s.loops c.args.bounds.now c.args.loads.now c.args.v (subst P c.loops.ensures c.in_default-find_header.ensures) in
    edge_when c.args.costs.now s ls c.args.u c.args.v p q None (IsTrue c.covers.result) headed (found c.nodes-2.result.now s.nodes c.args.u p c.nodes-2.ensures c.in-Some-find_potential.ensures.value)
    (found c.nodes.result.now s.nodes c.args.v q c.nodes.ensures c.in-Some.ensures.value) (le_as (IsTrue c.covers.result) ((pos (get_or c.args.costs.now c.args.u 0) +ℤ wrapped q) +ℤ pos 0) (wrapped p +ℤ pos 0) (pos (get_or c.args.costs.now c.args.u 0) +ℤ q) p (omega (arith, ints, c.in-Some.ensures.range)) (omega (arith, ints, c.in-Some-find_potential.ensures.range)) c.covers.ensures)

pub returns-then-has : goal.returns-then-has
returns-then-has c =
    let s = c.args.s.now in
    let bounds = c.args.bounds.now in
    let loads = c.args.loads.now in
    let ls = priced s.loops bounds loads in
    let p = c.in-Some-find_potential.above in
    let q = c.in-Some.below in
    let i = c.in-Some-find_header.i in
    let l = c.index-loops-i.result in
    let P : List CertifiedLoop → Type 0 = λ zs. IsFirstHeaded zs c.args.v i in
    let Q : List CertifiedLoop → Type 0 = λ zs. l ≡ get_or zs i l in
    let headed = headed_loop s.loops bounds loads c.args.v i l c.requires.form.bounded c.requires.form.loaded (subst P c.loops.ensures c.in-Some-find_header.ensures) (subst Q c.loops-2.ensures c.index-loops-i.is) in
    let R : List ℕ → Type 0 = λ ms. Contains ms c.args.u in
    let inside : holds l.members c.args.u ≡ true = holds_from_contains l.members c.args.u (subst R c.members.ensures (c.has.ensures.0 c.if-has.true)) in
    let cost = get_or c.args.costs.now c.args.u 0 in
    edge_when c.args.costs.now s ls c.args.u c.args.v p q (Some (price l bounds loads i)) (IsTrue c.covers-then-has.result) headed (found c.nodes-2.result.now s.nodes c.args.u p c.nodes-2.ensures c.in-Some-find_potential.ensures.value)
    (found c.nodes.result.now s.nodes c.args.v q c.nodes.ensures c.in-Some.ensures.value)
    (descends_when (price l bounds loads i) cost c.args.u p q true (IsTrue c.covers-then-has.result) inside (le_as (IsTrue c.covers-then-has.result) ((pos cost +ℤ wrapped q) +ℤ pos 0) (wrapped p +ℤ pos c.iteration_cost.result) (pos cost +ℤ q) (p +ℤ pos l.iteration_cost) (omega (arith, ints, c.in-Some.ensures.range)) (omega (arith, ints, c.in-Some-find_potential.ensures.range, c.iteration_cost.ensures.value)) c.covers-then-has.ensures))

pub returns-else-has : goal.returns-else-has
returns-else-has c =
    let s = c.args.s.now in
    let bounds = c.args.bounds.now in
    let loads = c.args.loads.now in
    let ls = priced s.loops bounds loads in
    let p = c.in-Some-find_potential.above in
    let q = c.in-Some.below in
    let i = c.in-Some-find_header.i in
    let l = c.index-loops-i.result in
    let P : List CertifiedLoop → Type 0 = λ zs. IsFirstHeaded zs c.args.v i in
    let Q : List CertifiedLoop → Type 0 = λ zs. l ≡ get_or zs i l in
    let headed = headed_loop s.loops bounds loads c.args.v i l c.requires.form.bounded c.requires.form.loaded (subst P c.loops.ensures c.in-Some-find_header.ensures) (subst Q c.loops-2.ensures c.index-loops-i.is) in
    let R : List ℕ → Type 0 = λ ms. Contains ms c.args.u in
    let outside : holds l.members c.args.u ≡ false =
    false_from_ne_true (holds l.members c.args.u) (λ h. false≢true (sym c.if-has.false ∙ c.has.ensures.1 (subst R (sym c.members.ensures) (contains_from_holds l.members c.args.u h))))
    in
    let cost = get_or c.args.costs.now c.args.u 0 in
    let fees : fee (price l bounds loads i) ≡ get_or bounds i 0 * c.iteration_cost-else-has.result + unwrap_or (get_or loads i None) 0 =
    ap (λ (w : ℕ). get_or bounds i 0 * w + unwrap_or (get_or loads i None) 0) (sym c.iteration_cost-else-has.ensures.value)
    in
    edge_when c.args.costs.now s ls c.args.u c.args.v p q (Some (price l bounds loads i)) (IsTrue c.covers-else-has.result) headed (found c.nodes-2.result.now s.nodes c.args.u p c.nodes-2.ensures c.in-Some-find_potential.ensures.value)
    (found c.nodes.result.now s.nodes c.args.v q c.nodes.ensures c.in-Some.ensures.value)
    (descends_when (price l bounds loads i) cost c.args.u p q false (IsTrue c.covers-else-has.result) outside
    (le_as (IsTrue c.covers-else-has.result) ((pos cost +ℤ wrapped q) +ℤ wrapped c.fee.result) (wrapped p +ℤ pos 0) ((pos cost +ℤ q) +ℤ pos (fee (price l bounds loads i))) p (omega (arith, ints, c.in-Some.ensures.range, c.fee.ensures.value, c.fee.ensures.small)) (omega (arith, ints, c.in-Some-find_potential.ensures.range)) c.covers-else-has.ensures))
