use Rattle.std.proofs.Common.{◌≡◌, ℕ, ◌+◌, ◌*◌, pos, List, length, get_or, Option, None, unwrap_or, sym, ap, ◌∙◌, arith}
use Rattle.std.proofs.lemmas.Int.{ints}
use Rattle.section_check.specs.Section.{CertifiedLoop, priced, headed_fee, entry_fee}
use Rattle.section_check.specs.Heading.{IsFirstHeaded, NoneHeads}
use Rattle.section_check.proofs.Headed.{headed_loop, headed_none}
use Rattle.section_check.proofs.prices.fee_at.Goals as goal

fee_is : (ls : List CertifiedLoop) (bounds : List ℕ) (loads : List (Option ℕ)) (u i : ℕ) (l : CertifiedLoop) (k : ℕ) → length bounds ≡ length ls → length loads ≡ length ls → IsFirstHeaded ls u i → l ≡ get_or ls i l → k ≡ l.iteration_cost
    → entry_fee (priced ls bounds loads) u ≡ get_or bounds i 0 * k + unwrap_or (get_or loads i None) 0
fee_is ls bounds loads u i l k lb ll first is same =
    ap headed_fee (headed_loop ls bounds loads u i l lb ll first is) ∙ ap (λ (w : ℕ). get_or bounds i 0 * w + unwrap_or (get_or loads i None) 0) (sym same)

no_fee : (ls : List CertifiedLoop) (bounds : List ℕ) (loads : List (Option ℕ)) (u : ℕ) → NoneHeads ls u → entry_fee (priced ls bounds loads) u ≡ 0
no_fee ls bounds loads u none = ap headed_fee (headed_none ls bounds loads u none)

pub returns-in-Some-clause-value : goal.returns-in-Some-clause-value
returns-in-Some-clause-value c =
    let e =
    fee_is c.args.loops.now c.args.bounds.now c.args.loads.now c.args.u c.in-Some.i c.index-loops-i.result c.iteration_cost.result c.requires.bounds c.requires.loads c.in-Some.ensures c.index-loops-i.is
    c.iteration_cost.ensures.value
    in
    omega (arith, ints, c.fee.ensures.value, c.fee.ensures.small)

pub returns-in-Some-clause-small : goal.returns-in-Some-clause-small
returns-in-Some-clause-small c =
    let e =
    fee_is c.args.loops.now c.args.bounds.now c.args.loads.now c.args.u c.in-Some.i c.index-loops-i.result c.iteration_cost.result c.requires.bounds c.requires.loads c.in-Some.ensures c.index-loops-i.is
    c.iteration_cost.ensures.value
    in
    omega (arith, c.fee.ensures.small)

pub returns-in-None-clause-value : goal.returns-in-None-clause-value
returns-in-None-clause-value c = ap pos (sym (no_fee c.args.loops.now c.args.bounds.now c.args.loads.now c.args.u c.in-None.ensures))

pub returns-in-None-clause-small : goal.returns-in-None-clause-small
returns-in-None-clause-small c = let e = no_fee c.args.loops.now c.args.bounds.now c.args.loads.now c.args.u c.in-None.ensures in omega arith
