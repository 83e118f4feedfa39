use Rattle.std.proofs.Common.{◌≡◌, ℕ, List, Option, sym, ap, ◌∙◌, subst}
use Rattle.section_check.specs.Section.{CertifiedLoop, listed}
use Rattle.section_check.specs.Placing.{IsMisplaced}
use Rattle.section_check.specs.Least.{IsLeast, lesser_of, IsBeyond, IsMemberBeyond}
use Rattle.section_check.proofs.Least.{least_misplaced}
use Rattle.section_check.proofs.placing.misplaced.Goals as goal

pub returns : goal.returns
returns c =
    let g = c.args.g.now in
    let s = c.args.s.now in
    let bounds = c.args.bounds.now in
    let loads = c.args.loads.now in
    let a = c.first_listed_beyond.result in
    let b = c.first_member_beyond.result in
    let f = c.args.faulty in
    let l = c.args.aside in
    let w = c.wrong_entry.result in
    let A : ℕ → Type 0 = λ n. IsLeast (IsBeyond n (listed s.nodes)) a in
    let A' : _ → Type 0 = λ ps. IsLeast (IsBeyond c.nodes-2.result (listed ps)) a in
    let B : ℕ → Type 0 = λ n. IsLeast (IsMemberBeyond n s.loops) b in
    let B' : List CertifiedLoop → Type 0 = λ ls. IsLeast (IsMemberBeyond c.nodes-3.result ls) b in
    let all =
    least_misplaced g s bounds loads a b f l w (subst A c.nodes-2.ensures.nodes (subst A' c.nodes.ensures c.first_listed_beyond.ensures))
    (subst B c.nodes-3.ensures.nodes (subst B' c.loops.ensures c.first_member_beyond.ensures)) c.requires.faulty c.requires.aside
    c.wrong_entry.ensures
    in
    let e : c.lesser-2.result ≡ lesser_of (lesser_of (lesser_of a b) (lesser_of f l)) w =
    c.lesser-2.ensures
    ∙ ap (λ (o : Option ℕ). lesser_of o w) (c.lesser.ensures ∙ ap (λ (o : Option ℕ). lesser_of o c.lesser-loops.result) c.lesser-no_node.ensures ∙ ap (λ (o : Option ℕ). lesser_of (lesser_of a b) o) c.lesser-loops.ensures)
    in
    let M : Option ℕ → Type 0 = λ o. IsLeast (IsMisplaced g s bounds loads) o in
    subst M (sym e) all
