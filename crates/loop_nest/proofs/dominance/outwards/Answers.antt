use Rattle.std.proofs.Common.{◌≡◌, ℕ, ◌+◌, ◌*◌, suc, ◌<◌, ◌≤◌, Bool, true, false, List, [], ◌∷◌, ◌++◌, length, get_or, set, Contains, All, sym, ap, ◌∙◌, subst, arith}
use Rattle.loop_nest.specs.Digraph.{targets_of}
use Rattle.std.proofs.lemmas.List.{nil_from_length, length-append}
use Rattle.std.proofs.lemmas.List.Elements.{All-contains, Contains-push}
use Rattle.loop_nest.specs.Order.{IsOutward}
use Rattle.loop_nest.proofs.Linked.{read_targets, few_targets}
use Rattle.loop_nest.proofs.Searching.{fewer_left}
use Rattle.loop_nest.proofs.Outward.{unseen, unseen-set, outward_start, outward_skips, outward_takes, outward_ends}
use Rattle.loop_nest.proofs.dominance.outwards.Goals as goal

within : (n x : ℕ) (stack left : List ℕ) → stack ≡ left ++ x ∷ [] → All (λ y. y < n) stack → x < n
within n x stack left is all = let P : List ℕ → Type 0 = λ ls. Contains ls x in All-contains (λ y. y < n) stack x all (subst P (sym is) (Contains-push left x))

smaller : (u m : ℕ) (seen : List Bool) (stack left new next : List ℕ) → u < length seen → get_or seen u false ≡ false → length next ≤ m → stack ≡ left ++ u ∷ [] → new ≡ left ++ next → unseen (set seen u true) * suc m + length new < unseen seen * suc m + length stack
smaller u m seen stack left new next lt fresh few is more =
    let a = ap length is in
    let b = ap length more in
    let l = length-append left (u ∷ []) in
    let k = length-append left next in
    let e : length stack ≡ suc (length left) = omega arith in
    let f : length new ≡ length left + length next = omega arith in
    rw (e, f) (fewer_left (unseen (set seen u true)) (unseen seen) m (length left) (length next) (unseen-set u seen lt fresh) few)

pub loop-u-init : goal.loop-u-init
loop-u-init c =
    let g = c.args.g.now in
    let seen = c.args.seen.now in
    let stack : c.push.new.self.items ≡ 0 ∷ [] = c.in_ok-push.ensures.items ∙ ap (λ ls. ls ++ 0 ∷ []) c.new-stack.ensures.items in
    let P : List ℕ → Type 0 = λ ls. IsOutward g [] ls seen in
    let Q : List ℕ → Type 0 = λ ls. IsOutward g ls c.push.new.self.items seen in
    subst Q (sym c.in_ok-order.ensures.items) (subst P (sym stack) (outward_start g seen c.requires.valid.entry c.requires.long c.requires.unseen))

pub of-requires : goal.of-requires
of-requires c =
    let s = c.loop-u.invariant in
    let lt = within c.args.g.now.nodes c.in-Some.u c.loop-u.stack.items c.pop.new.self.items c.in-Some.ensures.items s.stack_within in
    let long = c.requires.targets.long in
    omega arith

pub loop-u-smaller-in-Continue-branch-4 : goal.loop-u-smaller-in-Continue-branch-4
loop-u-smaller-in-Continue-branch-4 c =
    let g = c.args.g.now in
    let u = c.in-Some.u in
    let seen = c.loop-u.seen in
    let s = c.loop-u.invariant in
    let left = c.pop.new.self.items in
    let lt = within g.nodes u c.loop-u.stack.items left c.in-Some.ensures.items s.stack_within in
    let long = s.long in
    let inside : u < length seen = omega arith in
    let fresh : get_or seen u false ≡ false = c.if-not-seen-u.true in
    let next : c.of.result.now ≡ targets_of g.edges u =
    c.of.ensures ∙ read_targets g.edges g.nodes u c.args.targets.now c.requires.targets lt in
    let more : c.extend_from_slice.new.self.items ≡ left ++ targets_of g.edges u = c.in_ok-extend_from_slice.ensures.items ∙ ap (λ ls. left ++ ls) next in
    smaller u (length g.edges) seen c.loop-u.stack.items left c.extend_from_slice.new.self.items (targets_of g.edges u) inside fresh (few_targets g.edges u) c.in-Some.ensures.items more

pub loop-u-preserved-in-Continue-branch-4 : goal.loop-u-preserved-in-Continue-branch-4
loop-u-preserved-in-Continue-branch-4 c =
    let g = c.args.g.now in
    let u = c.in-Some.u in
    let seen = c.loop-u.seen in
    let s = c.loop-u.invariant in
    let left = c.pop.new.self.items in
    let lt = within g.nodes u c.loop-u.stack.items left c.in-Some.ensures.items s.stack_within in
    let long = s.long in
    let inside : u < length seen = omega arith in
    let fresh : get_or seen u false ≡ false = c.if-not-seen-u.true in
    let next : c.of.result.now ≡ targets_of g.edges u =
    c.of.ensures ∙ read_targets g.edges g.nodes u c.args.targets.now c.requires.targets lt in
    let more : c.extend_from_slice.new.self.items ≡ left ++ targets_of g.edges u = c.in_ok-extend_from_slice.ensures.items ∙ ap (λ ls. left ++ ls) next in
    let P : List ℕ → Type 0 = λ ls. IsOutward g c.loop-u.order.items ls seen in
    let Q : List ℕ → Type 0 = λ ls. IsOutward g ls (left ++ targets_of g.edges u) (set seen u true) in
    let R : List ℕ → Type 0 = λ ls. IsOutward g c.push-then-not-seen-u.new.self.items ls (set seen u true) in
    subst R (sym more) (subst Q (sym c.in_ok-push-2.ensures.items) (outward_takes left u c.requires.valid (subst P c.in-Some.ensures.items s) fresh))

pub loop-u-preserved : goal.loop-u-preserved
loop-u-preserved c =
    let P : List ℕ → Type 0 = λ ls. IsOutward c.args.g.now c.loop-u.order.items ls c.loop-u.seen in
    let s = c.loop-u.invariant in
    let lt = within c.args.g.now.nodes c.in-Some.u c.loop-u.stack.items c.pop.new.self.items c.in-Some.ensures.items s.stack_within in
    let long = s.long in
    let inside : c.in-Some.u < length c.loop-u.seen = omega arith in
    outward_skips c.pop.new.self.items c.in-Some.u (subst P c.in-Some.ensures.items s) c.if-not-seen-u.false

pub returns : goal.returns
returns c =
    let ok = c.loop-u.stack.ok in
    let cases = c.in_default.ensures.cases in
    let empty : c.loop-u.stack.items ≡ [] = nil_from_length c.loop-u.stack.items (omega (arith, ok.0, cases.0)) in
    let P : List ℕ → Type 0 = λ ls. IsOutward c.args.g.now c.loop-u.order.items ls c.loop-u.seen in
    outward_ends (subst P empty c.loop-u.invariant)
