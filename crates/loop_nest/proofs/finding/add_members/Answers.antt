use Rattle.std.proofs.Common.{◌≡◌, ℕ, List, Option, refl, sym, subst, arith}
use Rattle.loop_nest.specs.Nest.{headers_of, outers_of}
use Rattle.loop_nest.specs.Nesting.{HaveOuters, every_node, HaveMembersBelow}
use Rattle.loop_nest.proofs.Adding.{no_members, nest_of}
use Rattle.loop_nest.proofs.finding.add_members.Goals as goal

pub loop-x-init : goal.loop-x-init
loop-x-init c = record {
  outline = record { headers = refl; outers = refl };
  members = no_members c.args.g.now c.args.loops.now c.requires.nesting.headers.empty;
}

pub add_to_loops-requires-clause-outers : goal.add_to_loops-requires-clause-outers
add_to_loops-requires-clause-outers c =
    let g = c.args.g.now in
    let keeps = c.loop-x.invariant.outline in
    let P : List ℕ → Type 0 = λ hs. HaveOuters g every_node hs (outers_of c.loop-x.loops) in
    let Q : List (Option ℕ) → Type 0 = λ os. HaveOuters g every_node (headers_of c.args.loops.now) os in
    subst P (sym keeps.headers) (subst Q (sym keeps.outers) c.requires.nesting.outers)

pub returns : goal.returns
returns c =
    let end = c.loop-x.auto.x-end in
    let nodes = c.nodes-x-end.ensures.nodes in
    let all : c.loop-x.x ≡ c.args.g.now.nodes = omega arith in
    let P : ℕ → Type 0 = λ x. HaveMembersBelow c.args.g.now x c.loop-x.loops in
    nest_of c.args.g.now c.args.loops.now c.loop-x.loops c.args.innermost.now c.requires.valid c.requires.nesting c.loop-x.invariant.outline (subst P all c.loop-x.invariant.members)
