use Rattle.std.proofs.Common.{◌≡◌, ℕ, ◌<◌, Bool, true, false, List, get_or, set, take, replicate, sym, ap, ◌∙◌, subst, arith}
use Rattle.std.proofs.lemmas.Bool.{both_ways}
use Rattle.std.proofs.lemmas.List.{take_more, take_all}
use Rattle.std.proofs.lemmas.List.Elements.{All-get_or}
use Rattle.lists.specs.Members.{nil_contains}
use Rattle.loop_nest.proofs.Searching.{same_everywhere}
use Rattle.loop_nest.proofs.Bodies.{AreFlagsOf, targets_within, flags_more}
use Rattle.loop_nest.proofs.finding.header_flags.Goals as goal

pub loop-edge-init : goal.loop-edge-init
loop-edge-init c =
    let flags = c.in_ok-flags.flags in
    let n = c.nodes.result in
    let all : flags.items ≡ replicate n false = c.in_ok-flags.ensures.items_if_clones_equal (λ y h. h) in
    let none : (h : ℕ) → get_or flags.items h false ≡ false = λ h. ap (λ (bs : List Bool). get_or bs h false) all ∙ same_everywhere n h false in
    let ok = flags.ok in
    let few = c.in_ok-flags.ensures.len in
    let nodes = c.nodes.ensures.nodes in
    record {
      long = omega (arith, ok.0);
      each = λ h. (λ at. absurd (both_ways (get_or flags.items h false) (none h) at), λ has. absurd (nil_contains (has.0, h) has.1));
    }

pub index_mut-requires : goal.index_mut-requires
index_mut-requires c =
    let i = c.loop-edge.edge-index in
    let es = c.args.back_edges.now in
    let lt = All-get_or (λ (e : ℕ × ℕ). e.1 < c.args.g.now.nodes) es i (0, 0) c.loop-edge-test.true (targets_within c.args.g.now es c.nodes.ensures.valid c.requires) in
    let long = c.loop-edge.invariant.long in
    let ok = c.loop-edge.flags.ok in
    omega (arith, ok.0)

pub loop-edge-preserved : goal.loop-edge-preserved
loop-edge-preserved c =
    let i = c.loop-edge.edge-index in
    let es = c.args.back_edges.now in
    let e = get_or es i (0, 0) in
    let n = c.args.g.now.nodes in
    let lt = All-get_or (λ (z : ℕ × ℕ). z.1 < n) es i (0, 0) c.loop-edge-test.true (targets_within c.args.g.now es c.nodes.ensures.valid c.requires) in
    let P : List (ℕ × ℕ) → Type 0 = λ qs. AreFlagsOf n qs (set c.loop-edge.flags.items e.1 true) in
    subst P (sym (take_more es i (0, 0) c.loop-edge-test.true)) (flags_more n e.0 e.1 (take i es) c.loop-edge.flags.items lt c.loop-edge.invariant)

pub returns : goal.returns
returns c =
    let es = c.args.back_edges.now in
    let all : take c.loop-edge.edge-index es ≡ es = take_all c.loop-edge.edge-index es c.loop-edge-test.false in
    let P : List (ℕ × ℕ) → Type 0 = λ qs. AreFlagsOf c.args.g.now.nodes qs c.loop-edge.flags.items in
    let f = subst P all c.loop-edge.invariant in
    record {
      long = f.long;
      each = λ h. (λ at. let r = (f.each h).0 at in (r.0, (c.requires r.0 h).0 r.1), λ header. (f.each h).1 (header.0, (c.requires header.0 h).1 header.1));
    }
