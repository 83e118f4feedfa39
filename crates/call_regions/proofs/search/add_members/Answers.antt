use Rattle.std.proofs.Common.{ℕ, ◌+◌, ◌*◌, List, take, get_or, Contains, sym, subst, inl, inr}
use Rattle.std.proofs.lemmas.Bool.{both_ways}
use Rattle.method_flow.specs.Flow.{targets_of_call}
use Rattle.method_flow.specs.declared.flow.Call.{Call}
use Rattle.call_regions.specs.Searching.{FindsAll}
use Rattle.call_regions.specs.Tables.{IsTargetAt}
use Rattle.call_regions.specs.declared.search.Search.{Search}
use Rattle.call_regions.proofs.Growing.{finds_part, finds_same, finds_then}
use Rattle.call_regions.proofs.Lists.{from_take, take_has, take_keeps, take_cases}
use Rattle.call_regions.proofs.search.add_members.Goals as goal
use Rattle.call_regions.proofs.search.add_members.Goals.{in-Some+in_ok-add_all, in_default}

pub loop-node-preserved : goal.loop-node-preserved
loop-node-preserved c =
    let f = c.args.f.now in
    let w = c.args.cache.block_words in
    let most = c.args.cache.blocks in
    let calls = c.args.calls.now in
    let members = c.args.members.now in
    let i = c.loop-node.node-index in
    let lt = c.loop-node-test.true in
    let u = get_or members i 0 in
    let K = IsTargetAt f calls (take i members) in
    let M = IsTargetAt f calls (take (i + 1) members) in
    let H : ℕ → List ℕ → Type 0 = λ x q. Contains q x in
    let S : Search → Type 0 = λ s. FindsAll f w most M c.args.s.now s in
    let keeps : (x : ℕ) → K x → M x = λ x t. record { call = t.call; among = t.among; node = take_keeps members i (2 * t.call.place) lt t.node; lists = t.lists } in
    elim c.match-call_of_node.branch [
      | in-Some+in_ok-add_all b ↦
          let call = b.in-Some.call in
          let found = b.in-Some.ensures.found in
          let are = b.targets.ensures.targets in
          let N : ℕ → Type 0 = λ n. Contains (take (i + 1) members) n in
          subst S (sym b.s-is)
          (finds_then f w most K (Contains b.targets.result.now) M c.args.s.now c.loop-node.s b.add_all.new.s c.loop-node.invariant (c.fits.ensures.0 c.if-not-fits.false) b.in_ok-add_all.ensures keeps
          (λ x has. record { call = call; among = found.0; node = subst N (sym found.1) (take_has members i 0 lt); lists = subst (H x) are has })
          (λ x t.
          elim (take_cases members i 0 (2 * t.call.place) lt t.node) [
            | inl there ↦ inl (record { call = t.call; among = t.among; node = there; lists = t.lists })
            | inr same ↦
                let P : Call → Type 0 = λ k. Contains (targets_of_call f k) x in
                let one = b.in-Some.ensures.only t.call t.among (sym same) in inr (subst (H x) (sym are) (subst P one t.lists))
          ]))
      | in_default b ↦
          subst S (sym b.s-is)
          (finds_same f w most K M c.args.s.now c.loop-node.s c.loop-node.invariant keeps
          (λ x t.
          elim (take_cases members i 0 (2 * t.call.place) lt t.node) [
            | inl there ↦ record { call = t.call; among = t.among; node = there; lists = t.lists }
            | inr same ↦ absurd (b.in_default.ensures.none t.call t.among (sym same))
          ]))
    ]

pub returns-then-not-fits : goal.returns-then-not-fits
returns-then-not-fits c =
    let f = c.args.f.now in
    let calls = c.args.calls.now in
    let members = c.args.members.now in
    let i = c.loop-node.node-index in
    finds_part f c.args.cache.block_words c.args.cache.blocks (IsTargetAt f calls (take i members)) (IsTargetAt f calls members) c.args.s.now c.loop-node.s c.loop-node.invariant
    (λ x t. record { call = t.call; among = t.among; node = from_take i members (2 * t.call.place) t.node; lists = t.lists })
    (λ fits. both_ways c.fits.result c.if-not-fits.true (c.fits.ensures.1 fits))
