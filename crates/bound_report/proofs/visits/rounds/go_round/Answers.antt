use Rattle.std.proofs.Common.{◌≡◌, ℕ, ◌^◌, ◌<◌, List, length, get_or, All, Contains, refl, sym, ap, ◌∙◌, subst, arith}
use Rattle.loop_nest.specs.Nest.{NaturalLoop}
use Rattle.section_check.specs.Placing.{IsEntryAt}
use Rattle.path_solver.proofs.Loops.{same_at}
use Rattle.bound_report.proofs.VisitsLemmas.ProblemLemmas.{is_orderly, are_members, member_below, own_members, headed_below, headed_last, headed_leads, own_cost, some_last_far, own_round}
use Rattle.bound_report.proofs.visits.rounds.go_round.Goals as goal

read_at : (nest ls : List NaturalLoop) (i : ℕ) (l : NaturalLoop) → ls ≡ nest → i < length nest → l ≡ get_or ls i l → IsEntryAt nest i l
read_at nest ls i l are within is = (within, sym (is ∙ ap (λ (ks : List NaturalLoop). get_or ks i l) are))

same_header : (nest : List NaturalLoop) (i : ℕ) (k l : NaturalLoop) → IsEntryAt nest i k → IsEntryAt nest i l → k.header ≡ l.header
same_header nest i k l at at' = ap (λ (x : NaturalLoop). x.header) (same_at nest i i k l at at' refl)

pub greatest_iteration-requires-clause-topology : goal.greatest_iteration-requires-clause-topology
greatest_iteration-requires-clause-topology c = is_orderly c.args.q.now c.requires.posed

pub greatest_iteration-requires-clause-members : goal.greatest_iteration-requires-clause-members
greatest_iteration-requires-clause-members c =
    let q = c.args.q.now in
    let l = c.index-loops-i.result in
    let at = read_at q.nest.now c.loops.result.now c.args.i l c.loops.ensures c.requires.within c.index-loops-i.is in
    let at' = read_at q.nest.now c.loops-2.result.now c.args.i c.index-loops-i-2.result c.loops-2.ensures c.requires.within c.index-loops-i-2.is in
    own_members q c.requires.posed c.args.i l at (c.requires.listed l at) c.members-members.result.now c.header-header.result c.members-members.ensures
    (c.header-header.ensures ∙ same_header q.nest.now c.args.i c.index-loops-i-2.result l at' at)

pub of-requires : goal.of-requires
of-requires c =
    let q = c.args.q.now in
    let l = c.index-loops-i.result in
    let at = read_at q.nest.now c.loops.result.now c.args.i l c.loops.ensures c.requires.within c.index-loops-i.is in
    let at' = read_at q.nest.now c.loops-2.result.now c.args.i c.index-loops-i-2.result c.loops-2.ensures c.requires.within c.index-loops-i-2.is in
    let flag = c.requires.listed l at in
    let is : c.header-header.result ≡ l.header = c.header-header.ensures ∙ same_header q.nest.now c.args.i c.index-loops-i-2.result l at' at in
    let below = member_below q c.requires.posed c.args.i l at flag l.header (are_members q c.requires.posed c.args.i l at flag).heads in
    let back = (is_orderly q c.requires.posed).back_long in
    let long = c.requires.posed.measured.costs_long in
    omega arith

pub costing-requires-clause-within : goal.costing-requires-clause-within
costing-requires-clause-within c =
    let P : List ℕ → Type 0 = λ us. All (λ u. u < length c.args.q.now.costs.now) us in
    subst P (sym c.of.ensures) ((is_orderly c.args.q.now c.requires.posed).back_within c.header-header.result)

pub add_path-requires : goal.add_path-requires
add_path-requires c =
    let q = c.args.q.now in
    let posed = c.requires.posed in
    let i = c.args.i in
    let l = c.index-loops-i.result in
    let at = read_at q.nest.now c.loops.result.now i l c.loops.ensures c.requires.within c.index-loops-i.is in
    let at' = read_at q.nest.now c.loops-2.result.now i c.index-loops-i-2.result c.loops-2.ensures c.requires.within c.index-loops-i-2.is in
    let flag = c.requires.listed l at in
    let h = c.header-header.result in
    let h_is = c.header-header.ensures ∙ same_header q.nest.now i c.index-loops-i-2.result l at' at in
    let ms = c.members-members.result.now in
    let told = c.in_ok-cost.ensures in
    let from = c.greatest_iteration.new.dist in
    let cost = c.in_ok-cost.cost in
    let fees_are = c.as_slice-fees.ensures.value in
    let E : List ℕ → Type 0 = λ us. Contains us c.in-Some.end in
    let last = headed_last q posed i l at flag ms h c.members-members.ensures h_is c.in-Some.end (subst E c.of.ensures c.in-Some.ensures.found.0) in
    let far = c.in-Some.ensures.found.1 in
    let is = own_cost q posed i l at flag ms h c.members-members.ensures h_is c.as_slice-fees.result.now from cost fees_are told in
    let small = c.requires.small in
    let few : get_or from c.in-Some.end 0 < 2 ^ 65 = omega arith in
    let leads = headed_leads q posed i l at flag ms h c.members-members.ensures h_is c.as_slice-fees.result.now from cost fees_are told in
    (posed, (told.long, (told.limited, (headed_below q posed i l at flag ms h c.members-members.ensures h_is, (leads, (last, (few, (c.requires.long, c.requires.room))))))))

pub returns-in-Some-clause-round : goal.returns-in-Some-clause-round
returns-in-Some-clause-round c =
    let q = c.args.q.now in
    let i = c.args.i in
    let l = c.index-loops-i.result in
    let at = read_at q.nest.now c.loops.result.now i l c.loops.ensures c.requires.within c.index-loops-i.is in
    let at' = read_at q.nest.now c.loops-2.result.now i c.index-loops-i-2.result c.loops-2.ensures c.requires.within c.index-loops-i-2.is in
    let h_is = c.header-header.ensures ∙ same_header q.nest.now i c.index-loops-i-2.result l at' at in
    let E : List ℕ → Type 0 = λ us. Contains us c.in-Some.end in
    own_round q c.requires.posed i l at (c.requires.listed l at) c.members-members.result.now c.header-header.result c.members-members.ensures h_is
    c.as_slice-fees.result.now c.greatest_iteration.new.dist c.in_ok-cost.cost c.as_slice-fees.ensures.value c.in_ok-cost.ensures
    c.in-Some.end c.args.count c.args.visits.now c.add_path.new.visits (subst E c.of.ensures c.in-Some.ensures.found.0) c.in-Some.ensures.found.1 c.add_path.ensures

pub returns-in_default-clause-round : goal.returns-in_default-clause-round
returns-in_default-clause-round c =
    let q = c.args.q.now in
    let i = c.args.i in
    let l = c.index-loops-i.result in
    let at = read_at q.nest.now c.loops.result.now i l c.loops.ensures c.requires.within c.index-loops-i.is in
    let at' = read_at q.nest.now c.loops-2.result.now i c.index-loops-i-2.result c.loops-2.ensures c.requires.within c.index-loops-i-2.is in
    let flag = c.requires.listed l at in
    let h = c.header-header.result in
    let h_is = c.header-header.ensures ∙ same_header q.nest.now i c.index-loops-i-2.result l at' at in
    let from = c.greatest_iteration.new.dist in
    let cost = c.in_ok-cost.cost in
    let is = own_cost q c.requires.posed i l at flag c.members-members.result.now h c.members-members.ensures h_is c.as_slice-fees.result.now from cost c.as_slice-fees.ensures.value c.in_ok-cost.ensures in
    let small = c.requires.small in
    let fits : cost < 2 ^ 64 = omega arith in
    absurd
    (some_last_far q c.requires.posed i l at flag c.members-members.result.now h c.members-members.ensures h_is c.as_slice-fees.result.now from cost c.as_slice-fees.ensures.value c.in_ok-cost.ensures fits
    (λ u has. let P : List ℕ → Type 0 = λ us. Contains us u in c.in_default.ensures.none u (subst P (sym c.of.ensures) has)))
