use Rattle.std.proofs.Common.{◌≡◌, ℕ, ◌<◌, List, [], ◌∷◌, ◌++◌, length, get_or, set, All, Option, Some, None, sym, ap, ◌∙◌, subst, arith}
use Rattle.std.proofs.lemmas.List.{length-map, get_or-map, get_or-set_same}
use Rattle.loop_nest.specs.Nest.{NaturalLoop, headers_of, header_at, members_at, outer_at}
use Rattle.loop_nest.specs.Nesting.{IsInnermost, every_node, IsAdding}
use Rattle.loop_nest.proofs.Adding.{lacking, lacking-set, adding_start, adding_more, still_below, adding_ends, added_headers, added_outers, added_members, added_others}
use Rattle.loop_nest.proofs.finding.add_to_loops.Goals as goal

pub loop-next-init : goal.loop-next-init
loop-next-init c = adding_start c.args.g.now c.requires.valid c.requires.reached c.args.x c.args.loops.now c.args.innermost c.requires.innermost

pub loop-next-smaller : goal.loop-next-smaller
loop-next-smaller c =
    let g = c.args.g.now in
    let x = c.args.x in
    let old = c.args.loops.now in
    let loops = c.loop-next.loops in
    let m = c.in-Some.number in
    let l = c.index-loops-number.result in
    let is = c.index-loops-number.is in
    let P : Option ℕ → Type 0 = λ o. IsAdding g x old loops o in
    let a : IsAdding g x old loops (Some m) = subst P c.in-Some.is c.loop-next.invariant in
    let lt : m < length loops = let below = a.goes_on.0 in omega arith in
    let ms : members_at loops m ≡ l.members = get_or-map (λ (y : NaturalLoop). y.members) loops m l [] lt ∙ ap (λ (y : NaturalLoop). y.members) (sym is) in
    let Q : List ℕ → Type 0 = λ ys. All (λ y. y < x) ys in
    let below : All (λ y. y < x) l.members = subst Q ms (still_below g c.requires.valid c.requires.reached x old m loops c.requires.members a) in
    let updated : c.add_member.new.self ≡ record l { members = l.members ++ x ∷ [] } =
    c.in_ok-add_member.ensures ∙ ap (λ (y : NaturalLoop). record y { members = y.members ++ x ∷ [] }) (sym is) in
    let R : NaturalLoop → Type 0 = λ y. lacking x (set loops m y) < lacking x loops in
    subst R (sym updated) (lacking-set x m loops l lt is below)

pub loop-next-preserved : goal.loop-next-preserved
loop-next-preserved c =
    let g = c.args.g.now in
    let x = c.args.x in
    let old = c.args.loops.now in
    let loops = c.loop-next.loops in
    let m = c.in-Some.number in
    let l = c.index-loops-number.result in
    let is = c.index-loops-number.is in
    let P : Option ℕ → Type 0 = λ o. IsAdding g x old loops o in
    let a : IsAdding g x old loops (Some m) = subst P c.in-Some.is c.loop-next.invariant in
    let lt_old = a.goes_on.0 in
    let lt : m < length loops = omega arith in
    let many = length-map old (λ (y : NaturalLoop). y.header) in
    let updated : c.add_member.new.self ≡ record l { members = l.members ++ x ∷ [] } =
    c.in_ok-add_member.ensures ∙ ap (λ (y : NaturalLoop). record y { members = y.members ++ x ∷ [] }) (sym is) in
    let o : c.outer-next.result ≡ outer_at old m =
    c.outer-next.ensures ∙ ap (λ (y : NaturalLoop). y.outer) (get_or-set_same loops m c.add_member.new.self c.index-loops-number-in-Some.result lt) ∙ ap (λ (y : NaturalLoop). y.outer) updated
    ∙ sym (get_or-map (λ (y : NaturalLoop). y.outer) loops m l None lt ∙ ap (λ (y : NaturalLoop). y.outer) (sym is))
    ∙ ap (λ (os : List (Option ℕ)). get_or os m None) a.outline.outers in
    let Q : Option ℕ → Type 0 = λ z. IsInnermost g (λ k. every_node k × (k ≡ header_at old m → ⊥)) (headers_of old) (header_at old m) z in
    let R : NaturalLoop → Type 0 = λ y. IsAdding g x old (set loops m y) c.outer-next.result in
    subst R (sym updated) (
    adding_more g c.requires.valid c.requires.reached x old m c.outer-next.result loops (set loops m (record l { members = l.members ++ x ∷ [] })) c.requires.rising (subst Q (sym o) (c.requires.outers m (omega arith) tt))
    (record { headers = added_headers x m loops l lt is ∙ a.outline.headers; outers = added_outers x m loops l lt is ∙ a.outline.outers }) (added_members x m loops l lt is) (added_others x m loops l lt is) a)

pub returns-clause-members : goal.returns-clause-members
returns-clause-members c =
    let P : Option ℕ → Type 0 = λ o. IsAdding c.args.g.now c.args.x c.args.loops.now c.loop-next.loops o in
    adding_ends c.args.g.now c.requires.valid c.requires.reached c.args.x c.args.loops.now c.loop-next.loops c.requires.members (subst P c.in_default.is c.loop-next.invariant)
