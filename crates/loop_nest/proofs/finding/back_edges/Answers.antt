use Rattle.std.proofs.Common.{◌≡◌, ◌≢◌, ℕ, ◌<◌, ◌↔◌, true, false, List, [], ◌∷◌, ◌++◌, length, get_or, take, Contains, sym, ap, ◌∙◌, subst, arith}
use Rattle.std.proofs.lemmas.Bool.{both_ways}
use Rattle.std.proofs.lemmas.List.{take_more, take_all}
use Rattle.std.proofs.lemmas.List.Elements.{Contains-get_or}
use Rattle.loop_nest.specs.Digraph.{Edge}
use Rattle.loop_nest.specs.Walks.{IsBackEdge}
use Rattle.loop_nest.proofs.Flags.{FoundIn, to_entry, found_push, found_skip}
use Rattle.loop_nest.proofs.finding.back_edges.Goals as goal
use Rattle.loop_nest.proofs.finding.back_edges.Goals.{then-v-eq0+in_ok-push, then-v-eq0-via-then-v-eq0, then-v-eq0-via-else-v-eq0+then-back-i, else-v-eq0+else-back-i}

pub loop-i-preserved : goal.loop-i-preserved
loop-i-preserved c =
    let g = c.args.g.now in
    let es = c.edges-edges.result.now in
    let i = c.loop-i.i in
    let e = get_or es i (0, 0) in
    let found = c.loop-i.found.items in
    let P : List (ℕ × ℕ) → Type 0 = λ ls. FoundIn g ls c.if-v-eq0.found.items in
    let same : es ≡ g.edges = c.edges-edges.ensures.edges in
    let lt : i < length es = c.loop-i-test.true in
    let R : List (ℕ × ℕ) → Type 0 = λ ls. Contains ls e in
    let edge : Edge g e.0 e.1 = subst R same (Contains-get_or es i (0, 0) lt) in
    let lt' : i < length g.edges = let l = ap length same in omega arith in
    let at : get_or g.edges i (0, 0) ≡ e = ap (λ (ls : List (ℕ × ℕ)). get_or ls i (0, 0)) (sym same) in
    let S : ℕ × ℕ → Type 0 = λ z. z.1 ≢ 0 → (get_or c.args.back.now i false ≡ true) ↔ IsBackEdge g z.0 z.1 in
    let told : e.1 ≢ 0 → (get_or c.args.back.now i false ≡ true) ↔ IsBackEdge g e.0 e.1 = subst S at (c.requires.each i lt') in
    subst P (sym (take_more es i (0, 0) lt)) (
    elim c.if-v-eq0.branch [
      | then-v-eq0+in_ok-push w ↦
          let Q : List (ℕ × ℕ) → Type 0 = λ ls. FoundIn g (take i es ++ e ∷ []) ls in
          let back : IsBackEdge g e.0 e.1 =
          elim w.then-v-eq0.branch [
            | then-v-eq0-via-then-v-eq0 w' ↦ to_entry g e.0 e.1 w'.if-v-eq0.true edge
            | then-v-eq0-via-else-v-eq0+then-back-i w' ↦ (told w'.if-v-eq0.false).0 w'.if-back-i.true
          ] in
          subst Q (sym (ap (λ v. v.items) w.found-is ∙ w.in_ok-push.ensures.items)) (found_push g (take i es) found e back c.loop-i.invariant)
      | else-v-eq0+else-back-i w ↦
          let Q : List (ℕ × ℕ) → Type 0 = λ ls. FoundIn g (take i es ++ e ∷ []) ls in
          subst Q (sym (ap (λ v. v.items) w.found-is)) (found_skip g (take i es) found e (λ b. both_ways (get_or c.args.back.now i false) w.if-back-i.false ((told w.if-v-eq0.false).1 b)) c.loop-i.invariant)
    ])

pub returns : goal.returns
returns c = λ u v.
    let g = c.args.g.now in
    let es = c.edges-edges.result.now in
    let P : List (ℕ × ℕ) → Type 0 = λ ls. Contains ls (u, v) in
    let r = c.loop-i.invariant u v in (
      λ has. (r.0 has).1,
      λ b. r.1 (subst P (sym (take_all c.loop-i.i es c.loop-i-test.false)) (subst P (sym c.edges-edges.ensures.edges) b.edge), b),
    )
