use Rattle.std.proofs.Common.{◌≡◌, ◌&&◌, map, true, false, rules, ap, ◌∙◌}
use Rattle.frame_types.specs.Extents.{shape, whole_extent, extents_behind, fit}
use Rattle.frame_types.proofs.MakesLemmas.{makes_full}
use Rattle.frame_types.proofs.mapping.replace.Goals as goal
use Rattle.frame_types.proofs.mapping.replace.Goals.{then-not-fit-via-then-not-fit, then-not-fit-via-else-not-fit+then-not-fit-2}

pub returns-then-not-fit : goal.returns-then-not-fit
returns-then-not-fit c =
    let k = c.args.code.now in
    let es = c.args.extents.now.items in
    let e : false ≡ (fit k.code k.max_locals (map shape c.args.all.now) && fit k.code k.max_stack (map shape c.args.stack.now)) =
    elim c.then-not-fit.branch [
      | then-not-fit-via-then-not-fit w ↦
          let f : false ≡ fit k.code k.max_locals (map shape c.args.all.now) = search rules in
          ap (λ b. b && fit k.code k.max_stack (map shape c.args.stack.now)) f
      | then-not-fit-via-else-not-fit+then-not-fit-2 w ↦
          let t : true ≡ fit k.code k.max_locals (map shape c.args.all.now) = search rules in
          let f : false ≡ fit k.code k.max_stack (map shape c.args.stack.now) = search rules in
          f ∙ ap (λ b. b && fit k.code k.max_stack (map shape c.args.stack.now)) t
    ]
    in
    λ pool ls h. makes_full k ls pool c.args.all.now c.args.stack.now es false e (λ t. absurd (let f : false ≡ true = t in cc))

pub returns : goal.returns
returns c =
    let k = c.args.code.now in
    let new = c.push_all.new.extents.items in
    let e : true ≡ (fit k.code k.max_locals (map shape c.args.all.now) && fit k.code k.max_stack (map shape c.args.stack.now)) = search rules in
    let is : new ≡ extents_behind (whole_extent k.max_locals) (map shape c.args.all.now) = search rules in
    λ pool ls h. makes_full k ls pool c.args.all.now c.args.stack.now new true e (λ _. is)
