use Rattle.std.proofs.Common.{◌≡◌, List, [], ◌∷◌, ◌++◌, length, replicate, refl, ap, ◌∙◌, rules}
use Rattle.call_regions.specs.declared.walk.State.TheVariants.{New}
use Rattle.call_regions.specs.declared.walk.Visit.{Visit}
use Rattle.call_regions.proofs.Visiting.{started}
use Rattle.call_regions.proofs.walk.start.Goals as goal

pub returns-clause-walk : goal.returns-clause-walk
returns-clause-walk c =
    let f = c.args.f.now in
    let first : Visit = record { method = c.args.root; call = 0; target = 0 } in
    let states = c.in_ok-states.states.items in
    let are : states ≡ replicate (length f.methods) New = c.in_ok-states.ensures.items_if_clones_equal (λ y h. search rules) ∙ ap (λ n. replicate n New) c.method_count.ensures.count in
    started f c.args.root _ states _ first c.requires are refl refl c.new.ensures.items c.new-2.ensures.items refl refl refl
    (c.in_ok-push.ensures.items ∙ ap (λ (vs : List Visit). vs ++ first ∷ []) c.new-visits.ensures.items)
