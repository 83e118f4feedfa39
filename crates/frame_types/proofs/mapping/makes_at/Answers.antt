use Rattle.std.proofs.Common.{rules, ◌≡◌, List, Bool, true}
use Rattle.class_pool.specs.declared.entry.Entry.{Entry}
use Rattle.frame_types.specs.declared.types.VarType.{VarType}
use Rattle.frame_types.specs.Types.{is_start}
use Rattle.frame_types.specs.Steps.{change_named}
use Rattle.frame_types.specs.Extents.{AreLocals, Makes, MakesAt}
use Rattle.frame_types.proofs.StepLemmas.{makes_there, if_ok_all}
use Rattle.frame_types.proofs.mapping.makes_at.Goals as goal

pub returns-clause-made : goal.returns-clause-made
returns-clause-made c =
    let k = c.args.code.now in
    let es = c.args.extents.now.items in
    let new = c.makes.new.extents.items in
    let ch = c.args.change.now in
    let start : is_start k.code c.args.place ≡ true = search rules in
    let P : Bool → Type 0 = λ made. (pool : List Entry) (ls : List VarType) → AreLocals k ls es → Makes k (change_named pool ch) ls new made in
    let Q : Bool → Type 0 = λ made. (pool : List Entry) (ls : List VarType) → AreLocals k ls es → MakesAt k c.args.place (change_named pool ch) ls new made in
    if_ok_all c.makes.result P Q (λ made g pool ls h. makes_there k c.args.place (change_named pool ch) ls new start made (g pool ls h)) c.makes.ensures
