use Rattle.std.proofs.Common.{◌∷◌, [], List, map, true, sym, ap, subst, ◌∙◌}
use Rattle.std.specs.Prelude.{IfOk}
use Rattle.class_pool.specs.declared.entry.Entry.{Entry}
use Rattle.frame_types.specs.declared.types.VarType.{VarType}
use Rattle.frame_types.specs.declared.read.Change.TheVariants.{Append, Full}
use Rattle.frame_types.specs.declared.steps.EntryType.{EntryType}
use Rattle.frame_types.specs.declared.steps.StepChange.{StepChange}
use Rattle.frame_types.specs.Steps.{named, change_named}
use Rattle.frame_types.specs.Extents.{shape, fit, AreLocals, Makes}
use Rattle.frame_types.proofs.MakesLemmas.{makes_same, makes_one, makes_chop}
use Rattle.frame_types.proofs.mapping.makes.Goals as goal

pub returns-in-Same : goal.returns-in-Same
returns-in-Same c = λ pool ls h.
    let P : StepChange → Type 0 = λ ch. Makes c.args.code.now (change_named pool ch) ls c.args.extents.now.items true in
    subst P (sym c.in-Same.is) (makes_same c.args.code.now ls c.args.extents.now.items h)

pub returns-in-OneItem : goal.returns-in-OneItem
returns-in-OneItem c = λ pool ls h.
    let k = c.args.code.now in
    let P : StepChange → Type 0 = λ ch. Makes k (change_named pool ch) ls c.args.extents.now.items c.fit.result in
    let e = c.fit.ensures ∙ ap (λ (code : List _). fit code k.max_stack (shape c.in-OneItem.item ∷ [])) c.requires.code in
    subst P (sym c.in-OneItem.is) (makes_one k ls pool c.in-OneItem.item c.args.extents.now.items c.fit.result e h)

pub returns-in-Chop : goal.returns-in-Chop
returns-in-Chop c = λ pool ls h.
    let k = c.args.code.now in
    let P : StepChange → Type 0 = λ ch. Makes k (change_named pool ch) ls c.chop.new.extents.items c.chop.result in
    subst P (sym c.in-Chop.is) (makes_chop k ls c.in-Chop.n c.args.extents.now.items c.chop.new.extents.items c.chop.result c.chop.ensures.there c.chop.ensures.fewer h)

pub returns-in-Append : goal.returns-in-Append
returns-in-Append c =
    let k = c.args.code.now in
    let P : StepChange → Type 0 = λ ch. IfOk c.append.result (λ made. (pool : List Entry) (ls : List VarType) → AreLocals k ls c.args.extents.now.items → Makes k (change_named pool ch) ls c.append.new.extents.items made) in
    let Q : List EntryType → Type 0 = λ more. IfOk c.append.result (λ made. (pool : List Entry) (ls : List VarType) → AreLocals k ls c.args.extents.now.items → Makes k (Append (map (named pool) more)) ls c.append.new.extents.items made) in
    subst P (sym c.in-Append.is) (subst Q c.as_slice.ensures c.append.ensures)

pub returns-in-Full : goal.returns-in-Full
returns-in-Full c =
    let k = c.args.code.now in
    let P : StepChange → Type 0 = λ ch. IfOk c.replace.result (λ made. (pool : List Entry) (ls : List VarType) → AreLocals k ls c.args.extents.now.items → Makes k (change_named pool ch) ls c.replace.new.extents.items made) in
    let Q : (all stack : List EntryType) → Type 0 = λ all stack. IfOk c.replace.result (λ made. (pool : List Entry) (ls : List VarType) → AreLocals k ls c.args.extents.now.items → Makes k (Full (map (named pool) all) (map (named pool) stack)) ls c.replace.new.extents.items made) in
    subst P (sym c.in-Full.is) (subst (λ (all : List EntryType). Q all c.in-Full.stack) c.as_slice-in-Full.ensures (subst (Q c.as_slice-in-Full.result.now) c.as_slice-in-Full-2.ensures c.replace.ensures))
