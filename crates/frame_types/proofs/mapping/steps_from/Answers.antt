use Rattle.std.proofs.Common.{rules, ◌≡◌, ℕ, ◌+◌, List, [], ◌∷◌, ◌++◌, length, map, true, false, refl, sym, subst, ◌∙◌}
use Rattle.std.proofs.lemmas.List.{length_push}
use Rattle.std.proofs.lemmas.Iterator.Adapters.{YieldsList-from_vec}
use Rattle.std.proofs.lemmas.Iterator.Consumers.{YieldsList-turn, YieldsList-end}
use Rattle.frame_types.specs.declared.types.VarType.{VarType}
use Rattle.frame_types.specs.declared.steps.MapStep.{MapStep}
use Rattle.frame_types.specs.Steps.{change_named, AreSteps}
use Rattle.frame_types.specs.Extents.{entry_named, whole_extent, last_extent, AreLocals, MakesAt}
use Rattle.frame_types.proofs.WalkLemmas.{start_within}
use Rattle.frame_types.proofs.StepLemmas.{SoFar, entry_there, none_left, goes_on, stops, ends}
use Rattle.frame_types.proofs.mapping.steps_from.Goals as goal

pub returns-then-not-branch : goal.returns-then-not-branch
returns-then-not-branch c =
    let k = c.args.code.now in
    let entries = c.args.entries.items in
    let e = c.in-Some.entry in
    let i = length c.loop-entry.yielded in
    let place = c.loop-entry.next + c.from.result in
    let g = c.into_iter-entry-iterator.ensures.into_iter_gives in
    let t = YieldsList-turn (YieldsList-from_vec {s = c.into_iter-entry-iterator.result} entries g.0 (g.1 ∙ c.args.entries.ok.0)) c.loop-entry.yielded c.loop-entry.entry-iterator c.loop-entry.yielded_by c.next.result c.next.new.self e c.in-Some.is c.next.ensures.steps in
    let here : place ≡ c.loop-entry.next + e.offset = search rules in
    let none : c.in_ok-makes_at.field-0 ≡ false = search rules in
    λ pool ls h.
    let at = entry_there pool entries i e t in
    let makes : (before : List VarType) → AreLocals k before c.loop-entry.extents.items → MakesAt k place (change_named pool e.change) before c.makes_at.new.extents.items false = λ before are.
    subst (MakesAt k place (change_named pool e.change) before c.makes_at.new.extents.items) none (c.in_ok-makes_at.ensures.made pool before are)
    in
    stops pool k (map (entry_named pool) entries) ls c.loop-entry.next i c.loop-entry.extents.items c.makes_at.new.extents.items c.loop-entry.at.items (entry_named pool e) place (change_named pool e.change) at.0 at.1 here refl makes (c.loop-entry.invariant.so_far pool ls h)

pub loop-entry-preserved : goal.loop-entry-preserved
loop-entry-preserved c =
    let k = c.args.code.now in
    let entries = c.args.entries.items in
    let e = c.in-Some.entry in
    let i = length c.loop-entry.yielded in
    let place = c.loop-entry.next + c.from.result in
    let new = c.makes_at.new.extents.items in
    let step : MapStep = record { place = place; change = e.change; flag = c.last_of.result.this } in
    let g = c.into_iter-entry-iterator.ensures.into_iter_gives in
    let t = YieldsList-turn (YieldsList-from_vec {s = c.into_iter-entry-iterator.result} entries g.0 (g.1 ∙ c.args.entries.ok.0)) c.loop-entry.yielded c.loop-entry.entry-iterator c.loop-entry.yielded_by c.next.result c.next.new.self e c.in-Some.is c.next.ensures.steps in
    let here : place ≡ c.loop-entry.next + e.offset = search rules in
    let made : c.in_ok-makes_at.field-0 ≡ true = search rules in
    let put : c.push.new.self.items ≡ c.loop-entry.at.items ++ step ∷ [] = search rules in
    let flag : step.flag ≡ (last_extent (whole_extent k.max_locals) new).this = search rules in
    record {
      so_far = λ pool ls h.
          let at = entry_there pool entries i e t in
          let makes : (before : List VarType) → AreLocals k before c.loop-entry.extents.items → MakesAt k place (change_named pool e.change) before new true = λ before are.
          subst (MakesAt k place (change_named pool e.change) before new) made (c.in_ok-makes_at.ensures.made pool before are)
          in
          let next : SoFar pool k (map (entry_named pool) entries) ls (place + 1) (i + 1) new (c.loop-entry.at.items ++ step ∷ []) =
          goes_on pool k (map (entry_named pool) entries) ls c.loop-entry.next i c.loop-entry.extents.items new c.loop-entry.at.items (entry_named pool e) step at.0 at.1 here refl flag makes (c.loop-entry.invariant.so_far pool ls h)
          in
          let P : ℕ → List MapStep → Type 0 = λ j steps. SoFar pool k (map (entry_named pool) entries) ls (place + 1) j new steps in
          subst (P (length (c.loop-entry.yielded ++ e ∷ []))) (sym put) (subst (λ j. P j (c.loop-entry.at.items ++ step ∷ [])) (sym (length_push c.loop-entry.yielded e)) next);
      small = start_within k place 33554432 (c.starts_follow_one_another.ensures k.code) (c.in_ok-makes_at.ensures.start made) c.requires.small;
    }

pub returns : goal.returns
returns c =
    let k = c.args.code.now in
    let entries = c.args.entries.items in
    let g = c.into_iter-entry-iterator.ensures.into_iter_gives in
    let t = YieldsList-end (YieldsList-from_vec {s = c.into_iter-entry-iterator.result} entries g.0 (g.1 ∙ c.args.entries.ok.0)) c.loop-entry.yielded c.loop-entry.entry-iterator c.loop-entry.yielded_by c.next.result c.next.new.self c.in-None.is c.next.ensures.steps in
    let is : c.loop-entry.at.items ≡ c.new.result = search rules in
    λ pool ls h.
    let all = ends pool k (map (entry_named pool) entries) ls c.loop-entry.next (length c.loop-entry.yielded) c.loop-entry.extents.items c.loop-entry.at.items (none_left pool entries (length c.loop-entry.yielded) t.1) (c.loop-entry.invariant.so_far pool ls h) in
    (all.0, all.1, subst (λ (l : List MapStep). AreSteps pool k ls l all.0) is all.2)
