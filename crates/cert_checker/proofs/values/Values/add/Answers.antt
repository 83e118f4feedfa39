use Rattle.std.proofs.Common.{◌≡◌, ◌<◌, ◌++◌, [], ◌∷◌, length, map, take, drop, sym, ap, ◌∙◌, subst, arith}
use Rattle.std.proofs.lemmas.List.{map_push}
use Rattle.bound_rules.specs.Told.{Valued}
use Rattle.cert_checker.specs.declared.values.SectionValue.{SectionValue}
use Rattle.cert_checker.specs.Setting.{SectionValues, valued_of}
use Rattle.cert_checker.proofs.Valuing.{written, inside_more, others_more}
use Rattle.cert_checker.proofs.values.Values.add.Goals as goal

pub invariant_of-self-then-inside : goal.invariant_of-self-then-inside
invariant_of-self-then-inside c =
    let v = c.self.inside in
    let s = c.args.s.now in
    let item : SectionValue = record { method = s.method; inside = c.is_inside-inside.result; value = c.args.value } in
    let x : Valued = valued_of item in
    let fs = v.inside.items in
    let vs = map valued_of v.listed.items in
    let more : map valued_of c.push.new.self.items ≡ vs ++ x ∷ [] = ap (map valued_of) c.in_ok-push.ensures.items ∙ map_push valued_of v.listed.items item in
    let known : s.method < length fs = subst (λ (k : SectionValues). s.method < k.methods) (sym c.self.view_is) c.requires in
    let len : v.inside.len ≡ length fs = (let ok = v.inside.ok in omega (arith, ok.0)) in
    let is = written fs c.deref_mut.result.now c.set_first.new.firsts s.method c.args.value v.inside.len c.deref_mut.ensures.value c.set_first.ensures len in
    inside_more vs (map valued_of c.push.new.self.items) x fs v.others.items (take v.inside.len (c.set_first.new.firsts ++ drop (length c.set_first.new.firsts) fs)) more is c.if-inside.true known c.self.invariant

pub invariant_of-self-else-inside : goal.invariant_of-self-else-inside
invariant_of-self-else-inside c =
    let v = c.self.inside in
    let s = c.args.s.now in
    let item : SectionValue = record { method = s.method; inside = c.is_inside-inside.result; value = c.args.value } in
    let x : Valued = valued_of item in
    let fs = v.inside.items in
    let os = v.others.items in
    let vs = map valued_of v.listed.items in
    let more : map valued_of c.push.new.self.items ≡ vs ++ x ∷ [] = ap (map valued_of) c.in_ok-push.ensures.items ∙ map_push valued_of v.listed.items item in
    let known : s.method < length fs = subst (λ (k : SectionValues). s.method < k.methods) (sym c.self.view_is) c.requires in
    let len : v.others.len ≡ length os = (let ok = v.others.ok in omega (arith, ok.0)) in
    let is = written os c.deref_mut-else-inside.result.now c.set_first-else-inside.new.firsts s.method c.args.value v.others.len c.deref_mut-else-inside.ensures.value c.set_first-else-inside.ensures len in
    others_more vs (map valued_of c.push.new.self.items) x fs os (take v.others.len (c.set_first-else-inside.new.firsts ++ drop (length c.set_first-else-inside.new.firsts) os)) more is c.if-inside.false known c.self.invariant
