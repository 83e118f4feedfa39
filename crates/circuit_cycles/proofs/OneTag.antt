-- No two tags stand for one method where no load is under way.
use Rattle.std.proofs.Common.{◌≡◌, List, sym, ap, subst, ◌∙◌, arith}
use Rattle.method_cache.specs.Contents.{Entry, AreApart, first_block}
use Rattle.circuit_cycles.specs.Tags.{BlockTag}
use Rattle.circuit_cycles.specs.Methods.{BeginsIn}
use Rattle.circuit_cycles.specs.Stands.{HasCache, HasRing}
use Rattle.circuit_cycles.specs.Laws.{MethodsHaveOneTag}
use Rattle.circuit_cycles.proofs.Entries.{is_same}

pub one_tag : MethodsHaveOneTag
one_tag shape c s stands off i j t u at there begins starts same =
    let has : HasCache shape c s = subst (λ b. HasRing b shape c s) off stands.ring in
    let one : BeginsIn s.cache i t = has.methods.others i t at begins (omega arith) in
    let two : BeginsIn s.cache j u = has.methods.others j u there starts (omega arith) in
    let method : one.method.method ≡ two.method.method =
    sym (ap (λ (k : BlockTag). k.method) one.own) ∙ same ∙ ap (λ (k : BlockTag). k.method) two.own in
    let equal = is_same one.newer one.method one.older two.newer two.method two.older (subst AreApart one.split stands.is_cache.apart) (sym one.split ∙ two.split) method in
    one.place ∙ ap (λ (es : List Entry). first_block es one.method s.cache) equal.newer_is ∙ ap (λ (e : Entry). first_block two.newer e s.cache) equal.entry_is ∙ sym two.place
