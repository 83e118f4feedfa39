use Rattle.std.proofs.Common.{◌≡◌, ◌+◌, ℕ, Some, take, take_all, sym, ap, ◌∙◌, subst}
use Rattle.std.specs.List.{AllZip}
use Rattle.class_pool.specs.declared.class.ClassFile.{ClassFile}
use Rattle.class_lookup.specs.Parts.{name_of, package_in}
use Rattle.class_lookup.specs.Numbered.{number_in}
use Rattle.class_lookup.proofs.Numbering.{kept}
use Rattle.class_lookup.proofs.SymbolLemmas.{zip_next, zip_map, zip_at, zip_long}
use Rattle.class_lookup.proofs.NamedLemmas.{packages_are}
use Rattle.class_lookup.proofs.names.packages_of.Goals as goal

pub loop-class-preserved : goal.loop-class-preserved
loop-class-preserved c =
    let cs = c.args.classes.now in
    let i = c.loop-class.class-index in
    let k = c.class-item.result in
    let now = c.loop-class.names in
    let name = c.package_in.result.now in
    let new = c.insert.new.self in
    let rows : AllZip (λ x n. number_in new (package_in (name_of x)) ≡ Some n) (take i cs) c.loop-class.packages.items =
    zip_map (λ x n. number_in now (package_in (name_of x)) ≡ Some n) (λ x n. number_in new (package_in (name_of x)) ≡ Some n)
    (λ x n h. subst (λ ts. number_in ts (package_in (name_of x)) ≡ Some n) (sym c.in_ok-insert.ensures.texts) (kept now name (package_in (name_of x)) n h)) (take i cs) c.loop-class.packages.items c.loop-class.invariant in
    subst (AllZip (λ x n. number_in new (package_in (name_of x)) ≡ Some n) (take (i + 1) cs)) (sym c.in_ok-push.ensures.items)
    (zip_next (λ x n. number_in new (package_in (name_of x)) ≡ Some n) cs i k c.loop-class.packages.items c.in_ok-insert.field-0 c.loop-class-test.true c.class-item.is rows
    (ap (number_in new) (sym (c.package_in.ensures ∙ ap package_in c.name_of.ensures)) ∙ c.in_ok-insert.ensures.number))

pub returns : goal.returns
returns c =
    let cs = c.args.classes.now in
    let R : ClassFile → ℕ → Type 0 = λ x n. number_in c.loop-class.names (package_in (name_of x)) ≡ Some n in
    let rows : AllZip R cs c.loop-class.packages.items = subst (λ xs. AllZip R xs c.loop-class.packages.items) (take_all c.loop-class.class-index cs c.loop-class-test.false) c.loop-class.invariant in
    packages_are cs c.loop-class.names c.loop-class.packages.items (zip_long R cs c.loop-class.packages.items rows) (λ d k at. zip_at R cs c.loop-class.packages.items d k 0 rows at)
