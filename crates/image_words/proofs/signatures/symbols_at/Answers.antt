use Rattle.std.proofs.Common.{List, length, Some, sym, ap, ◌∙◌}
use Rattle.std.specs.Prelude.{slice_get}
use Rattle.std.proofs.lemmas.Bool.{ltb-true, ltb-false}
use Rattle.std.proofs.lemmas.Option.{slice_get-get_or, slice_get_past}
use Rattle.class_lookup.specs.Lookup.{Place}
use Rattle.class_lookup.specs.Parts.{signature_of}
use Rattle.class_pool.specs.declared.class.Member.{Member}
use Rattle.image_words.specs.Signatures.{symbols_at}
use Rattle.image_words.proofs.MemberLemmas.{signature_some, signature_no_class, signature_no_method}
use Rattle.image_words.proofs.SignatureLemmas.{symbols_are, symbols_none}
use Rattle.image_words.proofs.signatures.symbols_at.Goals as goal

pub returns-in-Some-get : goal.returns-in-Some-get
returns-in-Some-get c =
    let cs = c.args.classes.now in
    let p : Place = (c.place.inside.class, c.place.inside.index) in
    let class = c.in-Some.class.now in
    let method = c.in-Some-get.method.now in
    let h = sym c.in-Some.ensures in
    let methods = c.as_slice.result.now in
    let there = ap (λ (xs : List Member). slice_get xs p.1) (sym c.as_slice.ensures) ∙ (slice_get-get_or methods p.1 method (ltb-true p.1 (length methods) (sym c.in-Some-get.ensures.lookup.0)) ∙ ap Some (sym c.in-Some-get.ensures.lookup.1)) in
    sym (symbols_are cs p (signature_of class method) c.symbol.result c.symbol-in-Some-get.result (signature_some cs p class method h there) (c.symbol.ensures class h) (c.symbol-in-Some-get.ensures class h))
    ∙ ap (symbols_at cs) c.place.view_is

pub returns-in-None-get : goal.returns-in-None-get
returns-in-None-get c =
    let cs = c.args.classes.now in
    let p : Place = (c.place.inside.class, c.place.inside.index) in
    let methods = c.as_slice.result.now in
    let there = ap (λ (xs : List Member). slice_get xs p.1) (sym c.as_slice.ensures) ∙ slice_get_past methods p.1 (ltb-false p.1 (length methods) (sym c.in-None-get.ensures.lookup.0)) in
    sym (symbols_none cs p (signature_no_method cs p c.in-Some.class.now (sym c.in-Some.ensures) there)) ∙ ap (symbols_at cs) c.place.view_is

pub returns-in-None : goal.returns-in-None
returns-in-None c =
    let cs = c.args.classes.now in
    let p : Place = (c.place.inside.class, c.place.inside.index) in
    sym (symbols_none cs p (signature_no_class cs p (sym c.in-None.ensures))) ∙ ap (symbols_at cs) c.place.view_is
