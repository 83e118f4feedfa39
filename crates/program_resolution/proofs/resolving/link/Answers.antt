use Rattle.std.proofs.Common.{◌≡◌, length, ◌∙◌, arith}
use Rattle.program_resolution.specs.Refusals.{refusals}
use Rattle.program_resolution.specs.Linking.{AreAccepted, IsLinked, IsFirstOr, refusals_of}
use Rattle.program_resolution.proofs.ResolvedLemmas.{Laws}
use Rattle.program_resolution.proofs.LinkingLemmas.{named_by, declared_by, to_link, is_linked, is_first, if_linked, if_refused}
use Rattle.program_resolution.proofs.resolving.link.Goals as goal

pub program_of-requires : goal.program_of-requires
program_of-requires c =
    let ks = c.args.files.items in
    let main = c.args.main.now in
    let e = c.linking_laws.ensures in
    let laws : Laws = record { core_linkable = e.core_linkable; core_first = e.core_first; core_supported = e.core_supported; core_grammar = e.core_grammar; core_bytes = e.core_bytes; core_named = e.core_named; boot_linkable = e.boot_linkable; boot_supported = e.boot_supported; boot_grammar = e.boot_grammar; boot_says = e.boot_says; boot_off_cycle = e.boot_off_cycle } in
    let ok = c.args.files.ok in
    let count = c.len-count.ensures in
    let n : c.len-count.result ≡ length ks = omega arith in
    to_link laws c.methods_have_code.ensures ks c.requires.grammar c.requires.bytes main c.in_ok-classes.classes c.len-count.result c.in_ok-class.class.name c.in_ok-class.class.declares_main
    (c.in_ok-class.ensures.name ∙ named_by main c.deref.ensures.value) (c.in_ok-classes.ensures ∙ c.in_ok-all.ensures.all) n (c.in_ok-class.ensures.declares ∙ declared_by main c.deref.ensures.value)

pub returns-clause-linked : goal.returns-clause-linked
returns-clause-linked c =
    let ks = c.args.files.items in
    let main = c.args.main.now in
    let cs = c.in_ok-classes.classes in
    let class = c.in_ok-class.class in
    let e = c.linking_laws.ensures in
    let laws : Laws = record { core_linkable = e.core_linkable; core_first = e.core_first; core_supported = e.core_supported; core_grammar = e.core_grammar; core_bytes = e.core_bytes; core_named = e.core_named; boot_linkable = e.boot_linkable; boot_supported = e.boot_supported; boot_grammar = e.boot_grammar; boot_says = e.boot_says; boot_off_cycle = e.boot_off_cycle } in
    let ok = c.args.files.ok in
    let count = c.len-count.ensures in
    let n : c.len-count.result ≡ length ks = omega arith in
    if_linked (AreAccepted cs c.len-count.result class.declares_main) (IsLinked ks main) c.program_of.result
    (λ made h. is_linked laws c.methods_have_code.ensures ks c.requires.grammar c.requires.bytes main cs c.len-count.result class.name class.declares_main (c.in_ok-class.ensures.name ∙ named_by main c.deref.ensures.value)
    (c.in_ok-classes.ensures ∙ c.in_ok-all.ensures.all) n (c.in_ok-class.ensures.declares ∙ declared_by main c.deref.ensures.value) made h) c.program_of.ensures.linked

pub returns-clause-refused : goal.returns-clause-refused
returns-clause-refused c =
    let ks = c.args.files.items in
    let main = c.args.main.now in
    let cs = c.in_ok-classes.classes in
    let class = c.in_ok-class.class in
    let e = c.linking_laws.ensures in
    let laws : Laws = record { core_linkable = e.core_linkable; core_first = e.core_first; core_supported = e.core_supported; core_grammar = e.core_grammar; core_bytes = e.core_bytes; core_named = e.core_named; boot_linkable = e.boot_linkable; boot_supported = e.boot_supported; boot_grammar = e.boot_grammar; boot_says = e.boot_says; boot_off_cycle = e.boot_off_cycle } in
    let ok = c.args.files.ok in
    let count = c.len-count.ensures in
    let n : c.len-count.result ≡ length ks = omega arith in
    if_refused (IsFirstOr (refusals_of cs c.len-count.result class.declares_main)) (IsFirstOr (refusals ks main)) c.program_of.result
    (λ r h. is_first laws c.methods_have_code.ensures ks c.requires.grammar c.requires.bytes main cs c.len-count.result class.name class.declares_main (c.in_ok-class.ensures.name ∙ named_by main c.deref.ensures.value)
    (c.in_ok-classes.ensures ∙ c.in_ok-all.ensures.all) n (c.in_ok-class.ensures.declares ∙ declared_by main c.deref.ensures.value) r h) c.program_of.ensures.refused
