use Rattle.std.proofs.Common.{◌≡◌, ◌≤◌, List, ℕ, length, sym, ◌∙◌, subst, arith}
use Rattle.core_classes.specs.Core.{boot}
use Rattle.program_resolution.specs.Linked.{calls_of}
use Rattle.program_resolution.proofs.RefusalLemmas.{few_calls}
use Rattle.program_resolution.proofs.LinkingLemmas.{calls_are, all_made, few_made}
use Rattle.program_resolution.proofs.resolving.linked_classes.Goals as goal

pub before_boot-requires : goal.before_boot-requires
before_boot-requires c =
    let ks = c.args.files.items in
    let ok = c.args.files.ok in
    let count = c.len-count.ensures in
    let n : c.len-count.result ≡ length ks = omega arith in
    let calls = c.deref.ensures.value ∙ (c.in_ok-calls.ensures ∙ calls_are ks c.in_ok-classes.classes c.len-count.result (c.in_ok-classes.ensures ∙ c.in_ok-listed.ensures) n) in
    subst (λ (xs : List (List ℕ)). length xs ≤ 10000) (sym calls) (few_calls c.core_is_named.ensures ks)

pub returns-clause-all : goal.returns-clause-all
returns-clause-all c =
    let ks = c.args.files.items in
    let ok = c.args.files.ok in
    let count = c.len-count.ensures in
    let n : c.len-count.result ≡ length ks = omega arith in
    let classes = c.in_ok-classes.ensures ∙ c.in_ok-listed.ensures in
    let calls = c.deref.ensures.value ∙ (c.in_ok-calls.ensures ∙ calls_are ks c.in_ok-classes.classes c.len-count.result classes n) in
    all_made ks c.into_classes.result.items c.deref.result.now (calls_of ks) c.args.main.now c.before_boot.result (c.into_classes.ensures ∙ classes) calls c.before_boot.ensures

pub returns-clause-few : goal.returns-clause-few
returns-clause-few c =
    let ks = c.args.files.items in
    let ok = c.args.files.ok in
    let count = c.len-count.ensures in
    let n : c.len-count.result ≡ length ks = omega arith in
    let few : length ks ≤ 4000000000 = (let most = c.if-count-gt4000000000.false in omega arith) in
    let classes = c.in_ok-classes.ensures ∙ c.in_ok-listed.ensures in
    let calls = c.deref.ensures.value ∙ (c.in_ok-calls.ensures ∙ calls_are ks c.in_ok-classes.classes c.len-count.result classes n) in
    few_made c.core_is_named.ensures ks (boot (calls_of ks) c.args.main.now) c.before_boot.result few
    (all_made ks c.into_classes.result.items c.deref.result.now (calls_of ks) c.args.main.now c.before_boot.result (c.into_classes.ensures ∙ classes) calls c.before_boot.ensures)
