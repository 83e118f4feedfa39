use Rattle.std.proofs.Common.{◌≡◌, ℕ, List, Contains, sym, ap, ◌∙◌, subst}
use Rattle.lists.proofs.Lemmas.{some_is}
use Rattle.opcodes.specs.Start.{starts_of}
use Rattle.bytecode_model.specs.Program.{Body, body_of}
use Rattle.program_tables.specs.Resolved.{resolved}
use Rattle.loop_rules.specs.Sites.{SitesOf, AreSitesOf, int_at}
use Rattle.program_sites.specs.Ints.Places.{AreIntsOf, constant_read}
use Rattle.program_sites.specs.Ints.Rows.{pushed_at}
use Rattle.program_sites.proofs.IntsLemmas.Lining.{are_sites}
use Rattle.program_sites.proofs.ints.sites.sites_of.Goals as goal

pub ints_pushed-requires-clause-within : goal.ints_pushed-requires-clause-within
ints_pushed-requires-clause-within c p has =
    (c.starts_follow_one_another.ensures c.args.code.now).within_code p (subst (λ (ps : List ℕ). Contains ps p) (c.deref.ensures.value ∙ c.in_ok-starts.ensures) has)

pub constants_read-requires-clause-within : goal.constants_read-requires-clause-within
constants_read-requires-clause-within c p has =
    (c.starts_follow_one_another.ensures c.args.code.now).within_code p (subst (λ (ps : List ℕ). Contains ps p) (c.deref-2.ensures.value ∙ c.in_ok-starts.ensures) has)

pub returns : goal.returns
returns c =
    let P = resolved c.args.program.now in
    let m = c.args.method in
    let constants = int_at c.args.constants.now in
    let b = some_is (body_of P m) (λ (x : Body). x.code ≡ c.args.code.now) c.requires.code in
    let first = c.deref.ensures.value ∙ c.in_ok-starts.ensures ∙ ap starts_of (sym b.2) in
    let second = c.deref-2.ensures.value ∙ c.in_ok-starts.ensures ∙ ap starts_of (sym b.2) in
    let pushed = subst (λ (ps : List ℕ). AreIntsOf (pushed_at P m) ps c.in_ok-pushed.pushed.items) first c.in_ok-pushed.ensures in
    let fields = subst (λ (ps : List ℕ). AreIntsOf (constant_read P constants m) ps c.in_ok-fields.fields.items) second c.in_ok-fields.ensures in
    subst (λ (x : SitesOf). AreSitesOf P constants m x) (sym c.new.ensures) (are_sites P m b.0 b.1 constants c.in_ok-pushed.pushed.items c.in_ok-fields.fields.items pushed fields)
