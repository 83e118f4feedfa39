use Rattle.std.proofs.Common.{◌≡◌, ◌+◌, ◌≤◌, List, length, sym, ap, ◌∙◌, subst, arith}
use Rattle.std.specs.Option.{option_copied}
use Rattle.lists.proofs.Lemmas.{some_in}
use Rattle.bytecode_model.specs.Program.{Body, body_of}
use Rattle.program_tables.specs.Numbers.{methods_by_number}
use Rattle.program_tables.specs.Resolved.{resolved}
use Rattle.loop_rules.specs.Sites.{SitesOf, int_at}
use Rattle.program_sites.specs.Ints.Constants.{AreSitesBelow}
use Rattle.program_sites.proofs.IntsLemmas.Coding.{body_of_code, none_past}
use Rattle.program_sites.proofs.IntsLemmas.Leaving.{is_there, no_sites, more_sites, all_sites}
use Rattle.program_sites.proofs.ints.sites.method_sites.Goals as goal

pub loop-number-init : goal.loop-number-init
loop-number-init c =
    let P = resolved c.args.program.now in
    let constants = int_at c.args.constants.now in
    subst (λ (ms : List SitesOf). AreSitesBelow P constants 0 ms) (sym c.new-methods.ensures.items) (no_sites P constants)

pub sites_of-requires-clause-code : goal.sites_of-requires-clause-code
sites_of-requires-clause-code c =
    let cs = c.args.program.now in
    let n = c.loop-number.number in
    let b = body_of_code c.methods_stand_by_number.ensures cs n c.in-Some.code.now (sym c.code.ensures.code ∙ ap option_copied c.in-Some.is) in
    some_in (body_of (resolved cs) n) b.body (λ (x : Body). x.code ≡ c.as_slice.result.now) b.is_body (b.code ∙ sym c.as_slice.ensures)

pub loop-number-preserved : goal.loop-number-preserved
loop-number-preserved c =
    let cs = c.args.program.now in
    let n = c.loop-number.number in
    let constants = int_at c.args.constants.now in
    let b = body_of_code c.methods_stand_by_number.ensures cs n c.in-Some.code.now (sym c.code.ensures.code ∙ ap option_copied c.in-Some.is) in
    subst (λ (ms : List SitesOf). AreSitesBelow (resolved cs) constants (n + 1) ms) (sym c.in_ok-push.ensures.items)
    (more_sites (resolved cs) constants n _ _ c.loop-number.invariant (is_there (body_of (resolved cs) n) b.body b.is_body) c.in_ok-sites_of.ensures)

pub returns-in_default : goal.returns-in_default
returns-in_default c =
    all_sites c.methods_stand_by_number.ensures c.args.program.now (int_at c.args.constants.now) c.loop-number.number _ (sym c.code.ensures.code ∙ ap option_copied c.in_default.is) c.loop-number.invariant

pub returns : goal.returns
returns c =
    let cs = c.args.program.now in
    let n = c.loop-number.number in
    let past : length (methods_by_number c.args.program.now) ≤ c.loop-number.number = (let e = c.method_count-number-end.ensures in let t = c.loop-number-test.false in omega arith) in
    all_sites c.methods_stand_by_number.ensures cs (int_at c.args.constants.now) n _ (none_past cs n past) c.loop-number.invariant
