use Rattle.std.proofs.Common.{ℕ, List, sym, subst}
use Rattle.method_flow.specs.declared.flow.Call.{Call}
use Rattle.call_regions.specs.Tables.{IsTargetAt, RunsAt}
use Rattle.call_regions.proofs.Growing.{on_ok, finds_same}
use Rattle.call_regions.proofs.Answering.{whole, runs_at, at_runs}
use Rattle.call_regions.proofs.fitting.fill_members.Goals as goal

pub returns : goal.returns
returns c =
    let f = c.args.f.now in
    let w = c.args.cache.block_words in
    let most = c.args.cache.blocks in
    let m = c.args.m in
    let members = c.args.members.now in
    let calls = c.calls_of.result.now in
    let has = c.calls_of.ensures.calls in
    let T : ℕ → List Call → Type 0 = λ x ks. IsTargetAt f ks members x in
    let first =
    finds_same f w most (IsTargetAt f calls members) (RunsAt f m members) c.args.s.now c.add_members.new.s c.in_ok-add_members.ensures
    (λ x t. runs_at f m x members has.code (subst (T x) has.are t))
    (λ x r. subst (T x) (sym has.are) (at_runs f m x members has.code.method has.code.is r))
    in
    on_ok c.add_reached.result (λ found. whole f w most m (RunsAt f m members) c.args.s.now c.add_members.new.s c.add_reached.new.s c.requires.first first found) c.add_reached.ensures
