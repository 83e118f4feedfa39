use Rattle.std.proofs.Common.{◌≡◌, ℕ, length, arith, subst}
use Rattle.source_headers.specs.Gathered.{AreBelow, IsFileAt}
use Rattle.source_headers.proofs.FileLemmas.{more_files, all_files, none_with}
use Rattle.source_headers.proofs.gathering.files_of.Goals as goal

pub loop-number-preserved : goal.loop-number-preserved
loop-number-preserved c = record {
  names = more_files c.args.program.now c.loop-number.number c.class.result.now c.loop-number.files.names c.add_file.new.files.names c.class.ensures c.loop-number.invariant.names c.in_ok-add_file.ensures.names;
  sites = none_with c.loop-number.files.sites c.add_file.new.files.sites c.loop-number.invariant.sites c.in_ok-add_file.ensures.sites;
}

pub returns-clause-names : goal.returns-clause-names
returns-clause-names c =
    let cs = c.args.program.now in
    let all : c.loop-number.number ≡ length cs = (let count = c.class_count-number-end.ensures in omega arith) in
    all_files cs c.loop-number.files.names (subst (λ (n : ℕ). AreBelow (IsFileAt cs) n c.loop-number.files.names) all c.loop-number.invariant.names)
