use Rattle.code_scan.proofs.naming.length_at.Goals as goal

pub decode-requires-clause-inside : goal.decode-requires-clause-inside
decode-requires-clause-inside c = (c.starts_follow_one_another.ensures c.args.code.now).within_code c.args.pc c.requires.start
