use Rattle.work_gen.proofs.Texts.{line_joined}
use Rattle.work_gen.proofs.bounds.put_bound.Goals as goal

pub returns : goal.returns
returns c =
    line_joined c.args.k _ _ _ _ _ _ c.in_ok-extend_from_slice.ensures.items c.in_ok-put_u64.ensures.written c.in_ok-extend_from_slice-2.ensures.items c.in_ok-put_u64-2.ensures.written c.in_ok-push.ensures.items
