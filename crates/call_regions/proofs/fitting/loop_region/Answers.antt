use Rattle.call_regions.proofs.Sorting.{if_ok}
use Rattle.call_regions.proofs.Answering.{loop_answer, of_table}
use Rattle.call_regions.proofs.fitting.loop_region.Goals as goal

pub returns-clause-region : goal.returns-clause-region
returns-clause-region c =
    if_ok c.answer.result _ _
    (λ r a P flow. loop_answer P c.args.f.now flow c.runs_are_calls.ensures c.args.block_words c.args.blocks c.args.m c.args.members.now c.in_ok-search.search r c.in_ok-search.ensures a)
    c.answer.ensures

pub returns-clause-known : goal.returns-clause-known
returns-clause-known c = if_ok c.answer.result _ _ (λ r a. of_table c.args.f.now c.args.block_words c.args.blocks c.in_ok-search.search r c.in_ok-search.ensures.search a) c.answer.ensures
