use Rattle.std.proofs.Common.{sym, ◌∙◌, ap, map, arith, rules}
use Rattle.report_lines.specs.Entries.{key_of}
use Rattle.report_lines.specs.contracts.key.KeyPartialEq.TheImpl.{eq-value}
use Rattle.report_lines.proofs.JoinLemmas.{is_set, is_pushed, keys_are_with}
use Rattle.report_lines.proofs.entries.add_row.Goals as goal

pub overflow_add-index_mut : goal.overflow_add-index_mut
overflow_add-index_mut c = let small = c.requires.small c.index_mut.result.now (c.in_ok-index.index, omega arith, sym c.index_mut.ensures.value) in search (rules, small)

pub returns-then-index-len-clause-entries : goal.returns-then-index-len-clause-entries
returns-then-index-len-clause-entries c = λ source keys key.
    is_set eq-value.it (λ a b. search rules) source c.args.entries.now.items c.args.row c.args.keys.now.keys c.args.key keys key
    c.in_ok-index.index c.in_ok-index.ensures.index c.index_mut.result.now c.index_mut.ensures.value (omega arith)

pub returns-then-index-len-clause-keys : goal.returns-then-index-len-clause-keys
returns-then-index-len-clause-keys c = λ source keys key.
    let es = c.args.entries.now.items in
    let is = is_set eq-value.it (λ a b. search rules) source es c.args.row c.args.keys.now.keys c.args.key keys key
    c.in_ok-index.index c.in_ok-index.ensures.index c.index_mut.result.now c.index_mut.ensures.value (omega arith) in
    keys_are_with eq-value.it (λ a b. search rules) source es c.args.row c.args.keys.now.keys c.args.key keys key c.insert_full.new.self.keys c.in_ok-index.ensures.keys
    ∙ ap (map (key_of source)) (sym is)

pub returns-in_ok-push-clause-entries : goal.returns-in_ok-push-clause-entries
returns-in_ok-push-clause-entries c = λ source keys key.
    c.in_ok-push.ensures.items
    ∙ is_pushed eq-value.it (λ a b. search rules) source c.args.entries.now.items c.args.row c.args.keys.now.keys c.args.key keys key
    c.in_ok-index.index c.in_ok-index.ensures.index (omega arith)
