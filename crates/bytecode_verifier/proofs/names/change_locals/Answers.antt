use Rattle.std.proofs.Common.{◌≡◌, ◌≤◌, ◌-◌, ◌++◌, length, map, take, sym, ap, ◌∙◌, subst, arith}
use Rattle.std.proofs.lemmas.Result.{on_ok_weaker}
use Rattle.std.proofs.lemmas.List.{length-map, map-append}
use Rattle.std.specs.List.{take-map}
use Rattle.frame_types.specs.Frames.{changed}
use Rattle.frame_types.specs.Steps.{named, change_named}
use Rattle.bytecode_verifier.specs.Listed.{HasLocals, words_of, types_by}
use Rattle.bytecode_verifier.specs.Named.{type_by}
use Rattle.bytecode_verifier.proofs.ListedLemmas.{lists_again}
use Rattle.bytecode_verifier.proofs.SteppedLemmas.{same_after, one_after, chop_after, append_after, full_after}
use Rattle.bytecode_verifier.proofs.names.change_locals.Goals as goal

pub returns-in-Same-clause-lists : goal.returns-in-Same-clause-lists
returns-in-Same-clause-lists c = lists_again c.args.lists.now

pub returns-in-OneItem-clause-lists : goal.returns-in-OneItem-clause-lists
returns-in-OneItem-clause-lists c = lists_again c.args.lists.now

pub returns-in-Same-clause-locals : goal.returns-in-Same-clause-locals
returns-in-Same-clause-locals c = λ k before after stack at e fits h.
    subst (λ ts. HasLocals c.args.lists.now c.args.current.now (types_by c.args.of.now.program.now ts)) (same_after k.pool before after stack (ap (λ x. changed (change_named k.pool x) before) (sym c.in-Same.is) ∙ e)) h

pub returns-in-OneItem-clause-locals : goal.returns-in-OneItem-clause-locals
returns-in-OneItem-clause-locals c = λ k before after stack at e fits h.
    subst (λ ts. HasLocals c.args.lists.now c.args.current.now (types_by c.args.of.now.program.now ts)) (one_after k.pool before after stack _ (ap (λ x. changed (change_named k.pool x) before) (sym c.in-OneItem.is) ∙ e)) h

pub returns-in-Chop-clause-locals : goal.returns-in-Chop-clause-locals
returns-in-Chop-clause-locals c = on_ok_weaker c.chop_locals.result (λ p k before after stack at e fits h.
    let cs = c.args.of.now.program.now in
    let r = chop_after k.pool c.in-Chop.count before after stack (ap (λ x. changed (change_named k.pool x) before) (sym c.in-Chop.is) ∙ e) in
    let long = length-map before (type_by cs) in
    let many = r.many in
    let types : take (length (types_by cs before) - c.in-Chop.count) (types_by cs before) ≡ types_by cs after =
    ap (λ n. take (n - c.in-Chop.count) (types_by cs before)) long ∙ (take-map (type_by cs) (length before - c.in-Chop.count) before ∙ ap (types_by cs) r.are) in
    subst (λ ts. HasLocals c.chop_locals.new.lists c.chop_locals.new.current ts) types (p (types_by cs before) (omega (arith, long, many)) h)) c.chop_locals.ensures.locals

pub returns-in-Append-clause-locals : goal.returns-in-Append-clause-locals
returns-in-Append-clause-locals c = on_ok_weaker c.add_locals.result (λ p k before after stack at e fits h.
    let cs = c.args.of.now.program.now in
    let es = c.in-Append.entries in
    let f = append_after k.pool before after stack es (ap (λ x. changed (change_named k.pool x) before) (sym c.in-Append.is) ∙ e) in
    let types : types_by cs before ++ types_by cs (map (named k.pool) c.as_slice.result.now) ≡ types_by cs after =
    ap (λ l. types_by cs before ++ types_by cs (map (named k.pool) l)) c.as_slice.ensures ∙ (sym (map-append (type_by cs) before (map (named k.pool) es)) ∙ ap (types_by cs) f) in
    subst (λ ts. HasLocals c.add_locals.new.lists c.add_locals.new.current ts) types (p k (types_by cs before) at (subst (λ ts. length (words_of ts) ≤ c.args.lists.now.max_locals) (sym types) fits) h)) c.add_locals.ensures.locals

pub returns-in-Full-clause-locals : goal.returns-in-Full-clause-locals
returns-in-Full-clause-locals c = on_ok_weaker c.full_locals.result (λ p k before after stack at e fits h.
    let cs = c.args.of.now.program.now in
    let f = full_after k.pool before after stack c.in-Full.entries _ (ap (λ x. changed (change_named k.pool x) before) (sym c.in-Full.is) ∙ e) in
    let types : types_by cs (map (named k.pool) c.as_slice-in-Full.result.now) ≡ types_by cs after = ap (λ l. types_by cs (map (named k.pool) l)) c.as_slice-in-Full.ensures ∙ ap (types_by cs) f in
    subst (λ ts. HasLocals c.full_locals.new.lists c.full_locals.new.current ts) types (p k at (subst (λ ts. length (words_of ts) ≤ c.args.lists.now.max_locals) (sym types) fits))) c.full_locals.ensures.locals
