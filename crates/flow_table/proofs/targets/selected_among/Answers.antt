use Rattle.std.proofs.Common.{◌≡◌, ◌↔◌, ℕ, ◌<◌, true, false, List, map, length, get_or, Contains, Option, sym, ap, ◌∙◌, subst}
use Rattle.std.specs.Prelude.{slice_get}
use Rattle.std.specs.List.{filter_map}
use Rattle.lists.specs.Lists.{onto}
use Rattle.lists.proofs.Lemmas.{some_is, holds_at}
use Rattle.class_pool.specs.declared.class.ClassFile.{ClassFile}
use Rattle.class_lookup.specs.Lookup.{Place}
use Rattle.class_lookup.specs.Selection.{select}
use Rattle.bytecode_model.specs.Program.{Method}
use Rattle.program_tables.specs.Numbers.{methods_by_number, method_number}
use Rattle.program_tables.specs.Resolved.{resolved_methods, resolved}
use Rattle.flow_table.specs.Receivers.{IsReceiver}
use Rattle.flow_table.specs.Targets.{IsSelectedList}
use Rattle.flow_table.proofs.Making.{receivers_within}
use Rattle.flow_table.proofs.Selecting.{is_selected_list}
use Rattle.flow_table.proofs.targets.selected_among.Goals as goal

pub select_each-requires : goal.select_each-requires
select_each-requires c i lt =
    subst (λ (ks : List ClassFile). get_or c.args.receivers.now i 0 < length ks) (sym c.hierarchy.ensures)
    (receivers_within c.args.program.now c.args.method c.method.result c.args.receivers.now c.method.ensures c.requires.receivers i lt)

pub returns : goal.returns
returns c =
    let cs = c.args.program.now in
    let m = c.args.method in
    let rs = c.args.receivers.now in
    let p = c.method.result in
    let k = some_is (slice_get (resolved_methods cs) m) (λ (k : Method). (k.has_this ≡ true) × (k.is_init ≡ false)) c.requires.is_virtual in
    let places = ap (λ (ks : List ClassFile). map (λ (d : ℕ). select ks d p) rs) c.hierarchy.ensures in
    let numbers = c.in_ok-numbers.ensures ∙ ap (λ (qs : List (Option Place)). filter_map (λ q. onto q (method_number cs)) qs) (c.deref.ensures.value ∙ (c.in_ok-places.ensures ∙ places)) in
    let receivers = holds_at (slice_get (methods_by_number cs) m) p (λ (p : Place). (c : ℕ) → Contains rs c ↔ ((c < length cs) × IsReceiver cs p.0 c)) c.method.ensures c.requires.receivers in
    subst (λ (ts : List ℕ). IsSelectedList (resolved cs) m (Unit {0}) ts) (sym c.new.ensures)
    (is_selected_list cs c.methods_stand_by_number.ensures c.requires.lawful m p c.method.ensures k.0 k.1 k.2.0 k.2.1 rs receivers c.in_ok-numbers.numbers.items c.rising.result.items numbers c.rising.ensures.rising c.rising.ensures.same)
