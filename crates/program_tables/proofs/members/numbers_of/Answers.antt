use Rattle.std.proofs.Common.{◌≡◌, ◌+◌, ◌++◌, ◌∷◌, [], true, not, length-take, get_or, take, sym, ap, ◌∙◌, subst, arith}
use Rattle.std.specs.Prelude.{is_some}
use Rattle.std.specs.Map.{lookup}
use Rattle.std.proofs.lemmas.Grind.{take_at_read}
use Rattle.class_lookup.proofs.Overriding.{place_same}
use Rattle.lists.proofs.Lookups.{copied_none, copied_some}
use Rattle.indexmap.proofs.CallerLemmas.{insert_entry-new}
use Rattle.bytecode_model.specs.Lists.{index_of}
use Rattle.class_lookup.specs.Lookup.{Place, same_place}
use Rattle.program_tables.proofs.ListLemmas.{found_new, found_old}
use Rattle.program_tables.proofs.members.numbers_of.Goals as goal
use Rattle.program_tables.proofs.members.numbers_of.Goals.{then-is_none+in_ok-insert, else-is_none}

pub loop-i-preserved : goal.loop-i-preserved
loop-i-preserved c q =
    let ps = c.args.places.now in
    let i = c.loop-i.i in
    let p : Place = get_or ps i (0, 0) in
    let es = c.loop-i.numbers.entries in
    let lt = c.loop-i-test.true in
    let long = length-take i ps in
    let one : take (i + 1) ps ≡ take i ps ++ p ∷ [] = (take_at_read ps i (0, 0) lt).1 in
    let h = c.loop-i.invariant q in
    elim c.if-is_none.branch [
      | then-is_none+in_ok-insert w ↦
          let absent = sym c.get.ensures.value ∙ copied_none c.get.result (c.is_none.ensures ∙ ap not w.if-is_none.true) in
          let entries = w.in_ok-insert.ensures.entries ∙ insert_entry-new same_place c.loop-i.numbers p i absent in
          ap (λ n. lookup (same_place q) n.entries) w.numbers-is
          ∙ (ap (lookup (same_place q)) entries
          ∙ (found_new (same_place q) es (take i ps) p i h (omega (arith, long, lt)) ∙ ap (index_of (same_place q)) (sym one)))
      | else-is_none w ↦
          let there = ap is_some (sym c.get.ensures.value) ∙ copied_some c.get.result (c.is_none.ensures ∙ ap not w.if-is_none.false) in
          let found = ap is_some (sym (c.loop-i.invariant p)) ∙ there in
          ap (λ n. lookup (same_place q) n.entries) w.numbers-is
          ∙ (found_old (same_place q) es (take i ps) p h (λ e. subst (λ (x : Place). is_some (index_of (same_place x) (take i ps)) ≡ true) (sym (place_same q p e)) found)
          ∙ ap (index_of (same_place q)) (sym one))
    ]
