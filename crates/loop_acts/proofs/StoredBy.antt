-- The int that the instructions of a list store.
use Rattle.std.proofs.Common.{◌≡◌, ℕ, ◌<◌, ℤ, List, length, get_or, All, Some, None, sym, ◌∙◌, subst}
use Rattle.std.proofs.lemmas.List.{nil_from_length}
use Rattle.lists.proofs.Lemmas.{none≢some, some_same}
use Rattle.loop_acts.specs.declared.effects.Act.{Act}
use Rattle.loop_acts.specs.Acts.{act_at}
use Rattle.loop_acts.specs.Writing.{IsStoredByAll, StoresAt, stored_by}

module _ (acts : List Act) (places : List ℕ) where
  pub none_stored_by : length places ≡ 0 → IsStoredByAll acts places None
  none_stored_by none c some all = some (nil_from_length places none)

  pub first_unknown : 0 < length places → None ≡ stored_by (act_at acts (get_or places 0 0)) → IsStoredByAll acts places None
  first_unknown lt none c some all = none≢some c (none ∙ all 0 0 lt)

  pub others_stored : 0 < length places → (v : ℤ) → Some v ≡ stored_by (act_at acts (get_or places 0 0)) → (All (StoresAt acts v) places → ⊥) → IsStoredByAll acts places None
  others_stored lt v first none c some all = none (subst (λ (z : ℤ). All (StoresAt acts z) places) (some_same c v (sym (all 0 0 lt) ∙ sym first)) all)
