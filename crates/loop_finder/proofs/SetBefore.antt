-- The constant that a local variable is set to before a loop, by the last write on the one way in.
use Rattle.std.proofs.Common.{◌≡◌, ℕ, ◌<◌, ℤ, List, length, get_or, Option, Some, None, refl, sym, ap, ◌∙◌, subst}
use Rattle.lists.proofs.Lemmas.{none≢some, some_same}
use Rattle.loop_nest.specs.Digraph.{Digraph}
use Rattle.loop_acts.specs.declared.effects.Act.{Act}
use Rattle.loop_acts.specs.declared.effects.Act.TheVariants as does
use Rattle.loop_acts.specs.Acts.{act_at}
use Rattle.loop_acts.specs.Writing.{IsOnly, WritesAt, stored_by}
use Rattle.loop_finder.specs.Setting.{IsOnlyEntry, IsSetTo, LastWriteFrom, AreWritesBefore, IsFirstWrite}
use Rattle.loop_finder.proofs.LastWrites.{last_one}

pub stored_cases : (a : Act) (c : ℤ) → stored_by a ≡ Some c → (j : ℕ) × (a ≡ does.Set j (Some c))
stored_cases (does.Set j None) c e = absurd (none≢some c e)
stored_cases (does.Set j (Some d)) c e = (j, ap (λ (z : ℤ). does.Set j (Some z)) (some_same d c e))
stored_cases _ c e = absurd (none≢some c e)

pub no_store : (a : Act) → ((k : ℕ) (o : Option ℤ) → a ≡ does.Set k o → ⊥) → None ≡ stored_by a
no_store (does.Set k o) never = absurd (never k o refl)
no_store _ never = refl

module _ (acts : List Act) (g : Digraph) (h k entry place : ℕ) (only : IsOnlyEntry g h entry) (last : LastWriteFrom acts g k entry place) where
  stored : (c : ℤ) → IsSetTo acts g h k c → stored_by (act_at acts place) ≡ Some c
  stored c s =
      let source : s.source ≡ entry = only.alone s.source s.entry.enters in
      let same : s.place ≡ place = last_one acts g k source s.last last in
      sym (ap (λ (p : ℕ). stored_by (act_at acts p)) same) ∙ ap stored_by s.store

  pub set_of : (o : Option ℤ) → o ≡ stored_by (act_at acts place) → IsOnly (IsSetTo acts g h k) o
  set_of None e = λ c s. none≢some c (e ∙ stored c s)
  set_of (Some c) e =
      let act = stored_cases (act_at acts place) c (sym e) in
      (record { source = entry; entry = only; place = place; last = last; stored = act.0; store = act.1 }, λ d s. some_same d c (sym (stored d s) ∙ sym e))

-- ---- by the writes before the loop

module _ (acts : List Act) (g : Digraph) (h k entry : ℕ) (places : List ℕ) (only : IsOnlyEntry g h entry) (before : AreWritesBefore acts g entry places) where
  pub no_write : ((i : ℕ) → i < length places → ¬ WritesAt acts k (get_or places i 0)) → IsOnly (IsSetTo acts g h k) None
  no_write free c s = before.none k free s.place (subst (λ (u : ℕ). LastWriteFrom acts g k u s.place) (only.alone s.source s.entry.enters) s.last)

  pub first_is_last : (p : ℕ) → IsFirstWrite acts k places p → LastWriteFrom acts g k entry p
  first_is_last p f = subst (LastWriteFrom acts g k entry) f.is (before.first k f.index f.below (subst (WritesAt acts k) (sym f.is) f.writes) f.before)
