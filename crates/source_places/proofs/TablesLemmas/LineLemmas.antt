-- The tables of a code, one more at a time.
use Rattle.std.proofs.Common.{◌≡◌, ℕ, ◌+◌, ◌<◌, Bool, true, false, cond, List, [], ◌∷◌, ◌++◌, length, get_or, take, append-nil, sym, ap, ◌∙◌}
use Rattle.std.specs.Prelude.{codes}
use Rattle.std.specs.List.{flat_map}
use Rattle.std.proofs.lemmas.Grind.{take_at_read}
use Rattle.lists.proofs.FirstLemmas.{flat_map-more}
use Rattle.class_pool.specs.declared.entry.Entry.{Entry}
use Rattle.class_pool.specs.Kind.{is_named}
use Rattle.source_places.specs.Tables.Lines.{starts_by, table_starts}

module _ (pool : List Entry) (all : List (ℕ × List ℕ)) (i : ℕ) (item : ℕ × List ℕ) (lt : i < length all) (is : item ≡ get_or all i item) where
  next : flat_map (starts_by pool) (take (i + 1) all) ≡ flat_map (starts_by pool) (take i all) ++ starts_by pool item
  next =
      ap (flat_map (starts_by pool)) ((take_at_read all i item lt).1 ∙ ap (λ (x : ℕ × List ℕ). take i all ++ x ∷ []) (sym is))
      ∙ flat_map-more (starts_by pool) (take i all) item

  -- with the starts of a table
  pub with_table : is_named pool item.0 (codes "LineNumberTable") ≡ true → flat_map (starts_by pool) (take (i + 1) all) ≡ flat_map (starts_by pool) (take i all) ++ table_starts item.1
  with_table named = next ∙ ap (λ (t : Bool). flat_map (starts_by pool) (take i all) ++ cond t (table_starts item.1) []) named

  -- with an attribute of another name
  pub with_other : is_named pool item.0 (codes "LineNumberTable") ≡ false → flat_map (starts_by pool) (take (i + 1) all) ≡ flat_map (starts_by pool) (take i all)
  with_other named =
      next ∙ (ap (λ (t : Bool). flat_map (starts_by pool) (take i all) ++ cond t (table_starts item.1) []) named ∙ append-nil (flat_map (starts_by pool) (take i all)))
