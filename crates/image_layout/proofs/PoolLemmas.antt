-- The words of a pool, entry by entry.
use Rattle.std.proofs.Common.{◌≡◌, ℕ, ◌+◌, List, ◌++◌, append-nil, sym, ap, ◌∙◌}
use Rattle.std.specs.List.{flat_map, range_with_len}
use Rattle.class_pool.specs.declared.class.ClassFile.{ClassFile}
use Rattle.image_words.specs.Layout.{outline_of}
use Rattle.image_words.specs.Pools.{no_words, entry_words}
use Rattle.image_builder.proofs.ListLemmas.{range_flat}
use Rattle.image_layout.proofs.EntryLemmas.{first_words}

pub pool_more : (cs : List ClassFile) (c : ℕ) (k : ClassFile) (place index : ℕ) (before old new pair : List ℕ) → old ≡ before ++ flat_map (entry_words cs (outline_of cs) c k) (range_with_len 0 (place + 1)) → index ≡ place + 1
    → pair ≡ entry_words cs (outline_of cs) c k index → new ≡ old ++ pair → new ≡ before ++ flat_map (entry_words cs (outline_of cs) c k) (range_with_len 0 (place + 1 + 1))
pool_more cs c k place index before old new pair h i p e =
    range_flat (entry_words cs (outline_of cs) c k) (place + 1) before old new h (e ∙ ap (λ ws. old ++ ws) (p ∙ ap (entry_words cs (outline_of cs) c k) i))

pub pool_first : (cs : List ClassFile) (c : ℕ) (k : ClassFile) (before new : List ℕ) → new ≡ before ++ no_words → new ≡ before ++ flat_map (entry_words cs (outline_of cs) c k) (range_with_len 0 1)
pool_first cs c k before new e = e ∙ ap (λ ws. before ++ ws) (first_words cs c k ∙ sym (append-nil (entry_words cs (outline_of cs) c k 0)))
