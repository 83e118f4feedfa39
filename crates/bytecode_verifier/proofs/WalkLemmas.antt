-- A walk, one place after another.
use Rattle.std.proofs.Common.{◌≡◌, ℕ, ◌+◌, ◌<◌, ◌≤◌, Bool, true, List, ◌∷◌, length, drop, get_or, drop-cons, add-one, Option, Some, None, Ok, Err, refl, sym, ap, ◌∙◌, find}
use Rattle.std.specs.Prelude.{if◌then◌else◌}
use Rattle.std.proofs.Math.ListN.{drop_of_length-le}
use Rattle.bytecode_model.specs.Program.{Program, Method, Body}
use Rattle.bytecode_typing.specs.Types.{TypeFrame}
use Rattle.bytecode_typing.specs.Rules.{Rule}
use Rattle.bytecode_typing.specs.Walk as walk
use Rattle.bytecode_typing.specs.Walk.{Verdict, Walked, with_frame, unless_failed, verdict_at}
use Rattle.bytecode_verifier.specs.Failure.{Walk, walk_failure}
use Rattle.bytecode_verifier.specs.Place.{behind}

drop_step : {A : Type 0} (xs : List A) (i : ℕ) (d : A) → i < length xs → drop i xs ≡ get_or xs i d ∷ drop (i + 1) xs
drop_step xs i d h = drop-cons xs i d h ∙ ap (λ n. get_or xs i d ∷ drop n xs) (sym (add-one i))

with_failure : (pc : ℕ) (f : TypeFrame) (w : Walked) → walk_failure (with_frame pc f w) ≡ walk_failure w
with_failure pc f (walk.Failed place r) = refl
with_failure pc f (walk.Frames fs) = refl

passed : (pc : ℕ) (v : Verdict) (go : Option TypeFrame → Walked) (after : Option TypeFrame) → Ok after ≡ behind v → walk_failure (unless_failed pc v go) ≡ walk_failure (go after)
passed pc (walk.Breaks r) go after e = cc
passed pc (walk.Passes f other) go after e = let same : other ≡ after = cc in with_failure pc f (go other) ∙ ap (λ a. walk_failure (go a)) same

broken : (pc : ℕ) (v : Verdict) (go : Option TypeFrame → Walked) (r : Rule) → Err r ≡ behind v → walk_failure (unless_failed pc v go) ≡ Some (pc, Walk r)
broken pc (walk.Breaks s) go r e = let same : s ≡ r = cc in ap (λ x. Some (pc, Walk x)) same
broken pc (walk.Passes f other) go r e = cc

pub walk_passes : (P : Program) (n : ℕ) (m : Method) (b : Body) (maps : ℕ → Option TypeFrame) (xs : List ℕ) (i d : ℕ) (falling after : Option TypeFrame) → i < length xs → Ok after ≡ behind (verdict_at P n m b maps (get_or xs i d) falling)
    → walk_failure (walk.walk P n m b maps (drop (i + 1) xs) after) ≡ walk_failure (walk.walk P n m b maps (drop i xs) falling)
walk_passes P n m b maps xs i d falling after h e =
    sym (ap (λ l. walk_failure (walk.walk P n m b maps l falling)) (drop_step xs i d h)
    ∙ passed (get_or xs i d) (verdict_at P n m b maps (get_or xs i d) falling) (λ a. walk.walk P n m b maps (drop (i + 1) xs) a) after e)

pub walk_breaks : (P : Program) (n : ℕ) (m : Method) (b : Body) (maps : ℕ → Option TypeFrame) (xs : List ℕ) (i d : ℕ) (falling : Option TypeFrame) (r : Rule) → i < length xs → Err r ≡ behind (verdict_at P n m b maps (get_or xs i d) falling)
    → Some (get_or xs i d, Walk r) ≡ walk_failure (walk.walk P n m b maps (drop i xs) falling)
walk_breaks P n m b maps xs i d falling r h e =
    sym (ap (λ l. walk_failure (walk.walk P n m b maps l falling)) (drop_step xs i d h)
    ∙ broken (get_or xs i d) (verdict_at P n m b maps (get_or xs i d) falling) (λ a. walk.walk P n m b maps (drop (i + 1) xs) a) r e)

pub walk_ends : (P : Program) (n : ℕ) (m : Method) (b : Body) (maps : ℕ → Option TypeFrame) (xs : List ℕ) (i : ℕ) (falling : Option TypeFrame) → length xs ≤ i → None ≡ walk_failure (walk.walk P n m b maps (drop i xs) falling)
walk_ends P n m b maps xs i falling h = sym (ap (λ l. walk_failure (walk.walk P n m b maps l falling)) (drop_of_length-le xs h))

-- ---- the first of some places

pub finds_here : (test : ℕ → Bool) (xs : List ℕ) (i d : ℕ) → i < length xs → test (get_or xs i d) ≡ true → find test (drop i xs) ≡ Some (get_or xs i d)
finds_here test xs i d h e = ap (find test) (drop_step xs i d h) ∙ ap (λ b. if b then Some (get_or xs i d) else find test (drop (i + 1) xs)) e

pub finds_none : (test : ℕ → Bool) (xs : List ℕ) (i : ℕ) → length xs ≤ i → find test (drop i xs) ≡ None
finds_none test xs i h = ap (find test) (drop_of_length-le xs h)
