-- How what is told goes on over several calls.
use Rattle.std.specs.Prelude.{◌≡◌, List, [], ◌++◌}
use Rattle.std.specs.declared.option.Option.{Option}
use Rattle.std.proofs.Common.{sym, ap, ◌∙◌, append_assoc, append-nil}
use Rattle.base.specs.Telling.{Grew}

-- Nothing added leaves what is told.
abbrev pub NothingIsAdded : Type 0 → Type 0
NothingIsAdded A = (old : Option (List A)) → Grew old old []

-- What is added first and what is added then are added together.
abbrev pub AdditionsJoin : Type 0 → Type 0
AdditionsJoin A = (old mid new : Option (List A)) (xs ys zs : List A) → Grew old mid xs → Grew mid new ys → zs ≡ xs ++ ys → Grew old new zs

pub Grew-refl : {A : Type 0} → NothingIsAdded A
Grew-refl {A} old = record { grown = λ ys e. (ys, e, sym (append-nil ys)) }

pub Grew-trans : {A : Type 0} → AdditionsJoin A
Grew-trans {A} old mid new xs ys zs first second all = record {
  grown = λ held e.
      let between = second.grown held e in
      let before = first.grown between.0 between.1 in
      (before.0, before.1, between.2 ∙ ap (λ t. t ++ ys) before.2 ∙ append_assoc before.0 xs ys ∙ ap (λ t. before.0 ++ t) (sym all));
}
