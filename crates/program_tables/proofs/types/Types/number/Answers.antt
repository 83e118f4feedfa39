use Rattle.std.proofs.Common.{◌≡◌, List, ℕ, Bool, Option, map, sym, ap, ◌∙◌, rules}
use Rattle.std.specs.Prelude.{position}
use Rattle.std.specs.Bool.{Decides}
use Rattle.bytecode_model.specs.Lists.{index_of}
use Rattle.bytecode_model.specs.Types.{same_kind}
use Rattle.program_tables.specs.contracts.kinds.ObjectKindPartialEq.TheImpl.{eq-value}
use Rattle.program_tables.specs.declared.kinds.ObjectKind.{ObjectKind}
use Rattle.program_tables.specs.Tables.{kind_seen}
use Rattle.program_tables.proofs.ListLemmas.{position_is, index_of-same, index_of-map}
use Rattle.program_tables.proofs.MentionLemmas.{kind_eq}
use Rattle.program_tables.proofs.types.Types.number.Goals as goal

found : (eq : ObjectKind → ObjectKind → Bool) → ((x y : ObjectKind) → Decides (eq x y) (x ≡ y)) → (kind : ObjectKind) (kinds : List ObjectKind) (o : Option ℕ) → o ≡ position (eq kind) kinds
    → o ≡ index_of (same_kind (kind_seen kind)) (map kind_seen kinds)
found eq decides kind kinds o h =
    h ∙ (position_is (eq kind) kinds
    ∙ (index_of-same (eq kind) (λ k. same_kind (kind_seen kind) (kind_seen k)) (kind_eq eq decides kind) kinds ∙ index_of-map (same_kind (kind_seen kind)) kind_seen kinds))

pub returns-in-Some : goal.returns-in-Some
returns-in-Some c =
    sym c.in-Some.is ∙ (found eq-value.it (λ a b. search rules) c.args.kind c.self.inside.kinds.keys c.get_index_of.result c.get_index_of.ensures.index
    ∙ ap (λ (ks : List ObjectKind). index_of (same_kind (kind_seen c.args.kind)) (map kind_seen ks)) c.self.view_is)

pub returns-in-None : goal.returns-in-None
returns-in-None c =
    sym c.in-None.is ∙ (found eq-value.it (λ a b. search rules) c.args.kind c.self.inside.kinds.keys c.get_index_of.result c.get_index_of.ensures.index
    ∙ ap (λ (ks : List ObjectKind). index_of (same_kind (kind_seen c.args.kind)) (map kind_seen ks)) c.self.view_is)
