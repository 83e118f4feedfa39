-- A method of a program as it is checked.
use Rattle.std.proofs.Common.{◌≡◌, ℕ, map, Option, Some, sym, ap, ◌∙◌, subst}
use Rattle.std.specs.Prelude.{slice_get}
use Rattle.std.specs.Option.{option_map, IsSomeAnd}
use Rattle.class_pool.specs.declared.class.Code.{Code}
use Rattle.program_tables.specs.declared.operand.MethodShape.{MethodShape}
use Rattle.program_tables.specs.Laws.{MethodsStandByNumber}
use Rattle.program_tables.specs.Meanings.{handler_seen, declared_seen, HasShape}
use Rattle.program_tables.specs.Resolved.{handler_of, resolved}
use Rattle.bytecode_typing.specs.Types.{TypeFrame}
use Rattle.verifier_types.specs.Locals.{LocalTable, lists_seen}
use Rattle.bytecode_verifier.specs.declared.rows.Checking.{Checking}
use Rattle.bytecode_verifier.specs.Handled.{HoldAlike}
use Rattle.bytecode_verifier.specs.Maps.{AreGiven}
use Rattle.bytecode_verifier.specs.Methods.{IsCodeOf, method_of, body_of}
use Rattle.bytecode_verifier.specs.Place.{HasCode, IsMethodOf}
use Rattle.bytecode_verifier.proofs.MethodLemmas.{method_is, body_there}

pub some_at : {A : Type 0} (o : Option A) (P : A → Type 0) (x : A) → o ≡ Some x → IsSomeAnd o P → P x
some_at o P x e h = subst (λ z. IsSomeAnd z P) e h

pub has_shape : MethodsStandByNumber → (x : Checking) (n : ℕ) (k : Code) (h : IsCodeOf x.program.now n k) (shape : MethodShape) → IsSomeAnd (slice_get (resolved x.program.now).methods n) (HasShape shape) → HasShape shape (method_of x.program.now n k h)
has_shape law x n k h shape s = some_at (slice_get (resolved x.program.now).methods n) (HasShape shape) (method_of x.program.now n k h) (method_is law x.program.now n k h) s

pub has_this_code : MethodsStandByNumber → (x : Checking) (n : ℕ) (k : Code) → IsCodeOf x.program.now n k → x.code.now ≡ k.code → HasCode x n
has_this_code law x n k h e = record { body = body_of x.program.now n k h; there = body_there law x.program.now n k h; code = sym e }

-- what the parts are from which it is checked
pub record HasParts (x : Checking) (n : ℕ) (k : Code) (h : IsCodeOf x.program.now n k) (s : MethodShape) : Type 0 where
  pub classes : x.around.classes.now ≡ x.program.now
  pub owner : x.around.owner ≡ h.place.0
  pub init : x.around.is_init ≡ s.is_init
  pub stands : x.around.number ≡ n
  pub locals : k.max_locals ≡ x.max_locals
  pub stack : k.max_stack ≡ x.max_stack
  pub code : x.code.now ≡ k.code
  pub handlers : HoldAlike (map (handler_of x.program.now h.class) k.handlers) (map handler_seen x.handlers.now.items.items)
  pub shape : IsSomeAnd (slice_get (resolved x.program.now).methods n) (HasShape s)
  pub result : x.result ≡ s.result

pub is_method : MethodsStandByNumber → (x : Checking) (n : ℕ) (k : Code) (h : IsCodeOf x.program.now n k) (shape : MethodShape) → HasParts x n k h shape
    → (given : ℕ → Option TypeFrame) (t : LocalTable) → t.classes ≡ x.program.now → AreGiven (lists_seen t) x.maps.now given → IsMethodOf t x n (method_of x.program.now n k h) (body_of x.program.now n k h) given
is_method law x n k h shape p given t e same = record {
  classes = e;
  around = p.classes;
  owner = sym p.owner;
  init = (has_shape law x n k h shape p.shape).is_init ∙ sym p.init;
  stands = p.stands;
  maps = same;
  locals = p.locals;
  stack = p.stack;
  code = sym p.code;
  handlers = p.handlers;
  result = (has_shape law x n k h shape p.shape).result ∙ ap (option_map declared_seen) (sym p.result);
}
