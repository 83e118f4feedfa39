-- What stands behind the pool of a made class has bytes.
use Rattle.std.proofs.Common.{◌≡◌, ℕ, ◌+◌, ◌^◌, ◌<◌, ◌≤◌, cond, List, [], ◌∷◌, ◌++◌, length, Option, Some, None, map, refl, sym, ap, subst, arith, lit<}
use Rattle.std.specs.Prelude.{IfSome}
use Rattle.std.specs.List.{flat_map, AllByRecursion}
use Rattle.std.proofs.lemmas.List.{length-map, length-append}
use Rattle.class_pool.specs.declared.class.Body.TheVariants as bodies
use Rattle.class_pool.specs.declared.kind.Owner.TheVariants as owners
use Rattle.class_pool.specs.declared.kind.Kind.{Kind}
use Rattle.class_pool.specs.declared.kind.Kind.TheVariants as kinds
use Rattle.class_pool.specs.Kind.{is_this_text, kind_of}
use Rattle.class_pool.specs.Spelling.{u2}
use Rattle.class_pool.specs.ClassSpelling.{counted, handler_bytes, named_bytes, body_bytes}
use Rattle.class_pool.specs.Found.{code_of}
use Rattle.class_pool.specs.Structure.{IsHalf, AreCounted, IsNamedInRange, HasCodeRange, HasKind, IsAttribute, HasMemberRange, HasPartsInRange}
use Rattle.class_making.specs.declared.item.Item.{Item}
use Rattle.class_making.specs.declared.item.Item.TheVariants.{Text, Class}
use Rattle.class_making.specs.declared.plan.Piece.{Piece}
use Rattle.class_making.specs.declared.plan.Piece.TheVariants.{Byte, Index}
use Rattle.class_making.specs.declared.plan.CodePlan.{CodePlan}
use Rattle.class_making.specs.declared.plan.FieldPlan.{FieldPlan}
use Rattle.class_making.specs.declared.plan.MethodPlan.{MethodPlan}
use Rattle.class_making.specs.declared.plan.ClassPlan.{ClassPlan}
use Rattle.class_making.specs.Making.{index_of, pool_of}
use Rattle.class_making.specs.Plans.{code_name, stack_map_name, piece_bytes, stack_map_in, code_in, code_attributes, field_in, method_in, class_index, superclass_index, class_in, method_mentions, code_mentions}
use Rattle.class_making.specs.Right.{code_length, IsRightPiece, IsRightCodePlan, HasRightCode, IsRightFieldPlan, IsRightMethodPlan, IsRightPlan}
use Rattle.class_making.specs.Laws.{IsByteCode}
use Rattle.class_making.proofs.ListLemmas.{all_append, all_map, all_then, all_both}
use Rattle.class_making.proofs.PoolLemmas.{Has, index_fits}
use Rattle.class_making.proofs.PoolLaws.{Names, text_found}

-- ---- code

pub pieces_length : (items : List Item) (pieces : List Piece) → length (flat_map (piece_bytes items) pieces) ≡ code_length pieces
pieces_length items [] = refl
pieces_length items (Byte byte ∷ pieces) = let e = pieces_length items pieces in omega (arith, e)
pieces_length items (Index x ∷ pieces) = let e = pieces_length items pieces in omega (arith, e)

index_bytes : (n : ℕ) → AllByRecursion (λ byte. byte < 2 ^ 8) (u2 n)
index_bytes n = (omega arith, (omega arith, tt))

pub pieces_are_bytes : (items : List Item) (pieces : List Piece) → AllByRecursion IsRightPiece pieces → AllByRecursion (λ byte. byte < 2 ^ 8) (flat_map (piece_bytes items) pieces)
pieces_are_bytes items [] r = tt
pieces_are_bytes items (Byte byte ∷ pieces) r = (r.0, pieces_are_bytes items pieces r.1)
pieces_are_bytes items (Index x ∷ pieces) r =
    all_append (λ byte. byte < 2 ^ 8) (u2 (index_of items x)) (flat_map (piece_bytes items) pieces) (index_bytes (index_of items x)) (pieces_are_bytes items pieces r.1)

-- what the code attribute with this table of frames has bytes for
abbrev IsSmall : (code : ℕ) → Option (List ℕ) → Type 0
IsSmall code o = IfSome o (λ bytes. 18 + code + length bytes < 2 ^ 32)

stack_map_fits : (items : List Item) (code : ℕ) (o : Option (List ℕ)) → IsSmall code o → AreCounted IsNamedInRange (stack_map_in items o)
stack_map_fits items code None h = (lit< tt, tt)
stack_map_fits items code (Some bytes) h = (lit< tt, ((index_fits items (Text stack_map_name), omega (arith, h)), tt))

is_code : (items : List Item) (k : CodePlan) → IsRightCodePlan k → HasCodeRange (code_in items k)
is_code items k r = record {
  max_stack = r.max_stack;
  max_locals = r.max_locals;
  length = omega (arith, pieces_length items k.pieces, r.not_long);
  handlers = (lit< tt, tt);
  attributes = stack_map_fits items (code_length k.pieces) k.stack_map r.stack_map;
}

-- the size of the attribute, with a table of frames or none
sized : (items : List Item) (stack locals : ℕ) (code : List ℕ) (o : Option (List ℕ)) → length code ≤ 65535 → IsSmall (length code) o
    → length (body_bytes (bodies.Code (record { max_stack = stack; max_locals = locals; code = code; handlers = []; attributes = stack_map_in items o }))) < 2 ^ 32
sized items stack locals code None long h = omega (arith, length-append code (0 ∷ 0 ∷ 0 ∷ 0 ∷ []), long)
sized items stack locals code (Some bytes) long h =
    let table : List ℕ = counted handler_bytes [] ++ counted named_bytes ((index_of items (Text stack_map_name), bytes) ∷ []) in
    omega (arith, length-append code table, length-append bytes [], h)

code_size : (items : List Item) (k : CodePlan) → IsRightCodePlan k → length (body_bytes (bodies.Code (code_in items k))) < 2 ^ 32
code_size items k r =
    let bytes : List ℕ = flat_map (piece_bytes items) k.pieces in
    let same : length bytes ≡ code_length k.pieces = pieces_length items k.pieces in
    sized items k.max_stack k.max_locals bytes k.stack_map (omega (arith, same, r.not_long)) (subst (λ (n : ℕ). IsSmall n k.stack_map) (sym same) r.stack_map)

code_kind : (items : List Item) → length items ≤ 65534 → Has items (Text code_name) → kind_of owners.Method (pool_of items) (index_of items (Text code_name)) ≡ kinds.Code
code_kind items room h = ap (λ (o : Option (List ℕ)). cond (is_this_text o code_name) kinds.Code kinds.Bytes) (text_found items code_name room h)

-- ---- members

attributes_fit : (items : List Item) (flags : ℕ) (code : Option CodePlan) → length items ≤ 65534 → AllByRecursion (Names items) (code_mentions code) → HasRightCode flags code
    → AreCounted (IsAttribute owners.Method (pool_of items)) (code_attributes items code)
attributes_fit items flags None room h r = (lit< tt, tt)
attributes_fit items flags (Some k) room h r =
    let P : Kind → Type 0 = λ kind. HasKind kind (bodies.Code (code_in items k)) in (
      lit< tt,
      (
        record {
          name = index_fits items (Text code_name);
          size = code_size items k r.2;
          body = subst P (sym (code_kind items room h.0.0)) (is_code items k r.2);
        },
        tt,
      ),
    )

field_fits : (items : List Item) (class_flags : ℕ) (f : FieldPlan) → IsRightFieldPlan class_flags f → HasMemberRange owners.Field (pool_of items) (field_in items f)
field_fits items class_flags f r = record { flags = r.flags; name = index_fits items (Text f.name); descriptor = index_fits items (Text f.descriptor); attributes = (lit< tt, tt) }

method_fits : (items : List Item) (class_flags : ℕ) → length items ≤ 65534 → (m : MethodPlan) → AllByRecursion (Names items) (method_mentions m) × IsRightMethodPlan class_flags m
    → HasMemberRange owners.Method (pool_of items) (method_in items m)
method_fits items class_flags room m h = record {
  flags = h.1.flags;
  name = index_fits items (Text m.name);
  descriptor = index_fits items (Text m.descriptor);
  attributes = attributes_fit items m.flags m.code room h.0.1.1 h.1.code;
}

-- ---- all of it

super_fits : (items : List Item) (superclass : Option (List ℕ)) → IsHalf (superclass_index items superclass)
super_fits items None = lit< tt
super_fits items (Some name) = index_fits items (Class name)

interfaces_fit : (items : List Item) (names : List (List ℕ)) → AllByRecursion IsHalf (map (class_index items) names)
interfaces_fit items [] = tt
interfaces_fit items (name ∷ names) = (index_fits items (Class name), interfaces_fit items names)

pub is_inside : (items : List Item) (p : ClassPlan) → length items ≤ 65534 → AllByRecursion (λ m. AllByRecursion (Names items) (method_mentions m)) p.methods → IsRightPlan p → HasPartsInRange (class_in items p)
is_inside items p room h r = record {
  flags = r.flags;
  this_class = index_fits items (Class p.name);
  super_class = super_fits items p.superclass;
  interfaces = (omega (arith, length-map p.interfaces (class_index items), r.few_interfaces), interfaces_fit items p.interfaces);
  fields = (
    omega (arith, length-map p.fields (field_in items), r.few_fields),
    all_map (HasMemberRange owners.Field (pool_of items)) (field_in items) p.fields (all_then (IsRightFieldPlan p.flags) (λ f. HasMemberRange owners.Field (pool_of items) (field_in items f)) (field_fits items p.flags) p.fields r.fields),
  );
  methods = (
    omega (arith, length-map p.methods (method_in items), r.few_methods),
    all_map (HasMemberRange owners.Method (pool_of items)) (method_in items) p.methods
        (all_then (λ m. AllByRecursion (Names items) (method_mentions m) × IsRightMethodPlan p.flags m) (λ m. HasMemberRange owners.Method (pool_of items) (method_in items m)) (method_fits items p.flags room) p.methods
        (all_both (λ m. AllByRecursion (Names items) (method_mentions m)) (IsRightMethodPlan p.flags) p.methods h r.methods)),
  );
  attributes = (lit< tt, tt);
}

-- ---- the code is bytes

bytes_of : (items : List Item) (class_flags : ℕ) (m : MethodPlan) → IsRightMethodPlan class_flags m → IfSome (code_of (method_in items m)) IsByteCode
bytes_of items class_flags m r = by_code m.code r.code
  where
    by_code : (code : Option CodePlan) → HasRightCode m.flags code
        → IfSome (code_of (record { flags = m.flags; name = index_of items (Text m.name); descriptor = index_of items (Text m.descriptor); attributes = code_attributes items code })) IsByteCode
    by_code None r = tt
    by_code (Some k) r = pieces_are_bytes items k.pieces r.2.pieces

pub have_bytes : (items : List Item) (p : ClassPlan) → IsRightPlan p → AllByRecursion (λ m. IfSome (code_of m) IsByteCode) (map (method_in items) p.methods)
have_bytes items p r =
    all_map (λ m. IfSome (code_of m) IsByteCode) (method_in items) p.methods
    (all_then (IsRightMethodPlan p.flags) (λ m. IfSome (code_of (method_in items m)) IsByteCode) (bytes_of items p.flags) p.methods r.methods)
