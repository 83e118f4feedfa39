-- What resolution gives of each instruction's row, by the table of instructions.
use Rattle.std.proofs.Common.{◌≡◌, ℕ, Bool, true, false, eqb, List, [], ◌∷◌, ◌++◌, Option, Some, None, pos, negsuc, refl, sym, subst, arith}
use Rattle.std.specs.Prelude.{slice_get, IfSome, FitsSigned, if◌then◌else◌}
use Rattle.std.specs.Int.{w32, w64}
use Rattle.std.specs.Option.{IsSomeAnd}
use Rattle.std.specs.List.{list_any, AllByRecursion}
use Rattle.std.proofs.lemmas.Int.{fits_signed_from_abs}
use Rattle.std.proofs.lemmas.Bool.{eqb-true}
use Rattle.opcodes.specs.declared.instruction.Instr.{Instr}
use Rattle.bytecode_model.specs.declared.Value.TheVariants.{Ref}
use Rattle.bytecode_model.specs.Lists.{onto, natural}
use Rattle.bytecode_model.specs.Types.{IntType, LongType, Numbers, References, Kind, OfClass, OfNumbers, OfReferences, t_boolean, t_char, t_byte, t_short, t_int, t_long}
use Rattle.bytecode_model.specs.Program.{Program, Method, Operand, NoOperand, AnInt, ALong, AString, AStatic, AField, AMethod, AType, type_number}
use Rattle.bytecode_model.specs.Rows as rows
use Rattle.bytecode_model.specs.Rows.{Row}
use Rattle.bytecode_model.specs.Table as table
use Rattle.bytecode_model.specs.Table.{Meaning, constants, loads, stores, stack, math, conversions, comparisons, control, references, extended, reserved, instructions, row_among, row_of}
use Rattle.bytecode_typing.specs.Lawful.{IsThere, IsConstant, IsStaticCall, IsSpecialCall, IsVirtualCall, IsInterfaceCall, IsFieldOf, IsResolvedRow}

-- ---- what an operand gives to the instructions that take it

pub record CallFits (P : Program) (m : Method) (op named method : ℕ) : Type 0 where
  pub virtual : op ≡ 182 → IsSomeAnd (slice_get P.methods method) (IsVirtualCall P named)
  pub special : op ≡ 183 → IsSomeAnd (slice_get P.methods method) (IsSpecialCall P m named)
  pub static : op ≡ 184 → IsSomeAnd (slice_get P.methods method) IsStaticCall
  pub interface : op ≡ 185 → IsSomeAnd (slice_get P.methods method) IsInterfaceCall

abbrev pub NewFits : Program → Kind → Type 0
NewFits P (OfClass c) = (P.is_concrete c ≡ true) × IsThere (type_number P (OfClass c))
NewFits P (OfNumbers code) = Unit {0}
NewFits P (OfReferences k) = Unit {0}

pub record TypeFits (P : Program) (op : ℕ) (k : Kind) : Type 0 where
  pub made : op ≡ 187 → NewFits P k
  pub array : op ≡ 189 → IsThere (type_number P (OfReferences k))

abbrev pub OperandFits : Program → Method → (op : ℕ) → Operand → Type 0
OperandFits P m op NoOperand = Unit {0}
OperandFits P m op (AnInt n) = FitsSigned w32 n
OperandFits P m op (ALong n) = FitsSigned w64 n
OperandFits P m op (AString p) = IsConstant P (Ref p)
OperandFits P m op (AStatic f) = Unit {0}
OperandFits P m op (AField named owner k) = IsFieldOf P named owner
OperandFits P m op (AMethod named method) = CallFits P m op named method
OperandFits P m op (AType k) = TypeFits P op k

-- the arrays of numbers have types
abbrev pub HasNumbers : Program → Type 0
HasNumbers P = (code : ℕ) → list_any (λ c. eqb c code) (t_boolean ∷ t_char ∷ t_byte ∷ t_short ∷ t_int ∷ t_long ∷ []) ≡ true → IsThere (type_number P (OfNumbers code))

module _ (P : Program) (m : Method) (numbers : HasNumbers P) where
  abbrev Good : Meaning → Type 0
  Good k = (code : List ℕ) (i : Instr) (o : Operand) → k.opcode ≡ i.op → FitsSigned w32 i.first → OperandFits P m i.op o → IfSome (k.row code i o) (IsResolvedRow P m)

  -- of what resolution says nothing
  abbrev Plain : Meaning → Type 0
  Plain k = (code : List ℕ) (i : Instr) (o : Operand) → IfSome (k.row code i o) (IsResolvedRow P m)

  local : (o : Option ℕ) (r : ℕ → Row) → ((k : ℕ) → IsResolvedRow P m (r k)) → IfSome (onto o (λ k. Some (r k))) (IsResolvedRow P m)
  local None r h = tt
  local (Some k) r h = h k

  -- lookupswitch has a row only where its number of pairs isn't negative
  pairs_counted : (o : Option ℕ) (r : Option Row) → IfSome r (IsResolvedRow P m) → IfSome (onto o (λ pairs. r)) (IsResolvedRow P m)
  pairs_counted None r h = tt
  pairs_counted (Some pairs) r h = h

  newarray_case : (code : ℕ) (b : Bool) → list_any (λ c. eqb c code) (t_boolean ∷ t_char ∷ t_byte ∷ t_short ∷ t_int ∷ t_long ∷ []) ≡ b → IfSome (if b then Some (rows.NewNumbers code) else None) (IsResolvedRow P m)
  newarray_case code true h = numbers code h
  newarray_case code false h = tt

  newarray : (o : Option ℕ) → IfSome (onto o (λ a. if list_any (λ c. eqb c a) (t_boolean ∷ t_char ∷ t_byte ∷ t_short ∷ t_int ∷ t_long ∷ []) then Some (rows.NewNumbers a) else None)) (IsResolvedRow P m)
  newarray None = tt
  newarray (Some a) = newarray_case a (list_any (λ c. eqb c a) (t_boolean ∷ t_char ∷ t_byte ∷ t_short ∷ t_int ∷ t_long ∷ [])) refl

  a_constant : (code : List ℕ) (i : Instr) (o : Operand) → OperandFits P m i.op o → IfSome (table.constant code i o) (IsResolvedRow P m)
  a_constant code i NoOperand g = tt
  a_constant code i (AnInt n) g = g
  a_constant code i (ALong n) g = tt
  a_constant code i (AString p) g = g
  a_constant code i (AStatic f) g = tt
  a_constant code i (AField named owner k) g = tt
  a_constant code i (AMethod named method) g = tt
  a_constant code i (AType k) g = tt

  a_long : (code : List ℕ) (i : Instr) (o : Operand) → OperandFits P m i.op o → IfSome (table.long_constant code i o) (IsResolvedRow P m)
  a_long code i NoOperand g = tt
  a_long code i (AnInt n) g = tt
  a_long code i (ALong n) g = g
  a_long code i (AString p) g = tt
  a_long code i (AStatic f) g = tt
  a_long code i (AField named owner k) g = tt
  a_long code i (AMethod named method) g = tt
  a_long code i (AType k) g = tt

  a_static : (r : ℕ → Row) → ((f : ℕ) → IsResolvedRow P m (r f)) → (code : List ℕ) (i : Instr) (o : Operand) → IfSome (table.by_static r code i o) (IsResolvedRow P m)
  a_static r h code i NoOperand = tt
  a_static r h code i (AnInt n) = tt
  a_static r h code i (ALong n) = tt
  a_static r h code i (AString p) = tt
  a_static r h code i (AStatic f) = h f
  a_static r h code i (AField named owner k) = tt
  a_static r h code i (AMethod named method) = tt
  a_static r h code i (AType k) = tt

  a_field : (r : ℕ → ℕ → ℕ → Row) → ((named owner k : ℕ) → IsFieldOf P named owner → IsResolvedRow P m (r named owner k)) → (code : List ℕ) (i : Instr) (o : Operand) → OperandFits P m i.op o → IfSome (table.by_field r code i o) (IsResolvedRow P m)
  a_field r h code i NoOperand g = tt
  a_field r h code i (AnInt n) g = tt
  a_field r h code i (ALong n) g = tt
  a_field r h code i (AString p) g = tt
  a_field r h code i (AStatic f) g = tt
  a_field r h code i (AField named owner k) g = h named owner k g
  a_field r h code i (AMethod named method) g = tt
  a_field r h code i (AType k) g = tt

  a_method : (r : ℕ → ℕ → Row) (op : ℕ) → ((named method : ℕ) → CallFits P m op named method → IsResolvedRow P m (r named method)) → (code : List ℕ) (i : Instr) (o : Operand) → op ≡ i.op → OperandFits P m i.op o → IfSome (table.by_method r code i o) (IsResolvedRow P m)
  a_method r op h code i NoOperand e g = tt
  a_method r op h code i (AnInt n) e g = tt
  a_method r op h code i (ALong n) e g = tt
  a_method r op h code i (AString p) e g = tt
  a_method r op h code i (AStatic f) e g = tt
  a_method r op h code i (AField named owner k) e g = tt
  a_method r op h code i (AMethod named method) e g = h named method (subst (λ x. CallFits P m x named method) (sym e) g)
  a_method r op h code i (AType k) e g = tt

  a_type : (r : Kind → Row) (op : ℕ) → ((k : Kind) → TypeFits P op k → IsResolvedRow P m (r k)) → (code : List ℕ) (i : Instr) (o : Operand) → op ≡ i.op → OperandFits P m i.op o → IfSome (table.by_type r code i o) (IsResolvedRow P m)
  a_type r op h code i NoOperand e g = tt
  a_type r op h code i (AnInt n) e g = tt
  a_type r op h code i (ALong n) e g = tt
  a_type r op h code i (AString p) e g = tt
  a_type r op h code i (AStatic f) e g = tt
  a_type r op h code i (AField named owner k) e g = tt
  a_type r op h code i (AMethod named method) e g = tt
  a_type r op h code i (AType k) e g = h k (subst (λ x. TypeFits P x k) (sym e) g)

  a_class : (code : List ℕ) (i : Instr) (o : Operand) → 187 ≡ i.op → OperandFits P m i.op o → IfSome (table.by_class rows.New code i o) (IsResolvedRow P m)
  a_class code i NoOperand e g = tt
  a_class code i (AnInt n) e g = tt
  a_class code i (ALong n) e g = tt
  a_class code i (AString p) e g = tt
  a_class code i (AStatic f) e g = tt
  a_class code i (AField named owner k) e g = tt
  a_class code i (AMethod named method) e g = tt
  a_class code i (AType (OfClass c)) e g = g.made (sym e)
  a_class code i (AType (OfNumbers a)) e g = tt
  a_class code i (AType (OfReferences k)) e g = tt

  good_constants : AllByRecursion Good constants
  good_constants = (
    (λ code i o e f g. tt),
    (
      (λ code i o e f g. tt),
      (
        (λ code i o e f g. fits_signed_from_abs w32 (negsuc 0) (omega arith)),
        (
          (λ code i o e f g. fits_signed_from_abs w32 (pos 0) (omega arith)),
          (
            (λ code i o e f g. fits_signed_from_abs w32 (pos 1) (omega arith)),
            (
              (λ code i o e f g. fits_signed_from_abs w32 (pos 2) (omega arith)),
              (
                (λ code i o e f g. fits_signed_from_abs w32 (pos 3) (omega arith)),
                (
                  (λ code i o e f g. fits_signed_from_abs w32 (pos 4) (omega arith)),
                  (
                    (λ code i o e f g. fits_signed_from_abs w32 (pos 5) (omega arith)),
                    (
                      (λ code i o e f g. fits_signed_from_abs w64 (pos 0) (omega arith)),
                      (
                        (λ code i o e f g. fits_signed_from_abs w64 (pos 1) (omega arith)),
                        (
                          (λ code i o e f g. f),
                          (
                            (λ code i o e f g. f),
                            (
                              (λ code i o e f g. a_constant code i o g),
                              (
                                (λ code i o e f g. a_constant code i o g),
                                ((λ code i o e f g. a_long code i o g), tt),
                              ),
                            ),
                          ),
                        ),
                      ),
                    ),
                  ),
                ),
              ),
            ),
          ),
        ),
      ),
    ),
  )

  good_loads : AllByRecursion Good loads
  good_loads = (
    (λ code i o e f g. local (natural i.first) (rows.Load (Numbers IntType)) (λ k. tt)),
    (
      (λ code i o e f g. local (natural i.first) (rows.Load (Numbers LongType)) (λ k. tt)),
      (
        (λ code i o e f g. local (natural i.first) (rows.Load References) (λ k. tt)),
        (
          (λ code i o e f g. tt),
          (
            (λ code i o e f g. tt),
            (
              (λ code i o e f g. tt),
              (
                (λ code i o e f g. tt),
                (
                  (λ code i o e f g. tt),
                  (
                    (λ code i o e f g. tt),
                    (
                      (λ code i o e f g. tt),
                      (
                        (λ code i o e f g. tt),
                        (
                          (λ code i o e f g. tt),
                          (
                            (λ code i o e f g. tt),
                            (
                              (λ code i o e f g. tt),
                              (
                                (λ code i o e f g. tt),
                                (
                                  (λ code i o e f g. tt),
                                  (
                                    (λ code i o e f g. tt),
                                    (
                                      (λ code i o e f g. tt),
                                      (
                                        (λ code i o e f g. tt),
                                        (
                                          (λ code i o e f g. tt),
                                          ((λ code i o e f g. tt), tt),
                                        ),
                                      ),
                                    ),
                                  ),
                                ),
                              ),
                            ),
                          ),
                        ),
                      ),
                    ),
                  ),
                ),
              ),
            ),
          ),
        ),
      ),
    ),
  )

  good_stores : AllByRecursion Good stores
  good_stores = (
    (λ code i o e f g. local (natural i.first) (rows.Store (Numbers IntType)) (λ k. tt)),
    (
      (λ code i o e f g. local (natural i.first) (rows.Store (Numbers LongType)) (λ k. tt)),
      (
        (λ code i o e f g. local (natural i.first) (rows.Store References) (λ k. tt)),
        (
          (λ code i o e f g. tt),
          (
            (λ code i o e f g. tt),
            (
              (λ code i o e f g. tt),
              (
                (λ code i o e f g. tt),
                (
                  (λ code i o e f g. tt),
                  (
                    (λ code i o e f g. tt),
                    (
                      (λ code i o e f g. tt),
                      (
                        (λ code i o e f g. tt),
                        (
                          (λ code i o e f g. tt),
                          (
                            (λ code i o e f g. tt),
                            (
                              (λ code i o e f g. tt),
                              (
                                (λ code i o e f g. tt),
                                (
                                  (λ code i o e f g. tt),
                                  (
                                    (λ code i o e f g. tt),
                                    (
                                      (λ code i o e f g. tt),
                                      (
                                        (λ code i o e f g. tt),
                                        (
                                          (λ code i o e f g. tt),
                                          ((λ code i o e f g. tt), tt),
                                        ),
                                      ),
                                    ),
                                  ),
                                ),
                              ),
                            ),
                          ),
                        ),
                      ),
                    ),
                  ),
                ),
              ),
            ),
          ),
        ),
      ),
    ),
  )

  good_stack : AllByRecursion Good stack
  good_stack = (
    (λ code i o e f g. tt),
    (
      (λ code i o e f g. tt),
      (
        (λ code i o e f g. tt),
        (
          (λ code i o e f g. tt),
          (
            (λ code i o e f g. tt),
            (
              (λ code i o e f g. tt),
              (
                (λ code i o e f g. tt),
                (
                  (λ code i o e f g. tt),
                  ((λ code i o e f g. tt), tt),
                ),
              ),
            ),
          ),
        ),
      ),
    ),
  )

  good_math : AllByRecursion Good math
  good_math = (
    (λ code i o e f g. tt),
    (
      (λ code i o e f g. tt),
      (
        (λ code i o e f g. tt),
        (
          (λ code i o e f g. tt),
          (
            (λ code i o e f g. tt),
            (
              (λ code i o e f g. tt),
              (
                (λ code i o e f g. tt),
                (
                  (λ code i o e f g. tt),
                  (
                    (λ code i o e f g. tt),
                    (
                      (λ code i o e f g. tt),
                      (
                        (λ code i o e f g. tt),
                        (
                          (λ code i o e f g. tt),
                          (
                            (λ code i o e f g. tt),
                            (
                              (λ code i o e f g. tt),
                              (
                                (λ code i o e f g. tt),
                                (
                                  (λ code i o e f g. tt),
                                  (
                                    (λ code i o e f g. tt),
                                    (
                                      (λ code i o e f g. tt),
                                      (
                                        (λ code i o e f g. tt),
                                        (
                                          (λ code i o e f g. tt),
                                          (
                                            (λ code i o e f g. tt),
                                            ((λ code i o e f g. local (natural i.first) (λ k. rows.Increment k i.second) (λ k. tt)), tt),
                                          ),
                                        ),
                                      ),
                                    ),
                                  ),
                                ),
                              ),
                            ),
                          ),
                        ),
                      ),
                    ),
                  ),
                ),
              ),
            ),
          ),
        ),
      ),
    ),
  )

  good_conversions : AllByRecursion Good conversions
  good_conversions = (
    (λ code i o e f g. tt),
    (
      (λ code i o e f g. tt),
      (
        (λ code i o e f g. tt),
        (
          (λ code i o e f g. tt),
          ((λ code i o e f g. tt), tt),
        ),
      ),
    ),
  )

  good_comparisons : AllByRecursion Good comparisons
  good_comparisons = (
    (λ code i o e f g. tt),
    (
      (λ code i o e f g. tt),
      (
        (λ code i o e f g. tt),
        (
          (λ code i o e f g. tt),
          (
            (λ code i o e f g. tt),
            (
              (λ code i o e f g. tt),
              (
                (λ code i o e f g. tt),
                (
                  (λ code i o e f g. tt),
                  (
                    (λ code i o e f g. tt),
                    (
                      (λ code i o e f g. tt),
                      (
                        (λ code i o e f g. tt),
                        (
                          (λ code i o e f g. tt),
                          (
                            (λ code i o e f g. tt),
                            (
                              (λ code i o e f g. tt),
                              ((λ code i o e f g. tt), tt),
                            ),
                          ),
                        ),
                      ),
                    ),
                  ),
                ),
              ),
            ),
          ),
        ),
      ),
    ),
  )

  good_control : AllByRecursion Good control
  good_control = (
    (λ code i o e f g. tt),
    (
      (λ code i o e f g. tt),
      (
        (λ code i o e f g. pairs_counted (natural i.second) (table.switch code i o) tt),
        (
          (λ code i o e f g. tt),
          (
            (λ code i o e f g. tt),
            (
              (λ code i o e f g. tt),
              ((λ code i o e f g. tt), tt),
            ),
          ),
        ),
      ),
    ),
  )

  good_references : AllByRecursion Good references
  good_references = (
    (λ code i o e f g. a_static rows.GetStatic (λ k. tt) code i o),
    (
      (λ code i o e f g. a_static rows.PutStatic (λ k. tt) code i o),
      (
        (λ code i o e f g. a_field rows.GetField (λ named owner k h. h) code i o g),
        (
          (λ code i o e f g. a_field rows.PutField (λ named owner k h. h) code i o g),
          (
            (λ code i o e f g. a_method rows.CallVirtual 182 (λ named method h. h.virtual refl) code i o e g),
            (
              (λ code i o e f g. a_method rows.CallSpecial 183 (λ named method h. h.special refl) code i o e g),
              (
                (λ code i o e f g. a_method (λ named m. rows.CallStatic m) 184 (λ named method h. h.static refl) code i o e g),
                (
                  (λ code i o e f g. a_method rows.CallInterface 185 (λ named method h. h.interface refl) code i o e g),
                  (
                    (λ code i o e f g. a_class code i o e g),
                    (
                      (λ code i o e f g. newarray (natural i.first)),
                      (
                        (λ code i o e f g. a_type rows.NewReferences 189 (λ k h. h.array refl) code i o e g),
                        (
                          (λ code i o e f g. tt),
                          (
                            (λ code i o e f g. tt),
                            (
                              (λ code i o e f g. a_type rows.Cast 192 (λ k h. tt) code i o e g),
                              (
                                (λ code i o e f g. a_type rows.Test 193 (λ k h. tt) code i o e g),
                                (
                                  (λ code i o e f g. tt),
                                  ((λ code i o e f g. tt), tt),
                                ),
                              ),
                            ),
                          ),
                        ),
                      ),
                    ),
                  ),
                ),
              ),
            ),
          ),
        ),
      ),
    ),
  )

  good_extended : AllByRecursion Good extended
  good_extended = (
    (λ code i o e f g. tt),
    (
      (λ code i o e f g. tt),
      ((λ code i o e f g. tt), tt),
    ),
  )

  good_reserved : AllByRecursion Good reserved
  good_reserved = (
    (λ code i o e f g. tt),
    ((λ code i o e f g. tt), tt),
  )

  append : (xs ys : List Meaning) → AllByRecursion Good xs → AllByRecursion Good ys → AllByRecursion Good (xs ++ ys)
  append [] ys a b = b
  append (x ∷ xs) ys a b = (a.0, append xs ys a.1 b)

  good : AllByRecursion Good instructions
  good = append (constants ++ loads ++ stores ++ stack ++ math ++ conversions ++ comparisons ++ control ++ references ++ extended) reserved (append (constants ++ loads ++ stores ++ stack ++ math ++ conversions ++ comparisons ++ control ++ references) extended (append (constants ++ loads ++ stores ++ stack ++ math ++ conversions ++ comparisons ++ control) references (append (constants ++ loads ++ stores ++ stack ++ math ++ conversions ++ comparisons) control (append (constants ++ loads ++ stores ++ stack ++ math ++ conversions) comparisons (append (constants ++ loads ++ stores ++ stack ++ math) conversions (append (constants ++ loads ++ stores ++ stack) math (append (constants ++ loads ++ stores) stack (append (constants ++ loads) stores (append (constants) loads (good_constants) good_loads) good_stores) good_stack) good_math) good_conversions) good_comparisons) good_control) good_references) good_extended) good_reserved

  among_case : (k : Meaning) (ks : List Meaning) (code : List ℕ) (i : Instr) (o : Operand) (b : Bool) → eqb k.opcode i.op ≡ b → Good k → FitsSigned w32 i.first → OperandFits P m i.op o → IfSome (row_among ks code i o) (IsResolvedRow P m)
      → IfSome (if b then k.row code i o else row_among ks code i o) (IsResolvedRow P m)
  among_case k ks code i o true e g f h later = g code i o (eqb-true k.opcode i.op e) f h
  among_case k ks code i o false e g f h later = later

  among : (ks : List Meaning) (code : List ℕ) (i : Instr) (o : Operand) → AllByRecursion Good ks → FitsSigned w32 i.first → OperandFits P m i.op o → IfSome (row_among ks code i o) (IsResolvedRow P m)
  among [] code i o a f h = tt
  among (k ∷ ks) code i o a f h = among_case k ks code i o (eqb k.opcode i.op) refl a.0 f h (among ks code i o a.1 f h)

  -- what an operand gives is what its instruction's row asks for
  pub row_fits : (code : List ℕ) (i : Instr) (o : Operand) → FitsSigned w32 i.first → OperandFits P m i.op o → IfSome (row_of code i o) (IsResolvedRow P m)
  unfolding row_of
  row_fits code i o f h = among instructions code i o good f h
